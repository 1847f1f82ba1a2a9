-- What a change is told of a drawing whose rings have one face each, and what it keeps of it.
use Rattle.std.proofs.Common.{◌≡◌, ◌≤◌, refl, true, List, length}
use Rattle.std.specs.List.{Contains}
use Rattle.topo_base.specs.declared.rows.Counters.{Counters}
use Rattle.topo_base.specs.declared.rows.LayerRow.{LayerRow}
use Rattle.topo_base.specs.declared.rows.FeatureRow.{FeatureRow}
use Rattle.topo_base.specs.declared.rows.RelationRow.{RelationRow}
use Rattle.drawing.specs.Drawing.{Drawing, Edge, node_id_of, is_isolated}
use Rattle.drawing.specs.PlainInOrder.{IsPlainInOrder}
use Rattle.drawing.specs.Subdivision.{rings_have_one_face}
use Rattle.drawing.proofs.Members.{ids_differ}
use Rattle.edit_changes.proofs.LongLines.{from_all}
use Rattle.edit_changes.proofs.PlainStaying.{HasPlain}
use Rattle.face_rings.specs.FaceBorder.{HasRings}
use Rattle.face_rings.proofs.FaceBorders.{has_plain_lines}
use Rattle.face_rings.proofs.HalfLines.{HasPlainLines}
use Rattle.ring_laws.specs.Ringed.{IsRinged}
use Rattle.ring_laws.proofs.Known.{IsKnown, known_of, known_kept, edges_known, nodes_known}

-- what each change keeps, where the lines after it are plain
pub record AreRinged (T : Drawing) : Type 0 where
  pub one_face : rings_have_one_face T ≡ true
  pub known : IsKnown T

pub record IsBefore (S : Drawing) : Type 0 where
  pub ordered : IsPlainInOrder S
  pub lines : HasPlainLines S
  pub ringed : AreRinged S

pub plain_lines : (S : Drawing) → HasPlain S → ((e : Edge) → Contains S.edges e → 2 ≤ length e.geom) → HasPlainLines S
plain_lines S h long = record { plain = h.parts; node_ids = ids_differ node_id_of 0 S.next_ids.node S.nodes h.ids; edge_ids = h.edge_ids; long = long }

pub rings_from : (S : Drawing) → IsBefore S → HasRings S
rings_from S h = record { plain = h.ordered; lines = from_all S.edges (record { each = h.lines.long }); one_face = h.ringed.one_face }

pub before_of : (S : Drawing) → IsRinged S → IsBefore S
before_of S h = record {
  ordered = h.rings.plain;
  lines = has_plain_lines S h.rings;
  ringed = record { one_face = h.rings.one_face; known = known_of S h.universe h.edges h.nodes };
}

pub ringed_from : (T : Drawing) → IsBefore T → IsRinged T
ringed_from T h =
    let known = h.ringed.known in
    record { rings = rings_from T h; universe = known.universe; edges = edges_known T h.lines known; nodes = nodes_known T known }

-- nodes, edges and faces are as they were
pub aside : (S : Drawing) (layers : List LayerRow) (features : List FeatureRow) (relations : List RelationRow) (ids : Counters) → IsBefore S
    → AreRinged (record S { layers = layers; features = features; relations = relations; next_ids = ids })
aside S layers features relations ids h =
    let T = record S { layers = layers; features = features; relations = relations; next_ids = ids } in
    let known = h.ringed.known in
    record {
      one_face = h.ringed.one_face;
      known = record { universe = known.universe; sides = known.sides; nodes = λ n c. known_kept S T n.containing_face (is_isolated S n.node_id) (is_isolated S n.node_id) refl (λ f t. t) (known.nodes n c) };
    }
