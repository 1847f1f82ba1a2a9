-- A planar subdivision by the definition has all that the laws of subdivisions keep.
use Rattle.std.proofs.Common.{arith, subst}
use Rattle.std.proofs.lemmas.Bool.{and_parts}
use Rattle.drawing.specs.Drawing.{Drawing, node_id_of, edge_id_of}
use Rattle.drawing.specs.Replay.{after}
use Rattle.drawing.specs.Subdivision.{IsSubdivision}
use Rattle.drawing.proofs.Ordering.{InOrder-wider}
use Rattle.face_rings.specs.FaceBorder.{HasRings}
use Rattle.face_rings.proofs.FaceBorders.{has_plain_lines}
use Rattle.relation_rows.proofs.KnownFeatures.{references_parts}
use Rattle.ring_laws.specs.Ringed.{IsRinged}
use Rattle.face_laws.specs.Covered.{IsCovered, IsInFaceOf}
use Rattle.face_laws.proofs.Covering.{known, faces_given, point_placed}
use Rattle.face_laws.proofs.Facing.{HasSides}
use Rattle.face_laws.proofs.PlainSteps.{steps_plain, steps_once}
use Rattle.face_laws.proofs.RingLabels.{face_ringwise}
use Rattle.subdivision_laws.specs.Subdivided.{IsSubdivided}
use Rattle.subdivision_laws.proofs.SubdivisionsStaying.{subdivisions_stay}
use Rattle.covered_laws.specs.Definition.{IsOfRows, DefinitionTellsAll}
use Rattle.covered_laws.proofs.SidesSeen.{sides_seen}
use Rattle.covered_laws.proofs.ShellsCounted.{no_shell_counted, one_shell_counted}
use Rattle.covered_laws.proofs.Wanted.{ids_wanted, lines_wanted}
use Rattle.point_laws.proofs.PointsStaying.{points_stay}

-- ---- ids, references and rings
has_rings : (S : Drawing) → IsOfRows S → IsSubdivision S → HasRings S
has_rings S rows h =
    let p4 = and_parts _ _ h.ids in
    let p3 = and_parts _ _ p4.0 in
    let p2 = and_parts _ _ p3.0 in
    let p1 = and_parts _ _ p2.0 in
    record {
      plain = record {
        plain = h.plain;
        node_ids = (InOrder-wider node_id_of 1 0 S.next_ids.node S.next_ids.node S.nodes (omega arith) (omega arith) (record { test = p1.0 })).test;
        edge_ids = (InOrder-wider edge_id_of 1 0 S.next_ids.edge S.next_ids.edge S.edges (omega arith) (omega arith) (record { test = p1.1 })).test;
      };
      lines = rows.lines;
      one_face = h.rings;
    }

is_ringed : (S : Drawing) → IsOfRows S → IsSubdivision S → IsRinged S
is_ringed S rows h =
    let parts = references_parts S h.references in
    record { rings = has_rings S rows h; universe = parts.universe; edges = parts.edges; nodes = parts.nodes }

-- ---- faces
has_sides : (S : Drawing) → IsRinged S → IsSubdivision S → HasSides S
has_sides S ringed h =
    let good = has_plain_lines S ringed.rings in
    record {
      drawn = record { plain = steps_plain S good; once = steps_once S good };
      faces = faces_given S good;
      ringwise = λ f n. face_ringwise S f ringed.rings;
      sided = sides_seen S ringed.rings h.faced (known S ringed).sides;
      universe = ringed.universe;
      listed = (known S ringed).sides;
    }

is_covered : (S : Drawing) → IsRinged S → IsSubdivision S → IsCovered S
is_covered S ringed h = record {
  ringed = ringed;
  sided = sides_seen S ringed.rings h.faced (known S ringed).sides;
  shells = λ f face n. one_shell_counted S f ringed.rings face n h.shells;
  outer = no_shell_counted S ringed.rings ringed.universe h.shells;
  placed = λ n f there e. subst (IsInFaceOf S n.geom) (h.faced.isolated n f there e) (point_placed S n.geom (has_sides S ringed h));
}

is_subdivided : (S : Drawing) → IsOfRows S → IsSubdivision S → IsSubdivided S
is_subdivided S rows h =
    let ringed = is_ringed S rows h in
    record {
      referenced = record { rings = ringed; starts = rows.starts; ids = h.ids; references = h.references };
      covered = is_covered S ringed h;
    }

of_rows : (S : Drawing) → IsSubdivided S → IsOfRows S
of_rows S h = record { lines = h.referenced.rings.rings.lines; starts = h.referenced.starts }

defined : (S : Drawing) → IsSubdivided S → IsOfRows S × IsSubdivision S
defined S h = (of_rows S h, subdivisions_stay.subdivision S h)

pub definition_tells_all : DefinitionTellsAll
definition_tells_all = record {
  subdivided = is_subdivided;
  defined = defined;
  each_edit = λ S e limits rows h. defined (after S e) (subdivisions_stay.each_edit S e limits (is_subdivided S rows h));
  each_feature = λ S e limits rows h leaves. points_stay.each_edit S e limits (is_subdivided S rows h) leaves;
  ids_wanted = ids_wanted;
  lines_wanted = lines_wanted;
}
