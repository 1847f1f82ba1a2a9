-- A drawing is a planar subdivision exactly where its rows, rings, holes and isolated nodes are without fault.
use Rattle.std.proofs.Common.{◌≡◌, true, arith, ◌&&◌}
use Rattle.std.proofs.lemmas.Bool.{and_parts, and_from}
use Rattle.drawing.specs.Drawing.{Drawing, node_id_of, edge_id_of}
use Rattle.drawing.specs.Subdivision.{IsSubdivision, ids_in_order, references_known, rings_have_one_face, faces_have_shells}
use Rattle.drawing.proofs.Ordering.{InOrder-wider}
use Rattle.face_rings.specs.FaceBorder.{HasRings}
use Rattle.relation_rows.proofs.KnownFeatures.{references_parts}
use Rattle.ring_laws.specs.Ringed.{IsRinged}
use Rattle.face_laws.specs.Covered.{IsCovered}
use Rattle.face_laws.proofs.Covering.{covered_faced}
use Rattle.covered_laws.specs.Definition.{IsOfRows}
use Rattle.covered_laws.proofs.DefinitionTelling.{definition_tells_all}
use Rattle.covered_laws.proofs.ShellsCounted.{no_shell_counted, one_shell_counted}
use Rattle.above_laws.specs.Faults.{IsWithoutFault, FaultsTellAll}
use Rattle.above_laws.proofs.Placing.{places_are_told, holes_below, below_if_in}

-- ---- what the tests that compute say
record AreRight (S : Drawing) : Type 0 where
  ids : ids_in_order S ≡ true
  references : references_known S ≡ true
  rings : rings_have_one_face S ≡ true
  shells : faces_have_shells S ≡ true

are_right : (S : Drawing) → IsWithoutFault S → AreRight S
are_right S h =
    let p2 = and_parts (ids_in_order S && references_known S && rings_have_one_face S) (faces_have_shells S) h.consistent in
    let p1 = and_parts (ids_in_order S && references_known S) (rings_have_one_face S) p2.0 in
    let p0 = and_parts (ids_in_order S) (references_known S) p1.0 in
    record { ids = p0.0; references = p0.1; rings = p1.1; shells = p2.1 }

are_rings : (S : Drawing) → IsOfRows S → IsWithoutFault S → HasRings S
are_rings S rows h =
    let r = are_right S h in
    let p4 = and_parts _ _ r.ids in
    let p3 = and_parts _ _ p4.0 in
    let p2 = and_parts _ _ p3.0 in
    let p1 = and_parts _ _ p2.0 in
    record {
      plain = record {
        plain = h.plain;
        node_ids = (InOrder-wider node_id_of 1 0 S.next_ids.node S.next_ids.node S.nodes (omega arith) (omega arith) (record { test = p1.0 })).test;
        edge_ids = (InOrder-wider edge_id_of 1 0 S.next_ids.edge S.next_ids.edge S.edges (omega arith) (omega arith) (record { test = p1.1 })).test;
      };
      lines = rows.lines;
      one_face = r.rings;
    }

is_ringed : (S : Drawing) → IsOfRows S → IsWithoutFault S → IsRinged S
is_ringed S rows h =
    let parts = references_parts S (are_right S h).references in
    record { rings = are_rings S rows h; universe = parts.universe; edges = parts.edges; nodes = parts.nodes }

is_covered : (S : Drawing) → IsOfRows S → IsWithoutFault S → IsCovered S
is_covered S rows h =
    let ringed = is_ringed S rows h in
    let sided = places_are_told.sided S ringed h.holes in
    let shells = (are_right S h).shells in
    record {
      ringed = ringed;
      sided = sided;
      shells = λ f face n. one_shell_counted S f ringed.rings face n shells;
      outer = no_shell_counted S ringed.rings ringed.universe shells;
      placed = λ n f there e. places_are_told.placed S n.geom f ringed sided (h.nodes n f there e);
    }

is_subdivision : (S : Drawing) → IsOfRows S → IsWithoutFault S → IsSubdivision S
is_subdivision S rows h =
    let r = are_right S h in
    record { ids = r.ids; references = r.references; plain = h.plain; rings = r.rings; faced = covered_faced S (is_covered S rows h); shells = r.shells }

is_without : (S : Drawing) → IsOfRows S → IsSubdivision S → IsWithoutFault S
is_without S rows h =
    let c = (definition_tells_all.subdivided S rows h).covered in
    record {
      consistent =
          and_from (ids_in_order S && references_known S && rings_have_one_face S) (faces_have_shells S)
          (and_from (ids_in_order S && references_known S) (rings_have_one_face S) (and_from (ids_in_order S) (references_known S) h.ids h.references) h.rings) h.shells;
      plain = h.plain;
      holes = holes_below S c.ringed c.sided;
      nodes = λ n f there e. below_if_in S n.geom f c.ringed c.sided (c.placed n f there e);
    }

pub faults_tell_all : FaultsTellAll
faults_tell_all = record { subdivision = is_subdivision; without = is_without }
