-- The writes of a division raise no stamps.
use Rattle.std.proofs.Common.{◌≡◌, ℕ, refl, ◌∙◌, Bool, true, false, cond, ◌==◌, List, [], ◌∷◌, ◌++◌, map}
use Rattle.std.specs.List.{flat_map}
use Rattle.std.proofs.lemmas.List.Concat.{flat_map-append}
use Rattle.topo_base.specs.Point.{Point}
use Rattle.topo_base.specs.declared.element.Element.{Element}
use Rattle.topo_base.specs.declared.ids.Dart.{Dart}
use Rattle.topo_base.specs.declared.rows.Counters.{Counters}
use Rattle.topo_base.specs.declared.rows.NodeRow.{NodeRow}
use Rattle.topo_base.specs.declared.write.RowWrite.{RowWrite}
use Rattle.drawing.specs.Tables.{Tables}
use Rattle.drawing.specs.Writes.{raised_by}
use Rattle.face_rings.specs.declared.content.BorderDart.{BorderDart}
use Rattle.face_rings.specs.Rings.{rings}
use Rattle.face_parts.specs.declared.parts.FaceParts.{FaceParts}
use Rattle.face_parts.specs.Divided.{part_of_point, part_of_ring, division_writes}
use Rattle.face_parts.specs.Sides.{set_side, lies_in, set_containing, ring_writes, side_writes, node_write, node_writes}

abbrev raised : Counters → List RowWrite → List Element
raised n ws = flat_map (raised_by n) ws

none_more : (n : Counters) (ws vs : List RowWrite) → raised n ws ≡ [] → raised n vs ≡ [] → raised n (ws ++ vs) ≡ []
none_more n ws vs first second = flat_map-append (raised_by n) ws vs ∙ (λ i. first i ++ second i)

darts_raise : (n : Counters) (part : ℕ) (ds : List Dart) → raised n (map (set_side part) ds) ≡ []
darts_raise n part [] = refl
darts_raise n part (d ∷ ds) = darts_raise n part ds

ring_raises : (n : Counters) (part : List Dart → ℕ) (f : ℕ) (ring : List Dart) → raised n (ring_writes part f ring) ≡ []
ring_raises n part f ring = by (part ring == f)
  where
    by : (b : Bool) → raised n (cond b [] (map (set_side (part ring)) ring)) ≡ []
    by true = refl
    by false = darts_raise n (part ring) ring

sides_raise : (n : Counters) (part : List Dart → ℕ) (f : ℕ) (all : List (List Dart)) → raised n (side_writes part f all) ≡ []
sides_raise n part f [] = refl
sides_raise n part f (ring ∷ all) = none_more n (ring_writes part f ring) (side_writes part f all) (ring_raises n part f ring) (sides_raise n part f all)

node_raises : (n : Counters) (part : Point → ℕ) (f : ℕ) (r : NodeRow) → raised n (node_write part f r) ≡ []
node_raises n part f r = by (lies_in f r) (part r.geom == f)
  where
    by : (b c : Bool) → raised n (cond b (cond c [] (set_containing (part r.geom) r ∷ [])) []) ≡ []
    by false c = refl
    by true true = refl
    by true false = refl

nodes_raise : (n : Counters) (part : Point → ℕ) (f : ℕ) (rows : List NodeRow) → raised n (node_writes part f rows) ≡ []
nodes_raise n part f [] = refl
nodes_raise n part f (r ∷ rows) = none_more n (node_write part f r) (node_writes part f rows) (node_raises n part f r) (nodes_raise n part f rows)

pub division_raises : (n : Counters) (parts : FaceParts) (vertices : List Point) (t : Tables) (border : List BorderDart) → flat_map (raised_by n) (division_writes parts vertices t border) ≡ []
division_raises n parts vertices t border =
    let part = part_of_ring parts vertices t.edges in
    let at = part_of_point parts vertices in
    none_more n (side_writes part parts.face (rings border)) (node_writes at parts.face t.nodes) (sides_raise n part parts.face (rings border)) (nodes_raise n at parts.face t.nodes)
