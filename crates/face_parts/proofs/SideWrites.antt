-- What the writes of sides and of containing faces leave where a face is divided.
use Rattle.std.proofs.Common.{◌≡◌, ℕ, ◌+◌, ◌&&◌, ◌||◌, Bool, true, false, cond, List, [], ◌∷◌, ◌++◌, map, Option, Some, None, refl, sym, ap, ◌∙◌, eqb, eqb-true}
use Rattle.std.specs.Option.{option_eq}
use Rattle.topo_base.specs.Darts.{same_way}
use Rattle.topo_base.specs.Point.{Point}
use Rattle.topo_base.specs.declared.ids.Dart.{Dart}
use Rattle.topo_base.specs.declared.rows.Counters.{Counters}
use Rattle.topo_base.specs.declared.rows.EdgeRow.{EdgeRow}
use Rattle.topo_base.specs.declared.rows.NodeRow.{NodeRow}
use Rattle.topo_base.specs.declared.write.RowId.TheVariants.{Old}
use Rattle.topo_base.specs.declared.write.RowWrite.TheVariants.{SetContaining}
use Rattle.drawing.specs.Drawing.{node_id_of}
use Rattle.drawing.specs.Rows.{with_change}
use Rattle.face_rings.specs.Border.{has_dart}
use Rattle.drawing.specs.Tables.{Tables}
use Rattle.drawing.specs.Writes.{all_written, edge_row_id, with_side}
use Rattle.drawing.proofs.Ordering.{InOrder}
use Rattle.face_parts.specs.Sides.{dart_along, hand_of, set_side, part_or, with_parts, in_part, node_write, node_writes}
use Rattle.face_parts.specs.SidesLaw.{SidesFollow}
use Rattle.face_parts.proofs.RowByRow.{AreBelow, ChangeRows, all_rows, change_one}
use Rattle.face_parts.proofs.RowSides.{row_sides}

-- ---- sides
abbrev pub with_edges : Tables → List EdgeRow → Tables
with_edges t edges = record t { edges = edges }

either_way : (b : Bool) (x y : ℕ) → x ≡ y → cond b x y ≡ x
either_way true x y is = refl
either_way false x y is = sym is

-- a row after the write of a dart, with the parts of others
one_more : (part : Dart → ℕ) (ds : List Dart) (e : EdgeRow) (edge : ℕ) (forward : Bool) (t : Bool) → eqb e.edge_id edge ≡ t
    → with_parts part ds (cond t (with_side (hand_of forward) (part (dart_along forward edge)) e) e)
    ≡ record e {
      left_face = cond (t && same_way true forward || has_dart ds (dart_along true e.edge_id)) (part (dart_along true e.edge_id)) e.left_face;
      right_face = cond (t && same_way false forward || has_dart ds (dart_along false e.edge_id)) (part (dart_along false e.edge_id)) e.right_face;
    }
one_more part ds e edge forward false is = refl
one_more part ds e edge true true is =
    let same = ap (λ k. part (dart_along true k)) (eqb-true e.edge_id edge is) in
    ap (λ g. record e { left_face = g; right_face = part_or part ds (dart_along false e.edge_id) e.right_face })
    (either_way (has_dart ds (dart_along true e.edge_id)) (part (dart_along true e.edge_id)) (part (dart_along true edge)) same)
one_more part ds e edge false true is =
    let same = ap (λ k. part (dart_along false k)) (eqb-true e.edge_id edge is) in
    ap (λ g. record e { left_face = part_or part ds (dart_along true e.edge_id) e.left_face; right_face = g })
    (either_way (has_dart ds (dart_along false e.edge_id)) (part (dart_along false e.edge_id)) (part (dart_along false edge)) same)

rows_more : (part : Dart → ℕ) (d : Dart) (ds : List Dart) (rows : List EdgeRow) → map (with_parts part ds) (with_change edge_row_id rows d.edge (with_side (hand_of d.forward) (part d))) ≡ map (with_parts part (d ∷ ds)) rows
rows_more part d ds [] = refl
rows_more part d ds (e ∷ rows) = λ i. one_more part ds e d.edge d.forward (eqb e.edge_id d.edge) refl i ∷ rows_more part d ds rows i

rows_none : (part : Dart → ℕ) (rows : List EdgeRow) → rows ≡ map (with_parts part []) rows
rows_none part [] = refl
rows_none part (e ∷ rows) = ap (λ rs. e ∷ rs) (rows_none part rows)

pub all_sides : (n : Counters) (t : Tables) (part : Dart → ℕ) (ds : List Dart) → all_written n t (map (λ (d : Dart). set_side (part d) d) ds) ≡ with_edges t (map (with_parts part ds) t.edges)
all_sides n t part [] = ap (with_edges t) (rows_none part t.edges)
all_sides n t part (d ∷ ds) =
    all_sides n (with_edges t (with_change edge_row_id t.edges d.edge (with_side (hand_of d.forward) (part d)))) part ds ∙ ap (with_edges t) (rows_more part d ds t.edges)

-- ---- containing faces
abbrev pub with_nodes : Tables → List NodeRow → Tables
with_nodes t nodes = record t { nodes = nodes }

abbrev pub contained : ℕ → NodeRow → NodeRow
contained g r = record r { containing_face = Some g }

one_node_by : (n : Counters) (t : Tables) (g f : ℕ) (before rest : List NodeRow) (r : NodeRow) (next : ℕ) (b c : Bool) → (b ≡ true → r.containing_face ≡ Some f) → eqb g f ≡ c
    → AreBelow node_id_of r.node_id before → InOrder node_id_of (r.node_id + 1) next rest
    → all_written n (with_nodes t (before ++ r ∷ rest)) (cond b (cond c [] (SetContaining (Old r.node_id) (Some (Old g)) ∷ [])) []) ≡ with_nodes t (before ++ cond b (contained g r) r ∷ rest)
one_node_by n t g f before rest r next false c face new below order = refl
one_node_by n t g f before rest r next true true face new below order =
    let is = face refl ∙ ap Some (sym (eqb-true g f new)) in
    ap (λ s. with_nodes t (before ++ s ∷ rest)) (λ i. record r { containing_face = is i })
one_node_by n t g f before rest r next true false face new below order = ap (with_nodes t) (change_one node_id_of before rest r next (contained g) below order)

given : (o : Option ℕ) (f : ℕ) → option_eq eqb o (Some f) ≡ true → o ≡ Some f
given None f h = absurd cc
given (Some g) f h = ap Some (eqb-true g f h)

part_id : (part : Point → ℕ) (f : ℕ) (r : NodeRow) → (in_part part f r).node_id ≡ r.node_id
part_id part f r = by (option_eq eqb r.containing_face (Some f))
  where
    by : (b : Bool) → (cond b (contained (part r.geom) r) r).node_id ≡ r.node_id
    by true = refl
    by false = refl

nodes_change : (n : Counters) (t : Tables) (part : Point → ℕ) (f : ℕ) → ChangeRows node_id_of (with_nodes t) n (node_write part f) (in_part part f)
nodes_change n t part f = record {
  keeps = part_id part f;
  made = λ before rest r next below order. one_node_by n t (part r.geom) f before rest r next _ _ (given r.containing_face f) refl below order;
}

all_nodes : (n : Counters) (t : Tables) (part : Point → ℕ) (f : ℕ) (rows : List NodeRow) (low next : ℕ) → InOrder node_id_of low next rows
    → all_written n (with_nodes t rows) (node_writes part f rows) ≡ with_nodes t (map (in_part part f) rows)
all_nodes n t part f rows low next order = all_rows node_id_of (with_nodes t) n (node_write part f) (in_part part f) [] rows low next (nodes_change n t part f) tt order

pub sides_follow : SidesFollow
sides_follow = record {
  links = row_sides;
  edges = all_sides;
  nodes = λ n t part f low next order. all_nodes n t part f t.nodes low next (record { test = order });
}
