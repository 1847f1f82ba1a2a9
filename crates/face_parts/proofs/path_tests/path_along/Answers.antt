use Rattle.std.proofs.Common.{◌≡◌, ℕ, ◌≤◌, Bool, true, false, List, [], ◌∷◌, ◌++◌, length, Option, Some, None, refl, subst, arith, le-leb}
use Rattle.std.specs.Prelude.{nat_le}
use Rattle.std.proofs.lemmas.Bool.{and_from}
use Rattle.std.proofs.lemmas.List.{length-reverse}
use Rattle.topo_base.specs.Point.{Point}
use Rattle.topo_base.specs.declared.ids.Dart.{Dart}
use Rattle.topo_base.specs.declared.rows.EdgeRow.{EdgeRow}
use Rattle.drawing.specs.Rows.{row_at, has_row}
use Rattle.drawing.specs.Writes.{edge_row_id}
use Rattle.face_parts.specs.Paths.{without_last, walked_row, path_of, are_edges}
use Rattle.face_parts.proofs.DartPaths.{found_row}
use Rattle.face_parts.proofs.path_tests.path_along.Goals as goal

-- three vertices or more, walked either way
three : (forward : Bool) (o : Option EdgeRow) → 3 ≤ length (walked_row true o) → 3 ≤ length (walked_row forward o)
three forward None h = absurd (omega arith)
three true (Some row) h = h
three false (Some row) h = let same = length-reverse row.geom in omega arith

two : (l : List Point) → 3 ≤ length l → 2 ≤ length (without_last l ++ [])
two [] h = absurd (omega arith)
two (a ∷ []) h = absurd (omega arith)
two (a ∷ b ∷ []) h = absurd (omega arith)
two (a ∷ b ∷ c ∷ l) h = omega arith

is_there : (rows : List EdgeRow) (n : ℕ) (o : Option EdgeRow) → row_at edge_row_id rows n ≡ o → 3 ≤ length (walked_row true o) → has_row edge_row_id rows n ≡ true
is_there rows n None e h = absurd (omega arith)
is_there rows n (Some row) e h = found_row rows n row e

known_here : (rows : List EdgeRow) (d : Dart) → 3 ≤ length (walked_row true (row_at edge_row_id rows d.edge)) → are_edges rows (d ∷ []) ≡ true
known_here rows d h = and_from (has_row edge_row_id rows d.edge) true (is_there rows d.edge (row_at edge_row_id rows d.edge) refl h) refl

long_here : (rows : List EdgeRow) (d : Dart) → 3 ≤ length (walked_row true (row_at edge_row_id rows d.edge)) → nat_le 2 (length (path_of rows (d ∷ []))) ≡ true
long_here rows d h = le-leb 2 (length (path_of rows (d ∷ []))) (two (walked_row d.forward (row_at edge_row_id rows d.edge)) (three d.forward (row_at edge_row_id rows d.edge) h))

pub ring_path-requires-clause-known : goal.ring_path-requires-clause-known
ring_path-requires-clause-known g c = known_here c.args.tables.now.rows.edges c.args.dart (subst (λ n. 3 ≤ n) c.vertex_count.ensures c.if-vertex_count-lt3.false)

pub ring_path-requires-clause-long : goal.ring_path-requires-clause-long
ring_path-requires-clause-long g c = long_here c.args.tables.now.rows.edges c.args.dart (subst (λ n. 3 ≤ n) c.vertex_count.ensures c.if-vertex_count-lt3.false)
