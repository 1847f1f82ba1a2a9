-- The writes of sides and of containing faces may be made.
use Rattle.std.proofs.Common.{◌≡◌, ℕ, Bool, true, false, cond, List, [], ◌∷◌, ◌++◌, append_assoc, Some, refl, sym, ◌∙◌, subst, IsTrue, Result, Ok, Err}
use Rattle.std.specs.List.{flat_map, Contains}
use Rattle.std.specs.Result.{IfOk}
use Rattle.topo_base.specs.declared.rows.Counters.{Counters}
use Rattle.topo_base.specs.declared.rows.EdgeRow.{EdgeRow}
use Rattle.topo_base.specs.declared.rows.NodeRow.{NodeRow}
use Rattle.topo_base.specs.declared.write.Hand.{Hand}
use Rattle.topo_base.specs.declared.write.Hand.TheVariants.{Left, Right}
use Rattle.topo_base.specs.declared.write.RowWrite.{RowWrite}
use Rattle.drawing.specs.Drawing.{Drawing, Edge, node_id_of}
use Rattle.drawing.specs.Relations.{is_among}
use Rattle.drawing.specs.Rows.{has_row}
use Rattle.drawing.specs.Tables.{Tables, drawn}
use Rattle.drawing.specs.Writable.{CanWriteAll, has_edge_row, has_face_row, has_node_row}
use Rattle.drawing.specs.Writes.{edge_row_id, with_side, written}
use Rattle.plane.proofs.ListTests.{contains_here, contains_there}
use Rattle.drawing.proofs.RowLemmas.{side-id}
use Rattle.drawing.proofs.WritesInOrder.{can_write-append}
use Rattle.face_parts.proofs.Lists.{has_listed}
use Rattle.face_merge.specs.declared.removed.Freed.{Freed}
use Rattle.face_merge.specs.declared.removed.Removed.{Removed}
use Rattle.face_merge.specs.MergedSides.{HasRest, IsLess}
use Rattle.face_merge.proofs.Renaming.{sided, sides_follow}
use Rattle.face_merge.specs.Sides.{comes_in, edge_write, freed_in, node_write, renamed_writes, set_containing, set_side, side_write}
use Rattle.topo_tables.proofs.RowChanges.{has_changed}

-- ---- sides
abbrev AreEdges : Tables → List EdgeRow → Type 0
AreEdges t rows = (r : EdgeRow) → Contains rows r → IsTrue (has_edge_row t r.edge_id)

edges_stay : (n : Counters) (t : Tables) (hand : Hand) (kept e : ℕ) (rows : List EdgeRow) → AreEdges t rows → AreEdges (written n t (set_side hand kept e)) rows
edges_stay n t hand kept e rows each r c = has_changed edge_row_id t.edges e r.edge_id (with_side hand kept) (side-id hand kept) ∙ each r c

-- a side, and more
abbrev CanEdges : Counters → ℕ → List EdgeRow → List RowWrite → Type 0
CanEdges n kept rows ws = (t : Tables) → AreEdges t rows → IsTrue (has_face_row t kept) → CanWriteAll n t ws

can_side : (n : Counters) (hand : Hand) (kept : ℕ) (rows : List EdgeRow) (r : EdgeRow) (more : List RowWrite) (b : Bool) → Contains rows r → CanEdges n kept rows more
    → CanEdges n kept rows (cond b (set_side hand kept r.edge_id ∷ []) [] ++ more)
can_side n hand kept rows r more false c can t each face = can t each face
can_side n hand kept rows r more true c can t each face = ((each r c, face), can (written n t (set_side hand kept r.edge_id)) (edges_stay n t hand kept r.edge_id rows each) face)

can_sides : (n : Counters) (gone : List ℕ) (kept : ℕ) (all rows : List EdgeRow) → ((r : EdgeRow) → Contains rows r → Contains all r) → CanEdges n kept all (flat_map (edge_write gone kept) rows)
can_sides n gone kept all [] among t each face = tt
can_sides n gone kept all (r ∷ rows) among t each face =
    let here = among r (contains_here r rows) in
    let left = side_write Left gone kept r.edge_id r.left_face in
    let right = side_write Right gone kept r.edge_id r.right_face in
    let more = flat_map (edge_write gone kept) rows in
    let rest = can_sides n gone kept all rows (λ s c. among s (contains_there s r rows c)) in
    subst (CanWriteAll n t) (sym (append_assoc left right more))
    (can_side n Left kept all r (right ++ more) (is_among r.left_face gone) here (can_side n Right kept all r more (is_among r.right_face gone) here rest) t each face)

-- ---- containing faces
abbrev AreNodes : Tables → List NodeRow → Type 0
AreNodes t rows = (r : NodeRow) → Contains rows r → IsTrue (has_node_row t r.node_id)

nodes_stay : (n : Counters) (t : Tables) (kept m : ℕ) (rows : List NodeRow) → AreNodes t rows → AreNodes (written n t (set_containing kept m)) rows
nodes_stay n t kept m rows each r c = has_changed node_id_of t.nodes m r.node_id (λ (s : NodeRow). record s { containing_face = Some kept }) (λ s. refl) ∙ each r c

abbrev CanNodes : Counters → ℕ → List NodeRow → List RowWrite → Type 0
CanNodes n kept rows ws = (t : Tables) → AreNodes t rows → IsTrue (has_face_row t kept) → CanWriteAll n t ws

can_node : (n : Counters) (kept : ℕ) (rows : List NodeRow) (r : NodeRow) (more : List RowWrite) (b : Bool) → Contains rows r → CanNodes n kept rows more
    → CanNodes n kept rows (cond b (set_containing kept r.node_id ∷ []) [] ++ more)
can_node n kept rows r more false c can t each face = can t each face
can_node n kept rows r more true c can t each face = ((each r c, face), can (written n t (set_containing kept r.node_id)) (nodes_stay n t kept r.node_id rows each) face)

can_nodes : (n : Counters) (freed : Freed) (gone : List ℕ) (kept : ℕ) (all rows : List NodeRow) → ((r : NodeRow) → Contains rows r → Contains all r) → CanNodes n kept all (flat_map (node_write freed gone kept) rows)
can_nodes n freed gone kept all [] among t each face = tt
can_nodes n freed gone kept all (r ∷ rows) among t each face =
    can_node n kept all r (flat_map (node_write freed gone kept) rows) (comes_in freed gone r) (among r (contains_here r rows))
    (can_nodes n freed gone kept all rows (λ s c. among s (contains_there s r rows c))) t each face

-- ---- all of them
pub may_rename : (S : Drawing) (e : Edge) (r : Removed) (gone : List ℕ) (kept : ℕ) (t0 : Tables) (n : Counters) (t : Tables) → IsLess S e r t0 → HasRest S e t → IsTrue (has_face_row t kept)
    → CanWriteAll n t (renamed_writes r gone kept t0)
may_rename S e r gone kept t0 n t less rest face =
    let sides = flat_map (edge_write gone kept) t0.edges in
    let nodes = flat_map (node_write (freed_in (drawn t0) r) gone kept) t0.nodes in
    can_write-append n t sides nodes (can_sides n gone kept t0.edges t0.edges (λ s c. c) t edges face)
    (subst (λ (u : Tables). CanWriteAll n u nodes) (sym (sides_follow S e r gone kept t0 n t less rest))
    (can_nodes n (freed_in (drawn t0) r) gone kept t0.nodes t0.nodes (λ s c. c) (sided t S e gone kept) at_nodes face))
  where
    edges : AreEdges t t0.edges
    edges s c = subst (λ (rows : List EdgeRow). has_row edge_row_id rows s.edge_id ≡ true) (less.rows.edges ∙ sym rest.edges) (has_listed edge_row_id t0.edges s c)

    at_nodes : AreNodes (sided t S e gone kept) t0.nodes
    at_nodes s c = subst (λ (rows : List NodeRow). has_row node_id_of rows s.node_id ≡ true) (less.rows.nodes ∙ sym rest.nodes) (has_listed node_id_of t0.nodes s c)

pub result_can : {E : Type 0} (r : Removed) (gone : List ℕ) (kept : ℕ) (t0 : Tables) (result : Result (List RowWrite) E) → IfOk result (λ (ws : List RowWrite). ws ≡ renamed_writes r gone kept t0)
    → IfOk result (λ (ws : List RowWrite). (S : Drawing) (e : Edge) (n : Counters) (t : Tables) → IsLess S e r t0 → HasRest S e t → IsTrue (has_face_row t kept) → CanWriteAll n t ws)
result_can r gone kept t0 (Ok ws) is = λ S e n t less rest face. subst (CanWriteAll n t) (sym is) (may_rename S e r gone kept t0 n t less rest face)
result_can r gone kept t0 (Err stop) is = tt
