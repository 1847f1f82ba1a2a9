-- What the writes of sides and of containing faces leave.
use Rattle.std.proofs.Common.{◌≡◌, ℕ, ◌+◌, ◌&&◌, ◌||◌, ◌==◌, Bool, true, false, not, cond, List, [], ◌∷◌, ◌++◌, map, Option, Some, None, refl, sym, ap, ◌∙◌, eqb-true, Result, Ok, Err, option_map}
use Rattle.std.specs.List.{flat_map}
use Rattle.std.specs.Result.{IfOk}
use Rattle.topo_base.specs.declared.rows.Counters.{Counters}
use Rattle.topo_base.specs.declared.rows.EdgeRow.{EdgeRow}
use Rattle.topo_base.specs.declared.rows.NodeRow.{NodeRow}
use Rattle.topo_base.specs.declared.write.Hand.TheVariants.{Left, Right}
use Rattle.topo_base.specs.declared.write.RowWrite.{RowWrite}
use Rattle.drawing.specs.Drawing.{Drawing, Edge, edge_id_of, is_end_of, is_isolated, node_id_of}
use Rattle.drawing.specs.HalfEdge.{both_ways, half_edges}
use Rattle.drawing.specs.Relations.{is_among}
use Rattle.drawing.specs.RemoveEdge.{renamed, renamed_edge, renamed_node}
use Rattle.drawing.specs.Rows.{with_change}
use Rattle.drawing.specs.Tables.{Tables, drawn, edge_row, tables_of}
use Rattle.drawing.specs.Writes.{all_written, edge_row_id, with_side}
use Rattle.drawing.proofs.Ordering.{InOrder, InOrder-filter}
use Rattle.drawing.proofs.TableLemmas.{drawn-tables_of}
use Rattle.drawing.proofs.WritesInOrder.{written-append}
use Rattle.face_parts.proofs.RowSides.{row_sides}
use Rattle.face_parts.proofs.SideWrites.{contained, with_edges, with_nodes}
use Rattle.edge_links.specs.UnlinksLaw.{edge_gone}
use Rattle.face_parts.proofs.RowByRow.{AreBelow, ChangeRows, all_rows, change_one}
use Rattle.face_merge.specs.declared.removed.Freed.{Freed}
use Rattle.face_merge.specs.declared.removed.Removed.{Removed}
use Rattle.face_merge.specs.MergedSides.{HasRest, IsLess, renamed_edges, with_renamed}
use Rattle.face_merge.specs.Sides.{comes_in, edge_write, freed_if, freed_in, is_freed, is_given, lies_among, node_write, removed_of, renamed_writes, set_containing, set_side}
use Rattle.face_merge.proofs.Ids.{orders_of, rows_ordered}

-- ---- sides
abbrev pub renamed_row : List ℕ → ℕ → EdgeRow → EdgeRow
renamed_row gone kept r = record r { left_face = renamed gone kept r.left_face; right_face = renamed gone kept r.right_face }

one_edge : (n : Counters) (t : Tables) (kept : ℕ) (before rest : List EdgeRow) (r : EdgeRow) (next : ℕ) (b c : Bool) → AreBelow edge_row_id (edge_row_id r) before → InOrder edge_row_id (edge_row_id r + 1) next rest
    → all_written n (with_edges t (before ++ r ∷ rest)) (cond b (set_side Left kept r.edge_id ∷ []) [] ++ cond c (set_side Right kept r.edge_id ∷ []) [])
    ≡ with_edges t (before ++ record r { left_face = cond b kept r.left_face; right_face = cond c kept r.right_face } ∷ rest)
one_edge n t kept before rest r next false false below order = refl
one_edge n t kept before rest r next false true below order = ap (with_edges t) (change_one edge_row_id before rest r next (with_side Right kept) below order)
one_edge n t kept before rest r next true false below order = ap (with_edges t) (change_one edge_row_id before rest r next (with_side Left kept) below order)
one_edge n t kept before rest r next true true below order =
    ap (λ (rows : List EdgeRow). with_edges t (with_change edge_row_id rows r.edge_id (with_side Right kept))) (change_one edge_row_id before rest r next (with_side Left kept) below order)
    ∙ ap (with_edges t) (change_one edge_row_id before rest (with_side Left kept r) next (with_side Right kept) below order)

edges_change : (n : Counters) (t : Tables) (gone : List ℕ) (kept : ℕ) → ChangeRows edge_row_id (with_edges t) n (edge_write gone kept) (renamed_row gone kept)
edges_change n t gone kept = record {
  keeps = λ r. refl;
  made = λ before rest r next below order. one_edge n t kept before rest r next (is_among r.left_face gone) (is_among r.right_face gone) below order;
}

pub sides_written : (n : Counters) (t : Tables) (gone : List ℕ) (kept : ℕ) (rows : List EdgeRow) (low next : ℕ) → InOrder edge_row_id low next rows
    → all_written n (with_edges t rows) (flat_map (edge_write gone kept) rows) ≡ with_edges t (map (renamed_row gone kept) rows)
sides_written n t gone kept rows low next order = all_rows edge_row_id (with_edges t) n (edge_write gone kept) (renamed_row gone kept) [] rows low next (edges_change n t gone kept) tt order

-- links stay
rows_renamed : (gone : List ℕ) (kept : ℕ) (all edges : List Edge)
    → map (renamed_row gone kept) (map (edge_row (flat_map both_ways all)) edges) ≡ map (edge_row (flat_map both_ways (map (renamed_edge gone kept) all))) (map (renamed_edge gone kept) edges)
rows_renamed gone kept all [] = refl
rows_renamed gone kept all (e ∷ edges) =
    let first = row_sides (λ x. renamed gone kept x.left_face) (λ x. renamed gone kept x.right_face) all e in
    let rest = rows_renamed gone kept all edges in
    λ i. sym first i ∷ rest i

-- ---- containing faces
abbrev pub come_in : Freed → List ℕ → ℕ → NodeRow → NodeRow
come_in freed gone kept r = cond (comes_in freed gone r) (contained kept r) r

one_node : (n : Counters) (t : Tables) (kept : ℕ) (before rest : List NodeRow) (r : NodeRow) (next : ℕ) (b : Bool) → AreBelow node_id_of (node_id_of r) before → InOrder node_id_of (node_id_of r + 1) next rest
    → all_written n (with_nodes t (before ++ r ∷ rest)) (cond b (set_containing kept r.node_id ∷ []) []) ≡ with_nodes t (before ++ cond b (contained kept r) r ∷ rest)
one_node n t kept before rest r next false below order = refl
one_node n t kept before rest r next true below order = ap (with_nodes t) (change_one node_id_of before rest r next (contained kept) below order)

come_id : (kept : ℕ) (r : NodeRow) (b : Bool) → (cond b (contained kept r) r).node_id ≡ r.node_id
come_id kept r true = refl
come_id kept r false = refl

nodes_change : (n : Counters) (t : Tables) (freed : Freed) (gone : List ℕ) (kept : ℕ) → ChangeRows node_id_of (with_nodes t) n (node_write freed gone kept) (come_in freed gone kept)
nodes_change n t freed gone kept = record {
  keeps = λ r. come_id kept r (comes_in freed gone r);
  made = λ before rest r next below order. one_node n t kept before rest r next (comes_in freed gone r) below order;
}

pub nodes_written : (n : Counters) (t : Tables) (freed : Freed) (gone : List ℕ) (kept : ℕ) (rows : List NodeRow) (low next : ℕ) → InOrder node_id_of low next rows
    → all_written n (with_nodes t rows) (flat_map (node_write freed gone kept) rows) ≡ with_nodes t (map (come_in freed gone kept) rows)
nodes_written n t freed gone kept rows low next order = all_rows node_id_of (with_nodes t) n (node_write freed gone kept) (come_in freed gone kept) [] rows low next (nodes_change n t freed gone kept) tt order

-- an end of the edge that has no edge is freed
one_freed : (T : Drawing) (a n : ℕ) → is_given (freed_if (is_isolated T a) a) n ≡ (a == n && is_isolated T n)
one_freed T a n = by (a == n) refl
  where
    none : (i : Bool) → a == n ≡ false → is_given (freed_if i a) n ≡ false
    none true e = e
    none false e = refl

    given : (i : Bool) → a == n ≡ true → is_given (freed_if i a) n ≡ i
    given true e = e
    given false e = refl

    by : (b : Bool) → a == n ≡ b → is_given (freed_if (is_isolated T a) a) n ≡ (b && is_isolated T n)
    by true e = given (is_isolated T a) e ∙ ap (is_isolated T) (eqb-true a n e)
    by false e = none (is_isolated T a) e

freed_is : (T : Drawing) (e : Edge) (n : ℕ) → is_freed (freed_in T (removed_of e)) n ≡ (is_end_of n e && is_isolated T n)
freed_is T e n = (λ i. one_freed T e.start_node n i || one_freed T e.end_node n i) ∙ joined (e.start_node == n) (e.end_node == n) (is_isolated T n)
  where
    joined : (p q i : Bool) → (p && i || q && i) ≡ ((p || q) && i)
    joined true true true = refl
    joined true true false = refl
    joined true false true = refl
    joined true false false = refl
    joined false q i = refl

node_is : (T : Drawing) (e : Edge) (gone : List ℕ) (kept : ℕ) (r : NodeRow) → come_in (freed_in T (removed_of e)) gone kept r ≡ renamed_node T e gone kept r
node_is T e gone kept r =
    ap (λ b. cond (b || lies_among gone r.containing_face) (contained kept r) r) (freed_is T e r.node_id) ∙ by (is_end_of r.node_id e && is_isolated T r.node_id)
  where
    within : (f : ℕ) (b : Bool) → r.containing_face ≡ Some f → cond b (contained kept r) r ≡ record r { containing_face = Some (cond b kept f) }
    within f true is = refl
    within f false is = λ i. record r { containing_face = is i }

    by_face : (o : Option ℕ) → r.containing_face ≡ o → cond (lies_among gone o) (contained kept r) r ≡ record r { containing_face = option_map (renamed gone kept) o }
    by_face None is = λ i. record r { containing_face = is i }
    by_face (Some f) is = within f (is_among f gone) is

    by : (b : Bool) → cond (b || lies_among gone r.containing_face) (contained kept r) r ≡ cond b (contained kept r) (record r { containing_face = option_map (renamed gone kept) r.containing_face })
    by true = refl
    by false = by_face r.containing_face refl

nodes_are : (T : Drawing) (e : Edge) (gone : List ℕ) (kept : ℕ) (rows : List NodeRow) → map (come_in (freed_in T (removed_of e)) gone kept) rows ≡ map (renamed_node T e gone kept) rows
nodes_are T e gone kept [] = refl
nodes_are T e gone kept (r ∷ rows) = let first = node_is T e gone kept r in let rest = nodes_are T e gone kept rows in λ i. first i ∷ rest i

-- ---- all of them
freed_rows : (S : Drawing) (e : Edge) (r : Removed) (t0 : Tables) → IsLess S e r t0 → freed_in (drawn t0) r ≡ freed_in (edge_gone S e.edge_id) (removed_of e)
freed_rows S e r t0 less =
    (λ i. freed_in (drawn (with_edges t0 (less.rows.edges i))) (less.edge i))
    ∙ ap (λ (D : Drawing). freed_in (record S { edges = D.edges }) (removed_of e)) (drawn-tables_of (edge_gone S e.edge_id))

-- the tables once sides follow
abbrev pub sided : Tables → Drawing → Edge → List ℕ → ℕ → Tables
sided t S e gone kept = with_edges t (map (edge_row (flat_map both_ways (renamed_edges S e gone kept))) (renamed_edges S e gone kept))

pub sides_follow : (S : Drawing) (e : Edge) (r : Removed) (gone : List ℕ) (kept : ℕ) (t0 : Tables) (n : Counters) (t : Tables) → IsLess S e r t0 → HasRest S e t
    → all_written n t (flat_map (edge_write gone kept) t0.edges) ≡ sided t S e gone kept
sides_follow S e r gone kept t0 n t less rest =
    (λ i. all_written n (with_edges t (rest.edges i)) (flat_map (edge_write gone kept) (less.rows.edges i)))
    ∙ sides_written n t gone kept (tables_of T).edges 1 S.next_ids.edge ordered
    ∙ ap (with_edges t) (rows_renamed gone kept T.edges T.edges)
  where
    T : Drawing
    T = edge_gone S e.edge_id

    ordered : InOrder edge_row_id 1 S.next_ids.edge (tables_of T).edges
    ordered = rows_ordered (half_edges T) 1 S.next_ids.edge T.edges (InOrder-filter edge_id_of 1 S.next_ids.edge (λ (x : Edge). not (x.edge_id == e.edge_id)) S.edges (orders_of S less.ids).edges)

pub renames : (S : Drawing) (e : Edge) (r : Removed) (gone : List ℕ) (kept : ℕ) (t0 : Tables) (n : Counters) (t : Tables) → IsLess S e r t0 → HasRest S e t
    → all_written n t (renamed_writes r gone kept t0) ≡ with_renamed t S e gone kept
renames S e r gone kept t0 n t less rest =
    let T = edge_gone S e.edge_id in
    let u = sided t S e gone kept in
    written-append n t (flat_map (edge_write gone kept) t0.edges) (flat_map (node_write (freed_in (drawn t0) r) gone kept) t0.nodes)
    ∙ ap (λ (v : Tables). all_written n v (flat_map (node_write (freed_in (drawn t0) r) gone kept) t0.nodes)) (sides_follow S e r gone kept t0 n t less rest)
    ∙ (λ i. all_written n (with_nodes u (rest.nodes i)) (flat_map (node_write (freed_rows S e r t0 less i) gone kept) (less.rows.nodes i)))
    ∙ nodes_written n u (freed_in T (removed_of e)) gone kept S.nodes 1 S.next_ids.node (orders_of S less.ids).nodes
    ∙ ap (with_nodes u) (nodes_are T e gone kept S.nodes)

pub result_renames : {E : Type 0} (r : Removed) (gone : List ℕ) (kept : ℕ) (t0 : Tables) (result : Result (List RowWrite) E) → IfOk result (λ (ws : List RowWrite). ws ≡ renamed_writes r gone kept t0)
    → IfOk result (λ (ws : List RowWrite). (S : Drawing) (e : Edge) (n : Counters) (t : Tables) → IsLess S e r t0 → HasRest S e t → all_written n t ws ≡ with_renamed t S e gone kept)
result_renames r gone kept t0 (Ok ws) is = λ S e n t less rest. ap (all_written n t) is ∙ renames S e r gone kept t0 n t less rest
result_renames r gone kept t0 (Err stop) is = tt
