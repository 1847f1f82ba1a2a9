-- The last half-edge about a node, as rows are read one after another.
use Rattle.std.proofs.Common.{◌≡◌, ℕ, suc, ◌+◌, ◌<◌, ◌≤◌, Bool, true, false, ◌||◌, eqb, cond, Bor, List, [], ◌∷◌, ◌++◌, length, map, filter, drop, get_or, Option, Some, None, refl, sym, ap, ◌∙◌, add-one}
use Rattle.std.specs.Prelude.{fold, flat_map, unwrap_or}
use Rattle.std.proofs.Math.Seq.{drop-cons}
use Rattle.std.proofs.lemmas.List.{drop_all}
use Rattle.topo_base.specs.declared.rows.EdgeRow.{EdgeRow}
use Rattle.topo_base.specs.declared.rows.NodeRow.{NodeRow}
use Rattle.plane.specs.Direction.{Direction, is_nearer}
use Rattle.drawing.specs.Drawing.{is_end_of}
use Rattle.drawing.specs.Faces.{face_after, wedge_face}
use Rattle.drawing.specs.HalfEdge.{HalfEdge, forward_of, backward_of, both_ways, leaves}
use Rattle.drawing.specs.Star.{leaving, farther_of, last_clockwise}
use Rattle.drawing.specs.Tables.{Tables, drawn, drawn_edge}
use Rattle.drawing_queries.proofs.Listed.{listed}
use Rattle.face_split.specs.declared.wedges.Wedge.{Wedge}
use Rattle.face_split.specs.Wedges.{wedge_of, farther, last_with, last_from, only_if, wedges_in, wedges_at, face_of_last}

-- some, and then others
pub last-append : (r : Direction) (last : Option Wedge) (xs ys : List Wedge) → last_from r last (xs ++ ys) ≡ last_from r (last_from r last xs) ys
last-append r last [] ys = refl
last-append r last (x ∷ xs) ys = last-append r (last_with r last x) xs ys

-- ---- the rows, one after another
abbrev pub seen_wedges : ℕ → List (Bor EdgeRow) → List Wedge
seen_wedges n rows = wedges_at n (map (λ (r : Bor EdgeRow). r.now) rows)

pub next_row : (r : Direction) (n : ℕ) (rows : List (Bor EdgeRow)) (i : ℕ) (row : Bor EdgeRow) (last : Option Wedge) → i < length rows → row ≡ get_or rows i row
    → last_from r (last_from r last (wedges_in n row.now)) (seen_wedges n (drop (i + 1) rows)) ≡ last_from r last (seen_wedges n (drop i rows))
next_row r n rows i row last within is =
    let here : drop i rows ≡ row ∷ drop (i + 1) rows = drop-cons rows i row within ∙ ap (λ s. s ∷ drop (suc i) rows) (sym is) ∙ ap (λ k. row ∷ drop k rows) (sym (add-one i)) in
    sym (last-append r last (wedges_in n row.now) (seen_wedges n (drop (i + 1) rows))) ∙ ap (λ rs. last_from r last (seen_wedges n rs)) (sym here)

pub all_rows : (r : Direction) (n : ℕ) (rows : List (Bor EdgeRow)) (i : ℕ) (last : Option Wedge) → length rows ≤ i
    → last_from r last (seen_wedges n (drop i rows)) ≡ last_from r None (seen_wedges n rows) → last ≡ last_from r None (seen_wedges n rows)
all_rows r n rows i last all so_far = sym (ap (λ rs. last_from r last (seen_wedges n rs)) (drop_all i rows all)) ∙ so_far

-- ---- the last of half-edges
farther_seen : (r : Direction) (h k : HalfEdge) → farther r (wedge_of h) (wedge_of k) ≡ wedge_of (farther_of r h k)
farther_seen r h k = by (is_nearer r (leaving h) (leaving k))
  where
    by : (b : Bool) → cond b (wedge_of k) (wedge_of h) ≡ wedge_of (cond b k h)
    by true = refl
    by false = refl

fold_seen : (r : Direction) (h : HalfEdge) (hs : List HalfEdge) → last_from r (Some (wedge_of h)) (map wedge_of hs) ≡ Some (wedge_of (fold (farther_of r) h hs))
fold_seen r h [] = refl
fold_seen r h (k ∷ hs) = ap (λ x. last_from r (Some x) (map wedge_of hs)) (farther_seen r h k) ∙ fold_seen r (farther_of r h k) hs

last_seen : (r : Direction) (hs : List HalfEdge) → face_of_last (last_from r None (map wedge_of hs)) ≡ face_after (last_clockwise r hs)
last_seen r [] = refl
last_seen r (h ∷ hs) = ap face_of_last (fold_seen r h hs)

wedges_seen : (n : ℕ) (rows : List EdgeRow) → wedges_at n rows ≡ map wedge_of (filter (leaves n) (flat_map both_ways (map drawn_edge rows)))
wedges_seen n [] = refl
wedges_seen n (row ∷ rows) =
    let e = drawn_edge row in
    both (leaves n (forward_of e)) (leaves n (backward_of e)) (forward_of e) (backward_of e) (wedges_at n rows) (filter (leaves n) (flat_map both_ways (map drawn_edge rows))) (wedges_seen n rows)
  where
    both : (b c : Bool) (h k : HalfEdge) (ws : List Wedge) (hs : List HalfEdge) → ws ≡ map wedge_of hs
        → (only_if b (wedge_of h) ++ only_if c (wedge_of k)) ++ ws ≡ map wedge_of (cond b (h ∷ cond c (k ∷ hs) hs) (cond c (k ∷ hs) hs))
    both true true h k ws hs e = ap (λ xs. wedge_of h ∷ wedge_of k ∷ xs) e
    both true false h k ws hs e = ap (λ xs. wedge_of h ∷ xs) e
    both false true h k ws hs e = ap (λ xs. wedge_of k ∷ xs) e
    both false false h k ws hs e = e

pub face_seen : (r : Direction) (n : ℕ) (rows : List EdgeRow) → face_of_last (last_from r None (wedges_at n rows)) ≡ face_after (last_clockwise r (filter (leaves n) (flat_map both_ways (map drawn_edge rows))))
face_seen r n rows = ap (λ ws. face_of_last (last_from r None ws)) (wedges_seen n rows) ∙ last_seen r (filter (leaves n) (flat_map both_ways (map drawn_edge rows)))

-- the face of a line where the node has no containing face
none_of : (o : Option ℕ) → ((f : ℕ) → o ≡ Some f → ⊥) → o ≡ None
none_of None other = refl
none_of (Some f) other = absurd (other f refl)

none_at : (n : ℕ) (row : EdgeRow) → is_end_of n (drawn_edge row) ≡ false → wedges_in n row ≡ []
none_at n row away = by (eqb row.start_node n) (eqb row.end_node n) away
  where
    by : (b c : Bool) → (b || c) ≡ false → only_if b (wedge_of (forward_of (drawn_edge row))) ++ only_if c (wedge_of (backward_of (drawn_edge row))) ≡ []
    by true c e = absurd cc
    by false true e = absurd cc
    by false false e = refl

pub face_where : (t : Tables) (found seen : List EdgeRow) (node : NodeRow) (r : Direction) (face : ℕ) → ((f : ℕ) → node.containing_face ≡ Some f → ⊥)
    → found ≡ filter (λ (e : EdgeRow). is_end_of node.node_id (drawn_edge e)) t.edges → seen ≡ found → face ≡ face_of_last (last_from r None (wedges_at node.node_id seen)) → face ≡ wedge_face (drawn t) node r
face_where t found seen node r face other among same is =
    is ∙ ap (λ es. face_of_last (last_from r None (wedges_at node.node_id es))) (same ∙ among)
    ∙ ap (λ ws. face_of_last (last_from r None ws)) (listed (wedges_in node.node_id) (λ (e : EdgeRow). is_end_of node.node_id (drawn_edge e)) t.edges (none_at node.node_id))
    ∙ face_seen r node.node_id t.edges
    ∙ ap (λ o. unwrap_or o (face_after (last_clockwise r (filter (leaves node.node_id) (flat_map both_ways (map drawn_edge t.edges)))))) (sym (none_of node.containing_face other))
