-- An edge that comes between two isolated nodes: it lies in the face of its nodes, and closes no ring.
use Rattle.std.proofs.Common.{◌≡◌, ℕ, zero, suc, ◌≤◌, refl, sym, ap, subst, ◌∙◌, arith, Bool, true, false, cond, not, ◌&&◌, ◌||◌, ◌==◌, List, [], ◌∷◌, ◌++◌, length, filter, flat_map, append-nil, unwrap_or}
use Rattle.std.specs.List.{list_any}
use Rattle.std.proofs.lemmas.Bool.{eq-eqb, not-true, or_parts, or_right, and_right, not_from_true}
use Rattle.topo_base.specs.Point.{Point}
use Rattle.topo_base.specs.declared.rows.NodeRow.{NodeRow}
use Rattle.drawing.specs.Drawing.{Drawing, Edge, is_end_of, is_isolated}
use Rattle.plane.specs.Direction.{Direction}
use Rattle.drawing.specs.Faces.{face_after, wedge_face}
use Rattle.drawing.specs.HalfEdge.{HalfEdge, forward_of, backward_of, both_ways, half_edges, leaves, same_half_edge, twin}
use Rattle.drawing.specs.Ring.{walk, contains_half_edge}
use Rattle.drawing.specs.Star.{next_of, leaving, or_twin, first_clockwise, last_clockwise}
use Rattle.drawing.specs.IsoEdits.{with_edge}
use Rattle.drawing.specs.AddEdge.{coming}
use Rattle.edit_changes.specs.Evidence.{left_ring}

-- ---- no half-edge leaves an isolated node
neither : (b c : Bool) (x y : HalfEdge) (l r : List HalfEdge) → b ≡ false → c ≡ false → l ≡ r → cond b (x ∷ cond c (y ∷ l) l) (cond c (y ∷ l) l) ≡ r
neither true c x y l r h k e = absurd cc
neither false true x y l r h k e = absurd cc
neither false false x y l r h k e = e

none_leaves : (n : ℕ) (q : HalfEdge → Bool) → ((k : HalfEdge) → leaves n k ≡ false → q k ≡ false) → (edges more : List Edge) → list_any (is_end_of n) edges ≡ false
    → filter q (flat_map both_ways (edges ++ more)) ≡ filter q (flat_map both_ways more)
none_leaves n q off [] more h = refl
none_leaves n q off (e ∷ es) more h =
    let both = or_parts (is_end_of n e) (list_any (is_end_of n) es) h in
    let ends = or_parts (e.start_node == n) (e.end_node == n) both.0 in
    neither (q (forward_of e)) (q (backward_of e)) (forward_of e) (backward_of e) (filter q (flat_map both_ways (es ++ more))) _ (off (forward_of e) ends.0) (off (backward_of e) ends.1) (none_leaves n q off es more both.1)

pub lone_face : (S : Drawing) (n : NodeRow) (way : Direction) → is_isolated S n.node_id ≡ true → wedge_face S n way ≡ unwrap_or n.containing_face 0
lone_face S n way lone =
    let none : filter (leaves n.node_id) (half_edges S) ≡ [] =
    subst (λ l. filter (leaves n.node_id) (flat_map both_ways l) ≡ []) (append-nil S.edges) (none_leaves n.node_id (leaves n.node_id) (λ k h. h) S.edges [] (not-true (list_any (is_end_of n.node_id) S.edges) lone)) in
    ap (λ l. unwrap_or n.containing_face (face_after (last_clockwise way l))) none

-- ---- a half-edge and the next one stand in its ring
begins : (hs : List HalfEdge) (first k : HalfEdge) (more : ℕ) → same_half_edge k k ≡ true → contains_half_edge (walk hs first more k) k ≡ true
begins hs first k zero same = ap (λ b. b || false) same
begins hs first k (suc more) same = by_test (same_half_edge (next_of hs k) first)
  where
    by_test : (b : Bool) → contains_half_edge (cond b (k ∷ []) (k ∷ walk hs first more (next_of hs k))) k ≡ true
    by_test true = ap (λ b. b || false) same
    by_test false = ap (λ b. b || contains_half_edge (walk hs first more (next_of hs k)) k) same

goes_on : (hs : List HalfEdge) (h k : HalfEdge) (more : ℕ) → 1 ≤ more → next_of hs h ≡ k → same_half_edge k h ≡ false → same_half_edge k k ≡ true → contains_half_edge (walk hs h more h) k ≡ true
goes_on hs h k zero some next other same = absurd (omega arith)
goes_on hs h k (suc more) some next other same =
    subst (λ on. contains_half_edge (cond (same_half_edge on h) (h ∷ []) (h ∷ walk hs h more on)) k ≡ true) (sym next)
    (subst (λ b. contains_half_edge (cond b (h ∷ []) (h ∷ walk hs h more k)) k ≡ true) (sym other) (or_right (same_half_edge k h) _ (begins hs h k more same)))

some_there : (edges : List Edge) (e : Edge) → 1 ≤ length (flat_map both_ways (edges ++ e ∷ []))
some_there [] e = omega arith
some_there (x ∷ xs) e = omega arith

same_back : (e : Edge) → same_half_edge (backward_of e) (backward_of e) ≡ true
same_back e = ap (λ b. b && true) (eq-eqb e.edge_id e.edge_id refl)

not_forward : (e : Edge) → same_half_edge (backward_of e) (forward_of e) ≡ false
not_forward e = by_test (e.edge_id == e.edge_id)
  where
    by_test : (b : Bool) → (b && false) ≡ false
    by_test true = refl
    by_test false = refl

pub lone_joined : (S : Drawing) (a b : NodeRow) (line : List Point) (f : ℕ) → (a.node_id == b.node_id) ≡ false → is_isolated S b.node_id ≡ true
    → contains_half_edge (left_ring S a b line f) (backward_of (coming S a b line f)) ≡ true
lone_joined S a b line f differ lone =
    let e = coming S a b line f in
    let forth = forward_of e in
    let back = backward_of e in
    let hs = half_edges (with_edge S a b line f) in
    let q : HalfEdge → Bool = λ k. leaves b.node_id k && not (same_half_edge k (twin forth)) in
    let old = none_leaves b.node_id q (λ k h. ap (λ t. t && not (same_half_edge k (twin forth))) h) S.edges (e ∷ []) (not-true (list_any (is_end_of b.node_id) S.edges) lone) in
    let own = neither (q forth) (q back) forth back [] [] (ap (λ t. t && not (same_half_edge forth (twin forth))) differ) (and_right (leaves b.node_id back) (not (same_half_edge back (twin forth))) (not_from_true (same_half_edge back (twin forth)) (same_back e))) refl in
    let next : next_of hs forth ≡ back = ap (λ ks. or_twin forth (first_clockwise (leaving (twin forth)) ks)) (old ∙ own) in
    goes_on hs forth back (length hs) (some_there S.edges e) next (not_forward e) (same_back e)
