-- The links of edges where an isolated edge comes or goes: those of the others stay, and those of the edge are its own two half-edges.
use Rattle.std.proofs.Common.{◌≡◌, ℕ, ◌==◌, ◌&&◌, List, [], ◌∷◌, ◌++◌, refl, sym, ap, ◌∙◌, subst, Bool, true, false, not, eqb, eq-eqb, map, filter, cond}
use Rattle.std.specs.List.{list_any, flat_map, Contains}
use Rattle.std.proofs.lemmas.Bool.{or_parts}
use Rattle.topo_base.specs.declared.rows.EdgeRow.{EdgeRow}
use Rattle.drawing.specs.Drawing.{Edge, edge_id_of, is_end_of}
use Rattle.drawing.specs.HalfEdge.{HalfEdge, forward_of, backward_of, both_ways, twin, leaves, same_half_edge}
use Rattle.drawing.specs.Star.{next_of, or_twin, first_clockwise, leaving}
use Rattle.drawing.specs.Rows.{without_row}
use Rattle.drawing.specs.Tables.{edge_row}
use Rattle.drawing.specs.Writes.{edge_row_id}
use Rattle.plane.proofs.ListTests.{contains_here, contains_there}
use Rattle.face_boxes.proofs.Boxes.{other_way}

-- what may follow h: what leaves where it arrives, but not h walked back
abbrev may_follow : HalfEdge → HalfEdge → Bool
may_follow h k = leaves h.to_node k && not (same_half_edge k (twin h))

-- neither half-edge of e leaves where h arrives
record IsAway (e : Edge) (h : HalfEdge) : Type 0 where
  start : eqb e.start_node h.to_node ≡ false
  end : eqb e.end_node h.to_node ≡ false

away_filter : (e : Edge) (h : HalfEdge) (rest : List HalfEdge) → IsAway e h → filter (may_follow h) (forward_of e ∷ backward_of e ∷ rest) ≡ filter (may_follow h) rest
away_filter e h rest away =
    let first : may_follow h (forward_of e) ≡ false = ap (λ b. b && not (same_half_edge (forward_of e) (twin h))) away.start in
    let second : may_follow h (backward_of e) ≡ false = ap (λ b. b && not (same_half_edge (backward_of e) (twin h))) away.end in
    ap (λ b. cond b (forward_of e ∷ filter (may_follow h) (backward_of e ∷ rest)) (filter (may_follow h) (backward_of e ∷ rest))) first
    ∙ ap (λ b. cond b (backward_of e ∷ filter (may_follow h) rest) (filter (may_follow h) rest)) second

-- the same half-edge is next among others of which the same may follow
next_by_filter : (hs ks : List HalfEdge) (h : HalfEdge) → filter (may_follow h) ks ≡ filter (may_follow h) hs → next_of ks h ≡ next_of hs h
next_by_filter hs ks h e = ap (λ (fs : List HalfEdge). or_twin h (first_clockwise (leaving (twin h)) fs)) e

row_same : (hs ks : List HalfEdge) (x : Edge) → next_of ks (forward_of x) ≡ next_of hs (forward_of x) → next_of ks (backward_of x) ≡ next_of hs (backward_of x) → edge_row ks x ≡ edge_row hs x
row_same hs ks x e f = rw (e, f) refl

-- ---- an edge more
-- the ends of e are no ends of x, so e is away from both half-edges of x
away_from : (e x : Edge) → is_end_of e.start_node x ≡ false → is_end_of e.end_node x ≡ false → IsAway e (forward_of x) × IsAway e (backward_of x)
away_from e x h k =
    let starts = or_parts (x.start_node == e.start_node) (x.end_node == e.start_node) h in
    let ends = or_parts (x.start_node == e.end_node) (x.end_node == e.end_node) k in (
      record { start = other_way x.end_node e.start_node starts.1; end = other_way x.end_node e.end_node ends.1 },
      record { start = other_way x.start_node e.start_node starts.0; end = other_way x.start_node e.end_node ends.0 },
    )

added_filter : (edges : List Edge) (e : Edge) (h : HalfEdge) → IsAway e h → filter (may_follow h) (flat_map both_ways (edges ++ e ∷ [])) ≡ filter (may_follow h) (flat_map both_ways edges)
added_filter [] e h away = away_filter e h [] away
added_filter (x ∷ edges) e h away =
    let rest = added_filter edges e h away in
    ap (λ (fs : List HalfEdge). cond (may_follow h (forward_of x)) (forward_of x ∷ cond (may_follow h (backward_of x)) (backward_of x ∷ fs) fs) (cond (may_follow h (backward_of x)) (backward_of x ∷ fs) fs)) rest

-- the rows of the others stay
pub rows_added : (edges xs : List Edge) (e : Edge) → list_any (is_end_of e.start_node) xs ≡ false → list_any (is_end_of e.end_node) xs ≡ false
    → map (edge_row (flat_map both_ways (edges ++ e ∷ []))) xs ≡ map (edge_row (flat_map both_ways edges)) xs
rows_added edges [] e h k = refl
rows_added edges (x ∷ xs) e h k =
    let starts = or_parts (is_end_of e.start_node x) (list_any (is_end_of e.start_node) xs) h in
    let ends = or_parts (is_end_of e.end_node x) (list_any (is_end_of e.end_node) xs) k in
    let away = away_from e x starts.0 ends.0 in
    let hs = flat_map both_ways edges in
    let ks = flat_map both_ways (edges ++ e ∷ []) in
    let first = row_same hs ks x (next_by_filter hs ks (forward_of x) (added_filter edges e (forward_of x) away.0)) (next_by_filter hs ks (backward_of x) (added_filter edges e (backward_of x) away.1)) in
    let rest = rows_added edges xs e starts.1 ends.1 in
    cc

-- the edge's own: nothing else leaves its nodes
own_forward : (edges : List Edge) (e : Edge) → list_any (is_end_of e.end_node) edges ≡ false → eqb e.start_node e.end_node ≡ false → filter (may_follow (forward_of e)) (flat_map both_ways (edges ++ e ∷ [])) ≡ []
own_forward [] e h differ = rw (differ, eq-eqb e.end_node e.end_node refl, eq-eqb e.edge_id e.edge_id refl) refl
own_forward (x ∷ edges) e h differ =
    let both = or_parts (is_end_of e.end_node x) (list_any (is_end_of e.end_node) edges) h in
    let ends = or_parts (x.start_node == e.end_node) (x.end_node == e.end_node) both.0 in
    away_filter x (forward_of e) (flat_map both_ways (edges ++ e ∷ [])) (record { start = ends.0; end = ends.1 }) ∙ own_forward edges e both.1 differ

own_backward : (edges : List Edge) (e : Edge) → list_any (is_end_of e.start_node) edges ≡ false → eqb e.end_node e.start_node ≡ false → filter (may_follow (backward_of e)) (flat_map both_ways (edges ++ e ∷ [])) ≡ []
own_backward [] e h differ = rw (differ, eq-eqb e.start_node e.start_node refl, eq-eqb e.edge_id e.edge_id refl) refl
own_backward (x ∷ edges) e h differ =
    let both = or_parts (is_end_of e.start_node x) (list_any (is_end_of e.start_node) edges) h in
    let ends = or_parts (x.start_node == e.start_node) (x.end_node == e.start_node) both.0 in
    away_filter x (backward_of e) (flat_map both_ways (edges ++ e ∷ [])) (record { start = ends.0; end = ends.1 }) ∙ own_backward edges e both.1 differ

-- an edge whose links are its own two half-edges
abbrev pub lone_row : Edge → EdgeRow
lone_row e =
    record {
      edge_id = e.edge_id;
      start_node = e.start_node;
      end_node = e.end_node;
      next_left_edge = record { edge = e.edge_id; forward = false };
      next_right_edge = record { edge = e.edge_id; forward = true };
      left_face = e.left_face;
      right_face = e.right_face;
      geom = e.geom;
    }

pub own_row : (edges : List Edge) (e : Edge) → list_any (is_end_of e.start_node) edges ≡ false → list_any (is_end_of e.end_node) edges ≡ false → eqb e.start_node e.end_node ≡ false
    → edge_row (flat_map both_ways (edges ++ e ∷ [])) e ≡ lone_row e
own_row edges e h k differ =
    let hs = flat_map both_ways (edges ++ e ∷ []) in
    let first : next_of hs (forward_of e) ≡ twin (forward_of e) = next_by_filter [] hs (forward_of e) (own_forward edges e k differ) in
    let second : next_of hs (backward_of e) ≡ twin (backward_of e) = next_by_filter [] hs (backward_of e) (own_backward edges e h (other_way e.start_node e.end_node differ)) in
    rw (first, second) refl

-- all rows, with that of the edge that comes
map_push : {A B : Type 0} (f : A → B) (xs : List A) (x : A) → map f (xs ++ x ∷ []) ≡ map f xs ++ f x ∷ []
map_push f [] x = refl
map_push f (y ∷ xs) x = ap (λ ys. f y ∷ ys) (map_push f xs x)

pub rows_comes : (edges : List Edge) (e : Edge) → list_any (is_end_of e.start_node) edges ≡ false → list_any (is_end_of e.end_node) edges ≡ false → eqb e.start_node e.end_node ≡ false
    → map (edge_row (flat_map both_ways edges)) edges ++ lone_row e ∷ [] ≡ map (edge_row (flat_map both_ways (edges ++ e ∷ []))) (edges ++ e ∷ [])
rows_comes edges e h k differ =
    let hs = flat_map both_ways (edges ++ e ∷ []) in
    sym (map_push (edge_row hs) edges e ∙ ap (λ (r : EdgeRow). map (edge_row hs) edges ++ r ∷ []) (own_row edges e h k differ) ∙ ap (λ (rs : List EdgeRow). rs ++ lone_row e ∷ []) (rows_added edges edges e h k))

-- ---- an edge less
removed_step : (p : HalfEdge → Bool) (y : Edge) (rest kept : List Edge) (b : Bool) → (b ≡ true → (p (forward_of y) ≡ false) × (p (backward_of y) ≡ false))
    → filter p (flat_map both_ways kept) ≡ filter p (flat_map both_ways rest) → filter p (flat_map both_ways (cond (not b) (y ∷ kept) kept)) ≡ filter p (flat_map both_ways (y ∷ rest))
removed_step p y rest kept true none same = let n = none refl in let first = n.0 in let second = n.1 in same ∙ sym (rw (first, second) refl)
removed_step p y rest kept false none same =
    ap (λ (fs : List HalfEdge). cond (p (forward_of y)) (forward_of y ∷ cond (p (backward_of y)) (backward_of y ∷ fs) fs) (cond (p (backward_of y)) (backward_of y ∷ fs) fs)) same

removed_filter : (p : HalfEdge → Bool) (id : ℕ) (edges : List Edge) → ((y : Edge) → Contains edges y → eqb y.edge_id id ≡ true → (p (forward_of y) ≡ false) × (p (backward_of y) ≡ false))
    → filter p (flat_map both_ways (without_row edge_id_of edges id)) ≡ filter p (flat_map both_ways edges)
removed_filter p id [] each = refl
removed_filter p id (y ∷ edges) each =
    removed_step p y edges (without_row edge_id_of edges id) (eqb y.edge_id id) (each y (contains_here y edges)) (removed_filter p id edges (λ z c. each z (contains_there z y edges c)))

kept_step : (f g : Edge → EdgeRow) (y : Edge) (kept : List Edge) (rest : List EdgeRow) (b : Bool) → (b ≡ false → f y ≡ g y) → map f kept ≡ rest → map f (cond (not b) (y ∷ kept) kept) ≡ cond (not b) (g y ∷ rest) rest
kept_step f g y kept rest true same all = all
kept_step f g y kept rest false same all = let s = same refl in cc

pub rows_kept : (hs ks : List HalfEdge) (id : ℕ) (xs : List Edge) → ((x : Edge) → Contains xs x → eqb x.edge_id id ≡ false → edge_row ks x ≡ edge_row hs x)
    → map (edge_row ks) (without_row edge_id_of xs id) ≡ without_row edge_row_id (map (edge_row hs) xs) id
rows_kept hs ks id [] each = refl
rows_kept hs ks id (x ∷ xs) each =
    kept_step (edge_row ks) (edge_row hs) x (without_row edge_id_of xs id) (without_row edge_row_id (map (edge_row hs) xs) id) (eqb x.edge_id id) (each x (contains_here x xs))
    (rows_kept hs ks id xs (λ z c. each z (contains_there z x xs c)))

-- the rows of the others stay, where those are away from the edge that goes
pub rows_goes : (edges : List Edge) (e : Edge) → ((y : Edge) → Contains edges y → eqb y.edge_id e.edge_id ≡ true → y ≡ e)
    → ((x : Edge) → Contains edges x → eqb x.edge_id e.edge_id ≡ false → (is_end_of e.start_node x ≡ false) × (is_end_of e.end_node x ≡ false))
    → without_row edge_row_id (map (edge_row (flat_map both_ways edges)) edges) e.edge_id ≡ map (edge_row (flat_map both_ways (without_row edge_id_of edges e.edge_id))) (without_row edge_id_of edges e.edge_id)
rows_goes edges e only others =
    let hs = flat_map both_ways edges in
    let ks = flat_map both_ways (without_row edge_id_of edges e.edge_id) in
    let gone : (h : HalfEdge) → IsAway e h → filter (may_follow h) ks ≡ filter (may_follow h) hs =
    λ h away. removed_filter (may_follow h) e.edge_id edges (λ y c same.
    subst (λ (z : Edge). (may_follow h (forward_of z) ≡ false) × (may_follow h (backward_of z) ≡ false)) (sym (only y c same))
    (ap (λ b. b && not (same_half_edge (forward_of e) (twin h))) away.start, ap (λ b. b && not (same_half_edge (backward_of e) (twin h))) away.end)) in
    sym (rows_kept hs ks e.edge_id edges (λ x c other.
    let o = others x c other in
    let away = away_from e x o.0 o.1 in
    row_same hs ks x (next_by_filter hs ks (forward_of x) (gone (forward_of x) away.0)) (next_by_filter hs ks (backward_of x) (gone (backward_of x) away.1))))
