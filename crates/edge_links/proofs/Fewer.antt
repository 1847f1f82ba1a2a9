-- The star of a node where an edge has gone.
use Rattle.std.proofs.Common.{◌≡◌, ℕ, refl, sym, ◌∙◌, ap, subst, ⊎_elim, Bool, true, false, not, cond, List, [], ◌∷◌, filter, map, IsTrue}
use Rattle.std.specs.Prelude.{◌==◌, flat_map}
use Rattle.std.specs.List.{Contains}
use Rattle.std.proofs.lemmas.Bool.{and_parts, both_ways as both_true}
use Rattle.plane.proofs.Directions.{nearer_onward}
use Rattle.plane.proofs.ListTests.{contains_here, contains_there, contains_cases, contains_none}
use Rattle.drawing.proofs.Members.{Pairwise, contains-filtered, pairwise-filter}
use Rattle.plane.specs.Direction.{straight_up}
use Rattle.drawing.specs.Drawing.{Edge, edge_id_of}
use Rattle.drawing.specs.HalfEdge.{HalfEdge, forward_of, backward_of, both_ways, leaves, dart_of}
use Rattle.drawing.specs.Rows.{without_row}
use Rattle.drawing.specs.Star.{leaving, insert_clockwise, clockwise, star}
use Rattle.edge_links.specs.Unlinks.{is_other, others}
use Rattle.edge_links.proofs.Following.{IsStar}
use Rattle.edge_links.proofs.Sorting.{AreOrdered, are_sorted, first_of_two, clockwise_sorted, tail_sorted}

-- a half-edge of another edge
abbrev pub is_other_half : ℕ → HalfEdge → Bool
is_other_half id h = not (h.edge_id == id)

-- ---- tests one after the other
filter_swap : {X : Type 0} (p q : X → Bool) (xs : List X) → filter p (filter q xs) ≡ filter q (filter p xs)
filter_swap p q [] = refl
filter_swap {X = X} p q (x ∷ xs) = by_tests (p x) refl (q x) refl (filter_swap p q xs)
  where
    keeps : (r : X → Bool) (ys : List X) → r x ≡ true → filter r (x ∷ ys) ≡ x ∷ filter r ys
    keeps r ys e = ap (λ b. cond b (x ∷ filter r ys) (filter r ys)) e

    leaves_out : (r : X → Bool) (ys : List X) → r x ≡ false → filter r (x ∷ ys) ≡ filter r ys
    leaves_out r ys e = ap (λ b. cond b (x ∷ filter r ys) (filter r ys)) e

    by_tests : (b : Bool) → p x ≡ b → (c : Bool) → q x ≡ c → filter p (filter q xs) ≡ filter q (filter p xs) → filter p (cond c (x ∷ filter q xs) (filter q xs)) ≡ filter q (cond b (x ∷ filter p xs) (filter p xs))
    by_tests true e true f rest = keeps p (filter q xs) e ∙ ap (λ zs. x ∷ zs) rest ∙ sym (keeps q (filter p xs) f)
    by_tests true e false f rest = rest ∙ sym (leaves_out q (filter p xs) f)
    by_tests false e true f rest = leaves_out p (filter q xs) e ∙ rest
    by_tests false e false f rest = rest

-- one test after another that says more changes nothing
pub filter_same : {X : Type 0} (p q : X → Bool) (xs : List X) → ((x : X) → Contains xs x → q x ≡ true → p x ≡ true) → filter q (filter p xs) ≡ filter q xs
filter_same p q [] each = refl
filter_same {X = X} p q (x ∷ xs) each = by_tests (p x) refl (q x) refl (filter_same p q xs (λ y c. each y (contains_there y x xs c)))
  where
    by_tests : (b : Bool) → p x ≡ b → (c : Bool) → q x ≡ c → filter q (filter p xs) ≡ filter q xs → filter q (cond b (x ∷ filter p xs) (filter p xs)) ≡ cond c (x ∷ filter q xs) (filter q xs)
    by_tests true e true f rest = ap (λ b. cond b (x ∷ filter q (filter p xs)) (filter q (filter p xs))) f ∙ ap (λ zs. x ∷ zs) rest
    by_tests true e false f rest = ap (λ b. cond b (x ∷ filter q (filter p xs)) (filter q (filter p xs))) f ∙ rest
    by_tests false e true f rest = absurd (both_true (p x) e (each x (contains_here x xs) f))
    by_tests false e false f rest = rest

pub filter_map : {X Y : Type 0} (f : X → Y) (p : Y → Bool) (xs : List X) → filter p (map f xs) ≡ map f (filter (λ x. p (f x)) xs)
filter_map f p [] = refl
filter_map f p (x ∷ xs) = by_test (p (f x)) (filter_map f p xs)
  where
    by_test : (b : Bool) → filter p (map f xs) ≡ map f (filter (λ x. p (f x)) xs) → cond b (f x ∷ filter p (map f xs)) (filter p (map f xs)) ≡ map f (cond b (x ∷ filter (λ x. p (f x)) xs) (filter (λ x. p (f x)) xs))
    by_test true rest = ap (λ zs. f x ∷ zs) rest
    by_test false rest = rest

-- ---- the half-edges of the edges that stay
pub half_edges_fewer : (id : ℕ) (edges : List Edge) → flat_map both_ways (without_row edge_id_of edges id) ≡ filter (is_other_half id) (flat_map both_ways edges)
half_edges_fewer id [] = refl
half_edges_fewer id (x ∷ edges) = by_test (not (x.edge_id == id)) (half_edges_fewer id edges)
  where
    by_test : (b : Bool) → flat_map both_ways (without_row edge_id_of edges id) ≡ filter (is_other_half id) (flat_map both_ways edges)
        → flat_map both_ways (cond b (x ∷ without_row edge_id_of edges id) (without_row edge_id_of edges id))
        ≡ cond b (forward_of x ∷ cond b (backward_of x ∷ filter (is_other_half id) (flat_map both_ways edges)) (filter (is_other_half id) (flat_map both_ways edges)))
        (cond b (backward_of x ∷ filter (is_other_half id) (flat_map both_ways edges)) (filter (is_other_half id) (flat_map both_ways edges)))
    by_test true rest = ap (λ hs. forward_of x ∷ backward_of x ∷ hs) rest
    by_test false rest = rest

-- ---- fewer in a star
-- what comes before the first comes before all
before_all : (h k x : HalfEdge) (ks : List HalfEdge) → IsTrue (first_of_two h k) → IsTrue (are_sorted (k ∷ ks)) → Contains (k ∷ ks) x → IsTrue (first_of_two h x)
before_all h k x [] hk sorted c = ⊎_elim (λ (e : k ≡ x). subst (λ z. IsTrue (first_of_two h z)) e hk) (λ (d : Contains [] x). absurd (contains_none x d)) (contains_cases x k [] c)
before_all h k x (y ∷ ks) hk sorted c =
    let both = and_parts (first_of_two k y) (are_sorted (y ∷ ks)) sorted in
    ⊎_elim
    (λ (e : k ≡ x). subst (λ z. IsTrue (first_of_two h z)) e hk)
    (λ (d : Contains (y ∷ ks) x). before_all h y x ks (nearer_onward straight_up (leaving h) (leaving k) (leaving y) hk both.0) both.1 d)
    (contains_cases x k (y ∷ ks) c)

put_first : (h : HalfEdge) (ks : List HalfEdge) → ((x : HalfEdge) → Contains ks x → IsTrue (first_of_two h x)) → insert_clockwise h ks ≡ h ∷ ks
put_first h [] each = refl
put_first h (k ∷ ks) each = ap (λ b. cond b (h ∷ k ∷ ks) (k ∷ insert_clockwise h ks)) (each k (contains_here k ks))

kept_insert : (p : HalfEdge → Bool) (h : HalfEdge) (ks : List HalfEdge) → p h ≡ true → IsTrue (are_sorted ks) → filter p (insert_clockwise h ks) ≡ insert_clockwise h (filter p ks)
kept_insert p h [] own sorted = ap (λ b. cond b (h ∷ []) []) own
kept_insert p h (k ∷ ks) own sorted = by_tests (first_of_two h k) refl (p k) refl (kept_insert p h ks own (tail_sorted k ks sorted))
  where
    by_tests : (b : Bool) → first_of_two h k ≡ b → (c : Bool) → p k ≡ c → filter p (insert_clockwise h ks) ≡ insert_clockwise h (filter p ks)
        → filter p (cond b (h ∷ k ∷ ks) (k ∷ insert_clockwise h ks)) ≡ insert_clockwise h (cond c (k ∷ filter p ks) (filter p ks))
    by_tests true e c f rest =
        ap (λ b. cond b (h ∷ filter p (k ∷ ks)) (filter p (k ∷ ks))) own
        ∙ sym (put_first h (filter p (k ∷ ks)) (λ x d. before_all h k x ks e sorted (contains-filtered p x (k ∷ ks) d).0))
        ∙ ap (λ b. insert_clockwise h (cond b (k ∷ filter p ks) (filter p ks))) f
    by_tests false e true f rest =
        ap (λ b. cond b (k ∷ filter p (insert_clockwise h ks)) (filter p (insert_clockwise h ks))) f ∙ ap (λ zs. k ∷ zs) rest
        ∙ sym (ap (λ b. cond b (h ∷ k ∷ filter p ks) (k ∷ insert_clockwise h (filter p ks))) e)
    by_tests false e false f rest = ap (λ b. cond b (k ∷ filter p (insert_clockwise h ks)) (filter p (insert_clockwise h ks))) f ∙ rest

gone_insert : (p : HalfEdge → Bool) (h : HalfEdge) (ks : List HalfEdge) → p h ≡ false → filter p (insert_clockwise h ks) ≡ filter p ks
gone_insert p h [] own = ap (λ b. cond b (h ∷ []) []) own
gone_insert p h (k ∷ ks) own = by_test (first_of_two h k) (gone_insert p h ks own)
  where
    by_test : (b : Bool) → filter p (insert_clockwise h ks) ≡ filter p ks → filter p (cond b (h ∷ k ∷ ks) (k ∷ insert_clockwise h ks)) ≡ filter p (k ∷ ks)
    by_test true rest = ap (λ b. cond b (h ∷ filter p (k ∷ ks)) (filter p (k ∷ ks))) own
    by_test false rest = ap (λ zs. cond (p k) (k ∷ zs) zs) rest

clockwise_fewer : (p : HalfEdge → Bool) (hs : List HalfEdge) → Pairwise AreOrdered hs → filter p (clockwise hs) ≡ clockwise (filter p hs)
clockwise_fewer p [] o = refl
clockwise_fewer p (h ∷ hs) o = by_test (p h) refl (clockwise_fewer p hs o.1)
  where
    by_test : (b : Bool) → p h ≡ b → filter p (clockwise hs) ≡ clockwise (filter p hs) → filter p (insert_clockwise h (clockwise hs)) ≡ clockwise (cond b (h ∷ filter p hs) (filter p hs))
    by_test true e rest = kept_insert p h (clockwise hs) e (clockwise_sorted hs o.1) ∙ ap (insert_clockwise h) rest
    by_test false e rest = gone_insert p h (clockwise hs) e ∙ rest

-- the star where the edge has gone
pub star_fewer : (id n : ℕ) (edges : List Edge) → Pairwise AreOrdered (filter (leaves n) (flat_map both_ways edges)) → star (flat_map both_ways (without_row edge_id_of edges id)) n ≡ filter (is_other_half id) (star (flat_map both_ways edges) n)
star_fewer id n edges o =
    let hs = flat_map both_ways edges in
    ap (λ ks. star ks n) (half_edges_fewer id edges) ∙ ap clockwise (filter_swap (leaves n) (is_other_half id) hs) ∙ sym (clockwise_fewer (is_other_half id) (filter (leaves n) hs) o)

pub darts_fewer : (id n : ℕ) (edges : List Edge) → Pairwise AreOrdered (filter (leaves n) (flat_map both_ways edges))
    → others id (map dart_of (star (flat_map both_ways edges) n)) ≡ map dart_of (star (flat_map both_ways (without_row edge_id_of edges id)) n)
darts_fewer id n edges o = filter_map dart_of (is_other id) (star (flat_map both_ways edges) n) ∙ ap (map dart_of) (sym (star_fewer id n edges o))

pub is_star_fewer : (id n : ℕ) (edges : List Edge) → Pairwise AreOrdered (filter (leaves n) (flat_map both_ways edges)) → IsStar edges n → IsStar (without_row edge_id_of edges id) n
is_star_fewer id n edges o ok = record {
  ids = pairwise-filter (λ (x y : Edge). x.edge_id ≡ y.edge_id → ⊥) (λ (x : Edge). not (x.edge_id == id)) edges ok.ids;
  some = λ h c. ok.some h (contains-filtered (is_other_half id) h (star (flat_map both_ways edges) n) (subst (λ hs. Contains hs h) (star_fewer id n edges o) c)).0;
  sorted = subst (λ hs. IsTrue (are_sorted (clockwise hs)))
      (sym (ap (filter (leaves n)) (half_edges_fewer id edges) ∙ filter_swap (leaves n) (is_other_half id) (flat_map both_ways edges)))
      (clockwise_sorted (filter (is_other_half id) (filter (leaves n) (flat_map both_ways edges))) (pairwise-filter AreOrdered (is_other_half id) (filter (leaves n) (flat_map both_ways edges)) o));
}
