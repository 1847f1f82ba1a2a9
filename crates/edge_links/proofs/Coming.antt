-- The star of a node with the half-edges of an edge that comes last.
use Rattle.std.proofs.Common.{◌≡◌, ℕ, refl, sym, ◌∙◌, ap, subst, ◌⊎◌, inl, inr, ⊎_elim, Bool, true, false, cond, List, [], ◌∷◌, ◌++◌, filter}
use Rattle.std.specs.List.{Contains}
use Rattle.std.proofs.lemmas.List.Elements.{Contains-append_right}
use Rattle.plane.proofs.ListTests.{contains_here, contains_there, contains_cases, contains_none}
use Rattle.drawing.proofs.Members.{Pairwise}
use Rattle.drawing.specs.Drawing.{Edge}
use Rattle.drawing.specs.HalfEdge.{HalfEdge, forward_of, backward_of, both_ways, leaves, dart_of}
use Rattle.drawing.specs.Star.{leaving, insert_clockwise, clockwise, star}
use Rattle.edge_links.specs.Rays.{rays_of, with_ray, with_half_edge, with_both}
use Rattle.edge_links.proofs.RayLemmas.{ray_inserted}
use Rattle.edge_links.proofs.Sorting.{AreOrdered, swap, clockwise_push}

pub filter_append : {X : Type 0} (p : X → Bool) (xs ys : List X) → filter p (xs ++ ys) ≡ filter p xs ++ filter p ys
filter_append p [] ys = refl
filter_append p (x ∷ xs) ys = step (p x) (filter_append p xs ys)
  where
    step : (b : Bool) → filter p (xs ++ ys) ≡ filter p xs ++ filter p ys → cond b (x ∷ filter p (xs ++ ys)) (filter p (xs ++ ys)) ≡ cond b (x ∷ filter p xs) (filter p xs) ++ filter p ys
    step true e = ap (λ zs. x ∷ zs) e
    step false e = e

-- of two lists in a row
pub pairs_across : {X : Type 0} (R : X → X → Type 0) (xs ys : List X) (x y : X) → Pairwise R (xs ++ ys) → Contains xs x → Contains ys y → R x y
pairs_across R [] ys x y h c d = absurd (contains_none x c)
pairs_across R (z ∷ xs) ys x y h c d =
    ⊎_elim (λ (e : z ≡ x). subst (λ w. R w y) e (h.0 y (Contains-append_right xs ys y d))) (λ (f : Contains xs x). pairs_across R xs ys x y h.1 f d) (contains_cases x z xs c)

pub pairs_behind : {X : Type 0} (R : X → X → Type 0) (xs ys : List X) → Pairwise R (xs ++ ys) → Pairwise R ys
pairs_behind R [] ys h = h
pairs_behind R (z ∷ xs) ys h = pairs_behind R xs ys h.1

-- a half-edge put in where it leaves the node
abbrev insert_if : Bool → HalfEdge → List HalfEdge → List HalfEdge
insert_if b h ks = cond b (insert_clockwise h ks) ks

ray_if : (b : Bool) (h : HalfEdge) (ks : List HalfEdge) → cond b (with_ray (dart_of h) (leaving h) (rays_of ks)) (rays_of ks) ≡ rays_of (insert_if b h ks)
ray_if true h ks = ray_inserted h ks
ray_if false h ks = refl

append_none : (hs : List HalfEdge) → hs ++ [] ≡ hs
append_none [] = refl
append_none (h ∷ hs) = ap (λ ks. h ∷ ks) (append_none hs)

both_by : (b c : Bool) (f g : HalfEdge) (hs : List HalfEdge) → Pairwise AreOrdered (hs ++ cond b (f ∷ cond c (g ∷ []) []) (cond c (g ∷ []) []))
    → clockwise (hs ++ cond b (f ∷ cond c (g ∷ []) []) (cond c (g ∷ []) [])) ≡ insert_if b f (insert_if c g (clockwise hs))
both_by true true f g hs p =
    let near : (x : HalfEdge) → Contains hs x → AreOrdered x f = λ x d. pairs_across AreOrdered hs (f ∷ g ∷ []) x f p d (contains_here f (g ∷ [])) in
    let far : (x : HalfEdge) → Contains hs x → AreOrdered x g = λ x d. pairs_across AreOrdered hs (f ∷ g ∷ []) x g p d (contains_there g f (g ∷ []) (contains_here g [])) in
    let two : AreOrdered f g = (pairs_behind AreOrdered hs (f ∷ g ∷ []) p).0 g (contains_here g []) in
    ap clockwise (two_behind hs) ∙ clockwise_push (hs ++ f ∷ []) g (λ x d. in_push x near far two d) ∙ ap (insert_clockwise g) (clockwise_push hs f near) ∙ sym (swap f g (clockwise hs) two)
  where
    two_behind : (ks : List HalfEdge) → ks ++ f ∷ g ∷ [] ≡ (ks ++ f ∷ []) ++ g ∷ []
    two_behind [] = refl
    two_behind (k ∷ ks) = ap (λ zs. k ∷ zs) (two_behind ks)

    of_push : (ks : List HalfEdge) (x : HalfEdge) → Contains (ks ++ f ∷ []) x → Contains ks x ⊎ (f ≡ x)
    of_push [] x c = ⊎_elim (λ (e : f ≡ x). inr e) (λ (d : Contains [] x). inl d) (contains_cases x f [] c)
    of_push (k ∷ ks) x c =
        ⊎_elim
        (λ (e : k ≡ x). inl (subst (λ z. Contains (k ∷ ks) z) e (contains_here k ks)))
        (λ (d : Contains (ks ++ f ∷ []) x). ⊎_elim (λ (m : Contains ks x). inl (contains_there x k ks m)) (λ (e : f ≡ x). inr e) (of_push ks x d))
        (contains_cases x k (ks ++ f ∷ []) c)

    in_push : (x : HalfEdge) → ((x : HalfEdge) → Contains hs x → AreOrdered x f) → ((x : HalfEdge) → Contains hs x → AreOrdered x g) → AreOrdered f g → Contains (hs ++ f ∷ []) x → AreOrdered x g
    in_push x near far two d = ⊎_elim (λ (m : Contains hs x). far x m) (λ (e : f ≡ x). subst (λ z. AreOrdered z g) e two) (of_push hs x d)
both_by true false f g hs p = clockwise_push hs f (λ x d. pairs_across AreOrdered hs (f ∷ []) x f p d (contains_here f []))
both_by false true f g hs p = clockwise_push hs g (λ x d. pairs_across AreOrdered hs (g ∷ []) x g p d (contains_here g []))
both_by false false f g hs p = ap clockwise (append_none hs)

-- the star with the edge is that without it, and its half-edges put in
pub star_comes : (hs : List HalfEdge) (e : Edge) (n : ℕ) → Pairwise AreOrdered (filter (leaves n) (hs ++ both_ways e)) → with_both n e (rays_of (star hs n)) ≡ rays_of (star (hs ++ both_ways e) n)
star_comes hs e n p =
    let f = forward_of e in
    let g = backward_of e in
    let apart = filter_append (leaves n) hs (f ∷ g ∷ []) in
    ap (with_half_edge n f) (ray_if (leaves n g) g (star hs n)) ∙ ray_if (leaves n f) f (insert_if (leaves n g) g (star hs n))
    ∙ ap rays_of (sym (ap clockwise apart ∙ both_by (leaves n f) (leaves n g) f g (filter (leaves n) hs) (subst (λ ks. Pairwise AreOrdered ks) apart p)))
