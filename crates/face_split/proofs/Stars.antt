-- The darts of an edge are in the stars of its nodes.
use Rattle.std.proofs.Common.{◌≡◌, ℕ, zero, suc, Bool, true, false, cond, List, [], ◌∷◌, IsTrue, refl, sym, ap, ◌∙◌, subst, eq-eqb, ⊎_elim}
use Rattle.std.specs.Prelude.{insert, Any}
use Rattle.std.specs.List.{Contains}
use Rattle.std.proofs.lemmas.Bool.{and_from}
use Rattle.topo_base.specs.Darts.{same_dart, same_way}
use Rattle.topo_base.specs.Point.{Point}
use Rattle.topo_base.specs.declared.ids.Dart.{Dart}
use Rattle.plane.proofs.ListTests.{contains_here, contains_there, contains_cases}
use Rattle.drawing.specs.HalfEdge.{leaves, forward_of, backward_of}
use Rattle.edge_links.specs.Rays.{Rays, edge_between, with_both, with_half_edge, with_ray, place_for}
use Rattle.drawing.specs.HalfEdge.{HalfEdge, dart_of}
use Rattle.drawing.specs.Star.{leaving}
use Rattle.face_split.specs.Added.{from_node}

-- ---- an element that is inserted, and those that were there
insert_own : {X : Type 0} (x : X) (xs : List X) (i : ℕ) → Contains (insert xs i x) x
insert_own x xs zero = contains_here x xs
insert_own x [] (suc i) = contains_here x []
insert_own x (y ∷ xs) (suc i) = contains_there x y (insert xs i x) (insert_own x xs i)

same_self : (d : Dart) → IsTrue (same_dart d d)
same_self d = and_from _ _ (eq-eqb d.edge d.edge refl) (way d.forward)
  where
    way : (b : Bool) → same_way b b ≡ true
    way true = refl
    way false = refl

-- ---- a half-edge that leaves the node is put in
put_in : (n : ℕ) (h : HalfEdge) (s : Rays) (b : Bool) → b ≡ true → Contains (cond b (with_ray (dart_of h) (leaving h) s) s).darts (dart_of h)
put_in n h s true is = insert_own (dart_of h) s.darts (place_for s.dirs (leaving h))
put_in n h s false is = absurd cc

insert_kept : (d x : Dart) (xs : List Dart) (i : ℕ) → Contains xs d → Contains (insert xs i x) d
insert_kept d x xs zero c = contains_there d x xs c
insert_kept d x [] (suc i) c = contains_there d x [] c
insert_kept d x (y ∷ xs) (suc i) c =
    ⊎_elim
    (λ (is : y ≡ d). subst (λ z. Contains (y ∷ insert xs i x) z) is (contains_here y (insert xs i x)))
    (λ (more : Contains xs d). contains_there d y (insert xs i x) (insert_kept d x xs i more))
    (contains_cases d y xs c)

kept_in : (h : HalfEdge) (t : Rays) (d : Dart) (b : Bool) → Contains t.darts d → Contains (cond b (with_ray (dart_of h) (leaving h) t) t).darts d
kept_in h t d true c = insert_kept d (dart_of h) t.darts (place_for t.dirs (leaving h)) c
kept_in h t d false c = c

-- the star of a node with the edge's dart that leaves it
with_own : (edge start end : ℕ) (line : List Point) (forward : Bool) (s : Rays)
    → Contains (with_both (from_node forward start end) (edge_between edge start end line) s).darts (record { edge = edge; forward = forward })
with_own edge start end line true s =
    let e = edge_between edge start end line in
    put_in start (forward_of e) (with_half_edge start (backward_of e) s) (leaves start (forward_of e)) (eq-eqb start start refl)
with_own edge start end line false s =
    let e = edge_between edge start end line in
    kept_in (forward_of e) (with_half_edge end (backward_of e) s) (dart_of (backward_of e)) (leaves end (forward_of e)) (put_in end (backward_of e) s (leaves end (backward_of e)) (eq-eqb end end refl))

pub own_there : (edge start end : ℕ) (line : List Point) (forward : Bool) (n : ℕ) (s t : Rays) → n ≡ from_node forward start end → t ≡ with_both n (edge_between edge start end line) s
    → Any (λ d. IsTrue (same_dart (record { edge = edge; forward = forward }) d)) t.darts
own_there edge start end line forward n s t node is =
    let own : Dart = record { edge = edge; forward = forward } in
    let there = subst (λ (u : Rays). Contains u.darts own) (sym (is ∙ ap (λ k. with_both k (edge_between edge start end line) s) node)) (with_own edge start end line forward s) in
    (there.0, own, there.1, there.2, same_self own)
