-- What follows a half-edge where an edge has come last: what followed it before, or a half-edge of that edge.
use Rattle.std.proofs.Common.{◌≡◌, refl, sym, ◌∙◌, ap, subst, Bool, true, false, cond, ◌⊎◌, inl, inr, ⊎_elim, List, [], ◌∷◌, ◌++◌, filter, fold, IsTrue}
use Rattle.std.specs.Prelude.{flat_map, not}
use Rattle.std.specs.List.{Contains}
use Rattle.std.proofs.lemmas.Bool.{and_parts}
use Rattle.plane.proofs.ListTests.{contains_here, contains_there}
use Rattle.drawing.proofs.Members.{contains-filtered}
use Rattle.plane.specs.Direction.{Direction, is_nearer}
use Rattle.drawing.specs.Drawing.{Edge}
use Rattle.drawing.specs.HalfEdge.{HalfEdge, both_ways, twin, leaves, same_half_edge}
use Rattle.drawing.specs.Star.{leaving, nearer_of, first_clockwise, or_twin, next_of}
use Rattle.edge_links.proofs.Coming.{filter_append}
use Rattle.edge_links.proofs.Following.{may_follow}

-- the half-edges, with those of an edge more
pub half_edges_push : (edges : List Edge) (e : Edge) → flat_map both_ways (edges ++ e ∷ []) ≡ flat_map both_ways edges ++ both_ways e
half_edges_push [] e = refl
half_edges_push (x ∷ edges) e = ap (λ hs. both_ways x ++ hs) (half_edges_push edges e)

fold_append : (f : HalfEdge → HalfEdge → HalfEdge) (h : HalfEdge) (hs ks : List HalfEdge) → fold f h (hs ++ ks) ≡ fold f (fold f h hs) ks
fold_append f h [] ks = refl
fold_append f h (x ∷ hs) ks = fold_append f (f h x) hs ks

-- the nearest so far stays, or is one of those that are looked at
fold_cases : (r : Direction) (h : HalfEdge) (ks : List HalfEdge) → (fold (nearer_of r) h ks ≡ h) ⊎ Contains ks (fold (nearer_of r) h ks)
fold_cases r h [] = inl refl
fold_cases r h (k ∷ ks) = by_nearer (is_nearer r (leaving k) (leaving h)) (λ z. fold_cases r z ks)
  where
    by_nearer : (b : Bool) → ((z : HalfEdge) → (fold (nearer_of r) z ks ≡ z) ⊎ Contains ks (fold (nearer_of r) z ks)) → (fold (nearer_of r) (cond b k h) ks ≡ h) ⊎ Contains (k ∷ ks) (fold (nearer_of r) (cond b k h) ks)
    by_nearer true rest =
        ⊎_elim
        (λ (e : fold (nearer_of r) k ks ≡ k). inr (subst (λ z. Contains (k ∷ ks) z) (sym e) (contains_here k ks)))
        (λ (c : Contains ks (fold (nearer_of r) k ks)). inr (contains_there (fold (nearer_of r) k ks) k ks c))
        (rest k)
    by_nearer false rest =
        ⊎_elim
        (λ (e : fold (nearer_of r) h ks ≡ h). inl e)
        (λ (c : Contains ks (fold (nearer_of r) h ks)). inr (contains_there (fold (nearer_of r) h ks) k ks c))
        (rest h)

first_cases : (h : HalfEdge) (r : Direction) (fs gs : List HalfEdge) → (or_twin h (first_clockwise r (fs ++ gs)) ≡ or_twin h (first_clockwise r fs)) ⊎ Contains gs (or_twin h (first_clockwise r (fs ++ gs)))
first_cases h r [] [] = inl refl
first_cases h r [] (g ∷ gs) =
    ⊎_elim
    (λ (e : fold (nearer_of r) g gs ≡ g). inr (subst (λ z. Contains (g ∷ gs) z) (sym e) (contains_here g gs)))
    (λ (c : Contains gs (fold (nearer_of r) g gs)). inr (contains_there (fold (nearer_of r) g gs) g gs c))
    (fold_cases r g gs)
first_cases h r (f ∷ fs) gs =
    ⊎_elim
    (λ (e : fold (nearer_of r) (fold (nearer_of r) f fs) gs ≡ fold (nearer_of r) f fs). inl (fold_append (nearer_of r) f fs gs ∙ e))
    (λ (c : Contains gs (fold (nearer_of r) (fold (nearer_of r) f fs) gs)). inr (subst (λ z. Contains gs z) (sym (fold_append (nearer_of r) f fs gs)) c))
    (fold_cases r (fold (nearer_of r) f fs) gs)

pub next_cases : (hs : List HalfEdge) (e : Edge) (h : HalfEdge) →
    (next_of (hs ++ both_ways e) h ≡ next_of hs h) ⊎ (Contains (both_ways e) (next_of (hs ++ both_ways e) h) × IsTrue (leaves h.to_node (next_of (hs ++ both_ways e) h)))
next_cases hs e h =
    let r = leaving (twin h) in
    let parts = filter_append (may_follow h) hs (both_ways e) in
    let is = ap (λ (fs : List HalfEdge). or_twin h (first_clockwise r fs)) parts in
    ⊎_elim
    (λ (s : or_twin h (first_clockwise r (filter (may_follow h) hs ++ filter (may_follow h) (both_ways e))) ≡ next_of hs h). inl (is ∙ s))
    (λ (c : Contains (filter (may_follow h) (both_ways e)) (or_twin h (first_clockwise r (filter (may_follow h) hs ++ filter (may_follow h) (both_ways e))))).
    let found = contains-filtered (may_follow h) (next_of (hs ++ both_ways e) h) (both_ways e) (subst (λ z. Contains (filter (may_follow h) (both_ways e)) z) (sym is) c) in
    inr (found.0, (and_parts (leaves h.to_node (next_of (hs ++ both_ways e) h)) (not (same_half_edge (next_of (hs ++ both_ways e) h) (twin h))) found.1).0))
    (first_cases h r (filter (may_follow h) hs) (filter (may_follow h) (both_ways e)))
