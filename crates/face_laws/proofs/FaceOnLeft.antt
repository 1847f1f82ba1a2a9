-- The face on the left of a step is that of its half-edge.
use Rattle.std.proofs.Common.{◌≡◌, refl, sym, ◌∙◌, ap, subst, ⊎_elim, Bool, true, false, cond, List, [], ◌∷◌}
use Rattle.std.specs.List.{Contains}
use Rattle.std.proofs.lemmas.Bool.{and_parts, and_from, false≢true}
use Rattle.drawing.specs.Drawing.{Drawing}
use Rattle.drawing.specs.HalfEdge.{HalfEdge, half_edges, twin}
use Rattle.plane.specs.Segment.{Segment}
use Rattle.topo_base.specs.Point.{same_point}
use Rattle.plane.specs.Crossings.{back}
use Rattle.plane.proofs.ListTests.{contains_here, contains_there, contains_cases, contains_none, Decides-any}
use Rattle.face_rings.proofs.HalfLines.{HasPlainLines}
use Rattle.face_rings.proofs.HalvesApart.{twin_there}
use Rattle.parity_laws.specs.Rings.{In}
use Rattle.parity_laws.proofs.Tests.{same_self, same_is}
use Rattle.face_laws.specs.Walked.{steps_along, same_step, has_step, face_on_left, is_of}
use Rattle.face_laws.proofs.Lists.{in_contains, contains_in}
use Rattle.face_laws.proofs.PlainSteps.{one_half, step_back}

-- ---- the tests
step_is : (s t : Segment) → same_step s t ≡ true → s ≡ t
step_is s t e =
    let both = and_parts (same_point s.a t.a) (same_point s.b t.b) e in
    let ea = same_is s.a t.a both.0 in
    let eb = same_is s.b t.b both.1 in
    λ i. record { a = ea i; b = eb i }

is_step : (s t : Segment) → s ≡ t → same_step s t ≡ true
is_step s t e = subst (λ r. same_step s r ≡ true) e (and_from (same_point s.a s.a) (same_point s.b s.b) (same_self s.a) (same_self s.b))

pub has_it : (s : Segment) (h : HalfEdge) → In s (steps_along h) → has_step s h ≡ true
has_it s h i = (Decides-any (same_step s) (λ t. s ≡ t) (λ t. (step_is s t, is_step s t)) (steps_along h)).1 (s, (in_contains s (steps_along h) i, refl))

pub it_has : (s : Segment) (h : HalfEdge) → has_step s h ≡ true → In s (steps_along h)
it_has s h e =
    let (t, (c, same)) = (Decides-any (same_step s) (λ t. s ≡ t) (λ t. (step_is s t, is_step s t)) (steps_along h)).0 e in
    subst (λ r. In r (steps_along h)) (sym same) (contains_in t (steps_along h) c)

pub one_has : (hs : List HalfEdge) (s : Segment) → is_of hs s ≡ true → (h : HalfEdge) × (Contains hs h × In s (steps_along h))
one_has hs s e = (Decides-any (has_step s) (λ h. In s (steps_along h)) (λ h. (it_has s h, has_it s h)) hs).0 e

pub has_one : (hs : List HalfEdge) (s : Segment) (h : HalfEdge) → Contains hs h → In s (steps_along h) → is_of hs s ≡ true
has_one hs s h c i = (Decides-any (has_step s) (λ h. In s (steps_along h)) (λ h. (it_has s h, has_it s h)) hs).1 (h, (c, i))

-- ---- the face
left_of_one : (hs : List HalfEdge) (s : Segment) (h : HalfEdge) → ((k : HalfEdge) → Contains hs k → In s (steps_along k) → k ≡ h) → Contains hs h → In s (steps_along h) → face_on_left hs s ≡ h.on_left
left_of_one [] s h one c i = absurd (contains_none h c)
left_of_one (k ∷ hs) s h one c i = by_test (has_step s k) refl (λ d. left_of_one hs s h (λ m d j. one m (contains_there m k hs d) j) d i)
  where
    by_test : (t : Bool) → has_step s k ≡ t → (Contains hs h → face_on_left hs s ≡ h.on_left) → cond t k.on_left (face_on_left hs s) ≡ h.on_left
    by_test true e rest = ap (λ (x : HalfEdge). x.on_left) (one k (contains_here k hs) (it_has s k e))
    by_test false e rest =
        ⊎_elim
        (λ (p : k ≡ h). absurd (false≢true (sym e ∙ has_it s k (subst (λ (x : HalfEdge). In s (steps_along x)) (sym p) i))))
        (λ (d : Contains hs h). rest d)
        (contains_cases h k hs c)

pub left_is : (S : Drawing) (h : HalfEdge) (s : Segment) → HasPlainLines S → Contains (half_edges S) h → In s (steps_along h) → face_on_left (half_edges S) s ≡ h.on_left
left_is S h s good c i = left_of_one (half_edges S) s h (λ k d j. one_half S k h s good d c j i) c i

pub right_is : (S : Drawing) (h : HalfEdge) (s : Segment) → HasPlainLines S → Contains (half_edges S) h → In s (steps_along h) → face_on_left (half_edges S) (back s) ≡ h.on_right
right_is S h s good c i = left_is S (twin h) (back s) good (twin_there S.edges h c) (step_back h s i)
