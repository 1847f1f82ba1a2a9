-- Which face a step has on its left is one for each ring, and so is whether it is of a ring; each ring is one.
use Rattle.std.proofs.Common.{◌≡◌, ℕ, zero, suc, ◌-◌, refl, sym, ◌∙◌, ap, subst, arith, ◌⊎◌, inl, inr, ⊎_elim, Bool, true, false, cond, [], ◌∷◌, length, slice_get, get_or, Some}
use Rattle.std.specs.List.{Contains}
use Rattle.std.proofs.lemmas.Bool.{cases_eq, false_from_ne_true}
use Rattle.std.proofs.lemmas.Option.{slice_get_within, slice_get-get_or}
use lib.Dec.{eqb}
use Rattle.drawing.specs.Drawing.{Drawing}
use Rattle.drawing.specs.HalfEdge.{HalfEdge, half_edges, same_half_edge, dart_of}
use Rattle.plane.specs.Line.{segments_of, no_point}
use Rattle.drawing.specs.Ring.{walk, ring_of, contains_half_edge}
use Rattle.plane.specs.Segment.{Segment}
use Rattle.drawing.specs.Star.{next_of}
use Rattle.plane.proofs.ListTests.{some_same, contains_here, contains_cases, contains_none, Decides-any}
use Rattle.face_rings.specs.FaceBorder.{HasRings}
use Rattle.face_rings.proofs.FaceBorders.{has_plain_lines, half_by_dart}
use Rattle.face_rings.proofs.HalfLines.{HasPlainLines}
use Rattle.face_rings.proofs.NextApart.{next_there}
use Rattle.face_rings.proofs.Ranks.{same_out as same_dart_out, same_self}
use Rattle.ring_laws.proofs.RingParts.{IsStep, step_on, contains_same}
use Rattle.ring_laws.proofs.Turning.{left_stays, same_test}
use Rattle.parity_laws.specs.Rings.{In, Ringwise, OneRing, of_face}
use Rattle.face_laws.specs.Walked.{steps_along, steps_of, face_on_left, is_of}
use Rattle.face_laws.proofs.FaceOnLeft.{left_is, one_has, has_one}
use Rattle.face_laws.proofs.Following.{labels_ringwise, has_steps}
use Rattle.face_laws.proofs.InnerTurns.{inner_next}
use Rattle.face_laws.proofs.Lists.{place_in, in_place}
use Rattle.face_laws.proofs.NextTurns.{half_next}
use Rattle.face_laws.proofs.PlainSteps.{one_half, step_there}

-- ---- faces
pub face_ringwise : (S : Drawing) (f : ℕ) → HasRings S → Ringwise (steps_of S) (of_face (face_on_left (half_edges S)) f)
face_ringwise S f has =
    labels_ringwise S (of_face (face_on_left (half_edges S)) f) (λ (h : HalfEdge). eqb h.on_left f) (has_plain_lines S has) (record {
      each = λ h s c i. ap (λ g. eqb g f) (left_is S h s (has_plain_lines S has) c i);
      next = λ h c. ap (λ g. eqb g f) (left_stays S h has.one_face c);
    })

-- ---- half-edges of a ring
-- they have one face on their left
walk_steps : (S : Drawing) (f : ℕ) (first h m : HalfEdge) (n : ℕ) → IsStep S f h → Contains (walk (half_edges S) first n h) m → IsStep S f m
walk_steps S f first h m zero s w = ⊎_elim (λ (p : h ≡ m). subst (IsStep S f) p s) (λ (d : Contains [] m). absurd (contains_none m d)) (contains_cases m h [] w)
walk_steps S f first h m (suc n) s w = by_test (same_half_edge (next_of (half_edges S) h) first) (λ k. walk_steps S f first (next_of (half_edges S) h) m n (step_on S f h s) k) w
  where
    by_test : (t : Bool) → (Contains (walk (half_edges S) first n (next_of (half_edges S) h)) m → IsStep S f m) → Contains (cond t (h ∷ []) (h ∷ walk (half_edges S) first n (next_of (half_edges S) h))) m → IsStep S f m
    by_test true rest w = ⊎_elim (λ (p : h ≡ m). subst (IsStep S f) p s) (λ (d : Contains [] m). absurd (contains_none m d)) (contains_cases m h [] w)
    by_test false rest w = ⊎_elim (λ (p : h ≡ m). subst (IsStep S f) p s) (λ (d : Contains (walk (half_edges S) first n (next_of (half_edges S) h)) m). rest d) (contains_cases m h (walk (half_edges S) first n (next_of (half_edges S) h)) w)

own_step : (S : Drawing) (h : HalfEdge) → HasRings S → Contains (half_edges S) h → IsStep S h.on_left h
own_step S h has c = record { rings = has; there = c; left = refl }

pub ring_steps : (S : Drawing) (h m : HalfEdge) → HasRings S → Contains (half_edges S) h → Contains (ring_of (half_edges S) h) m → IsStep S h.on_left m
ring_steps S h m has c w = walk_steps S h.on_left h h m (length (half_edges S)) (own_step S h has c) w

-- the half-edge itself is one of them
pub in_own_ring : (S : Drawing) (h : HalfEdge) → Contains (ring_of (half_edges S) h) h
in_own_ring S h = begins h (length (half_edges S))
  where
    begins : (first : HalfEdge) (n : ℕ) → Contains (walk (half_edges S) first n h) h
    begins first zero = contains_here h []
    begins first (suc n) = by_test (same_half_edge (next_of (half_edges S) h) first)
      where
        by_test : (t : Bool) → Contains (cond t (h ∷ []) (h ∷ walk (half_edges S) first n (next_of (half_edges S) h))) h
        by_test true = contains_here h []
        by_test false = contains_here h (walk (half_edges S) first n (next_of (half_edges S) h))

-- the test of a ring's half-edges
pub has_half : (S : Drawing) (h k : HalfEdge) → HasRings S → Contains (half_edges S) h → Contains (half_edges S) k → contains_half_edge (ring_of (half_edges S) h) k ≡ true → Contains (ring_of (half_edges S) h) k
has_half S h k has ch ck e =
    let (m, (c, same)) = (Decides-any (same_half_edge k) (λ m. same_half_edge k m ≡ true) (λ m. (λ t. t, λ t. t)) (ring_of (half_edges S) h)).0 e in
    subst (Contains (ring_of (half_edges S) h))
    (sym (half_by_dart S k m (has_plain_lines S has) ck (ring_steps S h m has ch c).there (same_dart_out (dart_of k) (dart_of m) same))) c

half_in : (S : Drawing) (h k : HalfEdge) → Contains (ring_of (half_edges S) h) k → contains_half_edge (ring_of (half_edges S) h) k ≡ true
half_in S h k c = (Decides-any (same_half_edge k) (λ m. same_half_edge k m ≡ true) (λ m. (λ t. t, λ t. t)) (ring_of (half_edges S) h)).1 (k, (c, same_self (dart_of k)))

-- a step is of the ring where its half-edge is
pub step_of_ring : (S : Drawing) (h k : HalfEdge) (s : Segment) → HasRings S → Contains (half_edges S) h → Contains (half_edges S) k → In s (steps_along k) →
    is_of (ring_of (half_edges S) h) s ≡ contains_half_edge (ring_of (half_edges S) h) k
step_of_ring S h k s has ch ck i =
    same_test (is_of (ring_of (half_edges S) h) s) (contains_half_edge (ring_of (half_edges S) h) k)
    (λ e.
    let (m, (c, j)) = one_has (ring_of (half_edges S) h) s e in
    half_in S h k (subst (Contains (ring_of (half_edges S) h)) (one_half S m k s (has_plain_lines S has) (ring_steps S h m has ch c).there ck j i) c))
    (λ e. has_one (ring_of (half_edges S) h) s k (has_half S h k has ch ck e) i)

pub ring_ringwise : (S : Drawing) (h : HalfEdge) → HasRings S → Contains (half_edges S) h → Ringwise (steps_of S) (is_of (ring_of (half_edges S) h))
ring_ringwise S h has ch =
    labels_ringwise S (is_of (ring_of (half_edges S) h)) (contains_half_edge (ring_of (half_edges S) h)) (has_plain_lines S has) (record {
      each = λ k s ck i. step_of_ring S h k s has ch ck i;
      next = λ k ck. by_face k ck (cases_eq k.on_left h.on_left);
    })
  where
    -- of another face none is in it
    none : (k : HalfEdge) → Contains (half_edges S) k → (k.on_left ≡ h.on_left → ⊥) → contains_half_edge (ring_of (half_edges S) h) k ≡ false
    none k ck far = false_from_ne_true (contains_half_edge (ring_of (half_edges S) h) k) (λ e. far (ring_steps S h k has ch (has_half S h k has ch ck e)).left)

    by_face : (k : HalfEdge) → Contains (half_edges S) k → (k.on_left ≡ h.on_left) ⊎ (k.on_left ≡ h.on_left → ⊥) →
        contains_half_edge (ring_of (half_edges S) h) k ≡ contains_half_edge (ring_of (half_edges S) h) (next_of (half_edges S) k)
    by_face k ck (inl e) = contains_same S h.on_left h k (own_step S h has ch) (record { rings = has; there = ck; left = e })
    by_face k ck (inr far) =
        none k ck far
        ∙ sym (none (next_of (half_edges S) k) (next_there S k (has_plain_lines S has) ck) (λ e. far (left_stays S k has.one_face ck ∙ e)))

pub own_steps : (S : Drawing) (h : HalfEdge) (s : Segment) → In s (steps_along h) → is_of (ring_of (half_edges S) h) s ≡ true
own_steps S h s i = has_one (ring_of (half_edges S) h) s h (in_own_ring S h) i

-- ---- a label that is one for each ring
-- is one on a half-edge
abbrev pub first_step : HalfEdge → Segment
first_step h = get_or (segments_of h.points) 0 (record { a = no_point; b = no_point })

pub first_there : (S : Drawing) (h : HalfEdge) → HasPlainLines S → Contains (half_edges S) h → slice_get (segments_of h.points) 0 ≡ Some (first_step h)
first_there S h good c = slice_get-get_or (segments_of h.points) 0 (record { a = no_point; b = no_point }) (has_steps S h good c)

along_half : (S : Drawing) (label : Segment → Bool) (h : HalfEdge) (k : ℕ) (s : Segment) → HasPlainLines S → Ringwise (steps_of S) label → Contains (half_edges S) h →
    slice_get (segments_of h.points) k ≡ Some s → label s ≡ label (first_step h)
along_half S label h zero s good one c e = ap label (some_same s (first_step h) (sym e ∙ first_there S h good c))
along_half S label h (suc k) s good one c e =
    let within = slice_get_within (segments_of h.points) (suc k) s e in
    let r = get_or (segments_of h.points) k s in
    let f = slice_get-get_or (segments_of h.points) k s (omega (arith, within)) in
    let there = λ (x : Segment) (j : ℕ) (g : slice_get (segments_of h.points) j ≡ Some x). step_there S h x c (in_place x (segments_of h.points) j g) in
    sym (one r s (there r k f) (there s (suc k) e) (inner_next S h k r s (record { good = good; there = c; two = record { first = f; second = e } })))
    ∙ along_half S label h k r good one c f

pub one_on_half : (S : Drawing) (label : Segment → Bool) (h : HalfEdge) (s : Segment) → HasPlainLines S → Ringwise (steps_of S) label → Contains (half_edges S) h → In s (steps_along h) →
    label s ≡ label (first_step h)
one_on_half S label h s good one c i = let (k, e) = place_in s (segments_of h.points) i in along_half S label h k s good one c e

-- and on the next one
pub one_on_next : (S : Drawing) (label : Segment → Bool) (h : HalfEdge) → HasPlainLines S → Ringwise (steps_of S) label → Contains (half_edges S) h →
    label (first_step h) ≡ label (first_step (next_of (half_edges S) h))
one_on_next S label h good one c =
    let some = has_steps S h good c in
    let k = length (segments_of h.points) - 1 in
    let d = get_or (segments_of h.points) k (first_step h) in
    let e = slice_get-get_or (segments_of h.points) k (first_step h) (omega (arith, some)) in
    let next = next_of (half_edges S) h in
    let n = first_step next in
    let there = next_there S h good c in
    let f = first_there S next good there in
    sym (along_half S label h k d good one c e)
    ∙ one d n (step_there S h d c (in_place d (segments_of h.points) k e)) (step_there S next n there (in_place n (segments_of next.points) 0 f))
    (half_next S h d n good c (record { place = k; there = e; last = omega (arith, some) }) f)

walk_one : (S : Drawing) (label : Segment → Bool) (first h m : HalfEdge) (n : ℕ) → HasPlainLines S → Ringwise (steps_of S) label → Contains (half_edges S) h →
    Contains (walk (half_edges S) first n h) m → label (first_step m) ≡ label (first_step h)
walk_one S label first h m zero good one c w = ⊎_elim (λ (p : h ≡ m). ap (λ x. label (first_step x)) (sym p)) (λ (d : Contains [] m). absurd (contains_none m d)) (contains_cases m h [] w)
walk_one S label first h m (suc n) good one c w =
    by_test (same_half_edge (next_of (half_edges S) h) first)
    (λ k. walk_one S label first (next_of (half_edges S) h) m n good one (next_there S h good c) k ∙ sym (one_on_next S label h good one c)) w
  where
    by_test : (t : Bool) → (Contains (walk (half_edges S) first n (next_of (half_edges S) h)) m → label (first_step m) ≡ label (first_step h)) →
        Contains (cond t (h ∷ []) (h ∷ walk (half_edges S) first n (next_of (half_edges S) h))) m → label (first_step m) ≡ label (first_step h)
    by_test true rest w = ⊎_elim (λ (p : h ≡ m). ap (λ x. label (first_step x)) (sym p)) (λ (d : Contains [] m). absurd (contains_none m d)) (contains_cases m h [] w)
    by_test false rest w =
        ⊎_elim
        (λ (p : h ≡ m). ap (λ x. label (first_step x)) (sym p))
        (λ (d : Contains (walk (half_edges S) first n (next_of (half_edges S) h)) m). rest d)
        (contains_cases m h (walk (half_edges S) first n (next_of (half_edges S) h)) w)

-- and so on each ring
pub ring_is_one : (S : Drawing) (h : HalfEdge) → HasRings S → Contains (half_edges S) h → OneRing (steps_of S) (is_of (ring_of (half_edges S) h))
ring_is_one S h has c label one s t i j p q = value s p ∙ sym (value t q)
  where
    value : (r : Segment) → is_of (ring_of (half_edges S) h) r ≡ true → label r ≡ label (first_step h)
    value r e =
        let (m, (cm, k)) = one_has (ring_of (half_edges S) h) r e in
        let good = has_plain_lines S has in
        one_on_half S label m r good one (ring_steps S h m has c cm).there k ∙ walk_one S label h h m (length (half_edges S)) good one c cm
