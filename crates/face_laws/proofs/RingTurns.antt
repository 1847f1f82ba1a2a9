-- The segments of a ring, as they are walked, are a ring of the drawing's steps.
use Rattle.std.proofs.Common.{◌≡◌, ℕ, zero, suc, ◌+◌, ◌<◌, ◌≤◌, refl, sym, ◌∙◌, ap, subst, arith, Bool, true, false, cond, List, [], ◌∷◌, ◌++◌, length, get_or, slice_get, Some}
use Rattle.std.specs.Prelude.{filter}
use Rattle.std.specs.List.{Contains}
use Rattle.std.proofs.lemmas.Bool.{false≢true}
use Rattle.std.proofs.lemmas.List.{append-nil, length-map}
use Rattle.std.proofs.lemmas.Option.{slice_get-get_or}
use Rattle.drawing.specs.Drawing.{Drawing}
use Rattle.drawing.specs.HalfEdge.{HalfEdge, half_edges, same_half_edge, dart_of}
use Rattle.plane.specs.Line.{segments_of, no_point}
use Rattle.drawing.specs.Ring.{walk, ring_of, ring_segments}
use Rattle.plane.specs.Segment.{Segment}
use Rattle.drawing.specs.Star.{next_of}
use Rattle.face_rings.specs.FaceBorder.{is_beside, beside, border_dart, face_border, HasRings}
use Rattle.face_rings.proofs.FaceBorders.{has_plain_lines, half_by_dart, in_beside, has_half, border_linked}
use Rattle.face_rings.proofs.HalfLines.{HasPlainLines}
use Rattle.face_rings.proofs.NextApart.{next_there}
use Rattle.face_rings.proofs.Orbits.{linked_of, after, ComesBack, comes_back}
use Rattle.face_rings.proofs.Ranks.{same_out, same_in}
use Rattle.face_rings.proofs.Reaching.{after_inner}
use Rattle.ring_laws.proofs.RingParts.{IsStep, step_on, next_half}
use Rattle.parity_laws.specs.Rings.{Next, Turns, IsRing}
use Rattle.face_laws.specs.Walked.{steps_along, steps_of}
use Rattle.face_laws.proofs.Following.{has_steps}
use Rattle.face_laws.proofs.InnerTurns.{inner_next}
use Rattle.face_laws.proofs.NextTurns.{half_next}
use Rattle.face_laws.proofs.RingLabels.{first_step}

-- ---- lists of steps that lead on
-- each is next after the one before it, and z after the last one
abbrev Leads : List Segment → List Segment → Segment → Type 0
Leads T [] z = Unit {0}
Leads T (d ∷ X) z = Turns T d X z

turns_on : (T : List Segment) (d : Segment) (X : List Segment) (y : Segment) (Y : List Segment) (z : Segment) → Turns T d X y → Turns T y Y z → Turns T d (X ++ y ∷ Y) z
turns_on T d [] y Y z h k = (h, k)
turns_on T d (n ∷ X) y Y z h k = (h.0, turns_on T n X y Y z h.1 k)

abbrev pub Begins : List Segment → Segment → Type 0
Begins X y = (Y : List Segment) × (X ≡ y ∷ Y)

leads_on : (T X W : List Segment) (y z : Segment) → Begins W y → Leads T X y → Leads T W z → Leads T (X ++ W) z
leads_on T [] W y z b h k = k
leads_on T (d ∷ X) W y z b h k = subst (λ V. Turns T d (X ++ V) z) (sym b.1) (turns_on T d X y b.0 z h (subst (λ V. Leads T V z) b.1 k))

leads_of : (T X : List Segment) (z : Segment) → ((i : ℕ) (s t : Segment) → slice_get X i ≡ Some s → slice_get X (suc i) ≡ Some t → Next T s t) → ((i : ℕ) (s : Segment) → slice_get X i ≡ Some s → i + 1 ≡ length X → Next T s z) →
    Leads T X z
leads_of T [] z inner last = tt
leads_of T (d ∷ []) z inner last = last 0 d refl refl
leads_of T (d ∷ n ∷ X) z inner last = (
  inner 0 d n refl refl,
  leads_of T (n ∷ X) z (λ i s t e f. inner (suc i) s t e f) (λ i s e f. last (suc i) s e (omega (arith, f))),
)

-- ---- the steps of a half-edge lead on to the next one
pub steps_begin : (S : Drawing) (h : HalfEdge) → HasPlainLines S → Contains (half_edges S) h → Begins (steps_along h) (first_step h)
steps_begin S h good c = begun (segments_of h.points) (record { a = no_point; b = no_point }) (has_steps S h good c)
  where
    begun : (X : List Segment) (z : Segment) → 0 < length X → Begins X (get_or X 0 z)
    begun [] z some = absurd (omega arith)
    begun (x ∷ X) z some = (X, refl)

half_leads : (S : Drawing) (h : HalfEdge) → HasPlainLines S → Contains (half_edges S) h → Leads (steps_of S) (steps_along h) (first_step (next_of (half_edges S) h))
half_leads S h good c =
    let next = next_of (half_edges S) h in
    let some = has_steps S next good (next_there S h good c) in
    leads_of (steps_of S) (steps_along h) (first_step next)
    (λ i s t e f. inner_next S h i s t (record { good = good; there = c; two = record { first = e; second = f } }))
    (λ i s e last. half_next S h s (first_step next) good c (record { place = i; there = e; last = last }) (slice_get-get_or (segments_of next.points) 0 (record { a = no_point; b = no_point }) some))

-- ---- so do those of a walk that comes back
walk_begins : (S : Drawing) (first : HalfEdge) (n : ℕ) (h : HalfEdge) → HasPlainLines S → Contains (half_edges S) h → Begins (ring_segments (walk (half_edges S) first n h)) (first_step h)
walk_begins S first n h good c = let (rest, e) = start n in let (Y, f) = steps_begin S h good c in (Y ++ ring_segments rest, ap ring_segments e ∙ ap (λ X. X ++ ring_segments rest) f)
  where
    start : (n : ℕ) → (rest : List HalfEdge) × (walk (half_edges S) first n h ≡ h ∷ rest)
    start zero = ([], refl)
    start (suc n) = by (same_half_edge (next_of (half_edges S) h) first) (walk (half_edges S) first n (next_of (half_edges S) h))
      where
        by : (t : Bool) (on : List HalfEdge) → (rest : List HalfEdge) × (cond t (h ∷ []) (h ∷ on) ≡ h ∷ rest)
        by true on = ([], refl)
        by false on = (on, refl)

walk_leads : (S : Drawing) (f : ℕ) (first : HalfEdge) (n j : ℕ) (h : HalfEdge) → IsStep S f first → IsStep S f h → j < n → after (face_border (half_edges S) f) (suc j) (dart_of h) ≡ dart_of first →
    Leads (steps_of S) (ring_segments (walk (half_edges S) first n h)) (first_step first)
walk_leads S f first zero j h sf sh less back = absurd (omega arith)
walk_leads S f first (suc n) j h sf sh less back =
    by_test (same_half_edge on first) refl j less back (λ i l b. walk_leads S f first n i on sf (step_on S f h sh) l b)
  where
    on : HalfEdge
    on = next_of (half_edges S) h

    good : HasPlainLines S
    good = has_plain_lines S sh.rings

    to_next : Leads (steps_of S) (steps_along h) (first_step (next_of (half_edges S) h))
    to_next = half_leads S h (has_plain_lines S sh.rings) sh.there

    one : same_half_edge (next_of (half_edges S) h) first ≡ true → next_of (half_edges S) h ≡ first
    one t = half_by_dart S (next_of (half_edges S) h) first (has_plain_lines S sh.rings) (step_on S f h sh).there sf.there (same_out (dart_of (next_of (half_edges S) h)) (dart_of first) t)

    by_test : (t : Bool) → same_half_edge (next_of (half_edges S) h) first ≡ t → (j : ℕ) → j < suc n → after (face_border (half_edges S) f) (suc j) (dart_of h) ≡ dart_of first →
        ((i : ℕ) → i < n → after (face_border (half_edges S) f) (suc i) (dart_of (next_of (half_edges S) h)) ≡ dart_of first →
        Leads (steps_of S) (ring_segments (walk (half_edges S) first n (next_of (half_edges S) h))) (first_step first)) →
        Leads (steps_of S) (ring_segments (cond t (h ∷ []) (h ∷ walk (half_edges S) first n (next_of (half_edges S) h)))) (first_step first)
    by_test true t j l b rest = subst (λ X. Leads (steps_of S) X (first_step first)) (sym (append-nil (steps_along h))) (subst (λ k. Leads (steps_of S) (steps_along h) (first_step k)) (one t) to_next)
    by_test false t zero l b rest = absurd (false≢true (sym t ∙ same_in (dart_of (next_of (half_edges S) h)) (dart_of first) (sym (next_half S f h sh) ∙ b)))
    by_test false t (suc j) l b rest =
        let border = face_border (half_edges S) f in
        let onward = ap (after border (suc j)) (sym (next_half S f h sh)) ∙ after_inner border (suc j) (dart_of h) ∙ b in
        leads_on (steps_of S) (steps_along h) (ring_segments (walk (half_edges S) first n (next_of (half_edges S) h))) (first_step (next_of (half_edges S) h)) (first_step first)
        (walk_begins S first n (next_of (half_edges S) h) good (step_on S f h sh).there) to_next (rest j (omega arith) onward)

fewer : (p : HalfEdge → Bool) (hs : List HalfEdge) → length (filter p hs) ≤ length hs
fewer p [] = omega arith
fewer p (h ∷ hs) = by (p h) (fewer p hs)
  where
    by : (b : Bool) → length (filter p hs) ≤ length hs → length (cond b (h ∷ filter p hs) (filter p hs)) ≤ length (h ∷ hs)
    by true few = omega arith
    by false few = omega arith

-- ---- the ring of a half-edge
pub ring_turns : (S : Drawing) (h : HalfEdge) → HasRings S → Contains (half_edges S) h → IsRing (steps_of S) (ring_segments (ring_of (half_edges S) h))
ring_turns S h has c =
    closed (ring_segments (ring_of (half_edges S) h)) (walk_begins S h (length (half_edges S)) h (has_plain_lines S has) c) (by_steps back.steps back.some back.few back.is)
  where
    step : IsStep S h.on_left h
    step = record { rings = has; there = c; left = refl }

    back : ComesBack (face_border (half_edges S) h.on_left) (dart_of h)
    back = comes_back (face_border (half_edges S) h.on_left) (dart_of h) (linked_of (face_border (half_edges S) h.on_left) (border_linked S h.on_left has)) (has_half S h.on_left h (in_beside S h.on_left h c refl))

    by_steps : (n : ℕ) → 0 < n → n ≤ length (face_border (half_edges S) h.on_left) → after (face_border (half_edges S) h.on_left) n (dart_of h) ≡ dart_of h →
        Leads (steps_of S) (ring_segments (ring_of (half_edges S) h)) (first_step h)
    by_steps zero some few is = absurd (omega arith)
    by_steps (suc n) some few is =
        let long = length-map (beside (half_edges S) h.on_left) (border_dart (half_edges S)) in
        let short = fewer (is_beside h.on_left) (half_edges S) in
        walk_leads S h.on_left h (length (half_edges S)) n h step step (omega arith) is

    closed : (X : List Segment) → Begins X (first_step h) → Leads (steps_of S) X (first_step h) → IsRing (steps_of S) X
    closed X b k = subst (IsRing (steps_of S)) (sym b.1) (subst (λ V. Leads (steps_of S) V (first_step h)) b.1 k)
