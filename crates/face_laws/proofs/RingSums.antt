-- The segments of a ring are the steps with its label, each once: sums over both are one.
use Rattle.std.proofs.Common.{◌≡◌, ℕ, suc, ◌<◌, refl, sym, ◌∙◌, ap, subst, arith, ⊎_elim, Bool, true, List, [], ◌∷◌, length, get_or, map}
use Rattle.std.specs.List.{Contains}
use Rattle.topo_base.specs.Point.{Point}
use Rattle.topo_base.specs.declared.ids.Dart.{Dart}
use Rattle.drawing.specs.Drawing.{Drawing}
use Rattle.plane.specs.Parity.{is_odd_over}
use Rattle.drawing.specs.HalfEdge.{HalfEdge, half_edges, dart_of}
use Rattle.drawing.specs.Ring.{ring_of, ring_segments}
use Rattle.plane.specs.Segment.{Segment}
use Rattle.plane.specs.Crossings.{crosses}
use Rattle.plane.proofs.ListTests.{contains_cases, contains_none}
use Rattle.drawing.proofs.Members.{Pairwise}
use Rattle.face_rings.specs.FaceBorder.{face_border, HasRings}
use Rattle.face_rings.specs.RingLaw.{IsRingFrom}
use Rattle.face_rings.proofs.Dividing.{ring_is_ring}
use Rattle.face_rings.proofs.FaceBorders.{has_plain_lines, in_beside, has_half, border_linked, ring_is}
use Rattle.face_rings.proofs.HalvesApart.{half_of, line_of}
use Rattle.parity_laws.specs.Steps.{odd, above}
use Rattle.parity_laws.specs.Rings.{In, Once, Within, those}
use Rattle.parity_laws.proofs.Orbits.{once_those}
use Rattle.parity_laws.proofs.RearrangedOf.{same_sum}
use Rattle.parity_laws.proofs.Star.{those_in, in_those}
use Rattle.face_laws.specs.Walked.{steps_along, steps_of, is_of}
use Rattle.face_laws.proofs.FaceOnLeft.{one_has, has_one}
use Rattle.face_laws.proofs.FaceParity.{crossed}
use Rattle.face_laws.proofs.LineSteps.{line_once}
use Rattle.face_laws.proofs.Lists.{in_joined, from_joined, once_joined}
use Rattle.face_laws.proofs.PlainSteps.{one_half, step_there, steps_once}
use Rattle.face_laws.proofs.RingLabels.{ring_steps}

-- ---- no half-edge stands twice in a ring
abbrev pub AreOther : HalfEdge → HalfEdge → Type 0
AreOther h k = h ≡ k → ⊥

place_of : (k : HalfEdge) (hs : List HalfEdge) → Contains hs k → (x : Dart) → (i : ℕ) × ((i < length (map dart_of hs)) × (get_or (map dart_of hs) i x ≡ dart_of k))
place_of k [] c x = absurd (contains_none k c)
place_of k (h ∷ hs) c x =
    ⊎_elim
    (λ (e : h ≡ k). (0, (omega arith, ap dart_of e)))
    (λ (d : Contains hs k). let (i, (less, at)) = place_of k hs d x in (suc i, (omega (arith, less), at)))
    (contains_cases k h hs c)

others : (hs : List HalfEdge) → ((i j : ℕ) (x : Dart) → i < j → j < length (map dart_of hs) → get_or (map dart_of hs) i x ≡ get_or (map dart_of hs) j x → ⊥) → Pairwise AreOther hs
others [] apart = tt
others (h ∷ hs) apart = (
  λ k c e. let (i, (less, at)) = place_of k hs c (dart_of h) in apart 0 (suc i) (dart_of h) (omega arith) (omega (arith, less)) (ap dart_of e ∙ sym at),
  others hs (λ i j x l w. apart (suc i) (suc j) x (omega (arith, l)) (omega (arith, w))),
)

pub ring_others : (S : Drawing) (h : HalfEdge) → HasRings S → Contains (half_edges S) h → Pairwise AreOther (ring_of (half_edges S) h)
ring_others S h has c =
    let border = face_border (half_edges S) h.on_left in
    let known = has_half S h.on_left h (in_beside S h.on_left h c refl) in
    let ring = subst (IsRingFrom border (dart_of h)) (ring_is S h.on_left h has c refl) (ring_is_ring border (dart_of h) (border_linked S h.on_left has) known) in
    others (ring_of (half_edges S) h) (λ i j x l w. ring.once i j x l w)

-- ---- its steps
pub ring_there : (S : Drawing) (h : HalfEdge) → HasRings S → Contains (half_edges S) h → Within (ring_segments (ring_of (half_edges S) h)) (steps_of S)
ring_there S h has c s i =
    let (k, (d, j)) = from_joined steps_along (ring_of (half_edges S) h) s i in
    step_there S k s (ring_steps S h k has c d).there j

pub ring_labelled : (S : Drawing) (h : HalfEdge) (s : Segment) → In s (ring_segments (ring_of (half_edges S) h)) → is_of (ring_of (half_edges S) h) s ≡ true
ring_labelled S h s i = let (k, (d, j)) = from_joined steps_along (ring_of (half_edges S) h) s i in has_one (ring_of (half_edges S) h) s k d j

pub labelled_in_ring : (S : Drawing) (h : HalfEdge) (s : Segment) → is_of (ring_of (half_edges S) h) s ≡ true → In s (ring_segments (ring_of (half_edges S) h))
labelled_in_ring S h s e = let (k, (d, j)) = one_has (ring_of (half_edges S) h) s e in in_joined steps_along (ring_of (half_edges S) h) k s d j

pub ring_once : (S : Drawing) (h : HalfEdge) → HasRings S → Contains (half_edges S) h → Once (ring_segments (ring_of (half_edges S) h))
ring_once S h has c =
    let good = has_plain_lines S has in
    once_joined steps_along (ring_of (half_edges S) h) (ring_others S h has c)
    (λ k d. let line = line_of S k good (half_of S.edges k (ring_steps S h k has c d).there) in line_once k.points line.proper line.simple)
    (λ k m s ck cm i j. one_half S k m s good (ring_steps S h k has c ck).there (ring_steps S h m has c cm).there i j)

-- ---- sums
pub ring_sums : (S : Drawing) (h : HalfEdge) (g : Segment → Bool) → HasRings S → Contains (half_edges S) h →
    odd g (ring_segments (ring_of (half_edges S) h)) ≡ odd g (those (is_of (ring_of (half_edges S) h)) (steps_of S))
ring_sums S h g has c =
    same_sum g (ring_segments (ring_of (half_edges S) h)) (those (is_of (ring_of (half_edges S) h)) (steps_of S)) (ring_once S h has c)
    (once_those (is_of (ring_of (half_edges S) h)) (steps_of S) (steps_once S (has_plain_lines S has)))
    (λ s i. in_those (is_of (ring_of (half_edges S) h)) (steps_of S) s (ring_there S h has c s i) (ring_labelled S h s i))
    (λ s i. labelled_in_ring S h s (those_in (is_of (ring_of (half_edges S) h)) (steps_of S) s i).1)

-- a point is under an odd number of a ring's segments where it is under an odd number of its steps
pub ring_over : (S : Drawing) (h : HalfEdge) (q : Point) → HasRings S → Contains (half_edges S) h →
    is_odd_over q (ring_segments (ring_of (half_edges S) h)) ≡ above (those (is_of (ring_of (half_edges S) h)) (steps_of S)) q
ring_over S h q has c = sym (crossed q (ring_segments (ring_of (half_edges S) h))) ∙ ring_sums S h (λ s. crosses s q) has c
