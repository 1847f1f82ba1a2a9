-- The faces lie where their borders say exactly where the face of each hole is the one above its top vertex.
use Rattle.std.proofs.Common.{◌≡◌, ◌≢◌, ℕ, zero, suc, refl, sym, ◌∙◌, ap, subst, arith, ◌<ℤ◌, ◌≤ℤ◌, ◌⊎◌, inl, inr, ⊎_elim, Bool, true, false, not, List, [], ◌∷◌, eqb}
use Rattle.std.specs.List.{Contains}
use Rattle.std.proofs.lemmas.Bool.{eqb-true, eq-eqb, ne_eqb}
use Rattle.topo_base.specs.Point.{Point}
use Rattle.plane.specs.ClosedWalk.{top_of}
use Rattle.plane.specs.Crossings.{back}
use Rattle.plane.specs.Parity.{xor}
use Rattle.plane.specs.Segment.{Segment}
use Rattle.plane.proofs.Ring.{signed}
use Rattle.plane.proofs.Signs.{order}
use Rattle.drawing.specs.Drawing.{Drawing}
use Rattle.drawing.specs.HalfEdge.{HalfEdge, half_edges}
use Rattle.drawing.specs.Ring.{ring_of, ring_segments, is_hole}
use Rattle.face_rings.specs.FaceBorder.{HasRings}
use Rattle.face_rings.proofs.FaceBorders.{has_plain_lines}
use Rattle.ring_laws.specs.Ringed.{IsRinged}
use Rattle.parity_laws.specs.Rings.{In, Drawn, First, those, of_face}
use Rattle.parity_laws.specs.Steps.{above, left}
use Rattle.parity_laws.specs.Walks.{NoHigher}
use Rattle.parity_laws.proofs.Climbing.{nowhere, first_at}
use Rattle.parity_laws.proofs.Following.{follows}
use Rattle.parity_laws.proofs.Ringwise.{in_each}
use Rattle.parity_laws.proofs.Shells.{World, inside_out, io_next, io_back, io_star, first_left, shell_law}
use Rattle.parity_laws.proofs.Splitting.{world}
use Rattle.parity_laws.proofs.Star.{those_in, those_within}
use Rattle.parity_laws.proofs.Sums.{equal}
use Rattle.face_laws.specs.Covered.{face_of, IsInFaceOf, IsSided}
use Rattle.face_laws.specs.Walked.{steps_of, is_of}
use Rattle.face_laws.proofs.Covering.{faces_given, known}
use Rattle.face_laws.proofs.FaceOnLeft.{left_is, one_has, has_one}
use Rattle.face_laws.proofs.FaceParity.{GivesFaces}
use Rattle.face_laws.proofs.Facing.{HasSides}
use Rattle.face_laws.proofs.PlainSteps.{half_with, steps_plain, steps_once}
use Rattle.face_laws.proofs.RingLabels.{first_step, own_steps, face_ringwise, ring_steps, ring_ringwise, ring_is_one}
use Rattle.face_laws.proofs.RingSums.{ring_there, ring_labelled, labelled_in_ring}
use Rattle.face_laws.proofs.RingsListed.{Begins, has_listed}
use Rattle.face_laws.proofs.ShellTests.{first_on, ring_world, shell_at}
use Rattle.face_laws.proofs.TopTurns.{IsTop, top_is}
use Rattle.above_laws.specs.FirstAbove.{face_beside, IsFaceAbove, none_over, first_over}
use Rattle.above_laws.specs.Places.{BeginsHole, HolesAreBelow, PlacesAreTold}
use Rattle.above_laws.proofs.SomeFirst.{some_face}
use Rattle.above_laws.proofs.Told.{Beside, beside_first, none_above, in_first, in_none}

steps_drawn : (S : Drawing) → HasRings S → Drawn (steps_of S)
steps_drawn S has = let good = has_plain_lines S has in record { plain = steps_plain S good; once = steps_once S good }

-- ---- the top vertex of a ring
abbrev top_vertex : Drawing → HalfEdge → Point
top_vertex S h = top_of (ring_segments (ring_of (half_edges S) h))

-- a step of the ring begins there, and none goes higher
record HasTop (S : Drawing) (h : HalfEdge) : Type 0 where
  step : Segment
  there : In step (ring_segments (ring_of (half_edges S) h))
  starts : step.a ≡ top_vertex S h
  high : (t : Segment) → In t (ring_segments (ring_of (half_edges S) h)) → NoHigher (top_vertex S h) t

some_top : (X : List Segment) (n : Segment) → In n X → IsTop X (top_of X)
some_top [] n i = absurd i
some_top (d ∷ X) n i = top_is d X

ring_top : (S : Drawing) (h : HalfEdge) (n : Segment) → HasRings S → Contains (half_edges S) h → In n (ring_segments (ring_of (half_edges S) h)) → HasTop S h
ring_top S h n has c i = record {
  step = top.step;
  there = top.there;
  starts = top.starts;
  high = λ t j.
      let at = ring_there S h has c t j in
      let (m, (k, next)) = follows (steps_of S) (steps_drawn S has).plain t at in
      let same = ring_ringwise S h has c t m at k next in
      (top.high t j, subst (λ (q : Point). q.y ≤ℤ (top_vertex S h).y) next.meets (top.high m (labelled_in_ring S h m (sym same ∙ ring_labelled S h t j))));
}
  where
    top : IsTop (ring_segments (ring_of (half_edges S) h)) (top_vertex S h)
    top = some_top (ring_segments (ring_of (half_edges S) h)) n i

-- where no step of the ring goes higher than the start of r, one of them, the ring is a hole exactly where the first step there is its own
hole_first : (S : Drawing) (h : HalfEdge) (n r : Segment) → HasRings S → Contains (half_edges S) h → First (steps_of S) n → In r (steps_of S) → r.a ≡ n.a → is_of (ring_of (half_edges S) h) r ≡ true →
    ((t : Segment) → In t (ring_segments (ring_of (half_edges S) h)) → NoHigher n.a t) → is_hole (ring_of (half_edges S) h) ≡ is_of (ring_of (half_edges S) h) n
hole_first S h n r has c first i start mine high =
    turned (is_hole (ring_of (half_edges S) h)) (is_of (ring_of (half_edges S) h) n)
    (shell_at S h r has c i mine
    ∙ shell_law (steps_of S) (is_of (ring_of (half_edges S) h)) (ring_world S h has c) n r first i start mine
    (in_each (NoHigher n.a) (those (is_of (ring_of (half_edges S) h)) (steps_of S)) (λ t j. high t (labelled_in_ring S h t (those_in (is_of (ring_of (half_edges S) h)) (steps_of S) t j).1))))
  where
    turned : (a b : Bool) → not a ≡ not b → a ≡ b
    turned true true e = refl
    turned true false e = cc
    turned false true e = cc
    turned false false e = refl

-- the first step at the top vertex of a hole, which is one of its own
record TopStep (S : Drawing) (h : HalfEdge) : Type 0 where
  step : Segment
  first : First (steps_of S) step
  at : step.a ≡ top_vertex S h
  mine : is_of (ring_of (half_edges S) h) step ≡ true

top_step : (S : Drawing) (h : HalfEdge) (n : Segment) → HasRings S → Contains (half_edges S) h → In n (ring_segments (ring_of (half_edges S) h)) → is_hole (ring_of (half_edges S) h) ≡ true → TopStep S h
top_step S h n has c i hole =
    let top = ring_top S h n has c i in
    let there = ring_there S h has c top.step top.there in
    let k = first_at (steps_of S) top.step there in
    let at = sym k.1.1 ∙ top.starts in
    record {
      step = k.0;
      first = k.1.0;
      at = at;
      mine = sym (hole_first S h k.0 top.step has c k.1.0 there k.1.1 (ring_labelled S h top.step top.there) (λ t j. subst (λ q. NoHigher q t) (sym at) (top.high t j))) ∙ hole;
    }

-- a step of a ring has the ring's face on its left
ring_face : (S : Drawing) (h : HalfEdge) (n : Segment) → HasRings S → Contains (half_edges S) h → is_of (ring_of (half_edges S) h) n ≡ true → face_of S n ≡ h.on_left
ring_face S h n has c e =
    let (m, (cm, j)) = one_has (ring_of (half_edges S) h) n e in
    let step = ring_steps S h m has c cm in
    left_is S m n (has_plain_lines S has) step.there j ∙ step.left

-- ---- from holes to sides
sided_at : (S : Drawing) (f : ℕ) → f ≢ 0 → HasRings S → GivesFaces (face_of S) S.edges → HolesAreBelow S → (s : Segment) → In s (steps_of S) →
    left (those (of_face (face_of S) f) (steps_of S)) s ≡ of_face (face_of S) f s
sided_at S f far has gives holes s i = equal (left Z s) (label s) (nowhere (steps_of S) E (λ n t g j e. io_star (steps_of S) label w n t g j e) climb s i)
  where
    label : Segment → Bool
    label = of_face (face_of S) f

    Z : List Segment
    Z = those label (steps_of S)

    w : World (steps_of S) label
    w = world (steps_of S) label (steps_drawn S has) (face_ringwise S f has)

    E : Segment → Bool
    E = inside_out (steps_of S) label

    -- on one ring
    same_on : (k : HalfEdge) (a b : Segment) → Contains (half_edges S) k → In a (steps_of S) → In b (steps_of S) → is_of (ring_of (half_edges S) k) a ≡ true → is_of (ring_of (half_edges S) k) b ≡ true → E a ≡ E b
    same_on k a b c i j p q = ring_is_one S k has c E (λ d n di ni next. io_next (steps_of S) label w d n di ni next) a b i j p q

    -- at the first step of a vertex
    at_first : (n : Segment) → First (steps_of S) n → E n ≡ xor (above Z n.a) (label n)
    at_first n first = ap (λ z. xor z (label n)) (first_left (steps_of S) Z n w.plain (those_within label (steps_of S)) first)

    at_top : (k : HalfEdge) (m : TopStep S k) → Contains (half_edges S) k → E m.step ≡ xor (above Z (top_vertex S k)) (eqb k.on_left f)
    at_top k m c = at_first m.step m.first ∙ ap (λ q. xor (above Z q) (label m.step)) m.at ∙ ap (λ g. xor (above Z (top_vertex S k)) (eqb g f)) (ring_face S k m.step has c m.mine)

    Higher : Segment → Type 0
    Higher n = (E n ≡ false) ⊎ ((d : Segment) × (In d (steps_of S) × (n.a.y <ℤ d.a.y) × (E d ≡ E n)))

    -- from the top vertex of a hole to what is above it
    up_from : (n : Segment) (k : HalfEdge) (m : TopStep S k) → Contains (half_edges S) k → n.a.y ≤ℤ (top_vertex S k).y → E m.step ≡ E n → IsFaceAbove S.edges (top_vertex S k) k.on_left → Higher n
    up_from n k m c low same face = by_face face
      where
        nothing : (a b : Bool) → a ≡ false → b ≡ false → xor a b ≡ false
        nothing a b e f = rw (e, f) refl

        same_beside : (g : ℕ) (b : Beside S (top_vertex S k) g) → k.on_left ≡ g → E b.step ≡ E n
        same_beside g b e =
            ap (λ z. xor z (label b.step)) (b.sees Z w.rings.even (those_within label (steps_of S)))
            ∙ ap (λ z. xor (above Z (top_vertex S k)) (eqb z f)) (b.face ∙ sym e)
            ∙ sym (at_top k m c)
            ∙ same

        by_end : (g : ℕ) (b : Beside S (top_vertex S k) g) → k.on_left ≡ g → (d : Segment) × (In d (steps_of S) × (n.a.y <ℤ d.a.y) × (E d ≡ E n))
        by_end g b e =
            ⊎_elim
            (λ (h : (top_vertex S k).y <ℤ b.step.a.y). (b.step, (b.there, omega (arith, signed), same_beside g b e)))
            (λ (h : (top_vertex S k).y <ℤ b.step.b.y). (back b.step, (w.plain.both b.step b.there, omega (arith, signed), io_back (steps_of S) label w b.step b.there ∙ same_beside g b e)))
            b.high

        by_face : IsFaceAbove S.edges (top_vertex S k) k.on_left → Higher n
        by_face (none_over over e) =
            inl (sym same ∙ at_top k m c ∙ nothing (above Z (top_vertex S k)) (eqb k.on_left f) (none_above S (top_vertex S k) (steps_drawn S has) over Z (those_within label (steps_of S)))
            (ap (λ g. eqb g f) e ∙ ne_eqb 0 f (λ z. far (sym z))))
        by_face (first_over d t over e) = inr (by_end (face_beside (top_vertex S k) d t) (beside_first S (top_vertex S k) d t (steps_drawn S has) gives over) e)

    by_ring : (n : Segment) (k : HalfEdge) → First (steps_of S) n → Begins S k → is_of (ring_of (half_edges S) k) n ≡ true → Higher n
    by_ring n k first b mine =
        let own = labelled_in_ring S k n mine in
        let top = ring_top S k n has b.there own in
        let there = ring_there S k has b.there top.step top.there in
        ⊎_elim
        (λ (up : n.a.y <ℤ (top_vertex S k).y).
        inr (top.step, (there, subst (λ (q : Point). n.a.y <ℤ q.y) (sym top.starts) up, same_on k top.step n b.there there first.there (ring_labelled S k top.step top.there) mine)))
        (λ (level : (top_vertex S k).y ≤ℤ n.a.y).
        let hole = hole_first S k n n has b.there first first.there refl mine (λ t j. lower t level (top.high t j)) ∙ mine in
        let m = top_step S k n has b.there own hole in
        up_from n k m b.there (top.high n own).0 (same_on k m.step n b.there m.first.there first.there m.mine mine) (holes k (record { there = b.there; begins = b.begins; hole = hole })))
        (order n.a.y (top_vertex S k).y)
      where
        lower : (t : Segment) → (top_vertex S k).y ≤ℤ n.a.y → NoHigher (top_vertex S k) t → NoHigher n.a t
        lower t level low = let a = low.0 in let b = low.1 in (omega (arith, signed), omega (arith, signed))

    climb : (n : Segment) → First (steps_of S) n → Higher n
    climb n first =
        let (h, (c, j)) = half_with S n first.there in
        let l = has_listed S h has c in
        by_ring n l.least first l.begins (has_one (ring_of (half_edges S) l.least) n h l.mine j)

-- ---- and back
sides_by : (S : Drawing) → IsRinged S → IsSided S → HasSides S
sides_by S r sided = record {
  drawn = steps_drawn S r.rings;
  faces = faces_given S (has_plain_lines S r.rings);
  ringwise = λ f n. face_ringwise S f r.rings;
  sided = sided;
  universe = r.universe;
  listed = (known S r).sides;
}

-- a point is in one face
one_in : (S : Drawing) (p : Point) (f k : ℕ) → IsInFaceOf S p f → IsInFaceOf S p k → f ≡ k
one_in S p f k a b = by_face f k (λ g n. sym (a g n) ∙ b g n)
  where
    not_zero : (n : ℕ) → suc n ≢ 0
    not_zero n e = omega (arith, e)

    by_face : (f k : ℕ) → ((g : ℕ) → g ≢ 0 → eqb f g ≡ eqb k g) → f ≡ k
    by_face zero zero same = refl
    by_face zero (suc k) same = eqb-true 0 (suc k) (same (suc k) (not_zero k) ∙ eq-eqb (suc k) (suc k) refl)
    by_face (suc f) k same = sym (eqb-true k (suc f) (sym (same (suc f) (not_zero f)) ∙ eq-eqb (suc f) (suc f) refl))

in_above : (S : Drawing) (p : Point) (f : ℕ) → HasSides S → IsFaceAbove S.edges p f → IsInFaceOf S p f
in_above S p f h (none_over over e) = subst (IsInFaceOf S p) (sym e) (in_none S p h over)
in_above S p f h (first_over d t over e) = subst (IsInFaceOf S p) (sym e) (in_first S p d t h over)

hole_in : (S : Drawing) (h : HalfEdge) → HasSides S → HasRings S → BeginsHole S h → IsInFaceOf S (top_vertex S h) h.on_left
hole_in S h sides has b g n =
    sym (ap (above Z) m.at)
    ∙ sym (first_left (steps_of S) Z m.step sides.drawn.plain (those_within (of_face (face_of S) g) (steps_of S)) m.first)
    ∙ sides.sided g n m.step m.first.there
    ∙ ap (λ f. eqb f g) (ring_face S h m.step has b.there m.mine)
  where
    Z : List Segment
    Z = those (of_face (face_of S) g) (steps_of S)

    m : TopStep S h
    m = top_step S h (first_step h) has b.there (labelled_in_ring S h (first_step h) (own_steps S h (first_step h) (first_on S h has b.there))) b.hole

pub places_are_told : PlacesAreTold
places_are_told = record {
  sided = λ S r holes f n s i. sided_at S f n r.rings (faces_given S (has_plain_lines S r.rings)) holes s i;
  holes = λ S h f r sided b face.
      let sides = sides_by S r sided in one_in S (top_vertex S h) h.on_left f (hole_in S h sides r.rings b) (in_above S (top_vertex S h) f sides face);
  placed = λ S p f r sided face. in_above S p f (sides_by S r sided) face;
  one = λ S p f g r sided inside face. one_in S p f g inside (in_above S p g (sides_by S r sided) face);
}

-- so each hole and each isolated node is in a face above it
pub holes_below : (S : Drawing) → IsRinged S → IsSided S → HolesAreBelow S
holes_below S r sided h b =
    let face = some_face S.edges (top_vertex S h) in
    subst (IsFaceAbove S.edges (top_vertex S h)) (sym (places_are_told.holes S h face.0 r sided b face.1)) face.1

pub below_if_in : (S : Drawing) (p : Point) (f : ℕ) → IsRinged S → IsSided S → IsInFaceOf S p f → IsFaceAbove S.edges p f
below_if_in S p f r sided inside =
    let face = some_face S.edges p in subst (IsFaceAbove S.edges p) (sym (places_are_told.one S p f face.0 r sided inside face.1)) face.1
