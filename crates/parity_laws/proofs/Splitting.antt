-- A face divided by a ring, and two faces joined.
use Rattle.std.proofs.Common.{◌≡◌, refl, sym, ◌∙◌, ap, subst, ◌≤ℤ◌, ⊎_elim, Bool, true, false, not, cond, ◌&&◌, List, [], ◌∷◌}
use Rattle.std.proofs.lemmas.Bool.{both_ways}
use Rattle.plane.specs.Segment.{Segment}
use Rattle.plane.specs.Parity.{xor}
use Rattle.plane.specs.Crossings.{back, crosses}
use Rattle.parity_laws.specs.Steps.{odd, Each, direction, leaves_before, above, turned, times, left}
use Rattle.parity_laws.specs.Walks.{NoHigher}
use Rattle.parity_laws.specs.Rings.{In, Next, those, has, First, View, Drawn, Ringwise, Sided}
use Rattle.parity_laws.proofs.Sums.{summing, xor_four, xor_left, xor_assoc}
use Rattle.parity_laws.proofs.Walking.{nothing_above}
use Rattle.parity_laws.proofs.Ringwise.{side_next, side_back, in_each, each_in}
use Rattle.parity_laws.proofs.Star.{Least, least, those_in, in_those, those_within, has_label, times_has}
use Rattle.parity_laws.proofs.Following.{follows}
use Rattle.parity_laws.proofs.Orbits.{label_even}
use Rattle.parity_laws.proofs.Shells.{World, first_left, shell_law}
use Rattle.parity_laws.proofs.Climbing.{by_two, first_at, higher, higher_irr, higher_onward}
use Rattle.plane.proofs.Tests.{no_lt}

-- ---- the labels of two lists

pub those_both : (f p q : Segment → Bool) (X : List Segment) → odd f (those (λ t. xor (p t) (q t)) X) ≡ xor (odd f (those p X)) (odd f (those q X))
those_both f p q [] = refl
those_both f p q (t ∷ X) = by_tests (p t) (q t) (those_both f p q X)
  where
    A : List Segment
    A = those p X

    B : List Segment
    B = those q X

    C : List Segment
    C = those (λ t. xor (p t) (q t)) X

    by_tests : (a b : Bool) → odd f (those (λ t. xor (p t) (q t)) X) ≡ xor (odd f (those p X)) (odd f (those q X)) →
        odd f (cond (xor a b) (t ∷ those (λ t. xor (p t) (q t)) X) (those (λ t. xor (p t) (q t)) X)) ≡ xor (odd f (cond a (t ∷ those p X) (those p X))) (odd f (cond b (t ∷ those q X) (those q X)))
    by_tests true true e = e ∙ sums (f t) (odd f (those p X)) (odd f (those q X))
      where
        sums : (a b c : Bool) → xor b c ≡ xor (xor a b) (xor a c)
        sums a b c = simp summing
    by_tests true false e = ap (xor (f t)) e ∙ sym (xor_assoc (f t) (odd f (those p X)) (odd f (those q X)))
    by_tests false true e = ap (xor (f t)) e ∙ xor_left (f t) (odd f (those p X)) (odd f (those q X))
    by_tests false false e = e

pub world : (T : List Segment) (label : Segment → Bool) → Drawn T → Ringwise T label → World T label
world T label d h = record {
  plain = d.plain;
  once = d.once;
  rings = record {
    next = h;
    even = label_even T d.plain d.once label h;
  };
}

-- ---- a face in two parts: left of the ring's steps is c, and the first part is where the ring's parity is c
pub split_first : (T : List Segment) (face ring : Segment → Bool) (c : Bool) → Drawn T → View T → Ringwise T face → Ringwise T ring → Sided T face →
    Sided T (λ s. face s && not (xor (left (those ring T) s) c))
split_first T face ring c drawn view hf hr sided s i =
    by_two T (those face T) (those ring T) (λ t. face t && not (xor (left (those ring T) t) c)) (λ p q. p && not (xor q c))
    (world T (λ t. face t && not (xor (left (those ring T) t) c)) drawn (λ d n j k next. cc (hf d n j k next, side_next T (those ring T) d n drawn.plain wr.rings.even (those_within ring T) j next)))
    view wf.rings.even (those_within face T) wr.rings.even (those_within ring T) refl
    (λ t j. ap (λ z. z && not (xor (left (those ring T) t) c)) (sym (sided t j))) s i
  where
    wf : World T face
    wf = world T face drawn hf

    wr : World T ring
    wr = world T ring drawn hr

-- face 0 has the parity the other way round; a new face in it is where the ring's parity is 1
pub split_outer : (T : List Segment) (face ring : Segment → Bool) → Drawn T → View T → Ringwise T face → Ringwise T ring →
    ((s : Segment) → In s T → left (those face T) s ≡ not (face s)) →
    Sided T (λ s. face s && left (those ring T) s)
split_outer T face ring drawn view hf hr outer s i =
    by_two T (those face T) (those ring T) (λ t. face t && left (those ring T) t) (λ p q. not p && q)
    (world T (λ t. face t && left (those ring T) t) drawn (λ d n j k next. cc (hf d n j k next, side_next T (those ring T) d n drawn.plain wr.rings.even (those_within ring T) j next)))
    view wf.rings.even (those_within face T) wr.rings.even (those_within ring T) refl
    (λ t j. ap (λ z. z && left (those ring T) t) (twice (left (those face T) t) (face t) (outer t j))) s i
  where
    wf : World T face
    wf = world T face drawn hf

    wr : World T ring
    wr = world T ring drawn hr

    twice : (l f : Bool) → l ≡ not f → f ≡ not l
    twice true true e = cc
    twice true false e = refl
    twice false true e = refl
    twice false false e = cc

-- ---- two faces joined
pub left_both : (T : List Segment) (p q : Segment → Bool) (s : Segment) → left (those (λ t. xor (p t) (q t)) T) s ≡ xor (left (those p T) s) (left (those q T) s)
left_both T p q s =
    four (above (those (λ t. xor (p t) (q t)) T) s.a) (turned (those (λ t. xor (p t) (q t)) T) s.a (direction s)) (above (those p T) s.a) (above (those q T) s.a) (turned (those p T) s.a (direction s)) (turned (those q T) s.a (direction s))
    (those_both (λ t. crosses t s.a) p q T) (those_both (leaves_before s.a (direction s)) p q T)
  where
    four : (x y a b c d : Bool) → x ≡ xor a b → y ≡ xor c d → xor x y ≡ xor (xor a c) (xor b d)
    four x y a b c d e f = rw (e, f) (xor_four a b c d)

pub join_faces : (T : List Segment) (f g : Segment → Bool) → Sided T f → Sided T g → Sided T (λ s. xor (f s) (g s))
join_faces T f g hf hg s i = left_both T f g s ∙ cc (hf s i, hg s i)

-- ---- a ring cut in two
-- one has the step, the other the step backwards: left of the two, c and c' make the c of both together, changed
pub cut_constants : (T : List Segment) (one two : Segment → Bool) (s : Segment) → World T two → In s T → two s ≡ false → two (back s) ≡ true →
    left (those (λ t. xor (one t) (two t)) T) s ≡ not (xor (left (those one T) s) (left (those two T) (back s)))
cut_constants T one two s w i e f =
    last (left (those (λ t. xor (one t) (two t)) T) s) (left (those one T) s) (left (those two T) s) (left (those two T) (back s)) (times (those two T) s) (has (those two T) s) (has (those two T) (back s))
    (left_both T one two s) (side_back T (those two T) s w.plain w.rings.even (those_within two T) i) (times_has (those two T) s) (has_label two T w.once s i ∙ e) (has_label two T w.once (back s) (w.plain.both s i) ∙ f)
  where
    last : (l a b b' t h k : Bool) → l ≡ xor a b → b ≡ xor b' t → t ≡ xor h k → h ≡ false → k ≡ true → l ≡ not (xor a b')
    last l a b b' t h k e f g i j = rw (e, f, g, i, j) (sums a b')
      where
        sums : (a b : Bool) → xor a (xor b true) ≡ not (xor a b)
        sums true true = refl
        sums true false = refl
        sums false true = refl
        sums false false = refl

-- ---- each face other than 0 with a step has a shell
pub has_next : (T : List Segment) (s : Segment) → Drawn T → In s T → (n : Segment) × (In n T × Next T s n)
has_next T s d i = follows T d.plain s i

pub record Top (T : List Segment) (label : Segment → Bool) : Type 0 where
  pub n : Segment
  pub r : Segment
  pub first : First T n
  pub there : In r T
  pub start : r.a ≡ n.a
  pub mine : label r ≡ true
  pub top : Each (NoHigher n.a) (those label T)

-- a highest vertex of the labelled steps
pub highest : (T : List Segment) (label : Segment → Bool) (s : Segment) → Drawn T → Ringwise T label → In s T → label s ≡ true → Top T label
highest T label s d h i e =
    ⊎_elim
    (λ (f : (t : Segment) → In t T → label t ≡ false). absurd (both_ways (label s) (f s i) e))
    (λ (l : Least T label higher).
    let k = first_at T l.it l.there in
    let low : (t : Segment) → In t T → label t ≡ true → t.a.y ≤ℤ l.it.a.y = λ t j f. no_lt l.it.a.y t.a.y (l.none t j f) in
    record {
      n = k.0;
      r = l.it;
      first = k.1.0;
      there = l.there;
      start = k.1.1;
      mine = l.passes;
      top = in_each (NoHigher k.0.a) (those label T) (λ t j.
          let m = those_in label T t j in
          let q = has_next T t d m.0 in
          subst (λ p. NoHigher p t) k.1.1 (low t m.0 m.1, subst (λ p. p.y ≤ℤ l.it.a.y) q.1.1.meets (low q.0 q.1.0 (sym (h t q.0 m.0 q.1.0 q.1.1) ∙ m.1))));
    })
    (least label higher higher_irr higher_onward T)

-- the ring at a highest vertex of a face other than 0 is a shell
pub highest_is_shell : (T : List Segment) (face ring : Segment → Bool) → Drawn T → Ringwise T face → Ringwise T ring → Sided T face →
    ((s : Segment) → In s T → ring s ≡ true → face s ≡ true) → (t : Top T face) → ring t.r ≡ true → left (those ring T) t.r ≡ true
highest_is_shell T face ring d hf hr sided part t e =
    let wf = world T face d hf in
    let wr = world T ring d hr in
    let f = first_left T (those face T) t.n d.plain (those_within face T) t.first ∙ nothing_above (those face T) t.n.a t.top in
    let g : face t.n ≡ false = sym (sided t.n t.first.there) ∙ f in
    let k : ring t.n ≡ false = not_part (ring t.n) refl g in
    shell_law T ring wr t.n t.r t.first t.there t.start e (in_each (NoHigher t.n.a) (those ring T) (λ s j. let m = those_in ring T s j in each_those s m.0 (part s m.0 m.1))) ∙ ap not k
  where
    not_part : (b : Bool) → ring t.n ≡ b → face t.n ≡ false → b ≡ false
    not_part false f g = refl
    not_part true f g = absurd (both_ways (face t.n) g (part t.n t.first.there f))

    each_those : (s : Segment) → In s T → face s ≡ true → NoHigher t.n.a s
    each_those s j f = each_in (NoHigher t.n.a) (those face T) t.top s (in_those face T s j f)
