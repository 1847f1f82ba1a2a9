-- From a vertex to what is above it: what fails somewhere fails at a highest place.
use Rattle.std.proofs.Common.{◌≡◌, sym, ◌∙◌, subst, arith, ◌<ℤ◌, ◌⊎◌, inl, inr, ⊎_elim, Bool, true, false, List}
use Rattle.std.specs.Prelude.{int_lt}
use Rattle.std.proofs.lemmas.Bool.{both_ways}
use Rattle.plane.proofs.Ring.{signed}
use Rattle.plane.specs.Segment.{Segment}
use Rattle.plane.specs.Parity.{xor}
use Rattle.topo_base.specs.Point.{same_point}
use Rattle.parity_laws.specs.Steps.{Even, direction, before, above, left}
use Rattle.parity_laws.specs.Rings.{In, Within, those, First, View}
use Rattle.parity_laws.proofs.Sums.{equal}
use Rattle.parity_laws.proofs.Tests.{same_self, same_is}
use Rattle.parity_laws.proofs.Gap.{before_self}
use Rattle.parity_laws.proofs.Clockwise.{before_onward}
use Rattle.parity_laws.proofs.Star.{Least, least, those_within}
use Rattle.parity_laws.proofs.Shells.{World, inside_out, io_star, first_left}
use Rattle.plane.proofs.Tests.{lt_self, lt_yes, yes_lt}

abbrev pub higher : Segment → Segment → Bool
higher s t = int_lt t.a.y s.a.y

pub higher_irr : (s : Segment) → higher s s ≡ false
higher_irr s = lt_self s.a.y

pub higher_onward : (r s t : Segment) → higher r s ≡ true → higher s t ≡ true → higher r t ≡ true
higher_onward r s t e f = let g = yes_lt s.a.y r.a.y e in let h = yes_lt t.a.y s.a.y f in lt_yes t.a.y r.a.y (omega (arith, signed))

-- the first step at the start of s
pub first_at : (T : List Segment) (s : Segment) → In s T → (n : Segment) × (First T n × (s.a ≡ n.a))
first_at T s i =
    ⊎_elim
    (λ (f : (t : Segment) → In t T → same_point t.a s.a ≡ false). absurd (both_ways (same_point s.a s.a) (f s i) (same_self s.a)))
    (λ (l : Least T (λ t. same_point t.a s.a) (λ r t. before (direction r) (direction t))).
    let e = same_is l.it.a s.a l.passes in
    (l.it, (record { there = l.there; none = λ t j f. l.none t j (subst (λ p. same_point p s.a ≡ true) (sym (f ∙ e)) (same_self s.a)) }, sym e)))
    (least (λ t. same_point t.a s.a) (λ r t. before (direction r) (direction t)) (λ t. before_self (direction t)) (λ r t u f g. before_onward (direction r) (direction t) (direction u) f g) T)

-- what is false or handed on to a higher step at each vertex is false everywhere
pub nowhere : (T : List Segment) (E : Segment → Bool) →
    ((n s : Segment) → First T n → In s T → s.a ≡ n.a → E s ≡ E n) →
    ((n : Segment) → First T n → (E n ≡ false) ⊎ ((d : Segment) × (In d T × (n.a.y <ℤ d.a.y) × (E d ≡ E n)))) →
    (s : Segment) → In s T → E s ≡ false
nowhere T E star climb s i =
    ⊎_elim
    (λ (f : (t : Segment) → In t T → E t ≡ false). f s i)
    (λ (l : Least T E higher). absurd (impossible l))
    (least E higher higher_irr higher_onward T)
  where
    lower_no : (l : Least T E higher) (d : Segment) → In d T → l.it.a.y <ℤ d.a.y → E d ≡ true → ⊥
    lower_no l d j h e = both_ways (int_lt l.it.a.y d.a.y) (l.none d j e) (lt_yes l.it.a.y d.a.y h)

    impossible : (l : Least T E higher) → ⊥
    impossible l =
        let k = first_at T l.it l.there in
        let e : E l.it ≡ E k.0 = star k.0 l.it k.1.0 l.there k.1.1 in
        ⊎_elim
        (λ (f : E k.0 ≡ false). both_ways (E l.it) (e ∙ f) l.passes)
        (λ (d : (d : Segment) × (In d T × (k.0.a.y <ℤ d.a.y) × (E d ≡ E k.0))).
        lower_no l d.0 d.1.0 (subst (λ p. p.y <ℤ d.0.a.y) (sym k.1.1) d.1.1) (d.1.2 ∙ sym e ∙ l.passes))
        (climb k.0 k.1.0)

-- a label that is a test of two parities, false where both are, is the parity of its own steps
pub by_two : (T X Y : List Segment) (label : Segment → Bool) (test : Bool → Bool → Bool) → World T label → View T →
    Even X → Within X T → Even Y → Within Y T → test false false ≡ false →
    ((s : Segment) → In s T → label s ≡ test (left X s) (left Y s)) →
    (s : Segment) → In s T → left (those label T) s ≡ label s
by_two T X Y label test w view ex wx ey wy none is s i =
    equal (left (those label T) s) (label s) (nowhere T (inside_out T label) (λ n t f j e. io_star T label w n t f j e) climb s i)
  where
    Z : List Segment
    Z = those label T

    nothing : (n : Segment) → First T n → ((U : List Segment) → Even U → Within U T → above U n.a ≡ false) → inside_out T label n ≡ false
    nothing n f h =
        all (left Z n) (left X n) (left Y n) (label n)
        (first_left T Z n w.plain (those_within label T) f ∙ h Z w.rings.even (those_within label T))
        (first_left T X n w.plain wx f ∙ h X ex wx) (first_left T Y n w.plain wy f ∙ h Y ey wy) (is n f.there)
      where
        all : (l x y k : Bool) → l ≡ false → x ≡ false → y ≡ false → k ≡ test x y → xor l k ≡ false
        all l x y k e f g h = let m : test x y ≡ false = subst (λ z. test z y ≡ false) (sym f) (subst (λ z. test false z ≡ false) (sym g) none) in rw (e) (h ∙ m)

    passed_on : (n d : Segment) → First T n → In d T → ((U : List Segment) → Even U → Within U T → left U d ≡ above U n.a) → inside_out T label d ≡ inside_out T label n
    passed_on n d f j h =
        all (left Z d) (left Z n) (label d) (label n) (left X d) (left X n) (left Y d) (left Y n)
        (h Z w.rings.even (those_within label T) ∙ sym (first_left T Z n w.plain (those_within label T) f))
        (h X ex wx ∙ sym (first_left T X n w.plain wx f)) (h Y ey wy ∙ sym (first_left T Y n w.plain wy f)) (is d j) (is n f.there)
      where
        all : (l l' k k' x x' y y' : Bool) → l ≡ l' → x ≡ x' → y ≡ y' → k ≡ test x y → k' ≡ test x' y' → xor l k ≡ xor l' k'
        all l l' k k' x x' y y' e f g h i = cc

    climb : (n : Segment) → First T n → (inside_out T label n ≡ false) ⊎ ((d : Segment) × (In d T × (n.a.y <ℤ d.a.y) × (inside_out T label d ≡ inside_out T label n)))
    climb n f =
        ⊎_elim
        (λ (h : (U : List Segment) → Even U → Within U T → above U n.a ≡ false). inl (nothing n f h))
        (λ (h : (d : Segment) × (In d T × (n.a.y <ℤ d.a.y) × ((U : List Segment) → Even U → Within U T → left U d ≡ above U n.a))).
        inr (h.0, (h.1.0, h.1.1, passed_on n h.0 f h.1.0 h.1.2)))
        (view n f)
