-- The step after each step: there is one, no two, and no two steps have the same one after them.
use Rattle.std.proofs.Common.{◌≡◌, refl, sym, ◌∙◌, ap, subst, ⊎_elim, Bool, true, false, not, cond, ◌&&◌, List}
use Rattle.std.specs.Prelude.{◌||◌}
use Rattle.std.proofs.lemmas.Bool.{both_ways}
use Rattle.topo_base.specs.Point.{same_point}
use Rattle.plane.specs.Segment.{Segment}
use Rattle.plane.specs.Direction.{Direction}
use Rattle.plane.specs.Crossings.{back}
use Rattle.parity_laws.specs.Steps.{direction, before}
use Rattle.parity_laws.specs.Ways.{Apart, Outside, inside}
use Rattle.parity_laws.specs.Rings.{In, Next, Plain}
use Rattle.parity_laws.proofs.Tests.{same_self, same_is, one_first}
use Rattle.parity_laws.proofs.Gap.{before_self}
use Rattle.parity_laws.proofs.Clockwise.{before_onward}
use Rattle.parity_laws.proofs.Ringwise.{each_in, in_each}
use Rattle.parity_laws.proofs.Star.{Least, least, same_start}

-- ---- "strictly inside the wedge from u to" is an order
pub inside_end : (u d : Direction) → inside u d d ≡ false
inside_end u d = by_test (before u d) (before d d) (before_self d)
  where
    by_test : (a b : Bool) → b ≡ false → cond a (a && b) (a || b) ≡ false
    by_test true b e = e
    by_test false b e = e

pub inside_onward : (u r s t : Direction) → inside u s r ≡ true → inside u t s ≡ true → inside u t r ≡ true
inside_onward u r s t e f =
    by_tests (before u r) (before u s) (before u t) (before r s) (before s t) (before r t) (λ g h. before_onward r s t g h) e f
  where
    by_tests : (a b c x y z : Bool) → (x ≡ true → y ≡ true → z ≡ true) → cond b (a && x) (a || x) ≡ true → cond c (b && y) (b || y) ≡ true → cond c (a && z) (a || z) ≡ true
    by_tests true true true x y z g e f = g e f
    by_tests true true false x y z g e f = refl
    by_tests true false true x y z g e f = cc
    by_tests true false false x y z g e f = refl
    by_tests false true c x y z g e f = cc
    by_tests false false true x y z g e f = cc
    by_tests false false false x y z g e f = g e f

-- ---- the first step clockwise from s, reversed, where s ends
pub follows : (T : List Segment) → Plain T → (s : Segment) → In s T → (n : Segment) × (In n T × Next T s n)
follows T plain s i =
    ⊎_elim
    (λ (f : (t : Segment) → In t T → starts t ≡ false). absurd (both_ways (same_point s.b s.b) (f (back s) (plain.both s i)) (same_self s.b)))
    (λ (l : Least T starts sooner). (
      l.it,
      (
        l.there,
        record {
          meets = same_is l.it.a s.b l.passes;
          first = in_each (Outside s (direction l.it)) T (λ t j. record {
            start = λ e. l.none t j (meeting t e);
            end = λ e. l.none (back t) (plain.both t j) (meeting (back t) e);
          });
        },
      ),
    ))
    (least starts sooner (λ t. inside_end (direction (back s)) (direction t)) (λ r t u e f. inside_onward (direction (back s)) (direction r) (direction t) (direction u) e f) T)
  where
    starts : Segment → Bool
    starts t = same_point t.a s.b

    sooner : Segment → Segment → Bool
    sooner r t = inside (direction (back s)) (direction t) (direction r)

    meeting : (t : Segment) → t.a ≡ s.b → same_point t.a s.b ≡ true
    meeting t e = subst (λ p. same_point p s.b ≡ true) (sym e) (same_self s.b)

-- ---- two steps that leave one vertex are one, or one of them is inside the other's wedge
outside_start : (T : List Segment) (d n t : Segment) → Next T d n → In t T → t.a ≡ d.b → inside (direction (back d)) (direction n) (direction t) ≡ false
outside_start T d n t next i e = (each_in (Outside d (direction n)) T next.first t i).start e

pub next_same : (T : List Segment) (d n m : Segment) → Plain T → In n T → In m T → Next T d n → Next T d m → n ≡ m
next_same T d n m plain i j h k =
    ⊎_elim
    (λ (e : n ≡ m). e)
    (λ (f : Apart (direction n) (direction m)).
    absurd (never (before (direction (back d)) (direction n)) (before (direction (back d)) (direction m)) (before (direction n) (direction m)) (before (direction m) (direction n))
    (one_first (direction n) (direction m) f) (outside_start T d n m h j k.meets) (outside_start T d m n k i h.meets)))
    (same_start T m n plain j i (h.meets ∙ sym k.meets))
  where
    never : (a b c e : Bool) → c ≡ not e → cond a (b && e) (b || e) ≡ false → cond b (a && c) (a || c) ≡ false → ⊥
    never true true c e f g h = both_ways c h (f ∙ ap not g)
    never true false c e f g h = both_ways true h refl
    never false true c e f g h = both_ways true g refl
    never false false c e f g h = both_ways c h (f ∙ ap not g)

pub next_apart : (T : List Segment) (d e n : Segment) → Plain T → In d T → In e T → Next T d n → Next T e n → d ≡ e
next_apart T d e n plain i j h k =
    ⊎_elim
    (λ (f : back d ≡ back e). ap back f)
    (λ (f : Apart (direction (back d)) (direction (back e))).
    absurd (never (before (direction (back d)) (direction n)) (before (direction (back e)) (direction n)) (before (direction (back d)) (direction (back e))) (before (direction (back e)) (direction (back d)))
    (one_first (direction (back d)) (direction (back e)) f)
    (outside_start T d n (back e) h (plain.both e j) (sym k.meets ∙ h.meets)) (outside_start T e n (back d) k (plain.both d i) (sym h.meets ∙ k.meets))))
    (same_start T (back e) (back d) plain (plain.both e j) (plain.both d i) (sym h.meets ∙ k.meets))
  where
    never : (a b c e : Bool) → c ≡ not e → cond a (c && b) (c || b) ≡ false → cond b (e && a) (e || a) ≡ false → ⊥
    never true true true e f g h = both_ways true g refl
    never true true false true f g h = both_ways true h refl
    never true true false false f g h = both_ways true (sym f) refl
    never true false c true f g h = both_ways true h refl
    never true false c false f g h = both_ways true h refl
    never false true true e f g h = both_ways true g refl
    never false true false e f g h = both_ways true g refl
    never false false true e f g h = both_ways true g refl
    never false false false true f g h = both_ways true h refl
    never false false false false f g h = both_ways true (sym f) refl
