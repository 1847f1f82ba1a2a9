-- Whether a ring is a shell, and which faces have one.
use Rattle.std.proofs.Common.{◌≡◌, refl, ◌∙◌, ap, Bool, true, false, not, ◌&&◌, List}
use Rattle.plane.specs.Segment.{Segment}
use Rattle.plane.specs.Parity.{xor}
use Rattle.plane.specs.Crossings.{back}
use Rattle.topo_base.specs.Point.{same_point, Point}
use Rattle.plane.specs.Direction.{Direction}
use Rattle.parity_laws.specs.Steps.{Each, direction, before, leaves_before, above, turned, times, left}
use Rattle.parity_laws.specs.Walks.{NoHigher}
use Rattle.parity_laws.specs.Rings.{In, Next, Plain, Within, those, has, Once, Labelled, First}
use Rattle.parity_laws.proofs.Sums.{xor_none, odd_none, summing}
use Rattle.parity_laws.proofs.Tests.{same_is}
use Rattle.parity_laws.proofs.Walking.{nothing_above}
use Rattle.parity_laws.proofs.Ringwise.{side_next, side_back, in_each}
use Rattle.parity_laws.proofs.Star.{star, those_within, has_label, times_has}

-- all steps of a plain drawing, each once, with a label that is one for each ring
pub record World (T : List Segment) (label : Segment → Bool) : Type 0 where
  pub plain : Plain T
  pub once : Once T
  pub rings : Labelled T label

-- the parity of the labelled steps left of s, and whether s is one of them
abbrev pub inside_out : List Segment → (Segment → Bool) → Segment → Bool
inside_out T label s = xor (left (those label T) s) (label s)

-- ---- it stays round corners and from side to side
pub io_next : (T : List Segment) (label : Segment → Bool) → World T label → (d n : Segment) → In d T → In n T → Next T d n → inside_out T label d ≡ inside_out T label n
io_next T label w d n i j next = cc (side_next T (those label T) d n w.plain w.rings.even (those_within label T) i next, w.rings.next d n i j next)

pub io_back : (T : List Segment) (label : Segment → Bool) → World T label → (d : Segment) → In d T → inside_out T label (back d) ≡ inside_out T label d
io_back T label w d i =
    last (left (those label T) d) (left (those label T) (back d)) (times (those label T) d) (has (those label T) d) (has (those label T) (back d)) (label d) (label (back d))
    (side_back T (those label T) d w.plain w.rings.even (those_within label T) i) (times_has (those label T) d) (has_label label T w.once d i) (has_label label T w.once (back d) (w.plain.both d i))
  where
    last : (l b t h k p q : Bool) → l ≡ xor b t → t ≡ xor h k → h ≡ p → k ≡ q → xor b q ≡ xor l p
    last l b t h k p q e f g i = rw (e, f, g, i) (sums b p q)
      where
        sums : (b p q : Bool) → xor b q ≡ xor (xor b (xor p q)) p
        sums b p q = simp summing

-- all steps at one vertex
pub io_star : (T : List Segment) (label : Segment → Bool) → World T label → (n s : Segment) → First T n → In s T → s.a ≡ n.a → inside_out T label s ≡ inside_out T label n
io_star T label w n s first i e = star T (inside_out T label) n w.plain first (io_next T label w) (io_back T label w) s i e

-- ---- the first step at a vertex sees on its left what is straight above
-- no step at v comes before the direction u
pub none_turned : (T X : List Segment) (v : Point) (u : Direction) → Plain T → Within X T → ((t : Segment) → In t T → t.a ≡ v → before (direction t) u ≡ false) → turned X v u ≡ false
none_turned T X v u plain w none = odd_none (leaves_before v u) X (in_each (λ t. leaves_before v u t ≡ false) X each)
  where
    by_tests : (a b c d : Bool) → (a ≡ true → b ≡ false) → (c ≡ true → d ≡ false) → xor (a && b) (c && d) ≡ false
    by_tests true b true d f g = rw (f refl, g refl)
    by_tests true b false d f g = rw (f refl)
    by_tests false b true d f g = g refl
    by_tests false b false d f g = refl

    each : (t : Segment) → In t X → leaves_before v u t ≡ false
    each t i =
        by_tests (same_point t.a v) (before (direction t) u) (same_point t.b v) (before (direction (back t)) u)
        (λ e. none t (w t i) (same_is t.a v e)) (λ e. none (back t) (plain.both t (w t i)) (same_is t.b v e))

pub first_left : (T X : List Segment) (n : Segment) → Plain T → Within X T → First T n → left X n ≡ above X n.a
first_left T X n plain w first = ap (xor (above X n.a)) (none_turned T X n.a (direction n) plain w first.none) ∙ xor_none (above X n.a)

-- ---- a ring and its top vertex
-- r leaves the top vertex of the labelled steps: left of r the parity is 0 where the wedge that holds straight up is theirs, else 1
pub shell_law : (T : List Segment) (label : Segment → Bool) → World T label → (n r : Segment) → First T n → In r T → r.a ≡ n.a → label r ≡ true →
    Each (NoHigher n.a) (those label T) → left (those label T) r ≡ not (label n)
shell_law T label w n r first i e mine top =
    last (left (those label T) r) (label r) (left (those label T) n) (label n) (io_star T label w n r first i e) mine
    (first_left T (those label T) n w.plain (those_within label T) first ∙ nothing_above (those label T) n.a top)
  where
    last : (l p k q : Bool) → xor l p ≡ xor k q → p ≡ true → k ≡ false → l ≡ not q
    last true true true q e f g = cc
    last true true false true e f g = cc
    last true true false false e f g = refl
    last false true true q e f g = cc
    last false true false true e f g = refl
    last false true false false e f g = cc
    last l false k q e f g = cc
