-- The parity of the segments of a closed line above a point stays along a way that meets none of them.
use Rattle.std.proofs.Common.{◌≡◌, ℕ, suc, ◌<◌, refl, sym, ◌∙◌, ap, arith, ℤ, pos, ◌-ℤ◌, ◌*ℤ◌, ◌<ℤ◌, ◌≤ℤ◌, ⊎_elim, Bool, true, false, List, [], ◌∷◌}
use Rattle.std.specs.Prelude.{◌&&◌, ◌||◌, int_lt, int_le, not}
use Rattle.std.proofs.lemmas.Int.{ints}
use Rattle.plane.proofs.Diff.{diff-same}
use Rattle.plane.proofs.Ring.{multiplied, signed}
use Rattle.plane.proofs.Wide.{summed}
use Rattle.plane.proofs.Signs.{order, no_zero_divisor}
use Rattle.plane.proofs.Tests.{lt_yes, lt_no}
use Rattle.plane.specs.Crossings.{crosses, crosses_at, odd_at, last_of, way, larger_spot, WayClear}
use Rattle.plane.proofs.Scale.{parity_at}
use Rattle.topo_base.specs.Point.{Point}
use Rattle.topo_base.specs.RationalPoint.{RationalPoint, IsBetween}
use Rattle.plane.specs.Segment.{Segment}
use Rattle.plane.specs.Line.{last_vertex, segments_of}
use Rattle.plane.specs.RationalTests.{IsOn, IsOnLine, IsOnWay, area_at, is_over_at, is_odd_over_at}
use Rattle.plane.specs.Parity.{xor, is_over}
use Rattle.plane.specs.Orientation.{area}
use Rattle.plane.specs.ParityLaw.{IsClearWay, ParityStays}

-- ---- the way in the larger plane is the way
way_times : (A B x y p r d e k : ℤ) →
    A *ℤ (y *ℤ (d *ℤ e) -ℤ (r *ℤ e) *ℤ k) -ℤ B *ℤ (x *ℤ (d *ℤ e) -ℤ (p *ℤ e) *ℤ k)
    ≡ e *ℤ (A *ℤ (y *ℤ d -ℤ r *ℤ k) -ℤ B *ℤ (x *ℤ d -ℤ p *ℤ k))
way_times A B x y p r d e k = simp multiplied (simp summed (diff-same _ _ _ _ (omega arith)))

swing_first : (a e k : ℤ) → (a *ℤ e) *ℤ k ≡ a *ℤ (k *ℤ e)
swing_first a e k = simp multiplied

swing_last : (a d k : ℤ) → (a *ℤ d) *ℤ k ≡ a *ℤ (d *ℤ k)
swing_last a d k = simp multiplied

between_swung : (a b m d e k : ℤ) → IsBetween ((a *ℤ e) *ℤ k) m ((b *ℤ d) *ℤ k) → IsBetween (a *ℤ (k *ℤ e)) m (b *ℤ (d *ℤ k))
between_swung a b m d e k h = rw (swing_first a e k, swing_last b d k) at h

on_way : (p q r : RationalPoint) → IsOn (larger_spot (p.d *ℤ q.d) r) (way p q) → IsOnWay r p q
on_way p q r on = record {
  straight = equal
      (no_zero_divisor q.d ((q.x *ℤ p.d -ℤ p.x *ℤ q.d) *ℤ (r.y *ℤ p.d -ℤ p.y *ℤ r.d) -ℤ (q.y *ℤ p.d -ℤ p.y *ℤ q.d) *ℤ (r.x *ℤ p.d -ℤ p.x *ℤ r.d))
      (sym (way_times (q.x *ℤ p.d -ℤ p.x *ℤ q.d) (q.y *ℤ p.d -ℤ p.y *ℤ q.d) r.x r.y p.x p.y p.d q.d r.d) ∙ on.straight)
      (some q.d q.whole));
  across = between_swung p.x q.x (r.x *ℤ (p.d *ℤ q.d)) p.d q.d r.d on.across;
  upward = between_swung p.y q.y (r.y *ℤ (p.d *ℤ q.d)) p.d q.d r.d on.upward;
}
  where
    equal : {x y : ℤ} → x -ℤ y ≡ pos 0 → x ≡ y
    equal e = omega (arith, signed)

    some : (d : ℤ) → pos 0 <ℤ d → d ≡ pos 0 → ⊥
    some d h e = omega (arith, signed)

-- ---- the tests of crossings are one
le_not_lt : (x y : ℤ) → int_le x y ≡ not (int_lt y x)
le_not_lt x y =
    ⊎_elim
    (λ (h : y <ℤ x). le_no x y h ∙ sym (ap not (lt_yes y x h)))
    (λ (h : x ≤ℤ y). le_yes x y h ∙ sym (ap not (lt_no y x h)))
    (order y x)
  where
    le_yes : (x y : ℤ) → x ≤ℤ y → int_le x y ≡ true
    le_yes x y h = let e : true ≡ int_le x y = omega (arith, ints) in sym e

    le_no : (x y : ℤ) → y <ℤ x → int_le x y ≡ false
    le_no x y h = let e : false ≡ int_le x y = omega (arith, ints) in sym e

first_tests : (k l u v a b : Bool) → k ≡ not u → l ≡ not v → (not u && v && a || not v && u && b) ≡ (k && v && a || l && u && b)
first_tests k l u v a b e f = rw (e, f)

-- at most one of the two ways between two ends is over a point
one_way : (u v a b : Bool) → xor (not u && v && a) (not v && u && b) ≡ (not u && v && a || not v && u && b)
one_way true true a b = refl
one_way true false a b = refl
one_way false true true b = refl
one_way false true false b = refl
one_way false false a b = refl

pub over_is : (s : Segment) (q : RationalPoint) → crosses_at s q ≡ is_over_at q s
over_is s q =
    one_way (int_lt q.x (s.a.x *ℤ q.d)) (int_lt q.x (s.b.x *ℤ q.d)) (int_lt (area_at s.a s.b q) (pos 0)) (int_lt (area_at s.b s.a q) (pos 0))
    ∙ first_tests (int_le (s.a.x *ℤ q.d) q.x) (int_le (s.b.x *ℤ q.d) q.x) (int_lt q.x (s.a.x *ℤ q.d)) (int_lt q.x (s.b.x *ℤ q.d)) (int_lt (area_at s.a s.b q) (pos 0)) (int_lt (area_at s.b s.a q) (pos 0))
    (le_not_lt (s.a.x *ℤ q.d) q.x) (le_not_lt (s.b.x *ℤ q.d) q.x)

-- the same at grid points
pub over_point_is : (s : Segment) (q : Point) → crosses s q ≡ is_over q s
over_point_is s q =
    one_way (int_lt q.x s.a.x) (int_lt q.x s.b.x) (int_lt (area s.a s.b q) (pos 0)) (int_lt (area s.b s.a q) (pos 0))
    ∙ first_tests (int_le s.a.x q.x) (int_le s.b.x q.x) (int_lt q.x s.a.x) (int_lt q.x s.b.x) (int_lt (area s.a s.b q) (pos 0)) (int_lt (area s.b s.a q) (pos 0))
    (le_not_lt s.a.x q.x) (le_not_lt s.b.x q.x)

odd_is : (v : Point) (ws : List Point) (q : RationalPoint) → odd_at v ws q ≡ is_odd_over_at q (segments_of (v ∷ ws))
odd_is v [] q = refl
odd_is v (w ∷ ws) q =
    ap (λ z. xor z (odd_at w ws q)) (over_is (record { a = v; b = w }) q)
    ∙ ap (λ z. xor (is_over_at q (record { a = v; b = w })) z) (odd_is w ws q)

last_is : (v : Point) (ws : List Point) → last_of v ws ≡ last_vertex (v ∷ ws)
last_is v [] = refl
last_is v (w ∷ ws) = last_is w ws

-- ---- the law
on_rest : (v w : Point) (ws : List Point) (r : RationalPoint) → IsOnLine r (w ∷ ws) → IsOnLine r (v ∷ w ∷ ws)
on_rest v w ws r on = (on.0, ((suc on.1.0.0, later on.1.0.1, on.1.0.2), on.1.1))
  where
    later : {k n : ℕ} → k < n → suc k < suc n
    later h = omega arith

way_clear : (p q : RationalPoint) (v : Point) (ws : List Point) → IsClearWay p q (v ∷ ws) → WayClear p q v ws
way_clear p q v [] clear = tt
way_clear p q v (w ∷ ws) clear = (
  λ r on way. clear r (on_way p q r way) (record { a = v; b = w }, ((0, omega arith, refl), on)),
  way_clear p q w ws (λ r way on. clear r way (on_rest v w ws r on)),
)

pub parity_stays : ParityStays
parity_stays p q [] closed clear = refl
parity_stays p q (v ∷ ws) closed clear = sym (odd_is v ws p) ∙ parity_at p q v ws (last_is v ws ∙ closed) (way_clear p q v ws clear) ∙ odd_is v ws q
