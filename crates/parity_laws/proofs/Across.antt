-- The parities at the two ends of a step, and on its two sides.
use Rattle.std.proofs.Common.{◌≡◌, ◌≢◌, refl, sym, ◌∙◌, subst, subst₂, arith, ℤ, pos, ◌<ℤ◌, ◌≤ℤ◌, ◌⊎◌, inl, inr, ⊎_elim, Bool, true, false, not, ◌&&◌, List, [], ◌∷◌}
use Rattle.std.specs.Prelude.{int_lt}
use Rattle.plane.proofs.Ring.{signed}
use Rattle.plane.proofs.Signs.{order}
use Rattle.plane.proofs.Collinear.{area_start, on_round}
use Rattle.plane.proofs.Points.{point_on}
use Rattle.plane.proofs.Parity.{edge_parity}
use Rattle.plane.proofs.Chain.{nothing, clear_back}
use Rattle.plane.proofs.Upright.{upright_parity}
use Rattle.topo_base.specs.Point.{Point, same_point}
use Rattle.plane.specs.Segment.{Segment}
use Rattle.topo_base.specs.RationalPoint.{IsBetween, rational}
use Rattle.plane.specs.RationalTests.{IsOn}
use Rattle.plane.specs.Relation.{AreApart}
use Rattle.plane.specs.Orientation.{area}
use Rattle.plane.specs.Crossings.{over, back, crosses, passed}
use Rattle.plane.specs.Parity.{xor}
use Rattle.plane.specs.Direction.{Direction}
use Rattle.parity_laws.specs.Steps.{direction, before, leaves_before, twin, odd, Each, Even, above, turned, times, left}
use Rattle.parity_laws.specs.Ways.{Onward, Apart, Fork, MeetsAtEnds, Tied}
use Rattle.parity_laws.proofs.Sums.{xor_none, xor_comm, xor_self, odd_both, odd_each, each_map, equal, summing}
use Rattle.parity_laws.proofs.Tests.{same_not, and_comm}
use Rattle.parity_laws.proofs.Gap.{seg, passed_to, gap, Gap, leaves_none, twin_no, twin_gap, start_gap, end_gap}
use Rattle.plane.proofs.Tests.{lt_yes, yes_lt}

-- ---- a step that is clear of s
any_edge : (s t : Segment) → AreApart s t → t.a.x <ℤ t.b.x → xor (crosses s t.a) (crosses s t.b) ≡ xor (passed t s.a) (passed t s.b)
any_edge s t clear probe =
    ⊎_elim
    (λ (h : s.b.x <ℤ s.a.x).
    let k : s.b.x ≤ℤ s.a.x = omega (arith, signed) in
    let e = edge_parity (back s) t (record { clear = clear_back s t clear; edge = k; probe = probe }) in
    rw (nothing s t.a k, nothing s t.b k) (e ∙ xor_comm (passed t s.b) (passed t s.a)))
    (λ (h : s.a.x ≤ℤ s.b.x).
    let e = edge_parity s t (record { clear = clear; edge = h; probe = probe }) in
    rw (nothing (back s) t.a h, nothing (back s) t.b h) (alone (over s t.a) (over s t.b) ∙ e))
    (order s.b.x s.a.x)
  where
    alone : (a b : Bool) → xor (xor a false) (xor b false) ≡ xor a b
    alone a b = simp summing

upright : (t s : Segment) → AreApart t s → s.a.x ≡ s.b.x → crosses t s.a ≡ crosses t s.b
upright t s clear e = sym (xor_none (crosses t s.a)) ∙ upright_parity s t.a (t.b ∷ []) e (clear, tt) ∙ xor_none (crosses t s.b)

never_passed : (s : Segment) (p : Point) → s.b.x ≤ℤ s.a.x → passed s p ≡ false
never_passed s p h = by_tests (int_lt s.a.x p.x) (int_lt s.b.x p.x) (int_lt (pos 0) (area s.a s.b p)) (λ e. let k = yes_lt s.a.x p.x e in lt_yes s.b.x p.x (omega (arith, signed)))
  where
    by_tests : (a b c : Bool) → (a ≡ true → b ≡ true) → a && not b && c ≡ false
    by_tests true true c e = refl
    by_tests true false c e = let f = e refl in cc
    by_tests false b c e = refl

-- s from left to right, or upright
pub clear_onward : (t s : Segment) → AreApart t s → s.a.x ≤ℤ s.b.x → xor (crosses t s.a) (crosses t s.b) ≡ xor (passed s t.a) (passed s t.b)
clear_onward t s clear h =
    ⊎_elim
    (λ (g : s.a.x <ℤ s.b.x). any_edge t s clear g)
    (λ (g : s.b.x ≤ℤ s.a.x).
    rw (never_passed s t.a g, never_passed s t.b g, upright t s clear (omega (arith, signed))) (xor_self (crosses t s.b)))
    (order s.a.x s.b.x)

self_between : (x y : ℤ) → IsBetween x x y
self_between x y = ⊎_elim (λ (h : x <ℤ y). inl (omega (arith, signed), omega (arith, signed))) (λ (h : y ≤ℤ x). inr (h, omega (arith, signed))) (order x y)

pub start_on : (s : Segment) → IsOn (rational s.a) s
start_on s = point_on s s.a (area_start s.a s.b) (self_between s.a.x s.b.x) (self_between s.a.y s.b.y)

pub end_on : (s : Segment) → IsOn (rational s.b) s
end_on s = on_round (back s) (rational s.b) (start_on (back s))

-- no end is on the other step
pub ends_differ : (t s : Segment) (p q : Point) → AreApart t s → IsOn (rational p) t → IsOn (rational q) s → p ≢ q
ends_differ t s p q clear hp hq e = clear (rational q) (subst (λ k. IsOn (rational k) t) e hp, hq)

pub record Aside (t s : Segment) : Type 0 where
  pub aa : same_point t.a s.a ≡ false
  pub ab : same_point t.a s.b ≡ false
  pub ba : same_point t.b s.a ≡ false
  pub bb : same_point t.b s.b ≡ false

pub aside : (t s : Segment) → AreApart t s → Aside t s
aside t s clear = record {
  aa = same_not t.a s.a (ends_differ t s t.a s.a clear (start_on t) (start_on s));
  ab = same_not t.a s.b (ends_differ t s t.a s.b clear (start_on t) (end_on s));
  ba = same_not t.b s.a (ends_differ t s t.b s.a clear (end_on t) (start_on s));
  bb = same_not t.b s.b (ends_differ t s t.b s.b clear (end_on t) (end_on s));
}

pub clear_gap : (t s : Segment) → AreApart t s → s.a.x ≤ℤ s.b.x → Gap s t
clear_gap t s clear h =
    let d = aside t s clear in
    all _ _ _ _ _ _ _ _ (clear_onward t s clear h) (leaves_none s.a (direction s) t d.aa d.ba) (leaves_none s.b (direction (back s)) t d.ab d.bb) (twin_no s t d.ba d.bb) d.ab d.bb
  where
    all : (c l m k p q x y : Bool) → c ≡ xor p q → l ≡ false → m ≡ false → k ≡ false → x ≡ false → y ≡ false → xor c (xor (xor l m) k) ≡ xor (xor p x) (xor q y)
    all c l m k p q x y e f g h i j = rw (e, f, g, h, i, j) (last p q)
      where
        last : (p q : Bool) → xor (xor p q) false ≡ xor (xor p false) (xor q false)
        last p q = simp summing

-- ---- t walked backwards
pub leaves_back : (v : Point) (u : Direction) (t : Segment) → leaves_before v u (back t) ≡ leaves_before v u t
leaves_back v u t = xor_comm (same_point t.b v && before (direction (back t)) u) (same_point t.a v && before (direction t) u)

pub twin_back : (s t : Segment) → twin s (back t) ≡ twin s t
twin_back s t = cross_over (same_point t.b s.a) (same_point t.a s.b) (same_point t.b s.b) (same_point t.a s.a)
  where
    cross_over : (a b c d : Bool) → xor (a && b) (c && d) ≡ xor (d && c) (b && a)
    cross_over a b c d = rw (and_comm a b, and_comm c d) (xor_comm (b && a) (d && c))

pub gap_back : (s t : Segment) → gap s (back t) ≡ gap s t
gap_back s t =
    four (crosses (back t) s.a) (crosses (back t) s.b) (leaves_before s.a (direction s) (back t)) (leaves_before s.b (direction (back s)) (back t)) (twin s (back t))
    (crosses t s.a) (crosses t s.b) (leaves_before s.a (direction s) t) (leaves_before s.b (direction (back s)) t) (twin s t)
    (xor_comm (over (back t) s.a) (over t s.a)) (xor_comm (over (back t) s.b) (over t s.b)) (leaves_back s.a (direction s) t) (leaves_back s.b (direction (back s)) t) (twin_back s t)
  where
    four : (a b c d e a' b' c' d' e' : Bool) → a ≡ a' → b ≡ b' → c ≡ c' → d ≡ d' → e ≡ e' → xor (xor a b) (xor (xor c d) e) ≡ xor (xor a' b') (xor (xor c' d') e')
    four a b c d e a' b' c' d' e' fa fb fc fd fe = cc

pub back_gap : (s t : Segment) → Gap s (back t) → Gap s t
back_gap s t e = sym (gap_back s t) ∙ e ∙ xor_comm (passed_to s t.b) (passed_to s t.a)

-- ---- each way to lie
meets_gap : (s t : Segment) → Onward s.a s.b → s.a ≢ s.b → MeetsAtEnds s t → Gap s t
meets_gap s t on n h =
    ⊎_elim
    (λ (g : (t.a ≡ s.a) × (t.b ≡ s.b)). subst₂ (λ p q. Gap s (seg p q)) (sym g.0) (sym g.1) (twin_gap s.a s.b n))
    (λ (g : Fork s t ⊎ Fork (back s) t).
    ⊎_elim
    (λ (f : Fork s t). subst (λ p. Gap s (seg p t.b)) (sym f.start) (start_gap s.a s.b t.b on n f.not_start f.not_end))
    (λ (f : Fork (back s) t).
    subst (λ p. Gap s (seg p t.b)) (sym f.start)
    (end_gap s.a s.b t.b on n f.not_end f.not_start (subst (λ p. Apart (direction (seg p t.b)) (direction (back s))) f.start f.apart)))
    g)
    h

pub tied_gap : (s t : Segment) → Onward s.a s.b → s.a ≢ s.b → Tied s t → Gap s t
tied_gap s t on n h =
    ⊎_elim
    (λ (g : AreApart t s). clear_gap t s g on.along)
    (λ (g : MeetsAtEnds s t ⊎ MeetsAtEnds s (back t)).
    ⊎_elim
    (λ (f : MeetsAtEnds s t). meets_gap s t on n f)
    (λ (f : MeetsAtEnds s (back t)). back_gap s t (meets_gap s (back t) on n f))
    g)
    h

-- ---- over a list
pub gaps : (s : Segment) (X : List Segment) → odd (gap s) X ≡ xor (xor (above X s.a) (above X s.b)) (xor (xor (turned X s.a (direction s)) (turned X s.b (direction (back s)))) (times X s))
gaps s X =
    odd_both (λ t. xor (crosses t s.a) (crosses t s.b)) (λ t. xor (xor (leaves_before s.a (direction s) t) (leaves_before s.b (direction (back s)) t)) (twin s t)) X
    ∙ cc (
      odd_both (λ t. crosses t s.a) (λ t. crosses t s.b) X,
      odd_both (λ t. xor (leaves_before s.a (direction s) t) (leaves_before s.b (direction (back s)) t)) (twin s) X,
      odd_both (leaves_before s.a (direction s)) (leaves_before s.b (direction (back s))) X,
    )

pub across_onward : (s : Segment) (X : List Segment) → Even X → Each (Tied s) X → Onward s.a s.b → s.a ≢ s.b → left X s ≡ xor (left X (back s)) (times X s)
across_onward s X even tied on n =
    let e = odd_each (gap s) (λ t. xor (passed_to s t.a) (passed_to s t.b)) X (each_map (Tied s) (Gap s) (λ t h. tied_gap s t on n h) X tied) in
    sides (above X s.a) (above X s.b) (turned X s.a (direction s)) (turned X s.b (direction (back s))) (times X s) (sym (gaps s X) ∙ e ∙ even (passed_to s))
  where
    sides : (a b c d e : Bool) → xor (xor a b) (xor (xor c d) e) ≡ false → xor a c ≡ xor (xor b d) e
    sides a b c d e f = equal (xor a c) (xor (xor b d) e) (order5 a b c d e ∙ f)
      where
        order5 : (a b c d e : Bool) → xor (xor a c) (xor (xor b d) e) ≡ xor (xor a b) (xor (xor c d) e)
        order5 a b c d e = simp summing
