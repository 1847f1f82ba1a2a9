-- The foot: the point straight above v on the lowest step over v, in a plane made so much larger that it is whole.
use Rattle.std.proofs.Common.{◌≡◌, refl, sym, ◌∙◌, ap, subst, arith, ℤ, pos, ◌-ℤ◌, ◌*ℤ◌, ◌+ℤ◌, ◌<ℤ◌, ◌≤ℤ◌, ◌⊎◌, ⊎_elim, Bool, true, false, not, ◌&&◌, List, map}
use Rattle.std.specs.Prelude.{int_lt}
use Rattle.std.proofs.lemmas.Bool.{both_ways, false_from_ne_true}
use Rattle.std.proofs.Math.IntN.{*ℤ-zero}
use Rattle.plane.proofs.Diff.{diff-same}
use Rattle.plane.proofs.Wide.{summed}
use Rattle.plane.proofs.Ring.{multiplied, signed, mul_comm}
use Rattle.plane.proofs.Signs.{order, mul_positive, no_zero_divisor}
use Rattle.plane.proofs.Probe.{factor_positive}
use Rattle.plane.proofs.Scale.{on_smaller, smaller_spot}
use Rattle.plane.proofs.LineLemmas.{end_on as on_between}
use Rattle.topo_base.specs.Point.{Point, same_point}
use Rattle.plane.specs.Segment.{Segment}
use Rattle.topo_base.specs.RationalPoint.{rational}
use Rattle.plane.specs.RationalTests.{IsOn}
use Rattle.plane.specs.Relation.{AreApart}
use Rattle.plane.specs.Orientation.{area}
use Rattle.plane.specs.Crossings.{over, back, crosses, larger, larger_segment}
use Rattle.plane.specs.Parity.{xor}
use Rattle.plane.specs.Direction.{cross}
use Rattle.parity_laws.specs.Steps.{direction, rightward, twin, above, times}
use Rattle.parity_laws.specs.Ways.{Tied, MeetsAtEnds, Fork}
use Rattle.parity_laws.specs.Rings.{In, Plain, Within}
use Rattle.parity_laws.proofs.Sums.{odd_both, odd_each, xor_yes_no, xor_no_yes, xor_neither, xor_four}
use Rattle.parity_laws.proofs.Tests.{not_and_parts, not_and_from, and_third, and_comm, exact_is, exact_self, same_half}
use Rattle.parity_laws.proofs.Gap.{seg, rightward_yes, rightward_no}
use Rattle.parity_laws.proofs.Scaling.{lt_larger, sign_larger, odd_larger}
use Rattle.parity_laws.proofs.Viewing.{width, height, area_height, Over, over_out, over_in, Lowest}
use Rattle.parity_laws.proofs.Ringwise.{each_in, in_each}
use Rattle.plane.proofs.Tests.{lt_yes, lt_no, yes_lt, no_lt}

pub right_yes : (s : Segment) → s.a.x <ℤ s.b.x → rightward (direction s) ≡ true
right_yes s h = rightward_yes s.a s.b (record { along = omega (arith, signed); down = λ k. absurd (omega (arith, signed)) })

pub right_no : (s : Segment) → s.b.x <ℤ s.a.x → rightward (direction s) ≡ false
right_no s h = rightward_no s.b s.a (record { along = omega (arith, signed); down = λ k. absurd (omega (arith, signed)) })

-- ---- the foot
pub record Foot (T : List Segment) (v : Point) (d : Segment) : Type 0 where
  pub plain : Plain T
  pub low : Lowest T v d
  pub inner : d.a.x <ℤ v.x

abbrev pub foot : Point → Segment → Point
foot v d = record { x = width d *ℤ v.x; y = height v.x d }

pub wide : (s : Segment) (v : Point) → Over s v → pos 0 <ℤ width s
wide s v h = let a = h.from in let b = h.to in omega (arith, signed)

foot_area : (k h x : ℤ) (t : Segment) →
    ((k *ℤ t.b.x) -ℤ (k *ℤ t.a.x)) *ℤ (h -ℤ (k *ℤ t.a.y)) -ℤ ((k *ℤ t.b.y) -ℤ (k *ℤ t.a.y)) *ℤ ((k *ℤ x) -ℤ (k *ℤ t.a.x)) ≡ k *ℤ (width t *ℤ h -ℤ k *ℤ height x t)
foot_area k h x t = plain k h x t.a.x t.a.y t.b.x t.b.y
  where
    plain : (k h x ax ay bx by : ℤ) → ((k *ℤ bx) -ℤ (k *ℤ ax)) *ℤ (h -ℤ (k *ℤ ay)) -ℤ ((k *ℤ by) -ℤ (k *ℤ ay)) *ℤ ((k *ℤ x) -ℤ (k *ℤ ax)) ≡ k *ℤ ((bx -ℤ ax) *ℤ h -ℤ k *ℤ (ay *ℤ (bx -ℤ ax) +ℤ (by -ℤ ay) *ℤ (x -ℤ ax)))
    plain k h x ax ay bx by = simp multiplied (omega (arith, signed))

-- ---- steps that share an end with d and pass through the foot
from_start : (d t : Segment) (v : Point) → t.a ≡ d.a → d.a.x <ℤ v.x → width t *ℤ height v.x d -ℤ width d *ℤ height v.x t ≡ pos 0 → cross (direction d) (direction t) ≡ pos 0
from_start d t v e h z =
    no_zero_divisor (v.x -ℤ d.a.x) (cross (direction d) (direction t))
    (subst (λ p. (v.x -ℤ d.a.x) *ℤ cross (direction d) (direction (seg p t.b)) ≡ pos 0) (sym e)
    (plain d.a.x d.a.y d.b.x d.b.y t.b.x t.b.y v.x (subst (λ p. width (seg p t.b) *ℤ height v.x d -ℤ width d *ℤ height v.x (seg p t.b) ≡ pos 0) e z)))
    (omega (arith, signed))
  where
    plain : (ax ay bx by cx cy x : ℤ) → (cx -ℤ ax) *ℤ (ay *ℤ (bx -ℤ ax) +ℤ (by -ℤ ay) *ℤ (x -ℤ ax)) -ℤ (bx -ℤ ax) *ℤ (ay *ℤ (cx -ℤ ax) +ℤ (cy -ℤ ay) *ℤ (x -ℤ ax)) ≡ pos 0 →
        (x -ℤ ax) *ℤ ((bx -ℤ ax) *ℤ (cy -ℤ ay) -ℤ (by -ℤ ay) *ℤ (cx -ℤ ax)) ≡ pos 0
    plain ax ay bx by cx cy x e = let f = simp multiplied at e in simp multiplied (omega (arith, signed))

from_end : (d t : Segment) (v : Point) → d.b ≡ t.b → v.x <ℤ d.b.x → width t *ℤ height v.x d -ℤ width d *ℤ height v.x t ≡ pos 0 → cross (direction (back d)) (direction (back t)) ≡ pos 0
from_end d t v e h z =
    no_zero_divisor (d.b.x -ℤ v.x) (cross (direction (back d)) (direction (back t)))
    (subst (λ p. (d.b.x -ℤ v.x) *ℤ cross (direction (back d)) (direction (seg p t.a)) ≡ pos 0) e
    (plain d.b.x d.b.y d.a.x d.a.y t.a.x t.a.y v.x (subst (λ p. width (seg t.a p) *ℤ height v.x d -ℤ width d *ℤ height v.x (seg t.a p) ≡ pos 0) (sym e) z)))
    (omega (arith, signed))
  where
    plain : (bx by ax ay cx cy x : ℤ) → (bx -ℤ cx) *ℤ (ay *ℤ (bx -ℤ ax) +ℤ (by -ℤ ay) *ℤ (x -ℤ ax)) -ℤ (bx -ℤ ax) *ℤ (cy *ℤ (bx -ℤ cx) +ℤ (by -ℤ cy) *ℤ (x -ℤ cx)) ≡ pos 0 →
        (bx -ℤ x) *ℤ ((ax -ℤ bx) *ℤ (cy -ℤ by) -ℤ (ay -ℤ by) *ℤ (cx -ℤ bx)) ≡ pos 0
    plain bx by ax ay cx cy x e = same_terms bx by ax ay cx cy x ∙ e
      where
        same_terms : (bx by ax ay cx cy x : ℤ) → (bx -ℤ x) *ℤ ((ax -ℤ bx) *ℤ (cy -ℤ by) -ℤ (ay -ℤ by) *ℤ (cx -ℤ bx)) ≡
            (bx -ℤ cx) *ℤ (ay *ℤ (bx -ℤ ax) +ℤ (by -ℤ ay) *ℤ (x -ℤ ax)) -ℤ (bx -ℤ ax) *ℤ (cy *ℤ (bx -ℤ cx) +ℤ (by -ℤ cy) *ℤ (x -ℤ cx))
        same_terms bx by ax ay cx cy x = simp multiplied (simp summed (diff-same _ _ _ _ (omega arith)))

-- ---- on d and on t in the larger plane
pub times_lt : (k x y : ℤ) → pos 0 <ℤ k → x <ℤ y → (k *ℤ x) <ℤ (k *ℤ y)
times_lt k x y h g = yes_lt (k *ℤ x) (k *ℤ y) (lt_larger k x y h ∙ lt_yes x y g)

pub times_le : (k x y : ℤ) → pos 0 <ℤ k → x ≤ℤ y → (k *ℤ x) ≤ℤ (k *ℤ y)
times_le k x y h g = no_lt (k *ℤ y) (k *ℤ x) (lt_larger k y x h ∙ lt_no y x g)

-- how far t is below the foot at its x, times both widths
abbrev below : Point → Segment → Segment → ℤ
below v d t = width t *ℤ height v.x d -ℤ width d *ℤ height v.x t

pub passes : (v : Point) (d t : Segment) → pos 0 <ℤ width d → Over t v → below v d t ≡ pos 0 → IsOn (rational (foot v d)) (larger_segment (width d) t)
passes v d t k h z =
    let a = h.from in
    let b = h.to in
    let ab : t.a.x <ℤ t.b.x = omega (arith, signed) in
    let bb : v.x ≤ℤ t.b.x = omega (arith, signed) in
    on_between (larger_segment (width d) t) (foot v d) (times_lt (width d) t.a.x t.b.x k ab) (times_le (width d) t.a.x v.x k a) (times_le (width d) v.x t.b.x k bb)
    (foot_area (width d) (height v.x d) v.x t ∙ ap (λ q. width d *ℤ q) z ∙ *ℤ-zero (width d))

pub below_self : (v : Point) (d : Segment) → below v d d ≡ pos 0
below_self v d = same_zero (width d *ℤ height v.x d)
  where
    same_zero : (h : ℤ) → h -ℤ h ≡ pos 0
    same_zero h = omega (arith, signed)

-- a step over v that passes through the foot is d
is_lowest : (T : List Segment) (v : Point) (d t : Segment) → Foot T v d → In t T → Over t v → below v d t ≡ pos 0 → t ≡ d
is_lowest T v d t f i h z =
    let k = wide d v f.low.isover in
    let a = h.from in
    let b = h.to in
    let a' = f.inner in
    let b' = f.low.isover.to in
    let td : t.a.x <ℤ t.b.x = omega (arith, signed) in
    let dd : d.a.x <ℤ d.b.x = omega (arith, signed) in
    ⊎_elim
    (λ (c : AreApart d t).
    absurd (c (smaller_spot (width d) k (rational (foot v d)))
    (on_smaller (width d) k d (rational (foot v d)) (passes v d d k f.low.isover (below_self v d)), on_smaller (width d) k t (rational (foot v d)) (passes v d t k h z))))
    (λ (g : MeetsAtEnds t d ⊎ MeetsAtEnds t (back d)).
    ⊎_elim
    (λ (m : MeetsAtEnds t d).
    ⊎_elim
    (λ (e : (d.a ≡ t.a) × (d.b ≡ t.b)). λ j. record { a = sym e.0 j; b = sym e.1 j })
    (λ (e : Fork t d ⊎ Fork (back t) d).
    ⊎_elim
    (λ (q : Fork t d). absurd (same_half (direction d) (direction t) true (right_yes d dd) (right_yes t td) (from_start d t v (sym q.start) a' z) q.apart))
    (λ (q : Fork (back t) d). let x = ap (λ (p : Point). p.x) q.start in absurd (omega (arith, signed)))
    e)
    m)
    (λ (m : MeetsAtEnds t (back d)).
    ⊎_elim
    (λ (e : (d.b ≡ t.a) × (d.a ≡ t.b)). let x = ap (λ (p : Point). p.x) e.1 in absurd (omega (arith, signed)))
    (λ (e : Fork t (back d) ⊎ Fork (back t) (back d)).
    ⊎_elim
    (λ (q : Fork t (back d)). let x = ap (λ (p : Point). p.x) q.start in absurd (omega (arith, signed)))
    (λ (q : Fork (back t) (back d)). absurd (same_half (direction (back d)) (direction (back t)) false (right_no (back d) dd) (right_no (back t) td) (from_end d t v q.start b' z) q.apart))
    e)
    m)
    g)
    (each_in (Tied t) T (f.plain.tied t i) d f.low.there)

-- ---- v sees what the foot sees, and d itself
abbrev exact : Segment → Segment → Bool
exact d t = same_point t.a d.a && same_point t.b d.b

not_above : (T : List Segment) (v : Point) (d t : Segment) → Foot T v d → In t T → Over t v → below v d t ≤ℤ pos 0
not_above T v d t f i h = by_parts (height v.x d) (width t) (height v.x t) (width d) (f.low.none t i h)
  where
    by_parts : (hd wt ht wd : ℤ) → (hd *ℤ wt) ≤ℤ (ht *ℤ wd) → (wt *ℤ hd -ℤ wd *ℤ ht) ≤ℤ pos 0
    by_parts hd wt ht wd n = let a = mul_comm hd wt in let b = mul_comm ht wd in omega (arith, signed)

foot_over : (T : List Segment) (v : Point) (d t : Segment) → Foot T v d → In t T → over t v ≡ xor (over (larger_segment (width d) t) (foot v d)) (exact d t)
foot_over T v d t f i = by_value (over t v) refl
  where
    k : pos 0 <ℤ width d
    k = wide d v f.low.isover

    sign : int_lt (area (larger (width d) t.a) (larger (width d) t.b) (foot v d)) (pos 0) ≡ int_lt (below v d t) (pos 0)
    sign = ap (λ z. int_lt z (pos 0)) (foot_area (width d) (height v.x d) v.x t) ∙ sign_larger (width d) (below v d t) k

    tests : over (larger_segment (width d) t) (foot v d) ≡ not (int_lt v.x t.a.x) && int_lt v.x t.b.x && int_lt (below v d t) (pos 0)
    tests = cc (lt_larger (width d) v.x t.a.x k, lt_larger (width d) v.x t.b.x k, sign)

    over_case : Over t v → xor (over (larger_segment (width d) t) (foot v d)) (exact d t) ≡ true
    over_case h =
        ⊎_elim
        (λ (g : below v d t <ℤ pos 0).
        xor_yes_no _ (exact d t) (tests ∙ not_and_from (int_lt v.x t.a.x) (int_lt v.x t.b.x) (int_lt (below v d t) (pos 0)) (lt_no v.x t.a.x h.from) (lt_yes v.x t.b.x h.to) (lt_yes (below v d t) (pos 0) g))
        (false_from_ne_true (exact d t) (λ e. let z = subst (λ s. below v d s ≡ pos 0) (exact_is d t e) (below_self v d) in clash (below v d t) g z)))
        (λ (g : pos 0 ≤ℤ below v d t).
        xor_no_yes _ (exact d t) (tests ∙ and_third (int_lt v.x t.a.x) (int_lt v.x t.b.x) (int_lt (below v d t) (pos 0)) (lt_no (below v d t) (pos 0) g))
        (subst (λ z. exact d z ≡ true) (sym (is_lowest T v d t f i h (zero (below v d t) g (not_above T v d t f i h)))) (exact_self d)))
        (order (below v d t) (pos 0))
      where
        clash : (x : ℤ) → x <ℤ pos 0 → x ≡ pos 0 → ⊥
        clash x g e = omega (arith, signed)

        zero : (x : ℤ) → pos 0 ≤ℤ x → x ≤ℤ pos 0 → x ≡ pos 0
        zero x g h = omega (arith, signed)

    -- v is below the foot
    lower_area : pos 0 <ℤ width t → below v d t <ℤ pos 0 → area t.a t.b v <ℤ pos 0
    lower_area wt h = by_widths (width t) (width d) (height v.x d) (height v.x t) v.y (area t.a t.b v) (area d.a d.b v) (area_height t v) (area_height d v) f.low.isover.under wt k h
      where
        by_widths : (wt wd hd ht y at ad : ℤ) → at ≡ wt *ℤ y -ℤ ht → ad ≡ wd *ℤ y -ℤ hd → ad <ℤ pos 0 → pos 0 <ℤ wt → pos 0 <ℤ wd → (wt *ℤ hd -ℤ wd *ℤ ht) <ℤ pos 0 → at <ℤ pos 0
        by_widths wt wd hd ht y at ad e g h hw hk b =
            let m = simp multiplied at (mul_positive wt (hd -ℤ wd *ℤ y) hw (omega (arith, signed))) in
            let n : pos 0 <ℤ (wd *ℤ (ht -ℤ wt *ℤ y)) = simp multiplied (omega (arith, signed)) in
            let q = factor_positive wd (ht -ℤ wt *ℤ y) hk n in
            omega (arith, signed)

    back_over : over (larger_segment (width d) t) (foot v d) ≡ true → over t v ≡ true
    back_over e =
        let q = not_and_parts (int_lt v.x t.a.x) (int_lt v.x t.b.x) (int_lt (below v d t) (pos 0)) (sym tests ∙ e) in
        let a = no_lt v.x t.a.x q.0 in
        let b = yes_lt v.x t.b.x q.1 in
        over_in t v (record { from = a; to = b; under = lower_area (omega (arith, signed)) (yes_lt (below v d t) (pos 0) q.2) })

    back_exact : exact d t ≡ true → over t v ≡ true
    back_exact e = subst (λ s. over s v ≡ true) (exact_is d t e) (over_in d v f.low.isover)

    by_value : (b : Bool) → over t v ≡ b → over t v ≡ xor (over (larger_segment (width d) t) (foot v d)) (exact d t)
    by_value true e = e ∙ sym (over_case (over_out t v e))
    by_value false e =
        e ∙ sym (xor_neither (over (larger_segment (width d) t) (foot v d)) (exact d t) (λ g. both_ways (over t v) e (back_over g)) (λ g. both_ways (over t v) e (back_exact g)))

pub foot_above : (T X : List Segment) (v : Point) (d : Segment) → Foot T v d → Within X T → above X v ≡ xor (above (map (larger_segment (width d)) X) (foot v d)) (times X d)
foot_above T X v d f w =
    odd_each (λ t. crosses t v) (λ t. xor (crosses (larger_segment (width d) t) (foot v d)) (twin d t)) X (in_each (λ t. crosses t v ≡ xor (crosses (larger_segment (width d) t) (foot v d)) (twin d t)) X (λ t i. one t (w t i)))
    ∙ odd_both (λ t. crosses (larger_segment (width d) t) (foot v d)) (twin d) X
    ∙ ap (λ z. xor z (times X d)) (sym (odd_larger (width d) (λ t. crosses t (foot v d)) (λ t. crosses (larger_segment (width d) t) (foot v d)) (λ t. refl) X))
  where
    one : (t : Segment) → In t T → crosses t v ≡ xor (crosses (larger_segment (width d) t) (foot v d)) (twin d t)
    one t i =
        six (over t v) (over (back t) v) (over (larger_segment (width d) t) (foot v d)) (over (larger_segment (width d) (back t)) (foot v d)) (exact d t) (exact d (back t)) (same_point t.a d.b && same_point t.b d.a)
        (foot_over T v d t f i) (foot_over T v d (back t) f (f.plain.both t i)) (and_comm (same_point t.b d.a) (same_point t.a d.b))
      where
        six : (a b c e x y y' : Bool) → a ≡ xor c x → b ≡ xor e y → y ≡ y' → xor a b ≡ xor (xor c e) (xor x y')
        six a b c e x y y' f g h = rw (f, g, h) (xor_four c x e y')
