-- The lowest step straight above a vertex.
use Rattle.std.proofs.Common.{◌≡◌, refl, sym, ◌∙◌, ap, subst, arith, ℤ, pos, negsuc, ◌-ℤ◌, ◌*ℤ◌, ◌+ℤ◌, ◌<ℤ◌, ◌≤ℤ◌, ◌⊎◌, inl, inr, ⊎_elim, Bool, true, false, ◌&&◌, List}
use Rattle.std.specs.Prelude.{neg_ℤ, int_lt}
use Rattle.std.proofs.lemmas.Bool.{both_ways, and_parts, and_from, and_left}
use Rattle.std.proofs.Math.IntN.{*ℤ-zero}
use Rattle.std.proofs.lemmas.Int.{ints}
use Rattle.plane.proofs.Ring.{multiplied, signed}
use Rattle.plane.proofs.Signs.{order, mul_positive}
use Rattle.plane.proofs.Probe.{factor_positive, factor_not_positive}
use Rattle.plane.proofs.LineLemmas.{end_on as on_between}
use Rattle.plane.proofs.Collinear.{area_start}
use Rattle.topo_base.specs.Point.{Point, same_point}
use Rattle.plane.specs.Segment.{Segment}
use Rattle.plane.specs.Relation.{AreApart}
use Rattle.plane.specs.Orientation.{area}
use Rattle.topo_base.specs.RationalPoint.{rational}
use Rattle.plane.specs.Crossings.{over, back, crosses}
use Rattle.plane.specs.Parity.{xor}
use Rattle.plane.specs.Direction.{Direction, cross}
use Rattle.parity_laws.specs.Steps.{Even, direction, rightward, first_of, before, leaves_before, above, turned, left}
use Rattle.parity_laws.specs.Ways.{Tied, MeetsAtEnds, Fork, Apart, Outside}
use Rattle.parity_laws.specs.Rings.{In, Plain, Within, Drawn}
use Rattle.parity_laws.proofs.Sums.{xor_none, odd_both, odd_each, xor_yes_no, xor_no_yes, xor_neither, xor_four}
use Rattle.parity_laws.proofs.Tests.{same_self, same_is, same_not, area_cycle, not_and_parts, and_third, same_half}
use Rattle.parity_laws.proofs.Gap.{seg, rightward_yes, rightward_no}
use Rattle.parity_laws.proofs.Across.{start_on}
use Rattle.parity_laws.proofs.Corner.{corner}
use Rattle.parity_laws.proofs.Ringwise.{each_in, in_each, each_within, side_next}
use Rattle.parity_laws.proofs.Star.{Least, least, LastBefore, last_before}
use Rattle.parity_laws.proofs.Shells.{first_left, none_turned}
use Rattle.parity_laws.proofs.Climbing.{first_at}
use Rattle.parity_laws.proofs.Splitting.{has_next}
use Rattle.plane.proofs.Tests.{lt_self, lt_yes, lt_no, yes_lt, no_lt}

-- ---- heights at one x: the height of t there is height x t / width t
abbrev pub width : Segment → ℤ
width t = t.b.x -ℤ t.a.x

abbrev pub height : ℤ → Segment → ℤ
height x t = t.a.y *ℤ width t +ℤ (t.b.y -ℤ t.a.y) *ℤ (x -ℤ t.a.x)

pub area_height : (t : Segment) (p : Point) → area t.a t.b p ≡ width t *ℤ p.y -ℤ height p.x t
area_height t p = plain t.a.x t.a.y t.b.x t.b.y p.x p.y
  where
    plain : (ax ay bx by px py : ℤ) → (bx -ℤ ax) *ℤ (py -ℤ ay) -ℤ (by -ℤ ay) *ℤ (px -ℤ ax) ≡ (bx -ℤ ax) *ℤ py -ℤ (ay *ℤ (bx -ℤ ax) +ℤ (by -ℤ ay) *ℤ (px -ℤ ax))
    plain ax ay bx by px py = simp multiplied (omega (arith, signed))

pub record Over (t : Segment) (v : Point) : Type 0 where
  pub from : t.a.x ≤ℤ v.x
  pub to : v.x <ℤ t.b.x
  pub under : area t.a t.b v <ℤ pos 0

pub over_out : (t : Segment) (v : Point) → over t v ≡ true → Over t v
over_out t v e = by_parts (not_and_parts (int_lt v.x t.a.x) (int_lt v.x t.b.x) (int_lt (area t.a t.b v) (pos 0)) e)
  where
    by_parts : (int_lt v.x t.a.x ≡ false) × (int_lt v.x t.b.x ≡ true) × (int_lt (area t.a t.b v) (pos 0) ≡ true) → Over t v
    by_parts h = record { from = no_lt v.x t.a.x h.0; to = yes_lt v.x t.b.x h.1; under = yes_lt (area t.a t.b v) (pos 0) h.2 }

pub over_in : (t : Segment) (v : Point) → Over t v → over t v ≡ true
over_in t v h = rw (lt_no v.x t.a.x h.from, lt_yes v.x t.b.x h.to, lt_yes (area t.a t.b v) (pos 0) h.under)

lower : Point → Segment → Segment → Bool
lower v t u = (over t v && over u v) && int_lt (height v.x t *ℤ width u) (height v.x u *ℤ width t)

lower_irr : (v : Point) (t : Segment) → lower v t t ≡ false
unfolding lower
lower_irr v t = last (over t v && over t v) (int_lt (height v.x t *ℤ width t) (height v.x t *ℤ width t)) (lt_self (height v.x t *ℤ width t))
  where
    last : (a b : Bool) → b ≡ false → a && b ≡ false
    last true b e = e
    last false b e = refl

-- fractions n / d, m / e and l / f with positive denominators
between_fractions : (n d m e l f : ℤ) → pos 0 <ℤ d → pos 0 <ℤ e → pos 0 <ℤ f → (n *ℤ e) <ℤ (m *ℤ d) → (m *ℤ f) <ℤ (l *ℤ e) → (n *ℤ f) <ℤ (l *ℤ d)
between_fractions n d m e l f hd he hf h k =
    let a = simp multiplied at (mul_positive ((m *ℤ d) -ℤ (n *ℤ e)) f (omega (arith, signed)) hf) in
    let b = simp multiplied at (mul_positive ((l *ℤ e) -ℤ (m *ℤ f)) d (omega (arith, signed)) hd) in
    let c : pos 0 <ℤ (e *ℤ ((l *ℤ d) -ℤ (n *ℤ f))) = simp multiplied (omega (arith, signed)) in
    let g = factor_positive e ((l *ℤ d) -ℤ (n *ℤ f)) he c in
    omega (arith, signed)

lower_onward : (v : Point) (r t u : Segment) → lower v r t ≡ true → lower v t u ≡ true → lower v r u ≡ true
unfolding lower
lower_onward v r t u e f =
    let a = parts (over r v) (over t v) (int_lt (height v.x r *ℤ width t) (height v.x t *ℤ width r)) e in
    let b = parts (over t v) (over u v) (int_lt (height v.x t *ℤ width u) (height v.x u *ℤ width t)) f in
    all (over r v) (over u v) (int_lt (height v.x r *ℤ width u) (height v.x u *ℤ width r)) a.0 b.1
    (lt_yes (height v.x r *ℤ width u) (height v.x u *ℤ width r)
    (between_fractions (height v.x r) (width r) (height v.x t) (width t) (height v.x u) (width u) (wide r (over_out r v a.0)) (wide t (over_out t v a.1)) (wide u (over_out u v b.1))
    (yes_lt _ _ a.2) (yes_lt _ _ b.2)))
  where
    parts : (a b c : Bool) → (a && b) && c ≡ true → (a ≡ true) × (b ≡ true) × (c ≡ true)
    parts true true true e = (refl, refl, refl)
    parts true true false e = cc
    parts true false c e = cc
    parts false b c e = cc

    all : (a b c : Bool) → a ≡ true → b ≡ true → c ≡ true → (a && b) && c ≡ true
    all a b c e f g = rw (e, f, g)

    wide : (s : Segment) → Over s v → pos 0 <ℤ width s
    wide s h = let a = h.from in let b = h.to in omega (arith, signed)

-- d is over v, and no step over v is lower there
pub record Lowest (T : List Segment) (v : Point) (d : Segment) : Type 0 where
  pub there : In d T
  pub isover : Over d v
  pub none : (t : Segment) → In t T → Over t v → (height v.x d *ℤ width t) ≤ℤ (height v.x t *ℤ width d)

pub lowest : (T : List Segment) (v : Point) → ((t : Segment) → In t T → over t v ≡ false) ⊎ ((d : Segment) × Lowest T v d)
unfolding lower
lowest T v =
    ⊎_elim
    (λ (f : (t : Segment) → In t T → over t v ≡ false). inl f)
    (λ (l : Least T (λ t. over t v) (lower v)).
    inr (
      l.it,
      record {
        there = l.there;
        isover = over_out l.it v l.passes;
        none = λ t i h. no_lt (height v.x t *ℤ width l.it) (height v.x l.it *ℤ width t) (last (over t v) (over l.it v) _ (over_in t v h) l.passes (l.none t i (over_in t v h)));
      },
    ))
    (least (λ t. over t v) (lower v) (lower_irr v) (lower_onward v) T)
  where
    last : (a b c : Bool) → a ≡ true → b ≡ true → (a && b) && c ≡ false → c ≡ false
    last true true c e f g = g
    last true false c e f g = cc
    last false b c e f g = cc

-- ---- a vertex straight above v
abbrev pub down : Direction
down = record { dx = pos 0; dy = negsuc 0 }

-- t leaves w to the right
abbrev rightgoing : Point → Segment → Bool
rightgoing w t = same_point t.a w && int_lt t.a.x t.b.x

pub area_drop : (t : Segment) (p q : Point) → p.x ≡ q.x → area t.a t.b p -ℤ area t.a t.b q ≡ width t *ℤ (p.y -ℤ q.y)
area_drop t p q e = plain (t.b.x -ℤ t.a.x) (t.b.y -ℤ t.a.y) t.a.x t.a.y p.x p.y q.x q.y e
  where
    plain : (w h ax ay px py qx qy : ℤ) → px ≡ qx → (w *ℤ (py -ℤ ay) -ℤ h *ℤ (px -ℤ ax)) -ℤ (w *ℤ (qy -ℤ ay) -ℤ h *ℤ (qx -ℤ ax)) ≡ w *ℤ (py -ℤ qy)
    plain w h ax ay px py qx qy e = let f = ap (λ z. h *ℤ z) e in simp multiplied (omega (arith, signed))

-- two steps that end at one point, and the start of one lies on the other
one_line : (d t : Segment) → d.a.x <ℤ d.b.x → t.a.x <ℤ t.b.x → d.b ≡ t.b → area t.a t.b d.a ≡ pos 0 → Apart (direction (back d)) (direction (back t)) → ⊥
one_line d t hd ht e z ap' =
    same_half (direction (back d)) (direction (back t)) false (left_no d hd) (left_no t ht)
    (subst (λ b. cross (direction (seg b d.a)) (direction (back t)) ≡ pos 0) (sym e) (sym (area_cycle t.a t.b d.a) ∙ z))
    ap'
  where
    left_no : (s : Segment) → s.a.x <ℤ s.b.x → rightward (direction (back s)) ≡ false
    left_no s h = rightward_no s.a s.b (record { along = omega (arith, signed); down = λ k. absurd (omega (arith, signed)) })

-- where t is over v and passes through the start of the lowest step, which is straight above v, it begins there
begins_there : (T : List Segment) (v : Point) (d t : Segment) → Plain T → In d T → In t T → Over d v → Over t v → d.a.x ≡ v.x → area t.a t.b d.a ≡ pos 0 → t.a ≡ d.a
begins_there T v d t plain i j hd ht e z =
    let a = hd.to in
    let b = ht.from in
    let c = ht.to in
    let wide : t.a.x <ℤ t.b.x = omega (arith, signed) in
    let wide' : d.a.x <ℤ d.b.x = omega (arith, signed) in
    ⊎_elim
    (λ (f : AreApart d t). absurd (f (rational d.a) (start_on d, on_between t d.a wide (omega (arith, signed)) (omega (arith, signed)) z)))
    (λ (f : MeetsAtEnds t d ⊎ MeetsAtEnds t (back d)).
    ⊎_elim
    (λ (g : MeetsAtEnds t d).
    ⊎_elim
    (λ (h : (d.a ≡ t.a) × (d.b ≡ t.b)). sym h.0)
    (λ (h : Fork t d ⊎ Fork (back t) d).
    ⊎_elim (λ (k : Fork t d). sym k.start) (λ (k : Fork (back t) d). let x = ap (λ (p : Point). p.x) k.start in absurd (omega (arith, signed))) h)
    g)
    (λ (g : MeetsAtEnds t (back d)).
    ⊎_elim
    (λ (h : (d.b ≡ t.a) × (d.a ≡ t.b)). let x = ap (λ (p : Point). p.x) h.1 in absurd (omega (arith, signed)))
    (λ (h : Fork t (back d) ⊎ Fork (back t) (back d)).
    ⊎_elim
    (λ (k : Fork t (back d)). let x = ap (λ (p : Point). p.x) k.start in absurd (omega (arith, signed)))
    (λ (k : Fork (back t) (back d)). absurd (one_line d t wide' wide k.start z k.apart))
    h)
    g)
    f)
    (each_in (Tied t) T (plain.tied t j) d i)

-- steps over v, with the lowest of them beginning straight above it
begins_above : (T : List Segment) (v : Point) (d : Segment) → Plain T → Lowest T v d → d.a.x ≡ v.x → (t : Segment) → In t T → over t v ≡ xor (over t d.a) (rightgoing d.a t)
begins_above T v d plain low e t i = by_value (over t v) refl
  where
    above_v : v.y <ℤ d.a.y
    above_v =
        let a = low.isover.from in
        let b = low.isover.to in
        let k = area_drop d v d.a (sym e) in
        let z = area_start d.a d.b in
        let u = low.isover.under in
        let m : pos 0 <ℤ (width d *ℤ (d.a.y -ℤ v.y)) = neg_product (width d) v.y d.a.y (area d.a d.b v) (area d.a d.b d.a) k z u in
        let n = factor_positive (width d) (d.a.y -ℤ v.y) (omega (arith, signed)) m in
        omega (arith, signed)
      where
        neg_product : (w x y a b : ℤ) → a -ℤ b ≡ w *ℤ (x -ℤ y) → b ≡ pos 0 → a <ℤ pos 0 → pos 0 <ℤ (w *ℤ (y -ℤ x))
        neg_product w x y a b e f h = let g = simp multiplied at e in simp multiplied (omega (arith, signed))

    -- at one x, the lower point has the lower area
    drop_under : pos 0 <ℤ width t → area t.a t.b d.a ≤ℤ pos 0 → area t.a t.b v <ℤ pos 0
    drop_under h k =
        let f = area_drop t d.a v e in
        let g = above_v in
        let m = mul_positive (width t) (d.a.y -ℤ v.y) h (omega (arith, signed)) in
        omega (arith, signed)

    not_higher : Over t v → area t.a t.b d.a ≤ℤ pos 0
    not_higher h =
        let a = low.isover.from in
        let b = low.isover.to in
        let n = low.none t i h in
        let f = area_height t d.a in
        let m = level d e in
        by_width (width d) (width t) (height v.x d) (height v.x t) d.a.y (area t.a t.b d.a) n m (f ∙ ap (λ x. width t *ℤ d.a.y -ℤ height x t) e) (omega (arith, signed))
      where
        level : (s : Segment) → s.a.x ≡ v.x → height v.x s ≡ s.a.y *ℤ width s
        level s k = let z = ap (λ q. (s.b.y -ℤ s.a.y) *ℤ q) (flat s.a.x v.x k) ∙ *ℤ-zero (s.b.y -ℤ s.a.y) in rest (s.a.y *ℤ width s) ((s.b.y -ℤ s.a.y) *ℤ (v.x -ℤ s.a.x)) z
          where
            flat : (x y : ℤ) → x ≡ y → y -ℤ x ≡ pos 0
            flat x y e = omega (arith, signed)

            rest : (x y : ℤ) → y ≡ pos 0 → x +ℤ y ≡ x
            rest x y e = omega (arith, signed)

        by_width : (wd wt hd ht y a : ℤ) → (hd *ℤ wt) ≤ℤ (ht *ℤ wd) → hd ≡ y *ℤ wd → a ≡ wt *ℤ y -ℤ ht → pos 0 <ℤ wd → a ≤ℤ pos 0
        by_width wd wt hd ht y a n m f h =
            let g = ap (λ z. z *ℤ wt) m in
            let g' = simp multiplied at g in
            let k : (wd *ℤ (wt *ℤ y -ℤ ht)) ≤ℤ pos 0 = by_parts wd wt hd ht y n g in
            subst (λ z. z ≤ℤ pos 0) (sym f) (factor_not_positive wd (wt *ℤ y -ℤ ht) h k)
          where
            by_parts : (wd wt hd ht y : ℤ) → (hd *ℤ wt) ≤ℤ (ht *ℤ wd) → hd *ℤ wt ≡ (y *ℤ wd) *ℤ wt → (wd *ℤ (wt *ℤ y -ℤ ht)) ≤ℤ pos 0
            by_parts wd wt hd ht y n g = let g' = simp multiplied at g in let n' = simp multiplied at n in simp multiplied (omega (arith, signed))

    over_case : Over t v → true ≡ xor (over t d.a) (rightgoing d.a t)
    over_case h =
        let a = h.from in
        let b = h.to in
        ⊎_elim
        (λ (g : area t.a t.b d.a <ℤ pos 0).
        sym (xor_yes_no (over t d.a) (rightgoing d.a t) (over_in t d.a (record { from = omega (arith, signed); to = omega (arith, signed); under = g }))
        (and_left (same_point t.a d.a) (int_lt t.a.x t.b.x) (same_not t.a d.a (λ k. let z = subst (λ p. area t.a t.b p ≡ pos 0) k (area_start t.a t.b) in absurd (omega (arith, signed)))))))
        (λ (g : pos 0 ≤ℤ area t.a t.b d.a).
        let k = not_higher h in
        let z : area t.a t.b d.a ≡ pos 0 = omega (arith, signed) in
        let s = begins_there T v d t plain low.there i low.isover h e z in
        sym (xor_no_yes (over t d.a) (rightgoing d.a t) (and_third (int_lt d.a.x t.a.x) (int_lt d.a.x t.b.x) (int_lt (area t.a t.b d.a) (pos 0)) (lt_no (area t.a t.b d.a) (pos 0) g))
        (and_from (same_point t.a d.a) (int_lt t.a.x t.b.x) (subst (λ p. same_point p d.a ≡ true) (sym s) (same_self d.a)) (lt_yes t.a.x t.b.x (omega (arith, signed))))))
        (order (area t.a t.b d.a) (pos 0))

    back_over : over t d.a ≡ true → over t v ≡ true
    back_over k =
        let h = over_out t d.a k in
        let a = h.from in
        let b = h.to in
        let u = h.under in
        over_in t v (record { from = omega (arith, signed); to = omega (arith, signed); under = drop_under (omega (arith, signed)) (omega (arith, signed)) })

    back_right : rightgoing d.a t ≡ true → over t v ≡ true
    back_right k =
        let m = and_parts (same_point t.a d.a) (int_lt t.a.x t.b.x) k in
        let s = same_is t.a d.a m.0 in
        let b = yes_lt t.a.x t.b.x m.1 in
        let x = ap (λ (p : Point). p.x) s in
        let z : area t.a t.b d.a ≡ pos 0 = subst (λ p. area t.a t.b p ≡ pos 0) s (area_start t.a t.b) in
        over_in t v (record { from = omega (arith, signed); to = omega (arith, signed); under = drop_under (omega (arith, signed)) (omega (arith, signed)) })

    by_value : (b : Bool) → over t v ≡ b → over t v ≡ xor (over t d.a) (rightgoing d.a t)
    by_value true f = f ∙ over_case (over_out t v f)
    by_value false f = f ∙ sym (xor_neither (over t d.a) (rightgoing d.a t) (λ k. both_ways (over t v) f (back_over k)) (λ k. both_ways (over t v) f (back_right k)))

before_down : (s : Segment) → before (direction s) down ≡ int_lt s.a.x s.b.x
before_down s = first_right (rightward (direction s)) (int_lt (cross (direction s) down) (pos 0)) (int_lt s.a.x s.b.x) right_too right_also
  where
    crossed : (x y : ℤ) → x *ℤ negsuc 0 -ℤ y *ℤ pos 0 ≡ neg_ℤ x
    crossed x y = rw (*ℤ-zero y) (omega (arith, ints))

    by_sign : (c a b : ℤ) → c ≡ neg_ℤ (b -ℤ a) → int_lt c (pos 0) ≡ int_lt a b
    by_sign c a b e =
        ⊎_elim
        (λ (h : a <ℤ b). lt_yes c (pos 0) (omega (arith, signed)) ∙ sym (lt_yes a b h))
        (λ (h : b ≤ℤ a). lt_no c (pos 0) (omega (arith, signed)) ∙ sym (lt_no a b h))
        (order a b)

    signs : int_lt (cross (direction s) down) (pos 0) ≡ int_lt s.a.x s.b.x
    signs = by_sign (cross (direction s) down) s.a.x s.b.x (crossed (s.b.x -ℤ s.a.x) (s.b.y -ℤ s.a.y))

    right_too : int_lt (cross (direction s) down) (pos 0) ≡ int_lt s.a.x s.b.x
    right_too = signs

    right_also : int_lt s.a.x s.b.x ≡ true → rightward (direction s) ≡ true
    right_also e = let h = yes_lt s.a.x s.b.x e in rightward_yes s.a s.b (record { along = omega (arith, signed); down = λ k. absurd (omega (arith, signed)) })

    first_right : (h c x : Bool) → c ≡ x → (x ≡ true → h ≡ true) → first_of h true c ≡ x
    first_right true c x e f = e
    first_right false c true e f = let g = f refl in cc
    first_right false c false e f = refl

-- from v up to the vertex that is straight above it
pub vertex_above : (T X : List Segment) (v : Point) (d : Segment) → Plain T → Within X T → Lowest T v d → d.a.x ≡ v.x → above X v ≡ xor (above X d.a) (turned X d.a down)
vertex_above T X v d plain w low e =
    odd_each (λ t. crosses t v) (λ t. xor (crosses t d.a) (leaves_before d.a down t)) X (in_each (λ t. crosses t v ≡ xor (crosses t d.a) (leaves_before d.a down t)) X (λ t i. one t (w t i)))
    ∙ odd_both (λ t. crosses t d.a) (leaves_before d.a down) X
  where
    one : (t : Segment) → In t T → crosses t v ≡ xor (crosses t d.a) (leaves_before d.a down t)
    one t i =
        six (over t v) (over (back t) v) (over t d.a) (over (back t) d.a) (same_point t.a d.a) (same_point t.b d.a) (int_lt t.a.x t.b.x) (int_lt t.b.x t.a.x) (before (direction t) down) (before (direction (back t)) down)
        (begins_above T v d plain low e t i) (begins_above T v d plain low e (back t) (plain.both t i)) (before_down t) (before_down (back t))
      where
        six : (a b c d e f x y x' y' : Bool) → a ≡ xor c (e && x) → b ≡ xor d (f && y) → x' ≡ x → y' ≡ y → xor a b ≡ xor (xor c d) (xor (e && x') (f && y'))
        six a b c d e f x y x' y' h k l m = rw (h, k, l, m) (xor_four c (e && x) d (f && y))

-- the wedge at a vertex that holds the direction u is left of a step that leaves the vertex
pub record Wedge (T : List Segment) (w : Point) (u : Direction) : Type 0 where
  pub n : Segment
  pub there : In n T
  pub start : n.a ≡ w
  pub sees : (X : List Segment) → Even X → Within X T → left X n ≡ xor (above X w) (turned X w u)

pub wedge_at : (T : List Segment) (s : Segment) (u : Direction) → Drawn T → In s T → Wedge T s.a u
wedge_at T s u d i =
    ⊎_elim
    (λ (h : (t : Segment) → In t T → t.a ≡ s.a → before (direction t) u ≡ false). none h)
    (λ (p : LastBefore T s.a u). some p)
    (last_before T s.a u d.plain)
  where
    none : ((t : Segment) → In t T → t.a ≡ s.a → before (direction t) u ≡ false) → Wedge T s.a u
    none h =
        let k = first_at T s i in
        record {
          n = k.0;
          there = k.1.0.there;
          start = sym k.1.1;
          sees = λ X even w.
              first_left T X k.0 d.plain w k.1.0 ∙ ap (above X) (sym k.1.1)
              ∙ sym (ap (xor (above X s.a)) (none_turned T X s.a u d.plain w h) ∙ xor_none (above X s.a));
        }

    some : LastBefore T s.a u → Wedge T s.a u
    some p =
        let b = d.plain.both p.it p.there in
        let m = has_next T (back p.it) d b in
        record {
          n = m.0;
          there = m.1.0;
          start = m.1.1.meets ∙ p.start;
          sees = λ X even w.
              sym (side_next T X (back p.it) m.0 d.plain even w b m.1.1)
              ∙ corner (back p.it) u X even (each_within (Tied (back p.it)) X T w (d.plain.tied (back p.it) b)) (each_within (Outside (back p.it) u) X T w p.outside) (d.plain.proper (back p.it) b)
              ∙ ap (λ q. xor (above X q) (turned X q u)) p.start;
        }
