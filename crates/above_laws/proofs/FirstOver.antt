-- A step with none lower over a point is the first above it.
use Rattle.std.proofs.Common.{◌≡◌, refl, sym, ◌∙◌, ap, subst, arith, ℤ, pos, ◌-ℤ◌, ◌*ℤ◌, ◌<ℤ◌, ◌≤ℤ◌, Bool, true, false, ◌&&◌, ◌||◌, List}
use Rattle.std.specs.Prelude.{int_lt, neg_ℤ}
use Rattle.std.specs.Ordering.{int_eq}
use Rattle.std.proofs.lemmas.Bool.{and_from, or_right, both_ways}
use Rattle.std.proofs.lemmas.Bool.Decides.{Decides-int_eq}
use Rattle.topo_base.specs.Point.{Point}
use Rattle.plane.specs.Orientation.{area}
use Rattle.plane.specs.Relation.{turn}
use Rattle.plane.specs.Segment.{Segment}
use Rattle.plane.proofs.Collinear.{area_start}
use Rattle.plane.proofs.Probe.{factor_positive}
use Rattle.plane.proofs.Ring.{multiplied, mul_neg, signed}
use Rattle.plane.proofs.Signs.{mul_positive}
use Rattle.plane.proofs.Tests.{lt_yes, no_lt}
use Rattle.parity_laws.specs.Rings.{In}
use Rattle.parity_laws.proofs.Footing.{wide}
use Rattle.parity_laws.proofs.Viewing.{width, height, area_height, area_drop, Over}
use Rattle.slab_index.specs.Above.{is_lower_rightward}
use Rattle.above_laws.proofs.FirstLeft.{FirstAt}

-- where the areas are in order, so are the heights
heights : (wd wt hd ht y ad at : ℤ) → ad ≡ wd *ℤ y -ℤ hd → at ≡ wt *ℤ y -ℤ ht → (at *ℤ wd) ≤ℤ (ad *ℤ wt) → (hd *ℤ wt) ≤ℤ (ht *ℤ wd)
heights wd wt hd ht y ad at e f h =
    plain (subst (λ z. (z *ℤ wd) ≤ℤ ((wd *ℤ y -ℤ hd) *ℤ wt)) f (subst (λ z. (at *ℤ wd) ≤ℤ (z *ℤ wt)) e h))
  where
    plain : ((wt *ℤ y -ℤ ht) *ℤ wd) ≤ℤ ((wd *ℤ y -ℤ hd) *ℤ wt) → (hd *ℤ wt) ≤ℤ (ht *ℤ wd)
    plain h = let g = simp multiplied at h in simp multiplied (omega (arith, signed))

-- two steps that begin straight above a point, at one place: both are over it, and as high
same_height : (wd wt k ad at : ℤ) → ad ≡ wd *ℤ k → at ≡ wt *ℤ k → ad *ℤ wt ≡ at *ℤ wd
same_height wd wt k ad at e f = ap (λ z. z *ℤ wt) e ∙ turned wd wt k ∙ sym (ap (λ z. z *ℤ wd) f)
  where
    turned : (x y z : ℤ) → (x *ℤ z) *ℤ y ≡ (y *ℤ z) *ℤ x
    turned x y z = simp multiplied

under_too : (wd wt k ad at : ℤ) → ad ≡ wd *ℤ k → at ≡ wt *ℤ k → pos 0 <ℤ wd → pos 0 <ℤ wt → ad <ℤ pos 0 → at <ℤ pos 0
under_too wd wt k ad at e f hd ht h =
    let m : pos 0 <ℤ (wd *ℤ neg_ℤ k) = less wd k ad e h in
    let n = mul_positive wt (neg_ℤ k) ht (factor_positive wd (neg_ℤ k) hd m) in
    back_less wt k at f n
  where
    less : (w k a : ℤ) → a ≡ w *ℤ k → a <ℤ pos 0 → pos 0 <ℤ (w *ℤ neg_ℤ k)
    less w k a e h = simp mul_neg (omega (arith, signed))

    back_less : (w k a : ℤ) → a ≡ w *ℤ k → pos 0 <ℤ (w *ℤ neg_ℤ k) → a <ℤ pos 0
    back_less w k a e h = let g = simp mul_neg at h in omega (arith, signed)

-- at one x, an area from a point of the line
dropped : (t : Segment) (p q : Point) → p.x ≡ q.x → area t.a t.b q ≡ pos 0 → area t.a t.b p ≡ width t *ℤ (p.y -ℤ q.y)
dropped t p q e z = no_less (area t.a t.b p) (area t.a t.b q) (width t *ℤ (p.y -ℤ q.y)) z (area_drop t p q e)
  where
    no_less : (a b m : ℤ) → b ≡ pos 0 → a -ℤ b ≡ m → a ≡ m
    no_less a b m e f = omega (arith, signed)

neither : (a b : Bool) → a || b ≡ false → a ≡ false
neither true b e = cc
neither false b e = refl

pub first_at : (T : List Segment) (p : Point) (d : Segment) → In d T → Over d p → ((t : Segment) → In t T → Over t p → is_lower_rightward p t d ≡ false) → FirstAt T p d
first_at T p d i h first = record {
  low = record {
    there = i;
    isover = h;
    none = λ t j o.
        heights (width d) (width t) (height p.x d) (height p.x t) p.y (area d.a d.b p) (area t.a t.b p) (area_height d p) (area_height t p)
        (no_lt (area d.a d.b p *ℤ width t) (area t.a t.b p *ℤ width d) (neither (int_lt (area d.a d.b p *ℤ width t) (area t.a t.b p *ℤ width d)) _ (first t j o)));
  };
  last = λ t j start right x c.
      let ht = dropped t p d.a (sym x) (subst (λ q. area t.a t.b q ≡ pos 0) start (area_start t.a t.b)) in
      let hd = dropped d p d.a (sym x) (area_start d.a d.b) in
      let sx = ap (λ (q : Point). q.x) start in
      let under = under_too (width d) (width t) (p.y -ℤ d.a.y) (area d.a d.b p) (area t.a t.b p) hd ht (wide d p h) (omega (arith, signed)) h.under in
      both_ways (is_lower_rightward p t d) (first t j (record { from = omega (arith, signed); to = omega (arith, signed); under = under }))
      (or_right (int_lt (area d.a d.b p *ℤ width t) (area t.a t.b p *ℤ width d)) (int_eq (area d.a d.b p *ℤ width t) (area t.a t.b p *ℤ width d) && int_lt (turn d t) (pos 0))
      (and_from (int_eq (area d.a d.b p *ℤ width t) (area t.a t.b p *ℤ width d)) (int_lt (turn d t) (pos 0))
      ((Decides-int_eq (area d.a d.b p *ℤ width t) (area t.a t.b p *ℤ width d)).1 (same_height (width d) (width t) (p.y -ℤ d.a.y) (area d.a d.b p) (area t.a t.b p) hd ht))
      (lt_yes (turn d t) (pos 0) c)));
}
