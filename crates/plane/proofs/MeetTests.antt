-- The tests that two segments overlap, and that they meet at given points alone, say what their names say.
use Rattle.std.proofs.Common.{◌≡◌, ◌≢◌, sym, ◌∙◌, ap, ℤ, pos, ◌*ℤ◌, ◌⊎◌, inl, inr, ⊎_elim, true, false, not, ◌&&◌, ◌||◌}
use Rattle.std.specs.Bool.{Decides}
use Rattle.std.proofs.lemmas.Bool.{cases_Bool}
use Rattle.std.proofs.lemmas.Bool.Decides.{Decides-and, Decides-or, Decides-not, Decides-like, not_from_Decides}
use Rattle.topo_base.specs.Point.{Point}
use Rattle.topo_base.specs.RationalPoint.{RationalPoint, rational, IsAt, SamePoint}
use Rattle.topo_base.specs.declared.relation.Relation.TheVariants.{Apart, TouchEnds, Overlap}
use Rattle.plane.specs.Segment.{Segment, on_segment, intervals_overlap, touches, overlaps, shares, touches_at, meets_only_at}
use Rattle.plane.specs.Orientation.{is_straight}
use Rattle.plane.specs.RationalTests.{IsOn}
use Rattle.plane.specs.Relation.{IsShared, IsProper, turn, AreInLine, TouchAtEnds, HaveOne, HaveMore, MeetAt, MeetOnlyAt, Faces}
use Rattle.plane.proofs.Ring.{multiplied}
use Rattle.plane.proofs.Signs.{cancel}
use Rattle.plane.proofs.PointTests.{Decides-straight, Decides-on_segment}
use Rattle.plane.proofs.Relations.{in_line}
use Rattle.plane.proofs.Unique.{unique}
use Rattle.plane.proofs.Swap.{collinear_right, collinear_up, collinear_y, not_upright}
use Rattle.plane.proofs.Axis.{collinear_x}
use Rattle.plane.proofs.Collinear.{line_other, at_point}
use Rattle.plane.proofs.Middle.{equal_or_not, not_zero, same_at, same_other, at_same, at_or_not, on_at, another}
use Rattle.plane.proofs.TouchTests.{IntervalsOverlap, Decides-overlap, Decides-touches, overlap_faces, faces_cases, IsPoint, point_or_proper, at_point_segment, reaching_any}

-- ---- what overlapping is, in areas and intervals
pub record Overlapping (s t : Segment) : Type 0 where
  pub line : AreInLine s t
  pub wide : IntervalsOverlap s.a.x s.b.x t.a.x t.b.x ⊎ IntervalsOverlap s.a.y s.b.y t.a.y t.b.y

overlapping_test : (s t : Segment) → Decides (overlaps s t) (Overlapping s t)
overlapping_test s t =
    let b1 = is_straight t.a t.b s.a in
    let b2 = is_straight t.a t.b s.b in
    let b3 = is_straight s.a s.b t.a in
    let b4 = is_straight s.a s.b t.b in
    let x = intervals_overlap s.a.x s.b.x t.a.x t.b.x in
    let y = intervals_overlap s.a.y s.b.y t.a.y t.b.y in
    let d2 = Decides-and b1 b2 (Decides-straight t.a t.b s.a) (Decides-straight t.a t.b s.b) in
    let d3 = Decides-and (b1 && b2) b3 d2 (Decides-straight s.a s.b t.a) in
    let d4 = Decides-and (b1 && b2 && b3) b4 d3 (Decides-straight s.a s.b t.b) in
    let w = Decides-or x y (Decides-overlap s.a.x s.b.x t.a.x t.b.x) (Decides-overlap s.a.y s.b.y t.a.y t.b.y) in
    let d5 = Decides-and (b1 && b2 && b3 && b4) (x || y) d4 w in (
      λ h. let k = d5.0 h in record { line = record { sa = k.0.0.0.0; sb = k.0.0.0.1; ta = k.0.0.1; tb = k.0.1 }; wide = k.1 },
      λ (h : Overlapping s t). d5.1 ((((h.line.sa, h.line.sb), h.line.ta), h.line.tb), h.wide),
    )

overlapping_more : (s t : Segment) → Overlapping s t → HaveMore s t
overlapping_more s t h =
    ⊎_elim
    (λ (w : IntervalsOverlap s.a.x s.b.x t.a.x t.b.x). let k = overlap_faces s.a.x s.b.x t.a.x t.b.x w in collinear_x Overlap s t h.line k.0 k.1 k.2)
    (λ (w : IntervalsOverlap s.a.y s.b.y t.a.y t.b.y). let k = overlap_faces s.a.y s.b.y t.a.y t.b.y w in collinear_y Overlap s t h.line k.0 k.1 k.2)
    h.wide

turned : (a b c : ℤ) → (a *ℤ b) *ℤ c ≡ (a *ℤ c) *ℤ b
turned a b c = simp multiplied

same_through_by : (x d y e z f : ℤ) → x *ℤ f ≡ z *ℤ d → y *ℤ f ≡ z *ℤ e → f ≢ pos 0 → x *ℤ e ≡ y *ℤ d
same_through_by x d y e z f h k n =
    cancel (x *ℤ e) (y *ℤ d) f (turned x e f ∙ ap (λ w. w *ℤ e) h ∙ turned z d e ∙ ap (λ w. w *ℤ d) (sym k) ∙ turned y f d) n

-- two points that are the same as a third are one
pub same_through : (u v z : RationalPoint) → SamePoint u z → SamePoint v z → SamePoint u v
same_through u v z h k =
    let n = not_zero z.d z.whole in
    (same_through_by u.x u.d v.x v.d z.x z.d h.0 k.0 n, same_through_by u.y u.d v.y v.d z.y z.d h.1 k.1 n)

-- a segment with two points has two ends
two_ends : (s : Segment) (u v : RationalPoint) → IsOn u s → IsOn v s → (SamePoint u v → ⊥) → IsProper s
two_ends s u v hu hv apart =
    ⊎_elim
    (λ (e : IsPoint s). absurd (apart (same_at s.a u v (at_point_segment s u e hu) (at_point_segment s v e hv))))
    (λ (ps : IsProper s). ps)
    (point_or_proper s)

-- u and v are two different common points
pub record Two (s t : Segment) (u v : RationalPoint) : Type 0 where
  pub first : IsShared s t u
  pub second : IsShared s t v
  pub apart : SamePoint u v → ⊥

not_touching : (s t : Segment) (u v : RationalPoint) → Two s t u v → TouchAtEnds s t → ⊥
not_touching s t u v two (z, (only, e, f)) = two.apart (same_through u v z (only.1 u two.first) (only.1 v two.second))

two_in_line : (s t : Segment) (u v : RationalPoint) → Two s t u v → AreInLine s t
two_in_line s t u v two =
    ⊎_elim
    (λ (e : turn s t ≡ pos 0). in_line s t (reaching_any s t u two.first) e)
    (λ (e : turn s t ≢ pos 0). absurd (two.apart (unique s t u v e two.first two.second)))
    (equal_or_not (turn s t) (pos 0))

wide_across : (s t : Segment) (u v : RationalPoint) → Two s t u v → AreInLine s t → IsProper t → s.a.x ≢ s.b.x → IntervalsOverlap s.a.x s.b.x t.a.x t.b.x
wide_across s t u v two line pt e =
    ⊎_elim
    (λ (f : Faces Apart s.a.x s.b.x t.a.x t.b.x). absurd (collinear_right Apart s t line pt e f u two.first))
    (λ (f : Faces TouchEnds s.a.x s.b.x t.a.x t.b.x ⊎ IntervalsOverlap s.a.x s.b.x t.a.x t.b.x).
    ⊎_elim
    (λ (g : Faces TouchEnds s.a.x s.b.x t.a.x t.b.x). absurd (not_touching s t u v two (collinear_right TouchEnds s t line pt e g)))
    (λ (g : IntervalsOverlap s.a.x s.b.x t.a.x t.b.x). g)
    f)
    (faces_cases s.a.x s.b.x t.a.x t.b.x e (not_upright s t line pt e))

also_upright : (s t : Segment) → AreInLine s t → IsProper s → s.a.x ≡ s.b.x → t.a.x ≡ t.b.x
also_upright s t line ps e =
    ⊎_elim
    (λ (h : t.a.x ≡ t.b.x). h)
    (λ (h : t.a.x ≢ t.b.x). absurd (not_upright t s (line_other s t line) ps h e))
    (equal_or_not t.a.x t.b.x)

wide_upward : (s t : Segment) (u v : RationalPoint) → Two s t u v → AreInLine s t → IsProper s → IsProper t → s.a.x ≡ s.b.x → IntervalsOverlap s.a.y s.b.y t.a.y t.b.y
wide_upward s t u v two line ps pt e =
    ⊎_elim
    (λ (f : Faces Apart s.a.y s.b.y t.a.y t.b.y). absurd (collinear_up Apart s t line ps pt e f u two.first))
    (λ (f : Faces TouchEnds s.a.y s.b.y t.a.y t.b.y ⊎ IntervalsOverlap s.a.y s.b.y t.a.y t.b.y).
    ⊎_elim
    (λ (g : Faces TouchEnds s.a.y s.b.y t.a.y t.b.y). absurd (not_touching s t u v two (collinear_up TouchEnds s t line ps pt e g)))
    (λ (g : IntervalsOverlap s.a.y s.b.y t.a.y t.b.y). g)
    f)
    (faces_cases s.a.y s.b.y t.a.y t.b.y (ps e) (pt (also_upright s t line ps e)))

more_overlapping : (s t : Segment) → HaveMore s t → Overlapping s t
more_overlapping s t (u, (v, (hu, hv, apart))) =
    let two : Two s t u v = record { first = hu; second = hv; apart = apart } in
    let line = two_in_line s t u v two in
    let ps = two_ends s u v hu.0 hv.0 apart in
    let pt = two_ends t u v hu.1 hv.1 apart in
    ⊎_elim
    (λ (e : s.a.x ≡ s.b.x). record { line = line; wide = inr (wide_upward s t u v two line ps pt e) })
    (λ (e : s.a.x ≢ s.b.x). record { line = line; wide = inl (wide_across s t u v two line pt e) })
    (equal_or_not s.a.x s.b.x)

pub Decides-overlaps : (s t : Segment) → Decides (overlaps s t) (HaveMore s t)
Decides-overlaps s t = Decides-like (overlaps s t) (overlapping_more s t) (more_overlapping s t) (overlapping_test s t)

-- ---- one common point
shares_test : (p : Point) (s t : Segment) → Decides (shares p s t) (IsShared s t (rational p))
shares_test p s t = Decides-and (on_segment p s) (on_segment p t) (Decides-on_segment p s) (Decides-on_segment p t)

-- a common point of two segments without more
pub alone : (p : Point) (s t : Segment) → IsShared s t (rational p) → (HaveMore s t → ⊥) → MeetAt p s t
alone p s t on none = (
  on,
  λ q hq.
      ⊎_elim
      (λ (h : IsAt p q). h)
      (λ (h : IsAt p q → ⊥). absurd (none (rational p, (q, (on, hq, λ same. h (at_same p q (rational p) (same_other (rational p) q same) (at_point p)))))))
      (at_or_not p q),
)

no_more : (p : Point) (s t : Segment) → MeetAt p s t → HaveMore s t → ⊥
no_more p s t only (u, (v, (hu, hv, apart))) = apart (same_at p u v (only.1 u hu) (only.1 v hv))

pub Decides-touches_at : (p : Point) (s t : Segment) → Decides (touches_at p s t) (MeetAt p s t)
Decides-touches_at p s t =
    let d = Decides-and (shares p s t) (not (overlaps s t)) (shares_test p s t) (Decides-not (overlaps s t) (Decides-overlaps s t)) in
    (λ h. let k = d.0 h in alone p s t k.0 k.1, λ (only : MeetAt p s t). d.1 (only.0, no_more p s t only))

-- ---- two points, and no other
pub one_or_none : (s t : Segment) → HaveOne s t ⊎ (HaveOne s t → ⊥)
one_or_none s t =
    let d = Decides-touches s t in
    ⊎_elim
    (λ (h : touches s t ≡ true). inl (d.0 h))
    (λ (h : touches s t ≡ false). inr (not_from_Decides (touches s t) d h))
    (cases_Bool (touches s t))

-- where each common point is p or r, one of p that is at p is the only one
pub at_one : (p r : Point) (s t : Segment) (q : RationalPoint) → IsShared s t q → IsAt p q → (HaveMore s t → ⊥) → MeetAt p s t
at_one p r s t q on h none = alone p s t (on_at p q s h on.0, on_at p q t h on.1) none

pub only_two : (p r : Point) (s t : Segment) → MeetOnlyAt p r s t → HaveMore s t → ⊥
only_two p r s t f more =
    let o = another s t p r more in
    ⊎_elim (λ (h : IsAt p o.0). o.1.1 h) (λ (h : IsAt r o.0). o.1.2 h) (f o.0 o.1.0)

abbrev Ways : Point → Point → Segment → Segment → Type 0
Ways p r s t = ((HaveOne s t → ⊥) ⊎ MeetAt p s t) ⊎ MeetAt r s t

ways_only : (p r : Point) (s t : Segment) → Ways p r s t → MeetOnlyAt p r s t
ways_only p r s t w q on =
    ⊎_elim
    (λ (h : (HaveOne s t → ⊥) ⊎ MeetAt p s t). ⊎_elim (λ (g : HaveOne s t → ⊥). absurd (g (q, on))) (λ (g : MeetAt p s t). inl (g.1 q on)) h)
    (λ (h : MeetAt r s t). inr (h.1 q on))
    w

only_ways : (p r : Point) (s t : Segment) → MeetOnlyAt p r s t → Ways p r s t
only_ways p r s t f =
    ⊎_elim
    (λ (h : HaveOne s t).
    ⊎_elim
    (λ (g : IsAt p h.0). inl (inr (at_one p r s t h.0 h.1 g (only_two p r s t f))))
    (λ (g : IsAt r h.0). inr (at_one r p s t h.0 h.1 g (only_two p r s t f)))
    (f h.0 h.1))
    (λ (h : HaveOne s t → ⊥). inl (inl h))
    (one_or_none s t)

pub Decides-meets_only_at : (p r : Point) (s t : Segment) → Decides (meets_only_at p r s t) (MeetOnlyAt p r s t)
Decides-meets_only_at p r s t =
    let none = Decides-not (touches s t) (Decides-touches s t) in
    let first = Decides-or (not (touches s t)) (touches_at p s t) none (Decides-touches_at p s t) in
    let all = Decides-or (not (touches s t) || touches_at p s t) (touches_at r s t) first (Decides-touches_at r s t) in
    Decides-like (meets_only_at p r s t) (ways_only p r s t) (only_ways p r s t) all
