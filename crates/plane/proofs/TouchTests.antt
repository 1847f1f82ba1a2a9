-- The tests that two segments touch, and that they overlap, say what their names say, also of a segment whose ends are one point.
use Rattle.std.proofs.Common.{◌≡◌, ◌≢◌, sym, ◌∙◌, arith, ℤ, pos, ◌-ℤ◌, ◌*ℤ◌, ◌<ℤ◌, ◌≤ℤ◌, ◌⊎◌, inl, inr, ⊎_elim, not, ◌&&◌}
use Rattle.std.specs.Prelude.{int_le, int_lt}
use Rattle.std.specs.Int.{int_min, int_max}
use Rattle.std.specs.Bool.{Decides}
use Rattle.std.proofs.lemmas.Int.{ints, clamps}
use Rattle.std.proofs.lemmas.Bool.Decides.{Decides-and, Decides-or, Decides-not, Decides-like}
use Rattle.topo_base.specs.Point.{Point}
use Rattle.topo_base.specs.RationalPoint.{RationalPoint, rational, IsAt, IsBetween}
use Rattle.topo_base.specs.declared.relation.Relation.TheVariants.{Apart, TouchEnds, Overlap}
use Rattle.plane.specs.Segment.{Segment, is_beside, intervals_meet, intervals_overlap, touches}
use Rattle.plane.specs.Orientation.{area}
use Rattle.plane.specs.RationalTests.{IsOn, area_at}
use Rattle.plane.specs.Relation.{IsShared, IsProper, AreOpposite, ReachAcross, turn, AreInLine, TouchAtEnds, HaveOne, HaveMore, Faces}
use Rattle.plane.proofs.Ring.{multiplied, signed}
use Rattle.plane.proofs.Signs.{order, no_zero_divisor}
use Rattle.plane.proofs.Points.{point_on}
use Rattle.plane.proofs.PointTests.{Decides-int_le, Decides-int_lt}
use Rattle.plane.proofs.Crossing.{crossing}
use Rattle.plane.proofs.Reaching.{half}
use Rattle.plane.proofs.Relations.{in_line, on_end, joined}
use Rattle.plane.proofs.Swap.{collinear_right, collinear_up}
use Rattle.plane.proofs.Middle.{equal_or_not, not_zero, cancel_le, upright_between}

-- ---- the tests on numbers
opposite_from : (u v : ℤ) → (((pos 0 <ℤ u) × (pos 0 <ℤ v)) ⊎ ((u <ℤ pos 0) × (v <ℤ pos 0)) → ⊥) → AreOpposite u v
opposite_from u v f =
    ⊎_elim
    (λ (h : pos 0 <ℤ u).
    ⊎_elim
    (λ (g : pos 0 <ℤ v). absurd (f (inl (h, g))))
    (λ (g : v ≤ℤ pos 0). inr (omega (arith, signed), g))
    (order (pos 0) v))
    (λ (h : u ≤ℤ pos 0).
    ⊎_elim
    (λ (g : v <ℤ pos 0).
    ⊎_elim
    (λ (k : u <ℤ pos 0). absurd (f (inr (k, g))))
    (λ (k : pos 0 ≤ℤ u). inr (k, omega (arith, signed)))
    (order u (pos 0)))
    (λ (g : pos 0 ≤ℤ v). inl (h, g))
    (order v (pos 0)))
    (order (pos 0) u)

opposite_not : (u v : ℤ) → AreOpposite u v → ((pos 0 <ℤ u) × (pos 0 <ℤ v)) ⊎ ((u <ℤ pos 0) × (v <ℤ pos 0)) → ⊥
opposite_not u v o =
    ⊎_elim
    (λ (h : (pos 0 <ℤ u) × (pos 0 <ℤ v)). both_up u v h.0 h.1 o)
    (λ (h : (u <ℤ pos 0) × (v <ℤ pos 0)). both_down u v h.0 h.1 o)
  where
    both_up : (u v : ℤ) → pos 0 <ℤ u → pos 0 <ℤ v → AreOpposite u v → ⊥
    both_up u v h k = ⊎_elim (λ (g : (u ≤ℤ pos 0) × (pos 0 ≤ℤ v)). omega (arith, signed)) (λ (g : (pos 0 ≤ℤ u) × (v ≤ℤ pos 0)). omega (arith, signed))

    both_down : (u v : ℤ) → u <ℤ pos 0 → v <ℤ pos 0 → AreOpposite u v → ⊥
    both_down u v h k = ⊎_elim (λ (g : (u ≤ℤ pos 0) × (pos 0 ≤ℤ v)). omega (arith, signed)) (λ (g : (pos 0 ≤ℤ u) × (v ≤ℤ pos 0)). omega (arith, signed))

Decides-beside : (s t : Segment) → Decides (not (is_beside s t)) (AreOpposite (area t.a t.b s.a) (area t.a t.b s.b))
Decides-beside s t =
    let u = area t.a t.b s.a in
    let v = area t.a t.b s.b in
    let left = Decides-and (int_lt (pos 0) u) (int_lt (pos 0) v) (Decides-int_lt (pos 0) u) (Decides-int_lt (pos 0) v) in
    let right = Decides-and (int_lt u (pos 0)) (int_lt v (pos 0)) (Decides-int_lt u (pos 0)) (Decides-int_lt v (pos 0)) in
    let either = Decides-or (int_lt (pos 0) u && int_lt (pos 0) v) (int_lt u (pos 0) && int_lt v (pos 0)) left right in
    let none = Decides-not (is_beside s t) either in
    (λ h. opposite_from u v (none.0 h), λ o. none.1 (opposite_not u v o))

-- the intervals have a common number; they have more than one
abbrev pub IntervalsMeet : ℤ → ℤ → ℤ → ℤ → Type 0
IntervalsMeet a b c d = (int_min c d ≤ℤ int_max a b) × (int_min a b ≤ℤ int_max c d)

abbrev pub IntervalsOverlap : ℤ → ℤ → ℤ → ℤ → Type 0
IntervalsOverlap a b c d = int_max (int_min a b) (int_min c d) <ℤ int_min (int_max a b) (int_max c d)

Decides-meet : (a b c d : ℤ) → Decides (intervals_meet a b c d) (IntervalsMeet a b c d)
Decides-meet a b c d =
    Decides-and (int_le (int_min c d) (int_max a b)) (int_le (int_min a b) (int_max c d)) (Decides-int_le (int_min c d) (int_max a b)) (Decides-int_le (int_min a b) (int_max c d))

pub Decides-overlap : (a b c d : ℤ) → Decides (intervals_overlap a b c d) (IntervalsOverlap a b c d)
Decides-overlap a b c d = Decides-int_lt (int_max (int_min a b) (int_min c d)) (int_min (int_max a b) (int_max c d))

meet_faces : (a b c d : ℤ) → IntervalsMeet a b c d → Faces TouchEnds a b c d ⊎ Faces Overlap a b c d
meet_faces a b c d h = by_order (int_min a b) (int_max a b) (int_min c d) (int_max c d) h.0 h.1
  where
    by_order : (m n k l : ℤ) → k ≤ℤ n → m ≤ℤ l → ((n ≡ k) ⊎ (l ≡ m)) ⊎ ((k <ℤ n) × (m <ℤ l))
    by_order m n k l h g =
        ⊎_elim
        (λ (e : k <ℤ n). ⊎_elim (λ (f : m <ℤ l). inr (e, f)) (λ (f : l ≤ℤ m). inl (inr (omega (arith, signed)))) (order m l))
        (λ (e : n ≤ℤ k). inl (inl (omega (arith, signed))))
        (order k n)

pub overlap_faces : (a b c d : ℤ) → IntervalsOverlap a b c d → (a ≢ b) × (c ≢ d) × Faces Overlap a b c d
overlap_faces a b c d h = omega (arith, ints, clamps)

-- where neither interval is one number, they are apart, or touch, or overlap
pub faces_cases : (a b c d : ℤ) → a ≢ b → c ≢ d → Faces Apart a b c d ⊎ (Faces TouchEnds a b c d ⊎ IntervalsOverlap a b c d)
faces_cases a b c d h k =
    ⊎_elim
    (λ (f : int_max a b <ℤ int_min c d). inl (inl f))
    (λ (f : int_min c d ≤ℤ int_max a b).
    ⊎_elim
    (λ (g : int_max c d <ℤ int_min a b). inl (inr g))
    (λ (g : int_min a b ≤ℤ int_max c d).
    ⊎_elim
    (λ (e : Faces TouchEnds a b c d). inr (inl e))
    (λ (e : Faces Overlap a b c d). inr (inr (wide a b c d h k e.0 e.1)))
    (meet_faces a b c d (f, g)))
    (order (int_max c d) (int_min a b)))
    (order (int_max a b) (int_min c d))
  where
    wide : (a b c d : ℤ) → a ≢ b → c ≢ d → int_min c d <ℤ int_max a b → int_min a b <ℤ int_max c d → IntervalsOverlap a b c d
    wide a b c d h k e f = omega (arith, ints, clamps)

-- ---- what touching is, in areas and intervals
pub record Touching (s t : Segment) : Type 0 where
  pub reach : ReachAcross s t
  pub across : IntervalsMeet s.a.x s.b.x t.a.x t.b.x
  pub upward : IntervalsMeet s.a.y s.b.y t.a.y t.b.y

touching_test : (s t : Segment) → Decides (touches s t) (Touching s t)
touching_test s t =
    let first = Decides-beside s t in
    let second = Decides-beside t s in
    let across = Decides-meet s.a.x s.b.x t.a.x t.b.x in
    let upward = Decides-meet s.a.y s.b.y t.a.y t.b.y in
    let d2 = Decides-and (not (is_beside s t)) (not (is_beside t s)) first second in
    let d3 = Decides-and (not (is_beside s t) && not (is_beside t s)) (intervals_meet s.a.x s.b.x t.a.x t.b.x) d2 across in
    let d4 = Decides-and (not (is_beside s t) && not (is_beside t s) && intervals_meet s.a.x s.b.x t.a.x t.b.x) (intervals_meet s.a.y s.b.y t.a.y t.b.y) d3 upward in
    (λ h. let k = d4.0 h in record { reach = k.0.0; across = k.0.1; upward = k.1 }, λ (h : Touching s t). d4.1 ((h.reach, h.across), h.upward))

touching_other : (s t : Segment) → Touching s t → Touching t s
touching_other s t h = record {
  reach = (h.reach.1, h.reach.0);
  across = (h.across.1, h.across.0);
  upward = (h.upward.1, h.upward.0);
}

point_of : (s t : Segment) → TouchAtEnds s t ⊎ HaveMore s t → (q : RationalPoint) × IsShared s t q
point_of s t = ⊎_elim (λ (h : TouchAtEnds s t). (h.0, h.1.0.0)) (λ (h : HaveMore s t). (h.0, h.1.1.0))

-- on one straight line
touching_line : (s t : Segment) → IsProper s → IsProper t → AreInLine s t → Touching s t → (q : RationalPoint) × IsShared s t q
touching_line s t ps pt line h =
    ⊎_elim
    (λ (e : s.a.x ≡ s.b.x).
    point_of s t
    (⊎_elim
    (λ (f : Faces TouchEnds s.a.y s.b.y t.a.y t.b.y). inl (collinear_up TouchEnds s t line ps pt e f))
    (λ (f : Faces Overlap s.a.y s.b.y t.a.y t.b.y). inr (collinear_up Overlap s t line ps pt e f))
    (meet_faces s.a.y s.b.y t.a.y t.b.y h.upward)))
    (λ (e : s.a.x ≢ s.b.x).
    point_of s t
    (⊎_elim
    (λ (f : Faces TouchEnds s.a.x s.b.x t.a.x t.b.x). inl (collinear_right TouchEnds s t line pt e f))
    (λ (f : Faces Overlap s.a.x s.b.x t.a.x t.b.x). inr (collinear_right Overlap s t line pt e f))
    (meet_faces s.a.x s.b.x t.a.x t.b.x h.across)))
    (equal_or_not s.a.x s.b.x)

touching_proper : (s t : Segment) → IsProper s → IsProper t → Touching s t → (q : RationalPoint) × IsShared s t q
touching_proper s t ps pt h =
    ⊎_elim
    (λ (e : turn s t ≡ pos 0). touching_line s t ps pt (in_line s t h.reach e) h)
    (λ (e : turn s t ≢ pos 0). crossing s t e h.reach)
    (equal_or_not (turn s t) (pos 0))

-- a segment whose ends are one point
abbrev pub IsPoint : Segment → Type 0
IsPoint s = (s.a.x ≡ s.b.x) × (s.a.y ≡ s.b.y)

pub point_or_proper : (s : Segment) → IsPoint s ⊎ IsProper s
point_or_proper s =
    ⊎_elim
    (λ (e : s.a.x ≡ s.b.x). ⊎_elim (λ (f : s.a.y ≡ s.b.y). inl (e, f)) (λ (f : s.a.y ≢ s.b.y). inr (λ g. f)) (equal_or_not s.a.y s.b.y))
    (λ (e : s.a.x ≢ s.b.x). inr (λ g. absurd (e g)))
    (equal_or_not s.a.x s.b.x)

opposite_same : (z : ℤ) → AreOpposite z z → z ≡ pos 0
opposite_same z = ⊎_elim (λ (h : (z ≤ℤ pos 0) × (pos 0 ≤ℤ z)). omega (arith, signed)) (λ (h : (pos 0 ≤ℤ z) × (z ≤ℤ pos 0)). omega (arith, signed))

same_area : (p r : Point) (a b : Point) → p.x ≡ r.x → p.y ≡ r.y → area a b p ≡ area a b r
same_area p r a b e f = rw (e, f)

meet_between : (a b c d : ℤ) → a ≡ b → IntervalsMeet a b c d → IsBetween c a d
meet_between a b c d e h =
    ⊎_elim
    (λ (f : c <ℤ d). inl (low a b c d e h.0 h.1 f))
    (λ (f : d ≤ℤ c). inr (high a b c d e h.0 h.1 f))
    (order c d)
  where
    low : (a b c d : ℤ) → a ≡ b → int_min c d ≤ℤ int_max a b → int_min a b ≤ℤ int_max c d → c <ℤ d → (c ≤ℤ a) × (a ≤ℤ d)
    low a b c d e h k f = omega (arith, ints, clamps)

    high : (a b c d : ℤ) → a ≡ b → int_min c d ≤ℤ int_max a b → int_min a b ≤ℤ int_max c d → d ≤ℤ c → (d ≤ℤ a) × (a ≤ℤ c)
    high a b c d e h k f = omega (arith, ints, clamps)

touching_point : (s t : Segment) → IsPoint s → Touching s t → (q : RationalPoint) × IsShared s t q
touching_point s t e h =
    let z : area t.a t.b s.b ≡ area t.a t.b s.a = same_area s.b s.a t.a t.b (sym e.0) (sym e.1) in
    let o : AreOpposite (area t.a t.b s.a) (area t.a t.b s.a) = rw z at h.reach.0 in (
      rational s.a,
      (
        on_end s s.a (inl (joined s.a)),
        point_on t s.a (opposite_same (area t.a t.b s.a) o) (meet_between s.a.x s.b.x t.a.x t.b.x e.0 h.across) (meet_between s.a.y s.b.y t.a.y t.b.y e.1 h.upward),
      ),
    )

touching_shared : (s t : Segment) → Touching s t → (q : RationalPoint) × IsShared s t q
touching_shared s t h =
    ⊎_elim
    (λ (e : IsPoint s). touching_point s t e h)
    (λ (ps : IsProper s).
    ⊎_elim
    (λ (e : IsPoint t). let k = touching_point t s e (touching_other s t h) in (k.0, (k.1.1, k.1.0)))
    (λ (pt : IsProper t). touching_proper s t ps pt h)
    (point_or_proper t))
    (point_or_proper s)

-- ---- from a common point
squeezed : (a b x d : ℤ) → a ≡ b → IsBetween (a *ℤ d) x (b *ℤ d) → x ≡ a *ℤ d
squeezed a b x d e m =
    let m' : IsBetween (a *ℤ d) x (a *ℤ d) = rw (← e) at m in
    ⊎_elim
    (λ (h : ((a *ℤ d) ≤ℤ x) × (x ≤ℤ (a *ℤ d))). omega (arith, signed))
    (λ (h : ((a *ℤ d) ≤ℤ x) × (x ≤ℤ (a *ℤ d))). omega (arith, signed))
    m'

-- a point on a segment whose ends are one point is that point
pub at_point_segment : (s : Segment) (q : RationalPoint) → IsPoint s → IsOn q s → IsAt s.a q
at_point_segment s q e on = (squeezed s.a.x s.b.x q.x q.d e.0 on.across, squeezed s.a.y s.b.y q.y q.d e.1 on.upward)

area_scaled : (ax ay bx by px py d : ℤ) →
    (bx -ℤ ax) *ℤ (py *ℤ d -ℤ ay *ℤ d) -ℤ (by -ℤ ay) *ℤ (px *ℤ d -ℤ ax *ℤ d)
    ≡ d *ℤ ((bx -ℤ ax) *ℤ (py -ℤ ay) -ℤ (by -ℤ ay) *ℤ (px -ℤ ax))
area_scaled ax ay bx by px py d = simp multiplied (omega (arith, signed))

area_zero : (p : Point) (q : RationalPoint) (t : Segment) → IsAt p q → area_at t.a t.b q ≡ pos 0 → area t.a t.b p ≡ pos 0
area_zero p q t (ex, ey) e =
    no_zero_divisor q.d (area t.a t.b p) (sym (area_scaled t.a.x t.a.y t.b.x t.b.y p.x p.y q.d) ∙ rw (ex, ey) at e) (not_zero q.d q.whole)

zero_opposite : (u v : ℤ) → u ≡ pos 0 → v ≡ u → AreOpposite u v
zero_opposite u v e f = inl (omega (arith, signed), omega (arith, signed))

half_any : (s t : Segment) (q : RationalPoint) → IsOn q s → area_at t.a t.b q ≡ pos 0 → AreOpposite (area t.a t.b s.a) (area t.a t.b s.b)
half_any s t q on e =
    ⊎_elim
    (λ (f : IsPoint s).
    zero_opposite (area t.a t.b s.a) (area t.a t.b s.b) (area_zero s.a q t (at_point_segment s q f on) e) (same_area s.b s.a t.a t.b (sym f.0) (sym f.1)))
    (λ (ps : IsProper s). half s t q ps on e)
    (point_or_proper s)

pub reaching_any : (s t : Segment) (q : RationalPoint) → IsShared s t q → ReachAcross s t
reaching_any s t q h = (half_any s t q h.0 h.1.straight, half_any t s q h.1 h.0.straight)

below_max : (a b x d : ℤ) → pos 0 <ℤ d → IsBetween (a *ℤ d) x (b *ℤ d) → ((int_min a b *ℤ d) ≤ℤ x) × (x ≤ℤ (int_max a b *ℤ d))
below_max a b x d hd m =
    ⊎_elim
    (λ (h : a <ℤ b). rw (up_min a b h, up_max a b h) (upright_between a b x d hd (weak a b h) m))
    (λ (h : b ≤ℤ a). rw (down_min a b h, down_max a b h) (upright_between b a x d hd h (turned a b x d m)))
    (order a b)
  where
    weak : (a b : ℤ) → a <ℤ b → a ≤ℤ b
    weak a b h = omega (arith, signed)

    up_min : (a b : ℤ) → a <ℤ b → int_min a b ≡ a
    up_min a b h = omega (arith, ints, clamps)

    up_max : (a b : ℤ) → a <ℤ b → int_max a b ≡ b
    up_max a b h = omega (arith, ints, clamps)

    down_min : (a b : ℤ) → b ≤ℤ a → int_min a b ≡ b
    down_min a b h = omega (arith, ints, clamps)

    down_max : (a b : ℤ) → b ≤ℤ a → int_max a b ≡ a
    down_max a b h = omega (arith, ints, clamps)

    turned : (a b x d : ℤ) → IsBetween (a *ℤ d) x (b *ℤ d) → IsBetween (b *ℤ d) x (a *ℤ d)
    turned a b x d = ⊎_elim (λ (h : ((a *ℤ d) ≤ℤ x) × (x ≤ℤ (b *ℤ d))). inr h) (λ (h : ((b *ℤ d) ≤ℤ x) × (x ≤ℤ (a *ℤ d))). inl h)

meet_from : (a b c e x d : ℤ) → pos 0 <ℤ d → IsBetween (a *ℤ d) x (b *ℤ d) → IsBetween (c *ℤ d) x (e *ℤ d) → IntervalsMeet a b c e
meet_from a b c e x d hd h k =
    let m = below_max a b x d hd h in
    let n = below_max c e x d hd k in (
      cancel_le (int_min c e) (int_max a b) d hd (through (int_min c e *ℤ d) x (int_max a b *ℤ d) n.0 m.1),
      cancel_le (int_min a b) (int_max c e) d hd (through (int_min a b *ℤ d) x (int_max c e *ℤ d) m.0 n.1),
    )
  where
    through : (u x v : ℤ) → u ≤ℤ x → x ≤ℤ v → u ≤ℤ v
    through u x v h k = omega (arith, signed)

shared_touching : (s t : Segment) (q : RationalPoint) → IsShared s t q → Touching s t
shared_touching s t q h = record {
  reach = reaching_any s t q h;
  across = meet_from s.a.x s.b.x t.a.x t.b.x q.x q.d q.whole h.0.across h.1.across;
  upward = meet_from s.a.y s.b.y t.a.y t.b.y q.y q.d q.whole h.0.upward h.1.upward;
}

pub Decides-touches : (s t : Segment) → Decides (touches s t) (HaveOne s t)
Decides-touches s t = Decides-like (touches s t) (touching_shared s t) (λ (h : HaveOne s t). shared_touching s t h.0 h.1) (touching_test s t)
