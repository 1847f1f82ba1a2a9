-- What a step t adds to the parities at the two ends of a step s.
use Rattle.std.proofs.Common.{◌≡◌, ◌≢◌, refl, sym, ◌∙◌, ap, arith, ℤ, pos, ◌-ℤ◌, ◌*ℤ◌, ◌<ℤ◌, ◌≤ℤ◌, ◌⊎◌, inl, inr, ⊎_elim, Bool, true, false, not, ◌&&◌}
use Rattle.std.specs.Prelude.{◌||◌, int_lt}
use Rattle.std.proofs.Math.IntN.{*ℤ-zero, zero-*ℤ}
use Rattle.plane.proofs.Ring.{multiplied, signed}
use Rattle.plane.proofs.Signs.{order, mul_positive}
use Rattle.plane.proofs.Probe.{minus_plus, minus_minus, factor_positive}
use Rattle.plane.proofs.Collinear.{area_start, area_end}
use Rattle.topo_base.specs.Point.{Point, same_point}
use Rattle.plane.specs.Segment.{Segment}
use Rattle.plane.specs.Orientation.{area}
use Rattle.plane.specs.Crossings.{over, back, crosses, passed}
use Rattle.plane.specs.Parity.{xor}
use Rattle.plane.specs.Direction.{Direction, cross}
use Rattle.parity_laws.specs.Steps.{direction, rightward, first_of, before, leaves_before, twin}
use Rattle.parity_laws.specs.Ways.{Onward, Apart}
use Rattle.parity_laws.proofs.Sums.{xor_none}
use Rattle.parity_laws.proofs.Tests.{and_first, and_second, and_third, same_self, same_not, same_turned, area_cycle, area_turned, lt_turned, one_first}
use Rattle.plane.proofs.Tests.{lt_yes, lt_no, lt_self, yes_lt, no_lt}

abbrev pub seg : Point → Point → Segment
seg v w = record { a = v; b = w }

-- p is above the way s, or its end
abbrev pub passed_to : Segment → Point → Bool
passed_to s p = xor (passed s p) (same_point p s.b)

abbrev pub gap : Segment → Segment → Bool
gap s t = xor (xor (crosses t s.a) (crosses t s.b)) (xor (xor (leaves_before s.a (direction s) t) (leaves_before s.b (direction (back s)) t)) (twin s t))

abbrev pub Gap : Segment → Segment → Type 0
Gap s t = gap s t ≡ xor (passed_to s t.a) (passed_to s t.b)

together : (a b c d l m t k n a' b' c' d' l' m' t' k' n' : Bool) → a ≡ a' → b ≡ b' → c ≡ c' → d ≡ d' → l ≡ l' → m ≡ m' → t ≡ t' → k ≡ k' → n ≡ n' →
    xor (xor (xor a' b') (xor c' d')) (xor (xor l' m') t') ≡ xor k' n' →
    xor (xor (xor a b) (xor c d)) (xor (xor l m) t) ≡ xor k n
together a b c d l m t k n a' b' c' d' l' m' t' k' n' ea eb ec ed el em et ek en e = cc

-- ---- the parts of a gap
pub over_level : (s : Segment) (q : Point) → area s.a s.b q ≡ pos 0 → over s q ≡ false
over_level s q e = and_third (int_lt q.x s.a.x) (int_lt q.x s.b.x) (int_lt (area s.a s.b q) (pos 0)) (ap (λ z. int_lt z (pos 0)) e ∙ lt_self (pos 0))

pub over_early : (s : Segment) (q : Point) → int_lt q.x s.a.x ≡ true → over s q ≡ false
over_early s q e = and_first (int_lt q.x s.a.x) (int_lt q.x s.b.x) (int_lt (area s.a s.b q) (pos 0)) e

pub over_late : (s : Segment) (q : Point) → int_lt q.x s.b.x ≡ false → over s q ≡ false
over_late s q e = and_second (int_lt q.x s.a.x) (int_lt q.x s.b.x) (int_lt (area s.a s.b q) (pos 0)) e

pub over_open : (s : Segment) (q : Point) → int_lt q.x s.a.x ≡ false → over s q ≡ int_lt q.x s.b.x && int_lt (area s.a s.b q) (pos 0)
over_open s q e = by_first (int_lt q.x s.a.x) (int_lt q.x s.b.x) (int_lt (area s.a s.b q) (pos 0)) e
  where
    by_first : (x y u : Bool) → x ≡ false → not x && y && u ≡ y && u
    by_first true y u e = cc
    by_first false y u e = refl

pub leaves_none : (v : Point) (u : Direction) (t : Segment) → same_point t.a v ≡ false → same_point t.b v ≡ false → leaves_before v u t ≡ false
leaves_none v u t e f = by_tests (same_point t.a v) (before (direction t) u) (same_point t.b v) (before (direction (back t)) u) e f
  where
    by_tests : (a b c d : Bool) → a ≡ false → c ≡ false → xor (a && b) (c && d) ≡ false
    by_tests a b c d e f = rw (e, f)

pub leaves_start : (v : Point) (u : Direction) (t : Segment) → same_point t.a v ≡ true → same_point t.b v ≡ false → leaves_before v u t ≡ before (direction t) u
leaves_start v u t e f = by_tests (same_point t.a v) (before (direction t) u) (same_point t.b v) (before (direction (back t)) u) e f
  where
    by_tests : (a b c d : Bool) → a ≡ true → c ≡ false → xor (a && b) (c && d) ≡ b
    by_tests a b c d e f = rw (e, f) (xor_none b)

pub leaves_end : (v : Point) (u : Direction) (t : Segment) → same_point t.a v ≡ false → same_point t.b v ≡ true → leaves_before v u t ≡ before (direction (back t)) u
leaves_end v u t e f = by_tests (same_point t.a v) (before (direction t) u) (same_point t.b v) (before (direction (back t)) u) e f
  where
    by_tests : (a b c d : Bool) → a ≡ false → c ≡ true → xor (a && b) (c && d) ≡ d
    by_tests a b c d e f = rw (e, f)

pub twin_yes : (s t : Segment) → same_point t.a s.a ≡ true → same_point t.b s.b ≡ true → same_point t.a s.b ≡ false → twin s t ≡ true
twin_yes s t e f g = by_tests (same_point t.a s.a) (same_point t.b s.b) (same_point t.a s.b) (same_point t.b s.a) e f g
  where
    by_tests : (a b c d : Bool) → a ≡ true → b ≡ true → c ≡ false → xor (a && b) (c && d) ≡ true
    by_tests a b c d e f g = rw (e, f, g)

pub twin_no : (s t : Segment) → same_point t.b s.a ≡ false → same_point t.b s.b ≡ false → twin s t ≡ false
twin_no s t e f = by_tests (same_point t.a s.a) (same_point t.b s.b) (same_point t.a s.b) (same_point t.b s.a) f e
  where
    by_tests : (a b c d : Bool) → b ≡ false → d ≡ false → xor (a && b) (c && d) ≡ false
    by_tests true b true d e f = rw (e, f)
    by_tests true b false d e f = rw e
    by_tests false b true d e f = f
    by_tests false b false d e f = refl

pub passed_start : (s : Segment) → same_point s.a s.b ≡ false → passed_to s s.a ≡ false
passed_start s e = by_tests (int_lt s.a.x s.a.x) (int_lt s.b.x s.a.x) (int_lt (pos 0) (area s.a s.b s.a)) (same_point s.a s.b) (lt_self s.a.x) e
  where
    by_tests : (a b c d : Bool) → a ≡ false → d ≡ false → xor (a && not b && c) d ≡ false
    by_tests a b c d e f = rw (e, f)

pub passed_end : (s : Segment) → passed_to s s.b ≡ true
passed_end s = by_tests (int_lt s.a.x s.b.x) (int_lt s.b.x s.b.x) (int_lt (pos 0) (area s.a s.b s.b)) (same_point s.b s.b) (ap (λ z. int_lt (pos 0) z) (area_end s.a s.b) ∙ lt_self (pos 0)) (same_self s.b)
  where
    by_tests : (a b c d : Bool) → c ≡ false → d ≡ true → xor (a && not b && c) d ≡ true
    by_tests true true c d e f = f
    by_tests true false c d e f = rw (e, f)
    by_tests false b c d e f = f

passed_other : (s : Segment) (p : Point) → same_point p s.b ≡ false → passed_to s p ≡ int_lt s.a.x p.x && not (int_lt s.b.x p.x) && int_lt (area s.a p s.b) (pos 0)
passed_other s p e = by_tests (int_lt s.a.x p.x) (int_lt s.b.x p.x) (int_lt (pos 0) (area s.a s.b p)) (int_lt (area s.a p s.b) (pos 0)) (same_point p s.b) (lt_turned (area s.a s.b p) (area s.a p s.b) (area_turned s.a s.b p)) e
  where
    by_tests : (a b c c' d : Bool) → c ≡ c' → d ≡ false → xor (a && not b && c) d ≡ a && not b && c'
    by_tests a b c c' d e f = rw (e, f) (xor_none (a && not b && c'))

-- ---- directions
pub rightward_yes : (v w : Point) → Onward v w → rightward (direction (seg v w)) ≡ true
rightward_yes v w h =
    ⊎_elim
    (λ (g : v.x <ℤ w.x). by_first (lt_yes (pos 0) (w.x -ℤ v.x) (omega (arith, signed))))
    (λ (g : w.x ≤ℤ v.x). let k = h.down g in let l = h.along in by_second (lt_no (w.x -ℤ v.x) (pos 0) (omega (arith, signed))) (lt_yes (w.y -ℤ v.y) (pos 0) (omega (arith, signed))))
    (order v.x w.x)
  where
    by_first : int_lt (pos 0) (w.x -ℤ v.x) ≡ true → rightward (direction (seg v w)) ≡ true
    by_first e = rw e

    or_true : (a b c : Bool) → b ≡ false → c ≡ true → (a || (not b && c)) ≡ true
    or_true true b c e f = refl
    or_true false b c e f = rw (e, f)

    by_second : int_lt (w.x -ℤ v.x) (pos 0) ≡ false → int_lt (w.y -ℤ v.y) (pos 0) ≡ true → rightward (direction (seg v w)) ≡ true
    by_second e f = or_true _ _ _ e f

pub rightward_no : (v w : Point) → Onward v w → rightward (direction (seg w v)) ≡ false
rightward_no v w h =
    let k = h.along in
    ⊎_elim
    (λ (g : v.x <ℤ w.x). or_false _ _ _ (lt_no (pos 0) (v.x -ℤ w.x) (omega (arith, signed))) (inl (lt_yes (v.x -ℤ w.x) (pos 0) (omega (arith, signed)))))
    (λ (g : w.x ≤ℤ v.x). let l = h.down g in or_false _ _ _ (lt_no (pos 0) (v.x -ℤ w.x) (omega (arith, signed))) (inr (lt_no (v.y -ℤ w.y) (pos 0) (omega (arith, signed)))))
    (order v.x w.x)
  where
    or_false : (a b c : Bool) → a ≡ false → (b ≡ true) ⊎ (c ≡ false) → (a || (not b && c)) ≡ false
    or_false true b c e f = cc
    or_false false true c e f = refl
    or_false false false c e f = ⊎_elim (λ (g : false ≡ true). cc) (λ (g : c ≡ false). g) f

first_right : (h k c : Bool) → k ≡ true → first_of h k c ≡ h && c
first_right true true c e = refl
first_right false true c e = refl
first_right h false c e = cc

first_left : (h k c : Bool) → h ≡ false → first_of h k c ≡ not k && c
first_left true k c e = cc
first_left false true c e = refl
first_left false false c e = refl

pub before_self : (u : Direction) → before u u ≡ false
before_self u = by_half (rightward u) (int_lt (cross u u) (pos 0)) (ap (λ z. int_lt z (pos 0)) (zero u) ∙ lt_self (pos 0))
  where
    zero : (u : Direction) → cross u u ≡ pos 0
    zero u = simp multiplied (omega (arith, signed))

    by_half : (h c : Bool) → c ≡ false → first_of h h c ≡ false
    by_half true c e = e
    by_half false c e = e

-- ---- t is s
pub twin_gap : (v w : Point) → v ≢ w → Gap (seg v w) (seg v w)
twin_gap v w n =
    let s : Segment = seg v w in
    let vw = same_not v w n in
    let wv = same_turned w v ∙ vw in
    together _ _ _ _ _ _ _ _ _ false false false false false false true false true
    (over_level s v (area_start v w))
    (over_late (back s) v (lt_self v.x))
    (over_late s w (lt_self w.x))
    (over_level (back s) w (area_start w v))
    (leaves_start v (direction s) s (same_self v) wv ∙ before_self (direction s))
    (leaves_end w (direction (back s)) s vw (same_self w) ∙ before_self (direction (back s)))
    (twin_yes s s (same_self v) (same_self w) vw)
    (passed_start s vw)
    (passed_end s)
    refl

-- ---- helpers
same_half : (h x c : Bool) → (x ≡ true → h ≡ true) → (x ≡ false → h ≡ true → c ≡ false) → h && c ≡ x && c
same_half true true c e f = refl
same_half true false c e f = f refl refl
same_half false true c e f = let g = e refl in cc
same_half false false c e f = refl

same_not_half : (h x c : Bool) → (x ≡ true → h ≡ true) → (x ≡ false → h ≡ true → c ≡ false) → not h && c ≡ not x && c
same_not_half true true c e f = refl
same_not_half true false c e f = sym (f refl refl)
same_not_half false true c e f = let g = e refl in cc
same_not_half false false c e f = refl

later : (v z : Point) → int_lt v.x z.x ≡ true → rightward (direction (seg v z)) ≡ true
later v z e = let g = yes_lt v.x z.x e in rightward_yes v z (record { along = omega (arith, signed); down = λ k. absurd (omega (arith, signed)) })

down_only : (u : Direction) → u.dx ≤ℤ pos 0 → rightward u ≡ true → (u.dx ≡ pos 0) × (u.dy <ℤ pos 0)
down_only u h e =
    let f = by_tests (int_lt (pos 0) u.dx) (int_lt u.dx (pos 0)) (int_lt u.dy (pos 0)) (lt_no (pos 0) u.dx h) e in
    let g = no_lt u.dx (pos 0) f.0 in
    (omega (arith, signed), yes_lt u.dy (pos 0) f.1)
  where
    by_tests : (a b c : Bool) → a ≡ false → (a || (not b && c)) ≡ true → (b ≡ false) × (c ≡ true)
    by_tests true b c e f = cc
    by_tests false true c e f = cc
    by_tests false false c e f = (refl, f)

zero_times : (a d : ℤ) → a ≡ pos 0 → a *ℤ d ≡ pos 0
zero_times a d e = ap (λ k. k *ℤ d) e ∙ zero-*ℤ d

times_zero : (a d : ℤ) → d ≡ pos 0 → a *ℤ d ≡ pos 0
times_zero a d e = ap (λ k. a *ℤ k) e ∙ *ℤ-zero a

not_below_start : (a b c d : ℤ) → a ≡ pos 0 → b <ℤ pos 0 → pos 0 ≤ℤ c → int_lt (a *ℤ d -ℤ b *ℤ c) (pos 0) ≡ false
not_below_start a b c d e h k =
    let z = zero_times a d e in
    let hb : b ≤ℤ pos 0 = omega (arith, signed) in
    let m = minus_plus b c hb k in
    lt_no (a *ℤ d -ℤ b *ℤ c) (pos 0) (omega (arith, signed))

low_start : (v w z : Point) → Onward v w → int_lt v.x z.x ≡ false → rightward (direction (seg v z)) ≡ true → int_lt (area v z w) (pos 0) ≡ false
low_start v w z on e f =
    let k = no_lt v.x z.x e in
    let l = on.along in
    let d = down_only (direction (seg v z)) (omega (arith, signed)) f in
    not_below_start (z.x -ℤ v.x) (z.y -ℤ v.y) (w.x -ℤ v.x) (w.y -ℤ v.y) d.0 d.1 (omega (arith, signed))

not_below_end : (a b c d : ℤ) → a ≤ℤ pos 0 → b <ℤ pos 0 → c ≡ pos 0 → int_lt (a *ℤ b -ℤ d *ℤ c) (pos 0) ≡ false
not_below_end a b c d h k e =
    let z = times_zero d c e in
    let hb : b ≤ℤ pos 0 = omega (arith, signed) in
    let m = minus_minus a b h hb in
    lt_no (a *ℤ b -ℤ d *ℤ c) (pos 0) (omega (arith, signed))

low_end : (v w z : Point) → Onward v w → int_lt w.x z.x ≡ false → rightward (direction (seg w z)) ≡ true → int_lt (area w v z) (pos 0) ≡ false
low_end v w z on e f =
    let k = no_lt w.x z.x e in
    let l = on.along in
    let d = down_only (direction (seg w z)) (omega (arith, signed)) f in
    not_below_end (v.x -ℤ w.x) (z.y -ℤ w.y) (z.x -ℤ w.x) (v.y -ℤ w.y) (omega (arith, signed)) d.1 d.0

-- ---- t leaves the start of s
pub start_gap : (v w z : Point) → Onward v w → v ≢ w → z ≢ v → z ≢ w → Gap (seg v w) (seg v z)
start_gap v w z on n nv nw =
    let s : Segment = seg v w in
    let t : Segment = seg v z in
    let h = on.along in
    let vw = same_not v w n in
    let zv = same_not z v nv in
    let zw = same_not z w nw in
    let wv : int_lt w.x v.x ≡ false = lt_no w.x v.x h in
    let x1 = int_lt v.x z.x in
    let x2 = int_lt w.x z.x in
    let c = int_lt (area v z w) (pos 0) in
    together _ _ _ _ _ _ _ _ _ false false (x2 && c) false (x1 && c) false false false (x1 && not x2 && c)
    (over_level t v (area_start v z))
    (over_late (back t) v (lt_self v.x))
    (over_open t w wv)
    (over_late (back t) w wv)
    (leaves_start v (direction s) t (same_self v) zv ∙ first_right (rightward (direction t)) (rightward (direction s)) c (rightward_yes v w on) ∙ same_half (rightward (direction t)) x1 c (later v z) (low_start v w z on))
    (leaves_none w (direction (back s)) t vw zw)
    (twin_no s t zv zw)
    (passed_start s vw)
    (passed_other s z zw)
    (sums x1 x2 c (λ e. let g = yes_lt w.x z.x e in lt_yes v.x z.x (omega (arith, signed))))
  where
    sums : (x1 x2 c : Bool) → (x2 ≡ true → x1 ≡ true) → xor (xor (xor false false) (xor (x2 && c) false)) (xor (xor (x1 && c) false) false) ≡ xor false (x1 && not x2 && c)
    sums true true true e = refl
    sums true true false e = refl
    sums true false true e = refl
    sums true false false e = refl
    sums false true c e = let f = e refl in cc
    sums false false c e = refl

-- ---- t leaves the end of s
up_right : (a b c d : ℤ) → c ≡ pos 0 → pos 0 <ℤ d → pos 0 <ℤ a → int_lt (a *ℤ d -ℤ b *ℤ c) (pos 0) ≡ false
up_right a b c d e h k =
    let z = times_zero b c e in
    let m = mul_positive a d k h in
    lt_no (a *ℤ d -ℤ b *ℤ c) (pos 0) (omega (arith, signed))

over_end : (v w z : Point) → Onward v w → over (seg w z) v ≡ false
over_end v w z on =
    let k = on.along in
    ⊎_elim
    (λ (g : v.x <ℤ w.x). over_early (seg w z) v (lt_yes v.x w.x g))
    (λ (g : w.x ≤ℤ v.x).
    let l = on.down g in
    ⊎_elim
    (λ (f : v.x <ℤ z.x). and_third (int_lt v.x w.x) (int_lt v.x z.x) (int_lt (area w z v) (pos 0)) (up_right (z.x -ℤ w.x) (z.y -ℤ w.y) (v.x -ℤ w.x) (v.y -ℤ w.y) (omega (arith, signed)) (omega (arith, signed)) (omega (arith, signed))))
    (λ (f : z.x ≤ℤ v.x). over_late (seg w z) v (lt_no v.x z.x f))
    (order v.x z.x))
    (order v.x w.x)

right_of : (a b c d : ℤ) → a ≡ pos 0 → pos 0 <ℤ d → int_lt (a *ℤ b -ℤ d *ℤ c) (pos 0) ≡ true → pos 0 <ℤ c
right_of a b c d e h f =
    let z = zero_times a b e in
    let g = yes_lt (a *ℤ b -ℤ d *ℤ c) (pos 0) f in
    factor_positive d c h (omega (arith, signed))

pub end_gap : (v w z : Point) → Onward v w → v ≢ w → z ≢ v → z ≢ w → Apart (direction (seg w z)) (direction (seg w v)) → Gap (seg v w) (seg w z)
end_gap v w z on n nv nw apart =
    let s : Segment = seg v w in
    let t : Segment = seg w z in
    let h = on.along in
    let vw = same_not v w n in
    let wv = same_turned w v ∙ vw in
    let zv = same_not z v nv in
    let zw = same_not z w nw in
    let x0 = int_lt v.x w.x in
    let x1 = int_lt v.x z.x in
    let x2 = int_lt w.x z.x in
    let c = int_lt (area w v z) (pos 0) in
    let round : int_lt (area z w v) (pos 0) ≡ c = ap (λ k. int_lt k (pos 0)) (area_cycle z w v) in
    let round' : int_lt (area v z w) (pos 0) ≡ c = ap (λ k. int_lt k (pos 0)) (area_cycle v z w ∙ area_cycle z w v) in
    together _ _ _ _ _ _ _ _ _ false (not x1 && x0 && c) false false false (not (not x2 && c)) false true (x1 && not x2 && c)
    (over_end v w z on)
    (ap (λ k. not x1 && x0 && k) round)
    (over_level t w (area_start w z))
    (over_late (back t) w (lt_self w.x))
    (leaves_none v (direction s) t wv zv)
    (leaves_start w (direction (back s)) t (same_self w) zw ∙ one_first (direction t) (direction (back s)) apart ∙ ap not (first_left (rightward (direction (back s))) (rightward (direction t)) c (rightward_no v w on) ∙ same_not_half (rightward (direction t)) x2 c (later w z) (low_end v w z on)))
    (twin_no s t zv zw)
    (passed_end s)
    (passed_other s z zw ∙ ap (λ k. x1 && not x2 && k) round')
    (sums x0 x1 x2 c
    (λ e. let g = yes_lt w.x z.x e in lt_yes v.x z.x (omega (arith, signed)))
    (λ e f. let g = no_lt v.x w.x e in let k = yes_lt v.x z.x f in lt_yes w.x z.x (omega (arith, signed)))
    (λ e f.
    let g = no_lt v.x w.x e in
    let l = on.down g in
    let m = right_of (v.x -ℤ w.x) (z.y -ℤ w.y) (z.x -ℤ w.x) (v.y -ℤ w.y) (omega (arith, signed)) (omega (arith, signed)) f in
    lt_yes w.x z.x (omega (arith, signed))))
  where
    sums : (x0 x1 x2 c : Bool) → (x2 ≡ true → x1 ≡ true) → (x0 ≡ false → x1 ≡ true → x2 ≡ true) → (x0 ≡ false → c ≡ true → x2 ≡ true) →
        xor (xor (xor false (not x1 && x0 && c)) (xor false false)) (xor (xor false (not (not x2 && c))) false) ≡ xor true (x1 && not x2 && c)
    sums true true true true e f g = refl
    sums true true true false e f g = refl
    sums true true false true e f g = refl
    sums true true false false e f g = refl
    sums true false true c e f g = let k = e refl in cc
    sums true false false true e f g = refl
    sums true false false false e f g = refl
    sums false true true true e f g = refl
    sums false true true false e f g = refl
    sums false true false c e f g = let k = f refl refl in cc
    sums false false true c e f g = let k = e refl in cc
    sums false false false true e f g = let k = g refl refl in cc
    sums false false false false e f g = refl
