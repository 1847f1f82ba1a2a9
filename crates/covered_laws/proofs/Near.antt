-- Points near m, in one direction: from some on, the way to m misses each segment that m is not on.
use Rattle.std.proofs.Common.{◌≡◌, ◌≢◌, ◌≤◌, ℕ, suc, ◌+◌, sym, ◌∙◌, ap, subst, arith, ℤ, pos, negsuc, ◌+ℤ◌, ◌-ℤ◌, ◌*ℤ◌, ◌<ℤ◌, ◌≤ℤ◌, ◌⊎◌, inl, inr, ⊎_elim, List, [], ◌∷◌}
use Rattle.std.specs.Prelude.{neg_ℤ}
use Rattle.std.specs.List.{Contains}
use Rattle.std.proofs.Math.IntN.{zero-*ℤ}
use Rattle.std.proofs.lemmas.Int.{ints}
use Rattle.topo_base.specs.Point.{Point}
use Rattle.topo_base.specs.RationalPoint.{RationalPoint, IsBetween, IsAt}
use Rattle.plane.specs.RationalTests.{IsOn, IsOnWay, area_at}
use Rattle.plane.specs.Segment.{Segment}
use Rattle.plane.proofs.ListTests.{contains_cases, contains_none}
use Rattle.plane.proofs.Middle.{upright_between}
use Rattle.plane.proofs.Ring.{mul_comm, neg_mul, multiplied, signed}
use Rattle.plane.proofs.Signs.{mul_positive, mul_le, order, times_one}
use Rattle.covered_laws.proofs.Weights.{level, square, above_on_way}

-- ---- the points m + (dx, dy) / (k + 1), measured in parts of m's denominator
pub positive_suc : (k : ℕ) → pos 0 <ℤ pos (suc k)
positive_suc k = omega (arith, ints)

abbrev pub near : RationalPoint → ℤ → ℤ → ℕ → RationalPoint
near m dx dy k = record {
  x = m.x *ℤ pos (suc k) +ℤ dx;
  y = m.y *ℤ pos (suc k) +ℤ dy;
  d = m.d *ℤ pos (suc k);
  whole = mul_positive m.d (pos (suc k)) m.whole (positive_suc k);
}

pub level_near : (u v w : ℤ) (m : RationalPoint) (dx dy : ℤ) (k : ℕ) → level u v w (near m dx dy k) ≡ pos (suc k) *ℤ level u v w m +ℤ (u *ℤ dx +ℤ v *ℤ dy)
level_near u v w m dx dy k = over u v w m.x m.y m.d dx dy (pos (suc k))
  where
    over : (u v w x y d dx dy c : ℤ) → u *ℤ (x *ℤ c +ℤ dx) +ℤ v *ℤ (y *ℤ c +ℤ dy) +ℤ w *ℤ (d *ℤ c) ≡ c *ℤ (u *ℤ x +ℤ v *ℤ y +ℤ w *ℤ d) +ℤ (u *ℤ dx +ℤ v *ℤ dy)
    over u v w x y d dx dy c = simp multiplied (omega (arith, signed))

-- no such point is m
pub square_near : (m : RationalPoint) (dx dy : ℤ) (k : ℕ) → pos 0 <ℤ (dx *ℤ dx +ℤ dy *ℤ dy) → pos 0 <ℤ square (near m dx dy k) m
square_near m dx dy k some =
    subst (λ z. pos 0 <ℤ z) (sym (over m.x m.y m.d dx dy (pos (suc k))))
    (mul_positive (m.d *ℤ m.d) (dx *ℤ dx +ℤ dy *ℤ dy) (mul_positive m.d m.d m.whole m.whole) some)
  where
    along : (x d c e : ℤ) → x *ℤ (d *ℤ c) -ℤ (x *ℤ c +ℤ e) *ℤ d ≡ neg_ℤ (e *ℤ d)
    along x d c e = simp multiplied (omega (arith, signed))

    squares : (e f d : ℤ) → neg_ℤ (e *ℤ d) *ℤ neg_ℤ (e *ℤ d) +ℤ neg_ℤ (f *ℤ d) *ℤ neg_ℤ (f *ℤ d) ≡ (d *ℤ d) *ℤ (e *ℤ e +ℤ f *ℤ f)
    squares e f d = simp multiplied (omega (arith, signed))

    over : (x y d e f c : ℤ) →
        (x *ℤ (d *ℤ c) -ℤ (x *ℤ c +ℤ e) *ℤ d) *ℤ (x *ℤ (d *ℤ c) -ℤ (x *ℤ c +ℤ e) *ℤ d) +ℤ (y *ℤ (d *ℤ c) -ℤ (y *ℤ c +ℤ f) *ℤ d) *ℤ (y *ℤ (d *ℤ c) -ℤ (y *ℤ c +ℤ f) *ℤ d)
        ≡ (d *ℤ d) *ℤ (e *ℤ e +ℤ f *ℤ f)
    over x y d e f c = rw (along x d c e, along y d c f) (squares e f d)

-- ---- a number is a difference of two naturals
pub two_parts : (z : ℤ) → (a : ℕ) × (b : ℕ) × (z ≡ pos a -ℤ pos b)
two_parts (pos n) = (n, 0, omega (arith, ints))
two_parts (negsuc n) = (0, suc n, omega (arith, ints))

-- ---- a linear function that is above 0 at m, and nowhere on t
record Separates (m : RationalPoint) (t : Segment) : Type 0 where
  u : ℤ
  v : ℤ
  w : ℤ
  above : pos 0 <ℤ level u v w m
  none : (r : RationalPoint) → IsOn r t → level u v w r ≤ℤ pos 0

-- its own straight line, and the next one beyond an end
pub area_level : (ax ay bx by x y d : ℤ) → (bx -ℤ ax) *ℤ (y -ℤ ay *ℤ d) -ℤ (by -ℤ ay) *ℤ (x -ℤ ax *ℤ d) ≡ (ay -ℤ by) *ℤ x +ℤ (bx -ℤ ax) *ℤ y +ℤ ((by -ℤ ay) *ℤ ax -ℤ (bx -ℤ ax) *ℤ ay) *ℤ d
area_level ax ay bx by x y d = simp multiplied (omega (arith, signed))

by_left : (m : RationalPoint) (t : Segment) → pos 0 <ℤ area_at t.a t.b m → Separates m t
by_left m t h = record {
  u = t.a.y -ℤ t.b.y;
  v = t.b.x -ℤ t.a.x;
  w = (t.b.y -ℤ t.a.y) *ℤ t.a.x -ℤ (t.b.x -ℤ t.a.x) *ℤ t.a.y;
  above = subst (λ z. pos 0 <ℤ z) (area_level t.a.x t.a.y t.b.x t.b.y m.x m.y m.d) h;
  none = λ r on. none (area_at t.a t.b r) _ (area_level t.a.x t.a.y t.b.x t.b.y r.x r.y r.d) on.straight;
}
  where
    none : (a b : ℤ) → a ≡ b → a ≡ pos 0 → b ≤ℤ pos 0
    none a b e f = omega (arith, signed)

by_right : (m : RationalPoint) (t : Segment) → area_at t.a t.b m <ℤ pos 0 → Separates m t
by_right m t h = record {
  u = t.b.y -ℤ t.a.y;
  v = t.a.x -ℤ t.b.x;
  w = (t.b.x -ℤ t.a.x) *ℤ t.a.y -ℤ (t.b.y -ℤ t.a.y) *ℤ t.a.x;
  above = above (area_at t.a t.b m) _ (turned t.a.x t.a.y t.b.x t.b.y m.x m.y m.d) h;
  none = λ r on. none (area_at t.a t.b r) _ (turned t.a.x t.a.y t.b.x t.b.y r.x r.y r.d) on.straight;
}
  where
    turned : (ax ay bx by x y d : ℤ) → neg_ℤ ((bx -ℤ ax) *ℤ (y -ℤ ay *ℤ d) -ℤ (by -ℤ ay) *ℤ (x -ℤ ax *ℤ d)) ≡ (by -ℤ ay) *ℤ x +ℤ (ax -ℤ bx) *ℤ y +ℤ ((bx -ℤ ax) *ℤ ay -ℤ (by -ℤ ay) *ℤ ax) *ℤ d
    turned ax ay bx by x y d = simp multiplied (omega (arith, signed))

    above : (a b : ℤ) → neg_ℤ a ≡ b → a <ℤ pos 0 → pos 0 <ℤ b
    above a b e h = omega (arith, signed)

    none : (a b : ℤ) → neg_ℤ a ≡ b → a ≡ pos 0 → b ≤ℤ pos 0
    none a b e f = omega (arith, signed)

-- beyond an end along one axis: above both, or below both
data Beyond (a b x d : ℤ) : Type 0 where
  inside : IsBetween (a *ℤ d) x (b *ℤ d) → Beyond a b x d
  higher : (c : ℤ) → ((z e : ℤ) → pos 0 <ℤ e → IsBetween (a *ℤ e) z (b *ℤ e) → z ≤ℤ (c *ℤ e)) → (c *ℤ d) <ℤ x → Beyond a b x d
  lower : (c : ℤ) → ((z e : ℤ) → pos 0 <ℤ e → IsBetween (a *ℤ e) z (b *ℤ e) → (c *ℤ e) ≤ℤ z) → x <ℤ (c *ℤ d) → Beyond a b x d

swapped : (a m b : ℤ) → IsBetween a m b → IsBetween b m a
swapped a m b = ⊎_elim (λ (h : (a ≤ℤ m) × (m ≤ℤ b)). inr h) (λ (h : (b ≤ℤ m) × (m ≤ℤ a)). inl h)

beyond : (a b x d : ℤ) → Beyond a b x d
beyond a b x d = ⊎_elim (λ (h : a <ℤ b). upright (omega (arith, signed))) (λ (h : b ≤ℤ a). fallen h) (order a b)
  where
    upright : a ≤ℤ b → Beyond a b x d
    upright h =
        ⊎_elim
        (λ (g : x <ℤ (a *ℤ d)). lower a (λ z e k i. (upright_between a b z e k h i).0) g)
        (λ (g : (a *ℤ d) ≤ℤ x).
        ⊎_elim
        (λ (f : (b *ℤ d) <ℤ x). higher b (λ z e k i. (upright_between a b z e k h i).1) f)
        (λ (f : x ≤ℤ (b *ℤ d)). inside (inl (g, f)))
        (order (b *ℤ d) x))
        (order x (a *ℤ d))

    fallen : b ≤ℤ a → Beyond a b x d
    fallen h =
        ⊎_elim
        (λ (g : x <ℤ (b *ℤ d)). lower b (λ z e k i. (upright_between b a z e k h (swapped (a *ℤ e) z (b *ℤ e) i)).0) g)
        (λ (g : (b *ℤ d) ≤ℤ x).
        ⊎_elim
        (λ (f : (a *ℤ d) <ℤ x). higher a (λ z e k i. (upright_between b a z e k h (swapped (a *ℤ e) z (b *ℤ e) i)).1) f)
        (λ (f : x ≤ℤ (a *ℤ d)). inside (inr (g, f)))
        (order (a *ℤ d) x))
        (order x (b *ℤ d))

-- the levels of one coordinate
one_times : (a : ℤ) → pos 1 *ℤ a ≡ a
one_times a = mul_comm (pos 1) a ∙ times_one a

minus_times : (a : ℤ) → negsuc 0 *ℤ a ≡ neg_ℤ a
minus_times a = neg_mul (pos 1) a ∙ ap neg_ℤ (one_times a)

right_level : (x y d c : ℤ) → pos 1 *ℤ x +ℤ pos 0 *ℤ y +ℤ neg_ℤ c *ℤ d ≡ x -ℤ c *ℤ d
right_level x y d c = omega (arith, signed, one_times x, zero-*ℤ y, neg_mul c d)

left_level : (x y d c : ℤ) → negsuc 0 *ℤ x +ℤ pos 0 *ℤ y +ℤ c *ℤ d ≡ c *ℤ d -ℤ x
left_level x y d c = omega (arith, signed, minus_times x, zero-*ℤ y)

upper_level : (x y d c : ℤ) → pos 0 *ℤ x +ℤ pos 1 *ℤ y +ℤ neg_ℤ c *ℤ d ≡ y -ℤ c *ℤ d
upper_level x y d c = omega (arith, signed, one_times y, zero-*ℤ x, neg_mul c d)

lower_level : (x y d c : ℤ) → pos 0 *ℤ x +ℤ negsuc 0 *ℤ y +ℤ c *ℤ d ≡ c *ℤ d -ℤ y
lower_level x y d c = omega (arith, signed, minus_times y, zero-*ℤ x)

more : (z a b : ℤ) → z ≡ a -ℤ b → b <ℤ a → pos 0 <ℤ z
more z a b e h = omega (arith, signed)

no_more : (z a b : ℤ) → z ≡ a -ℤ b → a ≤ℤ b → z ≤ℤ pos 0
no_more z a b e h = omega (arith, signed)

-- m is on the segment, or this is on one side of a straight line that m is off
on_or_apart : (m : RationalPoint) (t : Segment) → IsOn m t ⊎ Separates m t
on_or_apart m t =
    by_area (order (pos 0) (area_at t.a t.b m)) (order (area_at t.a t.b m) (pos 0))
  where
    by_height : area_at t.a t.b m ≡ pos 0 → IsBetween (t.a.x *ℤ m.d) m.x (t.b.x *ℤ m.d) → Beyond t.a.y t.b.y m.y m.d → IsOn m t ⊎ Separates m t
    by_height e across (inside upward) = inl (record { straight = e; across = across; upward = upward })
    by_height e across (higher c all h) = inr (record {
      u = pos 0;
      v = pos 1;
      w = neg_ℤ c;
      above = more _ m.y (c *ℤ m.d) (upper_level m.x m.y m.d c) h;
      none = λ r on. no_more _ r.y (c *ℤ r.d) (upper_level r.x r.y r.d c) (all r.y r.d r.whole on.upward);
    })
    by_height e across (lower c all h) = inr (record {
      u = pos 0;
      v = negsuc 0;
      w = c;
      above = more _ (c *ℤ m.d) m.y (lower_level m.x m.y m.d c) h;
      none = λ r on. no_more _ (c *ℤ r.d) r.y (lower_level r.x r.y r.d c) (all r.y r.d r.whole on.upward);
    })

    by_width : area_at t.a t.b m ≡ pos 0 → Beyond t.a.x t.b.x m.x m.d → IsOn m t ⊎ Separates m t
    by_width e (inside across) = by_height e across (beyond t.a.y t.b.y m.y m.d)
    by_width e (higher c all h) = inr (record {
      u = pos 1;
      v = pos 0;
      w = neg_ℤ c;
      above = more _ m.x (c *ℤ m.d) (right_level m.x m.y m.d c) h;
      none = λ r on. no_more _ r.x (c *ℤ r.d) (right_level r.x r.y r.d c) (all r.x r.d r.whole on.across);
    })
    by_width e (lower c all h) = inr (record {
      u = negsuc 0;
      v = pos 0;
      w = c;
      above = more _ (c *ℤ m.d) m.x (left_level m.x m.y m.d c) h;
      none = λ r on. no_more _ (c *ℤ r.d) r.x (left_level r.x r.y r.d c) (all r.x r.d r.whole on.across);
    })

    by_area : (pos 0 <ℤ area_at t.a t.b m) ⊎ (area_at t.a t.b m ≤ℤ pos 0) → (area_at t.a t.b m <ℤ pos 0) ⊎ (pos 0 ≤ℤ area_at t.a t.b m) → IsOn m t ⊎ Separates m t
    by_area (inl h) g = inr (by_left m t h)
    by_area (inr h) (inl g) = inr (by_right m t g)
    by_area (inr h) (inr g) = by_width (omega (arith, signed)) (beyond t.a.x t.b.x m.x m.d)

-- ---- the way from a point that is near enough
-- near enough that the linear function is above 0 there too
near_enough : (l c : ℤ) (a b k : ℕ) → pos 0 <ℤ l → c ≡ pos a -ℤ pos b → b ≤ k → pos 0 <ℤ (pos (suc k) *ℤ l +ℤ c)
near_enough l c a b k h e f =
    let g = mul_le (pos 1) l (pos (suc k)) (omega (arith, signed)) (omega (arith, ints)) in
    let o = one_times (pos (suc k)) in
    let t = mul_comm l (pos (suc k)) in
    let n : (pos b <ℤ pos (suc k)) = omega (arith, ints) in
    let p : (pos 0 ≤ℤ pos a) = omega (arith, ints) in
    omega (arith, signed)

-- where m is not on t, the way from the k-th point near m misses it
abbrev pub Misses : RationalPoint → ℤ → ℤ → Segment → ℕ → Type 0
Misses m dx dy t k = (IsOn m t → ⊥) → (r : RationalPoint) → IsOnWay r (near m dx dy k) m → IsOn r t → ⊥

one_missed : (m : RationalPoint) (dx dy : ℤ) (t : Segment) → pos 0 <ℤ (dx *ℤ dx +ℤ dy *ℤ dy) → (b : ℕ) × ((k : ℕ) → b ≤ k → Misses m dx dy t k)
one_missed m dx dy t some = by_parts (on_or_apart m t)
  where
    never : (z : ℤ) → pos 0 <ℤ z → z ≤ℤ pos 0 → ⊥
    never z p q = omega (arith, signed)

    by_parts : IsOn m t ⊎ Separates m t → (b : ℕ) × ((k : ℕ) → b ≤ k → Misses m dx dy t k)
    by_parts (inl on) = (0, λ k le off. absurd (off on))
    by_parts (inr h) =
        let (a, b, e) = two_parts (h.u *ℤ dx +ℤ h.v *ℤ dy) in (
          b,
          λ k le off r way on.
              let q = near_enough (level h.u h.v h.w m) (h.u *ℤ dx +ℤ h.v *ℤ dy) a b k h.above e le in
              never (level h.u h.v h.w r)
              (above_on_way r (near m dx dy k) m h.u h.v h.w (square_near m dx dy k some) way (subst (λ z. pos 0 <ℤ z) (sym (level_near h.u h.v h.w m dx dy k)) q) h.above)
              (h.none r on),
        )

-- and so does one way miss all of a list
pub all_missed : {A : Type 0} (f : A → Segment) (xs : List A) (m : RationalPoint) (dx dy : ℤ) → pos 0 <ℤ (dx *ℤ dx +ℤ dy *ℤ dy) →
    (b : ℕ) × ((k : ℕ) → b ≤ k → (x : A) → Contains xs x → Misses m dx dy (f x) k)
all_missed f [] m dx dy some = (0, λ k le x c. absurd (contains_none x c))
all_missed f (y ∷ xs) m dx dy some =
    let (b, first) = one_missed m dx dy (f y) some in
    let (c, rest) = all_missed f xs m dx dy some in (
      b + c,
      λ k le x there.
          ⊎_elim
          (λ (e : y ≡ x). subst (λ z. Misses m dx dy (f z) k) e (first k (omega (arith, le))))
          (λ (d : Contains xs x). rest k (omega (arith, le)) x d)
          (contains_cases x y xs there),
    )

-- ---- a point inside a segment that is no point of the grid
abbrev pub part : Segment → ℕ → RationalPoint
part s k = record {
  x = s.a.x *ℤ pos (suc k) +ℤ (s.b.x -ℤ s.a.x);
  y = s.a.y *ℤ pos (suc k) +ℤ (s.b.y -ℤ s.a.y);
  d = pos (suc k);
  whole = positive_suc k;
}

on_part : (s : Segment) (k : ℕ) → IsOn (part s k) s
on_part s k = record {
  straight = none s.a.x s.a.y (s.b.x -ℤ s.a.x) (s.b.y -ℤ s.a.y) (pos (suc k));
  across = along s.a.x s.b.x;
  upward = along s.a.y s.b.y;
}
  where
    none : (x y e f c : ℤ) → e *ℤ ((y *ℤ c +ℤ f) -ℤ y *ℤ c) -ℤ f *ℤ ((x *ℤ c +ℤ e) -ℤ x *ℤ c) ≡ pos 0
    none x y e f c = simp multiplied (omega (arith, signed))

    one : pos 1 ≤ℤ pos (suc k)
    one = omega (arith, ints)

    times : (a b c : ℤ) → c *ℤ (b -ℤ a) ≡ b *ℤ c -ℤ a *ℤ c
    times a b c = simp multiplied

    along : (a b : ℤ) → IsBetween (a *ℤ pos (suc k)) (a *ℤ pos (suc k) +ℤ (b -ℤ a)) (b *ℤ pos (suc k))
    along a b =
        ⊎_elim
        (λ (h : a <ℤ b).
        let g = mul_le (pos 1) (pos (suc k)) (b -ℤ a) one (omega (arith, signed)) in
        inl (omega (arith, signed), omega (arith, signed, one_times (b -ℤ a), times a b (pos (suc k)))))
        (λ (h : b ≤ℤ a).
        let g = mul_le (pos 1) (pos (suc k)) (a -ℤ b) one (omega (arith, signed)) in
        inr (omega (arith, signed, one_times (a -ℤ b), times b a (pos (suc k))), omega (arith, signed)))
        (order a b)

-- a whole number of parts of the denominator that is less than one is none
less_than_one : (x a e d : ℤ) → e <ℤ d → neg_ℤ d <ℤ e → a *ℤ d +ℤ e ≡ x *ℤ d → e ≡ pos 0
less_than_one x a e d h g f = by_order (order a x) (order x a)
  where
    none : pos 0 ≤ℤ d
    none = omega (arith, signed)

    times : (x a : ℤ) → (x -ℤ a) *ℤ d ≡ x *ℤ d -ℤ a *ℤ d
    times x a = simp multiplied

    by_order : (a <ℤ x) ⊎ (x ≤ℤ a) → (x <ℤ a) ⊎ (a ≤ℤ x) → e ≡ pos 0
    by_order (inl l) o = let w = mul_le (pos 1) (x -ℤ a) d (omega (arith, signed)) none in absurd (omega (arith, signed, one_times d, times x a))
    by_order (inr l) (inl k) = let w = mul_le (pos 1) (a -ℤ x) d (omega (arith, signed)) none in absurd (omega (arith, signed, one_times d, times a x))
    by_order (inr l) (inr k) = let same : x ≡ a = omega (arith, signed) in let r = rw same at f in omega (arith, signed)

pub record IsOffGrid (s : Segment) (m : RationalPoint) : Type 0 where
  pub on : IsOn m s
  pub off : (p : Point) → IsAt p m → ⊥

pub off_grid : (s : Segment) → s.a ≢ s.b → (m : RationalPoint) × IsOffGrid s m
off_grid s n =
    let (a, b, e) = two_parts (s.b.x -ℤ s.a.x) in
    let (c, d, f) = two_parts (s.b.y -ℤ s.a.y) in
    let k = a + b + c + d in (
      part s k,
      record {
        on = on_part s k;
        off = λ p at.
            let x = less_than_one p.x s.a.x (s.b.x -ℤ s.a.x) (pos (suc k)) (below (s.b.x -ℤ s.a.x) a b k e (omega arith)) (above (s.b.x -ℤ s.a.x) a b k e (omega arith)) at.0 in
            let y = less_than_one p.y s.a.y (s.b.y -ℤ s.a.y) (pos (suc k)) (below (s.b.y -ℤ s.a.y) c d k f (omega arith)) (above (s.b.y -ℤ s.a.y) c d k f (omega arith)) at.1 in
            let fx = flat s.a.x s.b.x x in
            let fy = flat s.a.y s.b.y y in
            n (λ i. record { x = fx i; y = fy i });
      },
    )
  where
    below : (z : ℤ) (a b k : ℕ) → z ≡ pos a -ℤ pos b → a + b ≤ k → z <ℤ pos (suc k)
    below z a b k e h = omega (arith, ints)

    above : (z : ℤ) (a b k : ℕ) → z ≡ pos a -ℤ pos b → a + b ≤ k → neg_ℤ (pos (suc k)) <ℤ z
    above z a b k e h = omega (arith, ints)

    flat : (x y : ℤ) → y -ℤ x ≡ pos 0 → x ≡ y
    flat x y e = omega (arith, signed)
