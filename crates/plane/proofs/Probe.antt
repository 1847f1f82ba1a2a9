-- What a probe that meets no edge leaves as it is.
use Rattle.std.proofs.Common.{◌≡◌, ◌≢◌, sym, ◌∙◌, arith, ℤ, pos, ◌+ℤ◌, ◌-ℤ◌, ◌*ℤ◌, ◌<ℤ◌, ◌≤ℤ◌, inl, inr, ⊎_elim, true, false}
use Rattle.std.specs.Prelude.{neg_ℤ}
use Rattle.std.specs.Int.RustNames.{int_lt}
use Rattle.std.proofs.lemmas.Int.{ints, by_lt_z}
use Rattle.plane.proofs.Diff.{diff-same}
use Rattle.plane.proofs.Ring.{multiplied, signed, mul_comm}
use Rattle.plane.proofs.Wide.{summed}
use Rattle.plane.proofs.Signs.{mul_not_negative, mul_positive, order}
use Rattle.plane.proofs.Crossing.{crossing, areas, turn_is}
use Rattle.plane.specs.Segment.{Segment}
use Rattle.plane.specs.Orientation.{area}
use Rattle.plane.specs.Relation.{turn, AreApart}

-- the height of t above s at the ends of t, by that at the ends of s
pub pull_start : (s t : Segment) →
    area t.a t.b s.a *ℤ (s.b.x -ℤ t.a.x) +ℤ area t.a t.b s.b *ℤ (t.a.x -ℤ s.a.x) ≡ (t.b.x -ℤ t.a.x) *ℤ neg_ℤ (area s.a s.b t.a)
pull_start s t = simp multiplied (simp summed (diff-same _ _ _ _ (omega arith)))

pub pull_finish : (s t : Segment) →
    area t.a t.b s.a *ℤ (s.b.x -ℤ t.b.x) +ℤ area t.a t.b s.b *ℤ (t.b.x -ℤ s.a.x) ≡ (t.b.x -ℤ t.a.x) *ℤ neg_ℤ (area s.a s.b t.b)
pull_finish s t = simp multiplied (simp summed (diff-same _ _ _ _ (omega arith)))

-- ---- signs
pub plus_minus : (a b : ℤ) → pos 0 ≤ℤ a → b ≤ℤ pos 0 → (a *ℤ b) ≤ℤ pos 0
plus_minus a b h k = let w = simp multiplied at (mul_not_negative a (neg_ℤ b) h (omega (arith, signed))) in omega (arith, signed)

pub minus_plus : (a b : ℤ) → a ≤ℤ pos 0 → pos 0 ≤ℤ b → (a *ℤ b) ≤ℤ pos 0
minus_plus a b h k = let w = simp multiplied at (mul_not_negative (neg_ℤ a) b (omega (arith, signed)) k) in omega (arith, signed)

pub minus_minus : (a b : ℤ) → a ≤ℤ pos 0 → b ≤ℤ pos 0 → pos 0 ≤ℤ (a *ℤ b)
minus_minus a b h k = let w = simp multiplied at (mul_not_negative (neg_ℤ a) (neg_ℤ b) (omega (arith, signed)) (omega (arith, signed))) in omega (arith, signed)

pub factor_positive : (a b : ℤ) → pos 0 <ℤ a → pos 0 <ℤ (a *ℤ b) → pos 0 <ℤ b
factor_positive a b ha h =
    ⊎_elim
    (λ (g : pos 0 <ℤ b). g)
    (λ (g : b ≤ℤ pos 0). let k : pos 0 ≤ℤ a = omega (arith, signed) in let w = plus_minus a b k g in absurd (omega (arith, signed)))
    (order (pos 0) b)

pub factor_not_positive : (a b : ℤ) → pos 0 <ℤ a → (a *ℤ b) ≤ℤ pos 0 → b ≤ℤ pos 0
factor_not_positive a b ha h =
    ⊎_elim
    (λ (g : pos 0 <ℤ b). let w = mul_positive a b ha g in absurd (omega (arith, signed)))
    (λ (g : b ≤ℤ pos 0). g)
    (order (pos 0) b)

-- s goes from above t, or from its line, to below it, and t the other way
down_through : (s t : Segment) → AreApart s t → pos 0 <ℤ area t.a t.b s.a → area t.a t.b s.b ≤ℤ pos 0 → area s.a s.b t.a ≤ℤ pos 0 → pos 0 ≤ℤ area s.a s.b t.b → ⊥
down_through s t clear h k l m =
    let e = areas s t in
    let f = turn_is s t in
    let n : turn s t ≢ pos 0 = turns (area t.a t.b s.a) (area t.a t.b s.b) (area s.a s.b t.a) (area s.a s.b t.b) (turn s t) e f h k in
    let c = crossing s t n (inr (omega (arith, signed), k), inl (l, m)) in
    clear c.0 c.1
  where
    turns : (p0 p1 r0 r1 w : ℤ) → p1 -ℤ p0 ≡ r0 -ℤ r1 → r1 -ℤ r0 ≡ w → pos 0 <ℤ p0 → p1 ≤ℤ pos 0 → w ≢ pos 0
    turns p0 p1 r0 r1 w e f h k = omega (arith, signed)

up_through : (s t : Segment) → AreApart s t → area t.a t.b s.a ≤ℤ pos 0 → pos 0 <ℤ area t.a t.b s.b → pos 0 ≤ℤ area s.a s.b t.a → area s.a s.b t.b ≤ℤ pos 0 → ⊥
up_through s t clear h k l m =
    let e = areas s t in
    let f = turn_is s t in
    let n : turn s t ≢ pos 0 = turns (area t.a t.b s.a) (area t.a t.b s.b) (area s.a s.b t.a) (area s.a s.b t.b) (turn s t) e f h k in
    let c = crossing s t n (inl (h, omega (arith, signed)), inr (l, m)) in
    clear c.0 c.1
  where
    turns : (p0 p1 r0 r1 w : ℤ) → p1 -ℤ p0 ≡ r0 -ℤ r1 → r1 -ℤ r0 ≡ w → p0 ≤ℤ pos 0 → pos 0 <ℤ p1 → w ≢ pos 0
    turns p0 p1 r0 r1 w e f h k = omega (arith, signed)

pub factor_not_negative : (a b : ℤ) → pos 0 <ℤ a → pos 0 ≤ℤ (a *ℤ b) → pos 0 ≤ℤ b
factor_not_negative a b ha h =
    ⊎_elim
    (λ (g : b <ℤ pos 0). let w = simp multiplied at (mul_positive a (neg_ℤ b) ha (omega (arith, signed))) in absurd (omega (arith, signed)))
    (λ (g : pos 0 ≤ℤ b). g)
    (order b (pos 0))

pub factor_first : (a b : ℤ) → pos 0 <ℤ b → pos 0 <ℤ (a *ℤ b) → pos 0 <ℤ a
factor_first a b h k = factor_positive b a h (rw (mul_comm b a) k)

factor_first_not : (a b : ℤ) → pos 0 <ℤ b → (a *ℤ b) ≤ℤ pos 0 → a ≤ℤ pos 0
factor_first_not a b h k = factor_not_positive b a h (rw (mul_comm b a) k)

-- ---- four values of one height that grows evenly: p and r at the ends of s, u and v at those of t, each times the other's width
-- t starts over s and ends after it
begin_down : (p r u v w l m n k : ℤ) → p *ℤ l +ℤ r *ℤ m ≡ w *ℤ u → p *ℤ n +ℤ r *ℤ k ≡ w *ℤ v →
    pos 0 <ℤ w → pos 0 <ℤ l → pos 0 ≤ℤ m → n ≤ℤ pos 0 → pos 0 <ℤ k → pos 0 <ℤ u → r ≤ℤ pos 0 → (pos 0 <ℤ p) × (v ≤ℤ pos 0)
begin_down p r u v w l m n k i j hw hl hm hn hk hu hr =
    let a = minus_plus r m hr hm in
    let b = mul_positive w u hw hu in
    let hp : pos 0 <ℤ p = factor_first p l hl (omega (arith, signed)) in
    let hp' : pos 0 ≤ℤ p = omega (arith, signed) in
    let c = plus_minus p n hp' hn in
    let hk' : pos 0 ≤ℤ k = omega (arith, signed) in
    let d = minus_plus r k hr hk' in
    (hp, factor_not_positive w v hw (omega (arith, signed)))

begin_up : (p r u v w l m n k : ℤ) → p *ℤ l +ℤ r *ℤ m ≡ w *ℤ u → p *ℤ n +ℤ r *ℤ k ≡ w *ℤ v →
    pos 0 <ℤ w → pos 0 <ℤ l → pos 0 ≤ℤ m → n ≤ℤ pos 0 → pos 0 <ℤ k → u ≤ℤ pos 0 → pos 0 <ℤ r → (p ≤ℤ pos 0) × (pos 0 <ℤ v)
begin_up p r u v w l m n k i j hw hl hm hn hk hu hr =
    let hw' : pos 0 ≤ℤ w = omega (arith, signed) in
    let hr' : pos 0 ≤ℤ r = omega (arith, signed) in
    let a = mul_not_negative r m hr' hm in
    let b = plus_minus w u hw' hu in
    let hp : p ≤ℤ pos 0 = factor_first_not p l hl (omega (arith, signed)) in
    let c = minus_minus p n hp hn in
    let d = mul_positive r k hr hk in
    (hp, factor_positive w v hw (omega (arith, signed)))

-- t starts before s and ends after it
cover_down : (p r u v w l m n k : ℤ) → p *ℤ l +ℤ r *ℤ m ≡ w *ℤ u → p *ℤ n +ℤ r *ℤ k ≡ w *ℤ v →
    pos 0 <ℤ w → pos 0 <ℤ l → m ≤ℤ pos 0 → n ≤ℤ pos 0 → pos 0 ≤ℤ k → pos 0 <ℤ p → r ≤ℤ pos 0 → (pos 0 <ℤ u) × (v ≤ℤ pos 0)
cover_down p r u v w l m n k i j hw hl hm hn hk hp hr =
    let a = mul_positive p l hp hl in
    let b = minus_minus r m hr hm in
    let hp' : pos 0 ≤ℤ p = omega (arith, signed) in
    let c = plus_minus p n hp' hn in
    let d = minus_plus r k hr hk in
    (factor_positive w u hw (omega (arith, signed)), factor_not_positive w v hw (omega (arith, signed)))

cover_up : (p r u v w l m n k : ℤ) → p *ℤ l +ℤ r *ℤ m ≡ w *ℤ u → p *ℤ n +ℤ r *ℤ k ≡ w *ℤ v →
    pos 0 <ℤ w → pos 0 <ℤ l → m ≤ℤ pos 0 → n ≤ℤ pos 0 → pos 0 ≤ℤ k → p ≤ℤ pos 0 → pos 0 <ℤ r → (u ≤ℤ pos 0) × (pos 0 ≤ℤ v)
cover_up p r u v w l m n k i j hw hl hm hn hk hp hr =
    let hl' : pos 0 ≤ℤ l = omega (arith, signed) in
    let hr' : pos 0 ≤ℤ r = omega (arith, signed) in
    let a = minus_plus p l hp hl' in
    let b = plus_minus r m hr' hm in
    let c = minus_minus p n hp hn in
    let d = mul_not_negative r k hr' hk in
    (factor_not_positive w u hw (omega (arith, signed)), factor_not_negative w v hw (omega (arith, signed)))

-- t starts before s and ends over it
end_up : (p r u v w l m n k : ℤ) → p *ℤ l +ℤ r *ℤ m ≡ w *ℤ u → p *ℤ n +ℤ r *ℤ k ≡ w *ℤ v →
    pos 0 <ℤ w → pos 0 <ℤ l → m ≤ℤ pos 0 → pos 0 <ℤ n → pos 0 ≤ℤ k → p ≤ℤ pos 0 → pos 0 <ℤ v → (pos 0 <ℤ r) × (u ≤ℤ pos 0)
end_up p r u v w l m n k i j hw hl hm hn hk hp hv =
    let hn' : pos 0 ≤ℤ n = omega (arith, signed) in
    let a = minus_plus p n hp hn' in
    let b = mul_positive w v hw hv in
    let hr : pos 0 <ℤ r =
    ⊎_elim
    (λ (g : pos 0 <ℤ r). g)
    (λ (g : r ≤ℤ pos 0). let e = minus_plus r k g hk in absurd (omega (arith, signed)))
    (order (pos 0) r)
    in
    let hr' : pos 0 ≤ℤ r = omega (arith, signed) in
    let hl' : pos 0 ≤ℤ l = omega (arith, signed) in
    let c = minus_plus p l hp hl' in
    let d = plus_minus r m hr' hm in
    (hr, factor_not_positive w u hw (omega (arith, signed)))

end_down : (p r u v w l m n k : ℤ) → p *ℤ l +ℤ r *ℤ m ≡ w *ℤ u → p *ℤ n +ℤ r *ℤ k ≡ w *ℤ v →
    pos 0 <ℤ w → pos 0 <ℤ l → m ≤ℤ pos 0 → pos 0 <ℤ n → pos 0 ≤ℤ k → pos 0 <ℤ p → v ≤ℤ pos 0 → (r ≤ℤ pos 0) × (pos 0 <ℤ u)
end_down p r u v w l m n k i j hw hl hm hn hk hp hv =
    let hw' : pos 0 ≤ℤ w = omega (arith, signed) in
    let a = mul_positive p n hp hn in
    let b = plus_minus w v hw' hv in
    let hr : r ≤ℤ pos 0 =
    ⊎_elim
    (λ (g : pos 0 <ℤ r). let g' : pos 0 ≤ℤ r = omega (arith, signed) in let e = mul_not_negative r k g' hk in absurd (omega (arith, signed)))
    (λ (g : r ≤ℤ pos 0). g)
    (order (pos 0) r)
    in
    let c = mul_positive p l hp hl in
    let d = minus_minus r m hr hm in
    (hr, factor_positive w u hw (omega (arith, signed)))

pub test_same : (x y z w : ℤ) → (x <ℤ y → w ≤ℤ z → ⊥) → (y ≤ℤ x → z <ℤ w → ⊥) → int_lt x y ≡ int_lt z w
test_same x y z w f g =
    by_lt_z x y
    (λ h. by_lt_z z w (λ k. tests_true x y z w h k) (λ k. absurd (f h k)))
    (λ h. by_lt_z z w (λ k. absurd (g h k)) (λ k. tests_false x y z w h k))
  where
    tests_true : (x y z w : ℤ) → x <ℤ y → z <ℤ w → int_lt x y ≡ int_lt z w
    tests_true x y z w h k = let a : true ≡ int_lt x y = omega (arith, ints) in let b : true ≡ int_lt z w = omega (arith, ints) in sym a ∙ b

    tests_false : (x y z w : ℤ) → y ≤ℤ x → w ≤ℤ z → int_lt x y ≡ int_lt z w
    tests_false x y z w h k = let a : false ≡ int_lt x y = omega (arith, ints) in let b : false ≡ int_lt z w = omega (arith, ints) in sym a ∙ b

-- the numbers of s and t, and what they may not be
record Heights (p r u v w l m n k : ℤ) : Type 0 where
  start : p *ℤ l +ℤ r *ℤ m ≡ w *ℤ neg_ℤ u
  finish : p *ℤ n +ℤ r *ℤ k ≡ w *ℤ neg_ℤ v
  down : pos 0 <ℤ p → r ≤ℤ pos 0 → u ≤ℤ pos 0 → pos 0 ≤ℤ v → ⊥
  up : p ≤ℤ pos 0 → pos 0 <ℤ r → pos 0 ≤ℤ u → v ≤ℤ pos 0 → ⊥

heights : (s t : Segment) → AreApart s t → Heights (area t.a t.b s.a) (area t.a t.b s.b) (area s.a s.b t.a) (area s.a s.b t.b)
    (t.b.x -ℤ t.a.x) (s.b.x -ℤ t.a.x) (t.a.x -ℤ s.a.x) (s.b.x -ℤ t.b.x) (t.b.x -ℤ s.a.x)
heights s t clear = record {
  start = pull_start s t;
  finish = pull_finish s t;
  down = down_through s t clear;
  up = up_through s t clear;
}

by_begin : (p r u v w l m n k : ℤ) → Heights p r u v w l m n k →
    pos 0 <ℤ w → pos 0 <ℤ l → pos 0 ≤ℤ m → n ≤ℤ pos 0 → pos 0 <ℤ k → int_lt u (pos 0) ≡ int_lt (pos 0) r
by_begin p r u v w l m n k h hw hl hm hn hk =
    test_same u (pos 0) (pos 0) r
    (λ hu hr. let e = begin_down p r (neg_ℤ u) (neg_ℤ v) w l m n k h.start h.finish hw hl hm hn hk (omega (arith, signed)) hr in h.down e.0 hr (omega (arith, signed)) (omega (arith, signed)))
    (λ hu hr. let e = begin_up p r (neg_ℤ u) (neg_ℤ v) w l m n k h.start h.finish hw hl hm hn hk (omega (arith, signed)) hr in h.up e.0 hr hu (omega (arith, signed)))

by_end : (p r u v w l m n k : ℤ) → Heights p r u v w l m n k →
    pos 0 <ℤ w → pos 0 <ℤ l → m ≤ℤ pos 0 → pos 0 <ℤ n → pos 0 ≤ℤ k → int_lt v (pos 0) ≡ int_lt (pos 0) p
by_end p r u v w l m n k h hw hl hm hn hk =
    test_same v (pos 0) (pos 0) p
    (λ hv hp. let e = end_up p r (neg_ℤ u) (neg_ℤ v) w l m n k h.start h.finish hw hl hm hn hk hp (omega (arith, signed)) in h.up hp e.0 (omega (arith, signed)) (omega (arith, signed)))
    (λ hv hp. let e = end_down p r (neg_ℤ u) (neg_ℤ v) w l m n k h.start h.finish hw hl hm hn hk hp (omega (arith, signed)) in h.down hp e.0 (omega (arith, signed)) hv)

by_cover : (p r u v w l m n k : ℤ) → Heights p r u v w l m n k →
    pos 0 <ℤ w → pos 0 <ℤ l → m ≤ℤ pos 0 → n ≤ℤ pos 0 → pos 0 ≤ℤ k → int_lt (pos 0) p ≡ int_lt (pos 0) r
by_cover p r u v w l m n k h hw hl hm hn hk =
    test_same (pos 0) p (pos 0) r
    (λ hp hr. let e = cover_down p r (neg_ℤ u) (neg_ℤ v) w l m n k h.start h.finish hw hl hm hn hk hp hr in h.down hp hr (omega (arith, signed)) (omega (arith, signed)))
    (λ hp hr. let e = cover_up p r (neg_ℤ u) (neg_ℤ v) w l m n k h.start h.finish hw hl hm hn hk hp hr in h.up hp hr (omega (arith, signed)) (omega (arith, signed)))

pub negated : (p r u w l m : ℤ) → p *ℤ l +ℤ r *ℤ m ≡ w *ℤ neg_ℤ u → neg_ℤ p *ℤ l +ℤ neg_ℤ r *ℤ m ≡ w *ℤ u
negated p r u w l m e = let f = simp multiplied at e in simp multiplied (omega (arith, signed))

-- here u and v are the heights of s and t changed round
cover_over : (p r u v w l m n k : ℤ) → p *ℤ l +ℤ r *ℤ m ≡ w *ℤ u → p *ℤ n +ℤ r *ℤ k ≡ w *ℤ v →
    pos 0 <ℤ w → pos 0 <ℤ l → m ≤ℤ pos 0 → n ≤ℤ pos 0 → pos 0 <ℤ k → p ≤ℤ pos 0 → pos 0 <ℤ r → (u ≤ℤ pos 0) × (pos 0 <ℤ v)
cover_over p r u v w l m n k i j hw hl hm hn hk hp hr =
    let hk' : pos 0 ≤ℤ k = omega (arith, signed) in
    let e = cover_up p r u v w l m n k i j hw hl hm hn hk' hp hr in
    let c = minus_minus p n hp hn in
    let d = mul_positive r k hr hk in
    (e.0, factor_positive w v hw (omega (arith, signed)))

by_inside : (p r u v w l m n k : ℤ) → p *ℤ l +ℤ r *ℤ m ≡ w *ℤ neg_ℤ u → p *ℤ n +ℤ r *ℤ k ≡ w *ℤ neg_ℤ v →
    (pos 0 <ℤ u → v ≤ℤ pos 0 → p ≤ℤ pos 0 → pos 0 ≤ℤ r → ⊥) → (u ≤ℤ pos 0 → pos 0 <ℤ v → pos 0 ≤ℤ p → r ≤ℤ pos 0 → ⊥) →
    pos 0 <ℤ w → pos 0 <ℤ l → m ≤ℤ pos 0 → n ≤ℤ pos 0 → pos 0 <ℤ k → int_lt p (pos 0) ≡ int_lt r (pos 0)
by_inside p r u v w l m n k i j down up hw hl hm hn hk =
    let i' = negated p r u w l m i in
    let j' = negated p r v w n k j in
    test_same p (pos 0) r (pos 0)
    (λ hp hr. let hk' : pos 0 ≤ℤ k = omega (arith, signed) in let e = cover_down (neg_ℤ p) (neg_ℤ r) u v w l m n k i' j' hw hl hm hn hk' (omega (arith, signed)) (omega (arith, signed)) in down e.0 e.1 (omega (arith, signed)) hr)
    (λ hp hr. let e = cover_over (neg_ℤ p) (neg_ℤ r) u v w l m n k i' j' hw hl hm hn hk (omega (arith, signed)) (omega (arith, signed)) in up e.0 e.1 hp (omega (arith, signed)))

-- both from left to right
pub record Both (s t : Segment) : Type 0 where
  pub clear : AreApart s t
  pub edge : s.a.x ≤ℤ s.b.x
  pub probe : t.a.x <ℤ t.b.x

pub case_begin : (s t : Segment) → Both s t → s.a.x ≤ℤ t.a.x → t.a.x <ℤ s.b.x → s.b.x ≤ℤ t.b.x →
    int_lt (area s.a s.b t.a) (pos 0) ≡ int_lt (pos 0) (area t.a t.b s.b)
case_begin s t b h k l =
    let d = b.probe in
    by_begin _ _ _ _ _ _ _ _ _ (heights s t b.clear) (omega (arith, signed)) (omega (arith, signed)) (omega (arith, signed)) (omega (arith, signed)) (omega (arith, signed))

pub case_end : (s t : Segment) → Both s t → t.a.x <ℤ s.a.x → s.a.x ≤ℤ t.b.x → t.b.x <ℤ s.b.x →
    int_lt (area s.a s.b t.b) (pos 0) ≡ int_lt (pos 0) (area t.a t.b s.a)
case_end s t b h k l =
    let d = b.probe in
    let e = b.edge in
    by_end _ _ _ _ _ _ _ _ _ (heights s t b.clear) (omega (arith, signed)) (omega (arith, signed)) (omega (arith, signed)) (omega (arith, signed)) (omega (arith, signed))

pub case_cover : (s t : Segment) → Both s t → t.a.x <ℤ s.a.x → s.b.x ≤ℤ t.b.x →
    int_lt (pos 0) (area t.a t.b s.a) ≡ int_lt (pos 0) (area t.a t.b s.b)
case_cover s t b h k =
    let d = b.probe in
    let e = b.edge in
    by_cover _ _ _ _ _ _ _ _ _ (heights s t b.clear) (omega (arith, signed)) (omega (arith, signed)) (omega (arith, signed)) (omega (arith, signed)) (omega (arith, signed))

pub case_inside : (s t : Segment) → Both s t → s.a.x ≤ℤ t.a.x → t.b.x <ℤ s.b.x →
    int_lt (area s.a s.b t.a) (pos 0) ≡ int_lt (area s.a s.b t.b) (pos 0)
case_inside s t b h k =
    let d = b.probe in
    let e = b.edge in
    by_inside (area s.a s.b t.a) (area s.a s.b t.b) (area t.a t.b s.a) (area t.a t.b s.b) (s.b.x -ℤ s.a.x) (t.b.x -ℤ s.a.x) (s.a.x -ℤ t.a.x) (t.b.x -ℤ s.b.x) (s.b.x -ℤ t.a.x)
    (pull_start t s) (pull_finish t s) (down_through s t b.clear) (up_through s t b.clear)
    (omega (arith, signed)) (omega (arith, signed)) (omega (arith, signed)) (omega (arith, signed)) (omega (arith, signed))
