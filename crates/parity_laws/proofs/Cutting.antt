-- A step cut in two: every parity stays.
use Rattle.std.proofs.Common.{◌≡◌, ◌≢◌, refl, sym, ◌∙◌, ap, arith, ℤ, pos, ◌-ℤ◌, ◌*ℤ◌, ◌<ℤ◌, ◌≤ℤ◌, inl, inr, ⊎_elim, Bool, true, false, not, cond, ◌&&◌, List, [], ◌∷◌}
use Rattle.std.specs.Prelude.{neg_ℤ, int_lt}
use Rattle.std.proofs.Math.IntN.{*ℤ-zero, zero-*ℤ}
use Rattle.plane.proofs.Diff.{diff-same}
use Rattle.plane.proofs.Wide.{summed}
use Rattle.plane.proofs.Ring.{multiplied, signed, mul_comm}
use Rattle.plane.proofs.Signs.{order, mul_positive, mul_not_negative, no_zero_divisor}
use Rattle.plane.proofs.Probe.{test_same}
use Rattle.plane.proofs.Chain.{nothing}
use Rattle.topo_base.specs.Point.{Point, same_point}
use Rattle.plane.specs.Segment.{Segment}
use Rattle.topo_base.specs.RationalPoint.{IsBetween}
use Rattle.plane.specs.Orientation.{area}
use Rattle.plane.specs.Crossings.{over, back, crosses}
use Rattle.plane.specs.Parity.{xor}
use Rattle.plane.specs.Direction.{Direction, cross}
use Rattle.parity_laws.specs.Steps.{direction, before, leaves_before, odd, Each, Even, above, turned, left}
use Rattle.parity_laws.specs.Cuts.{Inner, first_part, last_part, parts, cut}
use Rattle.parity_laws.proofs.Sums.{xor_none, xor_comm, odd_append, odd_each, summing, xor_between}
use Rattle.parity_laws.proofs.Tests.{same_not, crossed_turned, exact_is, zero_neg, area_back}
use Rattle.parity_laws.proofs.Gap.{seg}
use Rattle.plane.proofs.Tests.{lt_yes, lt_no, yes_lt, no_lt}

-- ---- a list with each s cut
cut_keeps : (f : Segment → Bool) (s : Segment) (m : Point) → f s ≡ xor (f (first_part s m)) (f (last_part s m)) → f (back s) ≡ xor (f (first_part (back s) m)) (f (last_part (back s) m)) →
    (X : List Segment) → odd f (cut s m X) ≡ odd f X
cut_keeps f s m e g [] = refl
cut_keeps f s m e g (t ∷ X) = odd_append f (parts s m t) (cut s m X) ∙ cc (one, cut_keeps f s m e g X)
  where
    two : (t : Segment) (c : Bool) → (c ≡ true → f t ≡ xor (f (first_part (back s) m)) (f (last_part (back s) m))) →
        odd f (cond c (first_part (back s) m ∷ last_part (back s) m ∷ []) (t ∷ [])) ≡ f t
    two t true h = sym (h refl ∙ ap (xor (f (first_part (back s) m))) (sym (xor_none (f (last_part (back s) m)))))
    two t false h = xor_none (f t)

    both : (t : Segment) (b c : Bool) → (b ≡ true → f t ≡ xor (f (first_part s m)) (f (last_part s m))) → (c ≡ true → f t ≡ xor (f (first_part (back s) m)) (f (last_part (back s) m))) →
        odd f (cond b (first_part s m ∷ last_part s m ∷ []) (cond c (first_part (back s) m ∷ last_part (back s) m ∷ []) (t ∷ []))) ≡ f t
    both t true c h k = sym (h refl ∙ ap (xor (f (first_part s m))) (sym (xor_none (f (last_part s m)))))
    both t false c h k = two t c k

    one : odd f (parts s m t) ≡ f t
    one = both t (same_point t.a s.a && same_point t.b s.b) (same_point t.a s.b && same_point t.b s.a) (λ h. ap f (sym (exact_is s t h)) ∙ e) (λ h. ap f (sym (exact_is (back s) t h)) ∙ g)

-- ---- crossings
times_same : (k l x y : ℤ) → pos 0 <ℤ k → pos 0 <ℤ l → k *ℤ x ≡ l *ℤ y → int_lt x (pos 0) ≡ int_lt y (pos 0)
times_same k l x y hk hl e =
    let hk' : pos 0 ≤ℤ k = omega (arith, signed) in
    let hl' : pos 0 ≤ℤ l = omega (arith, signed) in
    test_same x (pos 0) y (pos 0)
    (λ f g. let a = simp multiplied at (mul_positive k (neg_ℤ x) hk (omega (arith, signed))) in let b = mul_not_negative l y hl' g in omega (arith, signed))
    (λ f g. let a = mul_not_negative k x hk' f in let b = simp multiplied at (mul_positive l (neg_ℤ y) hl (omega (arith, signed))) in omega (arith, signed))

first_area : (a b m q : Point) → (b.x -ℤ a.x) *ℤ area a m q ≡ (m.x -ℤ a.x) *ℤ area a b q -ℤ (q.x -ℤ a.x) *ℤ area a b m
first_area a b m q = simp multiplied (simp summed (diff-same _ _ _ _ (omega arith)))

last_area : (a b m q : Point) → (b.x -ℤ a.x) *ℤ area m b q ≡ (b.x -ℤ m.x) *ℤ area a b q -ℤ (b.x -ℤ q.x) *ℤ area a b m
last_area a b m q = simp multiplied (simp summed (diff-same _ _ _ _ (omega arith)))

no_rest : (x y k z : ℤ) → x ≡ y -ℤ k *ℤ z → z ≡ pos 0 → x ≡ y
no_rest x y k z e h = let f = ap (λ w. k *ℤ w) h ∙ *ℤ-zero k in omega (arith, signed)

cut_right : (a m b q : Point) → area a b m ≡ pos 0 → a.x ≤ℤ m.x → m.x ≤ℤ b.x → crosses (seg a b) q ≡ xor (crosses (seg a m) q) (crosses (seg m b) q)
cut_right a m b q e h k =
    let n1 = nothing (seg b a) q (omega (arith, signed)) in
    let n2 = nothing (seg m a) q h in
    let n3 = nothing (seg b m) q k in
    by_tests (int_lt q.x a.x) (int_lt q.x m.x) (int_lt q.x b.x) (int_lt (area a b q) (pos 0)) (int_lt (area a m q) (pos 0)) (int_lt (area m b q) (pos 0))
    (over (seg b a) q) (over (seg m a) q) (over (seg b m) q) n1 n2 n3
    (λ f. let g = yes_lt q.x a.x f in lt_yes q.x m.x (omega (arith, signed)))
    (λ f. let g = yes_lt q.x m.x f in lt_yes q.x b.x (omega (arith, signed)))
    (λ f g.
    let f' = no_lt q.x a.x f in
    let g' = yes_lt q.x m.x g in
    times_same (b.x -ℤ a.x) (m.x -ℤ a.x) (area a m q) (area a b q) (omega (arith, signed)) (omega (arith, signed)) (no_rest _ _ (q.x -ℤ a.x) (area a b m) (first_area a b m q) e))
    (λ f g.
    let f' = no_lt q.x m.x f in
    let g' = yes_lt q.x b.x g in
    times_same (b.x -ℤ a.x) (b.x -ℤ m.x) (area m b q) (area a b q) (omega (arith, signed)) (omega (arith, signed)) (no_rest _ _ (b.x -ℤ q.x) (area a b m) (last_area a b m q) e))
  where
    by_tests : (A M B c c1 c2 x y z : Bool) → x ≡ false → y ≡ false → z ≡ false → (A ≡ true → M ≡ true) → (M ≡ true → B ≡ true) →
        (A ≡ false → M ≡ true → c1 ≡ c) → (M ≡ false → B ≡ true → c2 ≡ c) →
        xor (not A && B && c) x ≡ xor (xor (not A && M && c1) y) (xor (not M && B && c2) z)
    by_tests true true B c c1 c2 x y z ex ey ez f g h k = rw (ex, ey, ez)
    by_tests true false B c c1 c2 x y z ex ey ez f g h k = let e = f refl in cc
    by_tests false true true c c1 c2 x y z ex ey ez f g h k = rw (ex, ey, ez, h refl refl) (last c)
      where
        last : (c : Bool) → xor c false ≡ xor (xor c false) false
        last c = simp summing
    by_tests false true false c c1 c2 x y z ex ey ez f g h k = let e = g refl in cc
    by_tests false false true c c1 c2 x y z ex ey ez f g h k = rw (ex, ey, ez, k refl refl)
    by_tests false false false c c1 c2 x y z ex ey ez f g h k = rw (ex, ey, ez)

pub cut_crosses : (s : Segment) (m q : Point) → area s.a s.b m ≡ pos 0 → IsBetween s.a.x m.x s.b.x → crosses s q ≡ xor (crosses (first_part s m) q) (crosses (last_part s m) q)
cut_crosses s m q e h =
    ⊎_elim
    (λ (g : (s.a.x ≤ℤ m.x) × (m.x ≤ℤ s.b.x)). cut_right s.a m s.b q e g.0 g.1)
    (λ (g : (s.b.x ≤ℤ m.x) × (m.x ≤ℤ s.a.x)).
    let b = area_back s.a s.b m in
    let e' : area s.b s.a m ≡ pos 0 = zero_neg _ _ b e in
    let f = cut_right s.b m s.a q e' g.0 g.1 in
    turned_round (over s q) (over (back s) q) (over (first_part s m) q) (over (back (first_part s m)) q) (over (last_part s m) q) (over (back (last_part s m)) q) f)
    h
  where
    turned_round : (a b c d e f : Bool) → xor b a ≡ xor (xor f e) (xor d c) → xor a b ≡ xor (xor c d) (xor e f)
    turned_round a b c d e f h = xor_comm a b ∙ h ∙ last c d e f
      where
        last : (c d e f : Bool) → xor (xor f e) (xor d c) ≡ xor (xor c d) (xor e f)
        last c d e f = simp summing

-- ---- directions: d goes the way of e, k times as far, with positive numbers on both sides
pub record Along (d e : Direction) : Type 0 where
  pub k : ℤ
  pub l : ℤ
  pub k_positive : pos 0 <ℤ k
  pub l_positive : pos 0 <ℤ l
  pub x : k *ℤ d.dx ≡ l *ℤ e.dx
  pub y : k *ℤ d.dy ≡ l *ℤ e.dy

pub pair_same : (k l a b c d x y : ℤ) → k *ℤ a ≡ l *ℤ c → k *ℤ b ≡ l *ℤ d → k *ℤ (a *ℤ y -ℤ b *ℤ x) ≡ l *ℤ (c *ℤ y -ℤ d *ℤ x)
pair_same k l a b c d x y e f =
    let g = ap (λ z. z *ℤ y) e in
    let h = ap (λ z. z *ℤ x) f in
    let g' = simp multiplied at g in
    let h' = simp multiplied at h in
    simp multiplied (omega (arith, signed))

sign_positive : (k l x y : ℤ) → pos 0 <ℤ k → pos 0 <ℤ l → k *ℤ x ≡ l *ℤ y → int_lt (pos 0) x ≡ int_lt (pos 0) y
sign_positive k l x y hk hl e =
    let f = times_same k l (neg_ℤ x) (neg_ℤ y) hk hl (simp multiplied (omega (arith, signed))) in
    turn x ∙ f ∙ sym (turn y)
  where
    turn : (x : ℤ) → int_lt (pos 0) x ≡ int_lt (neg_ℤ x) (pos 0)
    turn x =
        ⊎_elim
        (λ (h : pos 0 <ℤ x). lt_yes (pos 0) x h ∙ sym (lt_yes (neg_ℤ x) (pos 0) (omega (arith, signed))))
        (λ (h : x ≤ℤ pos 0). lt_no (pos 0) x h ∙ sym (lt_no (neg_ℤ x) (pos 0) (omega (arith, signed))))
        (order (pos 0) x)

pub before_along : (d e u : Direction) → Along d e → before d u ≡ before e u
before_along d e u h =
    cc (
      sign_positive h.k h.l d.dx e.dx h.k_positive h.l_positive h.x,
      times_same h.k h.l d.dx e.dx h.k_positive h.l_positive h.x,
      times_same h.k h.l d.dy e.dy h.k_positive h.l_positive h.y,
      times_same h.k h.l (cross d u) (cross e u) h.k_positive h.l_positive (pair_same h.k h.l d.dx d.dy e.dx e.dy u.dx u.dy h.x h.y),
    )

-- the first part of s goes the way of s
cross_zero : (a b m : Point) → area a b m ≡ pos 0 → (b.x -ℤ a.x) *ℤ (m.y -ℤ a.y) ≡ (m.x -ℤ a.x) *ℤ (b.y -ℤ a.y)
cross_zero a b m e = by_parts ((b.x -ℤ a.x) *ℤ (m.y -ℤ a.y)) ((b.y -ℤ a.y) *ℤ (m.x -ℤ a.x)) ((m.x -ℤ a.x) *ℤ (b.y -ℤ a.y)) e (mul_comm (b.y -ℤ a.y) (m.x -ℤ a.x))
  where
    by_parts : (x y z : ℤ) → x -ℤ y ≡ pos 0 → y ≡ z → x ≡ z
    by_parts x y z e f = omega (arith, signed)

along_parts : (px py ex ey : ℤ) → px *ℤ ey ≡ ex *ℤ py → IsBetween (pos 0) ex px → IsBetween (pos 0) ey py → (ex ≡ pos 0 → ey ≡ pos 0 → ⊥) →
    Along (record { dx = ex; dy = ey }) (record { dx = px; dy = py })
along_parts px py ex ey e hx hy n =
    ⊎_elim
    (λ (h : pos 0 <ℤ ex).
    let hd : pos 0 <ℤ px = ⊎_elim (λ (g : (pos 0 ≤ℤ ex) × (ex ≤ℤ px)). let g1 = g.1 in omega (arith, signed)) (λ (g : (px ≤ℤ ex) × (ex ≤ℤ pos 0)). let g1 = g.1 in absurd (omega (arith, signed))) hx in
    record { k = px; l = ex; k_positive = hd; l_positive = h; x = mul_comm px ex; y = e })
    (λ (h : ex ≤ℤ pos 0).
    ⊎_elim
    (λ (g : ex <ℤ pos 0).
    let hd : px <ℤ pos 0 = ⊎_elim (λ (f : (pos 0 ≤ℤ ex) × (ex ≤ℤ px)). let f0 = f.0 in absurd (omega (arith, signed))) (λ (f : (px ≤ℤ ex) × (ex ≤ℤ pos 0)). let f0 = f.0 in omega (arith, signed)) hx in
    record { k = neg_ℤ px; l = neg_ℤ ex; k_positive = omega (arith, signed); l_positive = omega (arith, signed); x = swap_neg px ex; y = neg_both px ey ex py e })
    (λ (g : pos 0 ≤ℤ ex).
    let ez : ex ≡ pos 0 = omega (arith, signed) in
    by_y ez)
    (order ex (pos 0)))
    (order (pos 0) ex)
  where
    swap_neg : (a b : ℤ) → neg_ℤ a *ℤ b ≡ neg_ℤ b *ℤ a
    swap_neg a b = simp multiplied

    neg_both : (a b c d : ℤ) → a *ℤ b ≡ c *ℤ d → neg_ℤ a *ℤ b ≡ neg_ℤ c *ℤ d
    neg_both a b c d e = simp multiplied (ap neg_ℤ e)

    flat : (k l a b : ℤ) → a ≡ pos 0 → b ≡ pos 0 → k *ℤ a ≡ l *ℤ b
    flat k l a b e f = rw (e, f, *ℤ-zero k, *ℤ-zero l)

    no_width : ex ≡ pos 0 → (ey ≡ pos 0 → ⊥) → px ≡ pos 0
    no_width ez m = no_zero_divisor ey px (mul_comm ey px ∙ e ∙ ap (λ z. z *ℤ py) ez ∙ zero-*ℤ py) m

    by_y : ex ≡ pos 0 → Along (record { dx = ex; dy = ey }) (record { dx = px; dy = py })
    by_y ez =
        let m = n ez in
        let w = no_width ez m in
        ⊎_elim
        (λ (h : pos 0 <ℤ ey).
        let hd : pos 0 <ℤ py = ⊎_elim (λ (g : (pos 0 ≤ℤ ey) × (ey ≤ℤ py)). let g1 = g.1 in omega (arith, signed)) (λ (g : (py ≤ℤ ey) × (ey ≤ℤ pos 0)). let g1 = g.1 in absurd (omega (arith, signed))) hy in
        record { k = py; l = ey; k_positive = hd; l_positive = h; x = flat py ey ex px ez w; y = mul_comm py ey })
        (λ (h : ey ≤ℤ pos 0).
        ⊎_elim
        (λ (g : ey <ℤ pos 0).
        let hd : py <ℤ pos 0 = ⊎_elim (λ (f : (pos 0 ≤ℤ ey) × (ey ≤ℤ py)). let f0 = f.0 in absurd (omega (arith, signed))) (λ (f : (py ≤ℤ ey) × (ey ≤ℤ pos 0)). let f0 = f.0 in omega (arith, signed)) hy in
        record { k = neg_ℤ py; l = neg_ℤ ey; k_positive = omega (arith, signed); l_positive = omega (arith, signed); x = flat (neg_ℤ py) (neg_ℤ ey) ex px ez w; y = swap_neg py ey })
        (λ (g : pos 0 ≤ℤ ey). absurd (m (omega (arith, signed))))
        (order ey (pos 0)))
        (order (pos 0) ey)

between_shift : (a m b : ℤ) → IsBetween a m b → IsBetween (pos 0) (m -ℤ a) (b -ℤ a)
between_shift a m b h =
    ⊎_elim
    (λ (g : (a ≤ℤ m) × (m ≤ℤ b)). let g0 = g.0 in let g1 = g.1 in inl (omega (arith, signed), omega (arith, signed)))
    (λ (g : (b ≤ℤ m) × (m ≤ℤ a)). let g0 = g.0 in let g1 = g.1 in inr (omega (arith, signed), omega (arith, signed)))
    h

pub first_along : (s : Segment) (m : Point) → Inner m s → Along (direction (first_part s m)) (direction s)
first_along s m h =
    along_parts (s.b.x -ℤ s.a.x) (s.b.y -ℤ s.a.y) (m.x -ℤ s.a.x) (m.y -ℤ s.a.y) (cross_zero s.a s.b m h.straight)
    (between_shift s.a.x m.x s.b.x h.across) (between_shift s.a.y m.y s.b.y h.upward)
    (λ e f. h.not_start (here e f))
  where
    here : m.x -ℤ s.a.x ≡ pos 0 → m.y -ℤ s.a.y ≡ pos 0 → m ≡ s.a
    here e f =
        let ex : m.x ≡ s.a.x = omega (arith, signed) in
        let ey : m.y ≡ s.a.y = omega (arith, signed) in
        λ i. record { x = ex i; y = ey i }

pub inner_back : (s : Segment) (m : Point) → Inner m s → Inner m (back s)
inner_back s m h = record {
  straight = zero_neg _ _ (area_back s.a s.b m) h.straight;
  across = ⊎_elim (λ (g : (s.a.x ≤ℤ m.x) × (m.x ≤ℤ s.b.x)). inr g) (λ (g : (s.b.x ≤ℤ m.x) × (m.x ≤ℤ s.a.x)). inl g) h.across;
  upward = ⊎_elim (λ (g : (s.a.y ≤ℤ m.y) × (m.y ≤ℤ s.b.y)). inr g) (λ (g : (s.b.y ≤ℤ m.y) × (m.y ≤ℤ s.a.y)). inl g) h.upward;
  not_start = h.not_end;
  not_end = h.not_start;
}

-- ---- the laws of a cut
pub cut_above : (s : Segment) (m : Point) (X : List Segment) (q : Point) → Inner m s → above (cut s m X) q ≡ above X q
cut_above s m X q h =
    let g = inner_back s m h in
    cut_keeps (λ t. crosses t q) s m (cut_crosses s m q h.straight h.across) (cut_crosses (back s) m q g.straight g.across) X

leaves_cut : (s : Segment) (m v : Point) (u : Direction) → Inner m s → v ≢ m → leaves_before v u s ≡ xor (leaves_before v u (first_part s m)) (leaves_before v u (last_part s m))
leaves_cut s m v u h n =
    by_tests (same_point s.a v) (before (direction s) u) (same_point s.b v) (before (direction (back s)) u)
    (before (direction (first_part s m)) u) (same_point m v) (before (direction (back (first_part s m))) u) (before (direction (last_part s m)) u) (before (direction (back (last_part s m))) u)
    (before_along _ _ u (first_along s m h)) (before_along _ _ u (first_along (back s) m (inner_back s m h))) (same_not m v (λ e. n (sym e)))
  where
    by_tests : (a b c d b' o x y d' : Bool) → b' ≡ b → d' ≡ d → o ≡ false → xor (a && b) (c && d) ≡ xor (xor (a && b') (o && x)) (xor (o && y) (c && d'))
    by_tests a b c d b' o x y d' e f g = rw (e, f, g) (last (a && b) (c && d))
      where
        last : (p q : Bool) → xor p q ≡ xor (xor p false) q
        last p q = simp summing

pub cut_turned : (s : Segment) (m : Point) (X : List Segment) (v : Point) (u : Direction) → Inner m s → v ≢ m → turned (cut s m X) v u ≡ turned X v u
cut_turned s m X v u h n = cut_keeps (leaves_before v u) s m (leaves_cut s m v u h n) (leaves_cut (back s) m v u (inner_back s m h) n) X

pub cut_even : (s : Segment) (m : Point) (X : List Segment) → Even X → Even (cut s m X)
cut_even s m X even h = cut_keeps (λ t. xor (h t.a) (h t.b)) s m (sym (xor_between (h s.a) (h m) (h s.b))) (sym (xor_between (h s.b) (h m) (h s.a))) X ∙ even h

-- a step that does not begin at the new vertex sees the same on its left
pub cut_left : (s : Segment) (m : Point) (X : List Segment) (t : Segment) → Inner m s → t.a ≢ m → left (cut s m X) t ≡ left X t
cut_left s m X t h n = cc (cut_above s m X t.a h, cut_turned s m X t.a (direction t) h n)

pub from_along : (d e u : Direction) → Along d e → before u d ≡ before u e
from_along d e u h =
    cc (
      sign_positive h.k h.l d.dx e.dx h.k_positive h.l_positive h.x,
      times_same h.k h.l d.dx e.dx h.k_positive h.l_positive h.x,
      times_same h.k h.l d.dy e.dy h.k_positive h.l_positive h.y,
      reversed (cross u d) (cross d u) (crossed_turned d u) ∙ sign_positive h.k h.l (cross d u) (cross e u) h.k_positive h.l_positive (pair_same h.k h.l d.dx d.dy e.dx e.dy u.dx u.dy h.x h.y) ∙ sym (reversed (cross u e) (cross e u) (crossed_turned e u)),
    )
  where
    reversed : (x y : ℤ) → x ≡ neg_ℤ y → int_lt x (pos 0) ≡ int_lt (pos 0) y
    reversed x y e =
        ⊎_elim
        (λ (h : pos 0 <ℤ y). lt_yes x (pos 0) (omega (arith, signed)) ∙ sym (lt_yes (pos 0) y h))
        (λ (h : y ≤ℤ pos 0). lt_no x (pos 0) (omega (arith, signed)) ∙ sym (lt_no (pos 0) y h))
        (order (pos 0) y)

pub turned_along : (X : List Segment) (v : Point) (d e : Direction) → Along d e → turned X v d ≡ turned X v e
turned_along X v d e h = odd_each (leaves_before v d) (leaves_before v e) X (all X)
  where
    all : (Y : List Segment) → Each (λ t. leaves_before v d t ≡ leaves_before v e t) Y
    all [] = tt
    all (t ∷ Y) = (cc (from_along d e (direction t) h, from_along d e (direction (back t)) h), all Y)

-- the first part of s sees on its left what s saw
pub cut_first : (s : Segment) (m : Point) (X : List Segment) → Inner m s → left (cut s m X) (first_part s m) ≡ left X s
cut_first s m X h = cut_left s m X (first_part s m) h (λ e. h.not_start (sym e)) ∙ ap (xor (above X s.a)) (turned_along X s.a (direction (first_part s m)) (direction s) (first_along s m h))
