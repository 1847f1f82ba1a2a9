-- The plane made k times as large.
use Rattle.std.proofs.Common.{◌≡◌, refl, sym, ◌∙◌, ap, arith, ℤ, pos, ◌-ℤ◌, ◌*ℤ◌, ◌<ℤ◌, ◌≤ℤ◌, Bool, List, [], ◌∷◌, map}
use Rattle.std.specs.Prelude.{int_lt}
use Rattle.std.proofs.lemmas.Int.{ints}
use Rattle.std.proofs.Math.IntN.{*ℤ-zero}
use Rattle.plane.proofs.Ring.{multiplied, signed, mul_comm}
use Rattle.plane.proofs.Signs.{mul_positive, mul_le, cancel}
use Rattle.plane.proofs.Probe.{test_same}
use Rattle.topo_base.specs.Point.{Point, same_point}
use Rattle.plane.specs.Segment.{Segment}
use Rattle.plane.specs.Orientation.{area}
use Rattle.plane.specs.Crossings.{over, back, crosses, larger, larger_segment}
use Rattle.plane.specs.Parity.{xor}
use Rattle.plane.specs.Direction.{Direction}
use Rattle.parity_laws.specs.Steps.{odd, Even, direction, leaves_before, above, turned, left}
use Rattle.parity_laws.proofs.Cutting.{Along, before_along, turned_along}

pub times_minus : (k x y : ℤ) → (k *ℤ x) -ℤ (k *ℤ y) ≡ k *ℤ (x -ℤ y)
times_minus k x y = simp multiplied

pub mul_less : (x y k : ℤ) → x <ℤ y → pos 0 <ℤ k → (x *ℤ k) <ℤ (y *ℤ k)
mul_less x y k g h = let m = simp multiplied at (mul_positive (y -ℤ x) k (omega (arith, signed)) h) in omega (arith, signed)

pub lt_larger : (k x y : ℤ) → pos 0 <ℤ k → int_lt (k *ℤ x) (k *ℤ y) ≡ int_lt x y
lt_larger k x y h =
    test_same (k *ℤ x) (k *ℤ y) x y
    (λ f g. let m = mul_le y x k g (omega (arith, signed)) in by_three (k *ℤ y) (k *ℤ x) (x *ℤ k) (y *ℤ k) m (mul_comm x k) (mul_comm y k) f)
    (λ f g. let m = mul_less x y k g h in by_two (k *ℤ x) (k *ℤ y) (y *ℤ k) (x *ℤ k) f (mul_comm y k) (mul_comm x k) m)
  where
    by_two : (a b c d : ℤ) → b ≤ℤ a → c ≡ b → d ≡ a → d <ℤ c → ⊥
    by_two a b c d h e f g = omega (arith, signed)

    by_three : (a b c d : ℤ) → d ≤ℤ c → c ≡ b → d ≡ a → b <ℤ a → ⊥
    by_three a b c d h e f g = omega (arith, signed)

pub same_larger : (k : ℤ) (p q : Point) → pos 0 <ℤ k → same_point (larger k p) (larger k q) ≡ same_point p q
same_larger k p q h = cc (lt_larger k p.x q.x h, lt_larger k q.x p.x h, lt_larger k p.y q.y h, lt_larger k q.y p.y h)

pub larger_is : (k : ℤ) (p q : Point) → pos 0 <ℤ k → larger k p ≡ larger k q → p ≡ q
larger_is k p q h e =
    let ex = cancel p.x q.x k (mul_comm p.x k ∙ ap (λ (z : Point). z.x) e ∙ mul_comm k q.x) (λ z. omega (arith, signed)) in
    let ey = cancel p.y q.y k (mul_comm p.y k ∙ ap (λ (z : Point). z.y) e ∙ mul_comm k q.y) (λ z. omega (arith, signed)) in
    λ j. record { x = ex j; y = ey j }

pub area_larger : (k : ℤ) (a b q : Point) → area (larger k a) (larger k b) (larger k q) ≡ k *ℤ (k *ℤ area a b q)
area_larger k a b q = plain k a.x a.y b.x b.y q.x q.y
  where
    plain : (k ax ay bx by x y : ℤ) → ((k *ℤ bx) -ℤ (k *ℤ ax)) *ℤ ((k *ℤ y) -ℤ (k *ℤ ay)) -ℤ ((k *ℤ by) -ℤ (k *ℤ ay)) *ℤ ((k *ℤ x) -ℤ (k *ℤ ax)) ≡ k *ℤ (k *ℤ ((bx -ℤ ax) *ℤ (y -ℤ ay) -ℤ (by -ℤ ay) *ℤ (x -ℤ ax)))
    plain k ax ay bx by x y = simp multiplied (omega (arith, signed))

pub sign_larger : (k x : ℤ) → pos 0 <ℤ k → int_lt (k *ℤ x) (pos 0) ≡ int_lt x (pos 0)
sign_larger k x h = ap (int_lt (k *ℤ x)) (sym (*ℤ-zero k)) ∙ lt_larger k x (pos 0) h

pub over_larger : (k : ℤ) (s : Segment) (q : Point) → pos 0 <ℤ k → over (larger_segment k s) (larger k q) ≡ over s q
over_larger k s q h =
    cc (lt_larger k q.x s.a.x h, lt_larger k q.x s.b.x h, ap (λ z. int_lt z (pos 0)) (area_larger k s.a s.b q) ∙ sign_larger k (k *ℤ area s.a s.b q) h ∙ sign_larger k (area s.a s.b q) h)

pub direction_larger : (k : ℤ) (s : Segment) → pos 0 <ℤ k → Along (direction (larger_segment k s)) (direction s)
direction_larger k s h = record { k = pos 1; l = k; k_positive = record { lt = tt }; l_positive = h; x = plain k s.b.x s.a.x; y = plain k s.b.y s.a.y }
  where
    plain : (k b a : ℤ) → pos 1 *ℤ ((k *ℤ b) -ℤ (k *ℤ a)) ≡ k *ℤ (b -ℤ a)
    plain k b a = one ((k *ℤ b) -ℤ (k *ℤ a)) ∙ times_minus k b a
      where
        one : (z : ℤ) → pos 1 *ℤ z ≡ z
        one z = omega (arith, ints)

pub leaves_larger : (k : ℤ) (v : Point) (u : Direction) (t : Segment) → pos 0 <ℤ k → leaves_before (larger k v) u (larger_segment k t) ≡ leaves_before v u t
leaves_larger k v u t h = cc (same_larger k t.a v h, same_larger k t.b v h, before_along _ _ u (direction_larger k t h), before_along _ _ u (direction_larger k (back t) h))

pub odd_larger : (k : ℤ) (f g : Segment → Bool) → ((t : Segment) → f (larger_segment k t) ≡ g t) → (X : List Segment) → odd f (map (larger_segment k) X) ≡ odd g X
odd_larger k f g e [] = refl
odd_larger k f g e (t ∷ X) = cc (e t, odd_larger k f g e X)

pub above_larger : (k : ℤ) (X : List Segment) (p : Point) → pos 0 <ℤ k → above (map (larger_segment k) X) (larger k p) ≡ above X p
above_larger k X p h = odd_larger k (λ t. crosses t (larger k p)) (λ t. crosses t p) (λ t. cc (over_larger k t p h, over_larger k (back t) p h)) X

pub turned_larger : (k : ℤ) (X : List Segment) (v : Point) (u : Direction) → pos 0 <ℤ k → turned (map (larger_segment k) X) (larger k v) u ≡ turned X v u
turned_larger k X v u h = odd_larger k (leaves_before (larger k v) u) (leaves_before v u) (λ t. leaves_larger k v u t h) X

pub even_larger : (k : ℤ) (X : List Segment) → Even X → Even (map (larger_segment k) X)
even_larger k X even h = odd_larger k (λ t. xor (h t.a) (h t.b)) (λ t. xor (h (larger k t.a)) (h (larger k t.b))) (λ t. refl) X ∙ even (λ p. h (larger k p))

-- left of a step the parity is that of the larger plane
pub left_larger : (k : ℤ) (X : List Segment) (s : Segment) → pos 0 <ℤ k → left (map (larger_segment k) X) (larger_segment k s) ≡ left X s
left_larger k X s h =
    cc (above_larger k X s.a h, turned_along (map (larger_segment k) X) (larger k s.a) (direction (larger_segment k s)) (direction s) (direction_larger k s h), turned_larger k X s.a (direction s) h)
