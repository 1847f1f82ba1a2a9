-- The order of directions clockwise from straight up.
use Rattle.std.proofs.Common.{◌≡◌, refl, ◌∙◌, ap, arith, ℤ, pos, ◌-ℤ◌, ◌*ℤ◌, ◌<ℤ◌, ◌≤ℤ◌, ⊎_elim, Bool, true, false, not, ◌&&◌}
use Rattle.std.specs.Prelude.{neg_ℤ, ◌||◌, int_lt}
use Rattle.std.proofs.Math.IntN.{*ℤ-zero, zero-*ℤ}
use Rattle.plane.proofs.Ring.{multiplied, signed}
use Rattle.plane.proofs.Signs.{order}
use Rattle.plane.specs.Direction.{Direction, cross}
use Rattle.parity_laws.specs.Steps.{rightward, first_of, before}
use Rattle.parity_laws.proofs.HalfTurns.{Upper, crossed_onward}
use Rattle.parity_laws.proofs.Tests.{crossed_turned}
use Rattle.plane.proofs.Tests.{lt_yes, yes_lt, no_lt}

-- a quarter turn either way
abbrev pub turned_left : Direction → Direction
turned_left u = record { dx = neg_ℤ u.dy; dy = u.dx }

abbrev pub turned_right : Direction → Direction
turned_right u = record { dx = u.dy; dy = neg_ℤ u.dx }

left_upper : (u : Direction) → rightward u ≡ true → Upper (turned_left u)
left_upper u e = by_tests (int_lt (pos 0) u.dx) (int_lt u.dx (pos 0)) (int_lt u.dy (pos 0)) (λ f. yes_lt (pos 0) u.dx f) (λ f. no_lt u.dx (pos 0) f) (λ f. yes_lt u.dy (pos 0) f) e
  where
    by_tests : (a b c : Bool) → (a ≡ true → pos 0 <ℤ u.dx) → (b ≡ false → pos 0 ≤ℤ u.dx) → (c ≡ true → u.dy <ℤ pos 0) → (a || (not b && c)) ≡ true → Upper (turned_left u)
    by_tests true b c f g h e = let k = f refl in record { high = omega (arith, signed); right = λ l. absurd (omega (arith, signed)) }
    by_tests false true c f g h e = cc
    by_tests false false true f g h e = let k = g refl in let m = h refl in record { high = k; right = λ l. omega (arith, signed) }
    by_tests false false false f g h e = cc

right_upper : (u : Direction) → rightward u ≡ false → (u.dx ≡ pos 0 → u.dy ≡ pos 0 → ⊥) → Upper (turned_right u)
right_upper u e n = by_tests (int_lt (pos 0) u.dx) (int_lt u.dx (pos 0)) (int_lt u.dy (pos 0)) (λ f. no_lt (pos 0) u.dx f) (λ f. yes_lt u.dx (pos 0) f) (λ f. no_lt u.dy (pos 0) f) e
  where
    by_tests : (a b c : Bool) → (a ≡ false → u.dx ≤ℤ pos 0) → (b ≡ true → u.dx <ℤ pos 0) → (c ≡ false → pos 0 ≤ℤ u.dy) → (a || (not b && c)) ≡ false → Upper (turned_right u)
    by_tests true b c f g h e = cc
    by_tests false true c f g h e = let k = g refl in record { high = omega (arith, signed); right = λ l. absurd (omega (arith, signed)) }
    by_tests false false true f g h e = cc
    by_tests false false false f g h e =
        let k = f refl in
        let m = h refl in
        record {
          high = omega (arith, signed);
          right = λ (l : neg_ℤ u.dx ≡ pos 0).
              let l' : u.dx ≡ pos 0 = omega (arith, signed) in
              ⊎_elim (λ (g : pos 0 <ℤ u.dy). g) (λ (g : u.dy ≤ℤ pos 0). absurd (n l' (omega (arith, signed)))) (order (pos 0) u.dy);
        }

crossed_left : (u w : Direction) → cross u w ≡ cross (turned_left u) (turned_left w)
crossed_left u w = plain u.dx u.dy w.dx w.dy
  where
    plain : (x y a b : ℤ) → x *ℤ b -ℤ y *ℤ a ≡ neg_ℤ y *ℤ a -ℤ x *ℤ neg_ℤ b
    plain x y a b = simp multiplied (omega (arith, signed))

crossed_right : (u w : Direction) → cross u w ≡ cross (turned_right u) (turned_right w)
crossed_right u w = plain u.dx u.dy w.dx w.dy
  where
    plain : (x y a b : ℤ) → x *ℤ b -ℤ y *ℤ a ≡ y *ℤ neg_ℤ a -ℤ neg_ℤ x *ℤ b
    plain x y a b = simp multiplied (omega (arith, signed))

not_zero : (u w : Direction) → cross u w <ℤ pos 0 → u.dx ≡ pos 0 → u.dy ≡ pos 0 → ⊥
not_zero u w h e f =
    let a = ap (λ k. k *ℤ w.dy) e ∙ zero-*ℤ w.dy in
    let b = ap (λ k. k *ℤ w.dx) f ∙ zero-*ℤ w.dx in
    omega (arith, signed)

not_zero_second : (u w : Direction) → cross u w <ℤ pos 0 → w.dx ≡ pos 0 → w.dy ≡ pos 0 → ⊥
not_zero_second u w h e f =
    let a = ap (λ k. u.dx *ℤ k) f ∙ *ℤ-zero u.dx in
    let b = ap (λ k. u.dy *ℤ k) e ∙ *ℤ-zero u.dy in
    omega (arith, signed)

less_by : {x y z : ℤ} → x ≡ y → x ≡ neg_ℤ z → z <ℤ pos 0 → pos 0 <ℤ y
less_by e f g = omega (arith, signed)

below : {x y z : ℤ} → x ≡ y → x ≡ neg_ℤ z → pos 0 <ℤ y → z <ℤ pos 0
below e f g = omega (arith, signed)

back_right : (a b c : Direction) → Upper (turned_left a) → Upper (turned_left b) → Upper (turned_left c) → cross a b <ℤ pos 0 → cross b c <ℤ pos 0 → cross a c <ℤ pos 0
back_right a b c ua ub uc h k =
    let f = crossed_turned a b in
    let g = crossed_turned b c in
    let m = crossed_turned a c in
    let e1 = crossed_left b a in
    let e2 = crossed_left c b in
    let e3 = crossed_left c a in
    let r = crossed_onward (turned_left c) (turned_left b) (turned_left a) uc ub ua (less_by e2 g k) (less_by e1 f h) in
    below e3 m r

back_left : (a b c : Direction) → Upper (turned_right a) → Upper (turned_right b) → Upper (turned_right c) → cross a b <ℤ pos 0 → cross b c <ℤ pos 0 → cross a c <ℤ pos 0
back_left a b c ua ub uc h k =
    let f = crossed_turned a b in
    let g = crossed_turned b c in
    let m = crossed_turned a c in
    let e1 = crossed_right b a in
    let e2 = crossed_right c b in
    let e3 = crossed_right c a in
    let r = crossed_onward (turned_right c) (turned_right b) (turned_right a) uc ub ua (less_by e2 g k) (less_by e1 f h) in
    below e3 m r

pub before_onward : (a b c : Direction) → before a b ≡ true → before b c ≡ true → before a c ≡ true
before_onward a b c e f =
    by_tests (rightward a) (rightward b) (rightward c) (int_lt (cross a b) (pos 0)) (int_lt (cross b c) (pos 0)) (int_lt (cross a c) (pos 0))
    (λ ra rb rc g h. lt_yes (cross a c) (pos 0) (back_right a b c (left_upper a ra) (left_upper b rb) (left_upper c rc) (yes_lt (cross a b) (pos 0) g) (yes_lt (cross b c) (pos 0) h)))
    (λ ra rb rc g h.
    let k = yes_lt (cross a b) (pos 0) g in
    let l = yes_lt (cross b c) (pos 0) h in
    lt_yes (cross a c) (pos 0) (back_left a b c (right_upper a ra (not_zero a b k)) (right_upper b rb (not_zero b c l)) (right_upper c rc (not_zero_second b c l)) k l))
    e f refl refl refl
  where
    by_tests : (ra rb rc x y z : Bool) →
        (rightward a ≡ true → rightward b ≡ true → rightward c ≡ true → x ≡ true → y ≡ true → z ≡ true) →
        (rightward a ≡ false → rightward b ≡ false → rightward c ≡ false → x ≡ true → y ≡ true → z ≡ true) →
        first_of ra rb x ≡ true → first_of rb rc y ≡ true → rightward a ≡ ra → rightward b ≡ rb → rightward c ≡ rc → first_of ra rc z ≡ true
    by_tests true true true x y z f g e h i j k = f i j k e h
    by_tests true rb false x y z f g e h i j k = refl
    by_tests true false true x y z f g e h i j k = cc
    by_tests false true rc x y z f g e h i j k = cc
    by_tests false false true x y z f g e h i j k = cc
    by_tests false false false x y z f g e h i j k = g i j k e h
