-- Whether straight up is in the wedge on the left of a turn, by the order from straight up.
use Rattle.std.proofs.Common.{◌≡◌, refl, sym, ◌∙◌, ap, subst, arith, ℤ, pos, ◌+ℤ◌, ◌*ℤ◌, ◌<ℤ◌, ◌≤ℤ◌, Bool, true, false, not}
use Rattle.std.specs.Prelude.{◌||◌, neg_ℤ}
use Rattle.std.proofs.Math.IntN.{*ℤ-zero}
use Rattle.std.proofs.lemmas.Bool.{both_ways, false_from_ne_true, eq-eqb}
use Rattle.plane.specs.Direction.{Direction, dot, quarter, is_nearer, same_direction, in_wedge, straight_up, IsNotZero, OneDirection}
use Rattle.plane.proofs.Directions.{nearer_self, nearer_onward, nearer_total, nearer_cyclic, same_out, same_in, one_turned}
use Rattle.plane.proofs.Ring.{signed}
use Rattle.plane.proofs.Signs.{times_one}
use Rattle.plane.proofs.Wedges.{apart_nearer}
use Rattle.parity_laws.specs.Steps.{before}
use Rattle.face_laws.proofs.Mirror.{mirrored, mirrored_some, one_mirrored, before_is, nearer_mirrored}

up_some : IsNotZero straight_up
up_some e f = cc

-- a direction that doesn't point upward
pub record IsLow (u : Direction) : Type 0 where
  pub some : IsNotZero u
  pub low : u.dy ≤ℤ pos 0

dot_up : (u : Direction) → dot u straight_up ≡ u.dy
dot_up u = plain u.dx u.dy
  where
    plain : (x y : ℤ) → x *ℤ pos 0 +ℤ y *ℤ pos 1 ≡ y
    plain x y = let e = *ℤ-zero x in let f = times_one y in omega (arith, signed)

not_up : (u : Direction) → u.dy ≤ℤ pos 0 → OneDirection u straight_up → ⊥
not_up u low one = never u.dy low (subst (λ z. pos 0 <ℤ z) (dot_up u) one.ahead)
  where
    never : (y : ℤ) → y ≤ℤ pos 0 → pos 0 <ℤ y → ⊥
    never y h k = omega (arith, signed)

apart_first : (x : Direction) → IsLow x → same_direction straight_up x ≡ false
apart_first x low = false_from_ne_true (same_direction straight_up x) (λ g. not_up x low.low (one_turned straight_up x (same_out straight_up x up_some low.some g)))

mirrored_low : (u : Direction) → IsLow u → IsLow (mirrored u)
mirrored_low u low = record { some = mirrored_some u low.some; low = low.low }

-- straight up is in the wedge from u to w exactly where u isn't before w
pub up_in_wedge : (u w : Direction) → IsLow u → IsLow w → in_wedge u w straight_up ≡ not (before u w)
up_in_wedge u w lu lw = by_same (same_direction u w) refl
  where
    mu : IsLow (mirrored u)
    mu = mirrored_low u lu

    mw : IsLow (mirrored w)
    mw = mirrored_low w lw

    -- of one direction neither is before the other
    by_same : (c : Bool) → same_direction u w ≡ c → (c || is_nearer u straight_up w) ≡ not (before u w)
    by_same true e = ap not (sym (false_from_ne_true (before u w) (λ f.
        both_ways (same_direction (mirrored w) (mirrored u))
        (apart_nearer straight_up (mirrored w) (mirrored u) mw.some mu.some (sym (before_is u w lu.some lw.some) ∙ f))
        (same_in (mirrored w) (mirrored u) (one_mirrored (mirrored w) (mirrored u) (back (same_out u w lu.some lw.some e)))))))
      where
        back : OneDirection u w → OneDirection (mirrored (mirrored u)) (mirrored (mirrored w))
        back one = subst (λ x. OneDirection x (mirrored (mirrored w))) (sym (twice u)) (subst (OneDirection u) (sym (twice w)) one)
          where
            twice : (x : Direction) → mirrored (mirrored x) ≡ x
            twice x = let e = plain x.dx in λ i. record { dx = e i; dy = x.dy }
              where
                plain : (a : ℤ) → neg_ℤ (neg_ℤ a) ≡ a
                plain a = omega (arith, signed)
    by_same false e = by_order (before u w) refl
      where
        total : before u w ≡ false → is_nearer straight_up (mirrored u) (mirrored w) ≡ true
        total f = by_test (is_nearer straight_up (mirrored u) (mirrored w)) refl
          where
            by_test : (b : Bool) → is_nearer straight_up (mirrored u) (mirrored w) ≡ b → b ≡ true
            by_test true g = refl
            by_test false g =
                absurd (both_ways (same_direction u w) e
                (same_in u w (one_mirrored u w (nearer_total straight_up (mirrored w) (mirrored u) up_some mw.some mu.some (sym (before_is u w lu.some lw.some) ∙ f) g))))

        by_order : (b : Bool) → before u w ≡ b → is_nearer u straight_up w ≡ not b
        by_order true f =
            -- from straight up: w, u in the mirror, so from u: straight up, w
            let first = sym (before_is u w lu.some lw.some) ∙ f in
            let second = nearer_cyclic straight_up (mirrored w) (mirrored u) up_some mw.some first (apart_first (mirrored w) mw) in
            let third = nearer_cyclic (mirrored w) (mirrored u) straight_up mw.some mu.some second (apart_nearer straight_up (mirrored w) (mirrored u) mw.some mu.some first) in
            false_from_ne_true (is_nearer u straight_up w) (λ g.
            both_ways (is_nearer u w w) (nearer_self u w)
            (nearer_onward u w straight_up w (nearer_mirrored u straight_up w (λ z. not_up u lu.low (same_out u straight_up lu.some up_some (eq-eqb (quarter u straight_up) 0 z))) third) g))
        by_order false f =
            let first = total f in
            let second = nearer_cyclic straight_up (mirrored u) (mirrored w) up_some mu.some first (apart_first (mirrored u) mu) in
            nearer_mirrored u w straight_up (λ z. both_ways (same_direction u w) e (eq-eqb (quarter u w) 0 z)) second
