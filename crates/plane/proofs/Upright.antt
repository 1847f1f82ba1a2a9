-- The same for a probe straight up or down.
use Rattle.std.proofs.Common.{◌≡◌, ◌≢◌, refl, sym, ap, arith, ℤ, pos, ◌+ℤ◌, ◌-ℤ◌, ◌*ℤ◌, ◌<ℤ◌, ◌≤ℤ◌, inl, inr, Bool, true, false, not, ◌&&◌, List, [], ◌∷◌}
use Rattle.std.specs.Prelude.{neg_ℤ}
use Rattle.std.specs.Int.RustNames.{int_lt}
use Rattle.plane.proofs.Ring.{signed}
use Rattle.plane.proofs.Signs.{mul_not_negative}
use Rattle.plane.proofs.Crossing.{crossing, turn_is}
use Rattle.plane.proofs.Probe.{test_same, factor_not_negative, factor_not_positive, pull_start, pull_finish, plus_minus, minus_minus, minus_plus, negated}
use Rattle.plane.proofs.Parity.{is_less, is_not_less}
use Rattle.plane.proofs.Collinear.{on_round}
use Rattle.plane.proofs.Chain.{ClearOf, clear_back}
use Rattle.topo_base.specs.Point.{Point}
use Rattle.plane.specs.Segment.{Segment}
use Rattle.plane.specs.Relation.{AreApart, turn}
use Rattle.plane.specs.Orientation.{area}
use Rattle.plane.specs.Crossings.{over, back, odd_crossings}
use Rattle.plane.specs.Parity.{xor}

-- p above and r below at t, u and v at s
fall : (p r u v w l m n k : ℤ) → p *ℤ l +ℤ r *ℤ m ≡ w *ℤ neg_ℤ u → p *ℤ n +ℤ r *ℤ k ≡ w *ℤ neg_ℤ v →
    pos 0 <ℤ w → pos 0 ≤ℤ l → m ≤ℤ pos 0 → n ≤ℤ pos 0 → pos 0 ≤ℤ k → p <ℤ pos 0 → pos 0 ≤ℤ r → (pos 0 ≤ℤ u) × (v ≤ℤ pos 0)
fall p r u v w l m n k i j hw hl hm hn hk hp hr =
    let i' = negated p r u w l m i in
    let j' = negated p r v w n k j in
    let hp' : pos 0 ≤ℤ neg_ℤ p = omega (arith, signed) in
    let hr' : neg_ℤ r ≤ℤ pos 0 = omega (arith, signed) in
    let a = mul_not_negative (neg_ℤ p) l hp' hl in
    let b = minus_minus (neg_ℤ r) m hr' hm in
    let c = plus_minus (neg_ℤ p) n hp' hn in
    let d = minus_plus (neg_ℤ r) k hr' hk in
    (factor_not_negative w u hw (omega (arith, signed)), factor_not_positive w v hw (omega (arith, signed)))

fall_through : (s t : Segment) → AreApart s t → s.a.x ≤ℤ t.a.x → t.a.x <ℤ s.b.x → t.a.x ≡ t.b.x →
    area s.a s.b t.a <ℤ pos 0 → pos 0 ≤ℤ area s.a s.b t.b → ⊥
fall_through s t clear h k e hp hr =
    let f = fall (area s.a s.b t.a) (area s.a s.b t.b) (area t.a t.b s.a) (area t.a t.b s.b) (s.b.x -ℤ s.a.x) (t.b.x -ℤ s.a.x) (s.a.x -ℤ t.a.x) (t.b.x -ℤ s.b.x) (s.b.x -ℤ t.a.x)
    (pull_start t s) (pull_finish t s) (omega (arith, signed)) (omega (arith, signed)) (omega (arith, signed)) (omega (arith, signed)) (omega (arith, signed)) hp hr in
    let n : turn s t ≢ pos 0 = turns (area s.a s.b t.a) (area s.a s.b t.b) (turn s t) (turn_is s t) hp hr in
    let c = crossing s t n (inr f, inl (omega (arith, signed), hr)) in
    clear c.0 c.1
  where
    turns : (r0 r1 w : ℤ) → r1 -ℤ r0 ≡ w → r0 <ℤ pos 0 → pos 0 ≤ℤ r1 → w ≢ pos 0
    turns r0 r1 w f h k = omega (arith, signed)

clear_turned : (s t : Segment) → AreApart s t → AreApart s (back t)
clear_turned s t clear = λ q h. clear q (h.0, on_round (back t) q h.1)

upright_area : (s t : Segment) → AreApart s t → s.a.x ≤ℤ t.a.x → t.a.x <ℤ s.b.x → t.a.x ≡ t.b.x → int_lt (area s.a s.b t.a) (pos 0) ≡ int_lt (area s.a s.b t.b) (pos 0)
upright_area s t clear h k e =
    test_same (area s.a s.b t.a) (pos 0) (area s.a s.b t.b) (pos 0)
    (λ f g. fall_through s t clear h k e f g)
    (λ f g. fall_through s (back t) (clear_turned s t clear) (omega (arith, signed)) (omega (arith, signed)) (sym e) g f)

upright_over : (s t : Segment) → AreApart s t → t.a.x ≡ t.b.x → over s t.a ≡ over s t.b
upright_over s t clear e =
    by_two _ _ _ _ _ _ (ap (λ z. int_lt z s.a.x) e) (ap (λ z. int_lt z s.b.x) e)
    (λ f g. upright_area s t clear (is_not_less t.a.x s.a.x f) (is_less t.a.x s.b.x g) e)
  where
    by_two : (x y x' y' u v : Bool) → x ≡ x' → y ≡ y' → (x ≡ false → y ≡ true → u ≡ v) → not x && y && u ≡ not x' && y' && v
    by_two true y x' y' u v e f g = rw (← e)
    by_two false false x' y' u v e f g = rw (← e, ← f)
    by_two false true x' y' u v e f g = rw (← e, ← f) (g refl refl)

pub upright_parity : (t : Segment) (v : Point) (ws : List Point) → t.a.x ≡ t.b.x → ClearOf t v ws → odd_crossings v ws t.a ≡ odd_crossings v ws t.b
upright_parity t v [] e c = refl
upright_parity t v (w ∷ ws) e c =
    let s : Segment = record { a = v; b = w } in
    let f = upright_over s t c.0 e in
    let g = upright_over (back s) t (clear_back s t c.0) e in
    let h = upright_parity t w ws e c.1 in
    together _ _ _ _ _ _ f g h
  where
    together : (a b c a' b' c' : Bool) → a ≡ a' → b ≡ b' → c ≡ c' → xor (xor a b) c ≡ xor (xor a' b') c'
    together a b c a' b' c' e f g = cc
