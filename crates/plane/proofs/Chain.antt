-- The parity of the edges of a closed chain above a point, along a probe.
use Rattle.std.proofs.Common.{◌≡◌, refl, sym, ◌∙◌, ap, arith, pos, ◌<ℤ◌, ◌≤ℤ◌, Bool, true, false, not, ◌&&◌, List, [], ◌∷◌, ⊎_elim}
use Rattle.std.specs.Int.RustNames.{int_lt}
use Rattle.std.proofs.lemmas.Int.{ints}
use Rattle.plane.proofs.Ring.{signed}
use Rattle.plane.proofs.Signs.{order}
use Rattle.plane.proofs.Collinear.{on_round}
use Rattle.plane.proofs.Parity.{edge_parity, is_less}
use Rattle.topo_base.specs.Point.{Point}
use Rattle.plane.specs.Segment.{Segment}
use Rattle.plane.specs.Orientation.{area}
use Rattle.plane.specs.Relation.{AreApart}
use Rattle.plane.specs.Crossings.{over, passed, back, crosses, odd_crossings, last_of}
use Rattle.plane.specs.Parity.{xor}

xor_assoc : (a b c : Bool) → xor (xor a b) c ≡ xor a (xor b c)
xor_assoc true true true = refl
xor_assoc true true false = refl
xor_assoc true false c = refl
xor_assoc false b c = refl

xor_comm : (a b : Bool) → xor a b ≡ xor b a
xor_comm true true = refl
xor_comm true false = refl
xor_comm false true = refl
xor_comm false false = refl

xor_four : (a b c d : Bool) → xor (xor a b) (xor c d) ≡ xor (xor a c) (xor b d)
xor_four true true true true = refl
xor_four true true true false = refl
xor_four true true false true = refl
xor_four true true false false = refl
xor_four true false true true = refl
xor_four true false true false = refl
xor_four true false false true = refl
xor_four true false false false = refl
xor_four false true true true = refl
xor_four false true true false = refl
xor_four false true false true = refl
xor_four false true false false = refl
xor_four false false true true = refl
xor_four false false true false = refl
xor_four false false false true = refl
xor_four false false false false = refl

xor_between : (a b c : Bool) → xor (xor a b) (xor b c) ≡ xor a c
xor_between true true true = refl
xor_between true true false = refl
xor_between true false true = refl
xor_between true false false = refl
xor_between false true true = refl
xor_between false true false = refl
xor_between false false true = refl
xor_between false false false = refl

-- a way from right to left is above nothing
pub nothing : (s : Segment) (q : Point) → s.b.x ≤ℤ s.a.x → over s q ≡ false
nothing s q h = by_two (int_lt q.x s.a.x) (int_lt q.x s.b.x) (int_lt (area s.a s.b q) (pos 0)) (λ e. let k = is_less q.x s.b.x e in let l : true ≡ int_lt q.x s.a.x = omega (arith, ints) in sym l)
  where
    by_two : (x y u : Bool) → (y ≡ true → x ≡ true) → not x && y && u ≡ false
    by_two true y u f = refl
    by_two false true u f = let e = f refl in cc
    by_two false false u f = refl

pub clear_back : (s t : Segment) → AreApart s t → AreApart (back s) t
clear_back s t clear = λ q h. clear q (on_round (back s) q h.0, h.1)

-- the edge in the order of its ends
any_edge : (s t : Segment) → AreApart s t → t.a.x <ℤ t.b.x → xor (crosses s t.a) (crosses s t.b) ≡ xor (passed t s.a) (passed t s.b)
any_edge s t clear probe =
    ⊎_elim
    (λ (h : s.b.x <ℤ s.a.x).
    let k : s.b.x ≤ℤ s.a.x = omega (arith, signed) in
    let e = edge_parity (back s) t (record { clear = clear_back s t clear; edge = k; probe = probe }) in
    rw (nothing s t.a k, nothing s t.b k) (e ∙ xor_comm (passed t s.b) (passed t s.a)))
    (λ (h : s.a.x ≤ℤ s.b.x).
    let e = edge_parity s t (record { clear = clear; edge = h; probe = probe }) in
    rw (nothing (back s) t.a h, nothing (back s) t.b h) (alone (over s t.a) (over s t.b) ∙ e))
    (order s.b.x s.a.x)
  where
    alone : (a b : Bool) → xor (xor a false) (xor b false) ≡ xor a b
    alone true true = refl
    alone true false = refl
    alone false true = refl
    alone false false = refl

-- t meets none of the ways of the chain
abbrev pub ClearOf : Segment → Point → List Point → Type 0
ClearOf t v [] = Unit {0}
ClearOf t v (w ∷ ws) = AreApart (record { a = v; b = w }) t × ClearOf t w ws

chain : (t : Segment) (v : Point) (ws : List Point) → t.a.x <ℤ t.b.x → ClearOf t v ws →
    xor (odd_crossings v ws t.a) (odd_crossings v ws t.b) ≡ xor (passed t v) (passed t (last_of v ws))
chain t v [] probe c = sym (xor_self (passed t v))
  where
    xor_self : (a : Bool) → xor a a ≡ false
    xor_self true = refl
    xor_self false = refl
chain t v (w ∷ ws) probe c =
    let s : Segment = record { a = v; b = w } in
    let e = any_edge s t c.0 probe in
    let f = chain t w ws probe c.1 in
    xor_four (crosses s t.a) (odd_crossings w ws t.a) (crosses s t.b) (odd_crossings w ws t.b)
    ∙ ap (λ z. xor z (xor (odd_crossings w ws t.a) (odd_crossings w ws t.b))) e
    ∙ ap (λ z. xor (xor (passed t v) (passed t w)) z) f
    ∙ xor_between (passed t v) (passed t w) (passed t (last_of w ws))

xor_zero : (a b c : Bool) → xor a b ≡ xor c c → a ≡ b
xor_zero true true c e = refl
xor_zero true false true e = cc
xor_zero true false false e = cc
xor_zero false true true e = cc
xor_zero false true false e = cc
xor_zero false false c e = refl

-- a closed chain: both ends of a probe that meets no edge have the same parity of edges above them
pub same_parity : (t : Segment) (v : Point) (ws : List Point) → t.a.x <ℤ t.b.x → last_of v ws ≡ v → ClearOf t v ws →
    odd_crossings v ws t.a ≡ odd_crossings v ws t.b
same_parity t v ws probe closed clear =
    let e = chain t v ws probe clear in
    xor_zero (odd_crossings v ws t.a) (odd_crossings v ws t.b) (passed t v) (e ∙ ap (λ z. xor (passed t v) (passed t z)) closed)
