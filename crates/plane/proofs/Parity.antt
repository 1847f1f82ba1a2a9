-- The parity of the edges of a ring above a point stays along a probe that meets no edge.
use Rattle.std.proofs.Common.{◌≡◌, refl, sym, ◌∙◌, arith, ℤ, pos, ◌<ℤ◌, ◌≤ℤ◌, Bool, true, false, not, ◌&&◌}
use Rattle.std.specs.Int.RustNames.{int_lt}
use Rattle.std.proofs.lemmas.Int.{ints}
use Rattle.plane.proofs.Ring.{signed}
use Rattle.plane.proofs.Probe.{Both, case_begin, case_end, case_cover, case_inside}
use Rattle.plane.specs.Segment.{Segment}
use Rattle.plane.specs.Orientation.{area}
use Rattle.plane.specs.Crossings.{over, passed}
use Rattle.plane.specs.Parity.{xor}

xor_none : (u : Bool) → xor u false ≡ u
xor_none true = refl
xor_none false = refl

xor_same : (u v : Bool) → u ≡ v → xor u v ≡ false
xor_same true true e = refl
xor_same true false e = cc
xor_same false true e = cc
xor_same false false e = refl

-- the tests of the order: of the start of t and of its end, each against the two ends of s
record Ordered (x1 x2 x3 x4 : Bool) : Type 0 where
  start : x1 ≡ true → x2 ≡ true
  finish : x3 ≡ true → x4 ≡ true
  low : x3 ≡ true → x1 ≡ true
  high : x4 ≡ true → x2 ≡ true

record Steps (x1 x2 x3 x4 u v a b : Bool) : Type 0 where
  inside : x1 ≡ false → x4 ≡ true → u ≡ v
  begin : x1 ≡ false → x2 ≡ true → x4 ≡ false → u ≡ b
  end : x1 ≡ true → x3 ≡ false → x4 ≡ true → v ≡ a
  cover : x1 ≡ true → x4 ≡ false → a ≡ b

by_tests : (x1 x2 x3 x4 u v a b : Bool) → Ordered x1 x2 x3 x4 → Steps x1 x2 x3 x4 u v a b →
    xor (not x1 && x2 && u) (not x3 && x4 && v) ≡ xor (x1 && not x3 && a) (x2 && not x4 && b)
by_tests false false false false u v a b o s = refl
by_tests false true false false u v a b o s = xor_none u ∙ s.begin refl refl refl
by_tests false true false true u v a b o s = xor_same u v (s.inside refl refl)
by_tests true true false false u v a b o s = sym (xor_same a b (s.cover refl refl))
by_tests true true false true u v a b o s = s.end refl refl refl ∙ sym (xor_none a)
by_tests true true true true u v a b o s = refl
by_tests true false x3 x4 u v a b o s = let e = o.start refl in cc
by_tests false x2 true x4 u v a b o s = let e = o.low refl in cc
by_tests x1 x2 true false u v a b o s = let e = o.finish refl in cc
by_tests x1 false x3 true u v a b o s = let e = o.high refl in cc

pub is_less : (x y : ℤ) → int_lt x y ≡ true → x <ℤ y
is_less x y e = omega (arith, ints)

pub is_not_less : (x y : ℤ) → int_lt x y ≡ false → y ≤ℤ x
is_not_less x y e = omega (arith, ints)

pub test_true : (x y : ℤ) → x <ℤ y → int_lt x y ≡ true
test_true x y h = let e : true ≡ int_lt x y = omega (arith, ints) in sym e

less_less : (x y z : ℤ) → y ≤ℤ z → int_lt x y ≡ true → int_lt x z ≡ true
less_less x y z h e = let k = is_less x y e in test_true x z (omega (arith, signed))

less_before : (x y z : ℤ) → x <ℤ y → int_lt y z ≡ true → int_lt x z ≡ true
less_before x y z h e = let k = is_less y z e in test_true x z (omega (arith, signed))

pub edge_parity : (s t : Segment) → Both s t → xor (over s t.a) (over s t.b) ≡ xor (passed t s.a) (passed t s.b)
edge_parity s t b =
    by_tests (int_lt t.a.x s.a.x) (int_lt t.a.x s.b.x) (int_lt t.b.x s.a.x) (int_lt t.b.x s.b.x)
    (int_lt (area s.a s.b t.a) (pos 0)) (int_lt (area s.a s.b t.b) (pos 0)) (int_lt (pos 0) (area t.a t.b s.a)) (int_lt (pos 0) (area t.a t.b s.b))
    (record {
      start = less_less t.a.x s.a.x s.b.x b.edge;
      finish = less_less t.b.x s.a.x s.b.x b.edge;
      low = less_before t.a.x t.b.x s.a.x b.probe;
      high = less_before t.a.x t.b.x s.b.x b.probe;
    })
    (record {
      inside = λ e f. case_inside s t b (is_not_less _ _ e) (is_less _ _ f);
      begin = λ e f g. case_begin s t b (is_not_less _ _ e) (is_less _ _ f) (is_not_less _ _ g);
      end = λ e f g. case_end s t b (is_less _ _ e) (is_not_less _ _ f) (is_less _ _ g);
      cover = λ e f. case_cover s t b (is_less _ _ e) (is_not_less _ _ f);
    })
