-- Even lists of steps, and what they keep along a way that meets none of them, or begins at a vertex of theirs.
use Rattle.std.proofs.Common.{◌≡◌, ◌≢◌, refl, sym, ◌∙◌, ap, arith, ℤ, pos, ◌-ℤ◌, ◌*ℤ◌, ◌+ℤ◌, ◌<ℤ◌, ◌≤ℤ◌, ⊎_elim, Bool, true, false, not, ◌&&◌, List, [], ◌∷◌}
use Rattle.std.specs.Prelude.{int_lt}
use Rattle.plane.proofs.Ring.{multiplied, signed}
use Rattle.plane.proofs.Signs.{order, mul_not_negative}
use Rattle.plane.specs.Direction.{Direction}
use Rattle.topo_base.specs.Point.{Point, same_point}
use Rattle.plane.specs.Segment.{Segment}
use Rattle.plane.specs.Relation.{AreApart}
use Rattle.plane.specs.Orientation.{area}
use Rattle.plane.specs.Crossings.{over, back, crosses, passed, last_of}
use Rattle.plane.specs.Parity.{xor}
use Rattle.parity_laws.specs.Steps.{direction, leaves_before, twin, odd, Each, Even, above, turned, times, left}
use Rattle.parity_laws.specs.Ways.{Tied, Outside}
use Rattle.parity_laws.specs.Walks.{steps, Line, all_steps, EndsPair, Chained, NoHigher, NotAt}
use Rattle.parity_laws.proofs.Sums.{xor_none, xor_self, odd_both, odd_each, odd_append, odd_none, each_map, equal, xor_between}
use Rattle.parity_laws.proofs.Tests.{same_not}
use Rattle.parity_laws.proofs.Gap.{leaves_none}
use Rattle.parity_laws.proofs.Across.{clear_onward}
use Rattle.parity_laws.proofs.Corner.{across, corner, clear_turned}
use Rattle.plane.proofs.Tests.{lt_no, yes_lt, no_lt}

-- ---- what is even
pub steps_ends : (h : Point → Bool) (v : Point) (ws : List Point) → odd (λ t. xor (h t.a) (h t.b)) (steps v ws) ≡ xor (h v) (h (last_of v ws))
steps_ends h v [] = sym (xor_self (h v))
steps_ends h v (w ∷ ws) = ap (xor (xor (h v) (h w))) (steps_ends h w ws) ∙ xor_between (h v) (h w) (h (last_of w ws))

pub lines_even : (ls : List Line) → EndsPair ls → Even (all_steps ls)
lines_even ls pair h = by_lines ls ∙ pair h
  where
    by_lines : (ks : List Line) → odd (λ t. xor (h t.a) (h t.b)) (all_steps ks) ≡ odd (λ l. xor (h l.first) (h (last_of l.first l.rest))) ks
    by_lines [] = refl
    by_lines (k ∷ ks) = odd_append (λ t. xor (h t.a) (h t.b)) (steps k.first k.rest) (all_steps ks) ∙ cc (steps_ends h k.first k.rest, by_lines ks)

pub chained_ends : (h : Point → Bool) (v : Point) (X : List Segment) (z : Point) → Chained v X z → odd (λ t. xor (h t.a) (h t.b)) X ≡ xor (h v) (h z)
chained_ends h v [] z e = sym (ap (λ k. xor (h v) (h k)) (sym e) ∙ xor_self (h v))
chained_ends h v (t ∷ X) z e =
    ap (xor (xor (h t.a) (h t.b))) (chained_ends h t.b X z e.1) ∙ xor_between (h t.a) (h t.b) (h z) ∙ ap (λ k. xor (h k) (h z)) e.0

-- a ring is even
pub ring_even : (v : Point) (X : List Segment) → Chained v X v → Even X
ring_even v X e h = chained_ends h v X v e ∙ xor_self (h v)

-- ---- along a way that meets no step
path_right : (s : Segment) (X : List Segment) → Even X → Each (λ t. AreApart t s) X → s.a.x ≤ℤ s.b.x → above X s.a ≡ above X s.b
path_right s X even clear h =
    let e = odd_each (λ t. xor (crosses t s.a) (crosses t s.b)) (λ t. xor (passed s t.a) (passed s t.b)) X (each_map (λ t. AreApart t s) (λ t. xor (crosses t s.a) (crosses t s.b) ≡ xor (passed s t.a) (passed s t.b)) (λ t c. clear_onward t s c h) X clear) in
    equal (above X s.a) (above X s.b) (sym (odd_both (λ t. crosses t s.a) (λ t. crosses t s.b) X) ∙ e ∙ even (passed s))

-- the parity of an even list of steps stays along a way that meets none of them
pub path_stays : (s : Segment) (X : List Segment) → Even X → Each (λ t. AreApart t s) X → above X s.a ≡ above X s.b
path_stays s X even clear =
    ⊎_elim
    (λ (h : s.a.x <ℤ s.b.x). path_right s X even clear (omega (arith, signed)))
    (λ (h : s.b.x ≤ℤ s.a.x). sym (path_right (back s) X even (each_map (λ t. AreApart t s) (λ t. AreApart t (back s)) (λ t c. clear_turned t s c) X clear) h))
    (order s.a.x s.b.x)

-- ---- a point that sees a vertex
pub not_turned : (X : List Segment) (p : Point) (u : Direction) → Each (NotAt p) X → turned X p u ≡ false
not_turned X p u apart = odd_none (leaves_before p u) X (each_map (NotAt p) (λ t. leaves_before p u t ≡ false) (λ t h. leaves_none p u t (same_not t.a p h.0) (same_not t.b p h.1)) X apart)

pub no_times : (X : List Segment) (s : Segment) → Each (NotAt s.b) X → times X s ≡ false
no_times X s apart = odd_none (twin s) X (each_map (NotAt s.b) (λ t. twin s t ≡ false) (λ t h. by_tests (same_point t.a s.a) (same_point t.b s.b) (same_point t.a s.b) (same_point t.b s.a) (same_not t.b s.b h.1) (same_not t.a s.b h.0)) X apart)
  where
    by_tests : (a b c d : Bool) → b ≡ false → c ≡ false → xor (a && b) (c && d) ≡ false
    by_tests true b c d e f = rw (e, f)
    by_tests false b c d e f = rw f

-- s goes from a vertex to a point off all steps, and meets none of them but at its start
pub sight : (s : Segment) (X : List Segment) → Even X → Each (Tied s) X → Each (NotAt s.b) X → s.a ≢ s.b → xor (above X s.a) (turned X s.a (direction s)) ≡ above X s.b
sight s X even tied apart n =
    let e = across s X even tied n in
    last (left X s) (above X s.b) (turned X s.b (direction (back s))) (times X s) e (not_turned X s.b (direction (back s)) apart) (no_times X s apart)
  where
    last : (l a u m : Bool) → l ≡ xor (xor a u) m → u ≡ false → m ≡ false → l ≡ a
    last l a u m e f g = rw (e, f, g) (xor_none (xor a false) ∙ xor_none a)

-- s goes from the end of d to such a point, inside the wedge from d, reversed, clockwise to the next step
pub seen_left : (d s : Segment) (X : List Segment) → Even X → Each (Tied d) X → d.a ≢ d.b → s.a ≡ d.b → Each (Outside d (direction s)) X →
    Each (Tied s) X → Each (NotAt s.b) X → s.a ≢ s.b → left X d ≡ above X s.b
seen_left d s X even tied apart e out tied' off n =
    corner d (direction s) X even tied out apart ∙ ap (λ p. xor (above X p) (turned X p (direction s))) (sym e) ∙ sight s X even tied' off n

-- ---- a point above all steps
-- a middle of two heights is not above the higher one
pub under : (s : Segment) (p : Point) → NoHigher p s → int_lt p.x s.a.x ≡ false → int_lt p.x s.b.x ≡ true → int_lt (area s.a s.b p) (pos 0) ≡ false
under s p h e f =
    let k = no_lt p.x s.a.x e in
    let l = yes_lt p.x s.b.x f in
    let g0 = h.0 in
    let g1 = h.1 in
    let m = mul_not_negative (s.b.x -ℤ p.x) (p.y -ℤ s.a.y) (omega (arith, signed)) (omega (arith, signed)) in
    let n = mul_not_negative (p.x -ℤ s.a.x) (p.y -ℤ s.b.y) (omega (arith, signed)) (omega (arith, signed)) in
    let w : area s.a s.b p ≡ (s.b.x -ℤ p.x) *ℤ (p.y -ℤ s.a.y) +ℤ (p.x -ℤ s.a.x) *ℤ (p.y -ℤ s.b.y) = weights s p in
    lt_no (area s.a s.b p) (pos 0) (by_sum (area s.a s.b p) _ _ w m n)
  where
    weights : (s : Segment) (p : Point) → area s.a s.b p ≡ (s.b.x -ℤ p.x) *ℤ (p.y -ℤ s.a.y) +ℤ (p.x -ℤ s.a.x) *ℤ (p.y -ℤ s.b.y)
    weights s p = simp multiplied (omega (arith, signed))

    by_sum : (a m n : ℤ) → a ≡ m +ℤ n → pos 0 ≤ℤ m → pos 0 ≤ℤ n → pos 0 ≤ℤ a
    by_sum a m n e h k = omega (arith, signed)

not_over : (s : Segment) (p : Point) → NoHigher p s → over s p ≡ false
not_over s p h = by_tests (int_lt p.x s.a.x) (int_lt p.x s.b.x) (int_lt (area s.a s.b p) (pos 0)) (under s p h)
  where
    by_tests : (a b c : Bool) → (a ≡ false → b ≡ true → c ≡ false) → not a && b && c ≡ false
    by_tests true b c f = refl
    by_tests false true c f = f refl refl
    by_tests false false c f = refl

pub nothing_above : (X : List Segment) (p : Point) → Each (NoHigher p) X → above X p ≡ false
nothing_above X p h = odd_none (λ t. crosses t p) X (each_map (NoHigher p) (λ t. crosses t p ≡ false) (λ t k. cc (not_over t p k, not_over (back t) p (k.1, k.0))) X h)
