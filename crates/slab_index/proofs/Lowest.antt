-- The lowest segment over a point is found by seeing one segment after another.
use Rattle.std.proofs.Common.{◌≡◌, refl, sym, ap, subst, arith, ⊎_elim, ℤ, pos, ◌-ℤ◌, ◌*ℤ◌, ◌<ℤ◌, Bool, true, false, ◌&&◌, ◌||◌, IsTrue, List, [], ◌∷◌, ◌++◌, append_assoc, Option, Some, None}
use Rattle.std.specs.Prelude.{fold, int_lt, int_le, Contains, if◌then◌else◌}
use Rattle.std.specs.Ordering.{int_eq}
use Rattle.std.proofs.lemmas.Bool.{and_parts, and_from, or_left, or_right, or_cases}
use Rattle.std.proofs.lemmas.List.{append-nil}
use Rattle.std.proofs.lemmas.List.Elements.{Contains-append_left, Contains-push, Contains-push_cases}
use Rattle.std.proofs.lemmas.Bool.Decides.{Decides-int_eq}
use Rattle.std.proofs.lemmas.Int.{ints}
use Rattle.topo_base.specs.Point.{Point}
use Rattle.plane.specs.Orientation.{area, is_right}
use Rattle.plane.specs.Segment.{Segment}
use Rattle.plane.specs.Crossings.{back}
use Rattle.plane.specs.Parity.{is_over, passes_above}
use Rattle.plane.specs.Relation.{turn}
use Rattle.plane.proofs.Ring.{signed, mul_comm}
use Rattle.plane.proofs.Tests.{lt_yes, lt_no, yes_lt}
use Rattle.slab_index.specs.declared.piece.Piece.{Piece}
use Rattle.slab_index.specs.Above.{segment_of, rightward, run, is_lower, is_lower_rightward, IsFirstAbove, is_found_lower, with_lower}
use Rattle.slab_index.proofs.Paths.{both_ways, decide, second_no}
use Rattle.slab_index.proofs.Order.{less_less, not_less, same_same}

-- a segment over a point goes to the right
pub goes_right : (p : Point) (s : Segment) → IsTrue (is_over p s) → pos 0 <ℤ run (rightward s)
goes_right p s h =
    ⊎_elim
    (λ (e : passes_above s.a s.b p ≡ true).
    let i = and_parts (int_le s.a.x p.x && int_lt p.x s.b.x) (is_right s.a s.b p) e in
    let j = and_parts (int_le s.a.x p.x) (int_lt p.x s.b.x) i.0 in
    let l : s.a.x <ℤ s.b.x = (let u = j.0 in let v = j.1 in omega (arith, ints)) in
    subst (λ b. pos 0 <ℤ run (if b then s else back s)) (sym (lt_yes s.a.x s.b.x l)) (omega (arith, signed)))
    (λ (e : passes_above s.b s.a p ≡ true).
    let i = and_parts (int_le s.b.x p.x && int_lt p.x s.a.x) (is_right s.b s.a p) e in
    let j = and_parts (int_le s.b.x p.x) (int_lt p.x s.a.x) i.0 in
    let l : s.b.x <ℤ s.a.x = (let u = j.0 in let v = j.1 in omega (arith, ints)) in
    subst (λ b. pos 0 <ℤ run (if b then s else back s)) (sym (lt_no s.a.x s.b.x (omega (arith, signed)))) (omega (arith, signed)))
    (or_cases (passes_above s.a s.b p) (passes_above s.b s.a p) h)

-- less, or equal where the third is below 0
pub data Order (x y z : ℤ) : Type 0 where
  less : pos 0 <ℤ (y -ℤ x) → Order x y z
  same : y -ℤ x ≡ pos 0 → z <ℤ pos 0 → Order x y z

order_of : (x y z : ℤ) → (int_lt x y || int_eq x y && int_lt z (pos 0)) ≡ true → Order x y z
order_of x y z h =
    ⊎_elim
    (λ (e : int_lt x y ≡ true). less (let k = yes_lt x y e in omega (arith, signed)))
    (λ (e : (int_eq x y && int_lt z (pos 0)) ≡ true).
    let i = and_parts (int_eq x y) (int_lt z (pos 0)) e in
    same (let k = (Decides-int_eq x y).0 i.0 in omega (arith, signed)) (yes_lt z (pos 0) i.1))
    (or_cases (int_lt x y) (int_eq x y && int_lt z (pos 0)) h)

test_of : (x y z : ℤ) → Order x y z → (int_lt x y || int_eq x y && int_lt z (pos 0)) ≡ true
test_of x y z (less h) = or_left (int_lt x y) (int_eq x y && int_lt z (pos 0)) (lt_yes x y (omega (arith, signed)))
test_of x y z (same e h) = or_right (int_lt x y) (int_eq x y && int_lt z (pos 0)) (and_from (int_eq x y) (int_lt z (pos 0)) ((Decides-int_eq x y).1 (omega (arith, signed))) (lt_yes z (pos 0) h))

-- the turns are slopes in order: h / r is the slope of a segment that goes r to the right and h up
turned : (r h q i : ℤ) → r *ℤ i -ℤ h *ℤ q ≡ i *ℤ r -ℤ h *ℤ q
turned r h q i = ap (λ z. z -ℤ h *ℤ q) (mul_comm r i)

-- a, b and c are areas, r, q and w how far segments go to the right, h, i and j how far up
trans_by : (a r h b q i c w j : ℤ) → pos 0 <ℤ r → pos 0 <ℤ q → pos 0 <ℤ w →
    Order (b *ℤ r) (a *ℤ q) (q *ℤ h -ℤ i *ℤ r) → Order (c *ℤ q) (b *ℤ w) (w *ℤ i -ℤ j *ℤ q) → Order (c *ℤ r) (a *ℤ w) (w *ℤ h -ℤ j *ℤ r)
trans_by a r h b q i c w j hr hq hw (less x) (less y) = less (less_less a r b q c w hr hq hw x (omega (arith, signed)))
trans_by a r h b q i c w j hr hq hw (less x) (same y l) = less (less_less a r b q c w hr hq hw x (omega (arith, signed)))
trans_by a r h b q i c w j hr hq hw (same x k) (less y) = less (not_less a r b q c w hr hq hw (omega (arith, signed)) y)
trans_by a r h b q i c w j hr hq hw (same x k) (same y l) =
    let e = mul_comm q h in
    let f = mul_comm w i in
    let g = mul_comm w h in
    -- slopes ascend from h / r to i / q to j / w
    let s = less_less j w i q h r hw hq hr (omega (arith, signed)) (omega (arith, signed)) in
    same (same_same a r b q c w hq x y) (omega (arith, signed))

pub lower_trans : (p : Point) (s t u : Segment) → IsTrue (is_over p s) → IsTrue (is_over p t) → IsTrue (is_over p u) → is_lower p s t ≡ true → is_lower p t u ≡ true → is_lower p s u ≡ true
lower_trans p s t u os ot ou h k = by_order (rightward s) (rightward t) (rightward u) (goes_right p s os) (goes_right p t ot) (goes_right p u ou) h k
  where
    by_order : (s t u : Segment) → pos 0 <ℤ run s → pos 0 <ℤ run t → pos 0 <ℤ run u → is_lower_rightward p s t ≡ true → is_lower_rightward p t u ≡ true → is_lower_rightward p s u ≡ true
    by_order s t u hs ht hu h k =
        test_of (area u.a u.b p *ℤ run s) (area s.a s.b p *ℤ run u) (turn u s)
        (trans_by (area s.a s.b p) (run s) (s.b.y -ℤ s.a.y) (area t.a t.b p) (run t) (t.b.y -ℤ t.a.y) (area u.a u.b p) (run u) (u.b.y -ℤ u.a.y) hs ht hu
        (order_of (area t.a t.b p *ℤ run s) (area s.a s.b p *ℤ run t) (turn t s) h)
        (order_of (area u.a u.b p *ℤ run t) (area t.a t.b p *ℤ run u) (turn u t) k))

-- nothing is lower than itself
pub not_lower : (p : Point) (s : Segment) → is_lower p s s ≡ false
not_lower p s = by_itself (rightward s)
  where
    no_order : (x z : ℤ) → z ≡ pos 0 → Order x x z → ⊥
    no_order x z e (less h) = omega (arith, signed)
    no_order x z e (same d h) = omega (arith, signed)

    no_turn : (s : Segment) → turn s s ≡ pos 0
    no_turn s = let e = mul_comm (s.b.x -ℤ s.a.x) (s.b.y -ℤ s.a.y) in omega (arith, signed)

    by_itself : (s : Segment) → is_lower_rightward p s s ≡ false
    by_itself s =
        ⊎_elim
        (λ (e : is_lower_rightward p s s ≡ true). absurd (no_order (area s.a s.b p *ℤ run s) (turn s s) (no_turn s) (order_of (area s.a s.b p *ℤ run s) (area s.a s.b p *ℤ run s) (turn s s) e)))
        (λ (e : is_lower_rightward p s s ≡ false). e)
        (decide (is_lower_rightward p s s))

-- what is found among the segments that were seen
abbrev pub IsFound : Point → List Piece → Option Piece → Type 0
IsFound p pieces None = (e : Piece) → Contains pieces e → is_over p (segment_of e) ≡ false
IsFound p pieces (Some e) = IsFirstAbove p pieces e

-- one segment more
one_more : (p : Point) (done : List Piece) (x : Piece) (o : Option Piece) (found : Bool) → is_found_lower p o x ≡ found → IsFound p done o → IsFound p (done ++ x ∷ []) (if found then Some x else o)
one_more p done x None true e h = record {
  kept = Contains-push done x;
  over = e;
  first = λ f c over.
      ⊎_elim
      (λ (k : Contains done f). absurd (both_ways _ (h f k) over))
      (λ (k : x ≡ f). subst (λ g. is_lower p (segment_of g) (segment_of x) ≡ false) k (not_lower p (segment_of x)))
      (Contains-push_cases done x f c);
}
one_more p done x None false e h = λ f c.
    ⊎_elim
    (λ (k : Contains done f). h f k)
    (λ (k : x ≡ f). subst (λ g. is_over p (segment_of g) ≡ false) k e)
    (Contains-push_cases done x f c)
one_more p done x (Some g) true e h =
    let i = and_parts (is_over p (segment_of x)) (is_lower p (segment_of x) (segment_of g)) e in
    record {
      kept = Contains-push done x;
      over = i.0;
      first = λ f c over.
          ⊎_elim
          (λ (k : Contains done f).
          ⊎_elim
          (λ (l : is_lower p (segment_of f) (segment_of x) ≡ true). absurd (both_ways _ (h.first f k over) (lower_trans p (segment_of f) (segment_of x) (segment_of g) over i.0 h.over l i.1)))
          (λ (l : is_lower p (segment_of f) (segment_of x) ≡ false). l)
          (decide (is_lower p (segment_of f) (segment_of x))))
          (λ (k : x ≡ f). subst (λ g. is_lower p (segment_of g) (segment_of x) ≡ false) k (not_lower p (segment_of x)))
          (Contains-push_cases done x f c);
    }
one_more p done x (Some g) false e h = record {
  kept = Contains-append_left done (x ∷ []) g h.kept;
  over = h.over;
  first = λ f c over.
      ⊎_elim
      (λ (k : Contains done f). h.first f k over)
      (λ (k : x ≡ f). not_found f k over)
      (Contains-push_cases done x f c);
}
  where
    not_found : (f : Piece) → x ≡ f → IsTrue (is_over p (segment_of f)) → is_lower p (segment_of f) (segment_of g) ≡ false
    not_found f k over = second_no (is_over p (segment_of f)) (is_lower p (segment_of f) (segment_of g)) over (subst (λ z. is_found_lower p (Some g) z ≡ false) k e)

-- all of them
pub all_found : (p : Point) (rest done : List Piece) (o : Option Piece) → IsFound p done o → IsFound p (done ++ rest) (fold (with_lower p) o rest)
all_found p [] done o h = subst (λ l. IsFound p l o) (sym (append-nil done)) h
all_found p (x ∷ xs) done o h =
    subst (λ l. IsFound p l (fold (with_lower p) (with_lower p o x) xs)) (append_assoc done (x ∷ []) xs)
    (all_found p xs (done ++ x ∷ []) (with_lower p o x) (one_more p done x o (is_found_lower p o x) refl h))
