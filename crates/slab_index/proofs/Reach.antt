-- Segments wholly below a point, or wholly above another segment, aren't what is first above the point.
use Rattle.std.proofs.Common.{◌≡◌, ℕ, zero, suc, ◌+◌, ◌<◌, ◌≤◌, refl, sym, ◌∙◌, ap, subst, arith, ⊎_elim, ℤ, pos, ◌-ℤ◌, ◌+ℤ◌, ◌*ℤ◌, ◌<ℤ◌, ◌≤ℤ◌, Bool, true, false, cond, ◌&&◌, ◌||◌, IsTrue, List, [], ◌∷◌, length, take, drop, get_or, drop-cons, length-drop, get_or-drop, Option, Some, None, ◌⊎◌}
use Rattle.std.specs.Prelude.{neg_ℤ, nat_lt, fold, filter, int_lt, int_le, All, if◌then◌else◌}
use Rattle.std.specs.Int.{int_min, int_max}
use Rattle.std.specs.Ordering.{int_eq, int_cmp, is_lt}
use Rattle.std.specs.Cmp.{int_cmp_total}
use Rattle.std.specs.List.Sorted.{IsSortedByKey, IsPartitionedBy}
use Rattle.std.specs.declared.cmp.Ordering.TheVariants.{Less, Equal, Greater}
use Rattle.std.proofs.lemmas.Bool.{and_parts, or_cases, false≢true}
use Rattle.std.proofs.lemmas.Bool.Decides.{Decides-int_eq}
use Rattle.std.proofs.lemmas.Int.{ints}
use Rattle.std.proofs.lemmas.List.{get_or_read}
use Rattle.std.proofs.lemmas.List.Elements.{All-cons, All-head, All-tail, All-nil}
use Rattle.std.proofs.lemmas.List.Sorted.{ranks_by, sorted_far}
use Rattle.topo_base.specs.Point.{Point}
use Rattle.plane.specs.Orientation.{area, is_right, is_straight}
use Rattle.plane.specs.Segment.{Segment, is_between, on_segment}
use Rattle.plane.specs.Crossings.{back}
use Rattle.plane.specs.Parity.{is_over, passes_above}
use Rattle.plane.specs.Relation.{turn}
use Rattle.plane.proofs.PointTests.{Decides-int_lt}
use Rattle.plane.proofs.Ring.{multiplied, signed}
use Rattle.plane.proofs.Tests.{lt_yes, lt_no, yes_lt}
use Rattle.plane.proofs.Signs.{mul_positive, mul_not_negative, order}
use Rattle.slab_index.specs.declared.piece.Piece.{Piece}
use Rattle.slab_index.specs.Reach.{top, bottom, IsRising, IsNoHigher}
use Rattle.slab_index.specs.Above.{segment_of, rightward, run, is_lower, is_lower_rightward, with_lower, IsFoundOver}
use Rattle.slab_index.specs.On.{with_less}
use Rattle.slab_index.proofs.Paths.{decide}
use Rattle.slab_index.proofs.Placed.{all_filtered, none_some}
use Rattle.plane.proofs.ListTests.{some_same}

-- ---- a way from a to b, to the right, at p: how its area is bounded by heights at or above its ends, or at or below them
not_under : (ax ay bx by px py t : ℤ) → ax ≤ℤ px → px ≤ℤ bx → ay ≤ℤ t → by ≤ℤ t → pos 0 ≤ℤ ((bx -ℤ ax) *ℤ (t -ℤ py) +ℤ ((bx -ℤ ax) *ℤ (py -ℤ ay) -ℤ (by -ℤ ay) *ℤ (px -ℤ ax)))
not_under ax ay bx by px py t h k i j =
    let u = simp multiplied at (mul_not_negative (bx -ℤ px) (t -ℤ ay) (omega (arith, signed)) (omega (arith, signed))) in
    let v = simp multiplied at (mul_not_negative (px -ℤ ax) (t -ℤ by) (omega (arith, signed)) (omega (arith, signed))) in
    simp multiplied (omega (arith, signed))

not_upper : (ax ay bx by px py t : ℤ) → ax ≤ℤ px → px ≤ℤ bx → t ≤ℤ ay → t ≤ℤ by → ((bx -ℤ ax) *ℤ (t -ℤ py) +ℤ ((bx -ℤ ax) *ℤ (py -ℤ ay) -ℤ (by -ℤ ay) *ℤ (px -ℤ ax))) ≤ℤ pos 0
not_upper ax ay bx by px py t h k i j =
    let u = simp multiplied at (mul_not_negative (bx -ℤ px) (ay -ℤ t) (omega (arith, signed)) (omega (arith, signed))) in
    let v = simp multiplied at (mul_not_negative (px -ℤ ax) (by -ℤ t) (omega (arith, signed)) (omega (arith, signed))) in
    simp multiplied (omega (arith, signed))

-- a is the area and r the run of one whose bottom is b, c and q those of another whose top is t below b
apart : (a r b c q t y : ℤ) → pos 0 <ℤ r → pos 0 <ℤ q → t <ℤ b → (r *ℤ (b -ℤ y) +ℤ a) ≤ℤ pos 0 → pos 0 ≤ℤ (q *ℤ (t -ℤ y) +ℤ c) → (a *ℤ q) <ℤ (c *ℤ r)
apart a r b c q t y hr hq h k l =
    let u = simp multiplied at (mul_not_negative q (neg_ℤ (r *ℤ (b -ℤ y) +ℤ a)) (omega (arith, signed)) (omega (arith, signed))) in
    let v = simp multiplied at (mul_not_negative r (q *ℤ (t -ℤ y) +ℤ c) (omega (arith, signed)) l) in
    let w = simp multiplied at (mul_positive (q *ℤ r) (b -ℤ t) (mul_positive q r hq hr) (omega (arith, signed))) in
    simp multiplied (omega (arith, signed))

-- ---- heights of segments
tops : (a b : ℤ) → (a ≤ℤ int_max a b) × (b ≤ℤ int_max a b)
tops a b =
    ⊎_elim
    (λ (h : b <ℤ a). subst (λ t. (a ≤ℤ cond t a b) × (b ≤ℤ cond t a b)) (sym (lt_yes b a h)) (omega (arith, signed), omega (arith, signed)))
    (λ (h : a ≤ℤ b). subst (λ t. (a ≤ℤ cond t a b) × (b ≤ℤ cond t a b)) (sym (lt_no b a h)) (h, omega (arith, signed)))
    (order b a)

bottoms : (a b : ℤ) → (int_min a b ≤ℤ a) × (int_min a b ≤ℤ b)
bottoms a b =
    ⊎_elim
    (λ (h : b <ℤ a). subst (λ t. (cond t b a ≤ℤ a) × (cond t b a ≤ℤ b)) (sym (lt_yes b a h)) (omega (arith, signed), omega (arith, signed)))
    (λ (h : a ≤ℤ b). subst (λ t. (cond t b a ≤ℤ a) × (cond t b a ≤ℤ b)) (sym (lt_no b a h)) (omega (arith, signed), h))
    (order b a)

-- a way to the right that passes above p: where p is between its ends
record IsPassing (a b p : Point) : Type 0 where
  left : a.x ≤ℤ p.x
  right : p.x <ℤ b.x
  above : area a b p <ℤ pos 0

passing : (a b p : Point) → IsTrue (passes_above a b p) → IsPassing a b p
passing a b p h =
    let i = and_parts (int_le a.x p.x && int_lt p.x b.x) (is_right a b p) h in
    let j = and_parts (int_le a.x p.x) (int_lt p.x b.x) i.0 in
    let u = j.0 in
    let v = j.1 in
    record { left = omega (arith, ints); right = omega (arith, ints); above = (let w = i.1 in omega (arith, ints)) }

-- nothing at or above both ends is below what passes above p
passing_low : (a b p : Point) → IsPassing a b p → a.y ≤ℤ p.y → b.y ≤ℤ p.y → ⊥
passing_low a b p h i j =
    let k = h.left in
    let l = h.right in
    let m = h.above in
    let n = not_under a.x a.y b.x b.y p.x p.y p.y k (omega (arith, signed)) i j in
    let o = simp multiplied at n in
    let q = simp multiplied at m in
    omega (arith, signed)

-- a segment over p isn't wholly below it
pub over_high : (p : Point) (e : Piece) → IsTrue (is_over p (segment_of e)) → p.y <ℤ top e
over_high p e h =
    ⊎_elim
    (λ (l : p.y <ℤ top e). l)
    (λ (l : top e ≤ℤ p.y).
    let t = tops e.start.y e.end.y in
    let t0 = t.0 in
    let t1 = t.1 in
    ⊎_elim
    (λ (k : passes_above e.start e.end p ≡ true). absurd (passing_low e.start e.end p (passing e.start e.end p k) (omega (arith, signed)) (omega (arith, signed))))
    (λ (k : passes_above e.end e.start p ≡ true). absurd (passing_low e.end e.start p (passing e.end e.start p k) (omega (arith, signed)) (omega (arith, signed))))
    (or_cases (passes_above e.start e.end p) (passes_above e.end e.start p) h))
    (order p.y (top e))

-- ---- segments in the order of their tops
rising_far : (es : List Piece) → IsRising es → (i j : ℕ) (d : Piece) → i ≤ j → j < length es → top (get_or es i d) ≤ℤ top (get_or es j d)
rising_far [] r i j d le lt = absurd (omega arith)
rising_far (e ∷ es) r zero zero d le lt = omega (arith, signed)
rising_far (e ∷ es) r zero (suc j) d le lt = r.0 j d (omega arith)
rising_far (e ∷ es) r (suc i) zero d le lt = absurd (omega arith)
rising_far (e ∷ es) r (suc i) (suc j) d le lt = rising_far es r.1 i j d (omega arith) (omega arith)

-- what is sought by halving is found
pub parted : (es : List Piece) (h : ℤ) → IsRising es → IsPartitionedBy (λ (e : Piece). int_lt (top e) h) es
parted es h r i j d le lt here =
    let k = (Decides-int_lt (top (get_or es j d)) h).0 here in
    let l = rising_far es r i j d le lt in
    (Decides-int_lt (top (get_or es i d)) h).1 (omega (arith, signed))

pub all_taken : (h : ℤ) (es : List Piece) (n : ℕ) → n ≤ length es → ((k : ℕ) (d : Piece) → k < n → int_lt (top (get_or es k d)) h ≡ true) → All (λ (e : Piece). top e <ℤ h) (take n es)
all_taken h es zero le below = All-nil (λ (e : Piece). top e <ℤ h)
all_taken h [] (suc n) le below = absurd (omega arith)
all_taken h (e ∷ es) (suc n) le below =
    All-cons (λ (f : Piece). top f <ℤ h) e (take n es) ((Decides-int_lt (top e) h).0 (below 0 e (omega arith)))
    (all_taken h es n (omega arith) (λ k d lt. below (suc k) d (omega arith)))

pub rising_rest : (es : List Piece) (n : ℕ) → IsRising es → IsRising (drop n es)
rising_rest es zero r = r
rising_rest [] (suc n) r = r
rising_rest (e ∷ es) (suc n) r = rising_rest es n r.1

pub rising_filtered : (t : Piece → Bool) (es : List Piece) → IsRising es → IsRising (filter t es)
rising_filtered t [] r = r
rising_filtered t (e ∷ es) r = by_test (t e) (all_filtered (λ f. top e ≤ℤ top f) t es r.0) (rising_filtered t es r.1)
  where
    by_test : (b : Bool) → All (λ f. top e ≤ℤ top f) (filter t es) → IsRising (filter t es) → IsRising (cond b (e ∷ filter t es) (filter t es))
    by_test true all rest = (all, rest)
    by_test false all rest = rest

not_less : (a b : ℤ) → is_lt (int_cmp a b) ≡ false → b ≤ℤ a
not_less a b e =
    ⊎_elim
    (λ (h : a <ℤ b). absurd (false≢true (sym e ∙ ap (λ t. is_lt (cond t Less (cond (int_lt b a) Greater Equal))) ((Decides-int_lt a b).1 h))))
    (λ (h : b ≤ℤ a). h)
    (order a b)

rising_from : (es : List Piece) → ((i j : ℕ) (d : Piece) → i ≤ j → j < length es → top (get_or es i d) ≤ℤ top (get_or es j d)) → IsRising es
rising_from [] h = tt
rising_from (e ∷ es) h = (λ k d lt. h 0 (suc k) d (omega arith) (omega arith), rising_from es (λ i j d le lt. h (suc i) (suc j) d (omega arith) (omega arith)))

pub rising_sorted : (es : List Piece) → IsSortedByKey top int_cmp es → IsRising es
rising_sorted es up =
    rising_from es (λ i j d le lt. not_less (top (get_or es j d)) (top (get_or es i d)) (sorted_far (λ x y. is_lt (int_cmp (top x) (top y))) (ranks_by int_cmp_total top) es up i j d le lt))

-- ---- what leaves a search as it is
pub skipped : {A : Type 0} (W : A → Piece → A) (a : A) (es : List Piece) → ((k : ℕ) (d : Piece) → k < length es → W a (get_or es k d) ≡ a) → fold W a es ≡ a
skipped W a [] h = refl
skipped W a (e ∷ es) h = ap (λ b. fold W b es) (h 0 e (omega arith)) ∙ skipped W a es (λ k d lt. h (suc k) d (omega arith))

-- ---- what isn't first above a point
rightward_passing : (p : Point) (s : Segment) → IsTrue (is_over p s) → IsPassing (rightward s).a (rightward s).b p
rightward_passing p s h =
    ⊎_elim
    (λ (k : passes_above s.a s.b p ≡ true).
    let w = passing s.a s.b p k in
    let u = w.left in
    let v = w.right in
    subst (λ b. IsPassing (if b then s else back s).a (if b then s else back s).b p) (sym (lt_yes s.a.x s.b.x (omega (arith, signed)))) w)
    (λ (k : passes_above s.b s.a p ≡ true).
    let w = passing s.b s.a p k in
    let u = w.left in
    let v = w.right in
    subst (λ b. IsPassing (if b then s else back s).a (if b then s else back s).b p) (sym (lt_no s.a.x s.b.x (omega (arith, signed)))) w)
    (or_cases (passes_above s.a s.b p) (passes_above s.b s.a p) h)

ends_low : (s : Segment) (y : ℤ) → y ≤ℤ s.a.y → y ≤ℤ s.b.y → (y ≤ℤ (rightward s).a.y) × (y ≤ℤ (rightward s).b.y)
ends_low s y h k = by_side (int_lt s.a.x s.b.x)
  where
    by_side : (b : Bool) → (y ≤ℤ (if b then s else back s).a.y) × (y ≤ℤ (if b then s else back s).b.y)
    by_side true = (h, k)
    by_side false = (k, h)

ends_high : (s : Segment) (y : ℤ) → s.a.y ≤ℤ y → s.b.y ≤ℤ y → ((rightward s).a.y ≤ℤ y) × ((rightward s).b.y ≤ℤ y)
ends_high s y h k = by_side (int_lt s.a.x s.b.x)
  where
    by_side : (b : Bool) → ((if b then s else back s).a.y ≤ℤ y) × ((if b then s else back s).b.y ≤ℤ y)
    by_side true = (h, k)
    by_side false = (k, h)

no_order : (x y : ℤ) (b : Bool) → y <ℤ x → (int_lt x y || int_eq x y && b) ≡ false
no_order x y b h =
    ⊎_elim
    (λ (k : (int_lt x y || int_eq x y && b) ≡ true).
    absurd (⊎_elim
    (λ (l : int_lt x y ≡ true). (let m = yes_lt x y l in omega (arith, signed)))
    (λ (l : (int_eq x y && b) ≡ true). (let m = (Decides-int_eq x y).0 (and_parts (int_eq x y) b l).0 in omega (arith, signed)))
    (or_cases (int_lt x y) (int_eq x y && b) k)))
    (λ (k : (int_lt x y || int_eq x y && b) ≡ false). k)
    (decide (int_lt x y || int_eq x y && b))

-- what is wholly above another segment isn't lower
pub no_lower : (p : Point) (e f : Piece) → IsTrue (is_over p (segment_of e)) → IsTrue (is_over p (segment_of f)) → top f <ℤ bottom e → is_lower p (segment_of e) (segment_of f) ≡ false
no_lower p e f oe of h =
    let t = tops f.start.y f.end.y in
    let b = bottoms e.start.y e.end.y in
    let low = ends_low (segment_of e) (bottom e) b.0 b.1 in
    let high = ends_high (segment_of f) (top f) t.0 t.1 in
    by_ends (rightward (segment_of e)) (rightward (segment_of f)) (rightward_passing p (segment_of e) oe) (rightward_passing p (segment_of f) of) low.0 low.1 high.0 high.1
  where
    by_ends : (s t : Segment) → IsPassing s.a s.b p → IsPassing t.a t.b p → bottom e ≤ℤ s.a.y → bottom e ≤ℤ s.b.y → t.a.y ≤ℤ top f → t.b.y ≤ℤ top f → is_lower_rightward p s t ≡ false
    by_ends s t hs ht i j k l =
        let sl = hs.left in
        let sr = hs.right in
        let tl = ht.left in
        let tr = ht.right in
        let u = not_upper s.a.x s.a.y s.b.x s.b.y p.x p.y (bottom e) sl (omega (arith, signed)) i j in
        let v = not_under t.a.x t.a.y t.b.x t.b.y p.x p.y (top f) tl (omega (arith, signed)) k l in
        no_order (area t.a t.b p *ℤ run s) (area s.a s.b p *ℤ run t) (int_lt (turn t s) (pos 0))
        (apart (area s.a s.b p) (run s) (bottom e) (area t.a t.b p) (run t) (top f) p.y (omega (arith, signed)) (omega (arith, signed)) h u v)

not_both : (a b : Bool) → (a ≡ true → b ≡ false) → (a && b) ≡ false
not_both true b h = h refl
not_both false b h = refl

pub below_out : (p : Point) (o : Option Piece) (e : Piece) → top e ≤ℤ p.y → with_lower p o e ≡ o
below_out p o e h = by_found o (not_over (decide (is_over p (segment_of e))))
  where
    not_over : (is_over p (segment_of e) ≡ true) ⊎ (is_over p (segment_of e) ≡ false) → is_over p (segment_of e) ≡ false
    not_over d = ⊎_elim (λ (k : is_over p (segment_of e) ≡ true). absurd (let l = over_high p e k in omega (arith, signed))) (λ (k : is_over p (segment_of e) ≡ false). k) d

    by_found : (o : Option Piece) → is_over p (segment_of e) ≡ false → with_lower p o e ≡ o
    by_found None k = ap (λ b. if b then Some e else None) k
    by_found (Some f) k = ap (λ b. if b && is_lower p (segment_of e) (segment_of f) then Some e else Some f) k

pub above_out : (p : Point) (f e : Piece) → IsTrue (is_over p (segment_of f)) → top f <ℤ bottom e → with_lower p (Some f) e ≡ Some f
above_out p f e of h =
    ap (λ b. if b then Some e else Some f) (not_both (is_over p (segment_of e)) (is_lower p (segment_of e) (segment_of f)) (λ k. no_lower p e f k of h))

-- ---- what isn't on a point
on_heights : (p : Point) (e : Piece) → IsTrue (on_segment p (segment_of e)) → (bottom e ≤ℤ p.y) × (p.y ≤ℤ top e)
on_heights p e h =
    let i = and_parts (is_straight e.start e.end p && is_between e.start.x p.x e.end.x) (is_between e.start.y p.y e.end.y) h in
    let t = tops e.start.y e.end.y in
    let b = bottoms e.start.y e.end.y in
    let t0 = t.0 in
    let t1 = t.1 in
    let b0 = b.0 in
    let b1 = b.1 in
    ⊎_elim
    (λ (k : (int_le e.start.y p.y && int_le p.y e.end.y) ≡ true).
    let l = and_parts (int_le e.start.y p.y) (int_le p.y e.end.y) k in
    let u = l.0 in
    let v = l.1 in
    let u' : e.start.y ≤ℤ p.y = omega (arith, ints) in
    let v' : p.y ≤ℤ e.end.y = omega (arith, ints) in
    (omega (arith, signed), omega (arith, signed)))
    (λ (k : (int_le e.end.y p.y && int_le p.y e.start.y) ≡ true).
    let l = and_parts (int_le e.end.y p.y) (int_le p.y e.start.y) k in
    let u = l.0 in
    let v = l.1 in
    let u' : e.end.y ≤ℤ p.y = omega (arith, ints) in
    let v' : p.y ≤ℤ e.start.y = omega (arith, ints) in
    (omega (arith, signed), omega (arith, signed)))
    (or_cases (int_le e.start.y p.y && int_le p.y e.end.y) (int_le e.end.y p.y && int_le p.y e.start.y) i.1)

not_on : (p : Point) (e : Piece) → (IsTrue (on_segment p (segment_of e)) → ⊥) → (o : Option ℕ) → with_less p o e ≡ o
not_on p e off o = by_found o (⊎_elim (λ (k : on_segment p (segment_of e) ≡ true). absurd (off k)) (λ (k : on_segment p (segment_of e) ≡ false). k) (decide (on_segment p (segment_of e))))
  where
    by_found : (o : Option ℕ) → on_segment p (segment_of e) ≡ false → with_less p o e ≡ o
    by_found None k = ap (λ b. if b then Some e.edge else None) k
    by_found (Some n) k = ap (λ b. if b && nat_lt e.edge n then Some e.edge else Some n) k

pub below_off : (p : Point) (o : Option ℕ) (e : Piece) → top e <ℤ p.y → with_less p o e ≡ o
below_off p o e h = not_on p e (λ k. let l = (on_heights p e k).1 in omega (arith, signed)) o

pub above_off : (p : Point) (o : Option ℕ) (e : Piece) → p.y <ℤ bottom e → with_less p o e ≡ o
above_off p o e h = not_on p e (λ k. let l = (on_heights p e k).0 in omega (arith, signed)) o

pub front_skipped : {A : Type 0} (W : A → Piece → A) (a : A) (es : List Piece) (n : ℕ) (h : ℤ) → All (λ (e : Piece). top e <ℤ h) (take n es) → ((e : Piece) → top e <ℤ h → W a e ≡ a) → fold W a es ≡ fold W a (drop n es)
front_skipped W a es zero h below out = refl
front_skipped W a [] (suc n) h below out = refl
front_skipped W a (e ∷ es) (suc n) h below out =
    ap (λ b. fold W b es) (out e (All-head (λ (f : Piece). top f <ℤ h) e (take n es) below))
    ∙ front_skipped W a es n h (All-tail (λ (f : Piece). top f <ℤ h) e (take n es) below) out

pub rest_here : (es : List Piece) (i : ℕ) (e : Piece) → i < length es → e ≡ get_or es i e → drop i es ≡ e ∷ drop (i + 1) es
rest_here es i e h is = let one : suc i ≡ i + 1 = omega arith in drop-cons es i e h ∙ (λ k. sym is k ∷ drop (one k) es)

pub none_here : (es : List Piece) (i : ℕ) → length es ≤ i → drop i es ≡ []
none_here [] zero h = refl
none_here [] (suc i) h = refl
none_here (e ∷ es) zero h = absurd (omega arith)
none_here (e ∷ es) (suc i) h = none_here es i (omega arith)

-- all from here on are at or above the floor of this one
pub all_done : (es : List Piece) (i : ℕ) (rise : ℕ) (e : Piece) (floor : ℤ) → i < length es → e ≡ get_or es i e → IsRising es → All (IsNoHigher rise) es → floor ≡ top e -ℤ pos rise → (k : ℕ) (d : Piece) → k < length (drop i es) → floor ≤ℤ bottom (get_or (drop i es) k d)
all_done es i rise e floor h is rising short fl k d lt =
    let n = length-drop i es in
    let far = rising_far es rising i (i + k) d (omega arith) (omega (arith, n)) in
    let low = short (i + k) d (omega (arith, n)) in
    let one = get_or_read es i e h is d in
    subst (λ (f : Piece). floor ≤ℤ bottom f) (sym (get_or-drop i es k d)) (by_sums far low (ap top one) fl)
  where
    by_sums : {a b c t : ℤ} → a ≤ℤ c → c ≤ℤ (b +ℤ pos rise) → t ≡ a → floor ≡ t -ℤ pos rise → floor ≤ℤ b
    by_sums x y z w = omega (arith, signed)

pub done_above : (p : Point) (o : Option Piece) (f e : Piece) (h : ℤ) → IsFoundOver p o → o ≡ Some f → top f <ℤ h → h ≤ℤ bottom e → with_lower p o e ≡ o
done_above p None f e h of is t b = none_some f is
done_above p (Some g) f e h of is t b = above_out p g e of (subst (λ (x : Piece). top x <ℤ bottom e) (sym (some_same g f is)) (omega (arith, signed)))
