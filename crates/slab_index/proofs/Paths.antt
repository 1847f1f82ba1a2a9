-- The slab of a segment over a point is on the path of the point, and each segment on a path is seen once.
use Rattle.std.proofs.Common.{◌≡◌, ℕ, zero, suc, ◌+◌, ◌/◌, ◌^◌, ◌<◌, ◌≤◌, refl, sym, ◌∙◌, ap, subst, arith, ◌⊎◌, inl, inr, ⊎_elim, ℤ, ◌≤ℤ◌, Bool, true, false, ◌&&◌, ◌||◌, ◌==◌, IsTrue, List, [], ◌∷◌, ◌++◌, length, length-append, cond}
use Rattle.std.specs.Prelude.{filter, count_by, int_lt, int_le, Contains, if◌then◌else◌}
use Rattle.std.specs.List.{list_any}
use Rattle.std.proofs.Math.Nat.{two-pow-succ}
use Rattle.std.proofs.lemmas.Bool.{and_parts, or_left, or_right, or_cases}
use Rattle.std.proofs.lemmas.Int.{ints}
use Rattle.std.proofs.lemmas.List.Sums.{length-filter, sum_by-cons}
use Rattle.std.proofs.lemmas.List.Elements.{Contains-append_left, Contains-append_right, Contains-append_cases}
use Rattle.topo_base.specs.Point.{Point, IsCoordinate}
use Rattle.plane.specs.Orientation.{is_right, is_straight}
use Rattle.plane.specs.Segment.{is_between, on_segment}
use Rattle.plane.specs.Parity.{is_over, passes_above}
use Rattle.plane.proofs.ListTests.{contains_here, contains_there, contains_cases, contains_none}
use Rattle.slab_index.specs.declared.piece.Piece.{Piece}
use Rattle.slab_index.specs.Slabs.{leaf, common, slab_of, slabs_round, is_near}
use Rattle.slab_index.specs.Above.{segment_of}
use Rattle.slab_index.specs.Held.{IsInRange}
use Rattle.slab_index.specs.Path.{in_slab, in_slabs, on_path}

pub decide : (b : Bool) → (b ≡ true) ⊎ (b ≡ false)
decide true = inl refl
decide false = inr refl

pub both_ways : (b : Bool) → b ≡ false → b ≡ true → ⊥
both_ways b h k = let e = sym h ∙ k in cc

pub second_no : (a b : Bool) → a ≡ true → (a && b) ≡ false → b ≡ false
second_no true b h k = k
second_no false b h k = absurd (both_ways false refl h)

pub same_yes : (m n : ℕ) → m ≡ n → (m == n) ≡ true
same_yes m n e = grind arith

pub same_no : (m n : ℕ) → m < n → (n == m) ≡ false
same_no m n h = grind arith

pub yes_same : (m n : ℕ) → (m == n) ≡ true → m ≡ n
yes_same m n e = grind arith

-- ---- the smallest slab, by steps
pub common_none : (a b : ℕ) → common 0 a b ≡ a
unfolding common
common_none a b = refl

pub common_same : (n a b : ℕ) → (a == b) ≡ true → common (suc n) a b ≡ a
unfolding common
common_same n a b e = ap (λ t. if t then a else common n (a / 2) (b / 2)) e

pub common_more : (n a b : ℕ) → (a == b) ≡ false → common (suc n) a b ≡ common n (a / 2) (b / 2)
unfolding common
common_more n a b e = ap (λ t. if t then a else common n (a / 2) (b / 2)) e

pub common_if_same : (n a b : ℕ) → a ≡ b → common n a b ≡ a
common_if_same zero a b e = common_none a b
common_if_same (suc n) a b e = common_same n a b (same_yes a b e)

pub common_halved : (m n a b : ℕ) → m ≡ suc n → (a ≡ b → ⊥) → common m a b ≡ common n (a / 2) (b / 2)
common_halved m n a b e apart =
    ap (λ k. common k a b) e
    ∙ ⊎_elim (λ (k : (a == b) ≡ true). absurd (apart (yes_same a b k))) (λ (k : (a == b) ≡ false). common_more n a b k) (decide (a == b))

pub round_none : (m : ℕ) → slabs_round 0 m ≡ []
unfolding slabs_round
round_none m = refl

pub round_more : (n m : ℕ) → slabs_round (suc n) m ≡ m ∷ slabs_round n (m / 2)
unfolding slabs_round
round_more n m = refl

-- what is between two numbers is in the smallest slab round both
pub data IsAmid (a m b : ℕ) : Type 0 where
  upward : a ≤ m → m ≤ b → IsAmid a m b
  downward : b ≤ m → m ≤ a → IsAmid a m b

halves_amid : (a m b : ℕ) → IsAmid a m b → IsAmid (a / 2) (m / 2) (b / 2)
halves_amid a m b (upward h k) = upward (omega arith) (omega arith)
halves_amid a m b (downward h k) = downward (omega arith) (omega arith)

amid_same : (a m b : ℕ) → a ≡ b → IsAmid a m b → a ≡ m
amid_same a m b e (upward h k) = omega arith
amid_same a m b e (downward h k) = omega arith

-- a slab n halvings below the widest
pub record IsLevel (n m : ℕ) : Type 0 where
  pub low : 2 ^ n ≤ m
  pub high : m < 2 ^ n + 2 ^ n

halved : (n m : ℕ) → IsLevel (suc n) m → IsLevel n (m / 2)
halved n m h = let e = two-pow-succ n in record { low = (let k = h.low in omega arith); high = (let k = h.high in omega arith) }

pub met : (n a b m : ℕ) → IsLevel n a → IsLevel n b → IsAmid a m b → list_any (λ k. common n a b == k) (slabs_round (suc n) m) ≡ true
met zero a b m ha hb h =
    let e : a ≡ b = (let k = ha.low in let l = ha.high in let i = hb.low in let j = hb.high in omega arith) in
    let f = common_none a b ∙ amid_same a m b e h in
    subst (λ ks. list_any (λ k. common 0 a b == k) ks ≡ true) (sym (round_more 0 m)) (or_left (common 0 a b == m) (list_any (λ k. common 0 a b == k) (slabs_round 0 (m / 2))) (same_yes (common 0 a b) m f))
met (suc n) a b m ha hb h =
    subst (λ ks. list_any (λ k. common (suc n) a b == k) ks ≡ true) (sym (round_more (suc n) m))
    (⊎_elim
    (λ (e : (a == b) ≡ true).
    or_left (common (suc n) a b == m) (list_any (λ k. common (suc n) a b == k) (slabs_round (suc n) (m / 2)))
    (same_yes (common (suc n) a b) m (common_same n a b e ∙ amid_same a m b (yes_same a b e) h)))
    (λ (e : (a == b) ≡ false).
    or_right (common (suc n) a b == m) (list_any (λ k. common (suc n) a b == k) (slabs_round (suc n) (m / 2)))
    (subst (λ s. list_any (λ k. s == k) (slabs_round (suc n) (m / 2)) ≡ true) (sym (common_more n a b e))
    (met n (a / 2) (b / 2) (m / 2) (halved n a ha) (halved n b hb) (halves_amid a m b h))))
    (decide (a == b)))

leaf_level : (x : ℤ) → IsCoordinate x → IsLevel 42 (leaf x)
leaf_level x h = let k = h.low in let l = h.high in record { low = omega (arith, ints); high = omega (arith, ints) }

leaf_order : (x y : ℤ) → IsCoordinate x → IsCoordinate y → x ≤ℤ y → leaf x ≤ leaf y
leaf_order x y h k l = let i = h.low in let j = k.low in omega (arith, ints)

-- between the ends of a segment, from left to right
pub data IsAcross (e : Piece) (p : Point) : Type 0 where
  rightward : e.start.x ≤ℤ p.x → p.x ≤ℤ e.end.x → IsAcross e p
  leftward : e.end.x ≤ℤ p.x → p.x ≤ℤ e.start.x → IsAcross e p

pub near_across : (p : Point) (e : Piece) → IsCoordinate p.x → IsInRange e → IsAcross e p → IsTrue (is_near p e)
near_across p e h r across = met 42 (leaf e.start.x) (leaf e.end.x) (leaf p.x) (leaf_level e.start.x r.start) (leaf_level e.end.x r.end) (amid across)
  where
    amid : IsAcross e p → IsAmid (leaf e.start.x) (leaf p.x) (leaf e.end.x)
    amid (rightward i j) = upward (leaf_order e.start.x p.x r.start h i) (leaf_order p.x e.end.x h r.end j)
    amid (leftward i j) = downward (leaf_order e.end.x p.x r.end h i) (leaf_order p.x e.start.x h r.start j)

pub over_across : (p : Point) (e : Piece) → IsTrue (is_over p (segment_of e)) → IsAcross e p
over_across p e h =
    ⊎_elim
    (λ (k : passes_above e.start e.end p ≡ true).
    let i = and_parts (int_le e.start.x p.x && int_lt p.x e.end.x) (is_right e.start e.end p) k in
    let j = and_parts (int_le e.start.x p.x) (int_lt p.x e.end.x) i.0 in
    let u = j.0 in
    let v = j.1 in
    rightward (omega (arith, ints)) (omega (arith, ints)))
    (λ (k : passes_above e.end e.start p ≡ true).
    let i = and_parts (int_le e.end.x p.x && int_lt p.x e.start.x) (is_right e.end e.start p) k in
    let j = and_parts (int_le e.end.x p.x) (int_lt p.x e.start.x) i.0 in
    let u = j.0 in
    let v = j.1 in
    leftward (omega (arith, ints)) (omega (arith, ints)))
    (or_cases (passes_above e.start e.end p) (passes_above e.end e.start p) h)

pub on_across : (p : Point) (e : Piece) → IsTrue (on_segment p (segment_of e)) → IsAcross e p
on_across p e h =
    let i = and_parts (is_straight e.start e.end p && is_between e.start.x p.x e.end.x) (is_between e.start.y p.y e.end.y) h in
    let j = and_parts (is_straight e.start e.end p) (is_between e.start.x p.x e.end.x) i.0 in
    ⊎_elim
    (λ (k : (int_le e.start.x p.x && int_le p.x e.end.x) ≡ true).
    let l = and_parts (int_le e.start.x p.x) (int_le p.x e.end.x) k in
    let u = l.0 in
    let v = l.1 in
    rightward (omega (arith, ints)) (omega (arith, ints)))
    (λ (k : (int_le e.end.x p.x && int_le p.x e.start.x) ≡ true).
    let l = and_parts (int_le e.end.x p.x) (int_le p.x e.start.x) k in
    let u = l.0 in
    let v = l.1 in
    leftward (omega (arith, ints)) (omega (arith, ints)))
    (or_cases (int_le e.start.x p.x && int_le p.x e.end.x) (int_le e.end.x p.x && int_le p.x e.start.x) j.1)

-- ---- the segments of some slabs
filtered_head : {X : Type 0} (t : X → Bool) (y : X) (ys : List X) (x : X) (b : Bool) → t y ≡ b → t x ≡ true → (Contains ys x → Contains (filter t ys) x) → Contains (y ∷ ys) x → Contains (if b then y ∷ filter t ys else filter t ys) x
filtered_head t y ys x true d e rest c =
    ⊎_elim
    (λ (k : y ≡ x). subst (λ z. Contains (z ∷ filter t ys) x) (sym k) (contains_here x (filter t ys)))
    (λ (k : Contains ys x). contains_there x y (filter t ys) (rest k))
    (contains_cases x y ys c)
filtered_head t y ys x false d e rest c =
    ⊎_elim
    (λ (k : y ≡ x). absurd (both_ways (t y) d (subst (λ z. t z ≡ true) (sym k) e)))
    (λ (k : Contains ys x). rest k)
    (contains_cases x y ys c)

pub filtered : {X : Type 0} (t : X → Bool) (xs : List X) (x : X) → t x ≡ true → Contains xs x → Contains (filter t xs) x
filtered t [] x e c = absurd (contains_none x c)
filtered t (y ∷ ys) x e c = filtered_head t y ys x (t y) refl e (λ k. filtered t ys x e k) c

unfiltered_head : {X : Type 0} (t : X → Bool) (y : X) (ys : List X) (x : X) (b : Bool) → (Contains (filter t ys) x → Contains ys x) → Contains (if b then y ∷ filter t ys else filter t ys) x → Contains (y ∷ ys) x
unfiltered_head t y ys x true rest c =
    ⊎_elim
    (λ (k : y ≡ x). subst (λ z. Contains (z ∷ ys) x) (sym k) (contains_here x ys))
    (λ (k : Contains (filter t ys) x). contains_there x y ys (rest k))
    (contains_cases x y (filter t ys) c)
unfiltered_head t y ys x false rest c = contains_there x y ys (rest c)

pub unfiltered : {X : Type 0} (t : X → Bool) (xs : List X) (x : X) → Contains (filter t xs) x → Contains xs x
unfiltered t [] x c = absurd (contains_none x c)
unfiltered t (y ∷ ys) x c = unfiltered_head t y ys x (t y) (λ k. unfiltered t ys x k) c

pub into_slabs : (kept : List Piece) (ks : List ℕ) (e : Piece) → list_any (λ k. slab_of e == k) ks ≡ true → Contains kept e → Contains (in_slabs kept ks) e
into_slabs kept [] e h c = absurd (both_ways false refl h)
into_slabs kept (k ∷ ks) e h c =
    ⊎_elim
    (λ (i : (slab_of e == k) ≡ true). Contains-append_left (in_slab kept k) (in_slabs kept ks) e (filtered (λ x. slab_of x == k) kept e i c))
    (λ (i : list_any (λ k. slab_of e == k) ks ≡ true). Contains-append_right (in_slab kept k) (in_slabs kept ks) e (into_slabs kept ks e i c))
    (or_cases (slab_of e == k) (list_any (λ k. slab_of e == k) ks) h)

pub out_of_slabs : (kept : List Piece) (ks : List ℕ) (e : Piece) → Contains (in_slabs kept ks) e → Contains kept e
out_of_slabs kept [] e c = absurd (contains_none e c)
out_of_slabs kept (k ∷ ks) e c =
    ⊎_elim
    (λ (i : Contains (in_slab kept k) e). unfiltered (λ x. slab_of x == k) kept e i)
    (λ (i : Contains (in_slabs kept ks) e). out_of_slabs kept ks e i)
    (Contains-append_cases (in_slab kept k) (in_slabs kept ks) e c)

pub one_slab_on : (kept : List Piece) (m n number : ℕ) → m ≡ suc n → in_slabs kept (slabs_round m number) ≡ in_slab kept number ++ in_slabs kept (slabs_round n (number / 2))
one_slab_on kept m n number e = ap (λ k. in_slabs kept (slabs_round k number)) e ∙ ap (in_slabs kept) (round_more n number)

pub no_slab : (kept : List Piece) (m number : ℕ) → m ≡ 0 → in_slabs kept (slabs_round m number) ≡ []
no_slab kept m number e = ap (λ k. in_slabs kept (slabs_round k number)) e ∙ ap (in_slabs kept) (round_none number)

-- ---- how many there are
pub count_cons : {X : Type 0} (t : X → Bool) (x : X) (xs : List X) → count_by t (x ∷ xs) ≡ cond (t x) 1 0 + count_by t xs
count_cons t x xs = sum_by-cons (λ y. cond (t y) 1 0) x xs

count_either : {X : Type 0} (s t : X → Bool) → ((x : X) → s x ≡ true → t x ≡ true → ⊥) → (xs : List X) → count_by (λ x. s x || t x) xs ≡ count_by s xs + count_by t xs
count_either s t apart [] = refl
count_either s t apart (x ∷ xs) =
    let rest = count_either s t apart xs in
    let e = count_cons (λ x. s x || t x) x xs in
    let f = count_cons s x xs in
    let g = count_cons t x xs in
    let h = one (s x) (t x) (apart x) in
    omega (arith, e, f, g, h, rest)
  where
    one : (a b : Bool) → (a ≡ true → b ≡ true → ⊥) → cond (a || b) 1 0 ≡ cond a 1 0 + cond b 1 0
    one true true apart = absurd (apart refl refl)
    one true false apart = refl
    one false true apart = refl
    one false false apart = refl

none_above : (n m k : ℕ) → m < k → list_any (λ j. k == j) (slabs_round n m) ≡ false
none_above zero m k h = subst (λ ks. list_any (λ j. k == j) ks ≡ false) (sym (round_none m)) refl
none_above (suc n) m k h =
    subst (λ ks. list_any (λ j. k == j) ks ≡ false) (sym (round_more n m))
    (subst (λ b. (b || list_any (λ j. k == j) (slabs_round n (m / 2))) ≡ false) (sym (same_no m k h)) (none_above n (m / 2) k (omega arith)))

-- a slab and those round it, so few that they differ
pub record AreFew (n m : ℕ) : Type 0 where
  pub few : 2 ^ n ≤ m

abbrev AreSeenOnce : List Piece → List ℕ → Type 0
AreSeenOnce kept ks = length (in_slabs kept ks) ≡ count_by (λ e. list_any (λ k. slab_of e == k) ks) kept

one_slab : (kept : List Piece) (m : ℕ) (ks : List ℕ) → list_any (λ k. m == k) ks ≡ false → AreSeenOnce kept ks → AreSeenOnce kept (m ∷ ks)
one_slab kept m ks away rest =
    let a = length-append (in_slab kept m) (in_slabs kept ks) in
    let b = length-filter (λ e. slab_of e == m) kept in
    let c = count_either (λ e. slab_of e == m) (λ e. list_any (λ k. slab_of e == k) ks) apart kept in
    a ∙ sums _ _ _ _ b rest ∙ sym c
  where
    sums : (a b c d : ℕ) → a ≡ b → c ≡ d → a + c ≡ b + d
    sums a b c d e f = omega arith

    apart : (e : Piece) → (slab_of e == m) ≡ true → list_any (λ k. slab_of e == k) ks ≡ true → ⊥
    apart e h k = both_ways (list_any (λ k. m == k) ks) away (subst (λ s. list_any (λ k. s == k) ks ≡ true) (yes_same (slab_of e) m h) k)

one_le : (n : ℕ) → 1 ≤ 2 ^ n
one_le zero = omega arith
one_le (suc n) = let e = two-pow-succ n in let k = one_le n in omega arith

pub seen_once : (kept : List Piece) (n m : ℕ) → AreFew n m → AreSeenOnce kept (slabs_round (suc n) m)
seen_once kept zero m h = subst (AreSeenOnce kept) (sym (round_more 0 m)) (subst (λ ks. AreSeenOnce kept (m ∷ ks)) (sym (round_none (m / 2))) (one_slab kept m [] refl (none kept)))
  where
    none : (kept : List Piece) → AreSeenOnce kept []
    none [] = refl
    none (e ∷ es) = let k = none es in let c = count_cons (λ e. false) e es in omega (arith, k, c)
seen_once kept (suc n) m h =
    let e = two-pow-succ n in
    let k = one_le n in
    let few = h.few in
    subst (AreSeenOnce kept) (sym (round_more (suc n) m)) (one_slab kept m (slabs_round (suc n) (m / 2)) (none_above (suc n) (m / 2) m (omega arith)) (seen_once kept n (m / 2) (record { few = omega arith })))

-- all segments near a point are seen once
pub path_once : (p : Point) (kept : List Piece) → IsCoordinate p.x → length (on_path p kept) ≡ count_by (is_near p) kept
path_once p kept h = seen_once kept 42 (leaf p.x) (record { few = (leaf_level p.x h).low })
