-- The segments of a line and of a closed walk, one by one.
use Rattle.std.proofs.Common.{◌≡◌, ℕ, zero, suc, ◌+◌, ◌<◌, ◌≤◌, ◌%◌, refl, sym, ◌∙◌, ap, subst, arith, add-one, ◌↔◌, ◌⊎◌, ⊎_elim, Bool, true, false, cond, not, ◌||◌, List, [], ◌∷◌, ◌++◌, length, drop, IsTrue}
use Rattle.std.specs.Prelude.{count_by, fold, zip, slice_index_or}
use Rattle.std.specs.List.{list_any}
use Rattle.std.proofs.lemmas.List.{get_or_default}
use Rattle.std.proofs.lemmas.List.Sums.{sum_by-cons}
use Rattle.topo_base.specs.Point.{Point}
use Rattle.plane.specs.Segment.{Segment}
use Rattle.plane.specs.Line.{no_point, segments_of, last_vertex}
use Rattle.plane.specs.Parity.{xor, is_over, is_odd_over}
use Rattle.plane.specs.ClosedWalk.{closed_segments, point_at, is_higher, higher_of, top_of, turns, turns_below, is_hole_walk}

-- ---- a line, from a vertex on
pub rest_segments : (ps : List Point) (i : ℕ) → i + 1 < length ps → segments_of (drop i ps) ≡ record { a = point_at ps i; b = point_at ps (i + 1) } ∷ segments_of (drop (i + 1) ps)
rest_segments ps i h = rw add-one (onward ps i (omega arith))
  where
    onward : (ps : List Point) (i : ℕ) → suc i < length ps → segments_of (drop i ps) ≡ record { a = point_at ps i; b = point_at ps (suc i) } ∷ segments_of (drop (suc i) ps)
    onward [] i h = absurd (omega arith)
    onward (p ∷ []) i h = absurd (omega arith)
    onward (p ∷ q ∷ ps) zero h = refl
    onward (p ∷ q ∷ ps) (suc i) h = onward (q ∷ ps) i (omega arith)

pub no_segments : (ps : List Point) (i : ℕ) → length ps ≤ i + 1 → segments_of (drop i ps) ≡ []
no_segments [] zero h = refl
no_segments [] (suc i) h = refl
no_segments (p ∷ []) zero h = refl
no_segments (p ∷ []) (suc zero) h = refl
no_segments (p ∷ []) (suc (suc i)) h = refl
no_segments (p ∷ q ∷ ps) zero h = absurd (omega arith)
no_segments (p ∷ q ∷ ps) (suc i) h = no_segments (q ∷ ps) i (omega arith)

pub few_segments : (ps : List Point) → length (segments_of ps) ≤ length ps
few_segments [] = omega arith
few_segments (p ∷ []) = omega arith
few_segments (p ∷ q ∷ ps) = let h = few_segments (q ∷ ps) in omega arith

-- ---- the parity of a count
pub count_cons : (q : Point) (s : Segment) (ss : List Segment) → count_by (is_over q) (s ∷ ss) ≡ cond (is_over q s) 1 0 + count_by (is_over q) ss
count_cons q s ss = sum_by-cons (λ (t : Segment). cond (is_over q t) 1 0) s ss

pub odd_count : (q : Point) (ss : List Segment) → count_by (is_over q) ss % 2 ≡ cond (is_odd_over q ss) 1 0
odd_count q [] = refl
odd_count q (s ∷ ss) = ap (λ k. k % 2) (count_cons q s ss) ∙ step (is_over q s) (is_odd_over q ss) (count_by (is_over q) ss) (odd_count q ss)
  where
    step : (a b : Bool) (n : ℕ) → n % 2 ≡ cond b 1 0 → (cond a 1 0 + n) % 2 ≡ cond (xor a b) 1 0
    step true true n e = omega arith
    step true false n e = omega arith
    step false b n e = let f : 0 + n ≡ n = omega arith in ap (λ k. k % 2) f ∙ e

pub odd_is_count : (q : Point) (ss : List Segment) → count_by (is_over q) ss % 2 ≡ 1 ↔ IsTrue (is_odd_over q ss)
odd_is_count q ss = by_test (is_odd_over q ss) (count_by (is_over q) ss % 2) (odd_count q ss)
  where
    by_test : (b : Bool) (n : ℕ) → n ≡ cond b 1 0 → n ≡ 1 ↔ IsTrue b
    by_test true n e = (λ f. refl, λ f. e)
    by_test false n e = (λ f. absurd (omega arith), λ f. cc)

pub odd_append : (q : Point) (ss ts : List Segment) → is_odd_over q (ss ++ ts) ≡ xor (is_odd_over q ss) (is_odd_over q ts)
odd_append q [] ts = refl
odd_append q (s ∷ ss) ts = ap (λ z. xor (is_over q s) z) (odd_append q ss ts) ∙ xor_assoc (is_over q s) (is_odd_over q ss) (is_odd_over q ts)
  where
    xor_assoc : (a b c : Bool) → xor a (xor b c) ≡ xor (xor a b) c
    xor_assoc true true true = refl
    xor_assoc true true false = refl
    xor_assoc true false c = refl
    xor_assoc false b c = refl

-- ---- a closed walk
pub closed_is : (p : Point) (ps : List Point) → closed_segments (p ∷ ps) ≡ segments_of (p ∷ ps) ++ record { a = last_vertex (p ∷ ps); b = p } ∷ []
closed_is p ps = onward p ps p
  where
    onward : (q : Point) (qs : List Point) (end : Point) → segments_of (q ∷ qs ++ end ∷ []) ≡ segments_of (q ∷ qs) ++ record { a = last_vertex (q ∷ qs); b = end } ∷ []
    onward q [] end = refl
    onward q (r ∷ qs) end = ap (λ z. record { a = q; b = r } ∷ z) (onward r qs end)

pub last_vertex_is : (ps : List Point) (i : ℕ) → length ps ≡ i + 1 → last_vertex ps ≡ point_at ps i
last_vertex_is [] i h = absurd (omega arith)
last_vertex_is (p ∷ []) zero h = refl
last_vertex_is (p ∷ []) (suc i) h = absurd (omega arith)
last_vertex_is (p ∷ q ∷ ps) zero h = absurd (omega arith)
last_vertex_is (p ∷ q ∷ ps) (suc i) h = last_vertex_is (q ∷ ps) i (omega arith)

-- the higher of two points, and of many
abbrev pub higher : Point → Point → Point
higher p q = cond (is_higher q p) q p

pub top_is : (p : Point) (ps : List Point) → top_of (closed_segments (p ∷ ps)) ≡ fold higher p ps
top_is p [] = refl
top_is p (q ∷ ps) = onward p q ps
  where
    onward : (best q : Point) (qs : List Point) → fold higher_of best (segments_of (q ∷ qs ++ p ∷ [])) ≡ fold higher best (q ∷ qs)
    onward best q [] = refl
    onward best q (r ∷ qs) = onward (higher best q) r qs

-- ---- its turns
or_none : (b : Bool) → (b || false) ≡ b
or_none true = refl
or_none false = refl

or_assoc : (a b c : Bool) → (a || (b || c)) ≡ ((a || b) || c)
or_assoc true b c = refl
or_assoc false b c = refl

abbrev pub before_last : List Point → Point
before_last [] = no_point
before_last (p ∷ []) = no_point
before_last (p ∷ q ∷ []) = p
before_last (p ∷ q ∷ r ∷ ps) = before_last (q ∷ r ∷ ps)

-- whether a turn on the way through these points passes a test
abbrev pub any_turn : (Segment × Segment → Bool) → List Point → Bool
any_turn t [] = false
any_turn t (p ∷ []) = false
any_turn t (p ∷ q ∷ []) = false
any_turn t (p ∷ q ∷ r ∷ ps) = t (record { a = p; b = q }, record { a = q; b = r }) || any_turn t (q ∷ r ∷ ps)

any_zip : (t : Segment × Segment → Bool) (p q : Point) (ps : List Point) (s : Segment) →
    list_any t (zip (segments_of (p ∷ q ∷ ps)) (segments_of (q ∷ ps) ++ s ∷ [])) ≡ (any_turn t (p ∷ q ∷ ps) || t (record { a = before_last (p ∷ q ∷ ps); b = last_vertex (q ∷ ps) }, s))
any_zip t p q [] s = or_none (t (record { a = p; b = q }, s))
any_zip t p q (r ∷ ps) s =
    ap (λ z. t (record { a = p; b = q }, record { a = q; b = r }) || z) (any_zip t q r ps s)
    ∙ or_assoc (t (record { a = p; b = q }, record { a = q; b = r })) (any_turn t (q ∷ r ∷ ps)) (t (record { a = before_last (q ∷ r ∷ ps); b = last_vertex (r ∷ ps) }, s))

any_more : (t : Segment × Segment → Bool) (p q : Point) (ps : List Point) (r : Point) →
    any_turn t (p ∷ q ∷ ps ++ r ∷ []) ≡ (any_turn t (p ∷ q ∷ ps) || t (record { a = before_last (p ∷ q ∷ ps); b = last_vertex (q ∷ ps) }, record { a = last_vertex (q ∷ ps); b = r }))
any_more t p q [] r = or_none (t (record { a = p; b = q }, record { a = q; b = r }))
any_more t p q (s ∷ ps) r =
    ap (λ z. t (record { a = p; b = q }, record { a = q; b = s }) || z) (any_more t q s ps r)
    ∙ or_assoc (t (record { a = p; b = q }, record { a = q; b = s })) (any_turn t (q ∷ s ∷ ps))
    (t (record { a = before_last (q ∷ s ∷ ps); b = last_vertex (s ∷ ps) }, record { a = last_vertex (s ∷ ps); b = r }))

last_more : (p : Point) (ps : List Point) (r : Point) → last_vertex (p ∷ ps ++ r ∷ []) ≡ r
last_more p [] r = refl
last_more p (q ∷ ps) r = last_more q ps r

before_more : (p q : Point) (ps : List Point) (r : Point) → before_last (p ∷ q ∷ ps ++ r ∷ []) ≡ last_vertex (q ∷ ps)
before_more p q [] r = refl
before_more p q (s ∷ ps) r = before_more q s ps r

-- the turns of a closed walk: those on the way, that at the last vertex, and that at the first
closed_turns : (t : Segment × Segment → Bool) (p q : Point) (ps : List Point) →
    list_any t (turns (closed_segments (p ∷ q ∷ ps)))
    ≡ ((any_turn t (p ∷ q ∷ ps) || t (record { a = before_last (p ∷ q ∷ ps); b = last_vertex (q ∷ ps) }, record { a = last_vertex (q ∷ ps); b = p }))
    || t (record { a = last_vertex (q ∷ ps); b = p }, record { a = p; b = q }))
closed_turns t p q ps =
    any_zip t p q (ps ++ p ∷ []) (record { a = p; b = q })
    ∙ ap (λ z. z || t (record { a = before_last (p ∷ q ∷ ps ++ p ∷ []); b = last_vertex (q ∷ ps ++ p ∷ []) }, record { a = p; b = q })) (any_more t p q ps p)
    ∙ ap (λ z. (any_turn t (p ∷ q ∷ ps) || t (record { a = before_last (p ∷ q ∷ ps); b = last_vertex (q ∷ ps) }, record { a = last_vertex (q ∷ ps); b = p }))
    || t (record { a = z; b = last_vertex (q ∷ ps ++ p ∷ []) }, record { a = p; b = q })) (before_more p q ps p)
    ∙ ap (λ z. (any_turn t (p ∷ q ∷ ps) || t (record { a = before_last (p ∷ q ∷ ps); b = last_vertex (q ∷ ps) }, record { a = last_vertex (q ∷ ps); b = p }))
    || t (record { a = last_vertex (q ∷ ps); b = z }, record { a = p; b = q })) (last_more q ps p)

before_last_is : (ps : List Point) (i : ℕ) → length ps ≡ suc (suc i) → before_last ps ≡ point_at ps i
before_last_is [] i h = absurd (omega arith)
before_last_is (p ∷ []) i h = absurd (omega arith)
before_last_is (p ∷ q ∷ []) zero h = refl
before_last_is (p ∷ q ∷ []) (suc i) h = absurd (omega arith)
before_last_is (p ∷ q ∷ r ∷ ps) zero h = absurd (omega arith)
before_last_is (p ∷ q ∷ r ∷ ps) (suc i) h = before_last_is (q ∷ r ∷ ps) i (omega arith)

-- the turn at a vertex, by the one before it and the one after it
abbrev pub turn_at : List Point → ℕ → ℕ → ℕ → Segment × Segment
turn_at ps i j k = (record { a = point_at ps i; b = point_at ps j }, record { a = point_at ps j; b = point_at ps k })

pub any_turn_closed : (t : Segment × Segment → Bool) (ps : List Point) (i : ℕ) → length ps ≡ i + 2 →
    list_any t (turns (closed_segments ps)) ≡ ((any_turn t ps || t (turn_at ps i (i + 1) 0)) || t (turn_at ps (i + 1) 0 1))
any_turn_closed t [] i h = absurd (omega arith)
any_turn_closed t (p ∷ []) i h = absurd (omega arith)
any_turn_closed t (p ∷ q ∷ ps) i h =
    let e = last_vertex_is (p ∷ q ∷ ps) (i + 1) (omega arith) in
    let f = before_last_is (p ∷ q ∷ ps) i (omega arith) in
    closed_turns t p q ps
    ∙ ap (λ z. (any_turn t (p ∷ q ∷ ps) || t (record { a = z; b = last_vertex (q ∷ ps) }, record { a = last_vertex (q ∷ ps); b = p })) || t (record { a = last_vertex (q ∷ ps); b = p }, record { a = p; b = q })) f
    ∙ ap (λ z. (any_turn t (p ∷ q ∷ ps) || t (record { a = point_at (p ∷ q ∷ ps) i; b = z }, record { a = z; b = p })) || t (record { a = z; b = p }, record { a = p; b = q })) e

pub rest_turns : (t : Segment × Segment → Bool) (ps : List Point) (i : ℕ) → i + 2 < length ps → any_turn t (drop i ps) ≡ (t (turn_at ps i (i + 1) (i + 2)) || any_turn t (drop (i + 1) ps))
rest_turns t ps i h =
    let e : i + 1 ≡ suc i = omega arith in
    let f : i + 2 ≡ suc (suc i) = omega arith in
    rw (e, f) (onward ps i (omega arith))
  where
    onward : (ps : List Point) (i : ℕ) → suc (suc i) < length ps → any_turn t (drop i ps) ≡ (t (turn_at ps i (suc i) (suc (suc i))) || any_turn t (drop (suc i) ps))
    onward [] i h = absurd (omega arith)
    onward (p ∷ []) i h = absurd (omega arith)
    onward (p ∷ q ∷ []) i h = absurd (omega arith)
    onward (p ∷ q ∷ r ∷ ps) zero h = refl
    onward (p ∷ q ∷ r ∷ ps) (suc i) h = onward (q ∷ r ∷ ps) i (omega arith)

pub no_turns : (t : Segment × Segment → Bool) (ps : List Point) (i : ℕ) → length ps ≤ i + 2 → any_turn t (drop i ps) ≡ false
no_turns t [] zero h = refl
no_turns t [] (suc i) h = refl
no_turns t (p ∷ []) zero h = refl
no_turns t (p ∷ []) (suc zero) h = refl
no_turns t (p ∷ []) (suc (suc i)) h = refl
no_turns t (p ∷ q ∷ []) zero h = refl
no_turns t (p ∷ q ∷ []) (suc zero) h = refl
no_turns t (p ∷ q ∷ []) (suc (suc zero)) h = refl
no_turns t (p ∷ q ∷ []) (suc (suc (suc i))) h = refl
no_turns t (p ∷ q ∷ r ∷ ps) zero h = absurd (omega arith)
no_turns t (p ∷ q ∷ r ∷ ps) (suc i) h = no_turns t (q ∷ r ∷ ps) i (omega arith)

pub point_index : (ps : List Point) (i : ℕ) (p : Point) → i < length ps → p ≡ slice_index_or ps i p → p ≡ point_at ps i
point_index ps i p h e = e ∙ get_or_default ps i p no_point h

-- ---- holes
pub hole_is : (ps : List Point) (top : Point) (i j : ℕ) → length ps ≡ j + 1 → j ≡ i + 1 → top ≡ top_of (closed_segments ps) →
    is_hole_walk (closed_segments ps) ≡ ((any_turn (turns_below top) ps || turns_below top (turn_at ps i j 0)) || turns_below top (turn_at ps j 0 1))
hole_is ps top i j h k e =
    let n : length ps ≡ i + 2 = omega arith in
    subst (λ z. list_any (turns_below z) (turns (closed_segments ps)) ≡ ((any_turn (turns_below top) ps || turns_below top (turn_at ps i j 0)) || turns_below top (turn_at ps j 0 1))) e
    (subst (λ m. list_any (turns_below top) (turns (closed_segments ps)) ≡ ((any_turn (turns_below top) ps || turns_below top (turn_at ps i m 0)) || turns_below top (turn_at ps m 0 1))) (sym k)
    (any_turn_closed (turns_below top) ps i n))

-- a turn by its points
pub turn_is : (t : Segment × Segment → Bool) (ps : List Point) (i j k : ℕ) (p q r : Point) → p ≡ point_at ps i → q ≡ point_at ps j → r ≡ point_at ps k →
    t (record { a = p; b = q }, record { a = q; b = r }) ≡ t (turn_at ps i j k)
turn_is t ps i j k p q r e f g =
    ap (λ z. t (record { a = z; b = q }, record { a = q; b = r })) e
    ∙ ap (λ z. t (record { a = point_at ps i; b = z }, record { a = z; b = r })) f
    ∙ ap (λ z. t (record { a = point_at ps i; b = point_at ps j }, record { a = point_at ps j; b = z })) g

pub hole_by : (h a b c : Bool) → h ≡ ((a || b) || c) → (a ≡ true) ⊎ ((b ≡ true) ⊎ (c ≡ true)) → false ≡ not h
hole_by h a b c e some = ap not (sym (e ∙ one a b c some))
  where
    one : (a b c : Bool) → (a ≡ true) ⊎ ((b ≡ true) ⊎ (c ≡ true)) → ((a || b) || c) ≡ true
    one true b c some = refl
    one false true c some = refl
    one false false true some = refl
    one false false false some = ⊎_elim (λ (f : false ≡ true). f) (λ (g : (false ≡ true) ⊎ (false ≡ true)). ⊎_elim (λ (f : false ≡ true). f) (λ (f : false ≡ true). f) g) some

pub shell_by : (h a b c : Bool) → h ≡ ((a || b) || c) → a ≡ false → b ≡ false → c ≡ false → true ≡ not h
shell_by h a b c e f g k = ap not (sym (e ∙ none a b c f g k))
  where
    none : (a b c : Bool) → a ≡ false → b ≡ false → c ≡ false → ((a || b) || c) ≡ false
    none true b c f g k = f
    none false true c f g k = g
    none false false c f g k = k

-- ---- one segment more
pub one_counted : (q : Point) (ps : List Point) (i : ℕ) → i + 1 < length ps →
    count_by (is_over q) (segments_of (drop i ps)) ≡ cond (is_over q (record { a = point_at ps i; b = point_at ps (i + 1) })) 1 0 + count_by (is_over q) (segments_of (drop (i + 1) ps))
one_counted q ps i h = ap (λ ss. count_by (is_over q) ss) (rest_segments ps i h) ∙ count_cons q (record { a = point_at ps i; b = point_at ps (i + 1) }) (segments_of (drop (i + 1) ps))

pub one_segment : (ps : List Point) (i : ℕ) → i + 1 < length ps → length (segments_of (drop i ps)) ≡ 1 + length (segments_of (drop (i + 1) ps))
one_segment ps i h = let e = ap (λ (ss : List Segment). length ss) (rest_segments ps i h) in omega arith

pub one_odd : (q : Point) (ps : List Point) (i : ℕ) → i + 1 < length ps →
    is_odd_over q (segments_of (drop i ps)) ≡ xor (is_over q (record { a = point_at ps i; b = point_at ps (i + 1) })) (is_odd_over q (segments_of (drop (i + 1) ps)))
one_odd q ps i h = ap (λ ss. is_odd_over q ss) (rest_segments ps i h)

pub over_index : (q : Point) (ps : List Point) (i j : ℕ) (p r : Point) → p ≡ point_at ps i → r ≡ point_at ps j → is_over q (record { a = p; b = r }) ≡ is_over q (record { a = point_at ps i; b = point_at ps j })
over_index q ps i j p r e f = ap (λ z. is_over q (record { a = z; b = r })) e ∙ ap (λ z. is_over q (record { a = point_at ps i; b = z })) f

pub plus_one : (n m k l t : ℕ) (b : Bool) → n + k ≡ t → k ≡ cond b 1 0 + l → b ≡ true → m ≡ n + 1 → m + l ≡ t
plus_one n m k l t true e f g h = omega arith
plus_one n m k l t false e f g h = cc

pub plus_none : (n m k l t : ℕ) (b : Bool) → n + k ≡ t → k ≡ cond b 1 0 + l → b ≡ false → m ≡ n → m + l ≡ t
plus_none n m k l t true e f g h = cc
plus_none n m k l t false e f g h = omega arith

pub turned_once : (o m k l t b : Bool) → xor o k ≡ t → k ≡ xor b l → b ≡ true → m ≡ not o → xor m l ≡ t
turned_once o m k l t b e f g h = rw h (swap o l ∙ ap (λ z. xor o z) (sym (f ∙ ap (λ z. xor z l) g)) ∙ e)
  where
    swap : (o l : Bool) → xor (not o) l ≡ xor o (not l)
    swap true true = refl
    swap true false = refl
    swap false l = refl

pub not_turned : (o m k l t b : Bool) → xor o k ≡ t → k ≡ xor b l → b ≡ false → m ≡ o → xor m l ≡ t
not_turned o m k l t b e f g h = rw h (ap (λ z. xor o z) (sym (f ∙ ap (λ z. xor z l) g)) ∙ e)

-- a closed walk by its last segment and the others
pub closed_odd : (q : Point) (ps : List Point) (j : ℕ) → length ps ≡ j + 1 →
    xor (is_over q (record { a = point_at ps j; b = point_at ps 0 })) (is_odd_over q (segments_of ps)) ≡ is_odd_over q (closed_segments ps)
closed_odd q [] j h = absurd (omega arith)
closed_odd q (p ∷ ps) j h =
    ap (λ z. xor (is_over q (record { a = z; b = p })) (is_odd_over q (segments_of (p ∷ ps)))) (sym (last_vertex_is (p ∷ ps) j h))
    ∙ xor_turned (is_over q (record { a = last_vertex (p ∷ ps); b = p })) (is_odd_over q (segments_of (p ∷ ps)))
    ∙ sym (ap (λ ss. is_odd_over q ss) (closed_is p ps) ∙ odd_append q (segments_of (p ∷ ps)) (record { a = last_vertex (p ∷ ps); b = p } ∷ []))
  where
    xor_turned : (a b : Bool) → xor a b ≡ xor b (xor a false)
    xor_turned true true = refl
    xor_turned true false = refl
    xor_turned false true = refl
    xor_turned false false = refl
