-- Slabs at their places: one that comes, one that changes, and the segments of one.
use Rattle.std.proofs.Common.{◌≡◌, ℕ, zero, suc, ◌+◌, ◌<◌, ◌≤◌, refl, sym, ◌∙◌, ap, subst, arith, ◌⊎◌, inl, inr, ⊎_elim, Bool, true, false, cond, not, ◌&&◌, ◌==◌, List, [], ◌∷◌, ◌++◌, length, drop, drop-cons, add-one, Option, Some, None, nat_eq}
use Rattle.std.specs.Prelude.{filter, flat_map, count_by, All, slice_set, slice_index_or}
use Rattle.std.proofs.lemmas.Grind.{flat_map-append}
use Rattle.std.proofs.lemmas.List.{append-nil, drop-set-lt}
use Rattle.std.proofs.lemmas.List.Elements.{filter-append, All-cons, All-head, All-tail, All-append, All-push, All-nil}
use Rattle.std.proofs.lemmas.List.Sums.{sum_by-append}
use Rattle.std.proofs.lemmas.List.Sorted.{sum_by-IsPermutation}
use Rattle.std.specs.List.Sorted.{IsPermutation}
use Rattle.plane.proofs.ListTests.{some_same}
use Rattle.slab_index.specs.declared.piece.Piece.{Piece}
use Rattle.slab_index.specs.declared.slabs.Slab.{Slab}
use Rattle.slab_index.specs.Slabs.{slab_of}
use Rattle.slab_index.specs.Pieces.{is_gone, AreTogether}
use Rattle.slab_index.specs.Held.{IsInSlab, IsInRange, IsSlab, AreSlabs, HaveSameNumbers, number_at, kept_of, coming_of, all_kept, all_coming}
use Rattle.slab_index.proofs.Paths.{decide, same_yes, yes_same, count_cons}

pub none_some : {X : Type 0} {P : Type 0} (x : X) → None ≡ Some x → P
none_some x e = absurd cc

-- ---- counts
pub count_append : {X : Type 0} (f : X → Bool) (xs ys : List X) → count_by f (xs ++ ys) ≡ count_by f xs + count_by f ys
count_append f xs ys = sum_by-append (λ x. cond (f x) 1 0) xs ys

pub count_filter : {X : Type 0} (f t : X → Bool) (xs : List X) → count_by f (filter t xs) ≡ count_by (λ x. f x && t x) xs
count_filter f t [] = refl
count_filter f t (x ∷ xs) = by_test (f x) (t x) refl refl (count_filter f t xs) (count_cons (λ y. f y && t y) x xs)
  where
    by_test : (a b : Bool) → f x ≡ a → t x ≡ b → count_by f (filter t xs) ≡ count_by (λ y. f y && t y) xs → count_by (λ y. f y && t y) (x ∷ xs) ≡ cond (f x && t x) 1 0 + count_by (λ y. f y && t y) xs → count_by f (cond (t x) (x ∷ filter t xs) (filter t xs)) ≡ count_by (λ y. f y && t y) (x ∷ xs)
    by_test a true d e rest all =
        subst (λ b. count_by f (cond b (x ∷ filter t xs) (filter t xs)) ≡ count_by (λ y. f y && t y) (x ∷ xs)) (sym e)
        (let k = count_cons f x (filter t xs) in
        let m = ap (λ b. cond {A = ℕ} (f x && b) 1 0) e in
        let n = both_one (f x) in
        omega (arith, k, m, n, rest, all))
      where
        both_one : (a : Bool) → cond {A = ℕ} (a && true) 1 0 ≡ cond {A = ℕ} a 1 0
        both_one true = refl
        both_one false = refl
    by_test a false d e rest all =
        subst (λ b. count_by f (cond b (x ∷ filter t xs) (filter t xs)) ≡ count_by (λ y. f y && t y) (x ∷ xs)) (sym e)
        (let m = ap (λ b. cond {A = ℕ} (f x && b) 1 0) e in
        let n = none_one (f x) in
        omega (arith, m, n, rest, all))
      where
        none_one : (a : Bool) → cond {A = ℕ} (a && false) 1 0 ≡ 0
        none_one true = refl
        none_one false = refl

pub none_counted : {X : Type 0} (xs : List X) → count_by (λ x. true) xs ≡ 0 → xs ≡ []
none_counted [] e = refl
none_counted (x ∷ xs) e = absurd (let k = count_cons (λ x. true) x xs in omega (arith, k))

-- ---- a slab that comes last
at_front : (slabs more : List Slab) (i q : ℕ) → number_at slabs i ≡ Some q → number_at (slabs ++ more) i ≡ Some q
at_front [] more i q e = none_some q e
at_front (s ∷ ss) more zero q e = e
at_front (s ∷ ss) more (suc i) q e = at_front ss more i q e

pub at_end : (slabs : List Slab) (s : Slab) → number_at (slabs ++ s ∷ []) (length slabs) ≡ Some s.number
at_end [] s = refl
at_end (t ∷ ts) s = at_end ts s

front_or_end : (slabs : List Slab) (s : Slab) (i q : ℕ) → number_at (slabs ++ s ∷ []) i ≡ Some q → (number_at slabs i ≡ Some q) ⊎ ((i ≡ length slabs) × (s.number ≡ q))
front_or_end [] s zero q e = inr (refl, some_same s.number q e)
front_or_end [] s (suc i) q e = none_some q e
front_or_end (t ∷ ts) s zero q e = inl e
front_or_end (t ∷ ts) s (suc i) q e =
    ⊎_elim (λ k. inl k) (λ (k : (i ≡ length ts) × (s.number ≡ q)). inr (omega arith, k.1)) (front_or_end ts s i q e)

pub one_comes : (find found : ℕ → Option ℕ) (slabs : List Slab) (s : Slab) → AreSlabs find slabs → IsSlab s → find s.number ≡ None → ((q : ℕ) → found q ≡ cond (nat_eq s.number q) (Some (length slabs)) (find q)) → AreSlabs found (slabs ++ s ∷ [])
one_comes find found slabs s are is none finds = record {
  found = λ q i e. by_name q i e (nat_eq s.number q) refl;
  listed = λ q i e.
      ⊎_elim
      (λ (k : number_at slabs i ≡ Some q). old q i k (are.listed q i k))
      (λ (k : (i ≡ length slabs) × (s.number ≡ q)). new q i k.0 k.1)
      (front_or_end slabs s i q e);
  held = All-push IsSlab slabs s are.held is;
}
  where
    by_name : (q i : ℕ) → found q ≡ Some i → (b : Bool) → nat_eq s.number q ≡ b → number_at (slabs ++ s ∷ []) i ≡ Some q
    by_name q i e true d =
        let same = yes_same s.number q d in
        let j = some_same (length slabs) i (sym (ap (λ t. cond t (Some (length slabs)) (find q)) d) ∙ (sym (finds q) ∙ e)) in
        subst (λ k. number_at (slabs ++ s ∷ []) k ≡ Some q) j (at_end slabs s ∙ ap Some same)
    by_name q i e false d =
        at_front slabs (s ∷ []) i q (are.found q i (sym (ap (λ t. cond t (Some (length slabs)) (find q)) d) ∙ (sym (finds q) ∙ e)))

    away : (q i : ℕ) → find q ≡ Some i → nat_eq s.number q ≡ false
    away q i e =
        ⊎_elim
        (λ (d : nat_eq s.number q ≡ true). none_some i (sym none ∙ (ap find (yes_same s.number q d) ∙ e)))
        (λ (d : nat_eq s.number q ≡ false). d)
        (decide (nat_eq s.number q))

    old : (q i : ℕ) → number_at slabs i ≡ Some q → find q ≡ Some i → found q ≡ Some i
    old q i k e = finds q ∙ ap (λ t. cond t (Some (length slabs)) (find q)) (away q i e) ∙ e

    new : (q i : ℕ) → i ≡ length slabs → s.number ≡ q → found q ≡ Some i
    new q i e d = finds q ∙ ap (λ t. cond t (Some (length slabs)) (find q)) (same_yes s.number q d) ∙ ap Some (sym e)

pub none_more : (g : Slab → List Piece) (slabs : List Slab) (s : Slab) → g s ≡ [] → flat_map g (slabs ++ s ∷ []) ≡ flat_map g slabs
none_more g slabs s e =
    flat_map-append g slabs (s ∷ [])
    ∙ ap (λ l. flat_map g slabs ++ (l ++ [])) e
    ∙ append-nil (flat_map g slabs)

pub still_slabs : (find : ℕ → Option ℕ) (before after : List Slab) → AreSlabs find before → HaveSameNumbers before after → All IsSlab after → AreSlabs find after
still_slabs find before after are same held = record {
  found = λ q i e. same i ∙ are.found q i e;
  listed = λ q i e. are.listed q i (sym (same i) ∙ e);
  held = held;
}

-- ---- a slab that changes
pub same_numbers : (slabs : List Slab) (i : ℕ) (d s : Slab) → i < length slabs → s.number ≡ (slice_index_or slabs i d).number → HaveSameNumbers slabs (slice_set slabs i s)
same_numbers [] i d s h e j = absurd (omega arith)
same_numbers (t ∷ ts) zero d s h e zero = ap Some e
same_numbers (t ∷ ts) zero d s h e (suc j) = refl
same_numbers (t ∷ ts) (suc i) d s h e zero = refl
same_numbers (t ∷ ts) (suc i) d s h e (suc j) = same_numbers ts i d s (omega arith) e j

pub same_pieces : (g : Slab → List Piece) (slabs : List Slab) (i : ℕ) (d s : Slab) → i < length slabs → g s ≡ g (slice_index_or slabs i d) → flat_map g (slice_set slabs i s) ≡ flat_map g slabs
same_pieces g [] i d s h e = absurd (omega arith)
same_pieces g (t ∷ ts) zero d s h e = ap (λ l. l ++ flat_map g ts) e
same_pieces g (t ∷ ts) (suc i) d s h e = ap (λ l. g t ++ l) (same_pieces g ts i d s (omega arith) e)

pub changed_count : (f : Piece → Bool) (g : Slab → List Piece) (slabs : List Slab) (i : ℕ) (d s : Slab) → i < length slabs → count_by f (flat_map g (slice_set slabs i s)) + count_by f (g (slice_index_or slabs i d)) ≡ count_by f (flat_map g slabs) + count_by f (g s)
changed_count f g [] i d s h = absurd (omega arith)
changed_count f g (t ∷ ts) zero d s h =
    let a = count_append f (g s) (flat_map g ts) in
    let b = count_append f (g t) (flat_map g ts) in
    omega (arith, a, b)
changed_count f g (t ∷ ts) (suc i) d s h =
    let a = count_append f (g t) (flat_map g (slice_set ts i s)) in
    let b = count_append f (g t) (flat_map g ts) in
    let c = changed_count f g ts i d s (omega arith) in
    omega (arith, a, b, c)

pub number_there : (slabs : List Slab) (i q : ℕ) → number_at slabs i ≡ Some q → (i < length slabs) × ((d : Slab) → (slice_index_or slabs i d).number ≡ q)
number_there [] i q e = none_some q e
number_there (s ∷ ss) zero q e = (omega arith, λ d. some_same s.number q e)
number_there (s ∷ ss) (suc i) q e = let k = number_there ss i q e in (let l = k.0 in omega arith, k.1)

pub alone : (find : ℕ → Option ℕ) (slabs : List Slab) → AreSlabs find slabs → (q i : ℕ) → find q ≡ Some i → (j : ℕ) → number_at slabs j ≡ Some q → j ≡ i
alone find slabs are q i e j k = some_same j i (sym (are.listed q j k) ∙ e)

pub nowhere : (find : ℕ → Option ℕ) (slabs : List Slab) → AreSlabs find slabs → (q : ℕ) → find q ≡ None → (i : ℕ) → number_at slabs i ≡ Some q → ⊥
nowhere find slabs are q e i k = none_some i (sym e ∙ are.listed q i k)

pub comes_at : (find found : ℕ → Option ℕ) (slabs : List Slab) (s : Slab) (n k : ℕ) → AreSlabs find slabs → IsSlab s → s.number ≡ n → k ≡ length slabs → find n ≡ None → ((q : ℕ) → found q ≡ cond (nat_eq n q) (Some k) (find q)) → AreSlabs found (slabs ++ s ∷ [])
comes_at find found slabs s n k are is e l none finds =
    one_comes find found slabs s are is (ap find e ∙ none)
    (λ q. finds q ∙ ap (λ m. cond (nat_eq m q) (Some k) (find q)) (sym e) ∙ ap (λ m. cond (nat_eq s.number q) (Some m) (find q)) l)

pub one_staged : (slabs : List Slab) (i : ℕ) (d s : Slab) (e : Piece) → i < length slabs → d ≡ slice_index_or slabs i d → s.coming.items ≡ d.coming.items ++ e ∷ [] → AreTogether (all_coming (slice_set slabs i s)) (e ∷ []) (all_coming slabs)
one_staged slabs i d s e h is made f =
    let a = changed_count f coming_of slabs i d s h in
    let b = ap (λ (x : Slab). count_by f x.coming.items) is in
    let c = ap (λ l. count_by f l) made in
    let k = count_append f d.coming.items (e ∷ []) in
    omega (arith, a, b, c, k)

-- ---- one slab after another
drop_all : {X : Type 0} (xs : List X) (i : ℕ) → length xs ≤ i → drop i xs ≡ []
drop_all [] zero h = refl
drop_all [] (suc i) h = refl
drop_all (x ∷ xs) zero h = absurd (omega arith)
drop_all (x ∷ xs) (suc i) h = drop_all xs i (omega arith)

rest_is : (slabs : List Slab) (i : ℕ) (d : Slab) → i < length slabs → drop i slabs ≡ slice_index_or slabs i d ∷ drop (i + 1) slabs
rest_is slabs i d h = rw (add-one, drop-cons slabs i d)

rest_stays : (slabs : List Slab) (i : ℕ) (s : Slab) → drop (i + 1) (slice_set slabs i s) ≡ drop (i + 1) slabs
rest_stays slabs i s = drop-set-lt (i + 1) slabs i s (omega arith)

-- the count of what the slabs from i on have
rest_count : (f : Piece → Bool) (g : Slab → List Piece) (slabs : List Slab) (i : ℕ) (d s : Slab) → i < length slabs → d ≡ slice_index_or slabs i d → count_by f (flat_map g (drop i slabs)) ≡ count_by f (g d) + count_by f (flat_map g (drop (i + 1) (slice_set slabs i s)))
rest_count f g slabs i d s h is =
    let a = ap (λ l. count_by f (flat_map g l)) (rest_is slabs i d h) in
    let b = count_append f (g (slice_index_or slabs i d)) (flat_map g (drop (i + 1) slabs)) in
    let c = ap (λ x. count_by f (g x)) is in
    let e = ap (λ l. count_by f (flat_map g l)) (rest_stays slabs i s) in
    omega (arith, a, b, c, e)

pub settled_kept : (f : Piece → Bool) (gone : List ℕ) (total : ℕ) (slabs : List Slab) (i : ℕ) (d s : Slab) → i < length slabs → d ≡ slice_index_or slabs i d → IsPermutation (filter (λ e. not (is_gone gone e)) d.kept.items ++ d.coming.items) s.kept.items →
    count_by f (all_kept slabs) + (count_by (λ e. f e && not (is_gone gone e)) (all_kept (drop i slabs)) + count_by f (all_coming (drop i slabs))) ≡ count_by f (all_kept (drop i slabs)) + total →
    count_by f (all_kept (slice_set slabs i s)) + (count_by (λ e. f e && not (is_gone gone e)) (all_kept (drop (i + 1) (slice_set slabs i s))) + count_by f (all_coming (drop (i + 1) (slice_set slabs i s)))) ≡ count_by f (all_kept (drop (i + 1) (slice_set slabs i s))) + total
settled_kept f gone total slabs i d s h is made before =
    let a = changed_count f kept_of slabs i d s h in
    let b = ap (λ (x : Slab). count_by f x.kept.items) is in
    let c = sum_by-IsPermutation (λ x. cond (f x) 1 0) (filter (λ e. not (is_gone gone e)) d.kept.items ++ d.coming.items) s.kept.items made in
    let k = count_append f (filter (λ e. not (is_gone gone e)) d.kept.items) d.coming.items in
    let m = count_filter f (λ e. not (is_gone gone e)) d.kept.items in
    let x = rest_count f kept_of slabs i d s h is in
    let y = rest_count (λ e. f e && not (is_gone gone e)) kept_of slabs i d s h is in
    let z = rest_count f coming_of slabs i d s h is in
    omega (arith, a, b, c, k, m, x, y, z, before)

pub cleared : (f : Piece → Bool) (slabs : List Slab) (i : ℕ) (d s : Slab) → i < length slabs → d ≡ slice_index_or slabs i d → s.coming.items ≡ [] →
    count_by f (all_coming slabs) ≡ count_by f (all_coming (drop i slabs)) → count_by f (all_coming (slice_set slabs i s)) ≡ count_by f (all_coming (drop (i + 1) (slice_set slabs i s)))
cleared f slabs i d s h is none before =
    let a = changed_count f coming_of slabs i d s h in
    let b = ap (λ (x : Slab). count_by f x.coming.items) is in
    let c = ap (λ l. count_by f l) none in
    let z = rest_count f coming_of slabs i d s h is in
    omega (arith, a, b, c, z, before)

pub all_cleared : (slabs : List Slab) (i : ℕ) → length slabs ≤ i → ((f : Piece → Bool) → count_by f (all_coming slabs) ≡ count_by f (all_coming (drop i slabs))) → all_coming slabs ≡ []
all_cleared slabs i h each = none_counted (all_coming slabs) (each (λ e. true) ∙ ap (λ l. count_by (λ e. true) (all_coming l)) (drop_all slabs i h))

-- ---- the segments of one slab
none_own : (n q : ℕ) (es : List Piece) → (n == q) ≡ false → All (IsInSlab n) es → filter (λ e. slab_of e == q) es ≡ []
none_own n q [] h all = refl
none_own n q (e ∷ es) h all =
    let own : (slab_of e == q) ≡ false = ap (λ k. k == q) ((All-head (IsInSlab n) e es all).own) ∙ h in
    ap (λ b. cond b (e ∷ filter (λ x. slab_of x == q) es) (filter (λ x. slab_of x == q) es)) own ∙ none_own n q es h (All-tail (IsInSlab n) e es all)

all_own : (n q : ℕ) (es : List Piece) → (n == q) ≡ true → All (IsInSlab n) es → filter (λ e. slab_of e == q) es ≡ es
all_own n q [] h all = refl
all_own n q (e ∷ es) h all =
    let own : (slab_of e == q) ≡ true = ap (λ k. k == q) ((All-head (IsInSlab n) e es all).own) ∙ h in
    ap (λ b. cond b (e ∷ filter (λ x. slab_of x == q) es) (filter (λ x. slab_of x == q) es)) own ∙ ap (λ l. e ∷ l) (all_own n q es h (All-tail (IsInSlab n) e es all))

pub none_of : (slabs : List Slab) (q : ℕ) → ((i : ℕ) → number_at slabs i ≡ Some q → ⊥) → All IsSlab slabs → filter (λ e. slab_of e == q) (all_kept slabs) ≡ []
none_of [] q away all = refl
none_of (s ∷ ss) q away all =
    let t = λ (e : Piece). slab_of e == q in
    let head = none_own s.number q s.kept.items (other (s.number == q) refl) (All-head IsSlab s ss all).kept in
    let rest = none_of ss q (λ i e. away (suc i) e) (All-tail IsSlab s ss all) in
    filter-append t s.kept.items (all_kept ss) ∙ ap (λ l. l ++ filter t (all_kept ss)) head ∙ rest
  where
    other : (b : Bool) → (s.number == q) ≡ b → (s.number == q) ≡ false
    other true d = absurd (away 0 (ap Some (yes_same s.number q d)))
    other false d = d

pub those_of : (slabs : List Slab) (i q : ℕ) (d : Slab) → number_at slabs i ≡ Some q → ((j : ℕ) → number_at slabs j ≡ Some q → j ≡ i) → All IsSlab slabs → filter (λ e. slab_of e == q) (all_kept slabs) ≡ (slice_index_or slabs i d).kept.items
those_of [] i q d e alone all = none_some q e
those_of (s ∷ ss) zero q d e alone all =
    let t = λ (e : Piece). slab_of e == q in
    let head = all_own s.number q s.kept.items (same_yes s.number q (some_same s.number q e)) (All-head IsSlab s ss all).kept in
    let rest = none_of ss q (λ i e. absurd (let k = alone (suc i) e in omega arith)) (All-tail IsSlab s ss all) in
    filter-append t s.kept.items (all_kept ss) ∙ ap (λ l. l ++ filter t (all_kept ss)) head ∙ ap (λ l. s.kept.items ++ l) rest ∙ append-nil s.kept.items
those_of (s ∷ ss) (suc i) q d e alone all =
    let t = λ (e : Piece). slab_of e == q in
    let head = none_own s.number q s.kept.items (other (s.number == q) refl) (All-head IsSlab s ss all).kept in
    let rest = those_of ss i q d e (λ j k. let l = alone (suc j) k in omega arith) (All-tail IsSlab s ss all) in
    filter-append t s.kept.items (all_kept ss) ∙ ap (λ l. l ++ filter t (all_kept ss)) head ∙ rest
  where
    other : (b : Bool) → (s.number == q) ≡ b → (s.number == q) ≡ false
    other true k = absurd (let l = alone 0 (ap Some (yes_same s.number q k)) in omega arith)
    other false k = k

-- the ends of all segments are in range
one_range : (n : ℕ) (es : List Piece) → All (IsInSlab n) es → All IsInRange es
one_range n [] all = All-nil IsInRange
one_range n (e ∷ es) all =
    let h = All-head (IsInSlab n) e es all in
    All-cons IsInRange e es (record { start = h.start; end = h.end }) (one_range n es (All-tail (IsInSlab n) e es all))

pub all_range : (slabs : List Slab) → All IsSlab slabs → All IsInRange (all_kept slabs)
all_range [] all = All-nil IsInRange
all_range (s ∷ ss) all = All-append IsInRange s.kept.items (all_kept ss) (one_range s.number s.kept.items (All-head IsSlab s ss all).kept) (all_range ss (All-tail IsSlab s ss all))

pub all_filtered : (P : Piece → Type 0) (t : Piece → Bool) (es : List Piece) → All P es → All P (filter t es)
all_filtered P t [] all = All-nil P
all_filtered P t (e ∷ es) all = by_test (t e) (All-head P e es all) (all_filtered P t es (All-tail P e es all))
  where
    by_test : (b : Bool) → P e → All P (filter t es) → All P (cond b (e ∷ filter t es) (filter t es))
    by_test true here rest = All-cons P e (filter t es) here rest
    by_test false here rest = rest
