-- A line that is walked back, and two lines in a row.
use Rattle.std.proofs.Common.{◌≡◌, ℕ, zero, suc, ◌+◌, ◌<◌, refl, sym, ◌∙◌, ap, subst, arith, inl, inr, ⊎_elim, true, List, [], ◌∷◌, ◌++◌, length, length-append, slice_get, get_or, ◌-◌, Bool, Some}
use Rattle.std.specs.Prelude.{reverse}
use Rattle.std.specs.List.{list_all}
use Rattle.std.proofs.lemmas.Bool.{and_parts, and_from, cases_order}
use Rattle.std.proofs.lemmas.Grind.{reverse_onto}
use Rattle.std.proofs.lemmas.Option.{slice_get_within, slice_get-get_or}
use Rattle.topo_base.specs.Point.{Point}
use Rattle.topo_base.specs.RationalPoint.{RationalPoint, IsAt}
use Rattle.plane.specs.Segment.{Segment}
use Rattle.plane.specs.Line.{segments_of, first_vertex, last_vertex, is_proper, joined}
use Rattle.plane.specs.RationalTests.{IsOn, IsOnLine}
use Rattle.plane.specs.SimpleLine.{IsSimpleLine}
use Rattle.plane.proofs.PointTests.{Decides-same_point}
use Rattle.std.proofs.lemmas.Bool.Decides.{Decides-not}
use Rattle.topo_base.specs.Point.{same_point}
use Rattle.plane.proofs.ListTests.{some_same, all_at}
use Rattle.plane.proofs.Collinear.{round, on_round}
use Rattle.plane.proofs.SimpleTests.{before_it, first_begins, no_element}
use Rattle.plane.proofs.SegmentParts.{segment, start_on, end_on}
use Rattle.plane.proofs.Relations.{same_end}
use Rattle.plane.proofs.LineCuts.{place_of, at_place, place_cases, last_ends}

-- ---- a line walked back
abbrev back : List Segment → List Segment
back [] = []
back (s ∷ ss) = back ss ++ round s ∷ []

length-back : (ss : List Segment) → length (back ss) ≡ length ss
length-back [] = refl
length-back (s ∷ ss) = let e = length-back ss in let f = length-append (back ss) (round s ∷ []) in omega arith

reverse_is : (a : Point) (l : List Point) → reverse (a ∷ l) ≡ reverse l ++ a ∷ []
reverse_is a l = reverse_onto l a []

segments-push : (l : List Point) (z a : Point) → segments_of ((l ++ z ∷ []) ++ a ∷ []) ≡ segments_of (l ++ z ∷ []) ++ segment z a ∷ []
segments-push [] z a = refl
segments-push (x ∷ []) z a = refl
segments-push (x ∷ y ∷ l) z a = ap (λ ss. segment x y ∷ ss) (segments-push (y ∷ l) z a)

last-push : (l : List Point) (z : Point) → last_vertex (l ++ z ∷ []) ≡ z
last-push [] z = refl
last-push (x ∷ []) z = refl
last-push (x ∷ y ∷ l) z = last-push (y ∷ l) z

first-push : (l : List Point) (z a : Point) → first_vertex ((l ++ z ∷ []) ++ a ∷ []) ≡ first_vertex (l ++ z ∷ [])
first-push [] z a = refl
first-push (x ∷ l) z a = refl

two_back : (a b : Point) (l : List Point) → reverse (a ∷ b ∷ l) ≡ (reverse l ++ b ∷ []) ++ a ∷ []
two_back a b l = reverse_is a (b ∷ l) ∙ ap (λ r. r ++ a ∷ []) (reverse_is b l)

segments-reverse : (l : List Point) → segments_of (reverse l) ≡ back (segments_of l)
segments-reverse [] = refl
segments-reverse (a ∷ []) = refl
segments-reverse (a ∷ b ∷ l) =
    ap segments_of (two_back a b l) ∙ segments-push (reverse l) b a
    ∙ ap (λ ss. ss ++ segment b a ∷ []) (ap segments_of (sym (reverse_is b l)) ∙ segments-reverse (b ∷ l))

pub first-reverse : (l : List Point) → first_vertex (reverse l) ≡ last_vertex l
first-reverse [] = refl
first-reverse (a ∷ []) = refl
first-reverse (a ∷ b ∷ l) = ap first_vertex (two_back a b l) ∙ first-push (reverse l) b a ∙ ap first_vertex (sym (reverse_is b l)) ∙ first-reverse (b ∷ l)

pub last-reverse : (l : List Point) → last_vertex (reverse l) ≡ first_vertex l
last-reverse [] = refl
last-reverse (a ∷ l) = ap last_vertex (reverse_is a l) ∙ last-push (reverse l) a

at_back : (ss : List Segment) (i : ℕ) (s : Segment) → slice_get (back ss) i ≡ Some s → (j : ℕ) × ((i + j + 1 ≡ length ss) × (slice_get ss j ≡ Some (round s)))
at_back [] i s e = absurd (no_element s e)
at_back (r ∷ ss) i s e =
    ⊎_elim
    (λ (h : slice_get (back ss) i ≡ Some s). let k = at_back ss i s h in (suc k.0, (omega (arith, k.1.0), k.1.1)))
    (λ (h : (j : ℕ) × ((i ≡ length (back ss) + j) × (slice_get (round r ∷ []) j ≡ Some s))). (0, only r s i h.0 (length ss) (h.1.0 ∙ ap (λ n. n + h.0) (length-back ss)) h.1.1))
    (place_cases (back ss) (round r ∷ []) i s e)
  where
    only : (r s : Segment) (i j n : ℕ) → i ≡ n + j → slice_get (round r ∷ []) j ≡ Some s → (i + 0 + 1 ≡ suc n) × (Some r ≡ Some (round s))
    only r s i zero n is e = (omega arith, ap (λ o. Some (round o)) (some_same (round r) s e))
    only r s i (suc j) n is e = absurd (no_element s e)

in_reverse : (l : List Point) (i : ℕ) (s : Segment) → slice_get (segments_of (reverse l)) i ≡ Some s → (j : ℕ) × ((i + j + 1 ≡ length (segments_of l)) × (slice_get (segments_of l) j ≡ Some (round s)))
in_reverse l i s e = at_back (segments_of l) i s (sym (ap (λ ss. slice_get ss i) (segments-reverse l)) ∙ e)

length-reversed : (l : List Point) → length (segments_of (reverse l)) ≡ length (segments_of l)
length-reversed l = ap length (segments-reverse l) ∙ length-back (segments_of l)

pub reverse_on : (l : List Point) (q : RationalPoint) → IsOnLine q (reverse l) → IsOnLine q l
reverse_on l q (s, (c, on)) =
    let i = place_of s (segments_of (reverse l)) c in
    let j = in_reverse l i.0 s i.1 in
    (round s, (at_place (round s) (segments_of l) j.0 j.1.1, on_round s q on))

pub reverse_simple : (l : List Point) → IsSimpleLine (segments_of l) → IsSimpleLine (segments_of (reverse l))
reverse_simple l simple i j s t q below e f on_s on_t =
    let m = in_reverse l i s e in
    let n = in_reverse l j t f in
    let long = length-reversed l in
    let order : n.0 < m.0 = omega (arith, m.1.0, n.1.0, below) in
    ⊎_elim
    (λ (h : (m.0 ≡ n.0 + 1) × IsAt t.a q).
    let next : m.0 ≡ suc n.0 = omega (arith, h.0) in
    let b = before_it l n.0 (round s) (subst (λ k. slice_get (segments_of l) k ≡ Some (round s)) next m.1.1) in
    let same : b.0 ≡ round t = some_same b.0 (round t) (sym b.1.0 ∙ n.1.1) in
    let meet : t.a ≡ s.b = ap (λ (r : Segment). r.b) (sym same) ∙ b.1.1 in
    inl (omega (arith, h.0, m.1.0, n.1.0), subst (λ v. IsAt v q) meet h.1))
    (λ (h : (n.0 ≡ 0) × (m.0 + 1 ≡ length (segments_of l)) × IsAt t.b q × IsAt s.a q).
    inr (omega (arith, h.1, m.1.0), omega (arith, h.0, n.1.0, long), h.3, h.2))
    (simple n.0 m.0 (round t) (round s) q order n.1.1 m.1.1 (on_round t q on_t) (on_round s q on_s))

proper_round : (s : Segment) → is_proper s ≡ true → is_proper (round s) ≡ true
proper_round s h =
    let differ = (Decides-not (same_point s.a s.b) (Decides-same_point s.a s.b)).0 h in
    (Decides-not (same_point s.b s.a) (Decides-same_point s.b s.a)).1 (λ k. differ (sym k.0, sym k.1))

all-push : {X : Type 0} (p : X → Bool) (xs : List X) (x : X) → list_all p xs ≡ true → p x ≡ true → list_all p (xs ++ x ∷ []) ≡ true
all-push p [] x h k = and_from (p x) true k refl
all-push p (y ∷ ys) x h k = let both = and_parts (p y) (list_all p ys) h in and_from (p y) (list_all p (ys ++ x ∷ [])) both.0 (all-push p ys x both.1 k)

pub all-append : {X : Type 0} (p : X → Bool) (xs ys : List X) → list_all p xs ≡ true → list_all p ys ≡ true → list_all p (xs ++ ys) ≡ true
all-append p [] ys h k = k
all-append p (x ∷ xs) ys h k = let both = and_parts (p x) (list_all p xs) h in and_from (p x) (list_all p (xs ++ ys)) both.0 (all-append p xs ys both.1 k)

back_proper : (ss : List Segment) → list_all is_proper ss ≡ true → list_all is_proper (back ss) ≡ true
back_proper [] h = refl
back_proper (s ∷ ss) h = let both = and_parts (is_proper s) (list_all is_proper ss) h in all-push is_proper (back ss) (round s) (back_proper ss both.1) (proper_round s both.0)

pub reverse_proper : (l : List Point) → list_all is_proper (segments_of l) ≡ true → list_all is_proper (segments_of (reverse l)) ≡ true
reverse_proper l h = subst (λ ss. list_all is_proper ss ≡ true) (sym (segments-reverse l)) (back_proper (segments_of l) h)

-- ---- two lines in a row
pub segments-joined : (a b : List Point) (x y : Point) (xs ys : List Point) → a ≡ x ∷ xs → b ≡ y ∷ ys → last_vertex a ≡ first_vertex b → segments_of (joined a b) ≡ segments_of a ++ segments_of b
segments-joined a b x y xs ys ea eb e = rw (ea, eb) (by_first x xs y ys (sym (ap last_vertex ea) ∙ e ∙ ap first_vertex eb))
  where
    by_first : (x : Point) (xs : List Point) (y : Point) (ys : List Point) → last_vertex (x ∷ xs) ≡ y → segments_of ((x ∷ xs) ++ ys) ≡ segments_of (x ∷ xs) ++ segments_of (y ∷ ys)
    by_first x [] y ys e = ap (λ z. segments_of (z ∷ ys)) e
    by_first x (z ∷ xs) y ys e = ap (λ ss. segment x z ∷ ss) (by_first z xs y ys e)

pub first-joined : (a b : List Point) (x : Point) (xs : List Point) → a ≡ x ∷ xs → first_vertex (joined a b) ≡ first_vertex a
first-joined a b x xs ea = rw ea refl

pub last-joined : (a b : List Point) (x y : Point) (xs ys : List Point) → a ≡ x ∷ xs → b ≡ y ∷ ys → last_vertex a ≡ first_vertex b → last_vertex (joined a b) ≡ last_vertex b
last-joined a b x y xs ys ea eb e = rw (ea, eb) (by_first x xs y ys (sym (ap last_vertex ea) ∙ e ∙ ap first_vertex eb))
  where
    by_first : (x : Point) (xs : List Point) (y : Point) (ys : List Point) → last_vertex (x ∷ xs) ≡ y → last_vertex ((x ∷ xs) ++ ys) ≡ last_vertex (y ∷ ys)
    by_first x [] y ys e = ap (λ z. last_vertex (z ∷ ys)) e
    by_first x (z ∷ xs) y ys e = by_first z xs y ys e

-- ---- a simple line that is not closed
-- segments with a common point are neighbours
pub open_pair : (l : List Point) → IsSimpleLine (segments_of l) → ((q : RationalPoint) → IsAt (first_vertex l) q → IsAt (last_vertex l) q → ⊥)
    → (i j : ℕ) (s t : Segment) (q : RationalPoint) → i < j → slice_get (segments_of l) i ≡ Some s → slice_get (segments_of l) j ≡ Some t → IsOn q s → IsOn q t → (j ≡ i + 1) × IsAt s.b q
open_pair l simple ends i j s t q below e f on_s on_t =
    ⊎_elim
    (λ (h : (j ≡ i + 1) × IsAt s.b q). h)
    (λ (h : (i ≡ 0) × (j + 1 ≡ length (segments_of l)) × IsAt s.a q × IsAt t.b q).
    let e' : slice_get (segments_of l) 0 ≡ Some s = subst (λ n. slice_get (segments_of l) n ≡ Some s) h.0 e in
    absurd (ends q (subst (λ v. IsAt v q) (sym (first_begins l s e')) h.2) (subst (λ v. IsAt v q) (sym (last_ends l j t f h.1)) h.3)))
    (simple i j s t q below e f on_s on_t)

not_both : (s : Segment) (q : RationalPoint) → is_proper s ≡ true → IsAt s.a q → IsAt s.b q → ⊥
not_both s q h a b = (Decides-not (same_point s.a s.b) (Decides-same_point s.a s.b)).0 h (same_end q s.a s.b a b)

-- the first vertex is on the first segment alone, and the last on the last
pub first_only : (l : List Point) → list_all is_proper (segments_of l) ≡ true → IsSimpleLine (segments_of l) → ((q : RationalPoint) → IsAt (first_vertex l) q → IsAt (last_vertex l) q → ⊥)
    → (j : ℕ) (t : Segment) (q : RationalPoint) → slice_get (segments_of l) j ≡ Some t → IsOn q t → IsAt (first_vertex l) q → j ≡ 0
first_only l proper simple ends zero t q f on at = refl
first_only l proper simple ends (suc j) t q f on at =
    let within = slice_get_within (segments_of l) (suc j) t f in
    let s = get_or (segments_of l) 0 t in
    let e : slice_get (segments_of l) 0 ≡ Some s = slice_get-get_or (segments_of l) 0 t (omega arith) in
    let at_s : IsAt s.a q = subst (λ v. IsAt v q) (first_begins l s e) at in
    let k = open_pair l simple ends 0 (suc j) s t q (omega arith) e f (start_on s q at_s) on in
    absurd (not_both s q (all_at is_proper (segments_of l) 0 s proper e) at_s k.1)

last_clash : (l : List Point) → list_all is_proper (segments_of l) ≡ true → IsSimpleLine (segments_of l) → ((q : RationalPoint) → IsAt (first_vertex l) q → IsAt (last_vertex l) q → ⊥)
    → (i k : ℕ) (s t : Segment) (q : RationalPoint) → i < k → k + 1 ≡ length (segments_of l) → slice_get (segments_of l) i ≡ Some s → slice_get (segments_of l) k ≡ Some t → IsOn q s → IsAt (last_vertex l) q → ⊥
last_clash l proper simple ends i k s t q below last e f on at =
    let at_t : IsAt t.b q = subst (λ v. IsAt v q) (last_ends l k t f last) at in
    let p = open_pair l simple ends i k s t q below e f on (end_on t q at_t) in
    let next : k ≡ suc i = omega (arith, p.0) in
    let b = before_it l i t (subst (λ n. slice_get (segments_of l) n ≡ Some t) next f) in
    let same : b.0 ≡ s = some_same b.0 s (sym b.1.0 ∙ e) in
    let at_a : IsAt t.a q = subst (λ v. IsAt v q) (ap (λ (r : Segment). r.b) (sym same) ∙ b.1.1) p.1 in
    not_both t q (all_at is_proper (segments_of l) k t proper f) at_a at_t

pub last_only : (l : List Point) → list_all is_proper (segments_of l) ≡ true → IsSimpleLine (segments_of l) → ((q : RationalPoint) → IsAt (first_vertex l) q → IsAt (last_vertex l) q → ⊥)
    → (i : ℕ) (s : Segment) (q : RationalPoint) → slice_get (segments_of l) i ≡ Some s → IsOn q s → IsAt (last_vertex l) q → i + 1 ≡ length (segments_of l)
last_only l proper simple ends i s q e on at =
    let within = slice_get_within (segments_of l) i s e in
    ⊎_elim
    (λ (h : i + 1 ≡ length (segments_of l)). h)
    (⊎_elim
    (λ (h : i + 1 < length (segments_of l)).
    let k = length (segments_of l) - 1 in
    let f = slice_get-get_or (segments_of l) k s (omega arith) in
    absurd (last_clash l proper simple ends i k s (get_or (segments_of l) k s) q (omega arith) (omega arith) e f on at))
    (λ (h : length (segments_of l) < i + 1). absurd (omega arith)))
    (cases_order (i + 1) (length (segments_of l)))
