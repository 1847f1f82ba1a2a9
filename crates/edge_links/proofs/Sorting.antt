-- A star by insertion: what it contains, that it is sorted, and that it is the same in whatever order half-edges come.
use Rattle.std.proofs.Common.{◌≡◌, refl, sym, ◌∙◌, ap, subst, ◌⊎◌, inl, inr, ⊎_elim, Bool, true, false, cond, List, [], ◌∷◌, ◌++◌, map, IsTrue}
use Rattle.std.specs.List.{Contains}
use Rattle.std.proofs.lemmas.Bool.{both_ways, and_parts, and_from, false_from_ne_true}
use Rattle.plane.proofs.Directions.{nearer_self, nearer_onward, nearer_total}
use Rattle.plane.proofs.ListTests.{contains_here, contains_there, contains_cases, contains_none}
use Rattle.drawing.proofs.Members.{Pairwise}
use Rattle.plane.specs.Direction.{is_nearer, straight_up, OneDirection, IsNotZero}
use Rattle.drawing.specs.HalfEdge.{HalfEdge}
use Rattle.drawing.specs.Star.{leaving, insert_clockwise, clockwise}
use Rattle.plane.specs.Wedge.{are_nearer_first}

-- the one comes strictly before the other, or the other before it
abbrev pub first_of_two : HalfEdge → HalfEdge → Bool
first_of_two h k = is_nearer straight_up (leaving h) (leaving k)

abbrev pub AreOrdered : HalfEdge → HalfEdge → Type 0
AreOrdered h k = IsTrue (first_of_two h k) ⊎ IsTrue (first_of_two k h)

pub ordered_of : (h k : HalfEdge) → IsNotZero (leaving h) → IsNotZero (leaving k) → (OneDirection (leaving h) (leaving k) → ⊥) → AreOrdered h k
ordered_of h k hh hk apart = by_first (first_of_two h k) (first_of_two k h) refl refl
  where
    up_is_some : IsNotZero straight_up
    up_is_some e f = cc

    by_first : (a b : Bool) → first_of_two h k ≡ a → first_of_two k h ≡ b → AreOrdered h k
    by_first true b e f = inl e
    by_first false true e f = inr f
    by_first false false e f = absurd (apart (nearer_total straight_up (leaving h) (leaving k) up_is_some hh hk e f))

pub not_both : (h k : HalfEdge) → IsTrue (first_of_two h k) → IsTrue (first_of_two k h) → ⊥
not_both h k a b = both_ways (first_of_two h h) (nearer_self straight_up (leaving h)) (nearer_onward straight_up (leaving h) (leaving k) (leaving h) a b)

-- ---- what a star contains
inserted_cases : (h k x : HalfEdge) (ks rest : List HalfEdge) (b : Bool) → (Contains rest x → (x ≡ h) ⊎ Contains ks x) → Contains (cond b (h ∷ k ∷ ks) (k ∷ rest)) x → (x ≡ h) ⊎ Contains (k ∷ ks) x
inserted_cases h k x ks rest true each c = ⊎_elim (λ (e : h ≡ x). inl (sym e)) (λ (d : Contains (k ∷ ks) x). inr d) (contains_cases x h (k ∷ ks) c)
inserted_cases h k x ks rest false each c =
    ⊎_elim
    (λ (e : k ≡ x). inr (subst (λ z. Contains (k ∷ ks) z) e (contains_here k ks)))
    (λ (d : Contains rest x). ⊎_elim (λ (e : x ≡ h). inl e) (λ (f : Contains ks x). inr (contains_there x k ks f)) (each d))
    (contains_cases x k rest c)

pub in_inserted : (h x : HalfEdge) (ks : List HalfEdge) → Contains (insert_clockwise h ks) x → (x ≡ h) ⊎ Contains ks x
in_inserted h x [] c = ⊎_elim (λ (e : h ≡ x). inl (sym e)) (λ (d : Contains [] x). inr d) (contains_cases x h [] c)
in_inserted h x (k ∷ ks) c = inserted_cases h k x ks (insert_clockwise h ks) (first_of_two h k) (λ d. in_inserted h x ks d) c

inserted_here : (h k : HalfEdge) (ks rest : List HalfEdge) (b : Bool) → Contains rest h → Contains (cond b (h ∷ k ∷ ks) (k ∷ rest)) h
inserted_here h k ks rest true c = contains_here h (k ∷ ks)
inserted_here h k ks rest false c = contains_there h k rest c

pub here_inserted : (h : HalfEdge) (ks : List HalfEdge) → Contains (insert_clockwise h ks) h
here_inserted h [] = contains_here h []
here_inserted h (k ∷ ks) = inserted_here h k ks (insert_clockwise h ks) (first_of_two h k) (here_inserted h ks)

inserted_there : (h k x : HalfEdge) (ks rest : List HalfEdge) (b : Bool) → (Contains ks x → Contains rest x) → Contains (k ∷ ks) x → Contains (cond b (h ∷ k ∷ ks) (k ∷ rest)) x
inserted_there h k x ks rest true keeps c = contains_there x h (k ∷ ks) c
inserted_there h k x ks rest false keeps c =
    ⊎_elim (λ (e : k ≡ x). subst (λ z. Contains (k ∷ rest) z) e (contains_here k rest)) (λ (d : Contains ks x). contains_there x k rest (keeps d)) (contains_cases x k ks c)

pub there_inserted : (h x : HalfEdge) (ks : List HalfEdge) → Contains ks x → Contains (insert_clockwise h ks) x
there_inserted h x [] c = absurd (contains_none x c)
there_inserted h x (k ∷ ks) c = inserted_there h k x ks (insert_clockwise h ks) (first_of_two h k) (λ d. there_inserted h x ks d) c

pub in_sorted : (x : HalfEdge) (hs : List HalfEdge) → Contains (clockwise hs) x → Contains hs x
in_sorted x [] c = c
in_sorted x (h ∷ hs) c =
    ⊎_elim (λ (e : x ≡ h). subst (λ z. Contains (h ∷ hs) z) (sym e) (contains_here h hs)) (λ (d : Contains (clockwise hs) x). contains_there x h hs (in_sorted x hs d)) (in_inserted h x (clockwise hs) c)

pub sorted_has : (x : HalfEdge) (hs : List HalfEdge) → Contains hs x → Contains (clockwise hs) x
sorted_has x [] c = c
sorted_has x (h ∷ hs) c =
    ⊎_elim (λ (e : h ≡ x). subst (λ z. Contains (insert_clockwise h (clockwise hs)) z) e (here_inserted h (clockwise hs))) (λ (d : Contains hs x). there_inserted h x (clockwise hs) (sorted_has x hs d)) (contains_cases x h hs c)

-- ---- it is sorted
abbrev pub are_sorted : List HalfEdge → Bool
are_sorted hs = are_nearer_first straight_up (map leaving hs)

pub tail_sorted : (k : HalfEdge) (ks : List HalfEdge) → IsTrue (are_sorted (k ∷ ks)) → IsTrue (are_sorted ks)
tail_sorted k [] s = refl
tail_sorted k (x ∷ ks) s = (and_parts (first_of_two k x) (are_sorted (x ∷ ks)) s).1

-- k, and then h put among the others, where k comes before h
behind_step : (h k x : HalfEdge) (ks rest : List HalfEdge) (b : Bool) → first_of_two h x ≡ b → IsTrue (first_of_two k h) → IsTrue (first_of_two k x) → IsTrue (are_sorted (x ∷ ks)) → (b ≡ false → IsTrue (are_sorted (x ∷ rest)))
    → IsTrue (are_sorted (k ∷ cond b (h ∷ x ∷ ks) (x ∷ rest)))
behind_step h k x ks rest true e kh kx sorted more = and_from (first_of_two k h) (are_sorted (h ∷ x ∷ ks)) kh (and_from (first_of_two h x) (are_sorted (x ∷ ks)) e sorted)
behind_step h k x ks rest false e kh kx sorted more = and_from (first_of_two k x) (are_sorted (x ∷ rest)) kx (more refl)

flipped : (h k : HalfEdge) → AreOrdered h k → first_of_two h k ≡ false → IsTrue (first_of_two k h)
flipped h k o e = ⊎_elim (λ (a : IsTrue (first_of_two h k)). absurd (both_ways (first_of_two h k) e a)) (λ (b : IsTrue (first_of_two k h)). b) o

behind : (h k : HalfEdge) (ks : List HalfEdge) → IsTrue (first_of_two k h) → IsTrue (are_sorted (k ∷ ks)) → ((x : HalfEdge) → Contains ks x → AreOrdered h x) → IsTrue (are_sorted (k ∷ insert_clockwise h ks))
behind h k [] kh sorted each = and_from (first_of_two k h) true kh refl
behind h k (x ∷ ks) kh sorted each =
    let both = and_parts (first_of_two k x) (are_sorted (x ∷ ks)) sorted in
    behind_step h k x ks (insert_clockwise h ks) (first_of_two h x) refl kh both.0 both.1
    (λ e. behind h x ks (flipped h x (each x (contains_here x ks)) e) both.1 (λ y c. each y (contains_there y x ks c)))

insert_step : (h k : HalfEdge) (ks rest : List HalfEdge) (b : Bool) → first_of_two h k ≡ b → IsTrue (are_sorted (k ∷ ks)) → (b ≡ false → IsTrue (are_sorted (k ∷ rest))) → IsTrue (are_sorted (cond b (h ∷ k ∷ ks) (k ∷ rest)))
insert_step h k ks rest true e sorted more = and_from (first_of_two h k) (are_sorted (k ∷ ks)) e sorted
insert_step h k ks rest false e sorted more = more refl

pub insert_sorted : (h : HalfEdge) (ks : List HalfEdge) → IsTrue (are_sorted ks) → ((x : HalfEdge) → Contains ks x → AreOrdered h x) → IsTrue (are_sorted (insert_clockwise h ks))
insert_sorted h [] sorted each = refl
insert_sorted h (k ∷ ks) sorted each =
    insert_step h k ks (insert_clockwise h ks) (first_of_two h k) refl sorted
    (λ e. behind h k ks (flipped h k (each k (contains_here k ks)) e) sorted (λ y c. each y (contains_there y k ks c)))

pub clockwise_sorted : (hs : List HalfEdge) → Pairwise AreOrdered hs → IsTrue (are_sorted (clockwise hs))
clockwise_sorted [] h = refl
clockwise_sorted (h ∷ hs) p = insert_sorted h (clockwise hs) (clockwise_sorted hs p.1) (λ x c. p.0 x (in_sorted x hs c))

-- ---- in whatever order
put_before : (h k : HalfEdge) (ks : List HalfEdge) → IsTrue (first_of_two h k) → insert_clockwise h (k ∷ ks) ≡ h ∷ k ∷ ks
put_before h k ks e = ap (λ b. cond b (h ∷ k ∷ ks) (k ∷ insert_clockwise h ks)) e

put_behind : (h k : HalfEdge) (ks : List HalfEdge) → first_of_two h k ≡ false → insert_clockwise h (k ∷ ks) ≡ k ∷ insert_clockwise h ks
put_behind h k ks e = ap (λ b. cond b (h ∷ k ∷ ks) (k ∷ insert_clockwise h ks)) e

not_back : (h k : HalfEdge) → IsTrue (first_of_two h k) → first_of_two k h ≡ false
not_back h k e = false_from_ne_true (first_of_two k h) (λ f. not_both h k e f)

swap_by : (h k x : HalfEdge) (xs : List HalfEdge) (b c : Bool) → IsTrue (first_of_two h k) → first_of_two h x ≡ b → first_of_two k x ≡ c → insert_clockwise h (insert_clockwise k xs) ≡ insert_clockwise k (insert_clockwise h xs)
    → insert_clockwise h (insert_clockwise k (x ∷ xs)) ≡ insert_clockwise k (insert_clockwise h (x ∷ xs))
swap_by h k x xs true true hk hx kx rest =
    ap (insert_clockwise h) (put_before k x xs kx) ∙ put_before h k (x ∷ xs) hk
    ∙ sym (ap (insert_clockwise k) (put_before h x xs hx) ∙ put_behind k h (x ∷ xs) (not_back h k hk) ∙ ap (λ ys. h ∷ ys) (put_before k x xs kx))
swap_by h k x xs true false hk hx kx rest =
    ap (insert_clockwise h) (put_behind k x xs kx) ∙ put_before h x (insert_clockwise k xs) hx
    ∙ sym (ap (insert_clockwise k) (put_before h x xs hx) ∙ put_behind k h (x ∷ xs) (not_back h k hk) ∙ ap (λ ys. h ∷ ys) (put_behind k x xs kx))
swap_by h k x xs false true hk hx kx rest = absurd (both_ways (first_of_two h x) hx (nearer_onward straight_up (leaving h) (leaving k) (leaving x) hk kx))
swap_by h k x xs false false hk hx kx rest =
    ap (insert_clockwise h) (put_behind k x xs kx) ∙ put_behind h x (insert_clockwise k xs) hx ∙ ap (λ ys. x ∷ ys) rest
    ∙ sym (ap (insert_clockwise k) (put_behind h x xs hx) ∙ put_behind k x (insert_clockwise h xs) kx)

swap_first : (h k : HalfEdge) (xs : List HalfEdge) → IsTrue (first_of_two h k) → insert_clockwise h (insert_clockwise k xs) ≡ insert_clockwise k (insert_clockwise h xs)
swap_first h k [] hk = put_before h k [] hk ∙ sym (put_behind k h [] (not_back h k hk))
swap_first h k (x ∷ xs) hk = swap_by h k x xs (first_of_two h x) (first_of_two k x) hk refl refl (swap_first h k xs hk)

pub swap : (h k : HalfEdge) (xs : List HalfEdge) → AreOrdered h k → insert_clockwise h (insert_clockwise k xs) ≡ insert_clockwise k (insert_clockwise h xs)
swap h k xs o = ⊎_elim (λ (a : IsTrue (first_of_two h k)). swap_first h k xs a) (λ (b : IsTrue (first_of_two k h)). sym (swap_first k h xs b)) o

pub clockwise_push : (hs : List HalfEdge) (h : HalfEdge) → ((x : HalfEdge) → Contains hs x → AreOrdered x h) → clockwise (hs ++ h ∷ []) ≡ insert_clockwise h (clockwise hs)
clockwise_push [] h each = refl
clockwise_push (x ∷ hs) h each = ap (insert_clockwise x) (clockwise_push hs h (λ y c. each y (contains_there y x hs c))) ∙ swap x h (clockwise hs) (each x (contains_here x hs))
