-- Darts of which those of one edge go: what stands next to one that stays.
use Rattle.std.proofs.Common.{◌≡◌, ℕ, suc, ◌+◌, ◌<◌, arith, refl, sym, ◌∙◌, ap, subst, ⊎_elim, Bool, true, false, not, cond, eqb, eqb-true, eq-eqb, List, [], ◌∷◌, length, filter, get_or}
use Rattle.std.specs.Prelude.{◌==◌, if◌then◌else◌, Any, IsTrue}
use Rattle.std.specs.List.{Contains}
use Rattle.std.proofs.lemmas.Bool.{and_parts, and_from, both_ways, cases_eq, false_from_ne_true}
use Rattle.topo_base.specs.Darts.{same_dart, same_way}
use Rattle.topo_base.specs.declared.ids.Dart.{Dart}
use Rattle.plane.proofs.ListTests.{contains_here, contains_there, contains_cases, contains_none}
use Rattle.drawing.proofs.Members.{contains-filter}
use Rattle.edge_links.specs.Links.{place_of, dart_after}
use Rattle.edge_links.specs.Unlinks.{is_other, others, stands_before, before_gone}
use Rattle.edge_links.proofs.Following.{at_has}
use Rattle.edge_links.proofs.Half.{way_same}

-- the same darts are equal
same_is : (d c : Dart) → same_dart d c ≡ true → d ≡ c
same_is d c h =
    let both = and_parts (d.edge == c.edge) (same_way d.forward c.forward) h in
    let a = eqb-true d.edge c.edge both.0 in
    let b = way_same d.forward c.forward both.1 in
    λ i. record { edge = a i; forward = b i }

pub is_same : (d : Dart) → same_dart d d ≡ true
is_same d = and_from (d.edge == d.edge) (same_way d.forward d.forward) (eq-eqb d.edge d.edge refl) (way d.forward)
  where
    way : (b : Bool) → same_way b b ≡ true
    way true = refl
    way false = refl

-- what stands next to a dart, where the first of all comes after the last of these
abbrev pub follow : Dart → Dart → List Dart → Dart
follow d first [] = d
follow d first (x ∷ xs) = if same_dart d x then get_or xs 0 first else follow d first xs

eq_more : (a b : ℕ) → eqb (suc a) (suc b) ≡ eqb a b
eq_more a b = ⊎_elim
    (λ (e : a ≡ b). eq-eqb (suc a) (suc b) (ap suc e) ∙ sym (eq-eqb a b e))
    (λ (f : a ≡ b → ⊥).
    false_from_ne_true (eqb (suc a) (suc b)) (λ h. f (let e = eqb-true (suc a) (suc b) h in omega arith))
    ∙ sym (false_from_ne_true (eqb a b) (λ h. f (eqb-true a b h))))
    (cases_eq a b)

place_round : (d first : Dart) (xs : List Dart) → cond (eqb (place_of d xs + 1) (length xs)) first (get_or xs (place_of d xs + 1) d) ≡ follow d first xs
place_round d first [] = refl
place_round d first (x ∷ xs) = by_same xs (same_dart d x) (place_round d first xs)
  where
    by_same : (xs : List Dart) (b : Bool) → cond (eqb (place_of d xs + 1) (length xs)) first (get_or xs (place_of d xs + 1) d) ≡ follow d first xs
        → cond (eqb (cond (not b) (1 + place_of d xs) 0 + 1) (length (x ∷ xs))) first (get_or (x ∷ xs) (cond (not b) (1 + place_of d xs) 0 + 1) d) ≡ cond b (get_or xs 0 first) (follow d first xs)
    by_same [] true rest = refl
    by_same (y ∷ ys) true rest = ap (λ b. cond b first y) (false_from_ne_true (eqb 1 (suc (suc (length ys)))) (λ h. let e = eqb-true 1 (suc (suc (length ys))) h in omega arith))
    by_same xs false rest =
        let next : 1 + place_of d xs + 1 ≡ suc (place_of d xs + 1) = omega arith in
        ap (λ j. cond (eqb j (suc (length xs))) first (get_or (x ∷ xs) j d)) next
        ∙ ap (λ b. cond b first (get_or xs (place_of d xs + 1) d)) (eq_more (place_of d xs + 1) (length xs)) ∙ rest

pub after_is_follow : (d : Dart) (ds : List Dart) → dart_after d ds ≡ follow d (get_or ds 0 d) ds
after_is_follow d ds = at_by (eqb (place_of d ds + 1) (length ds)) ∙ place_round d (get_or ds 0 d) ds
  where
    at_by : (b : Bool) → get_or ds (cond b 0 (place_of d ds + 1)) d ≡ cond b (get_or ds 0 d) (get_or ds (place_of d ds + 1) d)
    at_by true = refl
    at_by false = refl

-- ---- among those that stay it is the same, if it stays
first_stays : (p : Dart → Bool) (first other : Dart) (xs : List Dart) → (p first ≡ true → other ≡ first) → p (get_or xs 0 first) ≡ true → get_or (filter p xs) 0 other ≡ get_or xs 0 first
first_stays p first other [] head stays = head stays
first_stays p first other (x ∷ xs) head stays = ap (λ b. get_or (cond b (x ∷ filter p xs) (filter p xs)) 0 other) stays

follow_stays : (p : Dart → Bool) (d first other : Dart) (xs : List Dart) → p d ≡ true → (p first ≡ true → other ≡ first) → p (follow d first xs) ≡ true → follow d other (filter p xs) ≡ follow d first xs
follow_stays p d first other [] own head stays = refl
follow_stays p d first other (x ∷ xs) own head stays = by_same (same_dart d x) refl (p x) refl stays (λ h. follow_stays p d first other xs own head h)
  where
    by_same : (b : Bool) → same_dart d x ≡ b → (c : Bool) → p x ≡ c → p (cond b (get_or xs 0 first) (follow d first xs)) ≡ true → (p (follow d first xs) ≡ true → follow d other (filter p xs) ≡ follow d first xs)
        → follow d other (cond c (x ∷ filter p xs) (filter p xs)) ≡ cond b (get_or xs 0 first) (follow d first xs)
    by_same true e true f h rest = ap (λ b. cond b (get_or (filter p xs) 0 other) (follow d other (filter p xs))) e ∙ first_stays p first other xs head h
    by_same true e false f h rest = absurd (both_ways (p x) f (subst (λ z. p z ≡ true) (same_is d x e) own))
    by_same false e true f h rest = ap (λ b. cond b (get_or (filter p xs) 0 other) (follow d other (filter p xs))) e ∙ rest h
    by_same false e false f h rest = rest h

pub after_stays : (id : ℕ) (d : Dart) (ds : List Dart) → is_other id d ≡ true → is_other id (dart_after d ds) ≡ true → dart_after d (others id ds) ≡ dart_after d ds
after_stays id d ds own stays =
    let is = after_is_follow d ds in
    after_is_follow d (others id ds)
    ∙ follow_stays (is_other id) d (get_or ds 0 d) (get_or (others id ds) 0 d) ds own (λ h. first_stays (is_other id) d d ds (λ k. refl) h) (subst (λ c. is_other id c ≡ true) is stays)
    ∙ sym is

-- ---- the darts before those that go
in_either : (b : Bool) (d x : Dart) (xs : List Dart) → Contains xs d → Contains (cond b (x ∷ xs) xs) d
in_either true d x xs c = contains_there d x xs c
in_either false d x xs c = c

follow_has : (id : ℕ) (d : Dart) (all xs : List Dart) → is_other id d ≡ true → Contains xs d → is_other id (follow d (get_or all 0 d) xs) ≡ false → Contains (before_gone id all xs) d
follow_has id d all [] own c goes = absurd (contains_none d c)
follow_has id d all (x ∷ xs) own c goes = by_same (same_dart d x) refl goes (λ k h. follow_has id d all xs own k h)
  where
    here : stands_before id all d xs ≡ true → x ≡ d → Contains (cond (stands_before id all x xs) (x ∷ before_gone id all xs) (before_gone id all xs)) d
    here h e =
        let is : stands_before id all x xs ≡ true = subst (λ z. stands_before id all z xs ≡ true) (sym e) h in
        subst (λ b. Contains (cond b (x ∷ before_gone id all xs) (before_gone id all xs)) d) (sym is)
        (subst (λ z. Contains (x ∷ before_gone id all xs) z) e (contains_here x (before_gone id all xs)))

    by_same : (b : Bool) → same_dart d x ≡ b → is_other id (cond b (get_or xs 0 (get_or all 0 d)) (follow d (get_or all 0 d) xs)) ≡ false
        → (Contains xs d → is_other id (follow d (get_or all 0 d) xs) ≡ false → Contains (before_gone id all xs) d)
        → Contains (cond (stands_before id all x xs) (x ∷ before_gone id all xs) (before_gone id all xs)) d
    by_same true e h rest = here (and_from (is_other id d) (not (is_other id (get_or xs 0 (get_or all 0 d)))) own (ap not h)) (sym (same_is d x e))
    by_same false e h rest =
        ⊎_elim
        (λ (f : x ≡ d). absurd (both_ways (same_dart d x) e (subst (λ z. same_dart d z ≡ true) (sym f) (is_same d))))
        (λ (k : Contains xs d). in_either (stands_before id all x xs) d x (before_gone id all xs) (rest k h))
        (contains_cases d x xs c)

pub before_has : (id : ℕ) (d : Dart) (ds : List Dart) → is_other id d ≡ true → Contains ds d → is_other id (dart_after d ds) ≡ false → Contains (before_gone id ds ds) d
before_has id d ds own c goes = follow_has id d ds ds own c (subst (λ z. is_other id z ≡ false) (after_is_follow d ds) goes)

-- each of them is there, and stays
pub before_are : (id : ℕ) (d : Dart) (all xs : List Dart) → Contains (before_gone id all xs) d → Contains xs d × (is_other id d ≡ true)
before_are id d all [] c = absurd (contains_none d c)
before_are id d all (x ∷ xs) c = by_test (stands_before id all x xs) refl c (λ k. before_are id d all xs k)
  where
    more : Contains xs d × (is_other id d ≡ true) → Contains (x ∷ xs) d × (is_other id d ≡ true)
    more r = (contains_there d x xs r.0, r.1)

    by_test : (b : Bool) → stands_before id all x xs ≡ b → Contains (cond b (x ∷ before_gone id all xs) (before_gone id all xs)) d
        → (Contains (before_gone id all xs) d → Contains xs d × (is_other id d ≡ true)) → Contains (x ∷ xs) d × (is_other id d ≡ true)
    by_test true e k rest =
        ⊎_elim
        (λ (f : x ≡ d).
        let own = (and_parts (is_other id x) (not (is_other id (get_or xs 0 (get_or all 0 x)))) e).0 in
        (subst (λ z. Contains (x ∷ xs) z) f (contains_here x xs), subst (λ z. is_other id z ≡ true) f own))
        (λ (m : Contains (before_gone id all xs) d). more (rest m))
        (contains_cases d x (before_gone id all xs) k)
    by_test false e k rest = more (rest k)

-- a dart that stands before one that goes is among those that stay
pub before_stays : (id : ℕ) (ds rest behind : List Dart) (d : Dart) (i : ℕ) (b : Bool) → i < length ds → d ≡ get_or ds i d → b ≡ stands_before id ds d behind → b ≡ true → rest ≡ others id ds → Any (λ c. IsTrue (same_dart d c)) rest
before_stays id ds rest behind d i b within is test yes_ stays =
    let own = (and_parts (is_other id d) (not (is_other id (get_or behind 0 (get_or ds 0 d)))) (sym test ∙ yes_)).0 in
    let there = subst (λ z. Contains ds z) (sym is) (at_has d ds i within) in
    let kept = subst (λ (cs : List Dart). Contains cs d) (sym stays) (contains-filter (is_other id) d ds there own) in
    (kept.0, d, kept.1, kept.2, is_same d)
