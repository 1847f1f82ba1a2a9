-- What each write of a new header keeps.
use Rattle.std.proofs.Common.{◌≡◌, ◌≢◌, ◌<◌, ◌≤◌, ◌⊎◌, inl, inr, ℕ, true, List, [], ◌∷◌, ◌++◌, length, take, drop, get_or, refl, sym, ◌∙◌, ap, subst, arith, length-take}
use Rattle.std.proofs.lemmas.Bool.{cases_eq}
use Rattle.std.proofs.lemmas.Bool.Decides.{nat_tests}
use Rattle.std.proofs.lemmas.List.{append-nil, drop_at, drop_all, get_or-take}
use Rattle.topo_disk.specs.Disk.{Holds, Torn}
use Rattle.topo_journal.specs.Bytes.{Legal, Stands, read, is_not_yet, IsShut, IsNamed, header_rest, opening}
use Rattle.topo_journal.specs.Kept.{IsFront, IsClosedAfter, bodies_of}
use Rattle.topo_journal.proofs.Reading.{stands_closed}
use Rattle.topo_journal.proofs.Fronts.{front_from}

pub not_yet_stands : (legal : Legal) (c : List ℕ) → is_not_yet c ≡ true → Stands legal c []
unfolding read
not_yet_stands legal [] yet = refl
not_yet_stands legal (a ∷ []) yet = refl
not_yet_stands legal (a ∷ b ∷ []) yet = grind (arith, nat_tests)
not_yet_stands legal (a ∷ b ∷ c ∷ []) yet = grind (arith, nat_tests)
not_yet_stands legal (a ∷ b ∷ c ∷ d ∷ []) yet = grind (arith, nat_tests)
not_yet_stands legal (a ∷ b ∷ c ∷ d ∷ e ∷ []) yet = grind (arith, nat_tests)
not_yet_stands legal (a ∷ b ∷ c ∷ d ∷ e ∷ f ∷ []) yet = grind (arith, nat_tests)
not_yet_stands legal (a ∷ b ∷ c ∷ d ∷ e ∷ f ∷ g ∷ []) yet = grind (arith, nat_tests)
not_yet_stands legal (a ∷ b ∷ c ∷ d ∷ e ∷ f ∷ g ∷ h ∷ rest) yet = grind (arith, nat_tests)

pub shut_not_yet : (c : List ℕ) → IsShut c → is_not_yet c ≡ true
shut_not_yet [] shut = refl
shut_not_yet (a ∷ []) shut = refl
shut_not_yet (a ∷ b ∷ rest) shut = let closed : a ≢ 1 = shut.shut in let few : length rest ≤ 6 = omega (arith, shut.few) in grind (arith, nat_tests)

pub short_not_yet : (c : List ℕ) → length c ≤ 1 → is_not_yet c ≡ true
short_not_yet [] short = refl
short_not_yet (a ∷ []) short = refl
short_not_yet (a ∷ b ∷ c) short = absurd (omega arith)

pub not_yet_shut : (c : List ℕ) → is_not_yet c ≡ true → 1 < length c → IsShut c
not_yet_shut [] yet long = absurd (omega arith)
not_yet_shut (a ∷ []) yet long = absurd (omega arith)
not_yet_shut (a ∷ b ∷ rest) yet long =
    let closed : a ≢ 1 = grind (arith, nat_tests) in
    let few : length rest ≤ 6 = grind (arith, nat_tests) in
    record { shut = closed; some = omega arith; few = omega arith }

pub torn_short : (d c : List ℕ) → Torn 0 1 d c → length d ≤ 1 → length c ≤ 1
torn_short d c torn short = omega (arith, torn.no_longer)

pub torn_shut : (d c : List ℕ) → Torn 1 7 d c → IsShut d → IsShut c
torn_shut d c torn shut =
    let first : get_or c 0 0 ≡ get_or d 0 0 = sym (get_or-take 1 c 0 0 (omega arith)) ∙ ap (λ (l : List ℕ). get_or l 0 0) torn.before ∙ get_or-take 1 d 0 0 (omega arith) in
    record { shut = λ e. shut.shut (sym first ∙ e); some = omega (arith, torn.no_shorter, shut.some); few = omega (arith, torn.no_longer, shut.few) }

pub torn_named : (d c : List ℕ) → Torn 0 1 d c → IsNamed d → IsNamed c
torn_named d c torn named = torn.after ∙ named

pub written_zero : (d c : List ℕ) → Holds d 0 (0 ∷ []) c → length d ≤ 1 → IsShut c
written_zero d c holds short =
    let is : c ≡ 0 ∷ drop 1 d = holds in
    let none : drop 1 d ≡ [] = drop_all 1 d short in
    let whole : c ≡ 0 ∷ [] = is ∙ ap (λ (l : List ℕ). 0 ∷ l) none in
    subst IsShut (sym whole) (record { shut = λ e. absurd (omega arith); some = omega arith; few = omega arith })

pub written_name : (d c : List ℕ) → Holds d 1 header_rest c → IsShut d → IsNamed c
written_name d c holds shut =
    let none : drop 8 d ≡ [] = drop_all 8 d shut.few in
    let whole : c ≡ take 1 d ++ header_rest = holds ∙ ap (λ (l : List ℕ). take 1 d ++ header_rest ++ l) none ∙ append-nil (take 1 d ++ header_rest) in
    ap (λ (l : List ℕ). drop 1 l) whole ∙ drop_at (take 1 d) header_rest 1 (omega (arith, length-take 1 d, shut.some))

pub written_open : (d c : List ℕ) → Holds d 0 (1 ∷ []) c → IsNamed d → c ≡ opening 1 ++ 0 ∷ []
written_open d c holds named = let is : c ≡ 1 ∷ drop 1 d = holds in is ∙ ap (λ (l : List ℕ). 1 ∷ l) named

named_whole : (h : ℕ) (rest : List ℕ) (legal : Legal) → rest ≡ header_rest → Stands legal (h ∷ rest) []
named_whole h rest legal is = elim (cases_eq h 1) [
  | inl is_open ↦ ap (read legal) (ap (λ (n : ℕ). n ∷ rest) is_open ∙ ap (λ (l : List ℕ). 1 ∷ l) is) ∙ stands_closed legal 1 [] 0 [] (omega arith) (omega arith) tt
  | inr shut ↦ ap (read legal) (ap (λ (l : List ℕ). h ∷ l) is) ∙ not_yet_stands legal (h ∷ header_rest) (shut_not_yet (h ∷ header_rest) (record { shut = shut; some = omega arith; few = omega arith }))
]

pub named_stands : (legal : Legal) (c : List ℕ) → IsNamed c → Stands legal c []
named_stands legal [] named = absurd (cc named)
named_stands legal (h ∷ rest) named = named_whole h rest legal named

pub new_front : IsFront (opening 1) × (bodies_of (opening 1) ≡ [])
new_front = front_from (opening 1) 1 [] (omega arith) (sym (append-nil (opening 1)))

pub new_closed : (c : List ℕ) → c ≡ opening 1 ++ 0 ∷ [] → IsClosedAfter (opening 1) c
new_closed c is = subst (IsClosedAfter (opening 1)) (sym is) (record { front_same = refl; within = omega arith; shut = λ e. absurd (omega arith) })

pub new_gate : (seen : List ℕ) → seen ≡ opening 1 ++ 0 ∷ [] → take 7 seen ≡ opening 1
new_gate seen is = ap (λ (l : List ℕ). take 7 l) is

pub header_stands : (legal : Legal) (c : List ℕ) → (is_not_yet c ≡ true) ⊎ IsNamed c → Stands legal c []
header_stands legal c (inl yet) = not_yet_stands legal c yet
header_stands legal c (inr named) = named_stands legal c named
