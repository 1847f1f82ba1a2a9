-- What a field reads is spelled so, and what is spelled so is read again.
use Rattle.std.proofs.Common.{◌≡◌, ℕ, zero, suc, Bool, ◌&&◌, cond, IsTrue, List, [], ◌∷◌, ◌++◌, length, flat_map, Some, None, option_and_then, refl, sym, ap, subst, ◌∙◌, append_assoc}
use Rattle.std.specs.List.{list_all}
use Rattle.std.proofs.lemmas.Bool.{and_parts, and_from}
use Rattle.std.proofs.lemmas.Option.{cond_some}
use Rattle.table_dump.specs.Words.{Reads, first_tested, where_good, made, with_next, both, many}
use Rattle.table_dump.proofs.Loops.{then_read, found, same_found}

pub record IsField (A : Type 0) (good : A → Bool) (spell : A → List (List ℕ)) (read : Reads A) : Type 0 where
  pub takes : (words : List (List ℕ)) (x : A) (rest : List (List ℕ)) → read words ≡ Some (x, rest) → IsTrue (good x) × (words ≡ spell x ++ rest)
  pub again : (x : A) (rest : List (List ℕ)) → IsTrue (good x) → read (spell x ++ rest) ≡ Some (x, rest)

-- ---- fields of fields
both_takes : (A B : Type 0) (good : A → Bool) (good' : B → Bool) (spell : A → List (List ℕ)) (spell' : B → List (List ℕ)) (first : Reads A) (next : Reads B) → IsField A good spell first → IsField B good' spell' next
    → (words : List (List ℕ)) (x : A × B) (rest : List (List ℕ)) → both first next words ≡ Some (x, rest) → IsTrue (good x.0 && good' x.1) × (words ≡ (spell x.0 ++ spell' x.1) ++ rest)
both_takes A B good good' spell spell' first next f g words x rest e =
    let one = then_read (first words) (with_next next) (x, rest) e in
    let two = then_read (next one.0.1) (λ y. Some ((one.0.0, y.0), y.1)) (x, rest) one.2 in
    let read : (A × B) × List (List ℕ) = ((one.0.0, two.0.0), two.0.1) in
    let same = same_found read (x, rest) two.2 in
    let t = f.takes words one.0.0 one.0.1 one.1 in
    let u = g.takes one.0.1 two.0.0 two.0.1 two.1 in
    let parts : words ≡ (spell one.0.0 ++ spell' two.0.0) ++ two.0.1 = t.1 ∙ ap (λ (l : List (List ℕ)). spell one.0.0 ++ l) u.1 ∙ sym (append_assoc (spell one.0.0) (spell' two.0.0) two.0.1) in
    subst (λ (q : (A × B) × List (List ℕ)). IsTrue (good q.0.0 && good' q.0.1) × (words ≡ (spell q.0.0 ++ spell' q.0.1) ++ q.1)) same (and_from (good one.0.0) (good' two.0.0) t.0 u.0, parts)

both_again : (A B : Type 0) (good : A → Bool) (good' : B → Bool) (spell : A → List (List ℕ)) (spell' : B → List (List ℕ)) (first : Reads A) (next : Reads B) → IsField A good spell first → IsField B good' spell' next
    → (x : A × B) (rest : List (List ℕ)) → IsTrue (good x.0 && good' x.1) → both first next ((spell x.0 ++ spell' x.1) ++ rest) ≡ Some (x, rest)
both_again A B good good' spell spell' first next f g x rest h =
    let p = and_parts (good x.0) (good' x.1) h in
    ap (both first next) (append_assoc (spell x.0) (spell' x.1) rest) ∙ ap (option_and_then (with_next next)) (f.again x.0 (spell' x.1 ++ rest) p.0)
    ∙ ap (option_and_then (λ y. Some ((x.0, y.0), y.1))) (g.again x.1 rest p.1)

pub both_field : (A B : Type 0) (good : A → Bool) (good' : B → Bool) (spell : A → List (List ℕ)) (spell' : B → List (List ℕ)) (first : Reads A) (next : Reads B) → IsField A good spell first → IsField B good' spell' next
    → IsField (A × B) (λ x. good x.0 && good' x.1) (λ x. spell x.0 ++ spell' x.1) (both first next)
both_field A B good good' spell spell' first next f g = record {
  takes = both_takes A B good good' spell spell' first next f g;
  again = both_again A B good good' spell spell' first next f g;
}

where_takes : (A : Type 0) (good test : A → Bool) (spell : A → List (List ℕ)) (read : Reads A) → IsField A good spell read
    → (words : List (List ℕ)) (x : A) (rest : List (List ℕ)) → where_good test read words ≡ Some (x, rest) → IsTrue (good x && test x) × (words ≡ spell x ++ rest)
where_takes A good test spell read f words x rest e =
    let one = then_read (read words) (first_tested test) (x, rest) e in
    let two = cond_some (test one.0.0) one.0 (x, rest) one.2 in
    let t = f.takes words one.0.0 one.0.1 one.1 in
    subst (λ (q : A × List (List ℕ)). IsTrue (good q.0 && test q.0) × (words ≡ spell q.0 ++ q.1)) two.1 (and_from (good one.0.0) (test one.0.0) t.0 two.0, t.1)

where_again : (A : Type 0) (good test : A → Bool) (spell : A → List (List ℕ)) (read : Reads A) → IsField A good spell read
    → (x : A) (rest : List (List ℕ)) → IsTrue (good x && test x) → where_good test read (spell x ++ rest) ≡ Some (x, rest)
where_again A good test spell read f x rest h =
    let p = and_parts (good x) (test x) h in
    ap (option_and_then (first_tested test)) (f.again x rest p.0) ∙ ap (λ b. cond b (found (x, rest)) None) p.1

pub where_field : (A : Type 0) (good test : A → Bool) (spell : A → List (List ℕ)) (read : Reads A) → IsField A good spell read → IsField A (λ x. good x && test x) spell (where_good test read)
where_field A good test spell read f = record { takes = where_takes A good test spell read f; again = where_again A good test spell read f }

pub made_takes : (A B : Type 0) (good : A → Bool) (spell : A → List (List ℕ)) (read : Reads A) → IsField A good spell read → (make : A → B)
    → (words : List (List ℕ)) (y : B) (rest : List (List ℕ)) → made make read words ≡ Some (y, rest) → (x : A) × (make x ≡ y) × IsTrue (good x) × (words ≡ spell x ++ rest)
made_takes A B good spell read f make words y rest e =
    let one = then_read (read words) (λ x. Some (make x.0, x.1)) (y, rest) e in
    let read_one : B × List (List ℕ) = (make one.0.0, one.0.1) in
    let same = same_found read_one (y, rest) one.2 in
    let t = f.takes words one.0.0 one.0.1 one.1 in
    (one.0.0, ap (λ (q : B × List (List ℕ)). q.0) same, t.0, t.1 ∙ ap (λ (q : B × List (List ℕ)). spell one.0.0 ++ q.1) same)

pub made_again : (A B : Type 0) (good : A → Bool) (spell : A → List (List ℕ)) (read : Reads A) → IsField A good spell read → (make : A → B)
    → (x : A) (rest : List (List ℕ)) → IsTrue (good x) → made make read (spell x ++ rest) ≡ Some (make x, rest)
made_again A B good spell read f make x rest h = ap (option_and_then (λ (y : A × List (List ℕ)). found (make y.0, y.1))) (f.again x rest h)

pub many_takes : (A : Type 0) (good : A → Bool) (spell : A → List (List ℕ)) (read : Reads A) → IsField A good spell read
    → (n : ℕ) (words : List (List ℕ)) (xs : List A) (rest : List (List ℕ)) → many read n words ≡ Some (xs, rest) → IsTrue (list_all good xs) × (words ≡ flat_map spell xs ++ rest)
many_takes A good spell read f zero words xs rest e =
    let none : List A × List (List ℕ) = ([], words) in
    subst (λ (q : List A × List (List ℕ)). IsTrue (list_all good q.0) × (words ≡ flat_map spell q.0 ++ q.1)) (same_found none (xs, rest) e) (refl, refl)
many_takes A good spell read f (suc n) words xs rest e =
    let one = then_read (read words) (λ x. option_and_then (λ ys. Some (x.0 ∷ ys.0, ys.1)) (many read n x.1)) (xs, rest) e in
    let two = then_read (many read n one.0.1) (λ ys. Some (one.0.0 ∷ ys.0, ys.1)) (xs, rest) one.2 in
    let all : List A × List (List ℕ) = (one.0.0 ∷ two.0.0, two.0.1) in
    let t = f.takes words one.0.0 one.0.1 one.1 in
    let u = many_takes A good spell read f n one.0.1 two.0.0 two.0.1 two.1 in
    let parts : words ≡ (spell one.0.0 ++ flat_map spell two.0.0) ++ two.0.1 =
    t.1 ∙ ap (λ (l : List (List ℕ)). spell one.0.0 ++ l) u.1 ∙ sym (append_assoc (spell one.0.0) (flat_map spell two.0.0) two.0.1) in
    subst (λ (q : List A × List (List ℕ)). IsTrue (list_all good q.0) × (words ≡ flat_map spell q.0 ++ q.1)) (same_found all (xs, rest) two.2) (and_from (good one.0.0) (list_all good two.0.0) t.0 u.0, parts)

pub many_again : (A : Type 0) (good : A → Bool) (spell : A → List (List ℕ)) (read : Reads A) → IsField A good spell read
    → (xs : List A) (rest : List (List ℕ)) → IsTrue (list_all good xs) → many read (length xs) (flat_map spell xs ++ rest) ≡ Some (xs, rest)
many_again A good spell read f [] rest h = refl
many_again A good spell read f (x ∷ xs) rest h =
    let p = and_parts (good x) (list_all good xs) h in
    ap (many read (suc (length xs))) (append_assoc (spell x) (flat_map spell xs) rest)
    ∙ ap (option_and_then (λ (y : A × List (List ℕ)). option_and_then (λ (ys : List A × List (List ℕ)). found (y.0 ∷ ys.0, ys.1)) (many read (length xs) y.1))) (f.again x (flat_map spell xs ++ rest) p.0)
    ∙ ap (option_and_then (λ (ys : List A × List (List ℕ)). found (x ∷ ys.0, ys.1))) (many_again A good spell read f xs rest p.1)
