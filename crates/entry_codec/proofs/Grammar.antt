-- What a field reads is spelled so, and what is spelled so is read again.
use Rattle.std.proofs.Common.{◌≡◌, ℕ, zero, suc, ◌/◌, ◌%◌, ◌<◌, ◌^◌, Bool, true, ◌&&◌, cond, IsTrue, List, [], ◌∷◌, ◌++◌, length, take, drop, get_or, flat_map, Some, None, option_and_then, nat_lt, nat_le, refl, sym, ap, subst, ◌∙◌, append_assoc, arith, leb-true, le-leb, lt-ltb, ltb-true}
use Rattle.std.specs.List.{list_all}
use Rattle.std.specs.Int.{Width, w32, w64, byte_len, from_be_bytes, to_be_bytes}
use Rattle.std.proofs.lemmas.Bool.{and_parts, and_from}
use Rattle.std.proofs.lemmas.List.{take_at, drop_at, take-append-drop, length-append, length-take}
use Rattle.std.proofs.lemmas.Nat.{be_bytes_4, be_bytes_8, from_be_bytes-to_be_bytes_4, from_be_bytes-to_be_bytes_8}
use Rattle.std.proofs.lemmas.Option.{cond_some}
use Rattle.drawing.specs.InRange.{is_id}
use Rattle.history_model.specs.Spelling.{number_bytes}
use Rattle.entry_codec.specs.Reading.{Reads, tested, where_good, made, with_next, both, many, is_byte, wide_at, number_at}
use Rattle.entry_codec.proofs.Loops.{then_read, found, same_found}

pub record IsField (A : Type 0) (good : A → Bool) (spell : A → List ℕ) (read : Reads A) : Type 0 where
  pub takes : (bytes : List ℕ) (x : A) (rest : List ℕ) → read bytes ≡ Some (x, rest) → IsTrue (good x) × (bytes ≡ spell x ++ rest)
  pub again : (x : A) (rest : List ℕ) → IsTrue (good x) → read (spell x ++ rest) ≡ Some (x, rest)

-- ---- fields of fields
both_takes : (A B : Type 0) (good : A → Bool) (good' : B → Bool) (spell : A → List ℕ) (spell' : B → List ℕ) (first : Reads A) (next : Reads B) → IsField A good spell first → IsField B good' spell' next
    → (bytes : List ℕ) (x : A × B) (rest : List ℕ) → both first next bytes ≡ Some (x, rest) → IsTrue (good x.0 && good' x.1) × (bytes ≡ (spell x.0 ++ spell' x.1) ++ rest)
both_takes A B good good' spell spell' first next f g bytes x rest e =
    let one = then_read (first bytes) (with_next next) (x, rest) e in
    let two = then_read (next one.0.1) (λ y. Some ((one.0.0, y.0), y.1)) (x, rest) one.2 in
    let read : (A × B) × List ℕ = ((one.0.0, two.0.0), two.0.1) in
    let same = same_found read (x, rest) two.2 in
    let t = f.takes bytes one.0.0 one.0.1 one.1 in
    let u = g.takes one.0.1 two.0.0 two.0.1 two.1 in
    let parts : bytes ≡ (spell one.0.0 ++ spell' two.0.0) ++ two.0.1 = t.1 ∙ ap (λ (l : List ℕ). spell one.0.0 ++ l) u.1 ∙ sym (append_assoc (spell one.0.0) (spell' two.0.0) two.0.1) in
    subst (λ (q : (A × B) × List ℕ). IsTrue (good q.0.0 && good' q.0.1) × (bytes ≡ (spell q.0.0 ++ spell' q.0.1) ++ q.1)) same (and_from (good one.0.0) (good' two.0.0) t.0 u.0, parts)

both_again : (A B : Type 0) (good : A → Bool) (good' : B → Bool) (spell : A → List ℕ) (spell' : B → List ℕ) (first : Reads A) (next : Reads B) → IsField A good spell first → IsField B good' spell' next
    → (x : A × B) (rest : List ℕ) → IsTrue (good x.0 && good' x.1) → both first next ((spell x.0 ++ spell' x.1) ++ rest) ≡ Some (x, rest)
both_again A B good good' spell spell' first next f g x rest h =
    let p = and_parts (good x.0) (good' x.1) h in
    ap (both first next) (append_assoc (spell x.0) (spell' x.1) rest) ∙ ap (option_and_then (with_next next)) (f.again x.0 (spell' x.1 ++ rest) p.0)
    ∙ ap (option_and_then (λ y. Some ((x.0, y.0), y.1))) (g.again x.1 rest p.1)

pub both_field : (A B : Type 0) (good : A → Bool) (good' : B → Bool) (spell : A → List ℕ) (spell' : B → List ℕ) (first : Reads A) (next : Reads B) → IsField A good spell first → IsField B good' spell' next
    → IsField (A × B) (λ x. good x.0 && good' x.1) (λ x. spell x.0 ++ spell' x.1) (both first next)
both_field A B good good' spell spell' first next f g = record {
  takes = both_takes A B good good' spell spell' first next f g;
  again = both_again A B good good' spell spell' first next f g;
}

where_takes : (A : Type 0) (good test : A → Bool) (spell : A → List ℕ) (read : Reads A) → IsField A good spell read
    → (bytes : List ℕ) (x : A) (rest : List ℕ) → where_good test read bytes ≡ Some (x, rest) → IsTrue (good x && test x) × (bytes ≡ spell x ++ rest)
where_takes A good test spell read f bytes x rest e =
    let one = then_read (read bytes) (tested test) (x, rest) e in
    let two = cond_some (test one.0.0) one.0 (x, rest) one.2 in
    let t = f.takes bytes one.0.0 one.0.1 one.1 in
    subst (λ (q : A × List ℕ). IsTrue (good q.0 && test q.0) × (bytes ≡ spell q.0 ++ q.1)) two.1 (and_from (good one.0.0) (test one.0.0) t.0 two.0, t.1)

where_again : (A : Type 0) (good test : A → Bool) (spell : A → List ℕ) (read : Reads A) → IsField A good spell read
    → (x : A) (rest : List ℕ) → IsTrue (good x && test x) → where_good test read (spell x ++ rest) ≡ Some (x, rest)
where_again A good test spell read f x rest h =
    let p = and_parts (good x) (test x) h in
    ap (option_and_then (tested test)) (f.again x rest p.0) ∙ ap (λ b. cond b (found (x, rest)) None) p.1

pub where_field : (A : Type 0) (good test : A → Bool) (spell : A → List ℕ) (read : Reads A) → IsField A good spell read → IsField A (λ x. good x && test x) spell (where_good test read)
where_field A good test spell read f = record { takes = where_takes A good test spell read f; again = where_again A good test spell read f }

pub made_takes : (A B : Type 0) (good : A → Bool) (spell : A → List ℕ) (read : Reads A) → IsField A good spell read → (make : A → B)
    → (bytes : List ℕ) (y : B) (rest : List ℕ) → made make read bytes ≡ Some (y, rest) → (x : A) × (make x ≡ y) × IsTrue (good x) × (bytes ≡ spell x ++ rest)
made_takes A B good spell read f make bytes y rest e =
    let one = then_read (read bytes) (λ x. Some (make x.0, x.1)) (y, rest) e in
    let read_one : B × List ℕ = (make one.0.0, one.0.1) in
    let same = same_found read_one (y, rest) one.2 in
    let t = f.takes bytes one.0.0 one.0.1 one.1 in
    (one.0.0, ap (λ (q : B × List ℕ). q.0) same, t.0, t.1 ∙ ap (λ (q : B × List ℕ). spell one.0.0 ++ q.1) same)

pub made_again : (A B : Type 0) (good : A → Bool) (spell : A → List ℕ) (read : Reads A) → IsField A good spell read → (make : A → B)
    → (x : A) (rest : List ℕ) → IsTrue (good x) → made make read (spell x ++ rest) ≡ Some (make x, rest)
made_again A B good spell read f make x rest h = ap (option_and_then (λ (y : A × List ℕ). found (make y.0, y.1))) (f.again x rest h)

pub many_takes : (A : Type 0) (good : A → Bool) (spell : A → List ℕ) (read : Reads A) → IsField A good spell read
    → (n : ℕ) (bytes : List ℕ) (xs : List A) (rest : List ℕ) → many read n bytes ≡ Some (xs, rest) → IsTrue (list_all good xs) × (bytes ≡ flat_map spell xs ++ rest)
many_takes A good spell read f zero bytes xs rest e =
    let none : List A × List ℕ = ([], bytes) in
    subst (λ (q : List A × List ℕ). IsTrue (list_all good q.0) × (bytes ≡ flat_map spell q.0 ++ q.1)) (same_found none (xs, rest) e) (refl, refl)
many_takes A good spell read f (suc n) bytes xs rest e =
    let one = then_read (read bytes) (λ x. option_and_then (λ ys. Some (x.0 ∷ ys.0, ys.1)) (many read n x.1)) (xs, rest) e in
    let two = then_read (many read n one.0.1) (λ ys. Some (one.0.0 ∷ ys.0, ys.1)) (xs, rest) one.2 in
    let all : List A × List ℕ = (one.0.0 ∷ two.0.0, two.0.1) in
    let t = f.takes bytes one.0.0 one.0.1 one.1 in
    let u = many_takes A good spell read f n one.0.1 two.0.0 two.0.1 two.1 in
    let parts : bytes ≡ (spell one.0.0 ++ flat_map spell two.0.0) ++ two.0.1 =
    t.1 ∙ ap (λ (l : List ℕ). spell one.0.0 ++ l) u.1 ∙ sym (append_assoc (spell one.0.0) (flat_map spell two.0.0) two.0.1) in
    subst (λ (q : List A × List ℕ). IsTrue (list_all good q.0) × (bytes ≡ flat_map spell q.0 ++ q.1)) (same_found all (xs, rest) two.2) (and_from (good one.0.0) (list_all good two.0.0) t.0 u.0, parts)

pub many_again : (A : Type 0) (good : A → Bool) (spell : A → List ℕ) (read : Reads A) → IsField A good spell read
    → (xs : List A) (rest : List ℕ) → IsTrue (list_all good xs) → many read (length xs) (flat_map spell xs ++ rest) ≡ Some (xs, rest)
many_again A good spell read f [] rest h = refl
many_again A good spell read f (x ∷ xs) rest h =
    let p = and_parts (good x) (list_all good xs) h in
    ap (many read (suc (length xs))) (append_assoc (spell x) (flat_map spell xs) rest)
    ∙ ap (option_and_then (λ (y : A × List ℕ). option_and_then (λ (ys : List A × List ℕ). found (y.0 ∷ ys.0, ys.1)) (many read (length xs) y.1))) (f.again x (flat_map spell xs ++ rest) p.0)
    ∙ ap (option_and_then (λ (ys : List A × List ℕ). found (x ∷ ys.0, ys.1))) (many_again A good spell read f xs rest p.1)

-- ---- numbers
byte_at : (bs : List ℕ) → IsTrue (list_all is_byte bs) → (i : ℕ) → get_or bs i 0 < 256
byte_at [] h i = omega arith
byte_at (b ∷ bs) h zero = ltb-true b 256 (and_parts (is_byte b) (list_all is_byte bs) h).0
byte_at (b ∷ bs) h (suc i) = byte_at bs (and_parts (is_byte b) (list_all is_byte bs) h).1 i

digit : (m : ℕ) → is_byte (m % 256) ≡ true
digit m = lt-ltb (m % 256) 256 (omega arith)

record IsWide (w : Width) (limit : ℕ) : Type 0 where
  pub len : (n : ℕ) → length (to_be_bytes w n) ≡ byte_len w
  pub digits : (n : ℕ) → list_all is_byte (to_be_bytes w n) ≡ true
  pub back : (bytes : List ℕ) → length bytes ≡ byte_len w → ((i : ℕ) → get_or bytes i 0 < 256) → to_be_bytes w (from_be_bytes w bytes) ≡ bytes
  pub once : (n : ℕ) → n < limit → from_be_bytes w (to_be_bytes w n) ≡ n
  pub below : (bytes : List ℕ) → ((i : ℕ) → get_or bytes i 0 < 256) → from_be_bytes w bytes < limit

wide32 : IsWide w32 (2 ^ 32)
wide32 = record {
  len = λ n. refl;
  digits = λ n. rw (digit (n / 16777216), digit (n / 65536), digit (n / 256), digit n) refl;
  back = λ bytes len fits. be_bytes_4 bytes _ len fits refl;
  once = λ n lt. from_be_bytes-to_be_bytes_4 n lt;
  below = λ bytes fits. omega (arith, fits 0, fits 1, fits 2, fits 3);
}

wide64 : IsWide w64 (2 ^ 64)
wide64 = record {
  len = λ n. refl;
  digits = λ n. rw (digit (n / 72057594037927936), digit (n / 281474976710656), digit (n / 1099511627776), digit (n / 4294967296), digit (n / 16777216), digit (n / 65536), digit (n / 256), digit n) refl;
  back = λ bytes len fits. be_bytes_8 bytes _ len fits refl;
  once = λ n lt. from_be_bytes-to_be_bytes_8 n lt;
  below = λ bytes fits. omega (arith, fits 0, fits 1, fits 2, fits 3, fits 4, fits 5, fits 6, fits 7);
}

wide_takes : (w : Width) (limit : ℕ) → IsWide w limit → (bytes : List ℕ) (n : ℕ) (rest : List ℕ) → wide_at w bytes ≡ Some (n, rest) → IsTrue (nat_lt n limit) × (bytes ≡ to_be_bytes w n ++ rest)
unfolding wide_at
wide_takes w limit wide bytes n rest e =
    let k = byte_len w in let front = take k bytes in
    let read : ℕ × List ℕ = (from_be_bytes w front, drop k bytes) in
    let one = cond_some (nat_le k (length bytes) && list_all is_byte front) read (n, rest) e in
    let tests = and_parts (nat_le k (length bytes)) (list_all is_byte front) one.0 in
    let size : length front ≡ k = omega (arith, length-take k bytes, leb-true k (length bytes) tests.0) in
    let fits = byte_at front tests.1 in
    let parts : bytes ≡ to_be_bytes w (from_be_bytes w front) ++ drop k bytes =
    sym (take-append-drop k bytes) ∙ ap (λ (l : List ℕ). l ++ drop k bytes) (sym (wide.back front size fits)) in
    subst (λ (q : ℕ × List ℕ). IsTrue (nat_lt q.0 limit) × (bytes ≡ to_be_bytes w q.0 ++ q.1)) one.1 (lt-ltb (from_be_bytes w front) limit (wide.below front fits), parts)

wide_again : (w : Width) (limit : ℕ) → IsWide w limit → (n : ℕ) (rest : List ℕ) → IsTrue (nat_lt n limit) → wide_at w (to_be_bytes w n ++ rest) ≡ Some (n, rest)
unfolding wide_at
wide_again w limit wide n rest h =
    let bytes = to_be_bytes w n in let k = byte_len w in
    let long : nat_le k (length (bytes ++ rest)) ≡ true = le-leb k (length (bytes ++ rest)) (omega (arith, length-append bytes rest, wide.len n)) in
    let front : take k (bytes ++ rest) ≡ bytes = take_at bytes rest k (wide.len n) in
    let test : (nat_le k (length (bytes ++ rest)) && list_all is_byte (take k (bytes ++ rest))) ≡ true =
    and_from (nat_le k (length (bytes ++ rest))) (list_all is_byte (take k (bytes ++ rest))) long (ap (list_all is_byte) front ∙ wide.digits n) in
    let read : (from_be_bytes w (take k (bytes ++ rest)), drop k (bytes ++ rest)) ≡ (n, rest) =
    λ i. ((ap (from_be_bytes w) front ∙ wide.once n (ltb-true n limit h)) i, drop_at bytes rest k (wide.len n) i) in
    ap (λ b. cond b (found (from_be_bytes w (take k (bytes ++ rest)), drop k (bytes ++ rest))) None) test ∙ ap found read

abbrev pub is_wide : ℕ → Bool
is_wide n = nat_lt n (2 ^ 64)

pub number_field : IsField ℕ is_id number_bytes number_at
unfolding number_at
number_field = record { takes = wide_takes w32 (2 ^ 32) wide32; again = wide_again w32 (2 ^ 32) wide32 }

pub wide_field : IsField ℕ is_wide (to_be_bytes w64) (wide_at w64)
wide_field = record { takes = wide_takes w64 (2 ^ 64) wide64; again = wide_again w64 (2 ^ 64) wide64 }
