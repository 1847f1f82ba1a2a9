-- The names that stand in a word, with commas between them.
use Rattle.std.proofs.Common.{◌≡◌, ℕ, Bool, true, false, cond, not, eqb, ◌&&◌, List, [], ◌∷◌, ◌++◌, IsTrue, refl, sym, ap, subst, ◌∙◌, append_assoc}
use Rattle.std.specs.Prelude.{codes, ◌||◌, nat_le, length}
use Rattle.std.specs.List.{list_all, join_with_byte}
use Rattle.std.proofs.lemmas.Bool.{and_parts, and_from}
use Rattle.std.proofs.lemmas.Bool.Decides.{Decides-eqb}
use Rattle.std.proofs.lemmas.List.Folds.{list_all-append}
use Rattle.topo_base.specs.Names.{is_letter, is_name_byte, is_name}
use Rattle.script_model.specs.Script.{pieces, onto}
use Rattle.script_model.proofs.Pieces.{pieces_front, pieces_last}
use Rattle.script_reader.specs.Parting.{is_comma, IsWhole, IsPart}
use Rattle.script_reader.specs.Reading.{AreNames}

-- ---- a name has no comma
no_comma_when : (c : ℕ) (b : Bool) → is_comma c ≡ b → is_name_byte c ≡ true → not b ≡ true
no_comma_when c false e h = refl
no_comma_when c true e h = let bad : is_name_byte 44 ≡ true = subst (λ d. is_name_byte d ≡ true) ((Decides-eqb c 44).0 e) h in absurd cc

no_comma : (c : ℕ) → is_name_byte c ≡ true → not (is_comma c) ≡ true
no_comma c h = no_comma_when c (is_comma c) refl h

bytes_whole : (cs : List ℕ) → IsTrue (list_all is_name_byte cs) → IsWhole is_comma cs
bytes_whole [] h = refl
bytes_whole (c ∷ cs) h =
    let here = and_parts (is_name_byte c) (list_all is_name_byte cs) h in
    and_from (not (is_comma c)) (list_all (λ c. not (is_comma c)) cs) (no_comma c here.0) (bytes_whole cs here.1)

letter_is_byte : (c : ℕ) → is_letter c ≡ true → is_name_byte c ≡ true
letter_is_byte c h = ap (λ b. b || nat_le 48 c && nat_le c 57 || eqb c 95) h

pub name_whole : (name : List ℕ) → IsTrue (is_name name) → IsWhole is_comma name
name_whole [] h = absurd cc
name_whole (c ∷ cs) h =
    let here = and_parts (is_letter c) (list_all is_name_byte cs) (and_parts (is_letter c && list_all is_name_byte cs) (nat_le (length cs) 62) h).0 in
    and_from (not (is_comma c)) (list_all (λ c. not (is_comma c)) cs) (no_comma c (letter_is_byte c here.0)) (bytes_whole cs here.1)

-- ---- names and the pieces of a word
pub names_pieces : (n : List ℕ) (ns : List (List ℕ)) → IsTrue (list_all is_name (n ∷ ns)) → pieces is_comma ([] ∷ []) (join_with_byte 44 (n ∷ ns)) ≡ n ∷ ns
names_pieces n [] h = pieces_last is_comma n (name_whole n (and_parts (is_name n) true h).0)
names_pieces n (m ∷ ns) h =
    let here = and_parts (is_name n) (list_all is_name (m ∷ ns)) h in
    pieces_front is_comma ([] ∷ []) 44 n (join_with_byte 44 (m ∷ ns)) (name_whole n here.0) refl ∙ ap (λ l. n ∷ l) (names_pieces m ns here.1)

join_onto : (c : ℕ) (ps : List (List ℕ)) → join_with_byte 44 (onto c ps) ≡ c ∷ join_with_byte 44 ps
join_onto c [] = refl
join_onto c (p ∷ []) = refl
join_onto c (p ∷ q ∷ ps) = refl

onto_some : (c : ℕ) (ps : List (List ℕ)) → onto c ps ≡ [] → ⊥
onto_some c [] e = cc
onto_some c (p ∷ ps) e = cc

choice_some : (b : Bool) (c : ℕ) (ps : List (List ℕ)) → cond b ([] ∷ ps) (onto c ps) ≡ [] → ⊥
choice_some true c ps e = cc
choice_some false c ps e = onto_some c ps e

pieces_some : (w : List ℕ) → pieces is_comma ([] ∷ []) w ≡ [] → ⊥
pieces_some [] e = cc
pieces_some (c ∷ cs) e = choice_some (is_comma c) c (pieces is_comma ([] ∷ []) cs) e

join_empty : (ps : List (List ℕ)) → (ps ≡ [] → ⊥) → join_with_byte 44 ([] ∷ ps) ≡ 44 ∷ join_with_byte 44 ps
join_empty [] some = absurd (some refl)
join_empty (p ∷ ps) some = refl

join_choice : (b : Bool) (c : ℕ) (ps : List (List ℕ)) → is_comma c ≡ b → (ps ≡ [] → ⊥) → join_with_byte 44 (cond b ([] ∷ ps) (onto c ps)) ≡ c ∷ join_with_byte 44 ps
join_choice true c ps e some = join_empty ps some ∙ ap (λ d. d ∷ join_with_byte 44 ps) (sym ((Decides-eqb c 44).0 e))
join_choice false c ps e some = join_onto c ps

pub join_pieces : (w : List ℕ) → join_with_byte 44 (pieces is_comma ([] ∷ []) w) ≡ w
join_pieces [] = refl
join_pieces (c ∷ cs) = join_choice (is_comma c) c (pieces is_comma ([] ∷ []) cs) refl (pieces_some cs) ∙ ap (λ l. c ∷ l) (join_pieces cs)

-- ---- the names of a word
-- they are its pieces
pub names_of_pieces : (word : List ℕ) (ns : List (List ℕ)) → pieces is_comma ([] ∷ []) word ≡ ns → IsTrue (list_all is_name ns) → AreNames word ns
names_of_pieces word [] e good = absurd (pieces_some word e)
names_of_pieces word (n ∷ ns) e good = record { good = good; spelled = ap (λ w. w ∷ codes "=" ∷ []) (sym (join_pieces word) ∙ ap (join_with_byte 44) e) }

pub pieces_of_names : (word : List ℕ) (ns : List (List ℕ)) → AreNames word ns → pieces is_comma ([] ∷ []) word ≡ ns
pieces_of_names word [] h = let spelled = h.spelled in absurd cc
pieces_of_names word (n ∷ ns) h =
    let spelled = h.spelled in
    let same : word ≡ join_with_byte 44 (n ∷ ns) = cc in
    ap (pieces is_comma ([] ∷ [])) same ∙ names_pieces n ns h.good

-- a piece that is no name
pub no_names : (word p : List ℕ) (done more : List (List ℕ)) → pieces is_comma ([] ∷ []) word ≡ done ++ p ∷ more → is_name p ≡ false → (ns : List (List ℕ)) → AreNames word ns → ⊥
no_names word p done more e other ns h =
    let all : IsTrue (list_all is_name (done ++ p ∷ more)) = subst (λ l. IsTrue (list_all is_name l)) (sym (pieces_of_names word ns h) ∙ e) h.good in
    let tail = (and_parts (list_all is_name done) (list_all is_name (p ∷ more)) (sym (list_all-append is_name done (p ∷ more)) ∙ all)).1 in
    let good = (and_parts (is_name p) (list_all is_name more) tail).0 in
    cc

-- ---- a walk over the pieces
pieces_part : (rest first after : List ℕ) → IsPart is_comma rest first after → pieces is_comma ([] ∷ []) rest ≡ first ∷ pieces is_comma ([] ∷ []) after
pieces_part rest first after part = ap (pieces is_comma ([] ∷ [])) part.is ∙ pieces_front is_comma ([] ∷ []) part.byte first after part.whole part.ends

-- a name more
pub good_more : (done new : List (List ℕ)) (first name : List ℕ) → new ≡ done ++ name ∷ [] → name ≡ first → IsTrue (is_name first) → IsTrue (list_all is_name done) → IsTrue (list_all is_name new)
good_more done new first name is same good h =
    let one : IsTrue (list_all is_name (name ∷ [])) = and_from (is_name name) true (subst (λ n. IsTrue (is_name n)) (sym same) good) refl in
    ap (list_all is_name) is ∙ list_all-append is_name done (name ∷ []) ∙ and_from (list_all is_name done) (list_all is_name (name ∷ [])) h one

pub parted_more : (word rest after first name : List ℕ) (done new : List (List ℕ)) → new ≡ done ++ name ∷ [] → name ≡ first → IsPart is_comma rest first after
    → pieces is_comma ([] ∷ []) word ≡ done ++ pieces is_comma ([] ∷ []) rest → pieces is_comma ([] ∷ []) word ≡ new ++ pieces is_comma ([] ∷ []) after
parted_more word rest after first name done new is same part h =
    h ∙ ap (λ l. done ++ l) (pieces_part rest first after part) ∙ ap (λ n. done ++ n ∷ pieces is_comma ([] ∷ []) after) (sym same)
    ∙ sym (append_assoc done (name ∷ []) (pieces is_comma ([] ∷ []) after)) ∙ ap (λ l. l ++ pieces is_comma ([] ∷ []) after) (sym is)

pub names_last : (word rest name : List ℕ) (done new : List (List ℕ)) → new ≡ done ++ name ∷ [] → name ≡ rest → IsTrue (is_name rest) → IsTrue (list_all is_name done) → IsWhole is_comma rest
    → pieces is_comma ([] ∷ []) word ≡ done ++ pieces is_comma ([] ∷ []) rest → AreNames word new
names_last word rest name done new is same good all whole h =
    let parted : pieces is_comma ([] ∷ []) word ≡ new = h ∙ ap (λ l. done ++ l) (pieces_last is_comma rest whole) ∙ ap (λ n. done ++ n ∷ []) (sym same) ∙ sym is in
    names_of_pieces word new parted (good_more done new rest name is same good all)

-- a piece that is no name, before a comma and at the end
pub no_name_here : (word rest first after : List ℕ) (done : List (List ℕ)) → IsPart is_comma rest first after → pieces is_comma ([] ∷ []) word ≡ done ++ pieces is_comma ([] ∷ []) rest
    → is_name first ≡ false → (ns : List (List ℕ)) → AreNames word ns → ⊥
no_name_here word rest first after done part h other = no_names word first done _ (h ∙ ap (λ l. done ++ l) (pieces_part rest first after part)) other

pub no_name_last : (word rest : List ℕ) (done : List (List ℕ)) → IsWhole is_comma rest → pieces is_comma ([] ∷ []) word ≡ done ++ pieces is_comma ([] ∷ []) rest
    → is_name rest ≡ false → (ns : List (List ℕ)) → AreNames word ns → ⊥
no_name_last word rest done whole h other = no_names word rest done [] (h ∙ ap (λ l. done ++ l) (pieces_last is_comma rest whole)) other
