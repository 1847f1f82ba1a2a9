-- The lines of a history, one entry more.
use Rattle.std.proofs.Common.{◌≡◌, ℕ, ◌+◌, ◌<◌, List, [], ◌∷◌, ◌++◌, length, take, get_or, refl, sym, ap, subst, ◌∙◌, arith, append_assoc, append-nil, length-take}
use Rattle.std.proofs.lemmas.List.{take_more}
use Rattle.topo_base.specs.declared.edit.Entry.{Entry}
use Rattle.script_model.specs.Texts.{entry_text, entries_text}

entries_text-append : (n : ℕ) (xs ys : List Entry) → entries_text n (xs ++ ys) ≡ entries_text n xs ++ entries_text (n + length xs) ys
entries_text-append n [] ys = let same : n ≡ n + 0 = omega arith in ap (λ k. entries_text k ys) same
entries_text-append n (x ∷ xs) ys =
    let same : n + 1 + length xs ≡ n + length (x ∷ xs) = omega arith in
    ap (λ l. entry_text n x ++ l) (entries_text-append (n + 1) xs ys ∙ ap (λ k. entries_text (n + 1) xs ++ entries_text k ys) same)
    ∙ sym (append_assoc (entry_text n x) (entries_text (n + 1) xs) (entries_text (n + length (x ∷ xs)) ys))

pub entries_more : (xs : List Entry) (i : ℕ) (x : Entry) → i < length xs → x ≡ get_or xs i x → entries_text 1 (take (i + 1) xs) ≡ entries_text 1 (take i xs) ++ entry_text (i + 1) x
entries_more xs i x inside is =
    let more : take (i + 1) xs ≡ take i xs ++ x ∷ [] = take_more xs i x inside ∙ ap (λ y. take i xs ++ y ∷ []) (sym is) in
    let number : 1 + length (take i xs) ≡ i + 1 = omega (arith, length-take i xs) in
    ap (entries_text 1) more ∙ entries_text-append 1 (take i xs) (x ∷ [])
    ∙ ap (λ l. entries_text 1 (take i xs) ++ l) (append-nil (entry_text (1 + length (take i xs)) x) ∙ ap (λ k. entry_text k x) number)
