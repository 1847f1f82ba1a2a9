-- What the readers of rows find behind the last word.
use Rattle.std.proofs.Common.{◌≡◌, ℕ, ◌≤◌, false, ◌&&◌, List, [], ◌∷◌, length, None, refl, sym, ap, ◌∙◌, arith}
use Rattle.std.specs.Prelude.{codes}
use Rattle.std.specs.Str.{bytes_eq}
use Rattle.table_dump.specs.Lines.{words_of, words_behind}
use Rattle.table_dump.specs.Words.{whole}
use Rattle.table_dump.specs.Rows.{is_universal}
use Rattle.table_dump.proofs.Lines.{words_not_none}

none_whole : {A : Type 0} (x : A) (ws : List (List ℕ)) → (ws ≡ [] → ⊥) → whole (x, ws) ≡ None
none_whole x [] h = absurd (h refl)
none_whole x (w ∷ ws) h = refl

pub not_whole : {A : Type 0} (x : A) (rest : List ℕ) → 1 ≤ length rest → whole (x, words_behind rest) ≡ None
not_whole x [] h = absurd (omega arith)
not_whole x (c ∷ cs) h = none_whole x (words_of cs) (words_not_none cs)

more_universal : (a b : List ℕ) (ws : List (List ℕ)) → (ws ≡ [] → ⊥) → is_universal (a ∷ b ∷ ws) ≡ false
more_universal a b [] h = absurd (h refl)
more_universal a b (w ∷ ws) h = refl

behind_universal : (a b rest : List ℕ) → 1 ≤ length rest → is_universal (a ∷ b ∷ words_behind rest) ≡ false
behind_universal a b [] h = absurd (omega arith)
behind_universal a b (c ∷ cs) h = more_universal a b (words_of cs) (words_not_none cs)

two_words : (words : List (List ℕ)) (a b rest one : List ℕ) → words ≡ a ∷ words_behind one → words_behind one ≡ b ∷ words_behind rest → words ≡ a ∷ b ∷ words_behind rest
two_words words a b rest one e f = e ∙ ap (λ ws. a ∷ ws) f

pub longer : (words : List (List ℕ)) (a b rest one : List ℕ) → words ≡ a ∷ words_behind one → words_behind one ≡ b ∷ words_behind rest → 1 ≤ length rest → false ≡ is_universal words
longer words a b rest one e f h = sym (ap is_universal (two_words words a b rest one e f) ∙ behind_universal a b rest h)

pub just_two : (words : List (List ℕ)) (a b rest one : List ℕ) → words ≡ a ∷ words_behind one → words_behind one ≡ b ∷ words_behind rest → length rest ≡ 0 → (bytes_eq a (codes "0") && bytes_eq b (codes "-")) ≡ is_universal words
just_two words a b [] one e f h = sym (ap is_universal (two_words words a b [] one e f))
just_two words a b (c ∷ cs) one e f h = absurd (omega arith)

pub one_only : (words : List (List ℕ)) (a one : List ℕ) → words ≡ a ∷ words_behind one → words_behind one ≡ [] → false ≡ is_universal words
one_only words a one e f = sym (ap is_universal (e ∙ ap (λ ws. a ∷ ws) f))
