-- The words of a line, one after another.
use Rattle.std.proofs.Common.{◌≡◌, ℕ, ◌<◌, true, false, not, List, [], ◌∷◌, length, take, drop, sym, ap, subst, ◌∙◌, arith}
use Rattle.std.proofs.lemmas.List.{take_all, drop_all}
use Rattle.script_model.specs.Script.{is_blank, without_empty, words_of}
use Rattle.script_model.proofs.Pieces.{pieces_front, pieces_last}
use Rattle.script_reader.specs.Parting.{IsWhole, IsPart, BeginsWithWord}

-- a blank isn't the front of a word
ends_empty : (line : List ℕ) (byte : ℕ) (rest : List ℕ) → line ≡ byte ∷ rest → is_blank byte ≡ true → BeginsWithWord line → ⊥
ends_empty line byte rest e blank begins =
    let word = subst BeginsWithWord e begins in
    let other : not (is_blank byte) ≡ false = ap not blank in
    cc

-- a word, and what stands behind the blank after it
pub words_front : (line front rest : List ℕ) → IsPart is_blank line front rest → BeginsWithWord line → 0 < length line → words_of line ≡ front ∷ words_of rest
words_front line [] rest h begins some = absurd (ends_empty line h.byte rest h.is h.ends begins)
words_front line (c ∷ cs) rest h begins some = ap words_of h.is ∙ ap without_empty (pieces_front is_blank ([] ∷ []) h.byte (c ∷ cs) rest h.whole h.ends)

-- the last word
pub words_last : (line : List ℕ) → IsWhole is_blank line → 0 < length line → words_of line ≡ line ∷ []
words_last [] h some = absurd (omega arith)
words_last (c ∷ cs) h some = ap without_empty (pieces_last is_blank (c ∷ cs) h)

pub words_alone : (line front rest : List ℕ) → IsWhole is_blank line → 0 < length line → front ≡ take (length line) line → rest ≡ drop (length line) line → words_of line ≡ front ∷ words_of rest
words_alone line front rest h some all none =
    let front_is : front ≡ line = all ∙ take_all (length line) line (omega arith) in
    let rest_is : rest ≡ [] = none ∙ drop_all (length line) line (omega arith) in
    words_last line h some ∙ (λ i. sym front_is i ∷ words_of (sym rest_is i))
