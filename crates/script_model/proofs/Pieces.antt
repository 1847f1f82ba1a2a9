-- The pieces of a text, one after another.
use Rattle.std.proofs.Common.{◌≡◌, ℕ, Bool, true, false, cond, not, List, [], ◌∷◌, ◌++◌, IsTrue, refl, ap, ◌∙◌}
use Rattle.std.proofs.lemmas.Bool.{and_parts}
use Rattle.script_model.specs.Script.{pieces, onto, is_whole}

not_parting : (b : Bool) → IsTrue (not b) → b ≡ false
not_parting true h = absurd cc
not_parting false h = refl

-- a piece before the byte that ends it
pub pieces_front : (parts : ℕ → Bool) (end : List (List ℕ)) (c : ℕ) (w rest : List ℕ) → IsTrue (is_whole parts w) → parts c ≡ true → pieces parts end (w ++ c ∷ rest) ≡ w ∷ pieces parts end rest
pieces_front parts end c [] rest h is = ap (λ b. cond b ([] ∷ pieces parts end rest) (onto c (pieces parts end rest))) is
pieces_front parts end c (d ∷ ds) rest h is =
    let here = and_parts (not (parts d)) (is_whole parts ds) h in
    ap (λ b. cond b ([] ∷ pieces parts end (ds ++ c ∷ rest)) (onto d (pieces parts end (ds ++ c ∷ rest)))) (not_parting (parts d) here.0)
    ∙ ap (onto d) (pieces_front parts end c ds rest here.1 is)

-- the last piece
pub pieces_last : (parts : ℕ → Bool) (w : List ℕ) → IsTrue (is_whole parts w) → pieces parts ([] ∷ []) w ≡ w ∷ []
pieces_last parts [] h = refl
pieces_last parts (d ∷ ds) h =
    let here = and_parts (not (parts d)) (is_whole parts ds) h in
    ap (λ b. cond b ([] ∷ pieces parts ([] ∷ []) ds) (onto d (pieces parts ([] ∷ []) ds))) (not_parting (parts d) here.0)
    ∙ ap (onto d) (pieces_last parts ds here.1)
