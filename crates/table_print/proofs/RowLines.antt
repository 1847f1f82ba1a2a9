-- The line of an edge, appended part by part.
use Rattle.std.proofs.Common.{◌≡◌, ℕ, List, [], ◌∷◌, ◌++◌, sym, ap, ◌∙◌, append_assoc}
use Rattle.script_model.specs.Words.{line_of, spaced}
use Rattle.script_model.proofs.Lines.{line_of-spaced, spaced-append}

regroup : (text w a b c d n : List ℕ) → (((((text ++ w) ++ a) ++ b) ++ c) ++ d) ++ n ≡ text ++ ((w ++ ((a ++ (b ++ c)) ++ d)) ++ n)
regroup text w a b c d n = simp append_assoc

pub line_of-four : (text w : List ℕ) (is bs cs ds : List (List ℕ))
    → (((((text ++ w) ++ spaced is) ++ spaced bs) ++ spaced cs) ++ spaced ds) ++ 10 ∷ [] ≡ text ++ line_of (w ∷ ((is ++ (bs ++ cs)) ++ ds))
line_of-four text w is bs cs ds =
    let parts : spaced ((is ++ (bs ++ cs)) ++ ds) ≡ (spaced is ++ (spaced bs ++ spaced cs)) ++ spaced ds =
    spaced-append (is ++ (bs ++ cs)) ds ∙ ap (λ l. l ++ spaced ds) (spaced-append is (bs ++ cs) ∙ ap (λ l. spaced is ++ l) (spaced-append bs cs)) in
    let whole : line_of (w ∷ ((is ++ (bs ++ cs)) ++ ds)) ≡ (w ++ ((spaced is ++ (spaced bs ++ spaced cs)) ++ spaced ds)) ++ 10 ∷ [] =
    line_of-spaced w ((is ++ (bs ++ cs)) ++ ds) ∙ ap (λ l. (w ++ l) ++ 10 ∷ []) parts in
    regroup text w (spaced is) (spaced bs) (spaced cs) (spaced ds) (10 ∷ []) ∙ ap (λ l. text ++ l) (sym whole)
