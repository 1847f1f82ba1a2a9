use Rattle.std.proofs.Common.{◌≡◌, ◌∙◌, ℕ, ◌<◌, ◌≤◌, List, [], ◌∷◌, length, map, get_or, sym, ap, arith}
use Rattle.std.specs.Prelude.{codes, string_bytes}
use Rattle.topo.proofs.words.is_check.Goals as goal

one_word : {S : Type 0} (f : S → List ℕ) (ws : List S) (v : S) → 1 ≤ length ws → length ws < 2 → v ≡ get_or ws 0 v → map f ws ≡ f v ∷ []
one_word f [] v a b e = absurd (omega arith)
one_word f (w ∷ []) v a b e = ap (λ x. f x ∷ []) (sym e)
one_word f (w ∷ u ∷ ws) v a b e = absurd (omega arith)

first_word : (v w : List ℕ) → v ∷ [] ≡ w ∷ [] → v ≡ w
first_word v w e = ap (λ (ws : List (List ℕ)). get_or ws 0 []) e

pub returns-in-len1 : goal.returns-in-len1
returns-in-len1 c =
    let verb = string_bytes c.verb-item.result in
    let same : map string_bytes c.args.words.now ≡ verb ∷ [] = one_word string_bytes c.args.words.now c.verb-item.result c.in-len1.len_at_least c.in-len1.len_below c.verb-item.is in
    let value = c.as_str.ensures.value in (
      λ yes'. same ∙ ap (λ (w : List ℕ). w ∷ []) (sym value ∙ c.is_check_word.ensures.0 yes'),
      λ is. c.is_check_word.ensures.1 (value ∙ first_word verb (codes "check") (sym same ∙ is)),
    )
