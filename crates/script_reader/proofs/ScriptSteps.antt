-- One line more of a script.
use Rattle.std.proofs.Common.{◌≡◌, ℕ, ◌+◌, false, cond, not, List, [], ◌∷◌, ◌++◌, refl, sym, ap, subst, ◌∙◌, arith, inr, append_assoc, ne_eqb}
use Rattle.topo_base.specs.ScriptLines.{ScriptLine}
use Rattle.script_model.specs.Script.{is_comment, edit_lines, AreLines, IsGood, IsFirstBadLine}
use Rattle.script_model.specs.NamedRange.{is_script_line}
use Rattle.script_reader.specs.Reading.{IsReading}
use Rattle.script_reader.specs.declared.read.Reading.TheVariants.{Skipped, Edit}

-- a word that doesn't begin with #
pub not_comment : (word : List ℕ) (words : List (List ℕ)) → ((rest : List ℕ) → word ≡ 35 ∷ rest → ⊥) → is_comment (word ∷ words) ≡ false
not_comment [] words none = refl
not_comment (c ∷ cs) words none = ne_eqb c 35 (λ e. none cs (ap (λ d. d ∷ cs) e))

-- a line that is skipped
pub skipped_more : (all : List (List ℕ)) (rest lines : List (List ℕ)) (line : List ℕ) (done new : List ScriptLine) → new ≡ done → rest ≡ line ∷ lines → IsReading line Skipped
    → ((ls : List ScriptLine) → AreLines is_script_line (edit_lines rest) ls → AreLines is_script_line all (done ++ ls)) → (ls : List ScriptLine) → AreLines is_script_line (edit_lines lines) ls → AreLines is_script_line all (new ++ ls)
skipped_more all rest lines line done new same is read h ls more =
    let kept : edit_lines rest ≡ edit_lines lines = ap edit_lines is ∙ ap (λ b. cond (not b) (line ∷ edit_lines lines) (edit_lines lines)) read in
    subst (λ d. AreLines is_script_line all (d ++ ls)) (sym same) (h ls (subst (λ k. AreLines is_script_line k ls) (sym kept) more))

-- a line that spells an edit
pub edit_more : (all : List (List ℕ)) (rest lines : List (List ℕ)) (line : List ℕ) (done new : List ScriptLine) (l : ScriptLine) → new ≡ done ++ l ∷ [] → rest ≡ line ∷ lines → IsReading line (Edit l)
    → ((ls : List ScriptLine) → AreLines is_script_line (edit_lines rest) ls → AreLines is_script_line all (done ++ ls)) → (ls : List ScriptLine) → AreLines is_script_line (edit_lines lines) ls → AreLines is_script_line all (new ++ ls)
edit_more all rest lines line done new l same is read h ls more =
    let kept : edit_lines rest ≡ line ∷ edit_lines lines = ap edit_lines is ∙ ap (λ b. cond (not b) (line ∷ edit_lines lines) (edit_lines lines)) read.0 in
    let lengthened : new ++ ls ≡ done ++ l ∷ ls = ap (λ d. d ++ ls) same ∙ append_assoc done (l ∷ []) ls in
    subst (AreLines is_script_line all) (sym lengthened) (h (l ∷ ls) (subst (λ k. AreLines is_script_line k (l ∷ ls)) (sym kept) (read.1, more)))

-- the number of a bad line behind a good one
pub bad_more : (all rest lines : List (List ℕ)) (line : List ℕ) (before : ℕ) → rest ≡ line ∷ lines → IsGood is_script_line line
    → ((n : ℕ) → IsFirstBadLine is_script_line rest n → IsFirstBadLine is_script_line all (before + n)) → (n : ℕ) → IsFirstBadLine is_script_line lines n → IsFirstBadLine is_script_line all (before + 1 + n)
bad_more all rest lines line before is good h n bad =
    let behind : IsFirstBadLine is_script_line (line ∷ lines) (n + 1) = inr (good, n, refl, bad) in
    let count : before + (n + 1) ≡ before + 1 + n = omega arith in
    subst (IsFirstBadLine is_script_line all) count (h (n + 1) (subst (λ k. IsFirstBadLine is_script_line k (n + 1)) (sym is) behind))
