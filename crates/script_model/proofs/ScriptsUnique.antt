-- A text is at most one script.
use Rattle.std.proofs.Common.{◌≡◌, ℕ, List, [], ◌∷◌, Bool, IsTrue, refl, sym, ◌∙◌}
use Rattle.topo_base.specs.ScriptLines.{ScriptLine}
use Rattle.script_model.specs.NamedRange.{is_script_line}
use Rattle.script_model.specs.Script.{IsLine, AreLines}
use Rattle.script_model.proofs.NamedUnique.{words_unique}

-- a line spells one edit
pub line_unique : (is_read : ScriptLine → Bool) → ((l : ScriptLine) → IsTrue (is_read l) → IsTrue (is_script_line l))
    → (line : List ℕ) (k l : ScriptLine) → IsLine is_read line k → IsLine is_read line l → k ≡ l
line_unique is_read good line k l h g = words_unique k l (good k h.good) (good l g.good) (sym h.spelled ∙ g.spelled)

-- lines are one script
pub script_unique : (is_read : ScriptLine → Bool) → ((l : ScriptLine) → IsTrue (is_read l) → IsTrue (is_script_line l))
    → (lines : List (List ℕ)) (ks ls : List ScriptLine) → AreLines is_read lines ks → AreLines is_read lines ls → ks ≡ ls
script_unique is_read good [] [] [] h g = refl
script_unique is_read good [] [] (l ∷ ls) h g = absurd g
script_unique is_read good [] (k ∷ ks) ls h g = absurd h
script_unique is_read good (line ∷ lines) [] ls h g = absurd h
script_unique is_read good (line ∷ lines) (k ∷ ks) [] h g = absurd g
script_unique is_read good (line ∷ lines) (k ∷ ks) (l ∷ ls) h g =
    let first = line_unique is_read good line k l h.0 g.0 in
    let rest = script_unique is_read good lines ks ls h.1 g.1 in
    λ i. first i ∷ rest i
