-- A script has no bad line.
use Rattle.std.proofs.Common.{◌≡◌, ℕ, Bool, true, false, cond, not, List, [], ◌∷◌, IsTrue, refl, inl, inr}
use Rattle.std.specs.List.{list_all}
use Rattle.std.proofs.lemmas.Bool.{and_from}
use Rattle.topo_base.specs.ScriptLines.{ScriptLine}
use Rattle.script_model.specs.Script.{AreLines, is_skipped, edit_lines, IsGood, IsFirstBadLine}

-- a script has no bad line
first_good : (is_read : ScriptLine → Bool) (line : List ℕ) (rest : List (List ℕ)) (ls : List ScriptLine) (b : Bool) → is_skipped line ≡ b → AreLines is_read (cond (not b) (line ∷ rest) rest) ls
    → IsGood is_read line × ((ks : List ScriptLine) × AreLines is_read rest ks)
first_good is_read line rest ls true is h = (inl is, (ls, h))
first_good is_read line rest [] false is h = absurd h
first_good is_read line rest (l ∷ ls) false is h = (inr (l, h.0), (ls, h.1))

pub lines_or_bad : (is_read : ScriptLine → Bool) (lines : List (List ℕ)) (ls : List ScriptLine) (n : ℕ) → AreLines is_read (edit_lines lines) ls → IsFirstBadLine is_read lines n → ⊥
lines_or_bad is_read [] ls n h bad = bad
lines_or_bad is_read (line ∷ lines) ls n h (inl bad) = bad.1 (first_good is_read line (edit_lines lines) ls (is_skipped line) refl h).0
lines_or_bad is_read (line ∷ lines) ls n h (inr bad) =
    let rest = (first_good is_read line (edit_lines lines) ls (is_skipped line) refl h).1 in
    lines_or_bad is_read lines rest.0 bad.1 rest.1 bad.3

-- each edit of a script is one of those that are read
pub script_spelled : (is_read : ScriptLine → Bool) (lines : List (List ℕ)) (ls : List ScriptLine) → AreLines is_read lines ls → IsTrue (list_all is_read ls)
script_spelled is_read lines [] h = refl
script_spelled is_read [] (l ∷ ls) h = absurd h
script_spelled is_read (line ∷ lines) (l ∷ ls) h = and_from (is_read l) (list_all is_read ls) h.0.good (script_spelled is_read lines ls h.1)
