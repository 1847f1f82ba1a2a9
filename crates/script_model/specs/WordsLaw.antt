-- The text of an edit is read back as that edit.
use Rattle.std.specs.Prelude.{◌≡◌, false, IsTrue, List, [], ◌∷◌, ℕ, Some}
use Rattle.std.specs.List.{join_with_byte}
use Rattle.topo_base.specs.ScriptLines.{ScriptLine, in_numbers}
use Rattle.topo_base.specs.declared.edit.Edit.{Edit}
use Rattle.drawing.specs.InRange.{is_edit}
use Rattle.script_model.specs.Words.{edit_words, line_of}
use Rattle.script_model.specs.NamedWords.{script_words}
use Rattle.script_model.specs.NamedRange.{is_script_line}
use Rattle.script_model.specs.Script.{lines_of, words_of, is_skipped}
use Rattle.script_model.specs.Bindings.{Names, resolve}

-- the line of an edit, without its line feed
abbrev pub edit_line : Edit → List ℕ
edit_line e = join_with_byte 32 (edit_words e)

-- the edit as a line of a script that binds no names and uses none
abbrev pub without_names : Edit → ScriptLine
without_names e = record { names = []; edit = in_numbers e }

pub record ReadsBack (e : Edit) : Type 0 where
  -- the edit's text is one line, and it isn't skipped
  pub one_line : lines_of (line_of (edit_words e)) ≡ edit_line e ∷ []
  pub read : is_skipped (edit_line e) ≡ false
  -- a line of a script is in range and has these words exactly where it is the edit without names
  pub in_range : IsTrue (is_script_line (without_names e))
  pub spelled : words_of (edit_line e) ≡ script_words (without_names e)
  pub alone : (l : ScriptLine) → IsTrue (is_script_line l) → words_of (edit_line e) ≡ script_words l → l ≡ without_names e
  -- and that gives the edit, whatever is bound
  pub given : (b : Names) → resolve b (in_numbers e) ≡ Some e

-- so it is for every edit that a script can spell
abbrev pub EditsReadBack : Type 0
EditsReadBack = (e : Edit) → IsTrue (is_edit e) → ReadsBack e
