use Rattle.std.proofs.Common.{ℕ, ◌+◌, ◌≤◌, List, ◌++◌, length}
use Rattle.topo_base.specs.ScriptLines.{ScriptLine}
use Rattle.script_model.specs.Script.{AreLines, IsFirstBadLine, edit_lines, lines_of}
use Rattle.script_model.specs.NamedRange.{is_script_line}
use Rattle.script_reader.proofs.read.read_script.Given as goal

-- what is found in the rest holds behind the lines so far
abbrev pub invariant-loop-rest : goal.invariant-loop-rest
invariant-loop-rest l = record {
  spelled : (ls : List ScriptLine) → AreLines is_script_line (edit_lines (lines_of l.rest)) ls → AreLines is_script_line (edit_lines (lines_of l.fn.text)) (l.lines.items ++ ls);
  bad : (n : ℕ) → IsFirstBadLine is_script_line (lines_of l.rest) n → IsFirstBadLine is_script_line (lines_of l.fn.text) (l.before + n);
  short : length l.lines.items ≤ l.before;
  count : l.before + length l.rest ≤ length l.fn.text;
}

abbrev pub decreases-loop-rest : goal.decreases-loop-rest
decreases-loop-rest l = length l.rest
