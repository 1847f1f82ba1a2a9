use Rattle.std.proofs.Common.{◌≡◌, ◌++◌, take}
use Rattle.script_model.specs.Texts.{entries_text}
use Rattle.table_print.proofs.history.push_entries.Given as goal

-- the lines of the entries so far
abbrev pub invariant-loop-index : goal.invariant-loop-index
invariant-loop-index l = l.text ≡ l.fn.text ++ entries_text 1 (take l.index l.entries)
