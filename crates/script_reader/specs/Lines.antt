-- A line of a script, as it is kept and as it gives its edit.
use Rattle.std.specs.Prelude.{◌≡◌, []}
use Rattle.topo_base.specs.ScriptLines.{ScriptLine, in_numbers}
use Rattle.topo_base.specs.declared.named.NamedEdit.{NamedEdit}
use Rattle.script_reader.specs.declared.line.Kept.{Kept}
use Rattle.script_reader.specs.declared.line.Kept.TheVariants as kept
use Rattle.script_reader.specs.declared.line.LineEdit.{LineEdit}
use Rattle.script_reader.specs.declared.line.LineEdit.TheVariants.{Plain, Named}

-- the line that is kept
abbrev pub line_of : Kept → ScriptLine
line_of (kept.Plain e) = record { names = []; edit = in_numbers e }
line_of (kept.Named l) = record { names = l.value.names.items; edit = l.value.edit }

-- this is the edit of the line, in numbers where it uses no names
abbrev pub IsEditOf : LineEdit → NamedEdit → Type 0
IsEditOf (Plain e) edit = edit ≡ in_numbers e.now
IsEditOf (Named n) edit = edit ≡ n.now
