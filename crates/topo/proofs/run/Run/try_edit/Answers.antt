use Rattle.std.proofs.Common.{sym, ◌∙◌}
use Rattle.script_reader.specs.Bindings.{names_of}
use Rattle.topo.proofs.Tried.{line_limits}
use Rattle.topo.proofs.run.Run.try_edit.Goals as goal

pub enter-requires : goal.enter-requires
enter-requires g c = line_limits (names_of c.args.self.now.bindings) c.args.line.now c.in-Some.edit c.requires (sym c.in_ok-edit.ensures ∙ c.in-Some.is)
