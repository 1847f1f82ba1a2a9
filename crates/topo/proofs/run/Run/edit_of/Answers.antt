use Rattle.std.proofs.Common.{◌≡◌, Some, ap, sym, ◌∙◌}
use Rattle.script_reader.specs.Bindings.{names_of}
use Rattle.script_model.specs.Bindings.{resolve}
use Rattle.script_model.proofs.NamedEdits.{resolve_numbers}
use Rattle.topo.proofs.run.Run.edit_of.Goals as goal

pub returns-in_ok-copy_of-in-Plain : goal.returns-in_ok-copy_of-in-Plain
returns-in_ok-copy_of-in-Plain g c =
    let names = names_of c.args.self.now.bindings in
    sym (ap (resolve names) c.in-Plain.ensures.edit ∙ resolve_numbers names c.in-Plain.edit.now ∙ ap Some (sym c.in_ok-copy_of-in-Plain.ensures))
