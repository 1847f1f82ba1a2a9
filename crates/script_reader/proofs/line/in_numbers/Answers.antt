use Rattle.std.proofs.Common.{◌≡◌, Some, sym, subst}
use Rattle.script_model.specs.Bindings.{resolve}
use Rattle.script_reader.proofs.NamedEdits.{in_numbers-resolved}
use Rattle.script_reader.proofs.line.in_numbers.Goals as goal

pub returns-in-Ok-clause-edit : goal.returns-in-Ok-clause-edit
returns-in-Ok-clause-edit c =
    sym (in_numbers-resolved c.args.named.now c.in-Ok.edit (subst (λ b. resolve b c.args.named.now ≡ Some c.in-Ok.edit) c.new.ensures c.in-Ok.ensures.edit))
