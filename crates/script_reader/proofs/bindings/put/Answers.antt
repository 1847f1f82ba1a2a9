use Rattle.std.proofs.Common.{Some, None}
use Rattle.script_reader.proofs.Naming.{names_of-updated, after_ok}
use Rattle.script_reader.proofs.bindings.put.Goals as goal

pub returns-in-Some-clause-names : goal.returns-in-Some-clause-names
returns-in-Some-clause-names c =
    rw c.in-Some.is (names_of-updated c.args.name.items (Some c.in-Some.id) c.args.ids.now c.insert.new.self (after_ok c.insert.result (c.insert.ensures.succeeds c.requires) c.insert.ensures.updates))

pub returns-in-None-clause-names : goal.returns-in-None-clause-names
returns-in-None-clause-names c =
    rw (c.in-None.is, ← c.as_slice.ensures.value) (names_of-updated c.as_slice.result.now None c.args.ids.now c.swap_remove.new.self c.swap_remove.ensures.updates)
