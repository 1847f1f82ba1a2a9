use Rattle.std.proofs.Common.{[], Err, sym, ◌∙◌, ap}
use Rattle.std.proofs.lemmas.List.{append-nil}
use Rattle.history_model.specs.Spelling.{entry_bytes}
use Rattle.topo_recover.proofs.Gates.{whole_spelling, all_spelled}
use Rattle.topo_recover.proofs.entries.entry_in.Goals as goal

pub returns-then-used-body-clause-some : goal.returns-then-used-body-clause-some
returns-then-used-body-clause-some c =
    let found = c.in-Ok.ensures.found in
    (found.spelled, all_spelled c.in-Ok.entry c.args.body.now c.in-Ok.used found.laid c.if-used-body.true)

pub returns-else-used-body-clause-none : goal.returns-else-used-body-clause-none
returns-else-used-body-clause-none c same x spelled is =
    let found = c.in-Ok.ensures.found in
    c.if-used-body.false (whole_spelling c.in-Ok.entry x c.args.body.now c.in-Ok.used found.spelled spelled found.within found.laid is)

pub returns-in-Err-NoEntry-clause-none : goal.returns-in-Err-NoEntry-clause-none
returns-in-Err-NoEntry-clause-none c same x spelled is =
    c.decode.ensures.none (c.in-Err-NoEntry.is ∙ ap Err c.in-Err-NoEntry.field-0-is) x [] spelled (sym is ∙ sym (append-nil (entry_bytes x)))
