use Rattle.std.proofs.Common.{◌≡◌, ◌∙◌, subst}
use Rattle.history_model.specs.Journal.{IsBadAt}
use Rattle.topo_recover.proofs.entries.enter_all.Goals as goal

pub returns-in-Err-clause-bad : goal.returns-in-Err-clause-bad
returns-in-Err-clause-bad g c told offset same =
    let bytes = g.D.Disk.seen c.args.begun.now.disk in
    let seen : g.D.Disk.seen c.is_open.new.begun.disk ≡ bytes = c.in_ok-is_open.ensures.seen told ∙ c.loop-begun.invariant.seen told in
    subst (λ m. IsBadAt m bytes offset) c.loop-begun.invariant.bounds
    (subst (λ l. IsBadAt c.loop-begun.board.bounds l offset) seen (c.in-Err.ensures.bad told offset same))
