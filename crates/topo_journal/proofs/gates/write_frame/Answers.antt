use Rattle.std.proofs.lemmas.Result.{on_ok_weaker}
use Rattle.topo_journal.specs.Kept.{IsClosedAfter, IsFramedAfter}
use Rattle.topo_journal.proofs.Steps.{each_synced, each_kept}
use Rattle.topo_journal.proofs.Calls.{on_err, behind, framed_now, one_call, two_calls}
use Rattle.topo_journal.proofs.gates.write_frame.Goals as goal

pub returns-in_err-write_at-clause-err : goal.returns-in_err-write_at-clause-err
returns-in_err-write_at-clause-err g c told front at each =
    on_err c.from_residual.result (behind front c.args.gate at _ _ _ _ _ each (c.write_at.ensures.range told) (c.write_at.ensures.crash told))

pub returns-in_err-write_at-clause-any_moment : goal.returns-in_err-write_at-clause-any_moment
returns-in_err-write_at-clause-any_moment g c told front at each =
    let D = g.D.Disk in
    let after = behind front c.args.gate at _ _ _ _ _ each (c.write_at.ensures.range told) (c.write_at.ensures.crash told) in
    one_call D.moment D.left_since _ _ (IsClosedAfter front) _ _ (λ f left. g.met.D.Disk.only_now _ f told left) each.crashed (c.write_at.ensures.time told) after.crashed

pub returns-clause-ok : goal.returns-clause-ok
returns-clause-ok g c told front body at is each =
    let holds = framed_now front c.args.gate at body _ _ _ is (c.in_ok-write_at.ensures.written told) each.now in
    on_ok_weaker c.sync.result (λ kept. each_kept (IsFramedAfter front body) _ _ _ holds (c.sync.ensures.seen told) kept.1) (c.sync.ensures.durable told)

pub returns-clause-err : goal.returns-clause-err
returns-clause-err g c told front at each =
    let after = behind front c.args.gate at _ _ _ _ _ each (c.write_at.ensures.range told) (c.write_at.ensures.crash told) in
    on_err c.sync.result (each_synced (IsClosedAfter front) _ _ _ _ after (c.sync.ensures.seen told) (c.sync.ensures.crash told))

pub returns-clause-any_moment : goal.returns-clause-any_moment
returns-clause-any_moment g c told front at each =
    let D = g.D.Disk in
    let after = behind front c.args.gate at _ _ _ _ _ each (c.write_at.ensures.range told) (c.write_at.ensures.crash told) in
    two_calls D.moment D.left_since _ _ _ (IsClosedAfter front) _ _ _ (λ f left. g.met.D.Disk.only_now _ f told left) each.crashed (c.write_at.ensures.time told) after.crashed
    (c.sync.ensures.time told) (λ f now. after.crashed f (c.sync.ensures.crash told f now))
