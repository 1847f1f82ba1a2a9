use Rattle.std.proofs.Common.{[], ◌∷◌, ◌++◌, ℕ, subst}
use Rattle.std.proofs.lemmas.Result.{on_ok_weaker}
use Rattle.topo_disk.specs.Disk.{Holds}
use Rattle.topo_journal.specs.Bytes.{frame}
use Rattle.topo_journal.specs.Kept.{IsClosedAfter, IsFramedAfter}
use Rattle.topo_journal.proofs.Steps.{each_synced, each_kept}
use Rattle.topo_journal.proofs.Calls.{on_err, over, closed_now, opened_now, one_call, two_calls}
use Rattle.topo_journal.proofs.gates.write_gate.Goals as goal

pub returns-clause-closed : goal.returns-clause-closed
returns-clause-closed g c zero told front body at each =
    let D = g.D.Disk in
    let written = subst (λ (b : ℕ). Holds (D.seen c.args.disk.now) c.args.gate (b ∷ []) (D.seen c.write_at.new.self)) zero (c.in_ok-write_at.ensures.written told) in
    let holds = closed_now front c.args.gate at body _ _ written each.now in
    on_ok_weaker c.sync.result (λ kept. each_kept (IsClosedAfter front) _ _ _ holds (c.sync.ensures.seen told) kept.1) (c.sync.ensures.durable told)

pub returns-clause-opened : goal.returns-clause-opened
returns-clause-opened g c one told front body at each =
    let D = g.D.Disk in
    let written = subst (λ (b : ℕ). Holds (D.seen c.args.disk.now) c.args.gate (b ∷ []) (D.seen c.write_at.new.self)) one (c.in_ok-write_at.ensures.written told) in
    let holds = opened_now front c.args.gate at body _ _ written each.now in
    on_ok_weaker c.sync.result (λ kept. each_kept (IsClosedAfter (front ++ 1 ∷ frame body)) _ _ _ holds (c.sync.ensures.seen told) kept.1) (c.sync.ensures.durable told)

pub returns-in_err-write_at-clause-err : goal.returns-in_err-write_at-clause-err
returns-in_err-write_at-clause-err g c told front body at each =
    on_err c.from_residual.result (over front c.args.gate at body _ _ _ _ each (c.write_at.ensures.range told) (c.write_at.ensures.crash told))

pub returns-in_err-write_at-clause-any_moment : goal.returns-in_err-write_at-clause-any_moment
returns-in_err-write_at-clause-any_moment g c told front body at each =
    let D = g.D.Disk in
    let after = over front c.args.gate at body _ _ _ _ each (c.write_at.ensures.range told) (c.write_at.ensures.crash told) in
    one_call D.moment D.left_since _ _ (IsFramedAfter front body) _ _ (λ f left. g.met.D.Disk.only_now _ f told left) each.crashed (c.write_at.ensures.time told) after.crashed

pub returns-clause-err : goal.returns-clause-err
returns-clause-err g c told front body at each =
    let after = over front c.args.gate at body _ _ _ _ each (c.write_at.ensures.range told) (c.write_at.ensures.crash told) in
    on_err c.sync.result (each_synced (IsFramedAfter front body) _ _ _ _ after (c.sync.ensures.seen told) (c.sync.ensures.crash told))

pub returns-clause-any_moment : goal.returns-clause-any_moment
returns-clause-any_moment g c told front body at each =
    let D = g.D.Disk in
    let after = over front c.args.gate at body _ _ _ _ each (c.write_at.ensures.range told) (c.write_at.ensures.crash told) in
    two_calls D.moment D.left_since _ _ _ (IsFramedAfter front body) _ _ _ (λ f left. g.met.D.Disk.only_now _ f told left) each.crashed (c.write_at.ensures.time told) after.crashed
    (c.sync.ensures.time told) (λ f now. after.crashed f (c.sync.ensures.crash told f now))
