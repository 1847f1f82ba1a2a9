use Rattle.std.proofs.Common.{inr}
use Rattle.topo_disk.specs.Standing.{start}
use Rattle.topo_disk.proofs.Record.{by_result, with_call, failed_stays, failed_grows, reached_still, pending_still, time_grows}
use Rattle.topo_disk.proofs.mem_disk.MemDiskDisk.size.Goals as goal

pub invariant_of-self : goal.invariant_of-self
invariant_of-self c =
    let m = c.args.self.now in
    let first = start m.first m.bytes.items in
    let still = reached_still first m.calls.calls.items c.add.new.self.calls.items m.bytes.items in record {
      reached = by_result c.add.result c.add.ensures.went c.add.ensures.failed
          (λ went. still (with_call first m.calls.calls.items c.add.new.self.calls.items _ went) m.reached)
          (λ failed. still (failed_stays first m.calls.calls.items c.add.new.self.calls.items _ failed) m.reached);
    }

pub returns-in-Ok-clause-pending : goal.returns-in-Ok-clause-pending
returns-in-Ok-clause-pending c told =
    let m = c.args.self.now in
    let first = start m.first m.bytes.items in
    pending_still first m.calls.calls.items c.add.new.self.calls.items (with_call first m.calls.calls.items c.add.new.self.calls.items _ c.in-Ok.ensures.went)

pub returns-in-Ok-clause-time : goal.returns-in-Ok-clause-time
returns-in-Ok-clause-time c told =
    let m = c.args.self.now in
    time_grows (start m.first m.bytes.items) m.calls.calls.items c.add.new.self.calls.items (inr (_, c.in-Ok.ensures.went))

pub returns-in-Err-clause-pending : goal.returns-in-Err-clause-pending
returns-in-Err-clause-pending c told =
    let m = c.args.self.now in
    let first = start m.first m.bytes.items in
    pending_still first m.calls.calls.items c.add.new.self.calls.items (failed_stays first m.calls.calls.items c.add.new.self.calls.items _ c.in-Err.ensures.failed)

pub returns-in-Err-clause-time : goal.returns-in-Err-clause-time
returns-in-Err-clause-time c told =
    let m = c.args.self.now in
    let first = start m.first m.bytes.items in
    time_grows first m.calls.calls.items c.add.new.self.calls.items (failed_grows first m.calls.calls.items c.add.new.self.calls.items _ c.in-Err.ensures.failed)
