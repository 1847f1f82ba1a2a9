use Rattle.std.proofs.Common.{inr}
use Rattle.topo_disk.specs.Standing.{start}
use Rattle.topo_disk.proofs.Record.{by_result, with_call, failed_stays, failed_grows, reached_still, pending_still, time_grows, synced_reached, synced_calm, synced_only, synced_within}
use Rattle.topo_disk.proofs.mem_disk.MemDiskDisk.sync.Goals as goal

pub invariant_of-self : goal.invariant_of-self
invariant_of-self c =
    let m = c.args.self.now in
    let first = start m.first m.bytes.items in
    let calls = c.add.new.self.calls.items in record {
      reached = by_result c.add.result c.add.ensures.went c.add.ensures.failed
          (λ went. synced_reached first m.calls.calls.items calls m.bytes.items (with_call first m.calls.calls.items calls _ went) m.reached)
          (λ failed. reached_still first m.calls.calls.items calls m.bytes.items (failed_stays first m.calls.calls.items calls _ failed) m.reached);
    }

pub returns-in-Ok-clause-durable : goal.returns-in-Ok-clause-durable
returns-in-Ok-clause-durable c told =
    let m = c.args.self.now in
    let first = start m.first m.bytes.items in
    let is = with_call first m.calls.calls.items c.add.new.self.calls.items _ c.in-Ok.ensures.went in
    (synced_calm first m.calls.calls.items c.add.new.self.calls.items is, synced_only first m.calls.calls.items c.add.new.self.calls.items m.bytes.items is m.reached)

pub returns-in-Ok-clause-crash : goal.returns-in-Ok-clause-crash
returns-in-Ok-clause-crash c told =
    let m = c.args.self.now in
    let first = start m.first m.bytes.items in
    synced_within first m.calls.calls.items c.add.new.self.calls.items m.bytes.items (with_call first m.calls.calls.items c.add.new.self.calls.items _ c.in-Ok.ensures.went) m.reached

pub returns-in-Ok-clause-time : goal.returns-in-Ok-clause-time
returns-in-Ok-clause-time c told =
    let m = c.args.self.now in
    time_grows (start m.first m.bytes.items) m.calls.calls.items c.add.new.self.calls.items (inr (_, c.in-Ok.ensures.went))

pub returns-in-Err-clause-failed : goal.returns-in-Err-clause-failed
returns-in-Err-clause-failed c told =
    let m = c.args.self.now in
    let first = start m.first m.bytes.items in
    let still = pending_still first m.calls.calls.items c.add.new.self.calls.items (failed_stays first m.calls.calls.items c.add.new.self.calls.items _ c.in-Err.ensures.failed) in
    (still.0, still.2)

pub returns-in-Err-clause-crash : goal.returns-in-Err-clause-crash
returns-in-Err-clause-crash c told =
    let m = c.args.self.now in
    let first = start m.first m.bytes.items in
    (pending_still first m.calls.calls.items c.add.new.self.calls.items (failed_stays first m.calls.calls.items c.add.new.self.calls.items _ c.in-Err.ensures.failed)).1

pub returns-in-Err-clause-time : goal.returns-in-Err-clause-time
returns-in-Err-clause-time c told =
    let m = c.args.self.now in
    let first = start m.first m.bytes.items in
    time_grows first m.calls.calls.items c.add.new.self.calls.items (failed_grows first m.calls.calls.items c.add.new.self.calls.items _ c.in-Err.ensures.failed)
