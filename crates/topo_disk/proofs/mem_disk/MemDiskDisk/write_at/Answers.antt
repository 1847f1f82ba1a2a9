use Rattle.std.proofs.Common.{length}
use Rattle.topo_disk.specs.Standing.{start}
use Rattle.topo_disk.proofs.Record.{by_result_two}
use Rattle.topo_disk.proofs.Overs.{went_reached, went_follows, went_time, failed_reached, failed_follows, failed_time}
use Rattle.topo_disk.proofs.mem_disk.MemDiskDisk.write_at.Goals as goal

pub invariant_of-self : goal.invariant_of-self
invariant_of-self c =
    let m = c.args.self.now in let w = c.write_over.new in
    let before = start m.first m.bytes.items in let now = start w.first w.bytes.items in record {
      reached = by_result_two c.write_over.result c.write_over.ensures.went c.write_over.ensures.written c.write_over.ensures.failed c.write_over.ensures.same
          (λ went written. went_reached before now c.write_over.ensures.start m.calls.calls.items w.calls.calls.items c.args.at c.args.bytes.now went m.bytes.items m.reached (c.requires.within tt) w.bytes.items written)
          (λ failed same. failed_reached before now c.write_over.ensures.start m.calls.calls.items w.calls.calls.items failed m.bytes.items w.bytes.items same m.reached);
    }

pub returns-in-Ok-clause-crash : goal.returns-in-Ok-clause-crash
returns-in-Ok-clause-crash c told =
    let m = c.args.self.now in let w = c.write_over.new in
    went_follows (start m.first m.bytes.items) (start w.first w.bytes.items) c.write_over.ensures.start m.calls.calls.items w.calls.calls.items c.args.at c.args.bytes.now c.in-Ok.ensures.went m.bytes.items m.reached (c.requires.within tt)

pub returns-in-Ok-clause-time : goal.returns-in-Ok-clause-time
returns-in-Ok-clause-time c told =
    let m = c.args.self.now in let w = c.write_over.new in
    went_time (start m.first m.bytes.items) (start w.first w.bytes.items) c.write_over.ensures.start m.calls.calls.items w.calls.calls.items c.args.at c.args.bytes.now c.in-Ok.ensures.went

pub returns-in-Err-clause-crash : goal.returns-in-Err-clause-crash
returns-in-Err-clause-crash c told =
    let m = c.args.self.now in let w = c.write_over.new in
    failed_follows (start m.first m.bytes.items) (start w.first w.bytes.items) c.write_over.ensures.start m.calls.calls.items w.calls.calls.items c.in-Err.ensures.failed c.args.at (length c.args.bytes.now)

pub returns-in-Err-clause-time : goal.returns-in-Err-clause-time
returns-in-Err-clause-time c told =
    let m = c.args.self.now in let w = c.write_over.new in
    failed_time (start m.first m.bytes.items) (start w.first w.bytes.items) c.write_over.ensures.start m.calls.calls.items w.calls.calls.items c.in-Err.ensures.failed
