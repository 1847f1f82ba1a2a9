use Rattle.std.proofs.Common.{◌≡◌, ◌<◌, ◌+◌, ◌-◌}
use Rattle.history_model.specs.Legal.{journal_length}
use Rattle.topo_recover.specs.Reached.{IsReadTo}
use Rattle.topo_recover.proofs.entries.enter_all.Given as goal

-- the bytes are read to a gate that is there, and the disk is as it was
abbrev pub invariant-loop-begun : goal.invariant-loop-begun
invariant-loop-begun g l = record {
  within : l.gate < l.size;
  place : l.gate + 1 ≡ journal_length l.board.history;
  read : g.D.Disk.tells → IsReadTo l.fn.board.bounds (g.D.Disk.seen l.fn.begun.disk) l.gate l.board.history;
  bounds : l.board.bounds ≡ l.fn.board.bounds;
  seen : g.D.Disk.tells → g.D.Disk.seen l.begun.disk ≡ g.D.Disk.seen l.fn.begun.disk;
  start : (l.begun.called.was ≡ l.fn.begun.called.was) × (l.begun.synced.was ≡ l.fn.begun.synced.was);
  calm : g.D.Disk.faults l.begun.disk ≡ g.D.Disk.faults l.fn.begun.disk;
}

abbrev pub decreases-loop-begun : goal.decreases-loop-begun
decreases-loop-begun g l = l.size - l.gate
