use Rattle.std.proofs.Common.{take}
use Rattle.topo.proofs.Loop.{SoFar}
use Rattle.topo.proofs.run.Run.serve_all.Given as goal

-- the lines so far were answered and bound
abbrev pub invariant-loop-at : goal.invariant-loop-at
invariant-loop-at g l = SoFar l.fn.self (take l.at l.line-items) l.self
    (record { written = g.K.Sink.written l.fn.sink; faults = g.K.Sink.faults l.fn.sink })
    (record { written = g.K.Sink.written l.sink; faults = g.K.Sink.faults l.sink })
