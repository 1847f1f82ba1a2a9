use Rattle.commit_lock.specs.Passes.{IsSamePass}
use Rattle.commit_lock.proofs.tests.take_turns.Given as goal

abbrev pub invariant-loop-number : goal.invariant-loop-number
invariant-loop-number g l = IsSamePass l.fn.pass l.mine
