use Rattle.std.proofs.Common.{◌≡◌, List, [], ◌++◌, vec_len}
use Rattle.commit_lock.specs.Passes.{PassValue, Gathers}
use Rattle.commit_lock.proofs.lock.gather.Given as goal

abbrev pub invariant-joins : goal.invariant-joins
invariant-joins g l = record {
  table : l.seat.table_id ≡ l.shared.table_id;
  slots : l.seat.me.1 ≡ [];
  done : (done : List PassValue) × (l.fn.passes.items ≡ l.passes.items ++ done) × Gathers done l.seat.me.0;
}

abbrev pub decreases-joins : goal.decreases-joins
decreases-joins g l = vec_len l.passes
