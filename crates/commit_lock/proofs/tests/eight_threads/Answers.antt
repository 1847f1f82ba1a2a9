use Rattle.std.proofs.Common.{rules, ◌≡◌, ◌+◌, ◌<◌, ◌≤◌, ℕ, length}
use Rattle.std.specs.Prelude.{slice_index_or}
use Rattle.commit_lock.specs.Passes.{PassValue}
use Rattle.commit_lock.proofs.Callers.{all_reversed}
use Rattle.commit_lock.proofs.tests.eight_threads.Goals as goal

pub close-book-requires-clause-all : goal.close-book-requires-clause-all
close-book-requires-clause-all g c k lo hi =
    let long : 8 ≤ length c.expect-passes.result.items = search rules in
    let each : (i : ℕ) (d : PassValue) → i < 8 → (slice_index_or c.expect-passes.result.items i d).number + i ≡ 8 = search rules in
    all_reversed c.expect-passes.result.items 8 long each k lo (search rules)
