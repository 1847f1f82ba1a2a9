use Rattle.std.proofs.Common.{◌≡◌, ℕ, ◌+◌, ◌≤◌, []}
use Rattle.std.specs.Prelude.{vec_capacity}
use Rattle.commit_lock.specs.declared.view.Stage.TheVariants.{Idle}
use Rattle.commit_lock.specs.Views.{view_of, new_lines}
use Rattle.commit_lock.specs.Beginning.{origin_of}
use Rattle.commit_lock.specs.Passes.{new_passes}
use Rattle.commit_lock.proofs.lock.issue.Given as goal

abbrev pub invariant-loop : goal.invariant-loop
invariant-loop g l =
    let o = origin_of g.T.Chronicle.entries g.T.Chronicle.setting l.shared.key in
    let c = g.T.Chronicle.faults l.shared.key.value.value in
    record {
      table : l.seat.table_id ≡ l.shared.table_id;
      room : l.editors ≤ vec_capacity l.passes;
      items : l.passes.items ≡ new_passes l.shared.table_id o c 1 l.counter;
      me : (m : ℕ) × (l.counter + m ≡ l.editors) × (l.seat.me ≡ (view_of o Idle (new_lines (l.counter + 1) m o.opening) [] c 0, []));
    }
