use Rattle.std.proofs.Common.{◌≡◌, ◌+◌, ◌≤◌, vec_len}
use Rattle.std.specs.Prelude.{vec_capacity}
use Rattle.commit_lock.specs.declared.tests.Editor.{Editor}
use Rattle.commit_lock.specs.Passes.{PassValue}
use Rattle.commit_lock.proofs.Callers.{EachAt}
use Rattle.commit_lock.proofs.tests.editors_of.Given as goal

abbrev pub invariant-puts : goal.invariant-puts
invariant-puts l = record {
  len : vec_len l.editors + vec_len l.passes ≡ vec_len l.fn.passes;
  room : vec_len l.fn.passes ≤ vec_capacity l.editors;
  left : EachAt (λ i (p : PassValue). (p.lock ≡ l.lock.id) × (p.number ≡ i + 1)) l.passes.items;
  put : EachAt (λ i (e : Editor). (e.pass.lock ≡ l.lock.id) × (e.number ≡ e.pass.number) × (e.number + i ≡ vec_len l.fn.passes)) l.editors.items;
}

abbrev pub decreases-puts : goal.decreases-puts
decreases-puts l = vec_len l.passes
