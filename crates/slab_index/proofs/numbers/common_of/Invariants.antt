use Rattle.std.proofs.Common.{◌≡◌, ◌-◌}
use Rattle.slab_index.specs.Slabs.{common}
use Rattle.slab_index.proofs.numbers.common_of.Given as goal

-- the rest of the halvings leads to the same slab
abbrev pub invariant-loop : goal.invariant-loop
invariant-loop l = common (42 - l.counter) l.left l.right ≡ common 42 l.fn.a l.fn.b
