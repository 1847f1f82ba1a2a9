use Rattle.std.proofs.Common.{◌≡◌, take}
use Rattle.validate_topology.specs.Walks.{halves_of, path_along}
use Rattle.validate_topology.proofs.walks.path_of.Given as goal

abbrev pub invariant-loop-side : goal.invariant-loop-side
invariant-loop-side l = l.path.items ≡ path_along (halves_of (take l.side-index l.sides))
