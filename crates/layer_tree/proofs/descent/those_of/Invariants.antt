use Rattle.std.proofs.Common.{◌≡◌, map, take}
use Rattle.layer_tree.specs.Descending.{primitive}
use Rattle.layer_tree.proofs.descent.those_of.Given as goal

-- the elements of the numbers so far
abbrev pub invariant-loop-number : goal.invariant-loop-number
invariant-loop-number l = l.elements.items ≡ map (primitive l.kind) (take l.number-index l.numbers)
