use Rattle.std.proofs.Common.{◌≡◌, drop}
use Rattle.drawing.specs.Relations.{is_among}
use Rattle.layer_tree.proofs.numbers.is_among.Given as goal

-- none of the numbers before this one is it
abbrev pub invariant-loop-other : goal.invariant-loop-other
invariant-loop-other l = is_among l.number l.numbers ≡ is_among l.number (drop l.other-index l.numbers)
