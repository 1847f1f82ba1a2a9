use Rattle.std.proofs.Common.{◌≡◌, ◌+◌, drop}
use Rattle.drawing_queries.specs.Extent.{grown}
use Rattle.drawing_queries.proofs.extent.with_line.Given as goal

-- the box so far, with the rest, is the whole
abbrev pub invariant-loop-vertex : goal.invariant-loop-vertex
invariant-loop-vertex g l = record {
  bounds : grown l.all (drop l.vertex-index l.vertex-items) ≡ grown l.initial.all l.vertex-items;
  counted : l.steps ≡ l.fn.steps + l.vertex-index;
}
