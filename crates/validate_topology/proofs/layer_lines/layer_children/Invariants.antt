use Rattle.std.proofs.Common.{◌≡◌, ◌++◌, take}
use Rattle.validate_topology.specs.References.{layer_children}
use Rattle.validate_topology.proofs.layer_lines.layer_children.Given as goal

abbrev pub invariant-loop-row : goal.invariant-loop-row
invariant-loop-row l = l.report ≡ l.fn.report ++ layer_children l.layers (take l.row-index l.rows)
