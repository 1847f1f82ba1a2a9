use Rattle.std.proofs.Common.{◌≡◌, ◌++◌, take}
use Rattle.validate_topology.specs.Following.{half_edges_of}
use Rattle.validate_topology.specs.LinkLines.{rights_wrong}
use Rattle.validate_topology.proofs.link_lines.rights_wrong.Given as goal

abbrev pub invariant-loop-index : goal.invariant-loop-index
invariant-loop-index l = l.report ≡ l.fn.report ++ rights_wrong (half_edges_of l.edges) (take l.index l.edges)
