use Rattle.std.proofs.Common.{◌≡◌, ◌∷◌, ◌++◌, take}
use Rattle.drawing.specs.Tables.{universal_face}
use Rattle.validate_topology.specs.References.{lists_face, edges_without_face}
use Rattle.validate_topology.proofs.references.edges_without_face.Given as goal

abbrev pub invariant-loop-row : goal.invariant-loop-row
invariant-loop-row l = l.report ≡ l.fn.report ++ edges_without_face (lists_face (universal_face ∷ l.faces)) (take l.row-index l.edges)
