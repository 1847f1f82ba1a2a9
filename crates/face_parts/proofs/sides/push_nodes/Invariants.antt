use Rattle.std.proofs.Common.{◌≡◌, ◌++◌, drop}
use Rattle.drawing.specs.Places.{rows_of}
use Rattle.face_parts.specs.Divided.{part_of_point}
use Rattle.face_parts.specs.Sides.{node_writes}
use Rattle.face_parts.proofs.sides.push_nodes.Given as goal

-- the writes so far, and those of the nodes to come
abbrev pub invariant-loop-slot : goal.invariant-loop-slot
invariant-loop-slot l = l.writes ++ node_writes (part_of_point l.parts l.cut) l.parts.face (rows_of (drop l.slot-index l.slots)) ≡ l.fn.writes ++ node_writes (part_of_point l.parts l.cut) l.parts.face (rows_of l.slots)
