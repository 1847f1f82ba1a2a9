use Rattle.std.proofs.Common.{◌≡◌, ◌++◌, drop, flat_map}
use Rattle.drawing.specs.Places.{rows_of}
use Rattle.face_merge.specs.Sides.{edge_write}
use Rattle.face_merge.proofs.sides.push_edges.Given as goal

-- the writes so far, and those of the edges to come
abbrev pub invariant-loop-slot : goal.invariant-loop-slot
invariant-loop-slot l = l.writes ++ flat_map (edge_write l.gone l.kept) (rows_of (drop l.slot-index l.slots)) ≡ l.fn.writes ++ flat_map (edge_write l.gone l.kept) (rows_of l.slots)
