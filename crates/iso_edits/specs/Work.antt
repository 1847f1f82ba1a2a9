-- How many steps the isolated edits take at most.
use Rattle.std.specs.Prelude.{ℕ, ◌+◌, ◌*◌, length}
use Rattle.std.specs.List.{sum_by}
use Rattle.topo_base.specs.declared.edit.Edit.{Edit}
use Rattle.topo_base.specs.declared.edit.Edit.TheVariants.{AddIsoNode, MoveIsoNode, RemoveIsoNode, AddIsoEdge, RemoveIsoEdge}
use Rattle.drawing.specs.Tables.{Tables}
use Rattle.drawing_queries.specs.Counted.{point_steps, all_point_steps, all_line_steps, face_steps}

-- an edit
abbrev pub most_steps : Tables → Edit → ℕ
most_steps t (AddIsoNode face p) = all_point_steps t + face_steps t
most_steps t (MoveIsoNode n p) = 1 + length t.edges + all_point_steps t + face_steps t
most_steps t (RemoveIsoNode n) = 1 + length t.edges + 2 * length t.relations
most_steps t (AddIsoEdge a b line) = 2 + 2 * length t.edges + length line * length line + all_line_steps line t + sum_by point_steps t.edges + length line
most_steps t (RemoveIsoEdge e) = 1 + 2 * length t.edges + 2 * length t.relations + 2 * sum_by point_steps t.edges
most_steps t e = 0
