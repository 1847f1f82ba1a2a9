-- The edits that are copied without memory.
use Rattle.std.specs.Prelude.{Bool, true, false}
use Rattle.topo_base.specs.declared.edit.Edit.{Edit}
use Rattle.topo_base.specs.declared.edit.Edit.TheVariants.{AddIsoEdge, AddEdgeModFace, AddEdgeNewFaces, AddLayer, CreateTopoGeom}

-- the edit has no line, no name and no list
abbrev pub is_flat : Edit → Bool
is_flat (AddIsoEdge a b line) = false
is_flat (AddEdgeModFace a b line) = false
is_flat (AddEdgeNewFaces a b line) = false
is_flat (AddLayer name kind child) = false
is_flat (CreateTopoGeom layer elements) = false
is_flat e = true
