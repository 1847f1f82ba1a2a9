-- What a script or a journal can spell: numbers, points, names and lists in range.
use Rattle.std.specs.Prelude.{ℕ, ℤ, ◌^◌, pos, neg_ℤ, Bool, true, ◌&&◌, nat_lt, int_le, Option, Some, None}
use Rattle.std.specs.List.{list_all}
use Rattle.topo_base.specs.Point.{Point}
use Rattle.topo_base.specs.Names.{is_name}
use Rattle.topo_base.specs.declared.edit.Pair.{Pair}
use Rattle.topo_base.specs.declared.edit.Edit.{Edit}
use Rattle.topo_base.specs.declared.edit.Edit.TheVariants.{AddIsoNode, MoveIsoNode, RemoveIsoNode, AddIsoEdge, RemoveIsoEdge, AddEdgeModFace, AddEdgeNewFaces, RemEdgeModFace, RemEdgeNewFace, ModEdgeSplit, NewEdgesSplit, ModEdgeHeal, NewEdgeHeal, AddLayer, CreateTopoGeom, AddElement, RemElement, DropFeature}
use Rattle.topo_base.specs.declared.edit.Entry.{Entry}
use Rattle.drawing.specs.Accepted.{keeps_limits, is_editor}

-- a number of 32 bits, or none
abbrev pub is_id : ℕ → Bool
is_id n = nat_lt n (2 ^ 32)

abbrev pub is_option_id : Option ℕ → Bool
is_option_id None = true
is_option_id (Some n) = is_id n

abbrev pub is_coordinate : ℤ → Bool
is_coordinate z = int_le (neg_ℤ (pos (2 ^ 40))) z && int_le z (pos (2 ^ 40))

abbrev pub is_grid_point : Point → Bool
is_grid_point p = is_coordinate p.x && is_coordinate p.y

abbrev pub is_pair : Pair → Bool
is_pair x = is_id x.id && is_id x.element_type

abbrev pub is_in_range : Edit → Bool
is_in_range (AddIsoNode face p) = is_option_id face && is_grid_point p
is_in_range (MoveIsoNode n p) = is_id n && is_grid_point p
is_in_range (RemoveIsoNode n) = is_id n
is_in_range (AddIsoEdge a b line) = is_id a && is_id b && list_all is_grid_point line
is_in_range (RemoveIsoEdge e) = is_id e
is_in_range (AddEdgeModFace a b line) = is_id a && is_id b && list_all is_grid_point line
is_in_range (AddEdgeNewFaces a b line) = is_id a && is_id b && list_all is_grid_point line
is_in_range (RemEdgeModFace e) = is_id e
is_in_range (RemEdgeNewFace e) = is_id e
is_in_range (ModEdgeSplit e p) = is_id e && is_grid_point p
is_in_range (NewEdgesSplit e p) = is_id e && is_grid_point p
is_in_range (ModEdgeHeal e f) = is_id e && is_id f
is_in_range (NewEdgeHeal e f) = is_id e && is_id f
is_in_range (AddLayer name kind child) = is_name name && is_option_id child
is_in_range (CreateTopoGeom l xs) = is_id l && list_all is_pair xs
is_in_range (AddElement t id type) = is_id t && is_id id && is_id type
is_in_range (RemElement t id type) = is_id t && is_id id && is_id type
is_in_range (DropFeature t) = is_id t

-- an edit and an entry that can be spelled
abbrev pub is_edit : Edit → Bool
is_edit e = keeps_limits e && is_in_range e

abbrev pub is_spelled : Entry → Bool
is_spelled x = is_editor x.editor && is_edit x.edit
