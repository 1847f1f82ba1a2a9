-- What a line of a script can spell: numbers, points, names and lists in range.
use Rattle.std.specs.Prelude.{Bool, true, ◌&&◌, nat_le, List, length, Option, Some, None}
use Rattle.std.specs.List.{list_all}
use Rattle.topo_base.specs.Names.{is_name}
use Rattle.topo_base.specs.Point.{Point}
use Rattle.topo_base.specs.ScriptLines.{ScriptLine}
use Rattle.topo_base.specs.declared.named.IdWord.{IdWord}
use Rattle.topo_base.specs.declared.named.IdWord.TheVariants.{Number, Bound}
use Rattle.topo_base.specs.declared.named.NamedPair.{NamedPair}
use Rattle.topo_base.specs.declared.named.NamedEdit.{NamedEdit}
use Rattle.topo_base.specs.declared.named.NamedEdit.TheVariants.{AddIsoNode, MoveIsoNode, RemoveIsoNode, AddIsoEdge, RemoveIsoEdge, AddEdgeModFace, AddEdgeNewFaces, RemEdgeModFace, RemEdgeNewFace, ModEdgeSplit, NewEdgesSplit, ModEdgeHeal, NewEdgeHeal, AddLayer, CreateTopoGeom, AddElement, RemElement, DropFeature}
use Rattle.drawing.specs.InRange.{is_id, is_grid_point}
use Rattle.drawing.specs.Accepted.{is_line_short}

abbrev pub is_id_word : IdWord → Bool
is_id_word (Number n) = is_id n
is_id_word (Bound name) = is_name name

abbrev pub is_option_id_word : Option IdWord → Bool
is_option_id_word None = true
is_option_id_word (Some w) = is_id_word w

abbrev pub is_named_pair : NamedPair → Bool
is_named_pair x = is_id_word x.id && is_id_word x.element_type

abbrev pub is_new_line : List Point → Bool
is_new_line line = is_line_short line && list_all is_grid_point line

abbrev pub is_named_edit : NamedEdit → Bool
is_named_edit (AddIsoNode face p) = is_option_id_word face && is_grid_point p
is_named_edit (MoveIsoNode n p) = is_id_word n && is_grid_point p
is_named_edit (RemoveIsoNode n) = is_id_word n
is_named_edit (AddIsoEdge a b line) = is_id_word a && is_id_word b && is_new_line line
is_named_edit (RemoveIsoEdge e) = is_id_word e
is_named_edit (AddEdgeModFace a b line) = is_id_word a && is_id_word b && is_new_line line
is_named_edit (AddEdgeNewFaces a b line) = is_id_word a && is_id_word b && is_new_line line
is_named_edit (RemEdgeModFace e) = is_id_word e
is_named_edit (RemEdgeNewFace e) = is_id_word e
is_named_edit (ModEdgeSplit e p) = is_id_word e && is_grid_point p
is_named_edit (NewEdgesSplit e p) = is_id_word e && is_grid_point p
is_named_edit (ModEdgeHeal e f) = is_id_word e && is_id_word f
is_named_edit (NewEdgeHeal e f) = is_id_word e && is_id_word f
is_named_edit (AddLayer name kind child) = is_name name && is_option_id_word child
is_named_edit (CreateTopoGeom l xs) = is_id_word l && nat_le (length xs) 4096 && list_all is_named_pair xs
is_named_edit (AddElement t id type) = is_id_word t && is_id_word id && is_id_word type
is_named_edit (RemElement t id type) = is_id_word t && is_id_word id && is_id_word type
is_named_edit (DropFeature t) = is_id_word t

abbrev pub is_script_line : ScriptLine → Bool
is_script_line l = list_all is_name l.names && is_named_edit l.edit
