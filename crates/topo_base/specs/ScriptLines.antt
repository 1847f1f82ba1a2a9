-- A line of a script: the names that it binds, and its edit.
use Rattle.std.specs.Prelude.{ℕ, List, map, Option, Some, None}
use Rattle.topo_base.specs.declared.edit.Pair.{Pair}
use Rattle.topo_base.specs.declared.edit.Edit.{Edit}
use Rattle.topo_base.specs.declared.edit.Edit.TheVariants as edit
use Rattle.topo_base.specs.declared.named.IdWord.{IdWord}
use Rattle.topo_base.specs.declared.named.IdWord.TheVariants.{Number}
use Rattle.topo_base.specs.declared.named.NamedPair.{NamedPair}
use Rattle.topo_base.specs.declared.named.NamedEdit.{NamedEdit}
use Rattle.topo_base.specs.declared.named.NamedEdit.TheVariants.{AddIsoNode, MoveIsoNode, RemoveIsoNode, AddIsoEdge, RemoveIsoEdge, AddEdgeModFace, AddEdgeNewFaces, RemEdgeModFace, RemEdgeNewFace, ModEdgeSplit, NewEdgesSplit, ModEdgeHeal, NewEdgeHeal, AddLayer, CreateTopoGeom, AddElement, RemElement, DropFeature}

pub record ScriptLine : Type 0 where
  pub names : List (List ℕ)
  pub edit : NamedEdit

-- an edit as a line writes it that uses no names
abbrev pub number_word : ℕ → IdWord
number_word n = Number n

abbrev pub option_number : Option ℕ → Option IdWord
option_number None = None
option_number (Some n) = Some (Number n)

abbrev pub number_pair : Pair → NamedPair
number_pair x = record { id = Number x.id; element_type = Number x.element_type }

abbrev pub in_numbers : Edit → NamedEdit
in_numbers (edit.AddIsoNode face p) = AddIsoNode (option_number face) p
in_numbers (edit.MoveIsoNode n p) = MoveIsoNode (Number n) p
in_numbers (edit.RemoveIsoNode n) = RemoveIsoNode (Number n)
in_numbers (edit.AddIsoEdge a b line) = AddIsoEdge (Number a) (Number b) line
in_numbers (edit.RemoveIsoEdge e) = RemoveIsoEdge (Number e)
in_numbers (edit.AddEdgeModFace a b line) = AddEdgeModFace (Number a) (Number b) line
in_numbers (edit.AddEdgeNewFaces a b line) = AddEdgeNewFaces (Number a) (Number b) line
in_numbers (edit.RemEdgeModFace e) = RemEdgeModFace (Number e)
in_numbers (edit.RemEdgeNewFace e) = RemEdgeNewFace (Number e)
in_numbers (edit.ModEdgeSplit e p) = ModEdgeSplit (Number e) p
in_numbers (edit.NewEdgesSplit e p) = NewEdgesSplit (Number e) p
in_numbers (edit.ModEdgeHeal e f) = ModEdgeHeal (Number e) (Number f)
in_numbers (edit.NewEdgeHeal e f) = NewEdgeHeal (Number e) (Number f)
in_numbers (edit.AddLayer name kind child) = AddLayer name kind (option_number child)
in_numbers (edit.CreateTopoGeom l xs) = CreateTopoGeom (Number l) (map number_pair xs)
in_numbers (edit.AddElement t id type) = AddElement (Number t) (Number id) (Number type)
in_numbers (edit.RemElement t id type) = RemElement (Number t) (Number id) (Number type)
in_numbers (edit.DropFeature t) = DropFeature (Number t)
