-- The bytes of an entry in the journal.
use Rattle.std.specs.Prelude.{ℕ, ℤ, List, [], ◌∷◌, ◌++◌, length, flat_map, Option, Some, None}
use Rattle.std.specs.Int.{w32, w64, to_be_bytes, cast_unsigned}
use Rattle.topo_base.specs.Point.{Point}
use Rattle.topo_base.specs.declared.edit.Pair.{Pair}
use Rattle.topo_base.specs.declared.edit.Edit.{Edit}
use Rattle.topo_base.specs.declared.edit.Edit.TheVariants.{AddIsoNode, MoveIsoNode, RemoveIsoNode, AddIsoEdge, RemoveIsoEdge, AddEdgeModFace, AddEdgeNewFaces, RemEdgeModFace, RemEdgeNewFace, ModEdgeSplit, NewEdgesSplit, ModEdgeHeal, NewEdgeHeal, AddLayer, CreateTopoGeom, AddElement, RemElement, DropFeature}
use Rattle.topo_base.specs.declared.edit.Entry.{Entry}
use Rattle.topo_base.specs.Kinds.{kind_number}

-- a number of 32 bits, high byte first; a coordinate in two's complement
abbrev pub number_bytes : ℕ → List ℕ
number_bytes n = to_be_bytes w32 n

abbrev pub coordinate_bytes : ℤ → List ℕ
coordinate_bytes z = to_be_bytes w64 (cast_unsigned w64 z)

abbrev pub point_bytes : Point → List ℕ
point_bytes p = coordinate_bytes p.x ++ coordinate_bytes p.y

abbrev pub option_bytes : Option ℕ → List ℕ
option_bytes None = 0 ∷ []
option_bytes (Some n) = 1 ∷ number_bytes n

-- a list after its length
abbrev pub line_bytes : List Point → List ℕ
line_bytes line = number_bytes (length line) ++ flat_map point_bytes line

abbrev pub pair_bytes : Pair → List ℕ
pair_bytes x = number_bytes x.id ++ number_bytes x.element_type

abbrev pub pairs_bytes : List Pair → List ℕ
pairs_bytes xs = number_bytes (length xs) ++ flat_map pair_bytes xs

abbrev pub name_bytes : List ℕ → List ℕ
name_bytes name = length name ∷ name

-- the tag of an edit and its fields
abbrev pub edit_bytes : Edit → List ℕ
edit_bytes (AddIsoNode face p) = 1 ∷ (option_bytes face ++ point_bytes p)
edit_bytes (MoveIsoNode n p) = 2 ∷ (number_bytes n ++ point_bytes p)
edit_bytes (RemoveIsoNode n) = 3 ∷ number_bytes n
edit_bytes (AddIsoEdge a b line) = 4 ∷ (number_bytes a ++ number_bytes b ++ line_bytes line)
edit_bytes (RemoveIsoEdge e) = 5 ∷ number_bytes e
edit_bytes (AddEdgeModFace a b line) = 6 ∷ (number_bytes a ++ number_bytes b ++ line_bytes line)
edit_bytes (AddEdgeNewFaces a b line) = 7 ∷ (number_bytes a ++ number_bytes b ++ line_bytes line)
edit_bytes (RemEdgeModFace e) = 8 ∷ number_bytes e
edit_bytes (RemEdgeNewFace e) = 9 ∷ number_bytes e
edit_bytes (ModEdgeSplit e p) = 10 ∷ (number_bytes e ++ point_bytes p)
edit_bytes (NewEdgesSplit e p) = 11 ∷ (number_bytes e ++ point_bytes p)
edit_bytes (ModEdgeHeal e f) = 12 ∷ (number_bytes e ++ number_bytes f)
edit_bytes (NewEdgeHeal e f) = 13 ∷ (number_bytes e ++ number_bytes f)
edit_bytes (AddLayer name kind child) = 14 ∷ (name_bytes name ++ kind_number kind ∷ option_bytes child)
edit_bytes (CreateTopoGeom l xs) = 15 ∷ (number_bytes l ++ pairs_bytes xs)
edit_bytes (AddElement t id type) = 16 ∷ (number_bytes t ++ number_bytes id ++ number_bytes type)
edit_bytes (RemElement t id type) = 17 ∷ (number_bytes t ++ number_bytes id ++ number_bytes type)
edit_bytes (DropFeature t) = 18 ∷ number_bytes t

-- the spelling of an entry, and its frame: its length, itself and the next gate, closed
abbrev pub entry_bytes : Entry → List ℕ
entry_bytes x = number_bytes x.editor ++ edit_bytes x.edit

abbrev pub frame_bytes : Entry → List ℕ
frame_bytes x = number_bytes (length (entry_bytes x)) ++ entry_bytes x ++ 0 ∷ []
