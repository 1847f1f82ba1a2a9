-- A line of a script as words.
use Rattle.std.specs.Prelude.{ℕ, List, [], ◌∷◌, ◌++◌, flat_map, Option, Some, None, codes}
use Rattle.std.specs.Fmt.{decimal}
use Rattle.std.specs.List.{join_with_byte}
use Rattle.topo_base.specs.ScriptLines.{ScriptLine}
use Rattle.topo_base.specs.declared.named.IdWord.{IdWord}
use Rattle.topo_base.specs.declared.named.IdWord.TheVariants.{Number, Bound}
use Rattle.topo_base.specs.declared.named.NamedPair.{NamedPair}
use Rattle.topo_base.specs.declared.named.NamedEdit.{NamedEdit}
use Rattle.topo_base.specs.declared.named.NamedEdit.TheVariants.{AddIsoNode, MoveIsoNode, RemoveIsoNode, AddIsoEdge, RemoveIsoEdge, AddEdgeModFace, AddEdgeNewFaces, RemEdgeModFace, RemEdgeNewFace, ModEdgeSplit, NewEdgesSplit, ModEdgeHeal, NewEdgeHeal, AddLayer, CreateTopoGeom, AddElement, RemElement, DropFeature}
use Rattle.script_model.specs.Words.{point_words, line_words, kind_word}

-- an id: its number, or $ and the name that is bound to it
abbrev pub id_word : IdWord → List ℕ
id_word (Number n) = decimal n
id_word (Bound name) = 36 ∷ name

-- an id that may be missing
abbrev pub option_id_word : Option IdWord → List ℕ
option_id_word None = codes "-"
option_id_word (Some w) = id_word w

abbrev pub named_pair_words : NamedPair → List (List ℕ)
named_pair_words x = id_word x.id ∷ id_word x.element_type ∷ []

-- an edit in script words
abbrev pub named_words : NamedEdit → List (List ℕ)
named_words (AddIsoNode face p) = codes "addisonode" ∷ option_id_word face ∷ point_words p
named_words (MoveIsoNode n p) = codes "moveisonode" ∷ id_word n ∷ point_words p
named_words (RemoveIsoNode n) = codes "removeisonode" ∷ id_word n ∷ []
named_words (AddIsoEdge a b line) = codes "addisoedge" ∷ id_word a ∷ id_word b ∷ line_words line
named_words (RemoveIsoEdge e) = codes "removeisoedge" ∷ id_word e ∷ []
named_words (AddEdgeModFace a b line) = codes "addedgemodface" ∷ id_word a ∷ id_word b ∷ line_words line
named_words (AddEdgeNewFaces a b line) = codes "addedgenewfaces" ∷ id_word a ∷ id_word b ∷ line_words line
named_words (RemEdgeModFace e) = codes "remedgemodface" ∷ id_word e ∷ []
named_words (RemEdgeNewFace e) = codes "remedgenewface" ∷ id_word e ∷ []
named_words (ModEdgeSplit e p) = codes "modedgesplit" ∷ id_word e ∷ point_words p
named_words (NewEdgesSplit e p) = codes "newedgessplit" ∷ id_word e ∷ point_words p
named_words (ModEdgeHeal e f) = codes "modedgeheal" ∷ id_word e ∷ id_word f ∷ []
named_words (NewEdgeHeal e f) = codes "newedgeheal" ∷ id_word e ∷ id_word f ∷ []
named_words (AddLayer name kind child) = codes "addlayer" ∷ name ∷ kind_word kind ∷ option_id_word child ∷ []
named_words (CreateTopoGeom l xs) = codes "createtopogeom" ∷ id_word l ∷ flat_map named_pair_words xs
named_words (AddElement t id type) = codes "addelement" ∷ id_word t ∷ id_word id ∷ id_word type ∷ []
named_words (RemElement t id type) = codes "remelement" ∷ id_word t ∷ id_word id ∷ id_word type ∷ []
named_words (DropFeature t) = codes "dropfeature" ∷ id_word t ∷ []

-- the names that a line binds: one word, with commas between them, and =
abbrev pub names_words : List (List ℕ) → List (List ℕ)
names_words [] = []
names_words (name ∷ names) = join_with_byte 44 (name ∷ names) ∷ codes "=" ∷ []

abbrev pub script_words : ScriptLine → List (List ℕ)
script_words l = names_words l.names ++ named_words l.edit
