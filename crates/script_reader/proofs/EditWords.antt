-- The words of edits and lines.
use Rattle.std.proofs.Common.{◌≡◌, ℕ, ◌&&◌, List, [], ◌∷◌, ◌++◌, IsTrue, sym, ap, subst, ◌∙◌}
use Rattle.std.specs.Prelude.{codes, nat_le, length}
use Rattle.std.specs.List.{list_all}
use Rattle.std.proofs.lemmas.Bool.{and_parts}
use Rattle.topo_base.specs.Names.{is_name}
use Rattle.topo_base.specs.ScriptLines.{ScriptLine}
use Rattle.topo_base.specs.declared.named.NamedEdit.{NamedEdit}
use Rattle.topo_base.specs.declared.named.NamedEdit.TheVariants.{AddIsoNode, MoveIsoNode, RemoveIsoNode, AddIsoEdge, RemoveIsoEdge, AddEdgeModFace, AddEdgeNewFaces, RemEdgeModFace, RemEdgeNewFace, ModEdgeSplit, NewEdgesSplit, ModEdgeHeal, NewEdgeHeal, AddLayer, CreateTopoGeom, AddElement, RemElement, DropFeature}
use Rattle.drawing.specs.InRange.{is_grid_point}
use Rattle.script_model.specs.NamedRange.{is_id_word, is_option_id_word, is_named_pair, is_new_line, is_named_edit}
use Rattle.script_model.specs.NamedWords.{named_words, names_words}
use Rattle.script_reader.specs.Reading.{AreNames, IsEdit, AreWordsOf}
use Rattle.script_reader.proofs.IdWords.{id_not_equals, option_id_not_equals}

-- ---- edits
-- no name is =
name_not_equals : (name : List ℕ) → IsTrue (is_name name) → name ≡ codes "=" → ⊥
name_not_equals name h e = let good = subst (λ n. IsTrue (is_name n)) e h in absurd cc

-- the second word of an edit isn't =
pub not_binding : (word : List ℕ) (words : List (List ℕ)) (e : NamedEdit) → IsTrue (is_named_edit e) → word ∷ codes "=" ∷ words ≡ named_words e → ⊥
not_binding word words (AddIsoNode face p) good is = option_id_not_equals face (and_parts (is_option_id_word face) (is_grid_point p) good).0 cc
not_binding word words (MoveIsoNode n p) good is = id_not_equals n (and_parts (is_id_word n) (is_grid_point p) good).0 cc
not_binding word words (RemoveIsoNode n) good is = id_not_equals n good cc
not_binding word words (AddIsoEdge a b line) good is = id_not_equals a (and_parts (is_id_word a) (is_id_word b) (and_parts (is_id_word a && is_id_word b) (is_new_line line) good).0).0 cc
not_binding word words (RemoveIsoEdge e) good is = id_not_equals e good cc
not_binding word words (AddEdgeModFace a b line) good is = id_not_equals a (and_parts (is_id_word a) (is_id_word b) (and_parts (is_id_word a && is_id_word b) (is_new_line line) good).0).0 cc
not_binding word words (AddEdgeNewFaces a b line) good is = id_not_equals a (and_parts (is_id_word a) (is_id_word b) (and_parts (is_id_word a && is_id_word b) (is_new_line line) good).0).0 cc
not_binding word words (RemEdgeModFace e) good is = id_not_equals e good cc
not_binding word words (RemEdgeNewFace e) good is = id_not_equals e good cc
not_binding word words (ModEdgeSplit e p) good is = id_not_equals e (and_parts (is_id_word e) (is_grid_point p) good).0 cc
not_binding word words (NewEdgesSplit e p) good is = id_not_equals e (and_parts (is_id_word e) (is_grid_point p) good).0 cc
not_binding word words (ModEdgeHeal e f) good is = id_not_equals e (and_parts (is_id_word e) (is_id_word f) good).0 cc
not_binding word words (NewEdgeHeal e f) good is = id_not_equals e (and_parts (is_id_word e) (is_id_word f) good).0 cc
not_binding word words (AddLayer name kind child) good is = name_not_equals name (and_parts (is_name name) (is_option_id_word child) good).0 cc
not_binding word words (CreateTopoGeom l xs) good is = id_not_equals l (and_parts (is_id_word l) (nat_le (length xs) 4096) (and_parts (is_id_word l && nat_le (length xs) 4096) (list_all is_named_pair xs) good).0).0 cc
not_binding word words (AddElement t id type) good is = id_not_equals t (and_parts (is_id_word t) (is_id_word id) (and_parts (is_id_word t && is_id_word id) (is_id_word type) good).0).0 cc
not_binding word words (RemElement t id type) good is = id_not_equals t (and_parts (is_id_word t) (is_id_word id) (and_parts (is_id_word t && is_id_word id) (is_id_word type) good).0).0 cc
not_binding word words (DropFeature t) good is = id_not_equals t good cc

-- an edit has words
words_some : (e : NamedEdit) → [] ≡ named_words e → ⊥
words_some (AddIsoNode face p) is = cc
words_some (MoveIsoNode n p) is = cc
words_some (RemoveIsoNode n) is = cc
words_some (AddIsoEdge a b line) is = cc
words_some (RemoveIsoEdge e) is = cc
words_some (AddEdgeModFace a b line) is = cc
words_some (AddEdgeNewFaces a b line) is = cc
words_some (RemEdgeModFace e) is = cc
words_some (RemEdgeNewFace e) is = cc
words_some (ModEdgeSplit e p) is = cc
words_some (NewEdgesSplit e p) is = cc
words_some (ModEdgeHeal e f) is = cc
words_some (NewEdgeHeal e f) is = cc
words_some (AddLayer name kind child) is = cc
words_some (CreateTopoGeom l xs) is = cc
words_some (AddElement t id type) is = cc
words_some (RemElement t id type) is = cc
words_some (DropFeature t) is = cc

pub no_edit : (words : List (List ℕ)) (e : NamedEdit) → words ≡ [] → IsEdit words e → ⊥
no_edit words e none h = words_some e (sym none ∙ h.spelled)

-- ---- lines
-- a line whose second word is = binds the names of the first, and the words behind are those of its edit
binding_by : (word : List ℕ) (words : List (List ℕ)) (ns : List (List ℕ)) (e : NamedEdit) → IsTrue (list_all is_name ns) → IsTrue (is_named_edit e)
    → word ∷ codes "=" ∷ words ≡ names_words ns ++ named_words e → AreNames word ns × IsEdit words e
binding_by word words [] e names good is = absurd (not_binding word words e good is)
binding_by word words (n ∷ ns) e names good is =
    (record { good = names; spelled = ap (λ w. w ∷ codes "=" ∷ []) cc }, record { good = good; spelled = cc })

pub binding_parts : (word : List ℕ) (words : List (List ℕ)) (l : ScriptLine) → AreWordsOf (word ∷ codes "=" ∷ words) l → AreNames word l.names × IsEdit words l.edit
binding_parts word words l h =
    let parts = and_parts (list_all is_name l.names) (is_named_edit l.edit) h.good in
    binding_by word words l.names l.edit parts.0 parts.1 h.spelled
