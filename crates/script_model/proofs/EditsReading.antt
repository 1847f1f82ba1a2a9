-- The text of an edit is read back as that edit.
use Rattle.std.proofs.Common.{◌≡◌, ℕ, false, ◌&&◌, List, [], ◌∷◌, ◌++◌, length, nat_le, map, flat_map, Some, None, IsTrue, refl, sym, ap, subst, ◌∙◌}
use Rattle.std.specs.Prelude.{codes}
use Rattle.std.specs.Fmt.{decimal}
use Rattle.std.specs.List.{list_all, join_with_byte}
use Rattle.std.proofs.lemmas.Bool.{and_parts, and_from, true≢false}
use Rattle.std.proofs.lemmas.List.{length-map}
use Rattle.std.proofs.lemmas.List.Folds.{list_all-map}
use Rattle.topo_base.specs.Point.{Point}
use Rattle.topo_base.specs.ScriptLines.{number_pair, in_numbers}
use Rattle.topo_base.specs.declared.edit.Pair.{Pair}
use Rattle.topo_base.specs.declared.edit.Edit.{Edit}
use Rattle.topo_base.specs.declared.edit.Edit.TheVariants.{AddIsoNode, AddIsoEdge, AddEdgeModFace, AddEdgeNewFaces, AddLayer, CreateTopoGeom}
use Rattle.drawing.specs.InRange.{is_id, is_grid_point, is_pair, is_edit}
use Rattle.drawing.specs.Accepted.{is_line_short}
use Rattle.script_model.specs.NamedRange.{is_named_pair, is_new_line, is_named_edit}
use Rattle.script_model.specs.NamedWords.{named_pair_words, named_words}
use Rattle.script_model.specs.Script.{is_comment, words_of}
use Rattle.script_model.specs.Words.{pair_words, edit_words}
use Rattle.script_model.specs.WordsLaw.{without_names, EditsReadBack}
use Rattle.script_model.proofs.NamedEdits.{resolve_numbers}
use Rattle.script_model.proofs.NamedUnique.{words_unique}
use Rattle.script_model.proofs.LinesApart.{is_word, words_back, one_line}
use Rattle.script_model.proofs.EditWords.{edit_spelled, not_comment}

-- ---- an edit has the same words where its ids are numbers
pairs_in_numbers : (xs : List Pair) → flat_map named_pair_words (map number_pair xs) ≡ flat_map pair_words xs
pairs_in_numbers [] = refl
pairs_in_numbers (x ∷ xs) = ap (λ ws. pair_words x ++ ws) (pairs_in_numbers xs)

words_in_numbers : (e : Edit) → named_words (in_numbers e) ≡ edit_words e
words_in_numbers (AddIsoNode None p) = refl
words_in_numbers (AddIsoNode (Some n) p) = refl
words_in_numbers (AddLayer name kind None) = refl
words_in_numbers (AddLayer name kind (Some n)) = refl
words_in_numbers (CreateTopoGeom l xs) = ap (λ ws. codes "createtopogeom" ∷ decimal l ∷ ws) (pairs_in_numbers xs)
words_in_numbers e = refl

-- ---- and is in range
edge_in_numbers : (a b : ℕ) (line : List Point) → IsTrue (is_line_short line && (is_id a && is_id b && list_all is_grid_point line)) → IsTrue (is_id a && is_id b && is_new_line line)
edge_in_numbers a b line h =
    let x = and_parts (is_line_short line) (is_id a && is_id b && list_all is_grid_point line) h in
    let y = and_parts (is_id a && is_id b) (list_all is_grid_point line) x.1 in
    and_from (is_id a && is_id b) (is_new_line line) y.0 (and_from (is_line_short line) (list_all is_grid_point line) x.0 y.1)

feature_in_numbers : (l : ℕ) (xs : List Pair) → IsTrue (nat_le (length xs) 4096 && (is_id l && list_all is_pair xs)) → IsTrue (is_id l && nat_le (length (map number_pair xs)) 4096 && list_all is_named_pair (map number_pair xs))
feature_in_numbers l xs h =
    let x = and_parts (nat_le (length xs) 4096) (is_id l && list_all is_pair xs) h in
    let y = and_parts (is_id l) (list_all is_pair xs) x.1 in
    and_from (is_id l && nat_le (length (map number_pair xs)) 4096) (list_all is_named_pair (map number_pair xs))
    (and_from (is_id l) (nat_le (length (map number_pair xs)) 4096) y.0 (ap (λ n. nat_le n 4096) (length-map xs number_pair) ∙ x.0))
    (list_all-map is_named_pair number_pair xs ∙ y.1)

range_in_numbers : (e : Edit) → IsTrue (is_edit e) → IsTrue (is_named_edit (in_numbers e))
range_in_numbers (AddIsoNode None p) h = h
range_in_numbers (AddIsoNode (Some n) p) h = h
range_in_numbers (AddIsoEdge a b line) h = edge_in_numbers a b line h
range_in_numbers (AddEdgeModFace a b line) h = edge_in_numbers a b line h
range_in_numbers (AddEdgeNewFaces a b line) h = edge_in_numbers a b line h
range_in_numbers (AddLayer name kind None) h = h
range_in_numbers (AddLayer name kind (Some n)) h = h
range_in_numbers (CreateTopoGeom l xs) h = feature_in_numbers l xs h
range_in_numbers e h = h

-- ---- the words of its line
line_back : (ws : List (List ℕ)) → is_comment ws ≡ false → IsTrue (list_all is_word ws) → words_of (join_with_byte 32 ws) ≡ ws
line_back [] some h = absurd (true≢false some)
line_back (w ∷ ws) some h = words_back w ws h

pub edits_read_back : EditsReadBack
edits_read_back e h =
    let range = range_in_numbers e h in
    let same = words_in_numbers e in
    let good = subst (λ ws. IsTrue (list_all is_word ws)) same (edit_spelled (in_numbers e) range) in
    let some = sym (ap is_comment same) ∙ not_comment (in_numbers e) in
    let back = line_back (edit_words e) some good in
    record {
      one_line = one_line (edit_words e) good;
      read = ap is_comment back ∙ some;
      in_range = range;
      spelled = back ∙ sym same;
      alone = λ l range' words. words_unique l (without_names e) range' range (sym words ∙ (back ∙ sym same));
      given = λ b. resolve_numbers b e;
    }
