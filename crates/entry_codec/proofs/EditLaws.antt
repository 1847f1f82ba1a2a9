-- The laws of edits and of entries.
use Rattle.std.proofs.Common.{◌≡◌, inl, inr, ℕ, ◌^◌, Bool, true, false, ◌&&◌, cond, ◌==◌, IsTrue, List, [], ◌∷◌, ◌++◌, length, Option, Some, None, option_and_then, nat_le, refl, sym, ap, subst, ◌∙◌, arith, leb-true, lt-ltb}
use Rattle.std.specs.Prelude.{◌↔◌}
use Rattle.std.specs.List.{list_all}
use Rattle.std.proofs.lemmas.Bool.{and_parts, and_from, eqb-true}
use Rattle.std.proofs.lemmas.List.{append-nil}
use Rattle.topo_base.specs.Names.{is_name}
use Rattle.topo_base.specs.Point.{Point}
use Rattle.topo_base.specs.declared.kind.Kind.{Kind}
use Rattle.topo_base.specs.declared.edit.Pair.{Pair}
use Rattle.topo_base.specs.declared.edit.Edit.{Edit}
use Rattle.topo_base.specs.declared.edit.Edit.TheVariants.{AddIsoNode, MoveIsoNode, RemoveIsoNode, AddIsoEdge, RemoveIsoEdge, AddEdgeModFace, AddEdgeNewFaces, RemEdgeModFace, RemEdgeNewFace, ModEdgeSplit, NewEdgesSplit, ModEdgeHeal, NewEdgeHeal, AddLayer, CreateTopoGeom, AddElement, RemElement, DropFeature}
use Rattle.topo_base.specs.declared.edit.Entry.{Entry}
use Rattle.drawing.specs.Accepted.{is_editor}
use Rattle.drawing.specs.InRange.{is_id, is_option_id, is_grid_point, is_pair, is_edit, is_spelled}
use Rattle.history_model.specs.Spelling.{number_bytes, point_bytes, option_bytes, line_bytes, pairs_bytes, name_bytes, edit_bytes, entry_bytes}
use Rattle.entry_codec.specs.Reading.{Reads, made, both, number_at, option_at, point_at, is_count_of_line, is_count_of_pairs, line_at, pairs_at, name_at, kind_at, edge_at, three_at, isolated_at, joined_at, feature_at, fields_at, edit_at, editor_at, entry_of, entry_at, whole, entry_in}
use Rattle.entry_codec.proofs.Loops.{then_read, same_found}
use Rattle.entry_codec.proofs.Grammar.{IsField, both_field, where_field, made_takes, made_again, number_field}
use Rattle.entry_codec.proofs.FieldLaws.{option_field, point_field, is_line, line_field, are_pairs, pairs_field, name_field, chosen, any_kind, kind_bytes, kind_field}

-- ---- the shapes of edits
abbrev pub one_good_at : ℕ → Bool
one_good_at n = is_id n

abbrev pub one_bytes : ℕ → List ℕ
one_bytes n = number_bytes n

abbrev pub node_good_at : (Option ℕ) × (Point) → Bool
node_good_at x = is_option_id x.0 && is_grid_point x.1

abbrev pub node_bytes : (Option ℕ) × (Point) → List ℕ
node_bytes x = option_bytes x.0 ++ point_bytes x.1

pub node_field : IsField ((Option ℕ) × (Point)) node_good_at node_bytes (both (option_at) (point_at))
node_field = both_field (Option ℕ) (Point) is_option_id is_grid_point option_bytes point_bytes (option_at) (point_at) option_field point_field

abbrev pub place_good_at : (ℕ) × (Point) → Bool
place_good_at x = is_id x.0 && is_grid_point x.1

abbrev pub place_bytes : (ℕ) × (Point) → List ℕ
place_bytes x = number_bytes x.0 ++ point_bytes x.1

pub place_field : IsField ((ℕ) × (Point)) place_good_at place_bytes (both (number_at) (point_at))
place_field = both_field (ℕ) (Point) is_id is_grid_point number_bytes point_bytes (number_at) (point_at) number_field point_field

abbrev pub two_good_at : (ℕ) × (ℕ) → Bool
two_good_at x = is_id x.0 && is_id x.1

abbrev pub two_bytes : (ℕ) × (ℕ) → List ℕ
two_bytes x = number_bytes x.0 ++ number_bytes x.1

pub two_field : IsField ((ℕ) × (ℕ)) two_good_at two_bytes (both (number_at) (number_at))
two_field = both_field (ℕ) (ℕ) is_id is_id number_bytes number_bytes (number_at) (number_at) number_field number_field

abbrev pub three_good_at : (ℕ) × (ℕ × ℕ) → Bool
three_good_at x = is_id x.0 && two_good_at x.1

abbrev pub three_bytes : (ℕ) × (ℕ × ℕ) → List ℕ
three_bytes x = number_bytes x.0 ++ two_bytes x.1

pub three_field : IsField ((ℕ) × (ℕ × ℕ)) three_good_at three_bytes (both (number_at) (both number_at number_at))
three_field = both_field (ℕ) (ℕ × ℕ) is_id two_good_at number_bytes two_bytes (number_at) (both number_at number_at) number_field two_field

abbrev pub end_good_at : (ℕ) × (List Point) → Bool
end_good_at x = is_id x.0 && is_line x.1

abbrev pub end_bytes : (ℕ) × (List Point) → List ℕ
end_bytes x = number_bytes x.0 ++ line_bytes x.1

pub end_field : IsField ((ℕ) × (List Point)) end_good_at end_bytes (both (number_at) (line_at))
end_field = both_field (ℕ) (List Point) is_id is_line number_bytes line_bytes (number_at) (line_at) number_field line_field

abbrev pub edge_good_at : (ℕ) × (ℕ × List Point) → Bool
edge_good_at x = is_id x.0 && end_good_at x.1

abbrev pub edge_bytes : (ℕ) × (ℕ × List Point) → List ℕ
edge_bytes x = number_bytes x.0 ++ end_bytes x.1

pub edge_field : IsField ((ℕ) × (ℕ × List Point)) edge_good_at edge_bytes (both (number_at) (both number_at line_at))
edge_field = both_field (ℕ) (ℕ × List Point) is_id end_good_at number_bytes end_bytes (number_at) (both number_at line_at) number_field end_field

abbrev pub typed_good_at : (Kind) × (Option ℕ) → Bool
typed_good_at x = any_kind x.0 && is_option_id x.1

abbrev pub typed_bytes : (Kind) × (Option ℕ) → List ℕ
typed_bytes x = kind_bytes x.0 ++ option_bytes x.1

pub typed_field : IsField ((Kind) × (Option ℕ)) typed_good_at typed_bytes (both (kind_at) (option_at))
typed_field = both_field (Kind) (Option ℕ) any_kind is_option_id kind_bytes option_bytes (kind_at) (option_at) kind_field option_field

abbrev pub layer_good_at : (List ℕ) × (Kind × Option ℕ) → Bool
layer_good_at x = is_name x.0 && typed_good_at x.1

abbrev pub layer_bytes : (List ℕ) × (Kind × Option ℕ) → List ℕ
layer_bytes x = name_bytes x.0 ++ typed_bytes x.1

pub layer_field : IsField ((List ℕ) × (Kind × Option ℕ)) layer_good_at layer_bytes (both (name_at) (both kind_at option_at))
layer_field = both_field (List ℕ) (Kind × Option ℕ) is_name typed_good_at name_bytes typed_bytes (name_at) (both kind_at option_at) name_field typed_field

abbrev pub feature_good_at : (ℕ) × (List Pair) → Bool
feature_good_at x = is_id x.0 && are_pairs x.1

abbrev pub feature_bytes : (ℕ) × (List Pair) → List ℕ
feature_bytes x = number_bytes x.0 ++ pairs_bytes x.1

pub feature_field : IsField ((ℕ) × (List Pair)) feature_good_at feature_bytes (both (number_at) (pairs_at))
feature_field = both_field (ℕ) (List Pair) is_id are_pairs number_bytes pairs_bytes (number_at) (pairs_at) number_field pairs_field

-- the same tests in another order
edge_good : (a b s l : Bool) → (s && (a && b && l)) ≡ (a && (b && (s && l)))
edge_good true true true l = refl
edge_good true true false l = refl
edge_good true false true l = refl
edge_good true false false l = refl
edge_good false b true l = refl
edge_good false b false l = refl

feature_good : (a s l : Bool) → (s && (a && l)) ≡ (a && (s && l))
feature_good true true l = refl
feature_good true false l = refl
feature_good false true l = refl
feature_good false false l = refl

three_good : (a b c : Bool) → (a && b && c) ≡ (a && (b && c))
three_good true b c = refl
three_good false b c = refl

-- ---- edits
abbrev Takes : ℕ → List ℕ → Edit → List ℕ → Type 0
Takes tag bytes e rest = IsTrue (is_edit e) × (tag ∷ bytes ≡ edit_bytes e ++ rest)

abbrev edit_read : Edit → List ℕ → Option (Edit × List ℕ)
edit_read e rest = Some (e, rest)

one_edit : (A : Type 0) (good : A → Bool) (spell : A → List ℕ) (read : Reads A) → IsField A good spell read → (make : A → Edit) (k : ℕ)
    → ((x : A) → IsTrue (good x) → IsTrue (is_edit (make x))) → ((x : A) (rest : List ℕ) → k ∷ (spell x ++ rest) ≡ edit_bytes (make x) ++ rest)
    → (tag : ℕ) (bytes : List ℕ) (e : Edit) (rest : List ℕ) → (tag == k) ≡ true → made make read bytes ≡ Some (e, rest) → Takes tag bytes e rest
one_edit A good spell read f make k right spelled tag bytes e rest is read_it =
    let t = made_takes A Edit good spell read f make bytes e rest read_it in
    let parts : tag ∷ bytes ≡ edit_bytes (make t.0) ++ rest = (λ i. eqb-true tag k is i ∷ t.3 i) ∙ spelled t.0 rest in
    subst (λ (y : Edit). IsTrue (is_edit y) × (tag ∷ bytes ≡ edit_bytes y ++ rest)) t.1 (right t.0 t.2, parts)

add_iso_node_takes : (tag : ℕ) (bytes : List ℕ) (e : Edit) (rest : List ℕ) → (tag == 1) ≡ true → made (λ p. AddIsoNode p.0 p.1) (both option_at point_at) bytes ≡ Some (e, rest) → Takes tag bytes e rest
add_iso_node_takes = one_edit (Option ℕ × Point) node_good_at node_bytes (both option_at point_at) node_field (λ p. AddIsoNode p.0 p.1) 1
    (λ x h. h) (λ x rest. refl)

move_iso_node_takes : (tag : ℕ) (bytes : List ℕ) (e : Edit) (rest : List ℕ) → (tag == 2) ≡ true → made (λ p. MoveIsoNode p.0 p.1) (both number_at point_at) bytes ≡ Some (e, rest) → Takes tag bytes e rest
move_iso_node_takes = one_edit (ℕ × Point) place_good_at place_bytes (both number_at point_at) place_field (λ p. MoveIsoNode p.0 p.1) 2
    (λ x h. h) (λ x rest. refl)

remove_iso_node_takes : (tag : ℕ) (bytes : List ℕ) (e : Edit) (rest : List ℕ) → (tag == 3) ≡ true → made (λ n. RemoveIsoNode n) number_at bytes ≡ Some (e, rest) → Takes tag bytes e rest
remove_iso_node_takes = one_edit (ℕ) one_good_at one_bytes number_at number_field (λ n. RemoveIsoNode n) 3
    (λ x h. h) (λ x rest. refl)

add_iso_edge_takes : (tag : ℕ) (bytes : List ℕ) (e : Edit) (rest : List ℕ) → (tag == 4) ≡ true → made (λ p. AddIsoEdge p.0 p.1.0 p.1.1) edge_at bytes ≡ Some (e, rest) → Takes tag bytes e rest
add_iso_edge_takes = one_edit (ℕ × (ℕ × List Point)) edge_good_at edge_bytes edge_at edge_field (λ p. AddIsoEdge p.0 p.1.0 p.1.1) 4
    (λ x h. edge_good (is_id x.0) (is_id x.1.0) (is_count_of_line (length x.1.1)) (list_all is_grid_point x.1.1) ∙ h) (λ x rest. refl)

remove_iso_edge_takes : (tag : ℕ) (bytes : List ℕ) (e : Edit) (rest : List ℕ) → (tag == 5) ≡ true → made (λ n. RemoveIsoEdge n) number_at bytes ≡ Some (e, rest) → Takes tag bytes e rest
remove_iso_edge_takes = one_edit (ℕ) one_good_at one_bytes number_at number_field (λ n. RemoveIsoEdge n) 5
    (λ x h. h) (λ x rest. refl)

add_edge_mod_face_takes : (tag : ℕ) (bytes : List ℕ) (e : Edit) (rest : List ℕ) → (tag == 6) ≡ true → made (λ p. AddEdgeModFace p.0 p.1.0 p.1.1) edge_at bytes ≡ Some (e, rest) → Takes tag bytes e rest
add_edge_mod_face_takes = one_edit (ℕ × (ℕ × List Point)) edge_good_at edge_bytes edge_at edge_field (λ p. AddEdgeModFace p.0 p.1.0 p.1.1) 6
    (λ x h. edge_good (is_id x.0) (is_id x.1.0) (is_count_of_line (length x.1.1)) (list_all is_grid_point x.1.1) ∙ h) (λ x rest. refl)

add_edge_new_faces_takes : (tag : ℕ) (bytes : List ℕ) (e : Edit) (rest : List ℕ) → (tag == 7) ≡ true → made (λ p. AddEdgeNewFaces p.0 p.1.0 p.1.1) edge_at bytes ≡ Some (e, rest) → Takes tag bytes e rest
add_edge_new_faces_takes = one_edit (ℕ × (ℕ × List Point)) edge_good_at edge_bytes edge_at edge_field (λ p. AddEdgeNewFaces p.0 p.1.0 p.1.1) 7
    (λ x h. edge_good (is_id x.0) (is_id x.1.0) (is_count_of_line (length x.1.1)) (list_all is_grid_point x.1.1) ∙ h) (λ x rest. refl)

rem_edge_mod_face_takes : (tag : ℕ) (bytes : List ℕ) (e : Edit) (rest : List ℕ) → (tag == 8) ≡ true → made (λ n. RemEdgeModFace n) number_at bytes ≡ Some (e, rest) → Takes tag bytes e rest
rem_edge_mod_face_takes = one_edit (ℕ) one_good_at one_bytes number_at number_field (λ n. RemEdgeModFace n) 8
    (λ x h. h) (λ x rest. refl)

rem_edge_new_face_takes : (tag : ℕ) (bytes : List ℕ) (e : Edit) (rest : List ℕ) → (tag == 9) ≡ true → made (λ n. RemEdgeNewFace n) number_at bytes ≡ Some (e, rest) → Takes tag bytes e rest
rem_edge_new_face_takes = one_edit (ℕ) one_good_at one_bytes number_at number_field (λ n. RemEdgeNewFace n) 9
    (λ x h. h) (λ x rest. refl)

mod_edge_split_takes : (tag : ℕ) (bytes : List ℕ) (e : Edit) (rest : List ℕ) → (tag == 10) ≡ true → made (λ p. ModEdgeSplit p.0 p.1) (both number_at point_at) bytes ≡ Some (e, rest) → Takes tag bytes e rest
mod_edge_split_takes = one_edit (ℕ × Point) place_good_at place_bytes (both number_at point_at) place_field (λ p. ModEdgeSplit p.0 p.1) 10
    (λ x h. h) (λ x rest. refl)

new_edges_split_takes : (tag : ℕ) (bytes : List ℕ) (e : Edit) (rest : List ℕ) → (tag == 11) ≡ true → made (λ p. NewEdgesSplit p.0 p.1) (both number_at point_at) bytes ≡ Some (e, rest) → Takes tag bytes e rest
new_edges_split_takes = one_edit (ℕ × Point) place_good_at place_bytes (both number_at point_at) place_field (λ p. NewEdgesSplit p.0 p.1) 11
    (λ x h. h) (λ x rest. refl)

mod_edge_heal_takes : (tag : ℕ) (bytes : List ℕ) (e : Edit) (rest : List ℕ) → (tag == 12) ≡ true → made (λ p. ModEdgeHeal p.0 p.1) (both number_at number_at) bytes ≡ Some (e, rest) → Takes tag bytes e rest
mod_edge_heal_takes = one_edit (ℕ × ℕ) two_good_at two_bytes (both number_at number_at) two_field (λ p. ModEdgeHeal p.0 p.1) 12
    (λ x h. h) (λ x rest. refl)

new_edge_heal_takes : (tag : ℕ) (bytes : List ℕ) (e : Edit) (rest : List ℕ) → (tag == 13) ≡ true → made (λ p. NewEdgeHeal p.0 p.1) (both number_at number_at) bytes ≡ Some (e, rest) → Takes tag bytes e rest
new_edge_heal_takes = one_edit (ℕ × ℕ) two_good_at two_bytes (both number_at number_at) two_field (λ p. NewEdgeHeal p.0 p.1) 13
    (λ x h. h) (λ x rest. refl)

add_layer_takes : (tag : ℕ) (bytes : List ℕ) (e : Edit) (rest : List ℕ) → (tag == 14) ≡ true → made (λ p. AddLayer p.0 p.1.0 p.1.1) (both name_at (both kind_at option_at)) bytes ≡ Some (e, rest) → Takes tag bytes e rest
add_layer_takes = one_edit (List ℕ × (Kind × Option ℕ)) layer_good_at layer_bytes (both name_at (both kind_at option_at)) layer_field (λ p. AddLayer p.0 p.1.0 p.1.1) 14
    (λ x h. h) (λ x rest. refl)

create_topo_geom_takes : (tag : ℕ) (bytes : List ℕ) (e : Edit) (rest : List ℕ) → (tag == 15) ≡ true → made (λ p. CreateTopoGeom p.0 p.1) (both number_at pairs_at) bytes ≡ Some (e, rest) → Takes tag bytes e rest
create_topo_geom_takes = one_edit (ℕ × List Pair) feature_good_at feature_bytes (both number_at pairs_at) feature_field (λ p. CreateTopoGeom p.0 p.1) 15
    (λ x h. feature_good (is_id x.0) (is_count_of_pairs (length x.1)) (list_all is_pair x.1) ∙ h) (λ x rest. refl)

add_element_takes : (tag : ℕ) (bytes : List ℕ) (e : Edit) (rest : List ℕ) → (tag == 16) ≡ true → made (λ p. AddElement p.0 p.1.0 p.1.1) three_at bytes ≡ Some (e, rest) → Takes tag bytes e rest
add_element_takes = one_edit (ℕ × (ℕ × ℕ)) three_good_at three_bytes three_at three_field (λ p. AddElement p.0 p.1.0 p.1.1) 16
    (λ x h. three_good (is_id x.0) (is_id x.1.0) (is_id x.1.1) ∙ h) (λ x rest. refl)

rem_element_takes : (tag : ℕ) (bytes : List ℕ) (e : Edit) (rest : List ℕ) → (tag == 17) ≡ true → made (λ p. RemElement p.0 p.1.0 p.1.1) three_at bytes ≡ Some (e, rest) → Takes tag bytes e rest
rem_element_takes = one_edit (ℕ × (ℕ × ℕ)) three_good_at three_bytes three_at three_field (λ p. RemElement p.0 p.1.0 p.1.1) 17
    (λ x h. three_good (is_id x.0) (is_id x.1.0) (is_id x.1.1) ∙ h) (λ x rest. refl)

drop_feature_takes : (tag : ℕ) (bytes : List ℕ) (e : Edit) (rest : List ℕ) → (tag == 18) ≡ true → made (λ n. DropFeature n) number_at bytes ≡ Some (e, rest) → Takes tag bytes e rest
drop_feature_takes = one_edit (ℕ) one_good_at one_bytes number_at number_field (λ n. DropFeature n) 18
    (λ x h. h) (λ x rest. refl)

isolated_takes : (tag : ℕ) (bytes : List ℕ) (e : Edit) (rest : List ℕ) → isolated_at tag bytes ≡ Some (e, rest) → Takes tag bytes e rest
unfolding isolated_at
isolated_takes tag bytes e rest is =
    let none_read : Option (Edit × List ℕ) = None in
    let from_5 : Option (Edit × List ℕ) = cond (tag == 5) (made (λ n. RemoveIsoEdge n) number_at bytes) none_read in
    let from_4 : Option (Edit × List ℕ) = cond (tag == 4) (made (λ p. AddIsoEdge p.0 p.1.0 p.1.1) edge_at bytes) from_5 in
    let from_3 : Option (Edit × List ℕ) = cond (tag == 3) (made (λ n. RemoveIsoNode n) number_at bytes) from_4 in
    let from_2 : Option (Edit × List ℕ) = cond (tag == 2) (made (λ p. MoveIsoNode p.0 p.1) (both number_at point_at) bytes) from_3 in
    let from_1 : Option (Edit × List ℕ) = cond (tag == 1) (made (λ p. AddIsoNode p.0 p.1) (both option_at point_at) bytes) from_2 in
    elim (chosen (tag == 1) (made (λ p. AddIsoNode p.0 p.1) (both option_at point_at) bytes) from_2 (edit_read e rest) is) [
      | inl p ↦ add_iso_node_takes tag bytes e rest p.0 p.1
      | inr q0 ↦ elim (chosen (tag == 2) (made (λ p. MoveIsoNode p.0 p.1) (both number_at point_at) bytes) from_3 (edit_read e rest) q0.1) [
        | inl p ↦ move_iso_node_takes tag bytes e rest p.0 p.1
        | inr q1 ↦ elim (chosen (tag == 3) (made (λ n. RemoveIsoNode n) number_at bytes) from_4 (edit_read e rest) q1.1) [
          | inl p ↦ remove_iso_node_takes tag bytes e rest p.0 p.1
          | inr q2 ↦ elim (chosen (tag == 4) (made (λ p. AddIsoEdge p.0 p.1.0 p.1.1) edge_at bytes) from_5 (edit_read e rest) q2.1) [
            | inl p ↦ add_iso_edge_takes tag bytes e rest p.0 p.1
            | inr q3 ↦ elim (chosen (tag == 5) (made (λ n. RemoveIsoEdge n) number_at bytes) none_read (edit_read e rest) q3.1) [
              | inl p ↦ remove_iso_edge_takes tag bytes e rest p.0 p.1
              | inr q4 ↦ absurd (cc q4.1)
            ]
          ]
        ]
      ]
    ]

joined_takes : (tag : ℕ) (bytes : List ℕ) (e : Edit) (rest : List ℕ) → joined_at tag bytes ≡ Some (e, rest) → Takes tag bytes e rest
unfolding joined_at
joined_takes tag bytes e rest is =
    let none_read : Option (Edit × List ℕ) = None in
    let from_13 : Option (Edit × List ℕ) = cond (tag == 13) (made (λ p. NewEdgeHeal p.0 p.1) (both number_at number_at) bytes) none_read in
    let from_12 : Option (Edit × List ℕ) = cond (tag == 12) (made (λ p. ModEdgeHeal p.0 p.1) (both number_at number_at) bytes) from_13 in
    let from_11 : Option (Edit × List ℕ) = cond (tag == 11) (made (λ p. NewEdgesSplit p.0 p.1) (both number_at point_at) bytes) from_12 in
    let from_10 : Option (Edit × List ℕ) = cond (tag == 10) (made (λ p. ModEdgeSplit p.0 p.1) (both number_at point_at) bytes) from_11 in
    let from_9 : Option (Edit × List ℕ) = cond (tag == 9) (made (λ n. RemEdgeNewFace n) number_at bytes) from_10 in
    let from_8 : Option (Edit × List ℕ) = cond (tag == 8) (made (λ n. RemEdgeModFace n) number_at bytes) from_9 in
    let from_7 : Option (Edit × List ℕ) = cond (tag == 7) (made (λ p. AddEdgeNewFaces p.0 p.1.0 p.1.1) edge_at bytes) from_8 in
    let from_6 : Option (Edit × List ℕ) = cond (tag == 6) (made (λ p. AddEdgeModFace p.0 p.1.0 p.1.1) edge_at bytes) from_7 in
    elim (chosen (tag == 6) (made (λ p. AddEdgeModFace p.0 p.1.0 p.1.1) edge_at bytes) from_7 (edit_read e rest) is) [
      | inl p ↦ add_edge_mod_face_takes tag bytes e rest p.0 p.1
      | inr q0 ↦ elim (chosen (tag == 7) (made (λ p. AddEdgeNewFaces p.0 p.1.0 p.1.1) edge_at bytes) from_8 (edit_read e rest) q0.1) [
        | inl p ↦ add_edge_new_faces_takes tag bytes e rest p.0 p.1
        | inr q1 ↦ elim (chosen (tag == 8) (made (λ n. RemEdgeModFace n) number_at bytes) from_9 (edit_read e rest) q1.1) [
          | inl p ↦ rem_edge_mod_face_takes tag bytes e rest p.0 p.1
          | inr q2 ↦ elim (chosen (tag == 9) (made (λ n. RemEdgeNewFace n) number_at bytes) from_10 (edit_read e rest) q2.1) [
            | inl p ↦ rem_edge_new_face_takes tag bytes e rest p.0 p.1
            | inr q3 ↦ elim (chosen (tag == 10) (made (λ p. ModEdgeSplit p.0 p.1) (both number_at point_at) bytes) from_11 (edit_read e rest) q3.1) [
              | inl p ↦ mod_edge_split_takes tag bytes e rest p.0 p.1
              | inr q4 ↦ elim (chosen (tag == 11) (made (λ p. NewEdgesSplit p.0 p.1) (both number_at point_at) bytes) from_12 (edit_read e rest) q4.1) [
                | inl p ↦ new_edges_split_takes tag bytes e rest p.0 p.1
                | inr q5 ↦ elim (chosen (tag == 12) (made (λ p. ModEdgeHeal p.0 p.1) (both number_at number_at) bytes) from_13 (edit_read e rest) q5.1) [
                  | inl p ↦ mod_edge_heal_takes tag bytes e rest p.0 p.1
                  | inr q6 ↦ elim (chosen (tag == 13) (made (λ p. NewEdgeHeal p.0 p.1) (both number_at number_at) bytes) none_read (edit_read e rest) q6.1) [
                    | inl p ↦ new_edge_heal_takes tag bytes e rest p.0 p.1
                    | inr q7 ↦ absurd (cc q7.1)
                  ]
                ]
              ]
            ]
          ]
        ]
      ]
    ]

feature_takes : (tag : ℕ) (bytes : List ℕ) (e : Edit) (rest : List ℕ) → feature_at tag bytes ≡ Some (e, rest) → Takes tag bytes e rest
unfolding feature_at
feature_takes tag bytes e rest is =
    let none_read : Option (Edit × List ℕ) = None in
    let from_18 : Option (Edit × List ℕ) = cond (tag == 18) (made (λ n. DropFeature n) number_at bytes) none_read in
    let from_17 : Option (Edit × List ℕ) = cond (tag == 17) (made (λ p. RemElement p.0 p.1.0 p.1.1) three_at bytes) from_18 in
    let from_16 : Option (Edit × List ℕ) = cond (tag == 16) (made (λ p. AddElement p.0 p.1.0 p.1.1) three_at bytes) from_17 in
    let from_15 : Option (Edit × List ℕ) = cond (tag == 15) (made (λ p. CreateTopoGeom p.0 p.1) (both number_at pairs_at) bytes) from_16 in
    let from_14 : Option (Edit × List ℕ) = cond (tag == 14) (made (λ p. AddLayer p.0 p.1.0 p.1.1) (both name_at (both kind_at option_at)) bytes) from_15 in
    elim (chosen (tag == 14) (made (λ p. AddLayer p.0 p.1.0 p.1.1) (both name_at (both kind_at option_at)) bytes) from_15 (edit_read e rest) is) [
      | inl p ↦ add_layer_takes tag bytes e rest p.0 p.1
      | inr q0 ↦ elim (chosen (tag == 15) (made (λ p. CreateTopoGeom p.0 p.1) (both number_at pairs_at) bytes) from_16 (edit_read e rest) q0.1) [
        | inl p ↦ create_topo_geom_takes tag bytes e rest p.0 p.1
        | inr q1 ↦ elim (chosen (tag == 16) (made (λ p. AddElement p.0 p.1.0 p.1.1) three_at bytes) from_17 (edit_read e rest) q1.1) [
          | inl p ↦ add_element_takes tag bytes e rest p.0 p.1
          | inr q2 ↦ elim (chosen (tag == 17) (made (λ p. RemElement p.0 p.1.0 p.1.1) three_at bytes) from_18 (edit_read e rest) q2.1) [
            | inl p ↦ rem_element_takes tag bytes e rest p.0 p.1
            | inr q3 ↦ elim (chosen (tag == 18) (made (λ n. DropFeature n) number_at bytes) none_read (edit_read e rest) q3.1) [
              | inl p ↦ drop_feature_takes tag bytes e rest p.0 p.1
              | inr q4 ↦ absurd (cc q4.1)
            ]
          ]
        ]
      ]
    ]

fields_take : (tag : ℕ) (bytes : List ℕ) (e : Edit) (rest : List ℕ) → fields_at tag bytes ≡ Some (e, rest) → Takes tag bytes e rest
unfolding fields_at
fields_take tag bytes e rest is =
    let others = cond (nat_le tag 13) (joined_at tag bytes) (feature_at tag bytes) in
    elim (chosen (nat_le tag 5) (isolated_at tag bytes) others (edit_read e rest) is) [
      | inl p ↦ isolated_takes tag bytes e rest p.1
      | inr q ↦ elim (chosen (nat_le tag 13) (joined_at tag bytes) (feature_at tag bytes) (edit_read e rest) q.1) [
        | inl p ↦ joined_takes tag bytes e rest p.1
        | inr p ↦ feature_takes tag bytes e rest p.1
      ]
    ]

edit_takes : (bytes : List ℕ) (e : Edit) (rest : List ℕ) → edit_at bytes ≡ Some (e, rest) → IsTrue (is_edit e) × (bytes ≡ edit_bytes e ++ rest)
unfolding edit_at
edit_takes [] e rest is = absurd cc
edit_takes (tag ∷ bytes) e rest is = fields_take tag bytes e rest is

edit_again : (e : Edit) (rest : List ℕ) → IsTrue (is_edit e) → edit_at (edit_bytes e ++ rest) ≡ Some (e, rest)
unfolding edit_at fields_at isolated_at joined_at feature_at
edit_again (AddIsoNode face p) rest h = made_again (Option ℕ × Point) Edit node_good_at node_bytes (both option_at point_at) node_field (λ p. AddIsoNode p.0 p.1) (face, p) rest h
edit_again (MoveIsoNode n p) rest h = made_again (ℕ × Point) Edit place_good_at place_bytes (both number_at point_at) place_field (λ p. MoveIsoNode p.0 p.1) (n, p) rest h
edit_again (RemoveIsoNode n) rest h = made_again (ℕ) Edit one_good_at one_bytes number_at number_field (λ n. RemoveIsoNode n) n rest h
edit_again (AddIsoEdge a b line) rest h = made_again (ℕ × (ℕ × List Point)) Edit edge_good_at edge_bytes edge_at edge_field (λ p. AddIsoEdge p.0 p.1.0 p.1.1) (a, (b, line)) rest (sym (edge_good (is_id a) (is_id b) (is_count_of_line (length line)) (list_all is_grid_point line)) ∙ h)
edit_again (RemoveIsoEdge n) rest h = made_again (ℕ) Edit one_good_at one_bytes number_at number_field (λ n. RemoveIsoEdge n) n rest h
edit_again (AddEdgeModFace a b line) rest h = made_again (ℕ × (ℕ × List Point)) Edit edge_good_at edge_bytes edge_at edge_field (λ p. AddEdgeModFace p.0 p.1.0 p.1.1) (a, (b, line)) rest (sym (edge_good (is_id a) (is_id b) (is_count_of_line (length line)) (list_all is_grid_point line)) ∙ h)
edit_again (AddEdgeNewFaces a b line) rest h = made_again (ℕ × (ℕ × List Point)) Edit edge_good_at edge_bytes edge_at edge_field (λ p. AddEdgeNewFaces p.0 p.1.0 p.1.1) (a, (b, line)) rest (sym (edge_good (is_id a) (is_id b) (is_count_of_line (length line)) (list_all is_grid_point line)) ∙ h)
edit_again (RemEdgeModFace n) rest h = made_again (ℕ) Edit one_good_at one_bytes number_at number_field (λ n. RemEdgeModFace n) n rest h
edit_again (RemEdgeNewFace n) rest h = made_again (ℕ) Edit one_good_at one_bytes number_at number_field (λ n. RemEdgeNewFace n) n rest h
edit_again (ModEdgeSplit n p) rest h = made_again (ℕ × Point) Edit place_good_at place_bytes (both number_at point_at) place_field (λ p. ModEdgeSplit p.0 p.1) (n, p) rest h
edit_again (NewEdgesSplit n p) rest h = made_again (ℕ × Point) Edit place_good_at place_bytes (both number_at point_at) place_field (λ p. NewEdgesSplit p.0 p.1) (n, p) rest h
edit_again (ModEdgeHeal n m) rest h = made_again (ℕ × ℕ) Edit two_good_at two_bytes (both number_at number_at) two_field (λ p. ModEdgeHeal p.0 p.1) (n, m) rest h
edit_again (NewEdgeHeal n m) rest h = made_again (ℕ × ℕ) Edit two_good_at two_bytes (both number_at number_at) two_field (λ p. NewEdgeHeal p.0 p.1) (n, m) rest h
edit_again (AddLayer name kind child) rest h = made_again (List ℕ × (Kind × Option ℕ)) Edit layer_good_at layer_bytes (both name_at (both kind_at option_at)) layer_field (λ p. AddLayer p.0 p.1.0 p.1.1) (name, (kind, child)) rest h
edit_again (CreateTopoGeom l xs) rest h = made_again (ℕ × List Pair) Edit feature_good_at feature_bytes (both number_at pairs_at) feature_field (λ p. CreateTopoGeom p.0 p.1) (l, xs) rest (sym (feature_good (is_id l) (is_count_of_pairs (length xs)) (list_all is_pair xs)) ∙ h)
edit_again (AddElement t id type) rest h = made_again (ℕ × (ℕ × ℕ)) Edit three_good_at three_bytes three_at three_field (λ p. AddElement p.0 p.1.0 p.1.1) (t, (id, type)) rest (sym (three_good (is_id t) (is_id id) (is_id type)) ∙ h)
edit_again (RemElement t id type) rest h = made_again (ℕ × (ℕ × ℕ)) Edit three_good_at three_bytes three_at three_field (λ p. RemElement p.0 p.1.0 p.1.1) (t, (id, type)) rest (sym (three_good (is_id t) (is_id id) (is_id type)) ∙ h)
edit_again (DropFeature n) rest h = made_again (ℕ) Edit one_good_at one_bytes number_at number_field (λ n. DropFeature n) n rest h

pub edit_field : IsField Edit is_edit edit_bytes edit_at
edit_field = record { takes = edit_takes; again = edit_again }

-- ---- entries
abbrev is_editor_number : ℕ → Bool
is_editor_number n = is_id n && is_editor n

pub editor_field : IsField ℕ is_editor_number number_bytes editor_at
unfolding editor_at
editor_field = where_field ℕ is_id is_editor number_bytes number_at number_field

abbrev is_entry_of : ℕ × Edit → Bool
is_entry_of x = is_editor_number x.0 && is_edit x.1

abbrev bytes_of : ℕ × Edit → List ℕ
bytes_of x = number_bytes x.0 ++ edit_bytes x.1

pub parts_field : IsField (ℕ × Edit) is_entry_of bytes_of (both editor_at edit_at)
parts_field = both_field ℕ Edit is_editor_number is_edit number_bytes edit_bytes editor_at edit_at editor_field edit_field

pub entry_takes : (bytes : List ℕ) (x : Entry) (rest : List ℕ) → entry_at bytes ≡ Some (x, rest) → IsTrue (is_spelled x) × (bytes ≡ entry_bytes x ++ rest)
unfolding entry_at
entry_takes bytes x rest is =
    let t = made_takes (ℕ × Edit) Entry is_entry_of bytes_of (both editor_at edit_at) parts_field entry_of bytes x rest is in
    let good = and_parts (is_editor_number t.0.0) (is_edit t.0.1) t.2 in
    let editor = and_parts (is_id t.0.0) (is_editor t.0.0) good.0 in
    subst (λ (y : Entry). IsTrue (is_spelled y) × (bytes ≡ entry_bytes y ++ rest)) t.1 (and_from (is_editor t.0.0) (is_edit t.0.1) editor.1 good.1, t.3)

editor_id : (n : ℕ) → IsTrue (is_editor n) → IsTrue (is_id n)
editor_id n h = let small = leb-true n 64 (and_parts (nat_le 1 n) (nat_le n 64) h).1 in lt-ltb n (2 ^ 32) (omega arith)

pub entry_again : (x : Entry) (rest : List ℕ) → IsTrue (is_spelled x) → entry_at (entry_bytes x ++ rest) ≡ Some (x, rest)
unfolding entry_at
entry_again x rest h =
    let p = and_parts (is_editor x.editor) (is_edit x.edit) h in
    let good = and_from (is_editor_number x.editor) (is_edit x.edit) (and_from (is_id x.editor) (is_editor x.editor) (editor_id x.editor p.0) p.0) p.1 in
    made_again (ℕ × Edit) Entry is_entry_of bytes_of (both editor_at edit_at) parts_field entry_of (x.editor, x.edit) rest good

pub fronts_read : (bytes : List ℕ) (x : Entry) (rest : List ℕ) → (entry_at bytes ≡ Some (x, rest)) ↔ (IsTrue (is_spelled x) × (bytes ≡ entry_bytes x ++ rest))
fronts_read bytes x rest = (entry_takes bytes x rest, λ h. ap entry_at h.1 ∙ entry_again x rest h.0)

whole_is : (q : Entry × List ℕ) (x : Entry) → whole q ≡ Some x → (q.0 ≡ x) × (q.1 ≡ [])
whole_is (y, []) x e = (same_found y x e, refl)
whole_is (y, b ∷ rest) x e = absurd cc

read_in : (body : List ℕ) (x : Entry) → entry_in body ≡ Some x → IsTrue (is_spelled x) × (entry_bytes x ≡ body)
unfolding entry_in
read_in body x e =
    let one = then_read (entry_at body) whole x e in
    let is = whole_is one.0 x one.2 in
    let t = entry_takes body one.0.0 one.0.1 one.1 in
    let parts : body ≡ entry_bytes one.0.0 = t.1 ∙ ap (λ (l : List ℕ). entry_bytes one.0.0 ++ l) is.1 ∙ append-nil (entry_bytes one.0.0) in
    subst (λ (y : Entry). IsTrue (is_spelled y) × (entry_bytes y ≡ body)) is.0 (t.0, sym parts)

spelled_in : (body : List ℕ) (x : Entry) → IsTrue (is_spelled x) × (entry_bytes x ≡ body) → entry_in body ≡ Some x
unfolding entry_in
spelled_in body x h =
    let laid : body ≡ entry_bytes x ++ [] = sym h.1 ∙ sym (append-nil (entry_bytes x)) in
    ap (option_and_then whole) (ap entry_at laid ∙ entry_again x [] h.0)

pub entries_read : (body : List ℕ) (x : Entry) → (entry_in body ≡ Some x) ↔ (IsTrue (is_spelled x) × (entry_bytes x ≡ body))
entries_read body x = (read_in body x, spelled_in body x)
