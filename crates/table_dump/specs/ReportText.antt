-- The printed lines of a report: an error, and what it names.
use Rattle.std.specs.Prelude.{ℕ, List, [], ◌∷◌, flat_map, codes}
use Rattle.std.specs.Fmt.{decimal}
use Rattle.script_model.specs.Words.{line_of, dart_word}
use Rattle.table_dump.specs.declared.text.Named.{Named}
use Rattle.table_dump.specs.declared.text.Named.TheVariants.{Number, Count, Walked, Nothing}
use Rattle.validate_topology.specs.declared.lines.ReportLine.{ReportLine}
use Rattle.validate_topology.specs.declared.lines.ReportLine.TheVariants.{NodePastNext, EdgePastNext, FacePastNext, LayerPastNext, FeaturePastNext, NodeWithoutFace, EdgeWithoutNode, EdgeWithoutFace, EdgeWithoutNext, LayerLevelWrong, LayerChildWrong, LayerNameTaken, FeatureWithoutLayer, RelationWithoutFeature, RelationKindWrong, RelationUniverse, RelationWithoutElement, CoincidentNodes, EdgeStartMismatch, EdgeEndMismatch, EdgeNotSimple, EdgeCrossesNode, EdgeCrossesEdge, NodeJoinedWithFace, NodeIsolatedWithoutFace, NextLeftWrong, NextRightWrong, RingSidesDiffer, FaceShells, HoleInOtherFace, NodeInOtherFace, FaceBoxWrong}

-- the error
abbrev pub error_word : ReportLine → List ℕ
error_word (NodePastNext a) = codes "node_past_next"
error_word (EdgePastNext a) = codes "edge_past_next"
error_word (FacePastNext a) = codes "face_past_next"
error_word (LayerPastNext a) = codes "layer_past_next"
error_word (FeaturePastNext a) = codes "feature_past_next"
error_word (NodeWithoutFace a b) = codes "node_without_face"
error_word (EdgeWithoutNode a b) = codes "edge_without_node"
error_word (EdgeWithoutFace a b) = codes "edge_without_face"
error_word (EdgeWithoutNext a b) = codes "edge_without_next"
error_word (LayerLevelWrong a) = codes "layer_level_wrong"
error_word (LayerChildWrong a b) = codes "layer_child_wrong"
error_word (LayerNameTaken a b) = codes "layer_name_taken"
error_word (FeatureWithoutLayer a b) = codes "feature_without_layer"
error_word (RelationWithoutFeature a b) = codes "relation_without_feature"
error_word (RelationKindWrong a b) = codes "relation_kind_wrong"
error_word (RelationUniverse a) = codes "relation_universe"
error_word (RelationWithoutElement a b) = codes "relation_without_element"
error_word (CoincidentNodes a b) = codes "coincident_nodes"
error_word (EdgeStartMismatch a b) = codes "edge_start_mismatch"
error_word (EdgeEndMismatch a b) = codes "edge_end_mismatch"
error_word (EdgeNotSimple a) = codes "edge_not_simple"
error_word (EdgeCrossesNode a b) = codes "edge_crosses_node"
error_word (EdgeCrossesEdge a b) = codes "edge_crosses_edge"
error_word (NodeJoinedWithFace a b) = codes "node_joined_with_face"
error_word (NodeIsolatedWithoutFace a) = codes "node_isolated_without_face"
error_word (NextLeftWrong a b) = codes "next_left_wrong"
error_word (NextRightWrong a b) = codes "next_right_wrong"
error_word (RingSidesDiffer a b) = codes "ring_sides_differ"
error_word (FaceShells a b) = codes "face_shells"
error_word (HoleInOtherFace a b) = codes "hole_in_other_face"
error_word (NodeInOtherFace a b) = codes "node_in_other_face"
error_word (FaceBoxWrong a) = codes "face_box_wrong"

-- what it names first, and what second
abbrev pub first_word : ReportLine → List ℕ
first_word (NodePastNext a) = decimal a
first_word (EdgePastNext a) = decimal a
first_word (FacePastNext a) = decimal a
first_word (LayerPastNext a) = decimal a
first_word (FeaturePastNext a) = decimal a
first_word (NodeWithoutFace a b) = decimal a
first_word (EdgeWithoutNode a b) = decimal a
first_word (EdgeWithoutFace a b) = decimal a
first_word (EdgeWithoutNext a b) = decimal a
first_word (LayerLevelWrong a) = decimal a
first_word (LayerChildWrong a b) = decimal a
first_word (LayerNameTaken a b) = decimal a
first_word (FeatureWithoutLayer a b) = decimal a
first_word (RelationWithoutFeature a b) = decimal a
first_word (RelationKindWrong a b) = decimal a
first_word (RelationUniverse a) = decimal a
first_word (RelationWithoutElement a b) = decimal a
first_word (CoincidentNodes a b) = decimal a
first_word (EdgeStartMismatch a b) = decimal a
first_word (EdgeEndMismatch a b) = decimal a
first_word (EdgeNotSimple a) = decimal a
first_word (EdgeCrossesNode a b) = decimal a
first_word (EdgeCrossesEdge a b) = decimal a
first_word (NodeJoinedWithFace a b) = decimal a
first_word (NodeIsolatedWithoutFace a) = decimal a
first_word (NextLeftWrong a b) = decimal a
first_word (NextRightWrong a b) = decimal a
first_word (RingSidesDiffer a b) = dart_word a
first_word (FaceShells a b) = decimal a
first_word (HoleInOtherFace a b) = dart_word a
first_word (NodeInOtherFace a b) = decimal a
first_word (FaceBoxWrong a) = decimal a

abbrev pub second_word : ReportLine → List ℕ
second_word (NodePastNext a) = codes "-"
second_word (EdgePastNext a) = codes "-"
second_word (FacePastNext a) = codes "-"
second_word (LayerPastNext a) = codes "-"
second_word (FeaturePastNext a) = codes "-"
second_word (NodeWithoutFace a b) = decimal b
second_word (EdgeWithoutNode a b) = decimal b
second_word (EdgeWithoutFace a b) = decimal b
second_word (EdgeWithoutNext a b) = dart_word b
second_word (LayerLevelWrong a) = codes "-"
second_word (LayerChildWrong a b) = decimal b
second_word (LayerNameTaken a b) = decimal b
second_word (FeatureWithoutLayer a b) = decimal b
second_word (RelationWithoutFeature a b) = decimal b
second_word (RelationKindWrong a b) = decimal b
second_word (RelationUniverse a) = decimal 0
second_word (RelationWithoutElement a b) = decimal b
second_word (CoincidentNodes a b) = decimal b
second_word (EdgeStartMismatch a b) = decimal b
second_word (EdgeEndMismatch a b) = decimal b
second_word (EdgeNotSimple a) = codes "-"
second_word (EdgeCrossesNode a b) = decimal b
second_word (EdgeCrossesEdge a b) = decimal b
second_word (NodeJoinedWithFace a b) = decimal b
second_word (NodeIsolatedWithoutFace a) = codes "-"
second_word (NextLeftWrong a b) = dart_word b
second_word (NextRightWrong a b) = dart_word b
second_word (RingSidesDiffer a b) = dart_word b
second_word (FaceShells a b) = decimal b
second_word (HoleInOtherFace a b) = decimal b
second_word (NodeInOtherFace a b) = decimal b
second_word (FaceBoxWrong a) = codes "-"

abbrev pub report_line : ReportLine → List ℕ
report_line line = line_of (error_word line ∷ first_word line ∷ second_word line ∷ [])

abbrev pub report_text : List ReportLine → List ℕ
report_text lines = flat_map report_line lines

-- the words of what a line names
abbrev pub named_word : Named → List ℕ
named_word (Number n) = decimal n
named_word (Count n) = decimal n
named_word (Walked d) = dart_word d
named_word Nothing = codes "-"
