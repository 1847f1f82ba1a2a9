-- The drawing after a change, and the ids of the reply.
use Rattle.std.specs.Prelude.{◌+◌, not, ◌==◌, [], ◌∷◌, ◌++◌, filter, Some, Result, Ok, Err}
use Rattle.topo_base.specs.declared.rule.Rule.{Rule}
use Rattle.topo_base.specs.declared.rows.RelationRow.{RelationRow}
use Rattle.drawing.specs.Drawing.{Drawing, node_id_of, edge_id_of, feature_id_of}
use Rattle.drawing.specs.Rows.{without_row}
use Rattle.drawing.specs.Relations.{insert_row, same_row}
use Rattle.drawing.specs.Outcome.{Accepted, Outcome, the_node, the_edge, the_face, the_feature}
use Rattle.drawing.specs.IsoEdits.{with_node, with_edge, put_in_face, put_at}
use Rattle.drawing.specs.AddEdge.{divided}
use Rattle.drawing.specs.RemoveEdge.{without_edge, merged_into_done, merged_anew_done}
use Rattle.drawing.specs.SplitEdge.{split_mod_done, split_new_done}
use Rattle.drawing.specs.HealEdges.{heal_mod_done, heal_new_done}
use Rattle.drawing.specs.Layers.{with_layer_done, with_feature_done}
use Rattle.drawing.specs.Change.{Change, NodeComes, NodeMoves, NodeGoes, EdgeComes, FaceIsDivided, FaceIsDividedAnew, LoneEdgeGoes, EdgeGoes, FacesJoin, FacesJoinAnew, EdgeIsCut, EdgeIsCutAnew, EdgesAreJoined, EdgesAreJoinedAnew, LayerComes, FeatureComes, FeatureLists, FeatureUnlists, FeatureGoes}

abbrev pub apply : Drawing → Change → Accepted
apply S (NodeComes face p) = record { drawing = with_node S (Some face) p; ids = the_node S.next_ids.node ∷ [] }
apply S (NodeMoves n p) = record { drawing = record S { nodes = put_at p n.node_id S.nodes }; ids = the_node n.node_id ∷ [] }
apply S (NodeGoes n) = record { drawing = record S { nodes = without_row node_id_of S.nodes n.node_id }; ids = the_node n.node_id ∷ [] }
apply S (EdgeComes a b line face) = record { drawing = with_edge S a b line face; ids = the_edge S.next_ids.edge ∷ [] }
apply S (FaceIsDivided a b line d) =
    let new = S.next_ids.face in
    record { drawing = divided (with_edge S a b line d.face) d (S.faces ++ new ∷ []) 1; ids = the_edge S.next_ids.edge ∷ the_face new ∷ [] }
apply S (FaceIsDividedAnew a b line d) =
    let new = S.next_ids.face in
    record { drawing = divided (with_edge S a b line d.face) d (filter (λ g. not (g == d.face)) S.faces ++ new ∷ (new + 1) ∷ []) 2; ids = the_edge S.next_ids.edge ∷ the_face new ∷ the_face (new + 1) ∷ [] }
apply S (LoneEdgeGoes e) = record {
  drawing = record S {
    nodes = put_in_face (Some e.left_face) e.start_node (put_in_face (Some e.left_face) e.end_node S.nodes);
    edges = without_row edge_id_of S.edges e.edge_id;
  };
  ids = the_edge e.edge_id ∷ [];
}
apply S (EdgeGoes e) = record { drawing = without_edge S e [] e.left_face S.faces; ids = the_face e.left_face ∷ [] }
apply S (FacesJoin e kept goes) = merged_into_done S e kept goes
apply S (FacesJoinAnew e) = merged_anew_done S e
apply S (EdgeIsCut e p) = split_mod_done S e p
apply S (EdgeIsCutAnew e p) = split_new_done S e p
apply S (EdgesAreJoined e f n) = heal_mod_done S e f n
apply S (EdgesAreJoinedAnew e f n) = heal_new_done S e f n
apply S (LayerComes name kind child level) = with_layer_done S name kind child level
apply S (FeatureComes layer xs) = with_feature_done S layer xs
apply S (FeatureLists row) = record { drawing = record S { relations = insert_row row S.relations }; ids = the_feature row.topogeo_id ∷ [] }
apply S (FeatureUnlists row) = record { drawing = record S { relations = filter (λ r. not (same_row row r)) S.relations }; ids = the_feature row.topogeo_id ∷ [] }
apply S (FeatureGoes t) = record {
  drawing = record S {
    features = without_row feature_id_of S.features t.feature_id;
    relations = filter (λ (r : RelationRow). not (r.topogeo_id == t.feature_id)) S.relations;
  };
  ids = the_feature t.feature_id ∷ [];
}

-- what is answered where this is decided
abbrev pub Decision : Type 0
Decision = Result Change Rule

abbrev pub carried_out : Drawing → Decision → Outcome
carried_out S (Ok c) = Ok (apply S c)
carried_out S (Err rule) = Err rule
