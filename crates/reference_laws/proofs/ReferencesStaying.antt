-- Each edit keeps references known: the rows by changes, and nodes, edges and faces by the laws of rings.
use Rattle.std.proofs.Common.{◌≡◌, ◌+◌, refl, true, not, arith, Some, IsTrue}
use Rattle.std.proofs.lemmas.Bool.{and_parts}
use Rattle.topo_base.specs.declared.edit.Edit.{Edit}
use Rattle.drawing.specs.Drawing.{Drawing, nothing_drawn}
use Rattle.drawing.specs.Accepted.{keeps_limits}
use Rattle.drawing.specs.Replay.{after}
use Rattle.drawing.specs.Subdivision.{ids_in_order, references_known}
use Rattle.edit_changes.proofs.IdsOrdering.{change_ordered, ids_of, order_of}
use Rattle.relation_rows.proofs.KnownFeatures.{KnowsReferences, references_from, references_parts}
use Rattle.ring_laws.proofs.RingsStaying.{change_ringed, rings_stay}
use Rattle.ring_laws.specs.Ringed.{IsRinged}
use Rattle.reference_laws.specs.Referenced.{IsReferenced, ReferencesStay}
use Rattle.reference_laws.proofs.DrawingChanges.{edge_came, face_divided, face_divided_anew, lone_gone, node_came, node_gone, node_moved}
use Rattle.reference_laws.proofs.EdgeChanges.{edge_cut, edge_gone, edges_joined, faces_joined, faces_joined_anew}
use Rattle.reference_laws.proofs.Elements.{next_is_some}
use Rattle.reference_laws.proofs.FeatureChanges.{feature_came, feature_gone}
use Rattle.reference_laws.proofs.KnownRows.{IsTold, HasKnownRows}
use Rattle.reference_laws.proofs.LayerChanges.{layer_came, row_came, rows_gone}
use Rattle.ring_laws.proofs.EdgesCut.{both_new, one_changed}
use Rattle.ring_laws.proofs.EdgesJoin.{joined_anew, joined_changed}
use Rattle.ring_laws.proofs.RingedDrawings.{before_of}
use Rattle.edit_changes.specs.Evidence.{IsDecided, is_within}
use Rattle.edit_changes.proofs.Histories.{after_within, after_edits, in_histories}
use Rattle.drawing.specs.Apply.{apply}
use Rattle.drawing.specs.Change.{Change, NodeComes, NodeMoves, NodeGoes, EdgeComes, FaceIsDivided, FaceIsDividedAnew, LoneEdgeGoes, EdgeGoes, FacesJoin, FacesJoinAnew, EdgeIsCut, EdgeIsCutAnew, EdgesAreJoined, EdgesAreJoinedAnew, LayerComes, FeatureComes, FeatureLists, FeatureUnlists, FeatureGoes}
use Rattle.drawing.specs.Relations.{same_row}

-- ---- each change
change_rows : (S : Drawing) (c : Change) → IsDecided S c → IsTold S → HasKnownRows ((apply S c).drawing)
change_rows S (NodeComes face p) k h = node_came S (Some face) p h.rows
change_rows S (NodeMoves n p) k h = node_moved S n.node_id p h.rows
change_rows S (NodeGoes n) k h = node_gone S n.node_id k.unlisted h.rows
change_rows S (EdgeComes a b line face) k h = edge_came S a b line face h.rows
change_rows S (FaceIsDivided a b line d) k h = face_divided S a b line d k.0.edge k.1 h
change_rows S (FaceIsDividedAnew a b line d) k h = face_divided_anew S a b line d k.1 k.2 h
change_rows S (LoneEdgeGoes e) k h = lone_gone S e k.unlisted h.rows
change_rows S (EdgeGoes e) k h = edge_gone S e k.0 h
change_rows S (FacesJoin e kept goes) k h = faces_joined S e kept goes k.0 k.1 k.2 h
change_rows S (FacesJoinAnew e) k h = faces_joined_anew S e k.0.edge k.1 k.2 h
change_rows S (EdgeIsCut e p) k h = edge_cut S e p e.edge_id S.next_ids.edge _ _ (one_changed S e p k h.rings) h.rows
change_rows S (EdgeIsCutAnew e p) k h = edge_cut S e p S.next_ids.edge (S.next_ids.edge + 1) _ _ (both_new S e p k h.rings) h.rows
change_rows S (EdgesAreJoined e f n) k h = edges_joined S n e f e.edge_id _ _ k.unlisted (joined_changed S n e f k h.rings) h.rows
change_rows S (EdgesAreJoinedAnew e f n) k h = edges_joined S n e f S.next_ids.edge _ _ k.unlisted (joined_anew S n e f k) h.rows
change_rows S (LayerComes name kind child level) k h = layer_came S name kind child level k h.rows
change_rows S (FeatureComes layer xs) k h = feature_came S layer xs k h.features h.rows
change_rows S (FeatureLists row) k h = row_came S row k h.rows
change_rows S (FeatureUnlists row) k h = rows_gone S (λ r. not (same_row row r)) h.rows
change_rows S (FeatureGoes t) k h = feature_gone S t k.unused h.rows

told_of : (S : Drawing) → IsRinged S → IsTrue (ids_in_order S) → KnowsReferences S → IsTold S
told_of S rings ids known =
    let last = and_parts _ _ ids in
    let third = and_parts _ _ (and_parts _ _ last.0).0 in
    record {
      rows = record { layers = known.layers; names = known.names; features = known.features; relations = known.relations; ascend = known.ascend };
      rings = before_of S rings;
      next_some = next_is_some S (record { test = third.1 }) known.universe;
      features = record { test = last.1 };
    }

-- what is known of rows, and the rings
known_from : (T : Drawing) → IsRinged T → HasKnownRows T → IsTrue (references_known T)
known_from T rings rows = references_from T (record {
  universe = rings.universe;
  edges = rings.edges;
  nodes = rings.nodes;
  layers = rows.layers;
  names = rows.names;
  features = rows.features;
  relations = rows.relations;
  ascend = rows.ascend;
})

change_known : (S : Drawing) (c : Change) → IsDecided S c → is_within c ≡ true → IsRinged S → IsTrue (ids_in_order S) → IsTrue (references_known S) → IsTrue (references_known ((apply S c).drawing))
change_known S c k w rings ids known = known_from ((apply S c).drawing) (change_ringed S c k w rings) (change_rows S c k (told_of S rings ids (references_parts S known)))

pub change_referenced : (S : Drawing) (c : Change) → IsDecided S c → is_within c ≡ true → IsReferenced S → IsReferenced ((apply S c).drawing)
change_referenced S c k w h =
    let order = change_ordered S c (order_of S h.ids (h.starts.node, h.starts.edge, h.starts.layer, h.starts.feature)) in
    let starts = order.starts in
    record {
      rings = change_ringed S c k w h.rings;
      starts = record { node = starts.0; edge = starts.1; layer = starts.2; feature = starts.3 };
      ids = ids_of ((apply S c).drawing) order;
      references = change_known S c k w h.rings h.ids h.references;
    }

-- ---- and all of them
edit_keeps : (S : Drawing) (e : Edit) → IsTrue (keeps_limits e) → IsRinged S → IsTrue (ids_in_order S) → IsTrue (references_known S) → IsTrue (references_known (after S e))
edit_keeps S e limits rings ids known = after_within (λ T. IsTrue (references_known T)) S e limits (λ c k w. change_known S c k w rings ids known) known

kept : (S : Drawing) (e : Edit) → IsTrue (keeps_limits e) → IsReferenced S → IsReferenced (after S e)
kept S e limits h = after_within IsReferenced S e limits (λ c k w. change_referenced S c k w h) h

begun : IsReferenced nothing_drawn
begun = record { rings = rings_stay.begins; starts = record { node = omega arith; edge = omega arith; layer = omega arith; feature = omega arith }; ids = refl; references = refl }

pub references_stay : ReferencesStay
references_stay = record {
  begins = begun;
  each_edit = edit_keeps;
  each_kept = kept;
  all_edits = λ es each. after_edits IsReferenced kept nothing_drawn es each begun;
  each_history = λ max_id. in_histories max_id IsReferenced kept begun;
}
