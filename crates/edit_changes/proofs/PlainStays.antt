-- Each edit keeps a drawing plain, by changes.
use Rattle.std.proofs.Common.{ℕ, ◌+◌, refl, arith, List, [], ◌∷◌, ◌++◌, Some}
use Rattle.topo_base.specs.Point.{Point}
use Rattle.topo_base.specs.declared.rows.NodeRow.{NodeRow}
use Rattle.topo_base.specs.declared.edit.Edit.{Edit}
use Rattle.drawing.specs.Drawing.{Drawing, Edge, nothing_drawn, node_id_of, edge_id_of}
use Rattle.drawing.specs.Rows.{without_row}
use Rattle.drawing.specs.IsoEdits.{with_edge}
use Rattle.drawing.specs.RemoveEdge.{without_faces}
use Rattle.drawing.specs.SplitEdge.{first_part, second_part}
use Rattle.drawing.specs.HealEdges.{joined_edge}
use Rattle.edit_changes.specs.PlainLaw.{PlainStays}
use Rattle.drawing.specs.Replay.{after, edits_of, replay}
use Rattle.drawing.proofs.Ordering.{InOrder-push, InOrder-change}
use Rattle.drawing.proofs.Members.{ids_differ}
use Rattle.drawing.proofs.PlainParts.{parts_of, plain_of}
use Rattle.drawing.proofs.PlainChanges.{node_removed, face_set, edges_filtered}
use Rattle.drawing.proofs.PlainSplits.{new_node, edge_split, from_changed, from_both}
use Rattle.edit_changes.proofs.PlainStaying.{HasPlain, has_plain, ordered_of, alone, node_more, node_elsewhere, edge_more}
use Rattle.edit_changes.proofs.PlainOthers.{parts_made, edge_gone, cut_at}
use Rattle.plane.proofs.ListTests.{contains_none}
use Rattle.edit_changes.proofs.PlainHealing.{CanHeal, made, from_mod, from_new, is_open}
use Rattle.drawing.specs.Change.{Change, NodeComes, NodeMoves, NodeGoes, EdgeComes, FaceIsDivided, FaceIsDividedAnew, LoneEdgeGoes, EdgeGoes, FacesJoin, FacesJoinAnew, EdgeIsCut, EdgeIsCutAnew, EdgesAreJoined, EdgesAreJoinedAnew, LayerComes, FeatureComes, FeatureLists, FeatureUnlists, FeatureGoes}
use Rattle.drawing.specs.Apply.{apply}
use Rattle.edit_changes.specs.Evidence.{EdgeMayCome, EdgesMayBeJoined, IsDecided}
use Rattle.edit_changes.proofs.IdsOrdering.{push_two, joined_id, InOrder-without, InOrder-put}
use Rattle.edit_changes.proofs.Histories.{after_change, all_changes}

pub edge_plain : (S : Drawing) (a b : NodeRow) (line : List Point) (face : ℕ) → EdgeMayCome S a b line face → HasPlain S → HasPlain (with_edge S a b line face)
edge_plain S a b line face k h = edge_more S a b line face h k.start_there k.end_there k.ends k.simple k.free

pub can_heal : (S : Drawing) (e f : Edge) (n : ℕ) → EdgesMayBeJoined S e f n → CanHeal S e f n
can_heal S e f n k = record { has_e = k.first_there; has_f = k.second_there; e_open = is_open e k.first_open; f_open = is_open f k.second_open; differ = k.differ; of_e = k.on_first; of_f = k.on_second; only = k.only }

pub change_plain : (S : Drawing) (c : Change) → IsDecided S c → HasPlain S → HasPlain ((apply S c).drawing)
change_plain S (NodeComes face p) k h = node_more S (Some face) p h k.free
change_plain S (NodeMoves n p) k h = node_elsewhere S n.node_id p h k.lone k.free
change_plain S (NodeGoes n) k h = record { parts = node_removed S.nodes n.node_id S.edges h.parts (alone S n.node_id k.lone); ids = InOrder-without node_id_of 0 S.next_ids.node S.nodes n.node_id h.ids; edge_ids = h.edge_ids }
change_plain S (EdgeComes a b line face) k h = edge_plain S a b line face k.edge h
change_plain S (FaceIsDivided a b line d) k h = parts_made _ d _ 1 (edge_plain S a b line d.face k.0.edge h)
change_plain S (FaceIsDividedAnew a b line d) k h = parts_made _ d _ 2 (edge_plain S a b line d.face k.0.edge h)
change_plain S (LoneEdgeGoes e) k h = record {
  parts = face_set (Some e.left_face) e.start_node _ _ (face_set (Some e.left_face) e.end_node S.nodes _ (edges_filtered _ S.nodes S.edges h.parts));
  ids = InOrder-put 0 S.next_ids.node (Some e.left_face) e.start_node _ (InOrder-put 0 S.next_ids.node (Some e.left_face) e.end_node S.nodes h.ids);
  edge_ids = InOrder-without edge_id_of 0 S.next_ids.edge S.edges e.edge_id h.edge_ids;
}
change_plain S (EdgeGoes e) k h = edge_gone S e [] e.left_face S.faces S.next_ids.face h
change_plain S (FacesJoin e kept goes) k h = edge_gone S e (goes ∷ []) kept (without_faces S (goes ∷ [])) S.next_ids.face h
change_plain S (FacesJoinAnew e) k h = let gone = e.left_face ∷ e.right_face ∷ [] in edge_gone S e gone S.next_ids.face (without_faces S gone ++ S.next_ids.face ∷ []) (S.next_ids.face + 1) h
change_plain S (EdgeIsCut e p) k h =
    let n = S.next_ids.node in
    let new = S.next_ids.edge in
    record {
      parts = edge_split S.nodes S.edges _ e p n e.edge_id new (cut_at S e p h k.there k.inside) (from_changed S.edges e p n new (ids_differ edge_id_of 0 new S.edges h.edge_ids) k.there);
      ids = InOrder-push node_id_of 0 n S.nodes (new_node n p) refl (omega arith) h.ids;
      edge_ids = InOrder-push edge_id_of 0 new _ (second_part e n p new) refl (omega arith) (InOrder-change edge_id_of 0 new e.edge_id (λ x. first_part x n p x.edge_id) S.edges (λ r. refl) h.edge_ids);
    }
change_plain S (EdgeIsCutAnew e p) k h =
    let n = S.next_ids.node in
    let new = S.next_ids.edge in
    record {
      parts = edge_split S.nodes S.edges _ e p n new (new + 1) (cut_at S e p h k.there k.inside) (from_both S.edges e p n new (new + 1));
      ids = InOrder-push node_id_of 0 n S.nodes (new_node n p) refl (omega arith) h.ids;
      edge_ids = push_two edge_id_of 0 new _ (first_part e n p new) (second_part e n p (new + 1)) refl refl (omega arith) (InOrder-without edge_id_of 0 S.next_ids.edge S.edges e.edge_id h.edge_ids);
    }
change_plain S (EdgesAreJoined e f n) k h =
    let g = can_heal S e f n k in
    record {
      parts = made S e f n e.edge_id _ h g (from_mod S e f n h g);
      ids = InOrder-without node_id_of 0 S.next_ids.node S.nodes n h.ids;
      edge_ids = InOrder-change edge_id_of 0 S.next_ids.edge e.edge_id (λ x. joined_edge n x f x.edge_id) (without_row edge_id_of S.edges f.edge_id) (λ x. joined_id n x f x.edge_id) (InOrder-without edge_id_of 0 S.next_ids.edge S.edges f.edge_id h.edge_ids);
    }
change_plain S (EdgesAreJoinedAnew e f n) k h =
    let g = can_heal S e f n k in
    let new = S.next_ids.edge in
    record {
      parts = made S e f n new _ h g (from_new S e f n new g);
      ids = InOrder-without node_id_of 0 S.next_ids.node S.nodes n h.ids;
      edge_ids = InOrder-push edge_id_of 0 new _ (joined_edge n e f new) (joined_id n e f new) (omega arith) (InOrder-without edge_id_of 0 S.next_ids.edge _ f.edge_id (InOrder-without edge_id_of 0 S.next_ids.edge S.edges e.edge_id h.edge_ids));
    }
change_plain S (LayerComes name kind child level) k h = record { parts = h.parts; ids = h.ids; edge_ids = h.edge_ids }
change_plain S (FeatureComes layer xs) k h = record { parts = h.parts; ids = h.ids; edge_ids = h.edge_ids }
change_plain S (FeatureLists row) k h = record { parts = h.parts; ids = h.ids; edge_ids = h.edge_ids }
change_plain S (FeatureUnlists row) k h = record { parts = h.parts; ids = h.ids; edge_ids = h.edge_ids }
change_plain S (FeatureGoes t) k h = record { parts = h.parts; ids = h.ids; edge_ids = h.edge_ids }

-- ---- and all of them
begun : HasPlain nothing_drawn
begun = record {
  parts = parts_of nothing_drawn (record {
    nodes_apart = refl;
    lines_fit = refl;
    lines_simple = λ e c. absurd (contains_none e c);
    edges_meet_at_nodes = λ e f q c. absurd (contains_none e c);
    nodes_off_edges = λ n e c. absurd (contains_none n c);
  });
  ids = record { test = refl };
  edge_ids = record { test = refl };
}

after_plain : (S : Drawing) (e : Edit) → HasPlain S → HasPlain (after S e)
after_plain S e h = after_change HasPlain S e (λ c k. change_plain S c k h) h

pub plain_stays : PlainStays
plain_stays = record {
  each_edit = λ S e h. ordered_of (after S e) (after_plain S e (has_plain S h));
  each_history = λ history. plain_of (replay history) (all_changes HasPlain change_plain nothing_drawn (edits_of history) begun).parts;
}
