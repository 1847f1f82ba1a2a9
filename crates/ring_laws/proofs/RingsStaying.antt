-- Each edit keeps a drawing one whose rings have one face each, by changes.
use Rattle.std.proofs.Common.{◌≡◌, ℕ, ◌+◌, ◌≤◌, refl, arith, true, List, [], length, None}
use Rattle.std.specs.List.{Contains}
use Rattle.topo_base.specs.Point.{Point}
use Rattle.topo_base.specs.declared.rows.NodeRow.{NodeRow}
use Rattle.topo_base.specs.declared.edit.Edit.{Edit}
use Rattle.drawing.specs.Accepted.{keeps_limits}
use Rattle.drawing.specs.AddEdge.{coming}
use Rattle.drawing.specs.Apply.{apply}
use Rattle.drawing.specs.Change.{Change, NodeComes, NodeMoves, NodeGoes, EdgeComes, FaceIsDivided, FaceIsDividedAnew, LoneEdgeGoes, EdgeGoes, FacesJoin, FacesJoinAnew, EdgeIsCut, EdgeIsCutAnew, EdgesAreJoined, EdgesAreJoinedAnew, LayerComes, FeatureComes, FeatureLists, FeatureUnlists, FeatureGoes}
use Rattle.drawing.specs.Drawing.{Drawing, nothing_drawn, edge_id_of}
use Rattle.drawing.specs.IsoEdits.{with_edge}
use Rattle.drawing.specs.Plain.{IsPlain}
use Rattle.drawing.specs.Replay.{after}
use Rattle.drawing.proofs.Ordering.{InOrder-push}
use Rattle.drawing.proofs.PlainParts.{parts_of}
use Rattle.edit_changes.specs.Evidence.{IsDecided, is_within}
use Rattle.edit_changes.proofs.Histories.{after_edits, after_within, in_histories}
use Rattle.edit_changes.proofs.IdsOrdering.{InOrder-put}
use Rattle.edit_changes.proofs.LongLines.{push_long}
use Rattle.edit_changes.proofs.PlainStaying.{HasPlain, has_plain, ordered_of}
use Rattle.edit_changes.proofs.PlainStays.{change_plain, plain_stays}
use Rattle.edit_changes.proofs.VerticesStay.{change_segments}
use Rattle.face_rings.proofs.HalfLines.{HasPlainLines}
use Rattle.ring_laws.specs.Ringed.{IsRinged, RingsStay, LiesIn}
use Rattle.ring_laws.proofs.EdgesCome.{edge_ringed, edge_came, face_divided, face_divided_anew}
use Rattle.ring_laws.proofs.EdgesGo.{lone_gone, edge_gone, faces_joined, faces_joined_anew}
use Rattle.ring_laws.proofs.EdgesCut.{both_new, one_changed, cut_ringed}
use Rattle.ring_laws.proofs.EdgesJoin.{joined_anew, joined_changed, joined_ringed}
use Rattle.ring_laws.proofs.KnownStays.{node_comes, node_moves, node_goes}
use Rattle.ring_laws.proofs.RingedDrawings.{AreRinged, IsBefore, plain_lines, before_of, ringed_from, aside}

-- ---- each change
change_rings : (S : Drawing) (c : Change) → IsDecided S c → is_within c ≡ true → IsBefore S → HasPlainLines ((apply S c).drawing) → AreRinged ((apply S c).drawing)
change_rings S (NodeComes face p) k w h more = record { one_face = h.ringed.one_face; known = node_comes S face p k.lies h.ordered h.lines h.ringed.known }
change_rings S (NodeMoves n p) k w h more = record { one_face = h.ringed.one_face; known = node_moves S n.node_id p h.ringed.known }
change_rings S (NodeGoes n) k w h more = record { one_face = h.ringed.one_face; known = node_goes S n.node_id h.ringed.known }
change_rings S (EdgeComes a b line face) k w h more = edge_came S a b line face k.edge h more
change_rings S (FaceIsDivided a b line d) k w h more = face_divided S a b line d k.0.edge k.1 w h more
change_rings S (FaceIsDividedAnew a b line d) k w h more = face_divided_anew S a b line d k.0.edge k.1 k.2 w h more
change_rings S (LoneEdgeGoes e) k w h more = lone_gone S e k h more
change_rings S (EdgeGoes e) k w h more = edge_gone S e k.0 k.1 h more
change_rings S (FacesJoin e kept goes) k w h more = faces_joined S e kept goes k.0 k.1 k.2 h more
change_rings S (FacesJoinAnew e) k w h more = faces_joined_anew S e _ k.0.edge k.1 k.2 h more
change_rings S (EdgeIsCut e p) k w h more = cut_ringed S e p e.edge_id S.next_ids.edge _ _ _ h (one_changed S e p k h) more
change_rings S (EdgeIsCutAnew e p) k w h more = cut_ringed S e p S.next_ids.edge (S.next_ids.edge + 1) _ _ _ h (both_new S e p k h) more
change_rings S (EdgesAreJoined e f n) k w h more = joined_ringed S n e f e.edge_id _ _ _ h (joined_changed S n e f k h) more
change_rings S (EdgesAreJoinedAnew e f n) k w h more = joined_ringed S n e f S.next_ids.edge _ _ _ h (joined_anew S n e f k) more
change_rings S (LayerComes name kind child level) k w h more = aside S _ S.features S.relations _ h
change_rings S (FeatureComes layer xs) k w h more = aside S S.layers _ _ _ h
change_rings S (FeatureLists row) k w h more = aside S S.layers S.features _ S.next_ids h
change_rings S (FeatureUnlists row) k w h more = aside S S.layers S.features _ S.next_ids h
change_rings S (FeatureGoes t) k w h more = aside S S.layers _ _ S.next_ids h

pub change_ringed : (S : Drawing) (c : Change) → IsDecided S c → is_within c ≡ true → IsRinged S → IsRinged ((apply S c).drawing)
change_ringed S c k w ringed =
    let h = before_of S ringed in
    let T = (apply S c).drawing in
    let plain = change_plain S c k (has_plain S h.ordered) in
    let more = plain_lines T plain (change_segments S c k w (record { each = h.lines.long })).each in
    ringed_from T (record { ordered = ordered_of T plain; lines = more; ringed = change_rings S c k w h more })

edit_keeps : (S : Drawing) (e : Edit) → keeps_limits e ≡ true → IsRinged S → IsRinged (after S e)
edit_keeps S e limits h = after_within IsRinged S e limits (λ c k w. change_ringed S c k w h) h

-- ---- a drawing with an edge more, of which it is known that it is plain
edge_added : (S : Drawing) (a b : NodeRow) (line : List Point) (f : ℕ) → IsRinged S → Contains S.nodes a → Contains S.nodes b → IsPlain (with_edge S a b line f) → 2 ≤ length line → LiesIn S a b line f → IsRinged (with_edge S a b line f)
edge_added S a b line f ringed ca cb flat long lies =
    let h = before_of S ringed in
    let T = with_edge S a b line f in
    let e = coming S a b line f in
    let was = has_plain S h.ordered in
    let plain : HasPlain T = record {
      parts = parts_of T flat;
      ids = InOrder-put 0 S.next_ids.node None a.node_id _ (InOrder-put 0 S.next_ids.node None b.node_id S.nodes was.ids);
      edge_ids = InOrder-push edge_id_of 0 S.next_ids.edge S.edges e refl (omega arith) was.edge_ids;
    } in
    let more = plain_lines T plain (push_long S.edges e (record { each = h.lines.long }) long).each in
    ringed_from T (record { ordered = ordered_of T plain; lines = more; ringed = edge_ringed S a b line f h ca cb lies more })

-- ---- and all of them
begun : IsRinged nothing_drawn
begun = record {
  rings = record { plain = record { plain = plain_stays.each_history []; node_ids = refl; edge_ids = refl }; lines = refl; one_face = refl };
  universe = refl;
  edges = refl;
  nodes = refl;
}

pub rings_stay : RingsStay
rings_stay = record {
  begins = begun;
  each_edit = edit_keeps;
  added = edge_added;
  all_edits = λ es each. after_edits IsRinged edit_keeps nothing_drawn es each begun;
  each_history = λ max_id. in_histories max_id IsRinged edit_keeps begun;
}
