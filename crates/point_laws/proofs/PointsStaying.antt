-- Each change leaves the points of features, by changes.
use Rattle.std.proofs.Common.{◌≡◌, ℕ, refl, true, ◌&&◌, List, [], ◌∷◌, ◌++◌, Ok, Err}
use Rattle.std.specs.Prelude.{is_ok}
use Rattle.std.proofs.lemmas.Bool.{and_parts}
use Rattle.topo_base.specs.declared.edit.Edit.{Edit}
use Rattle.topo_base.specs.declared.edit.Entry.{Entry}
use Rattle.drawing.specs.Accepted.{are_accepted, ids_within, is_accepted, is_editor, is_entry, keeps_limits}
use Rattle.drawing.specs.Apply.{Decision, apply, carried_out}
use Rattle.drawing.specs.Change.{Change, NodeComes, NodeMoves, NodeGoes, EdgeComes, FaceIsDivided, FaceIsDividedAnew, LoneEdgeGoes, EdgeGoes, FacesJoin, FacesJoinAnew, EdgeIsCut, EdgeIsCutAnew, EdgesAreJoined, EdgesAreJoinedAnew, LayerComes, FeatureComes, FeatureLists, FeatureUnlists, FeatureGoes}
use Rattle.drawing.specs.Decide.{decide}
use Rattle.drawing.specs.Drawing.{Drawing, nothing_drawn}
use Rattle.drawing.specs.Replay.{after, after_all, drawing_of, edits_of, replay}
use Rattle.drawing.specs.Step.{step}
use Rattle.edit_changes.specs.Evidence.{IsDecided, is_within}
use Rattle.edit_changes.proofs.Evidence.{decided, within}
use Rattle.subdivision_laws.specs.Subdivided.{IsSubdivided}
use Rattle.subdivision_laws.proofs.SubdivisionsStaying.{change_subdivided, subdivisions_stay}
use Rattle.point_laws.specs.PointsStay.{KeepsPoints, PointsStay, keeps_points, leaves_points}
use Rattle.point_laws.proofs.Decisions.{decisions_keep, keeps_what}
use Rattle.point_laws.proofs.EdgesCome.{edge_comes, face_parted, face_parted_anew}
use Rattle.point_laws.proofs.EdgesGo.{edge_goes, faces_join, faces_join_anew, lone_edge_goes}
use Rattle.point_laws.proofs.FeatureEdits.{feature_comes, feature_goes, layer_comes, lists_less, lists_more}
use Rattle.point_laws.proofs.Heals.{edges_joined, edges_joined_anew}
use Rattle.point_laws.proofs.NodeEdits.{node_elsewhere, node_less, node_more}
use Rattle.point_laws.proofs.SplitEdits.{edge_cut, edge_cut_anew}
use Rattle.point_laws.proofs.Told.{IsTold, told}

-- ---- each change
keeps : (S : Drawing) (c : Change) → IsDecided S c → is_within c ≡ true → IsTold S → IsSubdivided ((apply S c).drawing) → keeps_points c ≡ true → KeepsPoints S ((apply S c).drawing)
keeps S (NodeComes face p) k w h later kept = node_more S face p h later
keeps S (NodeMoves n p) k w h later kept = absurd cc
keeps S (NodeGoes n) k w h later kept = node_less S n k h later
keeps S (EdgeComes a b line face) k w h later kept = edge_comes S a b line face k.edge w h later
keeps S (FaceIsDivided a b line d) k w h later kept = face_parted S a b line d k.0 k.1 w h later
keeps S (FaceIsDividedAnew a b line d) k w h later kept = face_parted_anew S a b line d k.0 k.2 w h later
keeps S (LoneEdgeGoes e) k w h later kept = lone_edge_goes S e k h later
keeps S (EdgeGoes e) k w h later kept = edge_goes S e k.0 k.1 h later
keeps S (FacesJoin e kept goes) k w h later _ = faces_join S e kept goes k.0 k.1 k.2 h later
keeps S (FacesJoinAnew e) k w h later kept = faces_join_anew S e k.0 k.1 k.2 h later
keeps S (EdgeIsCut e p) k w h later kept = edge_cut S e p k h later
keeps S (EdgeIsCutAnew e p) k w h later kept = edge_cut_anew S e p k h later
keeps S (EdgesAreJoined e f n) k w h later kept = edges_joined S e f n k h later
keeps S (EdgesAreJoinedAnew e f n) k w h later kept = edges_joined_anew S e f n k h later
keeps S (LayerComes name kind child level) k w h later kept = layer_comes S name kind child level h
keeps S (FeatureComes layer xs) k w h later kept = feature_comes S layer xs h
keeps S (FeatureLists row) k w h later kept = absurd cc
keeps S (FeatureUnlists row) k w h later kept = absurd cc
keeps S (FeatureGoes t) k w h later kept = feature_goes S t k h

change_keeps_points : (S : Drawing) (c : Change) → IsDecided S c → is_within c ≡ true → IsSubdivided S → keeps_points c ≡ true → KeepsPoints S ((apply S c).drawing)
change_keeps_points S c k w s kept = keeps S c k w (told S s) (change_subdivided S c k w s) kept

-- ---- each edit
edit_keeps : (S : Drawing) (e : Edit) → keeps_limits e ≡ true → IsSubdivided S → leaves_points e ≡ true → KeepsPoints S (after S e)
edit_keeps S e limits s leaves = by (decide S e) refl (decisions_keep S e leaves)
  where
    by : (d : Decision) → decide S e ≡ d → keeps_what d ≡ true → KeepsPoints S (drawing_of S (carried_out S d))
    by (Ok c) is kept = change_keeps_points S c (decided S e c is) (within S e c limits is) s kept
    by (Err rule) is kept = λ t before later q. (λ p. p, λ p. p)

-- ---- each entry of an accepted history
record IsReached (S : Drawing) (front : List Entry) (x : Entry) : Type 0 where
  before : IsSubdivided (after_all S (edits_of front))
  limits : keeps_limits x.edit ≡ true

entry_limits : (max_id : ℕ) (S : Drawing) (x : Entry) (rest : List Entry) → are_accepted max_id S (x ∷ rest) ≡ true → keeps_limits x.edit ≡ true
entry_limits max_id S x rest k =
    let all = and_parts (is_entry x && is_ok (step S x.edit) && ids_within max_id (after S x.edit)) (are_accepted max_id (after S x.edit) rest) k in
    let some = and_parts (is_entry x && is_ok (step S x.edit)) (ids_within max_id (after S x.edit)) all.0 in
    let entry = and_parts (is_entry x) (is_ok (step S x.edit)) some.0 in
    (and_parts (is_editor x.editor) (keeps_limits x.edit) entry.0).1

reached : (max_id : ℕ) (S : Drawing) (front rest : List Entry) (x : Entry) → IsSubdivided S → are_accepted max_id S (front ++ x ∷ rest) ≡ true → IsReached S front x
reached max_id S [] rest x s k = record { before = s; limits = entry_limits max_id S x rest k }
reached max_id S (y ∷ front) rest x s k =
    let more = (and_parts (is_entry y && is_ok (step S y.edit) && ids_within max_id (after S y.edit)) (are_accepted max_id (after S y.edit) (front ++ x ∷ rest)) k).1 in
    let r = reached max_id (after S y.edit) front rest x (subdivisions_stay.each_edit S y.edit (entry_limits max_id S y (front ++ x ∷ rest) k) s) more in
    record { before = r.before; limits = r.limits }

entry_keeps : (max_id : ℕ) (front rest : List Entry) (x : Entry) → is_accepted max_id (front ++ x ∷ rest) ≡ true → leaves_points x.edit ≡ true → KeepsPoints (replay front) (after (replay front) x.edit)
entry_keeps max_id front rest x accepted kept =
    let r = reached max_id nothing_drawn front rest x subdivisions_stay.begins accepted in
    edit_keeps (replay front) x.edit r.limits r.before kept

pub points_stay : PointsStay
points_stay = record {
  each_change = change_keeps_points;
  node_moves = λ S n p k s. node_elsewhere S n.node_id p (told S s) (change_subdivided S (NodeMoves n p) k refl s);
  feature_lists = λ S row k s. lists_more S row (told S s);
  feature_unlists = λ S row k s. lists_less S row (told S s);
  each_edit = edit_keeps;
  each_entry = entry_keeps;
}
