-- Each edit keeps lines of two vertices or more, by changes.
use Rattle.std.proofs.Common.{◌≡◌, ℕ, ◌+◌, true, not, List, [], ◌∷◌, map, length}
use Rattle.std.specs.Prelude.{◌==◌, nat_le}
use Rattle.std.proofs.lemmas.Bool.{and_parts, leb-true}
use Rattle.topo_base.specs.Point.{Point}
use Rattle.topo_base.specs.declared.rows.NodeRow.{NodeRow}
use Rattle.drawing.specs.Accepted.{is_line_short}
use Rattle.drawing.specs.Drawing.{Drawing, Edge, edge_id_of}
use Rattle.drawing.specs.Rows.{without_row, with_change}
use Rattle.drawing.specs.IsoEdits.{with_edge}
use Rattle.drawing.specs.AddEdge.{Division, coming, divided_edge}
use Rattle.drawing.specs.HalfEdge.{half_edges}
use Rattle.drawing.specs.RemoveEdge.{renamed_edge}
use Rattle.drawing.specs.SplitEdge.{first_part, second_part}
use Rattle.drawing.specs.HealEdges.{joined_edge}
use Rattle.plane.proofs.ListTests.{contains_none}
use Rattle.edit_changes.specs.VerticesLaw.{SegmentsStay}
use Rattle.edit_changes.proofs.LongLines.{AreLong, push_long, two_long, filter_long, map_long, change_long, up_to_long, inside_from_long, healed_long, to_long, from_all}
use Rattle.drawing.specs.Change.{Change, NodeComes, NodeMoves, NodeGoes, EdgeComes, FaceIsDivided, FaceIsDividedAnew, LoneEdgeGoes, EdgeGoes, FacesJoin, FacesJoinAnew, EdgeIsCut, EdgeIsCutAnew, EdgesAreJoined, EdgesAreJoinedAnew, LayerComes, FeatureComes, FeatureLists, FeatureUnlists, FeatureGoes}
use Rattle.drawing.specs.Apply.{apply}
use Rattle.edit_changes.specs.Evidence.{IsDecided, is_within}
use Rattle.edit_changes.proofs.Histories.{after_within, accepted_histories}

pub edge_long : (S : Drawing) (a b : NodeRow) (line : List Point) (face : ℕ) → is_line_short line ≡ true → AreLong S.edges → AreLong ((with_edge S a b line face).edges)
edge_long S a b line face k h = push_long S.edges (coming S a b line face) h (leb-true 2 (length line) (and_parts (nat_le 2 (length line)) (nat_le (length line) 4096) k).0)

divided : (S : Drawing) (a b : NodeRow) (line : List Point) (d : Division) → is_line_short line ≡ true → AreLong S.edges → AreLong (map (divided_edge d (half_edges (with_edge S a b line d.face))) ((with_edge S a b line d.face).edges))
divided S a b line d k h = map_long (divided_edge d _) _ (λ x l. l) (edge_long S a b line d.face k h)

less : (e : Edge) (edges : List Edge) → AreLong edges → AreLong (without_row edge_id_of edges e.edge_id)
less e edges h = filter_long (λ r. not (edge_id_of r == e.edge_id)) edges h

merged : (e : Edge) (gone : List ℕ) (kept : ℕ) (edges : List Edge) → AreLong edges → AreLong (map (renamed_edge gone kept) (without_row edge_id_of edges e.edge_id))
merged e gone kept edges h = map_long (renamed_edge gone kept) _ (λ x l. l) (less e edges h)

pub change_segments : (S : Drawing) (c : Change) → IsDecided S c → is_within c ≡ true → AreLong S.edges → AreLong ((apply S c).drawing.edges)
change_segments S (NodeComes face p) k w h = h
change_segments S (NodeMoves n p) k w h = h
change_segments S (NodeGoes n) k w h = h
change_segments S (EdgeComes a b line face) k w h = edge_long S a b line face w h
change_segments S (FaceIsDivided a b line d) k w h = divided S a b line d w h
change_segments S (FaceIsDividedAnew a b line d) k w h = divided S a b line d w h
change_segments S (LoneEdgeGoes e) k w h = less e S.edges h
change_segments S (EdgeGoes e) k w h = merged e [] e.left_face S.edges h
change_segments S (FacesJoin e kept goes) k w h = merged e (goes ∷ []) kept S.edges h
change_segments S (FacesJoinAnew e) k w h = merged e (e.left_face ∷ e.right_face ∷ []) S.next_ids.face S.edges h
change_segments S (EdgeIsCut e p) k w h =
    let n = S.next_ids.node in
    push_long (with_change edge_id_of S.edges e.edge_id (λ x. first_part x n p x.edge_id)) (second_part e n p S.next_ids.edge)
    (change_long S.edges e.edge_id (λ x. first_part x n p x.edge_id) (λ x d _. up_to_long p x.geom (h.each x d)) h) (inside_from_long p e.geom k.inside)
change_segments S (EdgeIsCutAnew e p) k w h =
    let n = S.next_ids.node in
    let new = S.next_ids.edge in
    two_long (without_row edge_id_of S.edges e.edge_id) (first_part e n p new) (second_part e n p (new + 1)) (less e S.edges h) (up_to_long p e.geom (h.each e k.there)) (inside_from_long p e.geom k.inside)
change_segments S (EdgesAreJoined e f n) k w h =
    let left = less f S.edges h in
    change_long (without_row edge_id_of S.edges f.edge_id) e.edge_id (λ x. joined_edge n x f x.edge_id) (λ x d _. healed_long n x f x.edge_id (left.each x d) (h.each f k.second_there)) left
change_segments S (EdgesAreJoinedAnew e f n) k w h =
    push_long (without_row edge_id_of (without_row edge_id_of S.edges e.edge_id) f.edge_id) (joined_edge n e f S.next_ids.edge) (less f _ (less e S.edges h)) (healed_long n e f S.next_ids.edge (h.each e k.first_there) (h.each f k.second_there))
change_segments S (LayerComes name kind child level) k w h = h
change_segments S (FeatureComes layer xs) k w h = h
change_segments S (FeatureLists row) k w h = h
change_segments S (FeatureUnlists row) k w h = h
change_segments S (FeatureGoes t) k w h = h

pub segments_stay : SegmentsStay
segments_stay = record {
  each_edit = λ S e limits h. from_all _ (after_within (λ T. AreLong T.edges) S e limits (λ c k w. change_segments S c k w (to_long S.edges h)) (to_long S.edges h));
  each_history = λ max_id history accepted.
      from_all _ (accepted_histories max_id (λ T. AreLong T.edges) (record { each = λ e c. absurd (contains_none e c) }) (λ S c _ k w h. change_segments S c k w h) history accepted);
}
