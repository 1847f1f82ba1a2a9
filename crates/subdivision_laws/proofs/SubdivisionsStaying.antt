-- Each edit keeps a drawing a planar subdivision, by changes.
use Rattle.std.proofs.Common.{◌≡◌, ◌≤◌, ℕ, sym, ⊎_elim, true, false, ◌||◌, ◌==◌, ◌+◌, List, length}
use Rattle.std.specs.Prelude.{nat_le}
use Rattle.std.proofs.lemmas.Bool.{and_parts, or_cases, eqb-true, leb-true}
use Rattle.topo_base.specs.Point.{Point}
use Rattle.topo_base.specs.declared.edit.Edit.{Edit}
use Rattle.topo_base.specs.declared.rows.Counters.{Counters}
use Rattle.topo_base.specs.declared.rows.FeatureRow.{FeatureRow}
use Rattle.topo_base.specs.declared.rows.LayerRow.{LayerRow}
use Rattle.topo_base.specs.declared.rows.RelationRow.{RelationRow}
use Rattle.drawing.specs.Accepted.{keeps_limits, is_line_short}
use Rattle.drawing.specs.Apply.{apply}
use Rattle.drawing.specs.Change.{Change, NodeComes, NodeMoves, NodeGoes, EdgeComes, FaceIsDivided, FaceIsDividedAnew, LoneEdgeGoes, EdgeGoes, FacesJoin, FacesJoinAnew, EdgeIsCut, EdgeIsCutAnew, EdgesAreJoined, EdgesAreJoinedAnew, LayerComes, FeatureComes, FeatureLists, FeatureUnlists, FeatureGoes}
use Rattle.drawing.specs.Drawing.{Drawing, nothing_drawn}
use Rattle.drawing.specs.Replay.{after}
use Rattle.drawing.specs.Subdivision.{IsSubdivision}
use Rattle.plane.proofs.ListTests.{contains_none}
use Rattle.edit_changes.specs.Evidence.{IsDecided, is_within}
use Rattle.edit_changes.proofs.Histories.{after_within, after_edits, in_histories}
use Rattle.ring_laws.specs.Ringed.{IsRinged}
use Rattle.reference_laws.proofs.ReferencesStaying.{change_referenced, references_stay}
use Rattle.face_laws.specs.Covered.{IsCovered}
use Rattle.face_laws.proofs.Covering.{covered_faced}
use Rattle.face_laws.proofs.ShellsListed.{shells_listed}
use Rattle.subdivision_laws.specs.Subdivided.{IsSubdivided, SubdivisionsStay}
use Rattle.subdivision_laws.proofs.Covers.{Covers, covered}
use Rattle.subdivision_laws.proofs.EdgesAdded.{edge_comes, face_is_divided, face_is_divided_anew}
use Rattle.subdivision_laws.proofs.EdgesGone.{edge_goes, faces_join, faces_join_anew}
use Rattle.subdivision_laws.proofs.HealsStay.{healed_covers}
use Rattle.subdivision_laws.proofs.LoneEdgeGone.{lone_edge_less}
use Rattle.subdivision_laws.proofs.NodesStay.{node_more, node_elsewhere, node_less}
use Rattle.subdivision_laws.proofs.RingAdded.{FacesBelow, faces_below, faces_in_order}
use Rattle.subdivision_laws.proofs.SplitsStay.{split_covers}
use Rattle.ring_laws.proofs.EdgesCut.{both_new, one_changed}
use Rattle.ring_laws.proofs.EdgesJoin.{joined_anew, joined_changed}
use Rattle.ring_laws.proofs.RingedDrawings.{before_of}

-- ---- each change
pub line_long : (line : List Point) → is_line_short line ≡ true → 2 ≤ length line
line_long line h = leb-true 2 (length line) (and_parts (nat_le 2 (length line)) (nat_le (length line) 4096) h).0

-- nodes, edges and faces are as they were
aside : (S : Drawing) (layers : List LayerRow) (features : List FeatureRow) (relations : List RelationRow) (ids : Counters) → IsCovered S
    → Covers (record S { layers = layers; features = features; relations = relations; next_ids = ids })
aside S layers features relations ids c = record { sided = c.sided; shells = c.shells; outer = c.outer; placed = c.placed }

change_covers : (S : Drawing) (c : Change) → IsDecided S c → is_within c ≡ true → FacesBelow S → IsCovered S → IsRinged ((apply S c).drawing) → Covers ((apply S c).drawing)
change_covers S (NodeComes face p) k w below h ringed = node_more S face p k h
change_covers S (NodeMoves n p) k w below h ringed = node_elsewhere S n p k h
change_covers S (NodeGoes n) k w below h ringed = node_less S n h
change_covers S (EdgeComes a b line face) k w below h ringed = edge_comes S a b line face k (line_long line w) h
change_covers S (FaceIsDivided a b line d) k w below h ringed = face_is_divided S a b line d k.0 k.1 (line_long line w) below h ringed
change_covers S (FaceIsDividedAnew a b line d) k w below h ringed = face_is_divided_anew S a b line d k.0 k.1 k.2 (line_long line w) below h ringed
change_covers S (LoneEdgeGoes e) k w below h ringed = lone_edge_less S e k h ringed
change_covers S (EdgeGoes e) k w below h ringed = edge_goes S e k.0 k.1 h ringed
change_covers S (FacesJoin e kept goes) k w below h ringed = faces_join S e kept goes k.0 k.1 k.2 h ringed
change_covers S (FacesJoinAnew e) k w below h ringed = faces_join_anew S e k.0 k.1 k.2 below h ringed
change_covers S (EdgeIsCut e p) k w below h ringed = split_covers S e p e.edge_id S.next_ids.edge _ _ _ h (one_changed S e p k (before_of S h.ringed)) ringed
change_covers S (EdgeIsCutAnew e p) k w below h ringed = split_covers S e p S.next_ids.edge (S.next_ids.edge + 1) _ _ _ h (both_new S e p k (before_of S h.ringed)) ringed
change_covers S (EdgesAreJoined e f n) k w below h ringed = healed_covers S n e f e.edge_id _ _ _ h (joined_changed S n e f k (before_of S h.ringed)) ringed
change_covers S (EdgesAreJoinedAnew e f n) k w below h ringed = healed_covers S n e f S.next_ids.edge _ _ _ h (joined_anew S n e f k) ringed
change_covers S (LayerComes name kind child level) k w below h ringed = aside S _ S.features S.relations _ h
change_covers S (FeatureComes layer xs) k w below h ringed = aside S S.layers _ _ _ h
change_covers S (FeatureLists row) k w below h ringed = aside S S.layers S.features _ S.next_ids h
change_covers S (FeatureUnlists row) k w below h ringed = aside S S.layers S.features _ S.next_ids h
change_covers S (FeatureGoes t) k w below h ringed = aside S S.layers _ _ S.next_ids h

pub change_subdivided : (S : Drawing) (c : Change) → IsDecided S c → is_within c ≡ true → IsSubdivided S → IsSubdivided ((apply S c).drawing)
change_subdivided S c k w h =
    let known = change_referenced S c k w h.referenced in
    record { referenced = known; covered = covered ((apply S c).drawing) known.rings (change_covers S c k w (faces_below S (faces_in_order S h.referenced.ids)) h.covered known.rings) }

edit_keeps : (S : Drawing) (e : Edit) → keeps_limits e ≡ true → IsSubdivided S → IsSubdivided (after S e)
edit_keeps S e limits h = after_within IsSubdivided S e limits (λ c k w. change_subdivided S c k w h) h

-- ---- a subdivision
is_subdivision : (S : Drawing) → IsSubdivided S → IsSubdivision S
is_subdivision S h = record {
  ids = h.referenced.ids;
  references = h.referenced.references;
  plain = h.covered.ringed.rings.plain.plain;
  rings = h.covered.ringed.rings.one_face;
  faced = covered_faced S h.covered;
  shells = shells_listed S h.covered.ringed.rings h.covered.shells h.covered.outer;
}

-- ---- and all of them
begun : IsSubdivided nothing_drawn
begun = record {
  referenced = references_stay.begins;
  covered = record {
    ringed = references_stay.begins.rings;
    sided = λ f n s i. absurd i;
    shells = λ f there n. absurd (n (only_universe f there));
    outer = λ p shell. shell.ring.there;
    placed = λ n f c. absurd (contains_none n c);
  };
}
  where
    only_universe : (f : ℕ) → (0 == f || false) ≡ true → f ≡ 0
    only_universe f e = ⊎_elim (λ (h : (0 == f) ≡ true). sym (eqb-true 0 f h)) (λ (h : false ≡ true). cc) (or_cases (0 == f) false e)

pub subdivisions_stay : SubdivisionsStay
subdivisions_stay = record {
  begins = begun;
  each_edit = edit_keeps;
  subdivision = is_subdivision;
  all_edits = λ es each. after_edits IsSubdivided edit_keeps nothing_drawn es each begun;
  each_history = λ max_id. in_histories max_id IsSubdivided edit_keeps begun;
}
