-- No next id falls, by changes.
use Rattle.std.proofs.Common.{arith, List, [], ◌∷◌}
use Rattle.topo_base.specs.declared.edit.Edit.{Edit}
use Rattle.drawing.specs.Drawing.{Drawing}
use Rattle.drawing.specs.Replay.{after, after_all}
use Rattle.edit_changes.specs.IdsLaw.{IdsGrow}
use Rattle.drawing.specs.Change.{Change, NodeComes, NodeMoves, NodeGoes, EdgeComes, FaceIsDivided, FaceIsDividedAnew, LoneEdgeGoes, EdgeGoes, FacesJoin, FacesJoinAnew, EdgeIsCut, EdgeIsCutAnew, EdgesAreJoined, EdgesAreJoinedAnew, LayerComes, FeatureComes, FeatureLists, FeatureUnlists, FeatureGoes}
use Rattle.drawing.specs.Apply.{apply}
use Rattle.edit_changes.proofs.Histories.{after_change}

change_grows : (S : Drawing) (c : Change) → IdsGrow S ((apply S c).drawing)
change_grows S (NodeComes face p) = search arith
change_grows S (NodeMoves n p) = search arith
change_grows S (NodeGoes n) = search arith
change_grows S (EdgeComes a b line face) = search arith
change_grows S (FaceIsDivided a b line d) = search arith
change_grows S (FaceIsDividedAnew a b line d) = search arith
change_grows S (LoneEdgeGoes e) = search arith
change_grows S (EdgeGoes e) = search arith
change_grows S (FacesJoin e kept goes) = search arith
change_grows S (FacesJoinAnew e) = search arith
change_grows S (EdgeIsCut e p) = search arith
change_grows S (EdgeIsCutAnew e p) = search arith
change_grows S (EdgesAreJoined e f n) = search arith
change_grows S (EdgesAreJoinedAnew e f n) = search arith
change_grows S (LayerComes name kind child level) = search arith
change_grows S (FeatureComes layer xs) = search arith
change_grows S (FeatureLists row) = search arith
change_grows S (FeatureUnlists row) = search arith
change_grows S (FeatureGoes t) = search arith

same_ids : (S : Drawing) → IdsGrow S S
same_ids S = search arith

then : (S T U : Drawing) → IdsGrow S T → IdsGrow T U → IdsGrow S U
then S T U h k = search arith

pub all_grow : (S : Drawing) (es : List Edit) → IdsGrow S (after_all S es)
all_grow S [] = same_ids S
all_grow S (e ∷ es) = then S (after S e) _ (after_change (IdsGrow S) S e (λ c _. change_grows S c) (same_ids S)) (all_grow (after S e) es)
