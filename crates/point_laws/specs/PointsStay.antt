-- The points of a feature that a change leaves as they are.
use Rattle.std.specs.Prelude.{◌≡◌, ℕ, zero, suc, ◌⊎◌, ◌↔◌, Bool, true, false, IsTrue, IsSome, List, ◌∷◌, ◌++◌}
use Rattle.std.specs.List.{Contains}
use Rattle.topo_base.specs.Point.{Point}
use Rattle.topo_base.specs.RationalPoint.{RationalPoint}
use Rattle.topo_base.specs.declared.edit.Edit.{Edit}
use Rattle.topo_base.specs.declared.edit.Edit.TheVariants.{MoveIsoNode, AddElement, RemElement}
use Rattle.topo_base.specs.declared.edit.Entry.{Entry}
use Rattle.topo_base.specs.declared.rows.NodeRow.{NodeRow}
use Rattle.topo_base.specs.declared.rows.RelationRow.{RelationRow}
use Rattle.drawing.specs.Accepted.{is_accepted, keeps_limits}
use Rattle.drawing.specs.Apply.{apply}
use Rattle.drawing.specs.Change.{Change, NodeMoves, FeatureLists, FeatureUnlists}
use Rattle.drawing.specs.Descent.{listed_by}
use Rattle.drawing.specs.Drawing.{Drawing, feature_at}
use Rattle.drawing.specs.FeaturePoints.{IsPointOf}
use Rattle.drawing.specs.Relations.{features_of, node_type}
use Rattle.drawing.specs.Replay.{after, replay}
use Rattle.edit_changes.specs.Evidence.{IsDecided, is_within}
use Rattle.subdivision_laws.specs.Subdivided.{IsSubdivided}

-- the feature has the same points in both
abbrev pub SamePoints : Drawing → Drawing → ℕ → Type 0
SamePoints S T t = (q : RationalPoint) → IsPointOf S t q ↔ IsPointOf T t q

-- so have all that are there in both; all of these of which this holds
abbrev pub KeepsPoints : Drawing → Drawing → Type 0
KeepsPoints S T = (t : ℕ) → IsSome (feature_at S t) → IsSome (feature_at T t) → SamePoints S T t

abbrev pub KeepsPointsOf : (ℕ → Type 0) → Drawing → Drawing → Type 0
KeepsPointsOf Which S T = (t : ℕ) → Which t → IsSome (feature_at S t) → IsSome (feature_at T t) → SamePoints S T t

-- ---- what is asked of a feature where a node moves, or where another feature lists more or less
-- t is u, or what t lists in so many steps is
abbrev pub Reaches : Drawing → ℕ → ℕ → ℕ → Type 0
Reaches S zero t u = t ≡ u
Reaches S (suc n) t u = (t ≡ u) ⊎ ((w : ℕ) × (Contains (listed_by S t) w × Reaches S n w u))

-- t does not descend to u
abbrev pub IsApartFrom : Drawing → ℕ → ℕ → Type 0
IsApartFrom S u t = (n : ℕ) → Reaches S n t u → ⊥

-- t does not descend to a feature that lists the node
abbrev pub IsApartFromNode : Drawing → ℕ → ℕ → Type 0
IsApartFromNode S n t = (k u : ℕ) → Reaches S k t u → Contains (features_of S node_type n) u → ⊥

-- ---- the law
-- the changes that leave the points of every feature
abbrev pub keeps_points : Change → Bool
keeps_points (NodeMoves n p) = false
keeps_points (FeatureLists row) = false
keeps_points (FeatureUnlists row) = false
keeps_points c = true

-- the edits of which no other change comes
abbrev pub leaves_points : Edit → Bool
leaves_points (MoveIsoNode n p) = false
leaves_points (AddElement t id type) = false
leaves_points (RemElement t id type) = false
leaves_points e = true

pub record PointsStay : Type 0 where
  pub each_change : (S : Drawing) (c : Change) → IsDecided S c → IsTrue (is_within c) → IsSubdivided S → IsTrue (keeps_points c) → KeepsPoints S ((apply S c).drawing)
  -- the others leave those of each feature that does not descend to what they change
  pub node_moves : (S : Drawing) (n : NodeRow) (p : Point) → IsDecided S (NodeMoves n p) → IsSubdivided S → KeepsPointsOf (IsApartFromNode S n.node_id) S ((apply S (NodeMoves n p)).drawing)
  pub feature_lists : (S : Drawing) (row : RelationRow) → IsDecided S (FeatureLists row) → IsSubdivided S → KeepsPointsOf (IsApartFrom S row.topogeo_id) S ((apply S (FeatureLists row)).drawing)
  pub feature_unlists : (S : Drawing) (row : RelationRow) → IsDecided S (FeatureUnlists row) → IsSubdivided S → KeepsPointsOf (IsApartFrom S row.topogeo_id) S ((apply S (FeatureUnlists row)).drawing)
  -- so each edit that doesn't move a node and doesn't change what a feature lists leaves the points of every feature
  pub each_edit : (S : Drawing) (e : Edit) → IsTrue (keeps_limits e) → IsSubdivided S → IsTrue (leaves_points e) → KeepsPoints S (after S e)
  -- and so does each such entry of an accepted history
  pub each_entry : (max_id : ℕ) (front rest : List Entry) (x : Entry) → IsTrue (is_accepted max_id (front ++ x ∷ rest)) → IsTrue (leaves_points x.edit) → KeepsPoints (replay front) (after (replay front) x.edit)
