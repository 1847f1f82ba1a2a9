-- The points of a feature.
use Rattle.std.specs.Prelude.{◌≡◌, ℕ, zero, suc, ◌⊎◌, ◌||◌, IsTrue, List, Option, Some, None, Contains}
use Rattle.topo_base.specs.RationalPoint.{RationalPoint, IsAt}
use Rattle.topo_base.specs.declared.kind.Kind.{Kind}
use Rattle.topo_base.specs.declared.kind.Kind.TheVariants.{Puntal, Lineal, Areal}
use Rattle.topo_base.specs.declared.rows.NodeRow.{NodeRow}
use Rattle.topo_base.specs.declared.rows.LayerRow.{LayerRow}
use Rattle.topo_base.specs.declared.rows.FeatureRow.{FeatureRow}
use Rattle.drawing.specs.Drawing.{Drawing, Edge, layer_at, feature_at}
use Rattle.drawing.specs.DrawnPoints.{IsOnEdge, IsOffEdges, IsOffNodes}
use Rattle.drawing.specs.Faced.{is_in}
use Rattle.drawing.specs.Relations.{is_among}
use Rattle.drawing.specs.Descent.{listed_by}

-- the points of these nodes; those on these edges
abbrev pub AtNodes : Drawing → List ℕ → RationalPoint → Type 0
AtNodes S ids q = (n : NodeRow) × (Contains S.nodes n × IsTrue (is_among n.node_id ids) × IsAt n.geom q)

abbrev pub OnEdges : Drawing → List ℕ → RationalPoint → Type 0
OnEdges S ids q = (e : Edge) × (Contains S.edges e × IsTrue (is_among e.edge_id ids) × IsOnEdge q e)

-- those in these faces, on an edge with one of these on a side, and at an isolated node in one of them
abbrev pub InsideFaces : Drawing → List ℕ → RationalPoint → Type 0
InsideFaces S ids q = IsOffEdges S q × IsOffNodes S q × ((f : ℕ) × (IsTrue (is_among f ids) × IsTrue (is_in S f q)))

abbrev pub OnSides : Drawing → List ℕ → RationalPoint → Type 0
OnSides S ids q = (e : Edge) × (Contains S.edges e × IsTrue (is_among e.left_face ids || is_among e.right_face ids) × IsOnEdge q e)

abbrev pub AtIsolated : Drawing → List ℕ → RationalPoint → Type 0
AtIsolated S ids q = (n : NodeRow) × ((f : ℕ) × (Contains S.nodes n × (n.containing_face ≡ Some f) × IsTrue (is_among f ids) × IsAt n.geom q))

-- the points of listed elements of this kind
abbrev pub IsPointOfElements : Drawing → Kind → List ℕ → RationalPoint → Type 0
IsPointOfElements S Puntal ids q = AtNodes S ids q
IsPointOfElements S Lineal ids q = OnEdges S ids q
IsPointOfElements S Areal ids q = InsideFaces S ids q ⊎ OnSides S ids q ⊎ AtIsolated S ids q

-- the points of a feature of a layer of this level and kind: those of the features that it lists
abbrev pub IsPointAtLevel : Drawing → Kind → ℕ → ℕ → RationalPoint → Type 0
IsPointAtLevel S kind zero t q = IsPointOfElements S kind (listed_by S t) q
IsPointAtLevel S kind (suc level) t q = (u : ℕ) × (Contains (listed_by S t) u × IsPointAtLevel S kind level u q)

abbrev pub IsPointIn : Drawing → Option LayerRow → ℕ → RationalPoint → Type 0
IsPointIn S None t q = ⊥
IsPointIn S (Some l) t q = IsPointAtLevel S l.feature_type l.level t q

abbrev pub IsPointOfRow : Drawing → Option FeatureRow → RationalPoint → Type 0
IsPointOfRow S None q = ⊥
IsPointOfRow S (Some t) q = IsPointIn S (layer_at S t.layer_id) t.feature_id q

-- q is a point of the feature t
abbrev pub IsPointOf : Drawing → ℕ → RationalPoint → Type 0
IsPointOf S t q = IsPointOfRow S (feature_at S t) q
