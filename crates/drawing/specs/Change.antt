-- What an accepted edit does to a drawing, by the situation that it was decided in.
use Rattle.std.specs.Prelude.{ℕ, List, Option}
use Rattle.topo_base.specs.Point.{Point}
use Rattle.topo_base.specs.declared.kind.Kind.{Kind}
use Rattle.topo_base.specs.declared.edit.Pair.{Pair}
use Rattle.topo_base.specs.declared.rows.NodeRow.{NodeRow}
use Rattle.topo_base.specs.declared.rows.LayerRow.{LayerRow}
use Rattle.topo_base.specs.declared.rows.FeatureRow.{FeatureRow}
use Rattle.topo_base.specs.declared.rows.RelationRow.{RelationRow}
use Rattle.drawing.specs.Drawing.{Edge}
use Rattle.drawing.specs.AddEdge.{Division}

pub data Change : Type 0 where
  -- a node without edges comes in a face, moves within its face, or goes
  NodeComes : (face : ℕ) (p : Point) → Change
  NodeMoves : (n : NodeRow) (p : Point) → Change
  NodeGoes : (n : NodeRow) → Change
  -- an edge comes between two nodes: it lies in a face that stays one, or it divides that face, with one id that is new or with two
  EdgeComes : (a b : NodeRow) (line : List Point) (face : ℕ) → Change
  FaceIsDivided : (a b : NodeRow) (line : List Point) (d : Division) → Change
  FaceIsDividedAnew : (a b : NodeRow) (line : List Point) (d : Division) → Change
  -- an edge goes: one that stands alone, one with one face on both sides, or one between two faces, which join under one of their ids or a new one
  LoneEdgeGoes : (e : Edge) → Change
  EdgeGoes : (e : Edge) → Change
  FacesJoin : (e : Edge) (kept goes : ℕ) → Change
  FacesJoinAnew : (e : Edge) → Change
  -- an edge is cut at a point: it becomes its first part, or both parts are new
  EdgeIsCut : (e : Edge) (p : Point) → Change
  EdgeIsCutAnew : (e : Edge) (p : Point) → Change
  -- two edges are joined at a node, which goes: the first is what they become, or that is new
  EdgesAreJoined : (e f : Edge) (n : ℕ) → Change
  EdgesAreJoinedAnew : (e f : Edge) (n : ℕ) → Change
  -- a layer comes, with its child and its level
  LayerComes : (name : List ℕ) (kind : Kind) (child : Option ℕ) (level : ℕ) → Change
  -- a feature comes, lists one element more, lists one no more, or goes
  FeatureComes : (layer : LayerRow) (xs : List Pair) → Change
  FeatureLists : (row : RelationRow) → Change
  FeatureUnlists : (row : RelationRow) → Change
  FeatureGoes : (t : FeatureRow) → Change
