-- Pairs of rows that are in each other's way.
use Rattle.std.specs.Prelude.{◌≡◌, ◌<◌, IsTrue, List, Contains}
use Rattle.topo_base.specs.Point.{same_point}
use Rattle.topo_base.specs.RationalPoint.{rational}
use Rattle.topo_base.specs.declared.meeting.Meeting.TheVariants.{Inside as MeetInside}
use Rattle.topo_base.specs.declared.rows.NodeRow.{NodeRow}
use Rattle.topo_base.specs.declared.rows.EdgeRow.{EdgeRow}
use Rattle.plane.specs.LinePoints.{IsInsideLine, Meets}
use Rattle.validate_topology.specs.declared.conflicts.ConflictKind.{ConflictKind}
use Rattle.validate_topology.specs.declared.conflicts.ConflictKind.TheVariants.{Coincident, Inside, Crossing}
use Rattle.validate_topology.specs.declared.pairs.IdPair.{IdPair}

-- two listed nodes, the smaller id first, have one point
pub record AreCoincident (nodes : List NodeRow) (p : IdPair) : Type 0 where
  pub one : NodeRow
  pub other : NodeRow
  pub one_listed : Contains nodes one
  pub other_listed : Contains nodes other
  pub ids : p ≡ record { first = one.node_id; second = other.node_id }
  pub ordered : one.node_id < other.node_id
  pub same : IsTrue (same_point one.geom other.geom)

-- the point of a listed node is on the line of a listed edge, and is neither its first vertex nor its last
pub record IsNodeInside (nodes : List NodeRow) (edges : List EdgeRow) (p : IdPair) : Type 0 where
  pub edge : EdgeRow
  pub node : NodeRow
  pub edge_listed : Contains edges edge
  pub node_listed : Contains nodes node
  pub ids : p ≡ record { first = edge.edge_id; second = node.node_id }
  pub inside : IsInsideLine (rational node.geom) edge.geom

-- two listed edges, the smaller id first, have a common point that isn't a first or last vertex of both
pub record AreCrossing (edges : List EdgeRow) (p : IdPair) : Type 0 where
  pub one : EdgeRow
  pub other : EdgeRow
  pub one_listed : Contains edges one
  pub other_listed : Contains edges other
  pub ids : p ≡ record { first = one.edge_id; second = other.edge_id }
  pub ordered : one.edge_id < other.edge_id
  pub crossing : Meets MeetInside one.geom other.geom

-- a conflict of either kind
abbrev pub IsConflictOf : List NodeRow → List EdgeRow → ConflictKind → IdPair → Type 0
IsConflictOf nodes edges Coincident p = AreCoincident nodes p
IsConflictOf nodes edges Inside p = IsNodeInside nodes edges p
IsConflictOf nodes edges Crossing p = AreCrossing edges p
