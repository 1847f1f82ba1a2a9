-- Where a rational point lies to the nodes, edges and faces of a drawing.
use Rattle.std.specs.Prelude.{ℕ, Bool, Contains, ◌≢◌}
use Rattle.topo_base.specs.RationalPoint.{RationalPoint, IsAt}
use Rattle.topo_base.specs.declared.rows.NodeRow.{NodeRow}
use Rattle.drawing.specs.Drawing.{Drawing, Edge}
use Rattle.drawing.specs.Faces.{border_of}
use Rattle.plane.specs.RationalTests.{IsOnLine, is_odd_over_at}

-- q lies on the edge; on no edge; at no node
abbrev pub IsOnEdge : RationalPoint → Edge → Type 0
IsOnEdge q e = IsOnLine q e.geom

abbrev pub IsOffEdges : Drawing → RationalPoint → Type 0
IsOffEdges S q = (e : Edge) → Contains S.edges e → IsOnEdge q e → ⊥

abbrev pub IsOffNodes : Drawing → RationalPoint → Type 0
IsOffNodes S q = (n : NodeRow) → Contains S.nodes n → IsAt n.geom q → ⊥

-- an odd number of the border's segments are straight above q
abbrev pub is_in_face_at : Drawing → ℕ → RationalPoint → Bool
is_in_face_at S f q = is_odd_over_at q (border_of S f)

-- q is the point of a node; it lies on an edge
abbrev pub IsAtNode : Drawing → RationalPoint → Type 0
IsAtNode S q = (n : NodeRow) × (Contains S.nodes n × IsAt n.geom q)

abbrev pub IsAtEdge : Drawing → RationalPoint → Type 0
IsAtEdge S q = (e : Edge) × (Contains S.edges e × IsOnEdge q e)

-- q is the point of a node other than this one
abbrev pub IsAtOther : Drawing → ℕ → RationalPoint → Type 0
IsAtOther S own q = (n : NodeRow) × (Contains S.nodes n × ((n.node_id ≢ own) × IsAt n.geom q))
