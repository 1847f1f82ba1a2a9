-- Nodes and segments of edges as pieces of the plane.
use Rattle.std.specs.Prelude.{◌≡◌, ◌≢◌, ℕ, ℤ, Bool, true, false, ◌≤ℤ◌, min, max, ⊤, IsTrue, List, [], ◌∷◌, ◌++◌, map, flat_map, Contains}
use Rattle.std.specs.Int.{int_min, int_max}
use Rattle.topo_base.specs.Point.{Point, same_point}
use Rattle.topo_base.specs.RationalPoint.{RationalPoint, rational}
use Rattle.topo_base.specs.declared.rows.NodeRow.{NodeRow}
use Rattle.topo_base.specs.declared.rows.EdgeRow.{EdgeRow}
use Rattle.plane.specs.Segment.{Segment}
use Rattle.plane.specs.Line.{segments_of, first_vertex, last_vertex}
use Rattle.plane.specs.LinePoints.{IsAtLineEnd}
use Rattle.plane.specs.RationalTests.{IsOn}
use Rattle.validate_topology.specs.OnlyIf.{only_if}
use Rattle.validate_topology.specs.declared.conflicts.Conflict.{Conflict}
use Rattle.validate_topology.specs.declared.conflicts.ConflictKind.{ConflictKind}
use Rattle.validate_topology.specs.declared.conflicts.ConflictKind.TheVariants.{Coincident, Inside, Crossing}
use Rattle.validate_topology.specs.declared.pairs.IdPair.{IdPair}
use Rattle.validate_topology.specs.declared.pieces.Ends.{Ends}
use Rattle.validate_topology.specs.declared.pieces.Owner.{Owner}
use Rattle.validate_topology.specs.declared.pieces.Owner.TheVariants.{Node, Edge}
use Rattle.validate_topology.specs.declared.pieces.Piece.{Piece}

-- the piece of a node, and those of an edge
abbrev pub node_piece : NodeRow → Piece
node_piece n = record { from = n.geom; to = n.geom; owner = Node n.node_id }

abbrev pub edge_piece : EdgeRow → Segment → Piece
edge_piece e s = record { from = s.a; to = s.b; owner = Edge e.edge_id (record { first = first_vertex e.geom; last = last_vertex e.geom }) }

abbrev pub edge_pieces : EdgeRow → List Piece
edge_pieces e = map (edge_piece e) (segments_of e.geom)

abbrev pub all_pieces : List NodeRow → List EdgeRow → List Piece
all_pieces nodes edges = map node_piece nodes ++ flat_map edge_pieces edges

-- from where to where it goes; how far to the right it begins and ends, and how far up
abbrev pub way_of : Piece → Segment
way_of p = record { a = p.from; b = p.to }

abbrev pub left_of : Piece → ℤ
left_of p = int_min p.from.x p.to.x

abbrev pub right_of : Piece → ℤ
right_of p = int_max p.from.x p.to.x

abbrev pub bottom_of : Piece → ℤ
bottom_of p = int_min p.from.y p.to.y

abbrev pub top_of : Piece → ℤ
top_of p = int_max p.from.y p.to.y

-- each begins no farther to the right than those behind it
abbrev pub AreInOrder : List Piece → Type 0
AreInOrder [] = ⊤
AreInOrder (p ∷ ps) = ((q : Piece) → Contains ps q → left_of p ≤ℤ left_of q) × AreInOrder ps

-- two ids, the smaller one first
abbrev pub pair_of : ℕ → ℕ → IdPair
pair_of a b = record { first = min a b; second = max a b }

-- an end of a line, as the line from its first vertex to its last has it
abbrev pub line_of : Ends → List Point
line_of ends = ends.first ∷ ends.last ∷ []

abbrev pub IsAtEnd : RationalPoint → Ends → Type 0
IsAtEnd q ends = IsAtLineEnd q (line_of ends)

-- p is on a segment of a line, and isn't an end of the line; or of two
abbrev pub IsInside : Point → Ends → Segment → Type 0
IsInside p ends s = IsOn (rational p) s × (IsAtEnd (rational p) ends → ⊥)

abbrev pub CrossAt : Point → Ends → Ends → Segment → Type 0
CrossAt p a b s = IsOn (rational p) s × (IsAtEnd (rational p) a × IsAtEnd (rational p) b → ⊥)

-- segments of two lines have a common point that isn't an end of both lines
abbrev pub Cross : Ends → Ends → Segment → Segment → Type 0
Cross a b s t = (q : RationalPoint) × (IsOn q s × IsOn q t × (IsAtEnd q a × IsAtEnd q b → ⊥))

-- the conflict of two owners with a piece each
abbrev pub IsConflict : Owner → Owner → Segment → Segment → Conflict → Type 0
IsConflict (Node a) (Node b) s t c = (a ≢ b) × IsTrue (same_point s.a t.a) × (c ≡ record { kind = Coincident; pair = pair_of a b })
IsConflict (Node a) (Edge b ends) s t c = IsInside s.a ends t × (c ≡ record { kind = Inside; pair = record { first = b; second = a } })
IsConflict (Edge a ends) (Node b) s t c = IsInside t.a ends s × (c ≡ record { kind = Inside; pair = record { first = a; second = b } })
IsConflict (Edge a ends) (Edge b others) s t c = (a ≢ b) × Cross ends others s t × (c ≡ record { kind = Crossing; pair = pair_of a b })

abbrev pub Conflicts : Piece → Piece → Conflict → Type 0
Conflicts one other c = IsConflict one.owner other.owner (way_of one) (way_of other) c

-- what is said of their conflict: there is none, or it is this one
abbrev pub IsTheConflict : Piece → Piece → Conflict → Type 0
IsTheConflict one other d = Conflicts one other d × ((c : Conflict) → Conflicts one other c → c ≡ d)

-- all of the first are among the second
abbrev pub AreAmong : List Conflict → List Conflict → Type 0
AreAmong some all = (c : Conflict) → Contains some c → Contains all c

-- the conflicts of a piece with these are among those found; those of each with the ones behind it
abbrev pub AreFoundOf : Piece → List Piece → List Conflict → Type 0
AreFoundOf one others found = (other : Piece) (c : Conflict) → Contains others other → Conflicts one other c → Contains found c

abbrev pub AreFound : List Piece → List Conflict → Type 0
AreFound [] found = ⊤
AreFound (one ∷ others) found = AreFoundOf one others found × AreFound others found

-- a conflict of the piece with one of these; of two of these
abbrev pub IsOfOne : Piece → List Piece → Conflict → Type 0
IsOfOne one others c = (other : Piece) × (Contains others other × Conflicts one other c)

abbrev pub IsOfTwo : List Piece → Conflict → Type 0
IsOfTwo pieces c = (one : Piece) × (Contains pieces one × IsOfOne one pieces c)

-- the pairs of the conflicts of one kind
abbrev pub same_kind : ConflictKind → ConflictKind → Bool
same_kind Coincident Coincident = true
same_kind Inside Inside = true
same_kind Crossing Crossing = true
same_kind k l = false

abbrev pub pairs_of_kind : ConflictKind → List Conflict → List IdPair
pairs_of_kind kind conflicts = flat_map (λ (c : Conflict). only_if (same_kind c.kind kind) c.pair) conflicts

-- the conflict of this kind and these ids is among these
abbrev pub IsAmong : List Conflict → ConflictKind → IdPair → Type 0
IsAmong conflicts kind p = Contains conflicts (record { kind = kind; pair = p })
