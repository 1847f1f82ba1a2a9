-- The tests by which Step decides on points, segments and lines, and the sentences on rational points that they stand for.
use Rattle.std.specs.Prelude.{ℕ, ◌↔◌, ◌⊎◌, IsTrue, List, All}
use Rattle.topo_base.specs.Point.{Point}
use Rattle.topo_base.specs.RationalPoint.{RationalPoint, rational}
use Rattle.plane.specs.Segment.{Segment, on_segment, touches, overlaps, touches_at, meets_only_at}
use Rattle.plane.specs.Line.{segments_of, on_line, is_inside_line, is_simple, meets_at_own_ends}
use Rattle.drawing.specs.Drawing.{Drawing}
use Rattle.drawing.specs.Blocked.{is_blocked, is_blocked_for, is_line_blocked}
use Rattle.plane.specs.RationalTests.{IsOn, IsOnLine}
use Rattle.plane.specs.Relation.{IsProper, HaveOne, HaveMore, MeetAt, MeetOnlyAt}
use Rattle.plane.specs.SimpleLine.{IsSimpleLine}
use Rattle.drawing.specs.DrawnPoints.{IsAtEdge, IsAtNode, IsAtOther}
use Rattle.plane.specs.LinePoints.{IsInsideLine, MeetsAtOwnEnds}

pub record TestsAgree : Type 0 where
  -- a point lies on a segment; on a line; on a line, its ends left out
  pub point_on_segment : (p : Point) (s : Segment) → IsTrue (on_segment p s) ↔ IsOn (rational p) s
  pub point_on_line : (p : Point) (line : List Point) → IsTrue (on_line p line) ↔ IsOnLine (rational p) line
  pub point_inside_line : (p : Point) (line : List Point) → IsTrue (is_inside_line p line) ↔ IsInsideLine (rational p) line
  -- two segments have a common point; more than one; this one alone; none but these two
  pub segments_touch : (s t : Segment) → IsTrue (touches s t) ↔ HaveOne s t
  pub segments_overlap : (s t : Segment) → IsTrue (overlaps s t) ↔ HaveMore s t
  pub segments_touch_at : (p : Point) (s t : Segment) → IsTrue (touches_at p s t) ↔ MeetAt p s t
  pub segments_meet_only_at : (p r : Point) (s t : Segment) → IsTrue (meets_only_at p r s t) ↔ MeetOnlyAt p r s t
  -- neighbouring vertices differ, and a point on two segments is the vertex between them or closes the line
  pub line_simple : (line : List Point) → IsTrue (is_simple line) ↔ (All IsProper (segments_of line) × IsSimpleLine (segments_of line))
  pub lines_meet_at_ends : (line other : List Point) → IsTrue (meets_at_own_ends line other) ↔ MeetsAtOwnEnds line other
  -- a point is a node's or lies on an edge; the same, for a node's own move
  pub point_blocked : (S : Drawing) (p : Point) → IsTrue (is_blocked S p) ↔ (IsAtNode S (rational p) ⊎ IsAtEdge S (rational p))
  pub point_blocked_for : (S : Drawing) (own : ℕ) (p : Point) → IsTrue (is_blocked_for S own p) ↔ (IsAtOther S own (rational p) ⊎ IsAtEdge S (rational p))
  -- some point of the line, other than its first and last vertex, is a node's or lies on an edge
  pub line_blocked : (S : Drawing) (line : List Point)
      → IsTrue (is_line_blocked S line) ↔ ((q : RationalPoint) × (IsInsideLine q line × (IsAtNode S q ⊎ IsAtEdge S q)))
