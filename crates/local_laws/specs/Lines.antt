-- The line of an added edge lies in one face.
use Rattle.std.specs.Prelude.{◌≡◌, ◌≤◌, ℕ, ◌==◌, ◌||◌, Bool, false, true, not, IsTrue, List, length, Some, Err, if◌then◌else◌}
use Rattle.std.specs.List.{Contains}
use Rattle.topo_base.specs.Point.{Point}
use Rattle.topo_base.specs.RationalPoint.{RationalPoint, IsAt}
use Rattle.topo_base.specs.declared.edit.Entry.{Entry}
use Rattle.topo_base.specs.declared.rows.NodeRow.{NodeRow}
use Rattle.topo_base.specs.declared.rule.Rule.TheVariants.{LineBlocked}
use Rattle.plane.specs.Line.{is_simple, first_vertex, last_vertex}
use Rattle.plane.specs.RationalTests.{IsOnLine}
use Rattle.drawing.specs.Accepted.{is_accepted}
use Rattle.drawing.specs.AddEdge.{face_at_start, face_at_end}
use Rattle.drawing.specs.Blocked.{is_line_blocked, goes_between}
use Rattle.drawing.specs.Decide.{edge_comes, edge_in_face}
use Rattle.drawing.specs.Drawing.{Drawing}
use Rattle.drawing.specs.Faced.{is_in}
use Rattle.drawing.specs.Replay.{replay}
use Rattle.edit_changes.specs.Evidence.{EdgeMayCome}
use Rattle.subdivision_laws.specs.Subdivided.{IsSubdivided}

-- a simple line from one node of the drawing to another, or to itself
pub record IsLineBetween (S : Drawing) (a b : NodeRow) (line : List Point) : Type 0 where
  pub start_there : Contains S.nodes a
  pub end_there : Contains S.nodes b
  pub long : 2 ≤ length line
  pub ends : goes_between a b line ≡ true
  pub simple : is_simple line ≡ true

pub record LinesLieInFaces : Type 0 where
  -- where such a line isn't blocked, the face is the same at both of its ends
  pub one_face : (S : Drawing) (a b : NodeRow) (line : List Point) → IsSubdivided S → IsLineBetween S a b line → is_line_blocked S line ≡ false → face_at_end S b line ≡ face_at_start S a line
  -- so an edge may come along it, and that the faces are the same needn't be asked
  pub may_come : (S : Drawing) (a b : NodeRow) (line : List Point) → IsSubdivided S → IsLineBetween S a b line → is_line_blocked S line ≡ false → EdgeMayCome S a b line (face_at_start S a line)
  -- the rule LineBlocked refuses no line by its faces alone
  pub only_blocked : (S : Drawing) (a b : NodeRow) (line : List Point) → IsSubdivided S → IsLineBetween S a b line
      → (is_line_blocked S line || not (face_at_end S b line == face_at_start S a line)) ≡ is_line_blocked S line
  -- so it doesn't in the drawing of any accepted history
  pub each_history : (max_id : ℕ) (history : List Entry) (a b : NodeRow) (line : List Point) → IsTrue (is_accepted max_id history) → IsLineBetween (replay history) a b line
      → (is_line_blocked (replay history) line || not (face_at_end (replay history) b line == face_at_start (replay history) a line)) ≡ is_line_blocked (replay history) line
  -- and Step decides without them
  pub decided : (both : Bool) (S : Drawing) (a b : NodeRow) (line : List Point) → IsSubdivided S → IsLineBetween S a b line
      → edge_comes both S (Some a) (Some b) line ≡ (if is_line_blocked S line then Err LineBlocked else edge_in_face both S a b line (face_at_start S a line))
  -- where an edge may come through a face, each point of its line but the ends is in that face
  pub in_face : (S : Drawing) (a b : NodeRow) (line : List Point) (face : ℕ) (q : RationalPoint) → IsSubdivided S → 2 ≤ length line → EdgeMayCome S a b line face
      → IsOnLine q line → (IsAt (first_vertex line) q → ⊥) → (IsAt (last_vertex line) q → ⊥) → IsTrue (is_in S face q)
