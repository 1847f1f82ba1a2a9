-- All tests together.
use Rattle.topo_model.specs.TestsLaw.{TestsAgree}
use Rattle.plane.proofs.PointTests.{Decides-on_segment}
use Rattle.plane.proofs.TouchTests.{Decides-touches}
use Rattle.plane.proofs.MeetTests.{Decides-overlaps, Decides-touches_at, Decides-meets_only_at}
use Rattle.plane.proofs.SimpleTests.{Decides-simple}
use Rattle.plane.proofs.LineTests.{Decides-on_line, Decides-inside_line, Decides-own_ends}
use Rattle.drawing.proofs.BlockedTests.{Decides-blocked, Decides-blocked_for, Decides-line_blocked}

pub tests_agree : TestsAgree
tests_agree = record {
  point_on_segment = Decides-on_segment;
  point_on_line = Decides-on_line;
  point_inside_line = Decides-inside_line;
  segments_touch = Decides-touches;
  segments_overlap = Decides-overlaps;
  segments_touch_at = Decides-touches_at;
  segments_meet_only_at = Decides-meets_only_at;
  line_simple = Decides-simple;
  lines_meet_at_ends = Decides-own_ends;
  point_blocked = Decides-blocked;
  point_blocked_for = Decides-blocked_for;
  line_blocked = Decides-line_blocked;
}
