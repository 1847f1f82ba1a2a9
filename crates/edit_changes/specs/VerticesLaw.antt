-- Each edit keeps lines of two vertices or more.
use Rattle.std.specs.Prelude.{ℕ, IsTrue, List}
use Rattle.topo_base.specs.declared.edit.Edit.{Edit}
use Rattle.topo_base.specs.declared.edit.Entry.{Entry}
use Rattle.drawing.specs.Accepted.{is_accepted, keeps_limits}
use Rattle.drawing.specs.Drawing.{Drawing}
use Rattle.drawing.specs.Replay.{after, replay}
use Rattle.drawing.specs.Vertices.{have_segments}

pub record SegmentsStay : Type 0 where
  pub each_edit : (S : Drawing) (e : Edit) → IsTrue (keeps_limits e) → IsTrue (have_segments S.edges) → IsTrue (have_segments (after S e).edges)
  -- so every line of an accepted history has two vertices or more
  pub each_history : (max_id : ℕ) (history : List Entry) → IsTrue (is_accepted max_id history) → IsTrue (have_segments (replay history).edges)
