-- Each edit keeps a drawing plain.
use Rattle.std.specs.Prelude.{List}
use Rattle.topo_base.specs.declared.edit.Edit.{Edit}
use Rattle.topo_base.specs.declared.edit.Entry.{Entry}
use Rattle.drawing.specs.Drawing.{Drawing}
use Rattle.drawing.specs.Plain.{IsPlain}
use Rattle.drawing.specs.Replay.{after, replay}
use Rattle.drawing.specs.PlainInOrder.{IsPlainInOrder}

pub record PlainStays : Type 0 where
  -- each edit keeps such a drawing such
  pub each_edit : (S : Drawing) (e : Edit) → IsPlainInOrder S → IsPlainInOrder (after S e)
  -- so the drawing of every history is plain, and it is after each entry of one
  pub each_history : (history : List Entry) → IsPlain (replay history)
