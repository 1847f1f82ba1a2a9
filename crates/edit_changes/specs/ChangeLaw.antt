-- Step is the decision and then the change.
use Rattle.std.specs.Prelude.{◌≡◌, ℕ, Bool, IsTrue, List, Ok}
use Rattle.topo_base.specs.declared.edit.Edit.{Edit}
use Rattle.topo_base.specs.declared.edit.Entry.{Entry}
use Rattle.drawing.specs.Accepted.{is_accepted, keeps_limits}
use Rattle.drawing.specs.Apply.{apply}
use Rattle.drawing.specs.Change.{Change}
use Rattle.drawing.specs.Decide.{decide}
use Rattle.drawing.specs.Drawing.{Drawing, nothing_drawn}
use Rattle.drawing.specs.Replay.{replay}
use Rattle.edit_changes.specs.Evidence.{IsDecided, is_within}

-- S is the drawing of an accepted history
pub record IsDrawn (max_id : ℕ) (S : Drawing) : Type 0 where
  pub history : List Entry
  pub accepted : IsTrue (is_accepted max_id history)
  pub is : replay history ≡ S

pub record ChangesAreSteps : Type 0 where
  -- what was decided has the facts that laws need of it, and of an edit within the limits it is within them
  pub each_decision : (S : Drawing) (e : Edit) (c : Change) → decide S e ≡ Ok c → IsDecided S c
  pub each_within : (S : Drawing) (e : Edit) (c : Change) → IsTrue (keeps_limits e) → decide S e ≡ Ok c → IsTrue (is_within c)
  -- a test that nothing drawn passes, and that each decided change keeps, is passed by the drawing of every accepted history
  pub each_history : (max_id : ℕ) (test : Drawing → Bool) → IsTrue (test nothing_drawn)
      → ((S : Drawing) (c : Change) → IsDrawn max_id S → IsDecided S c → IsTrue (is_within c) → IsTrue (test S) → IsTrue (test ((apply S c).drawing)))
      → (history : List Entry) → IsTrue (is_accepted max_id history) → IsTrue (test (replay history))
