-- Tables of reads by which edits are decided, and stamps by which it is seen that what was read is as it was.
use Rattle.std.specs.Prelude.{◌≡◌, ℕ, ◌≤◌, IsTrue, IsOk, List, [], length, take}
use Rattle.std.specs.List.{Contains}
use Rattle.topo_base.specs.declared.edit.Entry.{Entry}
use Rattle.topo_base.specs.declared.edit.Edit.{Edit}
use Rattle.topo_base.specs.declared.element.Element.{Element}
use Rattle.drawing.specs.Drawing.{Drawing}
use Rattle.drawing.specs.Content.{content_of}
use Rattle.drawing.specs.Step.{step}
use Rattle.drawing.specs.Replay.{replay}
use Rattle.drawing.specs.Stamps.{stamp_now}
use Rattle.drawing.specs.Accepted.{is_accepted, keeps_limits}
use Rattle.edit_changes.specs.ChangeLaw.{IsDrawn}
use Rattle.history_model.specs.Reads.{ReadTable}

-- each of these elements has one content in both drawings, or is in neither
abbrev pub AgreeOn : List Element → Drawing → Drawing → Type 0
AgreeOn xs S T = (x : Element) → Contains xs x → content_of S x ≡ content_of T x

-- edits are decided by what they read: one within the limits that is accepted in the drawing of an accepted history is accepted in each other one that agrees with it on what the edit reads there
abbrev pub IsLocal : ReadTable → Type 0
IsLocal reads =
    (max_id : ℕ) (S T : Drawing) (e : Edit) → IsDrawn max_id S → IsDrawn max_id T → IsTrue (keeps_limits e) → IsOk (step S e) → AgreeOn (reads S e) S T → IsOk (step T e)

-- a table by which no edit reads anything
abbrev pub nothing_read : ReadTable
nothing_read S e = []

-- the element has one stamp after the first g entries and after all of them, or is there at neither place
abbrev pub HasSameStamp : List Entry → ℕ → Element → Type 0
HasSameStamp history g x = stamp_now (replay (take g history)) (take g history) x ≡ stamp_now (replay history) history x

-- then it has one content at both places
abbrev pub StampsTell : Type 0
StampsTell =
    (max_id : ℕ) (history : List Entry) (g : ℕ) (x : Element) → IsTrue (is_accepted max_id history) → g ≤ length history → HasSameStamp history g x
    → content_of (replay (take g history)) x ≡ content_of (replay history) x
