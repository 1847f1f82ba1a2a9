-- The rule of the lock's table, which holds between any two steps.
--
-- The table has three words and one slot. The ticket word counts the tickets that were drawn, the serving word is the ticket whose turn it is, both modulo 2^64;
-- the front word counts the entries that the history gained since the lock was made. The slot has the value while nobody has the turn.
use Rattle.std.specs.Prelude.{◌≡◌, ◌≢◌, ℕ, ◌+◌, ◌%◌, ◌^◌, ◌<◌, ◌≤◌, Bool, true, false, List, [], ◌∷◌, ◌++◌, length, Option as Maybe, Some}
use Rattle.std.specs.List.{AllByRecursion as Each}
use mathlib.Core.Option.{Option, none, some}
use lib.ListN.{get_elem?}
use Rattle.atomic_table.specs.Table.{State}
use Rattle.topo_base.specs.declared.edit.Entry.{Entry}
use Rattle.commit_lock.specs.declared.setting.Setting.{Setting}
use Rattle.commit_lock.specs.declared.view.Origin.{Origin}
use Rattle.commit_lock.specs.declared.view.Line.{Line}
use Rattle.commit_lock.specs.declared.view.View.{View}
use Rattle.commit_lock.specs.declared.view.Stage.{Stage}
use Rattle.commit_lock.specs.declared.view.Stage.TheVariants.{Idle, Waits, Holds}
use Rattle.commit_lock.specs.History.{IsPrefix, own_entries, IsEditor}

-- a number of each view, added up
abbrev pub total : (View → ℕ) → List View → ℕ
total f [] = 0
total f (v ∷ vs) = f v + total f vs

-- How far the lock is.
pub record Progress : Type 0 where
  -- how many tickets were drawn, and how many turns have ended, without an end
  pub drawn : ℕ
  pub served : ℕ
  -- the value's history, or while it is out the one of the seat that has the turn; and what it gained since the start
  pub list : List Entry
  pub gained : List Entry
  -- the value's count of faults, or while it is out the one with which it was taken
  pub count : ℕ
  -- whether the value is out of its slot
  pub is_out : Bool
  -- the seat that has a ticket, and the seat that has the line of a pass's number
  pub seat_of_ticket : ℕ → ℕ
  pub seat_of_number : ℕ → ℕ

abbrev pub stage_tickets : Stage → ℕ
stage_tickets Idle = 0
stage_tickets (Waits ticket) = 1
stage_tickets (Holds ticket) = 1

abbrev pub tickets : View → ℕ
tickets v = stage_tickets v.stage

abbrev pub line_count : View → ℕ
line_count v = length v.lines

-- A ticket that is waited with. It is from `served` up to and without `drawn` and in one seat, and while the value is out it isn't the served one.
pub record IsWaiting (now : Progress) (seat : ℕ) (v : View) (ticket : ℕ) : Type 0 where
  pub low : now.served ≤ ticket
  pub high : ticket < now.drawn
  pub own : now.seat_of_ticket ticket ≡ seat
  pub later : now.is_out ≡ true → ticket ≢ now.served
  pub line : 1 ≤ length v.lines

-- The ticket that has its turn. It is the served one and in one seat, which has the value, has seen the whole history, and has the count with which the value was taken.
pub record IsServed (now : Progress) (seat : ℕ) (v : View) (ticket : ℕ) : Type 0 where
  pub turn : ticket ≡ now.served
  pub high : ticket < now.drawn
  pub own : now.seat_of_ticket ticket ≡ seat
  pub out : now.is_out ≡ true
  pub line : 1 ≤ length v.lines
  pub count : v.count ≡ now.count
  pub whole : Each (λ line. line.seen ≡ now.list) v.lines

abbrev pub FitsStage : Progress → ℕ → View → Stage → Type 0
FitsStage now seat v Idle = Unit {0}
FitsStage now seat v (Waits ticket) = IsWaiting now seat v ticket
FitsStage now seat v (Holds ticket) = IsServed now seat v ticket

-- A line. Its number is one of the passes' and in one seat. Its own entries are all of that number that were gained, at their places. What it has seen begins the history.
pub record IsRightLine (begun : Origin) (seat_of_number : ℕ → ℕ) (gained list : List Entry) (seat : ℕ) (line : Line) : Type 0 where
  pub at : seat_of_number line.number ≡ seat
  pub first : 1 ≤ line.number
  pub last : line.number ≤ begun.passes
  pub own : line.own ≡ own_entries line.number (length begun.opening + 1) gained
  pub seen : IsPrefix line.seen list

-- A view. It knows how the lock began, so all have one setting; what it was told begins the history, and its count is no more than the value's.
pub record IsRightView (begun : Origin) (now : Progress) (seat : ℕ) (v : View) : Type 0 where
  pub from : v.live ≡ true → v.from ≡ begun
  pub stands : FitsStage now seat v v.stage
  pub told : IsPrefix v.told now.list
  pub count : v.count ≤ now.count
  pub lines : Each (IsRightLine begun now.seat_of_number now.gained now.list seat) v.lines

module _ {T : Type 0} (entries : T → List Entry) (faults : T → ℕ) (setting : T → Setting) where
  -- the value has this history and this count, and the setting with which the lock began
  pub record StandsFor (begun : Origin) (list : List Entry) (count : ℕ) (value : T) : Type 0 where
    pub same_list : entries value ≡ list
    pub same_count : faults value ≡ count
    pub same_setting : setting value ≡ begun.setting

  -- The slot. It has the value, or is empty while the value is out.
  abbrev pub FitsSlot : Origin → List Entry → ℕ → List (Option (Maybe T)) → Bool → Type 0
  FitsSlot begun list count slots false = (value : T) × (slots ≡ some (Some value) ∷ []) × StandsFor begun list count value
  FitsSlot begun list count slots true = slots ≡ none ∷ []

  pub record IsConsistent (begun : Origin) (state : State (Maybe T) View) : Type 0 where
    pub now : Progress
    pub words : state.words ≡ now.drawn % 2 ^ 64 ∷ now.served % 2 ^ 64 ∷ length now.gained ∷ []
    pub whole : now.list ≡ begun.opening ++ now.gained
    pub place : FitsSlot begun now.list now.count state.homes now.is_out
    -- the tickets that are out are those of the views, and there are at most 64 lines: so no two tickets that are out have the same word
    pub few : begun.passes ≤ 64
    pub turns : now.drawn ≡ now.served + total tickets state.views
    pub room : total line_count state.views ≤ begun.passes
    pub busy : now.is_out ≡ true → now.served < now.drawn
    pub editors : Each (IsEditor begun.passes) now.gained
    pub each : (seat : ℕ) (v : View) → get_elem? state.views seat ≡ some v → IsRightView begun now seat v
