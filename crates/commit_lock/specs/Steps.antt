-- What each step on a word of the table tells the seat that makes it: its view and its slots before and after.
use Rattle.std.specs.Prelude.{◌≡◌, ◌≢◌, ℕ, ◌+◌, ◌-◌, ◌%◌, ◌^◌, ◌≤◌, List, [], ◌∷◌, ◌++◌, length, Option as Maybe, Some}
use Rattle.atomic_table.specs.Table.{Me, Step}
use Rattle.topo_base.specs.declared.edit.Entry.{Entry}
use Rattle.commit_lock.specs.declared.setting.Setting.{Setting}
use Rattle.commit_lock.specs.declared.view.View.{View}
use Rattle.commit_lock.specs.declared.view.Stage.{Stage}
use Rattle.commit_lock.specs.declared.view.Stage.TheVariants.{Idle, Waits, Holds}
use Rattle.commit_lock.specs.History.{IsPrefix, longer}
use Rattle.commit_lock.specs.Views.{view_of, line_of, one_line_view, first_line, learned_view}

abbrev SeatOf : Type 0 → Type 0
SeatOf T = Me (Maybe T) View

-- the ticket of a seat that has one
abbrev pub ticket_of : Stage → ℕ
ticket_of Idle = 0
ticket_of (Waits ticket) = ticket
ticket_of (Holds ticket) = ticket

-- a pass that has its turn, with the value's history and count
abbrev pub holding_view : View → ℕ → List Entry → ℕ → View
holding_view v ticket seen count = let line = first_line v.lines in one_line_view v.from (Holds ticket) (line_of line.number line.own seen) count v.faults

-- the same with one entry more, at its place
abbrev pub grown_view : View → Entry → View
grown_view v e = let line = first_line v.lines in one_line_view v.from v.stage (line_of line.number (line.own ++ (length line.seen + 1, e) ∷ []) (line.seen ++ e ∷ [])) v.count v.faults

-- the pass again, once its turn has ended with this count of faults
abbrev pub passed_view : View → ℕ → View
passed_view v count = view_of v.from Idle v.lines v.told count (v.faults + (count - v.count))

module _ {T : Type 0} where
  -- fetch_add on the ticket word: the seat waits with the ticket that the word told, modulo 2^64
  abbrev pub DrawsTicket : Step (Maybe T) → SeatOf T → ℕ → SeatOf T → Type 0
  DrawsTicket step me read me' = (ticket : ℕ) × (ticket % 2 ^ 64 ≡ read) × (me' ≡ (view_of me.0.from (Waits ticket) me.0.lines me.0.told me.0.count me.0.faults, me.1))

  -- a seat has its turn: it has the value, whose history begins with what it had seen, whose count is no less, and whose setting is its own
  pub record HasTurn (entries : T → List Entry) (faults : T → ℕ) (setting : T → Setting) (v : View) (ticket : ℕ) (me' : SeatOf T) : Type 0 where
    pub value : T
    pub me : me' ≡ (holding_view v ticket (entries value) (faults value), (0, Some value) ∷ [])
    pub longer_seen : IsPrefix (first_line v.lines).seen (entries value)
    pub more : v.count ≤ faults value
    pub same_setting : setting value ≡ v.from.setting

  -- load of the serving word: the seat has its turn where the word is its ticket modulo 2^64, and else waits on
  abbrev pub LoadsServing : (T → List Entry) → (T → ℕ) → (T → Setting) → Step (Maybe T) → SeatOf T → ℕ → SeatOf T → Type 0
  LoadsServing entries faults setting step me read me' = let ticket = ticket_of me.0.stage in (read ≡ ticket % 2 ^ 64 → HasTurn entries faults setting me.0 ticket me') × (read ≢ ticket % 2 ^ 64 → me' ≡ me)

  -- fetch_add on the front word: the value's new entry is the seat's own
  abbrev pub AddsEntry : (T → List Entry) → Step (Maybe T) → SeatOf T → ℕ → SeatOf T → Type 0
  AddsEntry entries step me read me' = (value : T) (e : Entry) → me.1 ≡ (0, Some value) ∷ [] → entries value ≡ (first_line me.0.lines).seen ++ e ∷ [] → me' ≡ (grown_view me.0 e, me.1)

  -- fetch_add on the serving word: the value goes back to its slot, and the turn is over
  abbrev pub EndsTurn : (T → ℕ) → Step (Maybe T) → SeatOf T → ℕ → SeatOf T → Type 0
  EndsTurn faults step me read me' = (value : T) → me.1 ≡ (0, Some value) ∷ [] → me' ≡ (passed_view me.0 (faults value), [])

  -- load of the front word: of what the seat had seen and what it was told, each begins the longer one, and that is what it has seen now
  abbrev pub SeesLonger : Step (Maybe T) → SeatOf T → ℕ → SeatOf T → Type 0
  SeesLonger step me read me' = (me' ≡ (learned_view me.0, me.1)) × IsPrefix (first_line me.0.lines).seen (longer (first_line me.0.lines).seen me.0.told) × IsPrefix me.0.told (longer (first_line me.0.lines).seen me.0.told)
