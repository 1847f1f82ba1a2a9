-- What an editor may be answered, by the history on which the edit was tried.
use Rattle.std.specs.Prelude.{◌≡◌, ℕ, ◌+◌, ◌<◌, ◌≤◌, Bool, not, ◌==◌, List, [], ◌∷◌, ◌++◌, length, take, drop, count_by, find, Option, Some, Ok, Err, IsTrue, IsOk, slice_get}
use Rattle.topo_base.specs.declared.edit.Edit.{Edit}
use Rattle.topo_base.specs.declared.edit.Entry.{Entry}
use Rattle.topo_base.specs.declared.rule.Rule.{Rule}
use Rattle.topo_base.specs.declared.rule.Rule.TheVariants.{IdsSpent, HistoryFull}
use Rattle.topo_base.specs.declared.element.Element.{Element}
use Rattle.topo_base.specs.declared.answer.Answer.{Answer}
use Rattle.topo_base.specs.declared.answer.Answer.TheVariants.{Done, Refused, Unbound, Stale, DiskFault, Memory}
use Rattle.drawing.specs.Drawing.{Drawing}
use Rattle.drawing.specs.Outcome.{Outcome}
use Rattle.drawing.specs.Step.{step}
use Rattle.drawing.specs.Replay.{replay, after}
use Rattle.drawing.specs.Accepted.{ids_within}
use Rattle.history_model.specs.Legal.{journal_length}
use Rattle.drawing.specs.Stamps.{stamp_now}
use Rattle.history_model.specs.Reads.{ReadTable, reads}

-- how far a history may grow
pub record Bounds : Type 0 where
  pub max_id : ℕ
  pub max_journal : ℕ

-- the drawing after the first n entries
abbrev pub drawing_at : List Entry → ℕ → Drawing
drawing_at history n = replay (take n history)

-- the edit is accepted there with these ids, or refused by this rule
abbrev pub IsAcceptedWith : Outcome → List Element → Type 0
IsAcceptedWith (Ok done) ids = done.ids ≡ ids
IsAcceptedWith (Err rule) ids = ⊥

abbrev pub IsRefusedBy : Outcome → Rule → Type 0
IsRefusedBy (Ok done) rule = ⊥
IsRefusedBy (Err r) rule = r ≡ rule

-- the entry of this number
abbrev pub IsEntryAt : List Entry → ℕ → Entry → Type 0
IsEntryAt history place x = (n : ℕ) × ((place ≡ n + 1) × (slice_get history n ≡ Some x))

-- whether an element has another stamp now, and the first that was read and has
abbrev pub has_changed : List Entry → ℕ → ℕ → Element → Bool
has_changed history g f x = not (stamp_now (drawing_at history g) (take g history) x == stamp_now (drawing_at history f) (take f history) x)

abbrev pub first_changed : ReadTable → List Entry → ℕ → ℕ → Edit → Option Element
first_changed table history g f e = find (has_changed history g f) (table (drawing_at history g) e)

-- entries of other editors after a place
abbrev pub others_after : List Entry → ℕ → ℕ → ℕ → ℕ
others_after history k s f = count_by (λ (x : Entry). not (x.editor == k)) (drop s (take f history))

-- the answer to edit e of editor k is right on the history after place s, with so many tries
pub record IsRightDone (history : List Entry) (k s : ℕ) (e : Edit) (ids : List Element) (f : ℕ) : Type 0 where
  pub later : s < f
  pub stored : IsEntryAt history f (record { editor = k; edit = e })
  pub accepted : (n : ℕ) → f ≡ n + 1 → IsAcceptedWith (step (drawing_at history n) e) ids

-- a rule is there for an entry: it refuses the edit, or the edit is accepted and an id, or the journal, would be beyond its limit
pub data IsRuleThere (m : Bounds) (history : List Entry) (x : Entry) (rule : Rule) : Type 0 where
  by_step : IsRefusedBy (step (replay history) x.edit) rule → IsRuleThere m history x rule
  ids_spent : rule ≡ IdsSpent → IsOk (step (replay history) x.edit) → IsTrue (not (ids_within m.max_id (after (replay history) x.edit))) → IsRuleThere m history x rule
  history_full : rule ≡ HistoryFull → IsOk (step (replay history) x.edit) → IsTrue (ids_within m.max_id (after (replay history) x.edit))
      → (m.max_journal < journal_length (history ++ x ∷ [])) → IsRuleThere m history x rule

pub record IsRightRefusal (m : Bounds) (history : List Entry) (k s : ℕ) (e : Edit) (rule : Rule) (f : ℕ) : Type 0 where
  pub later : s ≤ f
  pub inside : f ≤ length history
  pub refused : IsRuleThere m (take f history) (record { editor = k; edit = e }) rule

pub record IsRightStale (table : ReadTable) (history : List Entry) (k s tries : ℕ) (e : Edit) (x : Element) (read now f : ℕ) : Type 0 where
  pub inside : f ≤ length history
  pub planned_at : ℕ
  pub later : s ≤ planned_at
  pub before : planned_at < f
  pub planned : IsOk (step (drawing_at history planned_at) e)
  pub changed : first_changed table history planned_at f e ≡ Some x
  pub read_is : read ≡ stamp_now (drawing_at history planned_at) (take planned_at history) x
  pub now_is : now ≡ stamp_now (drawing_at history f) (take f history) x
  pub by_others : tries ≤ others_after history k s f

-- by this table of reads
abbrev pub IsRightBy : ReadTable → Bounds → List Entry → ℕ → ℕ → ℕ → Edit → Answer → Type 0
IsRightBy table m history k s tries e (Done ids f) = IsRightDone history k s e ids f
IsRightBy table m history k s tries e (Refused rule f) = IsRightRefusal m history k s e rule f
IsRightBy table m history k s tries e (Stale x read now f) = IsRightStale table history k s tries e x read now f
IsRightBy table m history k s tries e Unbound = ⊥
IsRightBy table m history k s tries e DiskFault = Unit {0}
IsRightBy table m history k s tries e Memory = Unit {0}

abbrev pub IsRight : Bounds → List Entry → ℕ → ℕ → ℕ → Edit → Answer → Type 0
IsRight m history k s tries e answer = IsRightBy reads m history k s tries e answer

-- the entries that an answer makes: one for Done
abbrev pub entry_of : Answer → Entry → List Entry
entry_of (Done ids f) x = x ∷ []
entry_of answer x = []
