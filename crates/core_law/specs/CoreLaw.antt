-- What holds after any events of the core.
use Rattle.std.specs.Prelude.{◌≡◌, ◌≢◌, ◌⊎◌, ◌==◌, ℕ, ◌<◌, IsTrue, IsOk, List, [], ◌∷◌, ◌++◌, length, filter, Option, Some, None}
use Rattle.topo_base.specs.declared.edit.Edit.{Edit}
use Rattle.topo_base.specs.declared.edit.Entry.{Entry}
use Rattle.topo_base.specs.declared.rule.Rule.{Rule}
use Rattle.topo_base.specs.declared.rule.Rule.TheVariants.{IdsSpent, HistoryFull}
use Rattle.topo_base.specs.declared.answer.Answer.{Answer}
use Rattle.topo_base.specs.declared.answer.Answer.TheVariants.{Done, Refused, Stale}
use Rattle.drawing.specs.Step.{step}
use Rattle.drawing.specs.Replay.{replay}
use Rattle.history_model.specs.Legal.{is_legal}
use Rattle.history_model.specs.Reads.{ReadTable}
use Rattle.history_model.specs.Answers.{Bounds, IsRightBy}
use Rattle.core_law.specs.Reading.{IsLocal}
use Rattle.core_law.specs.Core.{Terms, State, Event, Look, Commit, Fault, Tell, entry_by, commit_answer, look_rule, after_commit, after_event, after_events, may_run, begun, gained, gained_of}

-- a look's refusal is right on the history after what its editor had seen
abbrev pub IsLookRight : Terms → State → ℕ → Edit → Option Rule → Type 0
IsLookRight t s k e None = Unit {0}
IsLookRight t s k e (Some rule) = IsRightBy t.reads t.bounds s.history k (s.seen k) 0 e (Refused rule (length s.history))

-- why a commit is answered so: what it read has another stamp now; or Step accepts the edit now, and a limit refuses it, or its entry stands behind all that its editor had seen
abbrev pub HasCause : List Entry → Edit → ℕ → Answer → Type 0
HasCause history e seen (Stale x read now f) = read ≢ now
HasCause history e seen (Refused rule f) = IsOk (step (replay history) e) × ((rule ≡ IdsSpent) ⊎ (rule ≡ HistoryFull))
HasCause history e seen (Done ids f) = IsOk (step (replay history) e) × (seen < f)
HasCause history e seen answer = ⊥

-- a commit's answer is right on the history that it leaves, after the one on which it was planned, and has its cause
pub record IsCommitRight (t : Terms) (s : State) (k : ℕ) (e : Edit) (g : ℕ) : Type 0 where
  pub right : IsRightBy t.reads t.bounds (after_commit t s k e g).history k g 0 e (commit_answer t s.history (entry_by k e) g)
  pub cause : HasCause s.history e (s.seen k) (commit_answer t s.history (entry_by k e) g)

abbrev pub IsEventRight : Terms → State → Event → Type 0
IsEventRight t s (Look k e) = IsLookRight t s k e (look_rule (step (replay s.history) e))
IsEventRight t s (Commit k e g) = IsCommitRight t s k e g
IsEventRight t s (Fault k e g) = Unit {0}
IsEventRight t s (Tell k j n) = Unit {0}

abbrev pub AreEventsRight : Terms → State → List Event → Type 0
AreEventsRight t s [] = Unit {0}
AreEventsRight t s (x ∷ xs) = IsEventRight t s x × AreEventsRight t (after_event t s x) xs

pub record RunsRight (t : Terms) (s : State) (xs : List Event) : Type 0 where
  pub legal : IsTrue (is_legal t.bounds.max_id t.bounds.max_journal (after_events t s xs).history)
  -- the commits that were done, in order, each once, and those of each editor in its order
  pub entries : (after_events t s xs).history ≡ s.history ++ gained t s xs
  pub own : (k : ℕ) → filter (λ (x : Entry). x.editor == k) (gained t s xs) ≡ gained_of t s k xs
  pub answers : AreEventsRight t s xs

-- so it is after all events that may happen, on every legal history
abbrev pub IsCoreRight : ReadTable → Type 0
IsCoreRight reads =
    (m : Bounds) (history : List Entry) (xs : List Event) → let t : Terms = record { reads = reads; bounds = m } in
    IsTrue (is_legal m.max_id m.max_journal history) → IsTrue (may_run t (begun history) xs) → RunsRight t (begun history) xs

-- for every table of reads by which edits are decided
abbrev pub CoreIsRight : Type 0
CoreIsRight = (reads : ReadTable) → IsLocal reads → IsCoreRight reads
