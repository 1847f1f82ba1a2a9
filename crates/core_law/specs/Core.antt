-- The core: editors that look and commit, one event after another, on one history.
use Rattle.std.specs.Prelude.{ℕ, ◌+◌, Bool, true, false, not, ◌&&◌, ◌==◌, nat_le, max, List, [], ◌∷◌, ◌++◌, length, take, Option, Some, None, Ok, Err, is_ok, if◌then◌else◌}
use Rattle.topo_base.specs.declared.edit.Edit.{Edit}
use Rattle.topo_base.specs.declared.edit.Entry.{Entry}
use Rattle.topo_base.specs.declared.rule.Rule.{Rule}
use Rattle.topo_base.specs.declared.rule.Rule.TheVariants.{NoNode, NoEdge, NoFace, NoLayer, NoFeature, IdsSpent, HistoryFull}
use Rattle.topo_base.specs.declared.element.Element.{Element}
use Rattle.topo_base.specs.declared.answer.Answer.{Answer}
use Rattle.topo_base.specs.declared.answer.Answer.TheVariants.{Done, Refused, Stale}
use Rattle.drawing.specs.Outcome.{Outcome}
use Rattle.drawing.specs.Step.{step}
use Rattle.drawing.specs.Replay.{after, replay}
use Rattle.drawing.specs.Accepted.{ids_within, is_entry}
use Rattle.drawing.specs.Stamps.{stamp_now}
use Rattle.history_model.specs.Legal.{journal_length}
use Rattle.history_model.specs.Reads.{ReadTable}
use Rattle.history_model.specs.Answers.{Bounds, drawing_at, first_changed, entry_of}

-- what an edit reads, and how far the history may grow
pub record Terms : Type 0 where
  pub reads : ReadTable
  pub bounds : Bounds

-- the history, and how much of it each editor has seen
pub record State : Type 0 where
  pub history : List Entry
  pub seen : ℕ → ℕ

-- an editor looks for an edit; commits a plan for it that was made at this front; fails to; or is told by another how much that had seen
pub data Event : Type 0 where
  Look : (editor : ℕ) (e : Edit) → Event
  Commit : (editor : ℕ) (e : Edit) (front : ℕ) → Event
  Fault : (editor : ℕ) (e : Edit) (front : ℕ) → Event
  Tell : (editor other seen : ℕ) → Event

abbrev pub entry_by : ℕ → Edit → Entry
entry_by k e = record { editor = k; edit = e }

-- ---- what a commit is answered
-- the ids that Step gives to what an edit makes
abbrev pub ids_of : Outcome → List Element
ids_of (Ok done) = done.ids
ids_of (Err rule) = []

-- where nothing that was read has changed: an id would be beyond the limit, or else the journal, or it is done
abbrev pub entered : Bounds → List Entry → Entry → Answer
entered m history x =
    if not (ids_within m.max_id (after (replay history) x.edit)) then Refused IdsSpent (length history)
    else (if not (nat_le (journal_length (history ++ x ∷ [])) m.max_journal) then Refused HistoryFull (length history)
    else Done (ids_of (step (replay history) x.edit)) (length history + 1))

-- the first that has changed is named, with its stamp at the plan's front and now
abbrev pub stale_or : List Entry → ℕ → Answer → Option Element → Answer
stale_or history g otherwise None = otherwise
stale_or history g otherwise (Some x) =
    Stale x (stamp_now (drawing_at history g) (take g history) x) (stamp_now (replay history) history x) (length history)

abbrev pub commit_answer : Terms → List Entry → Entry → ℕ → Answer
commit_answer t history x g = stale_or history g (entered t.bounds history x) (first_changed t.reads history g (length history) x.edit)

-- ---- what a look is answered
-- it is refused by these rules alone, and else gives an excerpt
abbrev pub is_rule_of_look : Rule → Bool
is_rule_of_look NoNode = true
is_rule_of_look NoEdge = true
is_rule_of_look NoFace = true
is_rule_of_look NoLayer = true
is_rule_of_look NoFeature = true
is_rule_of_look rule = false

abbrev pub look_rule : Outcome → Option Rule
look_rule (Ok done) = None
look_rule (Err rule) = if is_rule_of_look rule then Some rule else None

-- ---- events
-- an editor has now seen so much
abbrev pub see : (ℕ → ℕ) → ℕ → ℕ → ℕ → ℕ
see seen k n j = if j == k then n else seen j

abbrev pub has_seen_all : State → ℕ → State
has_seen_all s k = record s { seen = see s.seen k (length s.history) }

-- the entries that an event makes: one for a commit that is done
abbrev pub gained_by : Terms → State → Event → List Entry
gained_by t s (Look k e) = []
gained_by t s (Commit k e g) = entry_of (commit_answer t s.history (entry_by k e) g) (entry_by k e)
gained_by t s (Fault k e g) = []
gained_by t s (Tell k j n) = []

abbrev pub after_commit : Terms → State → ℕ → Edit → ℕ → State
after_commit t s k e g = has_seen_all (record s { history = s.history ++ gained_by t s (Commit k e g) }) k

abbrev pub after_event : Terms → State → Event → State
after_event t s (Look k e) = has_seen_all s k
after_event t s (Commit k e g) = after_commit t s k e g
after_event t s (Fault k e g) = has_seen_all s k
after_event t s (Tell k j n) = record s { seen = see s.seen k (max (s.seen k) n) }

-- an event may happen: a plan is of a history that its editor has seen, and Step accepted it there; a note is of one that the other has seen
abbrev pub may_commit : State → ℕ → Edit → ℕ → Bool
may_commit s k e g = is_entry (entry_by k e) && nat_le g (s.seen k) && is_ok (step (drawing_at s.history g) e)

abbrev pub may_happen : State → Event → Bool
may_happen s (Look k e) = is_entry (entry_by k e)
may_happen s (Commit k e g) = may_commit s k e g
may_happen s (Fault k e g) = may_commit s k e g
may_happen s (Tell k j n) = nat_le n (s.seen j)

-- ---- runs: events, one after another
abbrev pub may_run : Terms → State → List Event → Bool
may_run t s [] = true
may_run t s (x ∷ xs) = may_happen s x && may_run t (after_event t s x) xs

abbrev pub after_events : Terms → State → List Event → State
after_events t s [] = s
after_events t s (x ∷ xs) = after_events t (after_event t s x) xs

-- everybody has seen the history at the start
abbrev pub begun : List Entry → State
begun history = record { history = history; seen = λ k. length history }

-- the entries that a run makes, and of these those of an editor's own commits
abbrev pub gained : Terms → State → List Event → List Entry
gained t s [] = []
gained t s (x ∷ xs) = gained_by t s x ++ gained t (after_event t s x) xs

abbrev pub is_of : ℕ → Event → Bool
is_of j (Look k e) = k == j
is_of j (Commit k e g) = k == j
is_of j (Fault k e g) = k == j
is_of j (Tell k i n) = k == j

abbrev pub gained_of : Terms → State → ℕ → List Event → List Entry
gained_of t s j [] = []
gained_of t s j (x ∷ xs) = (if is_of j x then gained_by t s x else []) ++ gained_of t (after_event t s x) j xs
