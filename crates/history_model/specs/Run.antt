-- Edits that are tried one after another: what they are answered, and the history that they make.
use Rattle.std.specs.Prelude.{◌≡◌, ◌⊎◌, ℕ, max, Bool, true, false, ◌&&◌, IsTrue, List, [], ◌∷◌, ◌++◌, take, is_ok, if◌then◌else◌}
use Rattle.std.specs.List.{list_all}
use Rattle.topo_base.specs.declared.edit.Edit.{Edit}
use Rattle.topo_base.specs.declared.edit.Entry.{Entry}
use Rattle.topo_base.specs.declared.answer.Answer.{Answer}
use Rattle.topo_base.specs.declared.answer.Answer.TheVariants.{Done, Refused, Unbound, Stale, DiskFault, Memory}
use Rattle.drawing.specs.Drawing.{Drawing, nothing_drawn}
use Rattle.drawing.specs.Step.{step}
use Rattle.drawing.specs.Replay.{after, replay, answer_of, front_after}
use Rattle.drawing.specs.Accepted.{is_entry, keeps_limits}
use Rattle.history_model.specs.Answers.{Bounds, IsRight, entry_of}
use Rattle.drawing.specs.Plain.{IsPlain}

-- what a run may answer from a drawing and a front on: each answer is Step's at its place, or it is Memory and the last one; edits behind the last answer aren't tried
abbrev pub AreAnswersFrom : Drawing → ℕ → List Edit → List Answer → Type 0
AreAnswersFrom S front es [] = Unit {0}
AreAnswersFrom S front [] (answer ∷ given) = ⊥
AreAnswersFrom S front (e ∷ es) (answer ∷ given) =
    ((answer ≡ Memory) × (given ≡ [])) ⊎ ((answer ≡ answer_of front (step S e)) × AreAnswersFrom (after S e) (front_after front (step S e)) es given)

abbrev pub AreAnswers : List Edit → List Answer → Type 0
AreAnswers es given = AreAnswersFrom nothing_drawn 0 es given

-- the entries that an editor's answers make: one for each Done, in order
abbrev pub entries_of : ℕ → List Edit → List Answer → List Entry
entries_of editor [] given = []
entries_of editor (e ∷ es) [] = []
entries_of editor (e ∷ es) (answer ∷ given) = entry_of answer (record { editor = editor; edit = e }) ++ entries_of editor es given

-- the history that editor 1 makes
abbrev pub history_of : List Edit → List Answer → List Entry
history_of es given = entries_of 1 es given

-- the status of a run that answered all: 0 where each edit was done, and else 1
abbrev pub is_done : Answer → Bool
is_done (Done ids front) = true
is_done answer = false

abbrev pub status_of : List Answer → ℕ
status_of given = if list_all is_done given then 0 else 1

-- ---- what holds of every run
-- each entry is one that an editor may make, and is accepted where it stands
abbrev pub is_history : Drawing → List Entry → Bool
is_history S [] = true
is_history S (x ∷ xs) = is_entry x && is_ok (step S x.edit) && is_history (after S x.edit) xs

-- the greatest front that an editor has been answered so far
abbrev pub later_front : ℕ → Answer → ℕ
later_front seen (Done ids front) = max seen front
later_front seen (Refused rule front) = max seen front
later_front seen Unbound = seen
later_front seen (Stale x read now front) = max seen front
later_front seen DiskFault = seen
later_front seen Memory = seen

-- each answer is right on the history, after the greatest front of those before it; each edit is tried once
abbrev pub AreRight : Bounds → List Entry → ℕ → ℕ → List Edit → List Answer → Type 0
AreRight m history editor seen [] given = Unit {0}
AreRight m history editor seen (e ∷ es) [] = Unit {0}
AreRight m history editor seen (e ∷ es) (answer ∷ given) =
    IsRight m history editor seen 1 e answer × AreRight m history editor (later_front seen answer) es given

-- the accepted edits stand in a legal history, each once and in order, all answers are right on it, and after each entry the drawing is plain
pub record IsRightRun (es : List Edit) (given : List Answer) : Type 0 where
  pub legal : IsTrue (is_history nothing_drawn (history_of es given))
  pub right : (m : Bounds) → AreRight m (history_of es given) 1 0 es given
  pub plain : (n : ℕ) → IsPlain (replay (take n (history_of es given)))

-- so it is for all edits within the limits
abbrev pub RunsAreRight : Type 0
RunsAreRight = (es : List Edit) (given : List Answer) → IsTrue (list_all keeps_limits es) → AreAnswers es given → IsRightRun es given
