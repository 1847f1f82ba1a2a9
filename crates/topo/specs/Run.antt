-- How a run of a script goes on, line after line, behind a history.
use Rattle.std.specs.Prelude.{◌≡◌, ◌⊎◌, ℕ, ◌+◌, ◌-◌, ◌^◌, ◌≤◌, min, Bool, true, false, IsTrue, List, [], ◌∷◌, ◌++◌, length, take, Option, Some, None, if◌then◌else◌}
use Rattle.std.specs.List.{list_all, list_any, sum_by}
use Rattle.topo_base.specs.ScriptLines.{ScriptLine}
use Rattle.topo_base.specs.declared.edit.Edit.{Edit}
use Rattle.topo_base.specs.declared.edit.Entry.{Entry}
use Rattle.topo_base.specs.declared.answer.Answer.{Answer}
use Rattle.topo_base.specs.declared.answer.Answer.TheVariants.{Unbound, DiskFault, Memory}
use Rattle.history_model.specs.Answers.{Bounds}
use Rattle.script_model.specs.Bindings.{Names, no_names, bound, ids_of, resolve}
use Rattle.history_model.specs.Legal.{is_legal}
use Rattle.drawing.specs.Replay.{after, replay}
use Rattle.history_model.specs.Run.{AreRight, is_done}
use Rattle.topo_model.specs.ScriptRun.{script_edits, script_history, answers_given}
use Rattle.drawing.specs.Subdivision.{IsSubdivision}
use Rattle.point_laws.specs.PointsStay.{KeepsPoints, leaves_points}
use Rattle.reference_laws.specs.Referenced.{IsReferenced}
use Rattle.topo_desk.specs.Verdict.{IsTried, history_after}

-- where a run stands: the history, and what each name is bound to
pub record Standing : Type 0 where
  pub history : List Entry
  pub names : Names

abbrev pub opening : List Entry → Standing
opening history = record { history = history; names = no_names }

-- the edit that a line gives there, and the entry that it may become
abbrev pub edit_at : Standing → ScriptLine → Option Edit
edit_at s l = resolve s.names l.edit

abbrev pub entry : Edit → Entry
entry e = record { editor = 1; edit = e }

-- what a line may be answered: Unbound where a name isn't bound, or what its edit is answered on the history
abbrev pub IsEditTried : Bounds → List Entry → Option Edit → Answer → Type 0
IsEditTried m history None answer = answer ≡ Unbound
IsEditTried m history (Some e) answer = IsTried m history (entry e) answer

abbrev pub IsLineTried : Bounds → Standing → ScriptLine → Answer → Type 0
IsLineTried m s l answer = IsEditTried m s.history (edit_at s l) answer

-- where the run stands behind the answer, after which the line's names are bound
abbrev pub grown : List Entry → Option Edit → Answer → List Entry
grown history None answer = history
grown history (Some e) answer = history_after history (entry e) answer

abbrev pub standing_after : Standing → ScriptLine → Answer → Standing
standing_after s l answer = record { history = grown s.history (edit_at s l) answer; names = bound s.names l.names (ids_of answer) }

-- each line has its answer, in order
abbrev pub AreAnswered : Bounds → Standing → List ScriptLine → List Answer → Type 0
AreAnswered m s [] [] = Unit {0}
AreAnswered m s [] (answer ∷ given) = ⊥
AreAnswered m s (l ∷ ls) [] = ⊥
AreAnswered m s (l ∷ ls) (answer ∷ given) = IsLineTried m s l answer × AreAnswered m (standing_after s l answer) ls given

abbrev pub standing_behind : Standing → List ScriptLine → List Answer → Standing
standing_behind s [] given = s
standing_behind s (l ∷ ls) [] = s
standing_behind s (l ∷ ls) (answer ∷ given) = standing_behind (standing_after s l answer) ls given

-- what a run may answer: lines from the first on, each so, or that it wanted memory and is the last one answered
abbrev pub AreTried : Bounds → Standing → List ScriptLine → List Answer → Type 0
AreTried m s ls [] = Unit {0}
AreTried m s [] (answer ∷ given) = ⊥
AreTried m s (l ∷ ls) (answer ∷ given) =
    ((answer ≡ Memory) × (given ≡ [])) ⊎ (IsLineTried m s l answer × AreTried m (standing_after s l answer) ls given)

-- ---- what holds of every run behind a history that was read
-- after each entry the drawing is a planar subdivision, in which all that a row names is listed; and an entry that moves no node, and doesn't change what a feature lists, leaves the points of each feature that is there before and after it
pub record IsSoundHistory (m : Bounds) (history : List Entry) : Type 0 where
  pub legal : IsTrue (is_legal m.max_id m.max_journal history)
  pub subdivision : (n : ℕ) → IsSubdivision (replay (take n history))
  pub referenced : (n : ℕ) → IsReferenced (replay (take n history))
  pub points : (front rest : List Entry) (x : Entry) → history ≡ front ++ x ∷ rest → IsTrue (leaves_points x.edit) → KeepsPoints (replay front) (after (replay front) x.edit)

-- the history goes on with an entry for each answer Done, in order; it is legal; each answer is right on it, after what was answered before
pub record IsRightRun (m : Bounds) (read history : List Entry) (ls : List ScriptLine) (given : List Answer) : Type 0 where
  pub entries : history ≡ read ++ script_history ls given
  pub sound : IsSoundHistory m history
  pub right : AreRight m history 1 (length read) (script_edits ls given) (answers_given no_names ls given)

-- ---- faults of the disk
abbrev pub is_disk_fault : Answer → Bool
is_disk_fault DiskFault = true
is_disk_fault answer = false

-- the count has risen at least so often, or stands at the end of its type
abbrev pub RoseBy : ℕ → ℕ → ℕ → Type 0
RoseBy n before now = min (before + n) (2 ^ 64 - 1) ≤ now

abbrev pub faults_of : Bool → ℕ
faults_of true = 1
faults_of false = 0

abbrev pub faults_in : List Answer → ℕ
faults_in given = sum_by (λ (answer : Answer). faults_of (is_disk_fault answer)) given

-- the status of a run that answered all: 7 where the disk failed in an edit, else 0 where each edit was done, and else 1
abbrev pub has_fault : List Answer → Bool
has_fault given = list_any is_disk_fault given

abbrev pub status_of : List Answer → ℕ
status_of given = if has_fault given then 7 else (if list_all is_done given then 0 else 1)
