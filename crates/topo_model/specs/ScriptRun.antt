-- A script that is run: what its lines are answered, the edits that they give, and the text that is due.
use Rattle.std.specs.Prelude.{◌≡◌, ◌⊎◌, ℕ, List, [], ◌∷◌, ◌++◌, Option, Some, None, IsTrue}
use Rattle.std.specs.List.{list_all}
use Rattle.topo_base.specs.ScriptLines.{ScriptLine}
use Rattle.topo_base.specs.declared.edit.Edit.{Edit}
use Rattle.topo_base.specs.declared.edit.Entry.{Entry}
use Rattle.topo_base.specs.declared.answer.Answer.{Answer}
use Rattle.topo_base.specs.declared.answer.Answer.TheVariants.{Unbound, Memory}
use Rattle.drawing.specs.Drawing.{Drawing, nothing_drawn}
use Rattle.drawing.specs.Step.{step}
use Rattle.drawing.specs.Replay.{after, replay, answer_of, front_after}
use Rattle.script_model.specs.Bindings.{Names, no_names, bound, ids_of, resolve}
use Rattle.script_model.specs.NamedRange.{is_script_line}
use Rattle.history_model.specs.Run.{history_of, IsRightRun}
use Rattle.script_model.specs.Texts.{replies_text, tables_text}

-- where a run stands: the drawing, the length of the history, and what each name is bound to
pub record Place : Type 0 where
  pub drawing : Drawing
  pub front : ℕ
  pub names : Names

abbrev pub beginning : Place
beginning = record { drawing = nothing_drawn; front = 0; names = no_names }

-- the edit that a line gives there, what it is answered, and the drawing and the history's length after it
abbrev pub edit_at : Place → ScriptLine → Option Edit
edit_at p l = resolve p.names l.edit

abbrev pub answer_to : Drawing → ℕ → Option Edit → Answer
answer_to S front None = Unbound
answer_to S front (Some e) = answer_of front (step S e)

abbrev pub drawing_with : Drawing → Option Edit → Drawing
drawing_with S None = S
drawing_with S (Some e) = after S e

abbrev pub front_with : Drawing → ℕ → Option Edit → ℕ
front_with S front None = front
front_with S front (Some e) = front_after front (step S e)

abbrev pub answer_at : Place → ScriptLine → Answer
answer_at p l = answer_to p.drawing p.front (edit_at p l)

-- where the run stands after a line, whose names are bound after its answer, and after some
abbrev pub place_after : Place → ScriptLine → Place
place_after p l = record {
  drawing = drawing_with p.drawing (edit_at p l);
  front = front_with p.drawing p.front (edit_at p l);
  names = bound p.names l.names (ids_of (answer_at p l));
}

abbrev pub place_after_all : Place → List ScriptLine → Place
place_after_all p [] = p
place_after_all p (l ∷ ls) = place_after_all (place_after p l) ls

-- what the lines are answered where each is tried, one after another
abbrev pub answers_at : Place → List ScriptLine → List Answer
answers_at p [] = []
answers_at p (l ∷ ls) = answer_at p l ∷ answers_at (place_after p l) ls

abbrev pub script_answers : List ScriptLine → List Answer
script_answers ls = answers_at beginning ls

-- what a run may answer: each answer is the one at its place, or it is Memory and the last one; lines behind the last answer aren't tried
abbrev pub AreLineAnswers : Place → List ScriptLine → List Answer → Type 0
AreLineAnswers p ls [] = Unit {0}
AreLineAnswers p [] (answer ∷ given) = ⊥
AreLineAnswers p (l ∷ ls) (answer ∷ given) =
    ((answer ≡ Memory) × (given ≡ [])) ⊎ ((answer ≡ answer_at p l) × AreLineAnswers (place_after p l) ls given)

abbrev pub AreScriptAnswers : List ScriptLine → List Answer → Type 0
AreScriptAnswers ls given = AreLineAnswers beginning ls given

-- the edits that the answered lines gave, without those of which a name wasn't bound, and the answers to these edits
abbrev pub onto_edits : Option Edit → List Edit → List Edit
onto_edits None es = es
onto_edits (Some e) es = e ∷ es

abbrev pub edits_given : Names → List ScriptLine → List Answer → List Edit
edits_given b [] given = []
edits_given b (l ∷ ls) [] = []
edits_given b (l ∷ ls) (answer ∷ given) = onto_edits (resolve b l.edit) (edits_given (bound b l.names (ids_of answer)) ls given)

abbrev pub onto_answers : Option Edit → Answer → List Answer → List Answer
onto_answers None answer given = given
onto_answers (Some e) answer given = answer ∷ given

abbrev pub answers_given : Names → List ScriptLine → List Answer → List Answer
answers_given b [] given = []
answers_given b (l ∷ ls) [] = []
answers_given b (l ∷ ls) (answer ∷ given) =
    onto_answers (resolve b l.edit) answer (answers_given (bound b l.names (ids_of answer)) ls given)

abbrev pub script_edits : List ScriptLine → List Answer → List Edit
script_edits ls given = edits_given no_names ls given

abbrev pub script_history : List ScriptLine → List Answer → List Entry
script_history ls given = history_of (script_edits ls given) (answers_given no_names ls given)

-- the text that is due: the line of each answer, and the tables of the history
abbrev pub due : List ScriptLine → List Answer → List ℕ
due ls given = replies_text given ++ tables_text (replay (script_history ls given))

-- the edits that were given are tried, accepted and answered as editor 1 alone may be
abbrev pub IsRightScript : List ScriptLine → List Answer → Type 0
IsRightScript ls given = IsRightRun (script_edits ls given) (answers_given no_names ls given)

-- so it is for every run of a script
abbrev pub ScriptsAreRight : Type 0
ScriptsAreRight = (ls : List ScriptLine) (given : List Answer) → IsTrue (list_all is_script_line ls) → AreScriptAnswers ls given → IsRightScript ls given
