-- A script that is run, one line after another.
use Rattle.std.proofs.Common.{◌≡◌, ℕ, zero, suc, ◌<◌, List, [], ◌∷◌, ◌++◌, length, take, Option, Some, None, refl, ap, ◌∙◌, arith, inl, inr}
use Rattle.topo_base.specs.ScriptLines.{ScriptLine}
use Rattle.topo_base.specs.declared.edit.Edit.{Edit}
use Rattle.topo_base.specs.declared.answer.Answer.{Answer}
use Rattle.topo_base.specs.declared.answer.Answer.TheVariants.{Memory}
use Rattle.drawing.specs.Drawing.{Drawing}
use Rattle.drawing.specs.Step.{step}
use Rattle.drawing.specs.Replay.{after_all, edits_of}
use Rattle.script_model.specs.Bindings.{Names, no_names, bound}
use Rattle.history_model.specs.Run.{AreAnswersFrom, entries_of}
use Rattle.topo_model.specs.ScriptRun.{Place, beginning, edit_at, answer_to, drawing_with, front_with, place_after, place_after_all, answers_at, AreLineAnswers, onto_edits, edits_given, onto_answers, answers_given, ScriptsAreRight}
use Rattle.topo_model.proofs.Resolving.{edits_limits}
use Rattle.history_model.proofs.Running.{runs_right, replay_step}

-- ---- the answers to the edits that were given
pub no_answers : (b : Names) (ls : List ScriptLine) → answers_given b ls [] ≡ []
no_answers b [] = refl
no_answers b (l ∷ ls) = refl

memory_last : (S : Drawing) (front : ℕ) (o : Option Edit) (es : List Edit) (given : List Answer) → given ≡ [] → AreAnswersFrom S front (onto_edits o es) (onto_answers o Memory given)
memory_last S front None es given none = rw none tt
memory_last S front (Some e) es given none = inl (refl, none)

answer_first : (S : Drawing) (front : ℕ) (o : Option Edit) (es : List Edit) (given : List Answer) → AreAnswersFrom (drawing_with S o) (front_with S front o) es given
    → AreAnswersFrom S front (onto_edits o es) (onto_answers o (answer_to S front o) given)
answer_first S front None es given h = h
answer_first S front (Some e) es given h = inr (refl, h)

pub given_answers : (p : Place) (ls : List ScriptLine) (given : List Answer) → AreLineAnswers p ls given → AreAnswersFrom p.drawing p.front (edits_given p.names ls given) (answers_given p.names ls given)
given_answers p [] [] h = tt
given_answers p [] (answer ∷ given) h = absurd h
given_answers p (l ∷ ls) [] h = tt
given_answers p (l ∷ ls) (answer ∷ given) (inl last) = rw (last.0, last.1) (memory_last p.drawing p.front (edit_at p l) _ _ (no_answers (bound p.names l.names []) ls))
given_answers p (l ∷ ls) (answer ∷ given) (inr on) = rw (on.0) (answer_first p.drawing p.front (edit_at p l) _ _ (given_answers (place_after p l) ls given on.1))

pub scripts_right : ScriptsAreRight
scripts_right ls given good h = runs_right (edits_given no_names ls given) (answers_given no_names ls given) (edits_limits no_names ls given good) (given_answers beginning ls given h)

-- ---- a script that is run in front, or up to a line that wants memory
pub front_answers : (p : Place) (ls : List ScriptLine) (n : ℕ) → AreLineAnswers p ls (answers_at p (take n ls))
front_answers p [] zero = tt
front_answers p [] (suc n) = tt
front_answers p (l ∷ ls) zero = tt
front_answers p (l ∷ ls) (suc n) = inr (refl, front_answers (place_after p l) ls n)

pub short_answers : (p : Place) (ls : List ScriptLine) (n : ℕ) → n < length ls → AreLineAnswers p ls (answers_at p (take n ls) ++ Memory ∷ [])
short_answers p [] n inside = absurd (omega arith)
short_answers p (l ∷ ls) zero inside = inl (refl, refl)
short_answers p (l ∷ ls) (suc n) inside = inr (refl, short_answers (place_after p l) ls n (omega arith))

-- ---- the history replays to the drawing after these lines
entries_step : (S : Drawing) (front : ℕ) (o : Option Edit) (es : List Edit) (given : List Answer)
    → after_all S (edits_of (entries_of 1 (onto_edits o es) (onto_answers o (answer_to S front o) given))) ≡ after_all (drawing_with S o) (edits_of (entries_of 1 es given))
entries_step S front None es given = refl
entries_step S front (Some e) es given = replay_step S front e (entries_of 1 es given) (step S e) refl

no_entries : (es : List Edit) (given : List Answer) → given ≡ [] → entries_of 1 es given ≡ []
no_entries [] given none = refl
no_entries (e ∷ es) given none = rw none refl

memory_entries : (o : Option Edit) (es : List Edit) (given : List Answer) → given ≡ [] → entries_of 1 (onto_edits o es) (onto_answers o Memory given) ≡ []
memory_entries None es given none = no_entries es given none
memory_entries (Some e) es given none = no_entries es given none

pub front_replayed : (p : Place) (ls : List ScriptLine) (n : ℕ)
    → after_all p.drawing (edits_of (entries_of 1 (edits_given p.names ls (answers_at p (take n ls))) (answers_given p.names ls (answers_at p (take n ls))))) ≡ (place_after_all p (take n ls)).drawing
front_replayed p [] zero = refl
front_replayed p [] (suc n) = refl
front_replayed p (l ∷ ls) zero = refl
front_replayed p (l ∷ ls) (suc n) = entries_step p.drawing p.front (edit_at p l) _ _ ∙ front_replayed (place_after p l) ls n

pub short_replayed : (p : Place) (ls : List ScriptLine) (n : ℕ) → n < length ls
    → after_all p.drawing (edits_of (entries_of 1 (edits_given p.names ls (answers_at p (take n ls) ++ Memory ∷ [])) (answers_given p.names ls (answers_at p (take n ls) ++ Memory ∷ [])))) ≡ (place_after_all p (take n ls)).drawing
short_replayed p [] n inside = absurd (omega arith)
short_replayed p (l ∷ ls) zero inside = ap (λ history. after_all p.drawing (edits_of history)) (memory_entries (edit_at p l) _ _ (no_answers (bound p.names l.names []) ls))
short_replayed p (l ∷ ls) (suc n) inside = entries_step p.drawing p.front (edit_at p l) _ _ ∙ short_replayed (place_after p l) ls n (omega arith)
