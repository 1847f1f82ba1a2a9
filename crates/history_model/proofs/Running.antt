-- A script that is run, one edit after another.
use Rattle.std.proofs.Common.{◌≡◌, ℕ, ◌+◌, ◌≤◌, max, List, [], ◌∷◌, ◌++◌, length, take, slice_get, IsTrue, Some, Ok, Err, is_ok, refl, sym, subst, ap, arith, inl, inr, append_assoc, length-append}
use Rattle.std.proofs.lemmas.Bool.{and_parts, and_from}
use Rattle.std.proofs.Math.Seq.{take-append_seam}
use Rattle.std.specs.List.{list_all}
use Rattle.topo_base.specs.declared.rule.Rule.{Rule}
use Rattle.topo_base.specs.declared.edit.Edit.{Edit}
use Rattle.topo_base.specs.declared.edit.Entry.{Entry}
use Rattle.topo_base.specs.declared.answer.Answer.{Answer}
use Rattle.topo_base.specs.declared.answer.Answer.TheVariants.{Done, Refused, Memory}
use Rattle.drawing.specs.Drawing.{Drawing, nothing_drawn}
use Rattle.drawing.specs.Outcome.{Accepted, Outcome}
use Rattle.drawing.specs.Step.{step}
use Rattle.drawing.specs.Replay.{replay, after, after_all, edits_of, drawing_of, answer_of, front_after}
use Rattle.drawing.specs.Accepted.{keeps_limits}
use Rattle.history_model.specs.Answers.{Bounds, IsRight, by_step, IsAcceptedWith, entry_of}
use Rattle.edit_changes.proofs.PlainStays.{plain_stays}
use Rattle.history_model.specs.Run.{AreAnswersFrom, entries_of, is_history, AreRight, RunsAreRight}

-- ---- the history is legal
legal_step : (S : Drawing) (front : ℕ) (e : Edit) (history : List Entry) (o : Outcome) → step S e ≡ o → IsTrue (keeps_limits e)
    → IsTrue (is_history (after S e) history) → IsTrue (is_history S (entry_of (answer_of front o) (record { editor = 1; edit = e }) ++ history))
legal_step S front e history (Ok done) is kept rest = and_from _ _ (and_from _ _ kept (ap is_ok is)) rest
legal_step S front e history (Err rule) is kept rest = subst (λ T. IsTrue (is_history T history)) (ap (drawing_of S) is) rest

pub legal_from : (S : Drawing) (front : ℕ) (es : List Edit) (given : List Answer) → IsTrue (list_all keeps_limits es) → AreAnswersFrom S front es given
    → IsTrue (is_history S (entries_of 1 es given))
legal_from S front [] given good h = refl
legal_from S front (e ∷ es) [] good h = refl
legal_from S front (e ∷ es) (answer ∷ given) good (inl last) = rw (last.0, last.1) (no_entries S es)
  where
    no_entries : (S : Drawing) (es : List Edit) → IsTrue (is_history S (entries_of 1 es []))
    no_entries S [] = refl
    no_entries S (e ∷ es) = refl
legal_from S front (e ∷ es) (answer ∷ given) good (inr on) =
    let parts = and_parts (keeps_limits e) (list_all keeps_limits es) good in
    rw (on.0) (legal_step S front e (entries_of 1 es given) (step S e) refl parts.0 (legal_from (after S e) (front_after front (step S e)) es given parts.1 on.1))

-- ---- the answers are right
-- the first entries are those that stood before, and the next one stands behind them
seam : (front rest : List Entry) → take (length front) (front ++ rest) ≡ front
seam front rest = take-append_seam front rest

at_seam : (front rest : List Entry) (x : Entry) → slice_get (front ++ x ∷ rest) (length front) ≡ Some x
at_seam [] rest x = refl
at_seam (y ∷ front) rest x = at_seam front rest x

-- the drawing with an entry more
pub edits_of-append : (S : Drawing) (front rest : List Entry) → after_all S (edits_of (front ++ rest)) ≡ after_all (after_all S (edits_of front)) (edits_of rest)
edits_of-append S [] rest = refl
edits_of-append S (x ∷ front) rest = edits_of-append (after S x.edit) front rest

done_right : (m : Bounds) (front rest : List Entry) (seen : ℕ) (e : Edit) (done : Accepted) → step (replay front) e ≡ Ok done → seen ≤ length front
    → IsRight m (front ++ record { editor = 1; edit = e } ∷ rest) 1 seen 1 e (Done done.ids (length front + 1))
done_right m front rest seen e done is saw = record {
  later = omega arith;
  stored = (length front, (refl, at_seam front rest (record { editor = 1; edit = e })));
  accepted = λ n eq.
      let same : n ≡ length front = omega arith in
      let there : IsAcceptedWith (step (replay (take (length front) (front ++ record { editor = 1; edit = e } ∷ rest))) e) done.ids = rw (seam front (record { editor = 1; edit = e } ∷ rest), is) refl in
      rw same there;
}

refused_right : (m : Bounds) (front rest : List Entry) (seen : ℕ) (e : Edit) (rule : Rule) → step (replay front) e ≡ Err rule → seen ≤ length front
    → IsRight m (front ++ rest) 1 seen 1 e (Refused rule (length front))
refused_right m front rest seen e rule is saw = record {
  later = saw;
  inside = omega (arith, length-append front rest);
  refused = rw (seam front rest) (by_step (rw is refl));
}

right_step : (m : Bounds) (front : List Entry) (seen : ℕ) (e : Edit) (es : List Edit) (given : List Answer) (o : Outcome) → step (replay front) e ≡ o → seen ≤ length front
    → AreAnswersFrom (after (replay front) e) (front_after (length front) o) es given
    → ((front' : List Entry) (seen' : ℕ) → seen' ≤ length front' → AreAnswersFrom (replay front') (length front') es given → AreRight m (front' ++ entries_of 1 es given) 1 seen' es given)
    → AreRight m (front ++ (entry_of (answer_of (length front) o) (record { editor = 1; edit = e }) ++ entries_of 1 es given)) 1 seen (e ∷ es) (answer_of (length front) o ∷ given)
right_step m front seen e es given (Ok done) is saw on rest =
    let x : Entry = record { editor = 1; edit = e } in
    let longer = front ++ x ∷ [] in
    let behind = entries_of 1 es given in
    let more : length longer ≡ length front + 1 = length-append front (x ∷ []) in
    let now : AreAnswersFrom (replay longer) (length longer) es given = rw (more, edits_of-append nothing_drawn front (x ∷ [])) on in
    let whole : longer ++ behind ≡ front ++ x ∷ behind = append_assoc front (x ∷ []) behind in
    (done_right m front behind seen e done is saw, subst (λ history. AreRight m history 1 (max seen (length front + 1)) es given) whole (rest longer (max seen (length front + 1)) (omega arith) now))
right_step m front seen e es given (Err rule) is saw on rest =
    let now : AreAnswersFrom (replay front) (length front) es given = subst (λ S. AreAnswersFrom S (length front) es given) (ap (drawing_of (replay front)) is) on in
    (refused_right m front (entries_of 1 es given) seen e rule is saw, rest front (max seen (length front)) (omega arith) now)

pub none_right : (m : Bounds) (history : List Entry) (seen : ℕ) (es : List Edit) → AreRight m history 1 seen es []
none_right m history seen [] = tt
none_right m history seen (e ∷ es) = tt

last_right : (m : Bounds) (history : List Entry) (seen : ℕ) (e : Edit) (es : List Edit) (answer : Answer) (given : List Answer) → answer ≡ Memory → given ≡ []
    → AreRight m history 1 seen (e ∷ es) (answer ∷ given)
last_right m history seen e es answer given is none = rw (is, none) (tt, none_right m history seen es)

pub right_from : (m : Bounds) (front : List Entry) (seen : ℕ) (es : List Edit) (given : List Answer) → seen ≤ length front → AreAnswersFrom (replay front) (length front) es given
    → AreRight m (front ++ entries_of 1 es given) 1 seen es given
right_from m front seen [] given saw h = tt
right_from m front seen (e ∷ es) [] saw h = tt
right_from m front seen (e ∷ es) (answer ∷ given) saw (inl last) = last_right m _ seen e es answer given last.0 last.1
right_from m front seen (e ∷ es) (answer ∷ given) saw (inr on) =
    let rest : (front' : List Entry) (seen' : ℕ) → seen' ≤ length front' → AreAnswersFrom (replay front') (length front') es given → AreRight m (front' ++ entries_of 1 es given) 1 seen' es given
    = λ front' seen' saw' h. right_from m front' seen' es given saw' h in
    subst (λ (a : Answer). AreRight m (front ++ entries_of 1 (e ∷ es) (a ∷ given)) 1 seen (e ∷ es) (a ∷ given)) (sym on.0)
    (right_step m front seen e es given (step (replay front) e) refl saw on.1 rest)

-- ---- and after each entry the drawing is plain
pub runs_right : RunsAreRight
runs_right es given good h = record {
  legal = legal_from nothing_drawn 0 es given good h;
  right = λ m. right_from m [] 0 es given (omega arith) h;
  plain = λ n. plain_stays.each_history (take n (entries_of 1 es given));
}

-- ---- the drawing of the history with one entry more
pub replay_step : (S : Drawing) (front : ℕ) (e : Edit) (history : List Entry) (o : Outcome) → step S e ≡ o
    → after_all S (edits_of (entry_of (answer_of front o) (record { editor = 1; edit = e }) ++ history)) ≡ after_all (after S e) (edits_of history)
replay_step S front e history (Ok done) is = refl
replay_step S front e history (Err rule) is = ap (λ T. after_all T (edits_of history)) (sym (ap (drawing_of S) is))
