-- What holds of every run: its history is legal, goes on with the answers Done, and each answer is right on it.
use Rattle.std.proofs.Common.{◌≡◌, ◌⊎◌, inl, inr, ℕ, zero, suc, ◌+◌, ◌<◌, ◌≤◌, max, Bool, true, false, cond, not, ◌&&◌, nat_le, nat_lt, List, [], ◌∷◌, ◌++◌, length, take, slice_get, IsTrue, Option, Some, None, Ok, Err, is_ok, refl, sym, ap, subst, ◌∙◌, arith, append_assoc, append-nil, length-append, ltb-true, ltb-false, le-leb}
use Rattle.std.proofs.lemmas.Bool.{and_parts, and_from}
use Rattle.std.proofs.Math.Seq.{take-append_seam}
use Rattle.std.specs.List.{list_all}
use Rattle.topo_base.specs.ScriptLines.{ScriptLine}
use Rattle.topo_base.specs.declared.rule.Rule.{Rule}
use Rattle.topo_base.specs.declared.rule.Rule.TheVariants.{IdsSpent, HistoryFull}
use Rattle.topo_base.specs.declared.edit.Edit.{Edit}
use Rattle.topo_base.specs.declared.edit.Entry.{Entry}
use Rattle.topo_base.specs.declared.answer.Answer.{Answer}
use Rattle.topo_base.specs.declared.answer.Answer.TheVariants.{Done, Refused, Unbound, Stale, DiskFault, Memory}
use Rattle.drawing.specs.Drawing.{Drawing, nothing_drawn}
use Rattle.drawing.specs.Outcome.{Accepted, Outcome}
use Rattle.drawing.specs.Step.{step}
use Rattle.drawing.specs.Replay.{replay, after, drawing_of}
use Rattle.history_model.specs.Legal.{is_legal, journal_length}
use Rattle.drawing.specs.Accepted.{is_entry, ids_within, keeps_limits}
use Rattle.history_model.specs.Answers.{Bounds, IsRight, IsRuleThere, by_step, ids_spent, history_full, IsAcceptedWith, entry_of}
use Rattle.script_model.specs.Bindings.{Names, no_names, bound, ids_of, resolve}
use Rattle.script_model.specs.NamedRange.{is_script_line}
use Rattle.history_model.specs.Run.{AreRight, entries_of, later_front, is_done}
use Rattle.topo_model.specs.ScriptRun.{onto_edits, edits_given, onto_answers, answers_given}
use Rattle.history_model.proofs.LegalHistories.{legal-push}
use Rattle.history_model.proofs.Running.{none_right}
use Rattle.topo_model.proofs.Resolving.{edit_limits, good_edit}
use Rattle.topo_model.proofs.ScriptRunning.{no_answers}
use Rattle.topo_desk.specs.Verdict.{verdict, verdict_of, IsTried, history_after}
use Rattle.topo.specs.Run.{Standing, opening, edit_at, entry, IsEditTried, IsLineTried, grown, standing_after, standing_behind, AreTried, IsRightRun}
use Rattle.topo.proofs.Ends.{behind_none}
use Rattle.topo.proofs.SoundHistories.{sound_history}

-- ---- one answer
-- the entries that an answer makes, and what it says of them whatever comes behind
pub record Answers (m : Bounds) (history : List Entry) (e : Edit) (answer : Answer) : Type 0 where
  pub legal : IsTrue (is_legal m.max_id m.max_journal (history_after history (entry e) answer))
  pub right : (seen : ℕ) (rest : List Entry) → seen ≤ length history → IsRight m (history_after history (entry e) answer ++ rest) 1 seen 1 e answer
  pub later : (seen : ℕ) → seen ≤ length history → later_front seen answer ≤ length (history_after history (entry e) answer)

stays : (m : Bounds) (history : List Entry) → IsTrue (is_legal m.max_id m.max_journal history) → IsTrue (is_legal m.max_id m.max_journal (history ++ []))
stays m history legal = subst (λ (h : List Entry). IsTrue (is_legal m.max_id m.max_journal h)) (sym (append-nil history)) legal

nothing_more : (history : List Entry) → length (history ++ []) ≡ length history
nothing_more history = ap length (append-nil history)

front_of : (history rest : List Entry) → take (length history) ((history ++ []) ++ rest) ≡ history
front_of history rest = ap (λ (h : List Entry). take (length history) (h ++ rest)) (append-nil history) ∙ take-append_seam history rest

refused_there : (m : Bounds) (history : List Entry) (e : Edit) (rule : Rule) → IsTrue (is_legal m.max_id m.max_journal history) → IsRuleThere m history (entry e) rule
    → Answers m history e (Refused rule (length history))
refused_there m history e rule legal there = record {
  legal = stays m history legal;
  right = λ seen rest saw. record {
    later = saw;
    inside = omega (arith, length-append (history ++ []) rest, nothing_more history);
    refused = subst (λ (h : List Entry). IsRuleThere m h (entry e) rule) (sym (front_of history rest)) there;
  };
  later = λ seen saw. omega (arith, nothing_more history);
}

at_seam : (front rest : List Entry) (x : Entry) → slice_get ((front ++ x ∷ []) ++ rest) (length front) ≡ Some x
at_seam [] rest x = refl
at_seam (y ∷ front) rest x = at_seam front rest x

done_there : (m : Bounds) (history : List Entry) (e : Edit) (done : Accepted) → IsTrue (is_legal m.max_id m.max_journal history) → IsTrue (keeps_limits e) → step (replay history) e ≡ Ok done
    → IsTrue (ids_within m.max_id done.drawing) → IsTrue (nat_le (journal_length (history ++ entry e ∷ [])) m.max_journal) → Answers m history e (Done done.ids (length history + 1))
done_there m history e done legal limits is within fits =
    let x = entry e in
    let ok : IsTrue (is_ok (step (replay history) e)) = ap is_ok is in
    let within' : IsTrue (ids_within m.max_id (after (replay history) e)) = ap (λ (o : Outcome). ids_within m.max_id (drawing_of (replay history) o)) is ∙ within in
    record {
      legal = legal-push m history x legal limits ok within' fits;
      right = λ seen rest saw. record {
        later = omega arith;
        stored = (length history, (refl, at_seam history rest x));
        accepted = λ n eq.
            let same : n ≡ length history = omega arith in
            let front : take (length history) ((history ++ x ∷ []) ++ rest) ≡ history = ap (take (length history)) (append_assoc history (x ∷ []) rest) ∙ take-append_seam history (x ∷ rest) in
            let there : IsAcceptedWith (step (replay (take (length history) ((history ++ x ∷ []) ++ rest))) e) done.ids = rw (front, is) refl in
            rw same there;
      };
      later = λ seen saw. omega (arith, length-append history (x ∷ []));
    }

verdict_there : (m : Bounds) (history : List Entry) (e : Edit) (o : Outcome) → IsTrue (is_legal m.max_id m.max_journal history) → IsTrue (keeps_limits e) → step (replay history) e ≡ o
    → Answers m history e (verdict_of m history (entry e) o)
verdict_there m history e (Err rule) legal limits is = refused_there m history e rule legal (by_step (rw is refl))
verdict_there m history e (Ok done) legal limits is =
    let x = entry e in
    let ok : IsTrue (is_ok (step (replay history) e)) = ap is_ok is in
    let same : after (replay history) e ≡ done.drawing = ap (drawing_of (replay history)) is in
    let long = journal_length (history ++ x ∷ []) in
    elim (ids_within m.max_id done.drawing) as (λ w. ids_within m.max_id done.drawing ≡ w → Answers m history e (cond (not w) (Refused IdsSpent (length history)) (cond (nat_lt m.max_journal long) (Refused HistoryFull (length history)) (Done done.ids (length history + 1))))) [
      | false ↦ λ w. refused_there m history e IdsSpent legal (ids_spent refl ok (rw (same, w) refl))
      | true ↦ λ w.
          elim (nat_lt m.max_journal long) as (λ f. nat_lt m.max_journal long ≡ f → Answers m history e (cond f (Refused HistoryFull (length history)) (Done done.ids (length history + 1)))) [
            | true ↦ λ f. refused_there m history e HistoryFull legal (history_full refl ok (rw same w) (ltb-true _ _ f))
            | false ↦ λ f. done_there m history e done legal limits is w (le-leb long m.max_journal (ltb-false _ _ f))
          ] refl
    ] refl

-- an answer that makes no entry and is always right
free_there : (m : Bounds) (history : List Entry) (e : Edit) (answer : Answer) → IsTrue (is_legal m.max_id m.max_journal history) → (answer ≡ DiskFault) ⊎ (answer ≡ Memory) → Answers m history e answer
free_there m history e answer legal (inl is) = subst (Answers m history e) (sym is) (record { legal = stays m history legal; right = λ seen rest saw. tt; later = λ seen saw. omega (arith, nothing_more history) })
free_there m history e answer legal (inr is) = subst (Answers m history e) (sym is) (record { legal = stays m history legal; right = λ seen rest saw. tt; later = λ seen saw. omega (arith, nothing_more history) })

tried_there : (m : Bounds) (history : List Entry) (e : Edit) (answer : Answer) → IsTrue (is_legal m.max_id m.max_journal history) → IsTrue (keeps_limits e) → IsTried m history (entry e) answer
    → Answers m history e answer
tried_there m history e answer legal limits (inl is) = subst (Answers m history e) (sym is) (verdict_there m history e (step (replay history) e) legal limits refl)
tried_there m history e answer legal limits (inr fault) = free_there m history e answer legal (inl fault.0)

-- ---- all answers of a run
pub record RightBehind (m : Bounds) (s : Standing) (ls : List ScriptLine) (given : List Answer) : Type 0 where
  pub entries : (standing_behind s ls given).history ≡ s.history ++ entries_of 1 (edits_given s.names ls given) (answers_given s.names ls given)
  pub legal : IsTrue (is_legal m.max_id m.max_journal (standing_behind s ls given).history)
  pub right : (seen : ℕ) → seen ≤ length s.history → AreRight m (standing_behind s ls given).history 1 seen (edits_given s.names ls given) (answers_given s.names ls given)

no_entries : (es : List Edit) → entries_of 1 es [] ≡ []
no_entries [] = refl
no_entries (e ∷ es) = refl

no_edits : (b : Names) (ls : List ScriptLine) → edits_given b ls [] ≡ []
no_edits b [] = refl
no_edits b (l ∷ ls) = refl

right_none : (m : Bounds) (s : Standing) (ls : List ScriptLine) → IsTrue (is_legal m.max_id m.max_journal s.history) → RightBehind m s ls []
right_none m s ls legal =
    let at = behind_none s ls in
    let es = no_edits s.names ls in
    let gs = no_answers s.names ls in
    record {
      entries = ap (λ (x : Standing). x.history) at ∙ sym (append-nil s.history) ∙ (λ i. s.history ++ entries_of 1 (sym es i) (sym gs i));
      legal = subst (λ (x : Standing). IsTrue (is_legal m.max_id m.max_journal x.history)) (sym at) legal;
      right = λ seen saw. rw (gs) (none_right m _ seen (edits_given s.names ls []));
    }

-- an edit's answer, and the right ones behind it
first_right : (m : Bounds) (s : Standing) (names : Names) (ls : List ScriptLine) (answer : Answer) (given : List Answer) (o : Option Edit) → IsTrue (is_legal m.max_id m.max_journal s.history)
    → ((e : Edit) → o ≡ Some e → Answers m s.history e answer)
    → (IsTrue (is_legal m.max_id m.max_journal (grown s.history o answer)) → RightBehind m (record { history = grown s.history o answer; names = names }) ls given)
    → let t : Standing = record { history = grown s.history o answer; names = names } in
    ((standing_behind t ls given).history ≡ s.history ++ entries_of 1 (onto_edits o (edits_given names ls given)) (onto_answers o answer (answers_given names ls given)))
    × IsTrue (is_legal m.max_id m.max_journal (standing_behind t ls given).history)
    × ((seen : ℕ) → seen ≤ length s.history → AreRight m (standing_behind t ls given).history 1 seen (onto_edits o (edits_given names ls given)) (onto_answers o answer (answers_given names ls given)))
first_right m s names ls answer given None legal one rest = let r = rest legal in (r.entries, r.legal, r.right)
first_right m s names ls answer given (Some e) legal one rest =
    let first = one e refl in
    let r = rest first.legal in
    let es = edits_given names ls given in
    let gs = answers_given names ls given in
    let t : Standing = record { history = history_after s.history (entry e) answer; names = names } in (
      r.entries ∙ append_assoc s.history (entry_of answer (entry e)) (entries_of 1 es gs),
      r.legal,
      λ seen saw. (
        subst (λ (h : List Entry). IsRight m h 1 seen 1 e answer) (sym r.entries) (first.right seen (entries_of 1 es gs) saw),
        r.right (later_front seen answer) (first.later seen saw),
      ),
    )

right_behind : (m : Bounds) (s : Standing) (ls : List ScriptLine) (given : List Answer) → IsTrue (is_legal m.max_id m.max_journal s.history) → IsTrue (list_all is_script_line ls)
    → AreTried m s ls given → RightBehind m s ls given
right_behind m s ls [] legal good h = right_none m s ls legal
right_behind m s [] (answer ∷ given) legal good h = absurd h
right_behind m s (l ∷ ls) (answer ∷ given) legal good (inl last) =
    let none : (t : Standing) → IsTrue (is_legal m.max_id m.max_journal t.history) → RightBehind m t ls given = λ t legal'. subst (RightBehind m t ls) (sym last.1) (right_none m t ls legal') in
    let r = first_right m s (bound s.names l.names (ids_of answer)) ls answer given (edit_at s l) legal (λ e is. free_there m s.history e answer legal (inr last.0)) (λ legal'. none (standing_after s l answer) legal') in
    record { entries = r.0; legal = r.1; right = r.2 }
right_behind m s (l ∷ ls) (answer ∷ given) legal good (inr on) =
    let parts = and_parts (is_script_line l) (list_all is_script_line ls) good in
    let tried : (o : Option Edit) → edit_at s l ≡ o → IsEditTried m s.history o answer → (e : Edit) → o ≡ Some e → Answers m s.history e answer = λ o at h e is.
    tried_there m s.history e answer legal (edit_limits s.names l.edit e (good_edit l parts.0) (at ∙ is)) (subst (λ (x : Option Edit). IsEditTried m s.history x answer) is h) in
    let r = first_right m s (bound s.names l.names (ids_of answer)) ls answer given (edit_at s l) legal (tried (edit_at s l) refl on.0)
    (λ legal'. right_behind m (standing_after s l answer) ls given legal' parts.1 on.1) in
    record { entries = r.0; legal = r.1; right = r.2 }

pub right_run : (m : Bounds) (read : List Entry) (ls : List ScriptLine) (given : List Answer) → IsTrue (is_legal m.max_id m.max_journal read) → IsTrue (list_all is_script_line ls)
    → AreTried m (opening read) ls given → IsRightRun m read (standing_behind (opening read) ls given).history ls given
right_run m read ls given legal good h =
    let r = right_behind m (opening read) ls given legal good h in
    record { entries = r.entries; sound = sound_history m (standing_behind (opening read) ls given).history r.legal; right = r.right (length read) (omega arith) }
