-- What a commit is answered.
use Rattle.std.proofs.Common.{◌≡◌, ◌≢◌, ◌⊎◌, inl, inr, ⊎_elim, ℕ, ◌+◌, ◌<◌, ◌≤◌, Bool, true, false, cond, not, nat_le, nat_lt, List, [], ◌∷◌, ◌++◌, length, take, slice_get, IsTrue, IsOk, Option, Some, None, Ok, Err, find, refl, sym, subst, arith, append-nil, eq-eqb, eqb-true, leb-false, ltb-true, ltb-false}
use Rattle.std.specs.List.{Contains}
use Rattle.std.proofs.lemmas.Bool.{and_parts}
use Rattle.std.proofs.Math.Seq.{take-append_seam, take-length}
use Rattle.topo_base.specs.declared.edit.Edit.{Edit}
use Rattle.topo_base.specs.declared.edit.Entry.{Entry}
use Rattle.topo_base.specs.declared.rule.Rule.{Rule}
use Rattle.topo_base.specs.declared.rule.Rule.TheVariants.{IdsSpent, HistoryFull}
use Rattle.topo_base.specs.declared.element.Element.{Element}
use Rattle.topo_base.specs.declared.answer.Answer.{Answer}
use Rattle.topo_base.specs.declared.answer.Answer.TheVariants.{Done, Refused, Stale}
use Rattle.plane.proofs.ListTests.{contains_cases, contains_none}
use Rattle.drawing.specs.Drawing.{nothing_drawn}
use Rattle.drawing.specs.Outcome.{Outcome}
use Rattle.drawing.specs.Step.{step}
use Rattle.drawing.specs.Replay.{replay, after}
use Rattle.drawing.specs.Accepted.{are_accepted, is_editor, is_entry, ids_within, keeps_limits}
use Rattle.drawing.specs.Stamps.{stamp_now}
use Rattle.drawing.proofs.Members.{contains-found}
use Rattle.edit_changes.specs.ChangeLaw.{IsDrawn}
use Rattle.history_model.specs.Legal.{is_legal, journal_length}
use Rattle.history_model.specs.Answers.{IsRightBy, drawing_at, first_changed, has_changed, IsRuleThere, ids_spent, history_full, IsAcceptedWith, entry_of}
use Rattle.history_model.proofs.LegalHistories.{legal-push}
use Rattle.core_law.specs.Reading.{HasSameStamp, IsLocal}
use Rattle.core_law.specs.Core.{Terms, entry_by, ids_of, entered, stale_or, commit_answer}
use Rattle.core_law.specs.CoreLaw.{HasCause}
use Rattle.core_law.proofs.Stamps.{accepted_front, stamps_tell}

-- ---- where nothing that was read has changed, Step accepts the edit now
none_found : (p : Element → Bool) (xs : List Element) → find p xs ≡ None → (x : Element) → Contains xs x → p x ≡ false
none_found p [] h x c = absurd (contains_none x c)
none_found p (y ∷ ys) h x c = by (p y) refl h (none_found p ys)
  where
    by : (b : Bool) → p y ≡ b → cond b (Some y) (find p ys) ≡ None → (find p ys ≡ None → (z : Element) → Contains ys z → p z ≡ false) → p x ≡ false
    by true e q rest = absurd cc
    by false e q rest = ⊎_elim (λ (same : y ≡ x). subst (λ z. p z ≡ false) same e) (λ (d : Contains ys x). rest q x d) (contains_cases x y ys c)

same_stamp : (history : List Entry) (g : ℕ) (x : Element) → has_changed history g (length history) x ≡ false → HasSameStamp history g x
same_stamp history g x h = subst (λ es. stamp_now (replay (take g history)) (take g history) x ≡ stamp_now (replay es) es x) (take-length history) (eqb-true _ _ (both _ h))
  where
    both : (b : Bool) → not b ≡ false → b ≡ true
    both true e = refl
    both false e = cc

accepted_now : (t : Terms) → IsLocal t.reads → (history : List Entry) (k g : ℕ) (e : Edit) → IsTrue (is_legal t.bounds.max_id t.bounds.max_journal history) → g ≤ length history
    → IsTrue (is_entry (entry_by k e)) → IsOk (step (drawing_at history g) e) → first_changed t.reads history g (length history) e ≡ None → IsOk (step (replay history) e)
accepted_now t local history k g e legal before entry planned none =
    let max_id = t.bounds.max_id in
    let accepted = (and_parts (are_accepted max_id nothing_drawn history) (nat_le (journal_length history) t.bounds.max_journal) legal).0 in
    let limits = (and_parts (is_editor k) (keeps_limits e) entry).1 in
    let then : IsDrawn max_id (drawing_at history g) = record { history = take g history; accepted = accepted_front max_id nothing_drawn g history accepted; is = refl } in
    let now : IsDrawn max_id (replay history) = record { history = history; accepted = accepted; is = refl } in
    local max_id (drawing_at history g) (replay history) e then now limits planned
    (λ x c. stamps_tell max_id history g x accepted before (same_stamp history g x (none_found (has_changed history g (length history)) (t.reads (drawing_at history g) e) none x c)))

-- ---- an answer and the history that it leaves
pub record Settles (t : Terms) (history : List Entry) (k g seen : ℕ) (e : Edit) (answer : Answer) : Type 0 where
  pub legal : IsTrue (is_legal t.bounds.max_id t.bounds.max_journal (history ++ entry_of answer (entry_by k e)))
  pub right : IsRightBy t.reads t.bounds (history ++ entry_of answer (entry_by k e)) k g 0 e answer
  pub cause : HasCause history e seen answer

-- the first entries are those that stood before, and the next one stands behind them
seam : (history : List Entry) (x : Entry) → take (length history) (history ++ x ∷ []) ≡ history
seam history x = take-append_seam history (x ∷ [])

at_seam : (history : List Entry) (x : Entry) → slice_get (history ++ x ∷ []) (length history) ≡ Some x
at_seam [] x = refl
at_seam (y ∷ ys) x = at_seam ys x

-- a history without an entry more
same_history : (t : Terms) (history : List Entry) (k g : ℕ) (e : Edit) (answer : Answer) → IsTrue (is_legal t.bounds.max_id t.bounds.max_journal history) → IsRightBy t.reads t.bounds history k g 0 e answer
    → IsTrue (is_legal t.bounds.max_id t.bounds.max_journal (history ++ [])) × IsRightBy t.reads t.bounds (history ++ []) k g 0 e answer
same_history t history k g e answer legal right =
    subst (λ (h : List Entry). IsTrue (is_legal t.bounds.max_id t.bounds.max_journal h) × IsRightBy t.reads t.bounds h k g 0 e answer) (sym (append-nil history)) (legal, right)

pub refused_now : (t : Terms) (history : List Entry) (k s : ℕ) (e : Edit) (rule : Rule) → s ≤ length history → IsRuleThere t.bounds history (entry_by k e) rule
    → IsRightBy t.reads t.bounds history k s 0 e (Refused rule (length history))
refused_now t history k s e rule before there = record { later = before; inside = omega arith; refused = rw (take-length history) there }

limited_now : (t : Terms) (history : List Entry) (k g seen : ℕ) (e : Edit) (rule : Rule) → IsTrue (is_legal t.bounds.max_id t.bounds.max_journal history) → g ≤ length history
    → IsOk (step (replay history) e) → (rule ≡ IdsSpent) ⊎ (rule ≡ HistoryFull) → IsRuleThere t.bounds history (entry_by k e) rule → Settles t history k g seen e (Refused rule (length history))
limited_now t history k g seen e rule legal before ok limit there =
    let both = same_history t history k g e (Refused rule (length history)) legal (refused_now t history k g e rule before there) in
    record { legal = both.0; right = both.1; cause = (ok, limit) }

done_now : (t : Terms) (history : List Entry) (k g seen : ℕ) (e : Edit) → IsTrue (is_legal t.bounds.max_id t.bounds.max_journal history) → g ≤ length history → seen ≤ length history
    → IsTrue (is_entry (entry_by k e)) → IsOk (step (replay history) e) → IsTrue (ids_within t.bounds.max_id (after (replay history) e))
    → IsTrue (nat_le (journal_length (history ++ entry_by k e ∷ [])) t.bounds.max_journal) → Settles t history k g seen e (Done (ids_of (step (replay history) e)) (length history + 1))
done_now t history k g seen e legal before saw entry ok within fits =
    let x = entry_by k e in
    record {
      legal = legal-push t.bounds history x legal entry ok within fits;
      right = record {
        later = omega arith;
        stored = (length history, (refl, at_seam history x));
        accepted = λ n eq.
            let same : n ≡ length history = omega arith in
            let there : IsAcceptedWith (step (replay (take (length history) (history ++ x ∷ []))) e) (ids_of (step (replay history) e)) = rw (seam history x) (with_ids (step (replay history) e) ok) in
            rw same there;
      };
      cause = (ok, omega arith);
    }
  where
    with_ids : (o : Outcome) → IsOk o → IsAcceptedWith o (ids_of o)
    with_ids (Ok done) h = refl
    with_ids (Err rule) h = absurd cc

entered_now : (t : Terms) (history : List Entry) (k g seen : ℕ) (e : Edit) → IsTrue (is_legal t.bounds.max_id t.bounds.max_journal history) → g ≤ length history → seen ≤ length history
    → IsTrue (is_entry (entry_by k e)) → IsOk (step (replay history) e) → Settles t history k g seen e (entered t.bounds history (entry_by k e))
entered_now t history k g seen e legal before saw entry ok = by (ids_within t.bounds.max_id (after (replay history) e)) (nat_le (journal_length (history ++ entry_by k e ∷ [])) t.bounds.max_journal) refl refl
  where
    by : (w f : Bool) → ids_within t.bounds.max_id (after (replay history) e) ≡ w → nat_le (journal_length (history ++ entry_by k e ∷ [])) t.bounds.max_journal ≡ f
        → Settles t history k g seen e (cond (not w) (Refused IdsSpent (length history)) (cond (not f) (Refused HistoryFull (length history)) (Done (ids_of (step (replay history) e)) (length history + 1))))
    by false f p q = limited_now t history k g seen e IdsSpent legal before ok (inl refl) (ids_spent refl ok (rw p refl))
    by true false p q = limited_now t history k g seen e HistoryFull legal before ok (inr refl) (history_full refl ok p (leb-false _ _ q))
    by true true p q = done_now t history k g seen e legal before saw entry ok p q

-- ---- a stale plan
-- a stamp that has changed since is that of an earlier plan
earlier : (history : List Entry) (g : ℕ) (x : Element) → g ≤ length history → has_changed history g (length history) x ≡ true → g < length history
earlier history g x before h = by (nat_lt g (length history)) refl
  where
    never : (b : Bool) → b ≡ true → not b ≡ true → ⊥
    never true p q = cc
    never false p q = cc

    by : (b : Bool) → nat_lt g (length history) ≡ b → g < length history
    by true p = ltb-true _ _ p
    by false p =
        let late : length history ≤ g = ltb-false _ _ p in
        let same : g ≡ length history = omega arith in
        absurd (never _ (eq-eqb (stamp_now (drawing_at history g) (take g history) x) (stamp_now (drawing_at history g) (take g history) x) refl) (subst (λ n. has_changed history g n x ≡ true) (sym same) h))

differ : (history : List Entry) (g : ℕ) (x : Element) → has_changed history g (length history) x ≡ true
    → stamp_now (drawing_at history g) (take g history) x ≢ stamp_now (replay history) history x
differ history g x h same =
    never _ (eq-eqb _ _ (subst (λ es. stamp_now (drawing_at history g) (take g history) x ≡ stamp_now (replay es) es x) (sym (take-length history)) same)) h
  where
    never : (b : Bool) → b ≡ true → not b ≡ true → ⊥
    never true p q = cc
    never false p q = cc

stale_now : (t : Terms) (history : List Entry) (k g seen : ℕ) (e : Edit) (x : Element) → IsTrue (is_legal t.bounds.max_id t.bounds.max_journal history) → g ≤ length history
    → IsOk (step (drawing_at history g) e) → first_changed t.reads history g (length history) e ≡ Some x
    → Settles t history k g seen e (Stale x (stamp_now (drawing_at history g) (take g history) x) (stamp_now (replay history) history x) (length history))
stale_now t history k g seen e x legal before planned is =
    let changed = (contains-found (has_changed history g (length history)) x (t.reads (drawing_at history g) e) is).1 in
    let both = same_history t history k g e (Stale x (stamp_now (drawing_at history g) (take g history) x) (stamp_now (replay history) history x) (length history)) legal (record {
      inside = omega arith;
      planned_at = g;
      later = omega arith;
      before = earlier history g x before changed;
      planned = planned;
      changed = is;
      read_is = refl;
      now_is = rw (take-length history) refl;
      by_others = omega arith;
    }) in
    record { legal = both.0; right = both.1; cause = differ history g x changed }

-- ---- each commit
pub commits : (t : Terms) → IsLocal t.reads → (history : List Entry) (k g seen : ℕ) (e : Edit) → IsTrue (is_legal t.bounds.max_id t.bounds.max_journal history) → g ≤ length history → seen ≤ length history
    → IsTrue (is_entry (entry_by k e)) → IsOk (step (drawing_at history g) e) → Settles t history k g seen e (commit_answer t history (entry_by k e) g)
commits t local history k g seen e legal before saw entry planned = by (first_changed t.reads history g (length history) e) refl
  where
    by : (o : Option Element) → first_changed t.reads history g (length history) e ≡ o → Settles t history k g seen e (stale_or history g (entered t.bounds history (entry_by k e)) o)
    by None is = entered_now t history k g seen e legal before saw entry (accepted_now t local history k g e legal before entry planned is)
    by (Some x) is = stale_now t history k g seen e x legal before planned is
