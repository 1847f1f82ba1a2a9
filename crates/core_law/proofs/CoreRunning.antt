-- The core, one event after another.
use Rattle.std.proofs.Common.{◌≡◌, ℕ, ◌≤◌, Bool, true, false, cond, ◌&&◌, ◌==◌, eqb, nat_le, max, List, [], ◌∷◌, ◌++◌, length, filter, IsTrue, Some, None, Ok, Err, is_ok, refl, sym, ap, ◌∙◌, arith, append_assoc, append-nil, length-append, leb-true}
use Rattle.std.proofs.lemmas.Bool.{and_parts}
use Rattle.std.proofs.lemmas.List.Elements.{filter-append}
use Rattle.topo_base.specs.declared.edit.Edit.{Edit}
use Rattle.topo_base.specs.declared.edit.Entry.{Entry}
use Rattle.topo_base.specs.declared.answer.Answer.{Answer}
use Rattle.topo_base.specs.declared.answer.Answer.TheVariants.{Done, Refused, Unbound, Stale, DiskFault, Memory}
use Rattle.drawing.specs.Outcome.{Outcome}
use Rattle.drawing.specs.Step.{step}
use Rattle.drawing.specs.Replay.{replay}
use Rattle.drawing.specs.Accepted.{is_entry}
use Rattle.history_model.specs.Legal.{is_legal}
use Rattle.history_model.specs.Answers.{drawing_at, by_step, entry_of}
use Rattle.core_law.specs.Reading.{IsLocal}
use Rattle.core_law.specs.Core.{Terms, State, Event, Look, Commit, Fault, Tell, entry_by, commit_answer, look_rule, is_rule_of_look, after_event, may_happen, may_run, see, begun, gained_by, gained, gained_of, is_of}
use Rattle.core_law.specs.CoreLaw.{CoreIsRight, IsEventRight, IsLookRight, RunsRight}
use Rattle.core_law.proofs.Commits.{commits, refused_now}

-- ---- what a look is answered
looks : (t : Terms) (s : State) (k : ℕ) (e : Edit) (o : Outcome) → s.seen k ≤ length s.history → step (replay s.history) e ≡ o → IsLookRight t s k e (look_rule o)
looks t s k e (Ok done) saw is = tt
looks t s k e (Err rule) saw is =
    let right = refused_now t s.history k (s.seen k) e rule saw (by_step (rw is refl)) in
    elim (is_rule_of_look rule) as (λ b. IsLookRight t s k e (cond b (Some rule) None)) [ true ↦ right | false ↦ tt ]

-- ---- an event
pub record Happens (t : Terms) (s : State) (x : Event) : Type 0 where
  pub legal : IsTrue (is_legal t.bounds.max_id t.bounds.max_journal (after_event t s x).history)
  pub sees : (k : ℕ) → (after_event t s x).seen k ≤ length (after_event t s x).history
  pub right : IsEventRight t s x
  pub grew : (after_event t s x).history ≡ s.history ++ gained_by t s x

-- all have seen no more than there is, where one now has seen so much
sees_more : (seen : ℕ → ℕ) (k n more : ℕ) → ((j : ℕ) → seen j ≤ more) → n ≤ more → (j : ℕ) → see seen k n j ≤ more
sees_more seen k n more h below j = elim (eqb j k) as (λ b. cond b n (seen j) ≤ more) [ true ↦ below | false ↦ h j ]

happens : (t : Terms) → IsLocal t.reads → (s : State) (x : Event) → IsTrue (is_legal t.bounds.max_id t.bounds.max_journal s.history) → ((j : ℕ) → s.seen j ≤ length s.history) → IsTrue (may_happen s x) → Happens t s x
happens t local s (Look k e) legal sees may =
    record { legal = legal; sees = sees_more s.seen k (length s.history) (length s.history) sees (omega arith); right = looks t s k e (step (replay s.history) e) (sees k) refl; grew = sym (append-nil s.history) }
happens t local s (Commit k e g) legal sees may =
    let parts = and_parts (is_entry (entry_by k e) && nat_le g (s.seen k)) (is_ok (step (drawing_at s.history g) e)) may in
    let first = and_parts (is_entry (entry_by k e)) (nat_le g (s.seen k)) parts.0 in
    let saw = sees k in
    let known : g ≤ s.seen k = leb-true _ _ first.1 in
    let answer = commit_answer t s.history (entry_by k e) g in
    let settled = commits t local s.history k g (s.seen k) e legal (omega arith) saw first.0 parts.1 in
    let longer : length s.history ≤ length (s.history ++ entry_of answer (entry_by k e)) = omega (arith, length-append s.history (entry_of answer (entry_by k e))) in
    record {
      legal = settled.legal;
      sees = sees_more s.seen k (length (s.history ++ entry_of answer (entry_by k e))) (length (s.history ++ entry_of answer (entry_by k e))) (λ j. let saw = sees j in omega arith) (omega arith);
      right = record { right = settled.right; cause = settled.cause };
      grew = refl;
    }
happens t local s (Fault k e g) legal sees may =
    record { legal = legal; sees = sees_more s.seen k (length s.history) (length s.history) sees (omega arith); right = tt; grew = sym (append-nil s.history) }
happens t local s (Tell k j n) legal sees may =
    let known : n ≤ s.seen j = leb-true _ _ may in
    let told : max (s.seen k) n ≤ length s.history = (let mine = sees k in let its = sees j in omega arith) in
    record { legal = legal; sees = sees_more s.seen k (max (s.seen k) n) (length s.history) sees told; right = tt; grew = sym (append-nil s.history) }

-- ---- an editor's own entries
abbrev no_entry : List Entry
no_entry = []

nothing_own : (b : Bool) → no_entry ≡ cond b no_entry no_entry
nothing_own true = refl
nothing_own false = refl

own_entry : (j : ℕ) (x : Entry) (answer : Answer) → filter (λ (y : Entry). y.editor == j) (entry_of answer x) ≡ cond (x.editor == j) (entry_of answer x) []
own_entry j x (Done ids f) = refl
own_entry j x (Refused rule f) = nothing_own (x.editor == j)
own_entry j x (Stale y read now f) = nothing_own (x.editor == j)
own_entry j x Unbound = nothing_own (x.editor == j)
own_entry j x DiskFault = nothing_own (x.editor == j)
own_entry j x Memory = nothing_own (x.editor == j)

own_here : (t : Terms) (s : State) (j : ℕ) (x : Event) → filter (λ (y : Entry). y.editor == j) (gained_by t s x) ≡ cond (is_of j x) (gained_by t s x) []
own_here t s j (Look k e) = nothing_own (k == j)
own_here t s j (Commit k e g) = own_entry j (entry_by k e) (commit_answer t s.history (entry_by k e) g)
own_here t s j (Fault k e g) = nothing_own (k == j)
own_here t s j (Tell k i n) = nothing_own (k == j)

own_entries : (t : Terms) (s : State) (j : ℕ) (xs : List Event) → filter (λ (y : Entry). y.editor == j) (gained t s xs) ≡ gained_of t s j xs
own_entries t s j [] = refl
own_entries t s j (x ∷ xs) =
    let here = own_here t s j x in
    let rest = own_entries t (after_event t s x) j xs in
    filter-append (λ (y : Entry). y.editor == j) (gained_by t s x) (gained t (after_event t s x) xs) ∙ (λ i. here i ++ rest i)

-- ---- and all of them
pub runs : (t : Terms) → IsLocal t.reads → (s : State) (xs : List Event) → IsTrue (is_legal t.bounds.max_id t.bounds.max_journal s.history) → ((j : ℕ) → s.seen j ≤ length s.history) → IsTrue (may_run t s xs) → RunsRight t s xs
runs t local s [] legal sees may = record { legal = legal; entries = sym (append-nil s.history); own = λ k. refl; answers = tt }
runs t local s (x ∷ xs) legal sees may =
    let parts = and_parts (may_happen s x) (may_run t (after_event t s x) xs) may in
    let here = happens t local s x legal sees parts.0 in
    let rest = runs t local (after_event t s x) xs here.legal here.sees parts.1 in
    record {
      legal = rest.legal;
      entries = rest.entries ∙ ap (λ h. h ++ gained t (after_event t s x) xs) here.grew ∙ append_assoc s.history (gained_by t s x) (gained t (after_event t s x) xs);
      own = λ k. own_entries t s k (x ∷ xs);
      answers = (here.right, rest.answers);
    }

pub core_right : CoreIsRight
core_right reads local m history xs legal may = runs (record { reads = reads; bounds = m }) local (begun history) xs legal (λ k. omega arith) may
