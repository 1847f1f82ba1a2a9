-- Lines that are served, one after another.
use Rattle.std.proofs.Common.{◌≡◌, ◌⊎◌, inl, inr, ℕ, zero, suc, ◌+◌, ◌-◌, ◌^◌, ◌<◌, ◌≤◌, min, Bool, true, false, ◌&&◌, ◌||◌, List, [], ◌∷◌, ◌++◌, length, take, get_or, Option, Some, None, refl, sym, ap, subst, ◌∙◌, arith}
use Rattle.std.specs.List.{list_all, list_any, sum_by}
use Rattle.std.proofs.lemmas.List.Folds.{list_all-append, list_any-append}
use Rattle.std.proofs.lemmas.List.Sums.{sum_by_push}
use Rattle.topo_base.specs.ScriptLines.{ScriptLine}
use Rattle.topo_base.specs.declared.edit.Entry.{Entry}
use Rattle.topo_base.specs.declared.answer.Answer.{Answer}
use Rattle.script_reader.specs.Bindings.{names_of}
use Rattle.history_model.specs.Answers.{Bounds}
use Rattle.script_model.specs.Bindings.{Names, bound, ids_of}
use Rattle.history_model.specs.Run.{is_done}
use Rattle.topo.specs.Run.{Standing, edit_at, grown, IsLineTried, standing_after, standing_behind, AreAnswered, is_disk_fault, has_fault, faults_of, faults_in, RoseBy}
use Rattle.topo.specs.Running.{Running, standing_of, IsServed, IsBound, AreServed, AreBound}

-- ---- one line more
pub answered_more : (m : Bounds) (s : Standing) (ls : List ScriptLine) (given : List Answer) (l : ScriptLine) (answer : Answer) → AreAnswered m s ls given
    → IsLineTried m (standing_behind s ls given) l answer → AreAnswered m s (ls ++ l ∷ []) (given ++ answer ∷ [])
answered_more m s [] [] l answer h tried = (tried, tt)
answered_more m s [] (a ∷ given) l answer h tried = absurd h
answered_more m s (k ∷ ls) [] l answer h tried = absurd h
answered_more m s (k ∷ ls) (a ∷ given) l answer h tried = (h.0, answered_more m (standing_after s k a) ls given l answer h.1 tried)

pub behind_more : (m : Bounds) (s : Standing) (ls : List ScriptLine) (given : List Answer) (l : ScriptLine) (answer : Answer) → AreAnswered m s ls given
    → standing_behind s (ls ++ l ∷ []) (given ++ answer ∷ []) ≡ standing_after (standing_behind s ls given) l answer
behind_more m s [] [] l answer h = refl
behind_more m s [] (a ∷ given) l answer h = absurd h
behind_more m s (k ∷ ls) [] l answer h = absurd h
behind_more m s (k ∷ ls) (a ∷ given) l answer h = behind_more m (standing_after s k a) ls given l answer h.1

-- ---- counts of faults
rose_more : (n k a b c : ℕ) → RoseBy n a b → RoseBy k b c → RoseBy (n + k) a c
rose_more n k a b c one two = omega arith

or_false : (a b : Bool) → (a || b) ≡ false → (a ≡ false) × (b ≡ false)
or_false true b e = absurd cc
or_false false b e = (refl, e)

or_left : (a b : Bool) → a ≡ true → (a || b) ≡ true
or_left true b e = refl
or_left false b e = absurd cc

or_right : (a b : Bool) → b ≡ true → (a || b) ≡ true
or_right true b e = refl
or_right false b e = e

and_assoc : (a b c : Bool) → ((a && b) && c) ≡ (a && (b && c))
and_assoc true b c = refl
and_assoc false b c = refl

or_assoc : (a b c : Bool) → ((a || b) || c) ≡ (a || (b || c))
or_assoc true b c = refl
or_assoc false b c = refl

and_one : (b : Bool) → (b && true) ≡ b
and_one true = refl
and_one false = refl

or_one : (b : Bool) → (b || false) ≡ b
or_one true = refl
or_one false = refl

pub faults_more : (given : List Answer) (answer : Answer) → has_fault (given ++ answer ∷ []) ≡ (has_fault given || is_disk_fault answer)
faults_more given answer = list_any-append is_disk_fault given (answer ∷ []) ∙ ap (λ (b : Bool). has_fault given || b) (or_one (is_disk_fault answer))

done_more : (given : List Answer) (answer : Answer) → list_all is_done (given ++ answer ∷ []) ≡ (list_all is_done given && is_done answer)
done_more given answer = list_all-append is_done given (answer ∷ []) ∙ ap (λ (b : Bool). list_all is_done given && b) (and_one (is_done answer))

-- ---- where the run stands
pub standing_is : (r t : Running) (ls : List ScriptLine) (given : List Answer) → AreServed r ls given t → AreBound r ls given t → standing_of t ≡ standing_behind (standing_of r) ls given
standing_is r t ls given served names = λ i. record { history = served.history i; names = names i }

pub next_served : (r t u : Running) (ls : List ScriptLine) (given : List Answer) (l : ScriptLine) (answer : Answer) → AreServed r ls given t → AreBound r ls given t
    → IsServed t l answer u → AreServed r (ls ++ l ∷ []) (given ++ answer ∷ []) u
next_served r t u ls given l answer served names one =
    let s = standing_of r in
    let at : standing_of t ≡ standing_behind s ls given = standing_is r t ls given served names in
    let tried : IsLineTried r.bounds (standing_behind s ls given) l answer = subst (λ (x : Standing). IsLineTried r.bounds x l answer) at (subst (λ (m : Bounds). IsLineTried m (standing_of t) l answer) served.bounds one.tried) in
    let fault = faults_more given answer in
    record {
      answered = answered_more r.bounds s ls given l answer served.answered tried;
      history = one.history ∙ ap (λ (x : Standing). (standing_after x l answer).history) at ∙ ap (λ (x : Standing). x.history) (sym (behind_more r.bounds s ls given l answer served.answered));
      bounds = one.bounds ∙ served.bounds;
      all_done = one.all_done ∙ ap (λ (b : Bool). b && is_done answer) served.all_done ∙ and_assoc r.all_done (list_all is_done given) (is_done answer) ∙ ap (λ (b : Bool). r.all_done && b) (sym (done_more given answer));
      failed = one.failed ∙ ap (λ (b : Bool). b || is_disk_fault answer) served.failed ∙ or_assoc r.failed (has_fault given) (is_disk_fault answer) ∙ ap (λ (b : Bool). r.failed || b) (sym fault);
      in_doubt = λ e.
          elim (one.in_doubt e) [
            | inl now ↦ inl (fault ∙ or_right (has_fault given) (is_disk_fault answer) now)
            | inr before ↦ elim (served.in_doubt before) [
              | inl then' ↦ inl (fault ∙ or_left (has_fault given) (is_disk_fault answer) then')
              | inr first ↦ inr first
            ]
          ];
      faults = subst (λ (n : ℕ). RoseBy n r.faults u.faults) (sym (sum_by_push (λ (a : Answer). faults_of (is_disk_fault a)) given answer))
          (rose_more (faults_in given) (faults_of (is_disk_fault answer)) r.faults t.faults u.faults served.faults one.faults);
      calm = λ e. let none = or_false (has_fault given) (is_disk_fault answer) (sym fault ∙ e) in one.calm none.1 ∙ served.calm none.0;
    }

pub next_bound : (r t u : Running) (ls : List ScriptLine) (given : List Answer) (l : ScriptLine) (answer : Answer) → AreServed r ls given t → AreBound r ls given t
    → IsBound t l answer u → AreBound r (ls ++ l ∷ []) (given ++ answer ∷ []) u
next_bound r t u ls given l answer served names one =
    one ∙ ap (λ (b : Names). bound b l.names (ids_of answer)) names ∙ ap (λ (x : Standing). x.names) (sym (behind_more r.bounds (standing_of r) ls given l answer served.answered))

-- ---- nothing is served yet
pub none_served : (r : Running) → AreServed r [] [] r
none_served r = record {
  answered = tt;
  history = refl;
  bounds = refl;
  all_done = sym (and_one r.all_done);
  failed = sym (or_one r.failed);
  in_doubt = λ e. inr e;
  faults = omega arith;
  calm = λ e. refl;
}
