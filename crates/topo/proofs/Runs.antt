-- A run of a script on a desk, from its beginning to its end.
use Rattle.std.proofs.Common.{◌≡◌, ◌⊎◌, inl, inr, ℕ, Bool, true, false, cond, ◌&&◌, ◌||◌, List, [], IsTrue, refl, sym, subst, ap, ◌∙◌, length, take}
use Rattle.std.specs.List.{list_all}
use Rattle.std.proofs.Math.Seq.{take-length}
use Rattle.topo_base.specs.ScriptLines.{ScriptLine}
use Rattle.topo_base.specs.declared.edit.Entry.{Entry}
use Rattle.topo_base.specs.declared.answer.Answer.{Answer}
use Rattle.script_reader.specs.Bindings.{names_of}
use Rattle.topo_journal.specs.Kept.{Each}
use Rattle.history_model.specs.Answers.{Bounds}
use Rattle.script_model.specs.Bindings.{Names}
use Rattle.history_model.specs.Legal.{is_legal}
use Rattle.script_model.specs.NamedRange.{is_script_line}
use Rattle.history_model.specs.Run.{is_done}
use Rattle.topo_desk.specs.Left.{StandsOrDoubts}
use Rattle.topo.specs.Output.{due}
use Rattle.topo.specs.Run.{Standing, opening, standing_behind, AreAnswered, AreTried, has_fault, faults_in, RoseBy, IsRightRun, status_of}
use Rattle.topo.specs.Running.{Running, standing_of, IsBegun, EndsRun, ends_whole, ends_cut, whole_status}
use Rattle.topo_base.specs.declared.limits.Limits.{Limits}
use Rattle.topo_desk.specs.Boarded.{bounds_of}
use Rattle.topo_io.specs.Causes.{Rose}
use Rattle.history_model.specs.Journal.{IsBadAt}
use Rattle.topo_recover.specs.declared.end.RecoverEnd.{RecoverEnd}
use Rattle.topo_recover.specs.declared.end.RecoverEnd.TheVariants.{NoJournal, DiskFault, Memory}
use Rattle.topo.specs.Endings.{standard, IsLeftBehind, RunsScript, ran_whole, ran_cut, EndsUnread, Unrecovered, no_journal, disk_fault, not_recovered}
use Rattle.topo.specs.Views.{SinkView, DiskView}
use Rattle.topo.proofs.Ends.{tried_front}
use Rattle.topo.proofs.RightRuns.{right_run}

begins_at : (read : List Entry) (m : Bounds) (doubt : Bool) (faults : ℕ) (r : Running) → IsBegun read m doubt faults r → standing_of r ≡ opening read
begins_at read m doubt faults r h = λ i. record { history = h.history_is i; names = h.no_names_yet i }

-- a doubt comes from a fault in the run alone
doubt_at : (history : List Entry) (m : Bounds) (now told : Bool) (bytes : List ℕ) → (now ≡ true → told ≡ true) → StandsOrDoubts m history now bytes → StandsOrDoubts m history told bytes
doubt_at history m now told bytes turn (inl stands) = inl stands
doubt_at history m now told bytes turn (inr doubts) = inr (turn doubts.0, doubts.1)

pub record EndsOn (read : List Entry) (r t : Running) (before behind : DiskView) : Type 0 where
  pub begun : IsBegun read standard false before.faults r
  pub legal : IsTrue (is_legal standard.max_id standard.max_journal read)
  pub faults : behind.faults ≡ t.faults
  pub left : before.tells → Each (StandsOrDoubts t.bounds t.history t.in_doubt) behind.seen behind.may_leave

left_by : (read : List Entry) (r t : Running) (before behind : DiskView) (history : List Entry) (given : List Answer) → EndsOn read r t before behind → t.bounds ≡ r.bounds → t.history ≡ history
    → (t.in_doubt ≡ true → (has_fault given ≡ true) ⊎ (r.in_doubt ≡ true)) → RoseBy (faults_in given) r.faults t.faults → IsLeftBehind history given before behind
left_by read r t before behind history given h bounds same doubt rose =
    let turn : t.in_doubt ≡ true → has_fault given ≡ true = λ e. elim (doubt e) [ inl now ↦ now | inr first ↦ absurd (let both = sym h.begun.doubt_is ∙ first in cc) ] in
    let m : t.bounds ≡ standard = bounds ∙ h.begun.bounds_are in
    let stands : (bytes : List ℕ) → StandsOrDoubts t.bounds t.history t.in_doubt bytes → StandsOrDoubts standard history (has_fault given) bytes = λ bytes at.
    doubt_at history standard t.in_doubt (has_fault given) bytes turn (subst (λ (x : Bounds). StandsOrDoubts x history t.in_doubt bytes) m (subst (λ (x : List Entry). StandsOrDoubts t.bounds x t.in_doubt bytes) same at)) in
    record {
      faults = subst (λ (n : ℕ). RoseBy (faults_in given) n behind.faults) h.begun.faults_are (subst (λ (n : ℕ). RoseBy (faults_in given) r.faults n) (sym h.faults) rose);
      left = λ tells. let all = h.left tells in record { now = stands behind.seen all.now; crashed = λ c may. stands c (all.crashed c may) };
    }

right_from : (read : List Entry) (r t : Running) (ls : List ScriptLine) (given : List Answer) → IsTrue (is_legal standard.max_id standard.max_journal read) → IsTrue (list_all is_script_line ls) → standing_of r ≡ opening read
    → t.history ≡ (standing_behind (standing_of r) ls given).history → AreTried standard (opening read) ls given → IsRightRun standard read t.history ls given
right_from read r t ls given legal good at same tried =
    subst (λ (h : List Entry). IsRightRun standard read h ls given) (sym (same ∙ ap (λ (s : Standing). (standing_behind s ls given).history) at)) (right_run standard read ls given legal good tried)

whole_is : (r t : Running) (given : List Answer) → r.failed ≡ false → r.all_done ≡ true → t.failed ≡ (r.failed || has_fault given) → t.all_done ≡ (r.all_done && list_all is_done given)
    → whole_status t.failed t.all_done ≡ status_of given
whole_is r t given no' all failed done =
    let f : t.failed ≡ has_fault given = failed ∙ ap (λ (b : Bool). b || has_fault given) no' in
    let d : t.all_done ≡ list_all is_done given = done ∙ ap (λ (b : Bool). b && list_all is_done given) all in
    λ i. whole_status (f i) (d i)

pub runs_on : (read : List Entry) (r t : Running) (ls : List ScriptLine) (old new : SinkView) (before behind : DiskView) (result : ℕ) → EndsOn read r t before behind → IsTrue (list_all is_script_line ls)
    → EndsRun r ls t old new result → RunsScript read ls old new before behind result
runs_on read r t ls old new before behind result h good (ends_whole w) =
    let at = begins_at read standard false before.faults r h.begun in
    let answered : AreAnswered standard (opening read) ls w.given = subst (λ (s : Standing). AreAnswered standard s ls w.given) at (subst (λ (m : Bounds). AreAnswered m (standing_of r) ls w.given) h.begun.bounds_are w.served.answered) in
    let tried = tried_front standard (opening read) ls (length ls) w.given (subst (λ (ks : List ScriptLine). AreAnswered standard (opening read) ks w.given) (sym (take-length ls)) answered) in
    ran_whole (record {
      given = w.given;
      history = t.history;
      answered = answered;
      right = right_from read r t ls w.given h.legal good at w.served.history tried;
      status = w.status ∙ whole_is r t w.given h.begun.failed h.begun.all_done w.served.failed w.served.all_done;
      text = w.text;
      calm = w.calm;
      disk = left_by read r t before behind t.history w.given h w.served.bounds refl w.served.in_doubt w.served.faults;
    })
runs_on read r t ls old new before behind result h good (ends_cut by w) =
    let at = begins_at read standard false before.faults r h.begun in
    let tried : AreTried standard (opening read) ls w.given = subst (λ (s : Standing). AreTried standard s ls w.given) at (subst (λ (m : Bounds). AreTried m (standing_of r) ls w.given) h.begun.bounds_are w.tried) in
    ran_cut by (record {
      given = w.given;
      history = t.history;
      tried = tried;
      right = right_from read r t ls w.given h.legal good at w.history tried;
      text = w.text;
      due_front = w.due_front;
      whole_lines = w.whole_lines;
      grown = w.grown;
      disk = left_by read r t before behind t.history w.given h w.bounds refl w.in_doubt w.faults;
    })

-- the disk before recovery has failed as often as the one behind it
pub rebased : (read : List Entry) (ls : List ScriptLine) (old new : SinkView) (tells : Type 0) (seen seen' : List ℕ) (leaves leaves' : List ℕ → Type 0) (faults faults' : ℕ) (behind : DiskView) (result : ℕ) → faults ≡ faults'
    → RunsScript read ls old new (record { tells = tells; seen = seen; may_leave = leaves; faults = faults }) behind result
    → RunsScript read ls old new (record { tells = tells; seen = seen'; may_leave = leaves'; faults = faults' }) behind result
rebased read ls old new tells seen seen' leaves leaves' faults faults' behind result same (ran_whole w) = ran_whole (record {
  given = w.given;
  history = w.history;
  answered = w.answered;
  right = w.right;
  status = w.status;
  text = w.text;
  calm = w.calm;
  disk = record { faults = subst (λ (n : ℕ). RoseBy (faults_in w.given) n behind.faults) same w.disk.faults; left = w.disk.left };
})
rebased read ls old new tells seen seen' leaves leaves' faults faults' behind result same (ran_cut by w) = ran_cut by (record {
  given = w.given;
  history = w.history;
  tried = w.tried;
  right = w.right;
  text = w.text;
  due_front = w.due_front;
  whole_lines = w.whole_lines;
  grown = w.grown;
  disk = record { faults = subst (λ (n : ℕ). RoseBy (faults_in w.given) n behind.faults) same w.disk.faults; left = w.disk.left };
})

-- a recovery that gave no desk
pub unread : (old new : SinkView) (before behind : DiskView) (result : ℕ) (end : RecoverEnd) → ((offset : ℕ) → end ≡ NoJournal offset → before.tells → IsBadAt standard before.seen offset)
    → (end ≡ DiskFault → Rose before.faults behind.faults) → ((end ≡ DiskFault → ⊥) → behind.faults ≡ before.faults) → EndsUnread end old new result → Unrecovered old new before behind result
unread old new before behind result (NoJournal offset) bad rose calm h = no_journal offset (bad offset refl) (calm (λ e. cc)) h
unread old new before behind result DiskFault bad rose calm h = disk_fault (rose refl) h
unread old new before behind result Memory bad rose calm h = not_recovered (calm (λ e. cc)) h.0 h.1
