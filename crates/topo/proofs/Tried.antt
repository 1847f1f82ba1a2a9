-- What the desk's clauses on one edit say of the run.
use Rattle.std.proofs.Common.{◌≡◌, ◌⊎◌, inl, inr, ℕ, ◌+◌, ◌-◌, ◌^◌, ◌≤◌, min, Bool, true, false, List, Option, Some, Result, Ok, Err, IsTrue, IfOk, OnErr, refl, sym, subst, ap, ◌∙◌, arith}
use Rattle.topo_base.specs.ScriptLines.{ScriptLine}
use Rattle.topo_base.specs.declared.edit.Edit.{Edit}
use Rattle.topo_base.specs.declared.answer.Answer.{Answer}
use Rattle.topo_base.specs.declared.answer.Answer.TheVariants.{Done, Refused, Unbound, Stale, DiskFault, Memory}
use Rattle.topo_io.specs.Causes.{Rose}
use Rattle.script_model.specs.Bindings.{Names, resolve}
use Rattle.drawing.specs.Accepted.{keeps_limits}
use Rattle.script_model.specs.NamedRange.{is_script_line}
use Rattle.topo_model.proofs.Resolving.{edit_limits, good_edit}
use Rattle.topo.specs.Run.{is_disk_fault, faults_of, RoseBy}
use Rattle.topo.specs.Running.{Running, IsAlike, IsSame}

is_fault : (a : Answer) → ((a ≡ DiskFault) × (is_disk_fault a ≡ true)) ⊎ ((a ≡ DiskFault → ⊥) × (is_disk_fault a ≡ false))
is_fault (Done ids f) = inr ((λ e. cc), refl)
is_fault (Refused rule f) = inr ((λ e. cc), refl)
is_fault Unbound = inr ((λ e. cc), refl)
is_fault (Stale x read now f) = inr ((λ e. cc), refl)
is_fault DiskFault = inl (refl, refl)
is_fault Memory = inr ((λ e. cc), refl)

-- what is the same after any edit
pub record IsUnchanged (r t : Running) : Type 0 where
  pub bounds : t.bounds ≡ r.bounds
  pub bindings : t.bindings ≡ r.bindings
  pub all_done : t.all_done ≡ r.all_done
  pub failed : t.failed ≡ r.failed

alike_at : (r t : Running) (a : Answer) → IsUnchanged r t → (a ≡ DiskFault → Rose r.faults t.faults) → ((a ≡ DiskFault → ⊥) → t.faults ≡ r.faults)
    → (t.in_doubt ≡ true → (a ≡ DiskFault) ⊎ (r.in_doubt ≡ true)) → IsAlike r (is_disk_fault a) t
alike_at r t a same rose calm doubt = elim (is_fault a) [
  | inl fault ↦ record {
    bounds = same.bounds;
    bindings = same.bindings;
    all_done = same.all_done;
    failed = same.failed;
    in_doubt = λ e. inl fault.1;
    faults = subst (λ (b : Bool). RoseBy (faults_of b) r.faults t.faults) (sym fault.1) (let up = rose fault.0 in omega arith);
    calm = λ e. absurd (let both = sym fault.1 ∙ e in cc);
  }
  | inr other ↦ record {
    bounds = same.bounds;
    bindings = same.bindings;
    all_done = same.all_done;
    failed = same.failed;
    in_doubt = λ e. elim (doubt e) [ inl now ↦ absurd (other.0 now) | inr before ↦ inr before ];
    faults = subst (λ (b : Bool). RoseBy (faults_of b) r.faults t.faults) (sym other.1) (let still = calm other.0 in omega arith);
    calm = λ e. calm other.0;
  }
]

ok_same : {E : Type 0} (a b : Answer) → ◌≡◌ {A = Result Answer E} (Ok a) (Ok b) → a ≡ b
ok_same a b e = cc

err_ok : {E : Type 0} (e : E) (b : Answer) → ◌≡◌ {A = Result Answer E} (Err e) (Ok b) → ⊥
err_ok e b same = cc

pub alike_of : {E : Type 0} (r t : Running) (result : Result Answer E) → IsUnchanged r t → (result ≡ Ok DiskFault → Rose r.faults t.faults) → ((result ≡ Ok DiskFault → ⊥) → t.faults ≡ r.faults)
    → (t.in_doubt ≡ true → (result ≡ Ok DiskFault) ⊎ (r.in_doubt ≡ true)) → IfOk result (λ a. IsAlike r (is_disk_fault a) t)
alike_of r t (Err e) same rose calm doubt = tt
alike_of r t (Ok a) same rose calm doubt = alike_at r t a same (λ is. rose (ap Ok is)) (λ other. calm (λ is. other (ok_same a DiskFault is))) (λ e. elim (doubt e) [ inl now ↦ inl (ok_same a DiskFault now) | inr before ↦ inr before ])

pub same_of : {E : Type 0} (r t : Running) (result : Result Answer E) → IsUnchanged r t → OnErr result (t.history ≡ r.history) → ((result ≡ Ok DiskFault → ⊥) → t.faults ≡ r.faults)
    → (t.in_doubt ≡ true → (result ≡ Ok DiskFault) ⊎ (r.in_doubt ≡ true)) → OnErr result (IsSame r t)
same_of r t (Ok a) same history calm doubt = tt
same_of r t (Err e) same history calm doubt = record {
  history = history;
  bounds = same.bounds;
  all_done = same.all_done;
  failed = same.failed;
  in_doubt = λ d. elim (doubt d) [ inl now ↦ absurd (err_ok e DiskFault now) | inr before ↦ before ];
  faults = calm (λ is. err_ok e DiskFault is);
}

-- the edit that a line gives keeps the limits
pub line_limits : (b : Names) (l : ScriptLine) (e : Edit) → IsTrue (is_script_line l) → resolve b l.edit ≡ Some e → IsTrue (keeps_limits e)
line_limits b l e good is = edit_limits b l.edit e (good_edit l good) is
