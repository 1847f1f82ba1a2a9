-- The end of a lock.
use Rattle.std.proofs.Common.{None, ◌≡◌, ℕ, ◌+◌, ◌≤◌, max, List, ◌∷◌, map, length, Some, sym, ap, ◌∙◌, subst, arith, le_refl, []}
use Rattle.std.specs.Prelude.{Option as Maybe, All, Any}
use Rattle.std.specs.List.{AllByRecursion as Each}
use Rattle.std.proofs.lemmas.List.Elements.{All-from_recursion}
use Rattle.std.proofs.Math.Nat.{le-max_left, le-max_right}
use Rattle.std.proofs.Math.Seq.{drop-append_seam}
use mathlib.Core.Option.{some, some-injective}
use lib.ListN.{get_elem?}
use Rattle.atomic_table.specs.Table.{Final, Seen}
use Rattle.topo_base.specs.declared.edit.Entry.{Entry}
use Rattle.commit_lock.specs.declared.setting.Setting.{Setting}
use Rattle.commit_lock.specs.declared.view.Origin.{Origin}
use Rattle.commit_lock.specs.declared.view.View.{View}
use Rattle.commit_lock.specs.declared.view.Stage.TheVariants.{Idle}
use Rattle.commit_lock.specs.History.{IsPrefix, own_entries, gained}
use Rattle.commit_lock.specs.Views.{joined_view}
use Rattle.commit_lock.specs.TableRule.{IsConsistent}
use Rattle.commit_lock.proofs.Ended.{Ended}
use Rattle.commit_lock.specs.Passes.{PassValue, pass_line, pass_view, Gathers}
use Rattle.commit_lock.proofs.Lists.{each_map, each_unmap}
use Rattle.commit_lock.proofs.Joining.{ends}

pub gathers_one : (v : View) (x : PassValue) → v ≡ pass_view Idle x → Gathers (x ∷ []) v
gathers_one v x is = record { from = x.from; count = x.count; faults = x.faults; same = is; counts = (le_refl x.count, tt) }

pub gathers_more : (done : List PassValue) (v v' w : View) (x : PassValue) → Gathers done v → w ≡ pass_view Idle x → v' ≡ joined_view v w → Gathers (x ∷ done) v'
gathers_more done v v' w x h is now = record {
  from = h.from;
  count = max h.count x.count;
  faults = h.faults;
  same = now ∙ (λ i. joined_view (h.same i) (is i));
  counts = (le-max_right h.count x.count, each_map _ _ done (λ z le. let more = le-max_left h.count x.count in omega arith) h.counts);
}

-- what `close` ensures
pub record Closed {T : Type 0} (entries : T → List Entry) (faults : T → ℕ) (setting : T → Setting) (o : Origin) (xs : List PassValue) (y : T) : Type 0 where
  pub grown : IsPrefix o.opening (entries y)
  pub own : All (λ (p : PassValue). p.own ≡ own_entries p.number (length o.opening + 1) (gained o.opening (entries y))) xs
  pub numbers : All (λ (e : Entry). Any (λ (p : PassValue). p.number ≡ e.editor) xs) (gained o.opening (entries y))
  pub seen : All (λ (p : PassValue). IsPrefix p.seen (entries y)) xs
  pub count : All (λ (p : PassValue). p.count ≤ faults y) xs
  pub same_setting : setting y ≡ o.setting

module _ {T : Type 0} (entries : T → List Entry) (faults : T → ℕ) (setting : T → Setting) (o : Origin) (xs : List PassValue) where
  closes : (c : ℕ) (y : T) → ((k : ℕ) → 1 ≤ k → k ≤ o.passes → Any (λ (p : PassValue). p.number ≡ k) xs) → Each (λ (p : PassValue). p.count ≤ c) xs → Ended entries faults setting o (map pass_line xs) c y → Closed entries faults setting o xs y
  closes c y all counts e =
      let past : gained o.opening (entries y) ≡ e.gained = ap (gained o.opening) e.grown ∙ drop-append_seam o.opening e.gained in
      let agree = each_unmap _ xs e.lines in
      let more = e.count in
      record {
        grown = (e.gained, sym e.grown);
        own = subst (λ (l : List Entry). All (λ (p : PassValue). p.own ≡ own_entries p.number (length o.opening + 1) l) xs) (sym past) (All-from_recursion _ xs (each_map _ _ xs (λ p a. a.own) agree));
        numbers = subst (All (λ (x : Entry). Any (λ (p : PassValue). p.number ≡ x.editor) xs)) (sym past) (All-from_recursion _ e.gained (each_map _ _ e.gained (λ x h. all x.editor h.0 h.1) e.editors));
        seen = All-from_recursion _ xs (each_map _ _ xs (λ p a. a.seen) agree);
        count = All-from_recursion (λ (p : PassValue). p.count ≤ faults y) xs (each_map (λ (p : PassValue). p.count ≤ c) (λ (p : PassValue). p.count ≤ faults y) xs (λ p le. omega arith) counts);
        same_setting = e.same_setting;
      }

  -- the value of the slot at the end, where the lock began at o
  pub closed : (b : Origin) (id : ℕ) (v : View) (ws : List ℕ) (ys : List (Maybe T)) (slot : Maybe T) → b ≡ o → ((k : ℕ) → 1 ≤ k → k ≤ o.passes → Any (λ (p : PassValue). p.number ≡ k) xs) → Gathers xs v → Final (Seen (IsConsistent entries faults setting b) id v) ws ys → get_elem? ys 0 ≡ some slot
      → (y : T) × (slot ≡ Some y) × Closed entries faults setting o xs y
  closed b id v ws ys slot begun all h fin at =
      let fin' = subst (λ (x : Origin × View). Final (Seen (IsConsistent entries faults setting x.0) id x.1) ws ys) (λ i. (begun i, h.same i)) fin in
      let e = ends entries faults setting o id h.from xs h.count h.faults ws ys all fin' in
      (e.0, some-injective _ _ (sym at ∙ e.1), closes h.count e.0 all h.counts e.2)

  pub never_empty : (slot : Maybe T) → (y : T) × (slot ≡ Some y) × Closed entries faults setting o xs y → slot ≡ None → ⊥
  never_empty slot r none = let e = r.1 in cc

  pub closed_at : (slot : Maybe T) (y : T) → (y' : T) × (slot ≡ Some y') × Closed entries faults setting o xs y' → slot ≡ Some y → Closed entries faults setting o xs y
  closed_at slot y r is = let e = r.1 in let same : r.0 ≡ y = cc in subst (Closed entries faults setting o xs) same r.2
