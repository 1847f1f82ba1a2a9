-- The steps, at a view that is known by an equation.
use Rattle.std.proofs.Common.{append_assoc, ◌≡◌, ℕ, zero, suc, ◌+◌, ◌%◌, ◌^◌, ◌<◌, ◌≤◌, List, [], ◌∷◌, ◌++◌, length, Some, None, refl, sym, ap, ◌∙◌, subst, arith}
use Rattle.std.specs.Prelude.{Option as Maybe}
use mathlib.Core.Option.{none}
use Rattle.atomic_table.specs.Table.{State, Me, step, Allows, Splits, Joins}
use Rattle.atomic_table.specs.Seated.{TableId}
use Rattle.topo_base.specs.declared.edit.Entry.{Entry}
use Rattle.commit_lock.specs.declared.setting.Setting.{Setting}
use Rattle.commit_lock.specs.declared.view.Origin.{Origin}
use Rattle.commit_lock.specs.declared.view.Line.{Line}
use Rattle.commit_lock.specs.declared.view.View.{View}
use Rattle.commit_lock.specs.declared.view.Stage.TheVariants.{Idle, Waits, Holds}
use Rattle.commit_lock.specs.Views.{view_of, line_of, telling_view, new_lines, spent_view, rest_view, issued_view, noted_view, told_view, joined_view}
use Rattle.commit_lock.specs.TableRule.{IsConsistent}
use Rattle.commit_lock.specs.Steps.{DrawsTicket, LoadsServing, AddsEntry, EndsTurn, SeesLonger}
use Rattle.commit_lock.specs.Passes.{PassValue, NoteValue, new_pass, new_passes, only_view, pass_value, pass_view, note_view, with_entry}
use Rattle.commit_lock.proofs.Turns.{draws, calls, grows, serves}
use Rattle.commit_lock.proofs.Joining.{issues, tells, learns, looks, gathers}

pub new_passes-snoc : (z : TableId) (o : Origin) (c k m : ℕ) → new_passes z o c k (m + 1) ≡ new_passes z o c k m ++ new_pass z o c (k + m) ∷ []
new_passes-snoc z o c k zero = ap (λ (x : ℕ). new_pass z o c x ∷ []) (let e : k ≡ k + 0 = omega arith in e)
new_passes-snoc z o c k (suc m) =
    ap (new_passes z o c k) (let e : suc m + 1 ≡ suc (m + 1) = omega arith in e) ∙ ap (λ l. new_pass z o c k ∷ l) (new_passes-snoc z o c (k + 1) m ∙ ap (λ (x : ℕ). new_passes z o c (k + 1) m ++ new_pass z o c x ∷ []) (let e : k + 1 + m ≡ k + suc m = omega arith in e))

pub length-new_passes : (z : TableId) (o : Origin) (c k m : ℕ) → length (new_passes z o c k m) ≡ m
length-new_passes z o c k zero = refl
length-new_passes z o c k (suc m) = ap suc (length-new_passes z o c (k + 1) m)

-- a pass that was just given out, and what the maker keeps
pub issued_is : (z z' : TableId) (views : List View) (v v' : View) (p : Origin) (k m c : ℕ) → 0 < m → z ≡ z' → views ≡ v ∷ [] → v ≡ issued_view v' → v' ≡ view_of p Idle (new_lines k m p.opening) [] c 0 → pass_value z (only_view views) ≡ new_pass z' p c k
issued_is z z' views v v' p k zero c h e f g is = absurd (omega arith)
issued_is z z' views v v' p k (suc m) c h e f g is = (λ i. pass_value (e i) (only_view (f i))) ∙ ap (pass_value z') g ∙ ap (λ (u : View). pass_value z' (issued_view u)) is

pub issuing_is : {A : Type 0} (me me' : Me A View) (p : Origin) (k m c : ℕ) (x : List Entry) → 0 < m → me ≡ (view_of p Idle (new_lines k m x) [] c 0, []) → me' ≡ (rest_view me.0, me.1)
    → (left : ℕ) × (left + 1 ≡ m) × (me' ≡ (view_of p Idle (new_lines (k + 1) left x) [] c 0, []))
issuing_is me me' p k zero c x h is now = absurd (omega arith)
issuing_is me me' p k (suc m) c x h is now = (m, (omega arith), now ∙ (λ i. (rest_view (is i).0, (is i).1)))

-- one more is taken off the end
pub popped : (all rest rest' done : List PassValue) (x : PassValue) → all ≡ rest ++ done → rest ≡ rest' ++ x ∷ [] → all ≡ rest' ++ x ∷ done
popped all rest rest' done x e f = e ∙ (ap (λ (l : List PassValue). l ++ done) f ∙ append_assoc rest' (x ∷ []) done)

-- the view of a badge that is a pass, or a note
pub pass_is : (views : List View) (v : View) (x y : PassValue) → views ≡ v ∷ [] → views ≡ pass_view Idle x ∷ [] → x ≡ y → v ≡ pass_view Idle y
pass_is views v x y e h same = ap only_view (sym e ∙ h) ∙ ap (pass_view Idle) same

pub note_is : (views : List View) (v : View) (x y : NoteValue) → views ≡ v ∷ [] → views ≡ note_view x ∷ [] → x ≡ y → v ≡ note_view y
note_is views v x y e h same = ap only_view (sym e ∙ h) ∙ ap note_view same

-- the seat of a turn, once its slot has the value
pub filled_is : {T : Type 0} (t : ℕ) (old me me' : Me (Maybe T) View) (x y : PassValue) (v : T) → old ≡ (pass_view (Holds t) x, (0, None) ∷ []) → x ≡ y → me' ≡ (old.0, (0, Some v) ∷ []) → me' ≡ (pass_view (Holds t) y, (0, Some v) ∷ [])
filled_is t old me me' x y v is same now = now ∙ (λ i. ((is i).0, (0, Some v) ∷ [])) ∙ ap (λ (z : PassValue). (pass_view (Holds t) z, (0, Some v) ∷ [])) same

pub grew_is : {T : Type 0} (entries : T → List Entry) (t r : ℕ) (me me' : Me (Maybe T) View) (x : PassValue) (y : T) (e : Entry) → me ≡ (pass_view (Holds t) x, (0, Some y) ∷ []) → AddsEntry entries (step 1 2 1 0 none) me r me' → entries y ≡ x.seen ++ e ∷ []
    → me' ≡ (pass_view (Holds t) (with_entry x e), (0, Some y) ∷ [])
grew_is entries t r me me' x y e is told more = subst (λ (m : Me (Maybe _) View). AddsEntry entries (step 1 2 1 0 none) m r me') is told y e refl more

module _ {T : Type 0} (entries : T → List Entry) (faults : T → ℕ) (setting : T → Setting) (o : Origin) where
  abbrev Rule : State (Maybe T) View → Type 0
  Rule = IsConsistent entries faults setting o

  pub issues_as : (id : ℕ) (v : View) (p : Origin) (k m : ℕ) (x : List Entry) (c f : ℕ) → 0 < m → v ≡ view_of p Idle (new_lines k m x) [] c f → Splits Rule id v (rest_view v) (issued_view v)
  issues_as id v p k zero x c f h e = absurd (omega arith)
  issues_as id v p k (suc m) x c f h e = subst (λ (u : View). Splits Rule id u (rest_view u) (issued_view u)) (sym e) (issues entries faults setting o id p k m x c f)

  pub draws_as : (slots id : ℕ) (me : Me (Maybe T) View) (x : PassValue) → me ≡ (pass_view Idle x, []) → Allows Rule slots id me 0 (λ n. (n + 1) % 2 ^ 64) (DrawsTicket (step slots 0 1 0 none) me)
  draws_as slots id me x e = subst (λ (u : Me (Maybe T) View). Allows Rule slots id u 0 (λ n. (n + 1) % 2 ^ 64) (DrawsTicket (step slots 0 1 0 none) u)) (sym e) (draws entries faults setting o slots id x.from (line_of x.number x.own x.seen) x.count x.faults)

  pub calls_as : (slots id : ℕ) (me : Me (Maybe T) View) (t : ℕ) (x : PassValue) → me ≡ (pass_view (Waits t) x, []) → Allows Rule slots id me 1 (λ n. n) (LoadsServing entries faults setting (step slots 1 0 0 none) me)
  calls_as slots id me t x e = subst (λ (u : Me (Maybe T) View). Allows Rule slots id u 1 (λ n. n) (LoadsServing entries faults setting (step slots 1 0 0 none) u)) (sym e) (calls entries faults setting o slots id x.from t (line_of x.number x.own x.seen) x.count x.faults)

  pub grows_as : (slots id : ℕ) (me : Me (Maybe T) View) (t : ℕ) (x : PassValue) (y : T) (e : Entry) → me ≡ (pass_view (Holds t) x, (0, Some y) ∷ []) → entries y ≡ x.seen ++ e ∷ [] → e.editor ≡ x.number → length (entries y) < length x.from.opening + 2 ^ 64
      → Allows Rule slots id me 2 (λ n. (n + 1) % 2 ^ 64) (AddsEntry entries (step slots 2 1 0 none) me)
  grows_as slots id me t x y e is more by fits = subst (λ (u : Me (Maybe T) View). Allows Rule slots id u 2 (λ n. (n + 1) % 2 ^ 64) (AddsEntry entries (step slots 2 1 0 none) u)) (sym is) (grows entries faults setting o slots id x.from t (line_of x.number x.own x.seen) x.count x.faults y e more by fits)

  pub serves_as : (slots id : ℕ) (me : Me (Maybe T) View) (t : ℕ) (x : PassValue) (y : T) → me ≡ (pass_view (Holds t) x, (0, Some y) ∷ []) → entries y ≡ x.seen → setting y ≡ x.from.setting → x.count ≤ faults y
      → Allows Rule slots id me 1 (λ n. (n + 1) % 2 ^ 64) (EndsTurn faults (step slots 1 1 0 none) me)
  serves_as slots id me t x y is same same_set more = subst (λ (u : Me (Maybe T) View). Allows Rule slots id u 1 (λ n. (n + 1) % 2 ^ 64) (EndsTurn faults (step slots 1 1 0 none) u)) (sym is) (serves entries faults setting o slots id x.from t (line_of x.number x.own x.seen) x.count x.faults y same same_set more)

  pub tells_as : (id : ℕ) (v : View) (x : PassValue) → v ≡ pass_view Idle x → Splits Rule id v v (noted_view v)
  tells_as id v x e = subst (λ (u : View). Splits Rule id u u (noted_view u)) (sym e) (tells entries faults setting o id x.from (line_of x.number x.own x.seen) x.count x.faults)

  pub learns_as : (id : ℕ) (v : View) (x : PassValue) (other : ℕ) (w : View) (q : Origin) (xs : List Entry) (d : ℕ) → v ≡ pass_view Idle x → w ≡ telling_view q xs d → Joins Rule id v other w (told_view v w) spent_view
  learns_as id v x other w q xs d e h = subst (λ (u : View × View). Joins Rule id u.0 other u.1 (told_view u.0 u.1) spent_view) (λ i. (sym e i, sym h i)) (learns entries faults setting o id x.from (line_of x.number x.own x.seen) x.count x.faults other q xs d)

  pub looks_as : (slots id : ℕ) (me : Me (Maybe T) View) (p : Origin) (l : Line) (xs : List Entry) (c f : ℕ) → me ≡ (view_of p Idle (l ∷ []) xs c f, []) → Allows Rule slots id me 2 (λ n. n) (SeesLonger (step slots 2 0 0 none) me)
  looks_as slots id me p l xs c f e = subst (λ (u : Me (Maybe T) View). Allows Rule slots id u 2 (λ n. n) (SeesLonger (step slots 2 0 0 none) u)) (sym e) (looks entries faults setting o slots id p l xs c f)

  pub gathers_as : (id : ℕ) (v : View) (p : Origin) (ls : List Line) (c f other : ℕ) (w : View) (x : PassValue) → v ≡ view_of p Idle ls [] c f → w ≡ pass_view Idle x → Joins Rule id v other w (joined_view v w) spent_view
  gathers_as id v p ls c f other w x e h = subst (λ (u : View × View). Joins Rule id u.0 other u.1 (joined_view u.0 u.1) spent_view) (λ i. (sym e i, sym h i)) (gathers entries faults setting o id p ls c f other x.from (line_of x.number x.own x.seen) x.count x.faults)
