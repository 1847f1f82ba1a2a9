-- How the lock begins and ends, and the steps that cut views in two and put them together, keep the rule.
use Rattle.std.proofs.Common.{◌≡◌, ◌≢◌, ℕ, zero, suc, ◌+◌, ◌<◌, ◌≤◌, Bool, true, false, cond, eqb, ◌⊎◌, List, [], ◌∷◌, ◌++◌, map, length, set, get_or, Some, refl, sym, ap, ◌∙◌, subst, inl, inr, ⊎_elim, arith, eq-eqb, ne_eqb, true≢false, le_refl}
use Rattle.std.proofs.lemmas.List.{append-nil}
use Rattle.std.specs.Prelude.{Option as Maybe, Any}
use Rattle.std.proofs.lemmas.List.Elements.{All-from_recursion}
use Rattle.commit_lock.specs.Passes.{PassValue, pass_line}
use Rattle.std.specs.List.{AllByRecursion as Each}
use Rattle.std.proofs.Math.Nat.{max-le}
use mathlib.Core.Option.{Option, none, some, some-injective, some-ne-none}
use lib.ListN.{get_elem?}
use Rattle.atomic_table.specs.Table.{State, step, keeps, Allows, Splits, Joins, Final, Seen, opening}
use Rattle.atomic_table.proofs.Lists.{at_set}
use Rattle.topo_base.specs.declared.edit.Entry.{Entry}
use Rattle.commit_lock.specs.declared.setting.Setting.{Setting}
use Rattle.commit_lock.specs.declared.view.Origin.{Origin}
use Rattle.commit_lock.specs.declared.view.Line.{Line}
use Rattle.commit_lock.specs.declared.view.View.{View}
use Rattle.commit_lock.specs.declared.view.Stage.{Stage}
use Rattle.commit_lock.specs.declared.view.Stage.TheVariants.{Idle, Waits, Holds}
use Rattle.commit_lock.specs.History.{IsPrefix}
use Rattle.commit_lock.specs.Views.{view_of, line_of, one_line_view, telling_view, first_line, new_lines, spent_view, rest_view, issued_view, noted_view, told_view, learned_view, joined_view}
use Rattle.commit_lock.specs.Beginning.{origin}
use Rattle.commit_lock.specs.TableRule.{Progress, total, tickets, line_count, stage_tickets, FitsStage, IsRightLine, IsRightView, FitsSlot, IsConsistent}
use Rattle.commit_lock.specs.Steps.{SeesLonger}
use Rattle.commit_lock.proofs.Ended.{Ended}
use Rattle.commit_lock.proofs.Lists.{prefix_refl, longer_begins, total-set, total-snoc, each_map, each_unmap, all_any, total-zero}
use Rattle.commit_lock.proofs.Turns.{fits_set}

at_snoc_at : {A : Type 0} (l : List A) (a b : A) (j : ℕ) → get_elem? (l ++ a ∷ []) j ≡ some b → (get_elem? l j ≡ some b) ⊎ ((j ≡ length l) × (a ≡ b))
at_snoc_at [] a b zero e = inr (refl, some-injective a b e)
at_snoc_at [] a b (suc j) e = absurd (some-ne-none b (sym e))
at_snoc_at (x ∷ xs) a b zero e = inl e
at_snoc_at (x ∷ xs) a b (suc j) e = ⊎_elim (λ h. inl h) (λ h. inr (ap suc h.0, h.1)) (at_snoc_at xs a b j e)

each_both : {A : Type 0} (P Q R : A → Type 0) → ((x : A) → P x → Q x → R x) → (xs : List A) → Each P xs → Each Q xs → Each R xs
each_both P Q R h [] p q = tt
each_both P Q R h (x ∷ xs) p q = (h x p.0 q.0, each_both P Q R h xs p.1 q.1)

fits_snoc : (o : Origin) (n : Progress) (views : List View) (w : View) → ((j : ℕ) (u : View) → get_elem? views j ≡ some u → IsRightView o n j u) → IsRightView o n (length views) w
    → (j : ℕ) (u : View) → get_elem? (views ++ w ∷ []) j ≡ some u → IsRightView o n j u
fits_snoc o n views w others mine j u e =
    ⊎_elim
    (λ (x : get_elem? views j ≡ some u). others j u x)
    (λ (x : (j ≡ length views) × (w ≡ u)). subst (λ (y : ℕ × View). IsRightView o n y.0 y.1) (λ i. (sym x.0 i, x.1 i)) mine)
    (at_snoc_at views w u j e)

length-new_lines : (k m : ℕ) (x : List Entry) → length (new_lines k m x) ≡ m
length-new_lines k zero x = refl
length-new_lines k (suc m) x = ap suc (length-new_lines (k + 1) m x)

new_lines-above : (k j m : ℕ) (x : List Entry) → k < j → Each (λ l. k < l.number) (new_lines j m x)
new_lines-above k j zero x h = tt
new_lines-above k j (suc m) x h = (h, new_lines-above k (j + 1) m x (omega arith))

new_lines-right : (o : Origin) (k m : ℕ) → 1 ≤ k → k + m ≤ o.passes + 1 → Each (IsRightLine o (λ _. 0) [] o.opening 0) (new_lines k m o.opening)
new_lines-right o k zero h l = tt
new_lines-right o k (suc m) h l = (record { at = refl; first = h; last = omega arith; own = refl; seen = prefix_refl o.opening }, new_lines-right o (k + 1) m (omega arith) (omega arith))

-- a pass's number goes to a new seat
abbrev issued_now : Progress → ℕ → ℕ → Progress
issued_now n k to = record { drawn = n.drawn; served = n.served; list = n.list; gained = n.gained; count = n.count; is_out = n.is_out; seat_of_ticket = n.seat_of_ticket; seat_of_number = λ x. cond (eqb x k) to (n.seat_of_number x) }

-- the numbers of one seat go to another
abbrev gathered_now : Progress → ℕ → ℕ → Progress
gathered_now n id other = record { drawn = n.drawn; served = n.served; list = n.list; gained = n.gained; count = n.count; is_out = n.is_out; seat_of_ticket = n.seat_of_ticket; seat_of_number = λ x. cond (eqb (n.seat_of_number x) other) id (n.seat_of_number x) }

stands_issued : (n : Progress) (k to j : ℕ) (v : View) (st : Stage) → FitsStage n j v st → FitsStage (issued_now n k to) j v st
stands_issued n k to j v Idle h = h
stands_issued n k to j v (Waits t) h = record { low = h.low; high = h.high; own = h.own; later = h.later; line = h.line }
stands_issued n k to j v (Holds t) h = record { turn = h.turn; high = h.high; own = h.own; out = h.out; line = h.line; count = h.count; whole = h.whole }

stands_gathered : (n : Progress) (id other j : ℕ) (v : View) (st : Stage) → FitsStage n j v st → FitsStage (gathered_now n id other) j v st
stands_gathered n id other j v Idle h = h
stands_gathered n id other j v (Waits t) h = record { low = h.low; high = h.high; own = h.own; later = h.later; line = h.line }
stands_gathered n id other j v (Holds t) h = record { turn = h.turn; high = h.high; own = h.own; out = h.out; line = h.line; count = h.count; whole = h.whole }

right_issued : (o : Origin) (n : Progress) (k to j : ℕ) (l : Line) → l.number ≢ k → IsRightLine o n.seat_of_number n.gained n.list j l → IsRightLine o (issued_now n k to).seat_of_number n.gained n.list j l
right_issued o n k to j l ne r = record { at = ap (λ b. cond b to (n.seat_of_number l.number)) (ne_eqb l.number k ne) ∙ r.at; first = r.first; last = r.last; own = r.own; seen = r.seen }

right_stays : (o : Origin) (n : Progress) (id other j : ℕ) (l : Line) → j ≢ other → IsRightLine o n.seat_of_number n.gained n.list j l → IsRightLine o (gathered_now n id other).seat_of_number n.gained n.list j l
right_stays o n id other j l ne r =
    let ne' : n.seat_of_number l.number ≢ other = λ e. ne (sym r.at ∙ e) in
    record { at = ap (λ b. cond b id (n.seat_of_number l.number)) (ne_eqb (n.seat_of_number l.number) other ne') ∙ r.at; first = r.first; last = r.last; own = r.own; seen = r.seen }

right_comes : (o : Origin) (n : Progress) (id other : ℕ) (l : Line) → IsRightLine o n.seat_of_number n.gained n.list other l → IsRightLine o (gathered_now n id other).seat_of_number n.gained n.list id l
right_comes o n id other l r = record { at = ap (λ b. cond b id (n.seat_of_number l.number)) (eq-eqb (n.seat_of_number l.number) other r.at); first = r.first; last = r.last; own = r.own; seen = r.seen }

module _ {T : Type 0} (entries : T → List Entry) (faults : T → ℕ) (setting : T → Setting) where
  -- the rule as the lock is made
  pub begins : (y : T) (m : ℕ) → m ≤ 64 → let o = origin entries setting y m in IsConsistent entries faults setting o (opening (0 ∷ 0 ∷ 0 ∷ []) (Some y ∷ []) (view_of o Idle (new_lines 1 m (entries y)) [] (faults y) 0))
  begins y m few =
      let o : Origin = origin entries setting y m in
      let n : Progress = record { drawn = 0; served = 0; list = entries y; gained = []; count = faults y; is_out = false; seat_of_ticket = λ _. 0; seat_of_number = λ _. 0 } in
      let v : View = view_of o Idle (new_lines 1 m (entries y)) [] (faults y) 0 in
      let long : length (new_lines 1 m (entries y)) ≡ m = length-new_lines 1 m (entries y) in
      record {
        now = n;
        words = refl;
        whole = sym (append-nil (entries y));
        place = (y, refl, record { same_list = refl; same_count = refl; same_setting = refl });
        few = few;
        turns = refl;
        room = omega arith;
        busy = λ b. absurd (true≢false (sym b));
        editors = tt;
        each = one o n v record { from = λ _. refl; stands = tt; told = (entries y, refl); count = le_refl (faults y); lines = new_lines-right o 1 m (omega arith) (omega arith) };
      }
    where
      one : (o : Origin) (n : Progress) (v : View) → IsRightView o n 0 v → (j : ℕ) (u : View) → get_elem? (v ∷ []) j ≡ some u → IsRightView o n j u
      one o n v f zero u e = subst (IsRightView o n 0) (some-injective v u e) f
      one o n v f (suc j) u e = absurd (some-ne-none u (sym e))

  module _ (o : Origin) where
    abbrev Rule : State (Maybe T) View → Type 0
    Rule = IsConsistent entries faults setting o

    -- the maker gives its first line to a new seat
    pub issues : (id : ℕ) (p : Origin) (k m : ℕ) (x : List Entry) (c f : ℕ)
        → let v = view_of p Idle (line_of k [] x ∷ new_lines (k + 1) m x) [] c f in Splits Rule id v (rest_view v) (issued_view v)
    issues id p k m x c f s r at =
        let n = r.now in
        let v : View = view_of p Idle (line_of k [] x ∷ new_lines (k + 1) m x) [] c f in
        let left : View = rest_view v in
        let right : View = issued_view v in
        let to : ℕ = length (set s.views id left) in
        let n' : Progress = issued_now n k to in
        let mine = r.each id v at in
        let here : n.seat_of_number k ≡ id = mine.lines.0.at in
        let tickets_set : total tickets (set s.views id left) + 0 ≡ total tickets s.views + 0 = total-set tickets s.views id v left at in
        let tickets_snoc : total tickets (set s.views id left ++ right ∷ []) ≡ total tickets (set s.views id left) + 0 = total-snoc tickets (set s.views id left) right in
        let many : ℕ = length (new_lines (k + 1) m x) in
        let lines_set : total line_count (set s.views id left) + suc many ≡ total line_count s.views + many = total-set line_count s.views id v left at in
        let lines_snoc : total line_count (set s.views id left ++ right ∷ []) ≡ total line_count (set s.views id left) + 1 = total-snoc line_count (set s.views id left) right in
        let turns = r.turns in
        let room = r.room in
        record {
          now = n';
          words = r.words;
          whole = r.whole;
          place = r.place;
          few = r.few;
          turns = omega arith;
          room = omega arith;
          busy = r.busy;
          editors = r.editors;
          each = fits_snoc o n' (set s.views id left) right
              (fits_set o n' s.views id left
              (λ j u other e. let h = r.each j u e in record {
                from = h.from;
                stands = stands_issued n k to j u u.stage h.stands;
                told = h.told;
                count = h.count;
                lines = each_map _ _ u.lines (λ z w. right_issued o n k to j z (λ is. other (sym w.at ∙ (ap n.seat_of_number is ∙ here))) w) h.lines;
              })
              record {
                from = mine.from;
                stands = tt;
                told = mine.told;
                count = mine.count;
                lines = each_both _ _ _ (λ z w above. right_issued o n k to id z (λ is. omega arith) w) (new_lines (k + 1) m x) mine.lines.1 (new_lines-above k (k + 1) m x (omega arith));
              })
              (let first = mine.lines.0 in record {
                from = mine.from;
                stands = tt;
                told = (n.list, refl);
                count = mine.count;
                lines = (record { at = ap (λ b. cond b to (n.seat_of_number k)) (eq-eqb k k refl); first = first.first; last = first.last; own = first.own; seen = first.seen }, tt);
              });
        }

    -- a note is cut off a pass
    pub tells : (id : ℕ) (p : Origin) (l : Line) (c f : ℕ) → let v = one_line_view p Idle l c f in Splits Rule id v v (noted_view v)
    tells id p l c f s r at =
        let n = r.now in
        let v : View = one_line_view p Idle l c f in
        let right : View = noted_view v in
        let mine = r.each id v at in
        let tickets_set : total tickets (set s.views id v) + 0 ≡ total tickets s.views + 0 = total-set tickets s.views id v v at in
        let tickets_snoc : total tickets (set s.views id v ++ right ∷ []) ≡ total tickets (set s.views id v) + 0 = total-snoc tickets (set s.views id v) right in
        let lines_set : total line_count (set s.views id v) + 1 ≡ total line_count s.views + 1 = total-set line_count s.views id v v at in
        let lines_snoc : total line_count (set s.views id v ++ right ∷ []) ≡ total line_count (set s.views id v) + 0 = total-snoc line_count (set s.views id v) right in
        let turns = r.turns in
        let room = r.room in
        record {
          now = n;
          words = r.words;
          whole = r.whole;
          place = r.place;
          few = r.few;
          turns = omega arith;
          room = omega arith;
          busy = r.busy;
          editors = r.editors;
          each = fits_snoc o n (set s.views id v) right
              (fits_set o n s.views id v (λ j u other e. r.each j u e) mine)
              record { from = mine.from; stands = tt; told = mine.lines.0.seen; count = mine.count; lines = tt };
        }

    -- the second view of a join, in the state before it
    there_before : (s : State (Maybe T) View) (id other : ℕ) (both w : View) → ¬ (other ≡ id) → get_elem? (set s.views id both) other ≡ some w → get_elem? s.views other ≡ some w
    there_before s id other both w apart e =
        ⊎_elim (λ (t : (other ≡ id) × (both ≡ w)). absurd (apart t.0)) (λ (t : (other ≢ id) × (get_elem? s.views other ≡ some w)). t.1) (at_set s.views id other both w e)

    spent_fits : (n : Progress) (j : ℕ) → IsRightView o n j spent_view
    spent_fits n j = record { from = λ b. absurd (true≢false (sym b)); stands = tt; told = (n.list, refl); count = omega arith; lines = tt }

    -- a pass takes in a note
    pub learns : (id : ℕ) (p : Origin) (l : Line) (c f other : ℕ) (q : Origin) (xs : List Entry) (d : ℕ)
        → Joins Rule id (one_line_view p Idle l c f) other (telling_view q xs d) (told_view (one_line_view p Idle l c f) (telling_view q xs d)) spent_view
    learns id p l c f other q xs d s r at apart there =
        let n = r.now in
        let v : View = one_line_view p Idle l c f in
        let w : View = telling_view q xs d in
        let both : View = told_view v w in
        let was = there_before s id other both w apart there in
        let mine = r.each id v at in
        let theirs = r.each other w was in
        let vs : List View = set s.views id both in
        let tickets_set : total tickets vs + 0 ≡ total tickets s.views + 0 = total-set tickets s.views id v both at in
        let tickets_gone : total tickets (set vs other spent_view) + 0 ≡ total tickets vs + 0 = total-set tickets vs other w spent_view there in
        let lines_set : total line_count vs + 1 ≡ total line_count s.views + 1 = total-set line_count s.views id v both at in
        let lines_gone : total line_count (set vs other spent_view) + 0 ≡ total line_count vs + 0 = total-set line_count vs other w spent_view there in
        let turns = r.turns in
        let room = r.room in
        record {
          now = n;
          words = r.words;
          whole = r.whole;
          place = r.place;
          few = r.few;
          turns = omega arith;
          room = omega arith;
          busy = r.busy;
          editors = r.editors;
          each = fits_set o n vs other spent_view
              (λ i y _ e'. fits_set o n s.views id both (λ j u _ e. r.each j u e) record { from = mine.from; stands = tt; told = theirs.told; count = max-le mine.count theirs.count; lines = mine.lines } i y e')
              (spent_fits n other);
        }

    -- a pass that was told looks at the front, and has seen the longer history
    pub looks : (slots id : ℕ) (p : Origin) (l : Line) (xs : List Entry) (c f : ℕ)
        → let v = view_of p Idle (l ∷ []) xs c f in Allows Rule slots id (v, []) 2 (λ n. n) (SeesLonger (step slots 2 0 0 none) (v, []))
    looks slots id p l xs c f s r many at small =
        let n = r.now in
        let v : View = view_of p Idle (l ∷ []) xs c f in
        let w : View = learned_view v in
        let mine = r.each id v at in
        let right = mine.lines.0 in
        let both = longer_begins l.seen xs n.list right.seen mine.told in
        let tickets_set : total tickets (set s.views id w) + 0 ≡ total tickets s.views + 0 = total-set tickets s.views id v w at in
        let lines_set : total line_count (set s.views id w) + 1 ≡ total line_count s.views + 1 = total-set line_count s.views id v w at in
        let turns = r.turns in
        let room = r.room in (
          w,
          keeps,
          tt,
          record {
            now = n;
            words = ap (λ (ws : List ℕ). set ws 2 (get_or ws 2 0)) r.words;
            whole = r.whole;
            place = r.place;
            few = r.few;
            turns = omega arith;
            room = omega arith;
            busy = r.busy;
            editors = r.editors;
            each = fits_set o n s.views id w (λ j u _ e. r.each j u e) record {
              from = mine.from;
              stands = tt;
              told = (n.list, refl);
              count = mine.count;
              lines = (record { at = right.at; first = right.first; last = right.last; own = right.own; seen = both.2 }, tt);
            };
          },
          (refl, both.0, both.1),
        )

    -- the first pass takes in another, with all that it keeps
    pub gathers : (id : ℕ) (p : Origin) (ls : List Line) (c f other : ℕ) (q : Origin) (l : Line) (d g : ℕ)
        → Joins Rule id (view_of p Idle ls [] c f) other (one_line_view q Idle l d g) (joined_view (view_of p Idle ls [] c f) (one_line_view q Idle l d g)) spent_view
    gathers id p ls c f other q l d g s r at apart there =
        let n = r.now in
        let v : View = view_of p Idle ls [] c f in
        let w : View = one_line_view q Idle l d g in
        let both : View = joined_view v w in
        let was = there_before s id other both w apart there in
        let mine = r.each id v at in
        let theirs = r.each other w was in
        let n' : Progress = gathered_now n id other in
        let vs : List View = set s.views id both in
        let many : ℕ = length ls in
        let tickets_set : total tickets vs + 0 ≡ total tickets s.views + 0 = total-set tickets s.views id v both at in
        let tickets_gone : total tickets (set vs other spent_view) + 0 ≡ total tickets vs + 0 = total-set tickets vs other w spent_view there in
        let lines_set : total line_count vs + many ≡ total line_count s.views + suc many = total-set line_count s.views id v both at in
        let lines_gone : total line_count (set vs other spent_view) + 1 ≡ total line_count vs + 0 = total-set line_count vs other w spent_view there in
        let turns = r.turns in
        let room = r.room in
        record {
          now = n';
          words = r.words;
          whole = r.whole;
          place = r.place;
          few = r.few;
          turns = omega arith;
          room = omega arith;
          busy = r.busy;
          editors = r.editors;
          each = fits_set o n' vs other spent_view
              (λ i y away e'. ⊎_elim
              (λ (t : (i ≡ id) × (both ≡ y)). subst (λ (z : ℕ × View). IsRightView o n' z.0 z.1) (λ k. (sym t.0 k, t.1 k)) record {
                from = mine.from;
                stands = tt;
                told = (n.list, refl);
                count = max-le mine.count theirs.count;
                lines = (right_comes o n id other l theirs.lines.0, each_map _ _ ls (λ z h. right_stays o n id other id z (λ e. apart (sym e)) h) mine.lines);
              })
              (λ (t : (i ≢ id) × (get_elem? s.views i ≡ some y)). let h = r.each i y t.1 in record {
                from = h.from;
                stands = stands_gathered n id other i y y.stage h.stands;
                told = h.told;
                count = h.count;
                lines = each_map _ _ y.lines (λ z e. right_stays o n id other i z away e) h.lines;
              })
              (at_set s.views id i both y e'))
              (spent_fits n' other);
        }

    -- Where a seat has a line of each pass, no other seat has a ticket.
    no_ticket : (id : ℕ) (v : View) (xs : List PassValue) → v.lines ≡ map pass_line xs → ((k : ℕ) → 1 ≤ k → k ≤ o.passes → Any (λ (x : PassValue). x.number ≡ k) xs) → (s : State (Maybe T) View) (r : Rule s) → get_elem? s.views id ≡ some v
        → (j : ℕ) (u : View) → get_elem? (set s.views id spent_view) j ≡ some u → tickets u ≤ 0
    no_ticket id v xs same all s r at j u e =
        ⊎_elim
        (λ (t : (j ≡ id) × (spent_view ≡ u)). subst (λ (z : View). tickets z ≤ 0) t.1 (omega arith))
        (λ (t : (j ≢ id) × (get_elem? s.views j ≡ some u)). let h = r.each j u t.1 in by_stage (λ k lo hi. all_here k lo hi) t.0 u.stage h.stands u.lines refl h.lines)
        (at_set s.views id j spent_view u e)
      where
        n : Progress
        n = r.now

        all_here : (k : ℕ) → 1 ≤ k → k ≤ o.passes → n.seat_of_number k ≡ id
        all_here k lo hi =
            let R : Line → Type 0 = IsRightLine o n.seat_of_number n.gained n.list id in
            let each = each_unmap R xs (subst (Each R) same (r.each id v at).lines) in
            let found = all_any (λ x. R (pass_line x)) (λ x. x.number ≡ k) xs (All-from_recursion (λ (x : PassValue). R (pass_line x)) xs each) (all k lo hi) in
            ap n.seat_of_number (sym found.2) ∙ found.1.at

        by_lines : (ls : List Line) → 1 ≤ length ls → Each (IsRightLine o n.seat_of_number n.gained n.list j) ls → n.seat_of_number (first_line ls).number ≡ j × (1 ≤ (first_line ls).number) × ((first_line ls).number ≤ o.passes)
        by_lines [] h z = absurd (omega arith)
        by_lines (l ∷ ls) h z = (z.0.at, z.0.first, z.0.last)

        by_stage : ((k : ℕ) → 1 ≤ k → k ≤ o.passes → n.seat_of_number k ≡ id) → j ≢ id → (st : Stage) → FitsStage n j u st → (ls : List Line) → u.lines ≡ ls → Each (IsRightLine o n.seat_of_number n.gained n.list j) ls → stage_tickets st ≤ 0
        by_stage here apart Idle h ls is z = omega arith
        by_stage here apart (Waits t) h ls is z = let f = by_lines ls (subst (λ (x : List Line). 1 ≤ length x) is h.line) z in absurd (apart (sym f.0 ∙ here _ f.1 f.2))
        by_stage here apart (Holds t) h ls is z = let f = by_lines ls (subst (λ (x : List Line). 1 ≤ length x) is h.line) z in absurd (apart (sym f.0 ∙ here _ f.1 f.2))

    -- at the end a seat with a line of each pass knows all of them, and the value is in its slot
    pub ends : (id : ℕ) (p : Origin) (xs : List PassValue) (c f : ℕ) (ws : List ℕ) (ys : List (Maybe T)) → ((k : ℕ) → 1 ≤ k → k ≤ o.passes → Any (λ (x : PassValue). x.number ≡ k) xs) → Final (Seen Rule id (view_of p Idle (map pass_line xs) [] c f)) ws ys
        → (y : T) × (get_elem? ys 0 ≡ some (Some y)) × Ended entries faults setting o (map pass_line xs) c y
    ends id p xs c f ws ys all fin = by_out fin.0 fin.1.0 fin.1.1 fin.4 fin.1.0.now.is_out refl
      where
        by_out : (s : State (Maybe T) View) (r : Rule s) → get_elem? s.views id ≡ some (view_of p Idle (map pass_line xs) [] c f) → ((k : ℕ) (y : Maybe T) → get_elem? s.homes k ≡ some (some y) → get_elem? ys k ≡ some y) → (b : Bool) → r.now.is_out ≡ b
            → (y : T) × (get_elem? ys 0 ≡ some (Some y)) × Ended entries faults setting o (map pass_line xs) c y
        by_out s r at homes true is =
            let n = r.now in
            let v : View = view_of p Idle (map pass_line xs) [] c f in
            let vs : List View = set s.views id spent_view in
            let none_left : total tickets vs ≤ 0 = total-zero tickets vs (no_ticket id v xs refl all s r at) in
            let tickets_set : total tickets vs + 0 ≡ total tickets s.views + 0 = total-set tickets s.views id v spent_view at in
            let turns = r.turns in
            let busy = r.busy is in
            absurd (omega arith)
        by_out s r at homes false is =
            let n = r.now in
            let v : View = view_of p Idle (map pass_line xs) [] c f in
            let mine = r.each id v at in
            let place = subst (FitsSlot entries faults setting o n.list n.count s.homes) is r.place in
            let y : T = place.0 in
            let home = place.2 in
            let same : faults y ≡ n.count = home.same_count in
            let seen_count : c ≤ n.count = mine.count in (
              y,
              homes 0 (Some y) (ap (λ (hs : List (Option (Maybe T))). get_elem? hs 0) place.1),
              record {
                gained = n.gained;
                grown = home.same_list ∙ r.whole;
                editors = r.editors;
                lines = each_map _ _ (map pass_line xs) (λ l h. record { own = h.own; seen = subst (IsPrefix l.seen) (sym home.same_list) h.seen }) mine.lines;
                count = omega arith;
                same_setting = home.same_setting;
              },
            )
