-- The steps of a turn keep the rule.
use Rattle.std.proofs.Common.{◌≡◌, ◌≢◌, ℕ, ◌+◌, ◌%◌, ◌^◌, ◌<◌, ◌≤◌, Bool, true, false, cond, eqb, List, [], ◌∷◌, ◌++◌, length, set, get_or, Some, refl, sym, ap, ◌∙◌, subst, ⊎_elim, arith, length-append, append_assoc, eq-eqb, ne_eqb, true≢false, le_refl}
use Rattle.std.specs.Prelude.{Option as Maybe, unwrap_or}
use Rattle.std.proofs.Math.Nat.{mod-eq_of_lt}
use mathlib.Core.Option.{Option, none, some}
use mathlib.Core.Logic.{dite}
use native.Mathlib.Decide.{ℕ_discrete}
use lib.ListN.{get_elem?}
use lib.Seq.{set-get_or}
use Rattle.atomic_table.specs.Table.{State, step, Act, keeps, takes, gives, Allows, stepped, Valid, carried_after}
use Rattle.atomic_table.proofs.Lists.{at_set, set_again, one_turn}
use Rattle.topo_base.specs.declared.edit.Entry.{Entry}
use Rattle.commit_lock.specs.declared.setting.Setting.{Setting}
use Rattle.commit_lock.specs.declared.view.Origin.{Origin}
use Rattle.commit_lock.specs.declared.view.Line.{Line}
use Rattle.commit_lock.specs.declared.view.View.{View}
use Rattle.commit_lock.specs.declared.view.Stage.{Stage}
use Rattle.commit_lock.specs.declared.view.Stage.TheVariants.{Idle, Waits, Holds}
use Rattle.commit_lock.specs.History.{IsPrefix, IsEditor}
use Rattle.commit_lock.specs.Views.{one_line_view}
use Rattle.commit_lock.specs.TableRule.{Progress, total, tickets, line_count, stage_tickets, FitsStage, IsRightLine, IsRightView, FitsSlot, IsConsistent}
use Rattle.commit_lock.specs.Steps.{DrawsTicket, LoadsServing, HasTurn, AddsEntry, EndsTurn, holding_view, grown_view, passed_view}
use Rattle.commit_lock.proofs.Lists.{prefix_refl, prefix_more, own_entries-snoc, own_entries-other, next_mod, total-set, total-le, each_map, each_append}

pub fits_set : (o : Origin) (n : Progress) (views : List View) (id : ℕ) (w : View) → ((j : ℕ) (u : View) → j ≢ id → get_elem? views j ≡ some u → IsRightView o n j u) → IsRightView o n id w
    → (j : ℕ) (u : View) → get_elem? (set views id w) j ≡ some u → IsRightView o n j u
fits_set o n views id w others mine j u e =
    ⊎_elim
    (λ (x : (j ≡ id) × (w ≡ u)). subst (λ (y : ℕ × View). IsRightView o n y.0 y.1) (λ i. (sym x.0 i, x.1 i)) mine)
    (λ (x : (j ≢ id) × (get_elem? views j ≡ some u)). others j u x.0 x.1)
    (at_set views id j w u e)

pub ticket_line : (n : Progress) (j : ℕ) (v : View) (st : Stage) → FitsStage n j v st → stage_tickets st ≤ length v.lines
ticket_line n j v Idle h = omega arith
ticket_line n j v (Waits t) h = h.line
ticket_line n j v (Holds t) h = h.line

abbrev carried_value : {T : Type 0} → T → List (ℕ × Maybe T) → T
carried_value d [] = d
carried_value d (x ∷ xs) = unwrap_or x.1 d

-- the next ticket goes to this seat
abbrev drawn_now : Progress → ℕ → Progress
drawn_now n id = record { drawn = n.drawn + 1; served = n.served; list = n.list; gained = n.gained; count = n.count; is_out = n.is_out; seat_of_ticket = λ x. cond (eqb x n.drawn) id (n.seat_of_ticket x); seat_of_number = n.seat_of_number }

abbrev taken_now : Progress → Progress
taken_now n = record { drawn = n.drawn; served = n.served; list = n.list; gained = n.gained; count = n.count; is_out = true; seat_of_ticket = n.seat_of_ticket; seat_of_number = n.seat_of_number }

abbrev grown_now : Progress → Entry → Progress
grown_now n e = record { drawn = n.drawn; served = n.served; list = n.list ++ e ∷ []; gained = n.gained ++ e ∷ []; count = n.count; is_out = n.is_out; seat_of_ticket = n.seat_of_ticket; seat_of_number = n.seat_of_number }

abbrev served_now : Progress → ℕ → Progress
served_now n c = record { drawn = n.drawn; served = n.served + 1; list = n.list; gained = n.gained; count = c; is_out = false; seat_of_ticket = n.seat_of_ticket; seat_of_number = n.seat_of_number }

owned : (n : Progress) (id t : ℕ) → t < n.drawn → cond (eqb t n.drawn) id (n.seat_of_ticket t) ≡ n.seat_of_ticket t
owned n id t l = let ne : t ≢ n.drawn = λ e. omega arith in ap (λ b. cond b id (n.seat_of_ticket t)) (ne_eqb t n.drawn ne)

stands_drawn : (n : Progress) (id j : ℕ) (v : View) (st : Stage) → FitsStage n j v st → FitsStage (drawn_now n id) j v st
stands_drawn n id j v Idle h = tt
stands_drawn n id j v (Waits t) h = let l = h.high in record { low = h.low; high = omega arith; own = owned n id t l ∙ h.own; later = h.later; line = h.line }
stands_drawn n id j v (Holds t) h = let l = h.high in record { turn = h.turn; high = omega arith; own = owned n id t l ∙ h.own; out = h.out; line = h.line; count = h.count; whole = h.whole }

-- another seat's stage, when the seat that owns the served ticket takes its turn
stands_taken : (n : Progress) (id j : ℕ) (v : View) → n.seat_of_ticket n.served ≡ id → j ≢ id → n.is_out ≡ false → (st : Stage) → FitsStage n j v st → FitsStage (taken_now n) j v st
stands_taken n id j v own other home Idle h = tt
stands_taken n id j v own other home (Waits t) h = record { low = h.low; high = h.high; own = h.own; later = λ _ e. other (sym h.own ∙ (ap n.seat_of_ticket e ∙ own)); line = h.line }
stands_taken n id j v own other home (Holds t) h = absurd (true≢false (sym h.out ∙ home))

-- no other seat has the turn
stands_grown : (n : Progress) (e : Entry) (id j : ℕ) (v : View) → n.seat_of_ticket n.served ≡ id → j ≢ id → (st : Stage) → FitsStage n j v st → FitsStage (grown_now n e) j v st
stands_grown n e id j v own other Idle h = tt
stands_grown n e id j v own other (Waits t) h = record { low = h.low; high = h.high; own = h.own; later = h.later; line = h.line }
stands_grown n e id j v own other (Holds t) h = absurd (other (sym h.own ∙ (ap n.seat_of_ticket h.turn ∙ own)))

stands_served : (n : Progress) (c id j : ℕ) (v : View) → n.seat_of_ticket n.served ≡ id → j ≢ id → (st : Stage) → FitsStage n j v st → FitsStage (served_now n c) j v st
stands_served n c id j v own other Idle h = tt
stands_served n c id j v own other (Waits t) h =
    let low = h.low in
    let ne : t ≢ n.served = λ e. other (sym h.own ∙ (ap n.seat_of_ticket e ∙ own)) in
    record { low = omega arith; high = h.high; own = h.own; later = λ b. absurd (true≢false (sym b)); line = h.line }
stands_served n c id j v own other (Holds t) h = absurd (other (sym h.own ∙ (ap n.seat_of_ticket h.turn ∙ own)))

-- a line of another seat, when an entry of this one's number comes
right_grown : (o : Origin) (seat_of_number : ℕ → ℕ) (gained list : List Entry) (e : Entry) (id j : ℕ) → seat_of_number e.editor ≡ id → j ≢ id → (l : Line) → IsRightLine o seat_of_number gained list j l → IsRightLine o seat_of_number (gained ++ e ∷ []) (list ++ e ∷ []) j l
right_grown o seat_of_number gained list e id j own other l r =
    let ne : e.editor ≢ l.number = λ is. other (sym r.at ∙ (ap seat_of_number (sym is) ∙ own)) in
    record { at = r.at; first = r.first; last = r.last; own = r.own ∙ sym (own_entries-other l.number (length o.opening + 1) gained e ne); seen = prefix_more l.seen list (e ∷ []) r.seen }

last_same : (xs : List Entry) (e e' : Entry) → xs ++ e ∷ [] ≡ xs ++ e' ∷ [] → e ≡ e'
last_same [] e e' is = cc
last_same (x ∷ xs) e e' is = last_same xs e e' cc

module _ {T : Type 0} (entries : T → List Entry) (faults : T → ℕ) (setting : T → Setting) (o : Origin) where
  abbrev LockState : Type 0
  LockState = State (Maybe T) View

  abbrev Rule : LockState → Type 0
  Rule = IsConsistent entries faults setting o

  abbrev Slot : List Entry → ℕ → List (Option (Maybe T)) → Bool → Type 0
  Slot = FitsSlot entries faults setting o

  pub unmoved : (s : LockState) (i id : ℕ) (v : View) → get_elem? s.views id ≡ some v → Rule s → Rule record { words = set s.words i (get_or s.words i 0); homes = s.homes; views = set s.views id v }
  unmoved s i id v at k = subst (λ (x : List ℕ × List View). Rule record { words = x.0; homes = s.homes; views = x.1 }) (λ i'. (sym (set-get_or s.words i 0) i', sym (set_again s.views id v at) i')) k

  pub draws : (slots id : ℕ) (p : Origin) (l : Line) (c f : ℕ)
      → Allows Rule slots id (one_line_view p Idle l c f, []) 0 (λ n. (n + 1) % 2 ^ 64) (DrawsTicket (step slots 0 1 0 none) (one_line_view p Idle l c f, []))
  draws slots id p l c f s k is at small =
      let n = k.now in
      let v : View = one_line_view p Idle l c f in
      let w : View = one_line_view p (Waits n.drawn) l c f in
      let mine = k.each id v at in
      let busy = k.busy in
      let n' : Progress = drawn_now n id in
      let more : total tickets (set s.views id w) + 0 ≡ total tickets s.views + 1 = total-set tickets s.views id v w at in
      let same : total line_count (set s.views id w) + 1 ≡ total line_count s.views + 1 = total-set line_count s.views id v w at in
      let turns = k.turns in
      let room = k.room in
      let low : n.served ≤ n.drawn = omega arith in (
        w,
        keeps,
        tt,
        record {
          now = n';
          words = ap (λ (ws : List ℕ). set ws 0 ((get_or ws 0 0 + 1) % 2 ^ 64)) k.words ∙ ap (λ (x : ℕ). x ∷ n.served % 2 ^ 64 ∷ length n.gained ∷ []) (next_mod n.drawn (2 ^ 64));
          whole = k.whole;
          place = k.place;
          few = k.few;
          turns = omega arith;
          room = omega arith;
          busy = λ b. let lt = busy b in omega arith;
          editors = k.editors;
          each = fits_set o n' s.views id w
              (λ j u other e. let h = k.each j u e in record { from = h.from; stands = stands_drawn n id j u u.stage h.stands; told = h.told; count = h.count; lines = h.lines })
              record { from = mine.from; stands = record { low = low; high = omega arith; own = ap (λ b. cond b id (n.seat_of_ticket n.drawn)) (eq-eqb n.drawn n.drawn refl); later = λ b e. let lt = busy b in omega arith; line = omega arith }; told = mine.told; count = mine.count; lines = mine.lines };
        },
        (n.drawn, sym (ap (λ (ws : List ℕ). get_or ws 0 0) k.words), refl),
      )

  -- the waiting seat's ticket is served where the words agree
  called_now : (s : LockState) (k : Rule s) (id t : ℕ) (v : View) → get_elem? s.views id ≡ some v → FitsStage k.now id v (Waits t) → get_or s.words 1 0 ≡ t % 2 ^ 64 → k.now.served ≡ t
  called_now s k id t v at h is =
      let n = k.now in
      let here : n.served % 2 ^ 64 ≡ t % 2 ^ 64 = sym (ap (λ (ws : List ℕ). get_or ws 1 0) k.words) ∙ is in
      let few = k.few in let room = k.room in let turns = k.turns in let low = h.low in let high = h.high in
      let below : total tickets s.views ≤ total line_count s.views = total-le tickets line_count s.views (λ j u e. ticket_line n j u u.stage (k.each j u e).stands) in
      one_turn n.served t (2 ^ 64) low (omega arith) here

  takes_turn : (slots id : ℕ) (p : Origin) (t : ℕ) (l : Line) (c f : ℕ) (s : LockState) (k : Rule s) → get_elem? s.views id ≡ some (one_line_view p (Waits t) l c f) → k.now.served ≡ t → (b : Bool) → k.now.is_out ≡ b
      → (w : View) × (a : Act (Maybe T)) × Valid s.homes [] a × Rule (stepped s 1 (get_or s.words 1 0) id [] w a) × HasTurn entries faults setting (one_line_view p (Waits t) l c f) t (w, carried_after [] a)
  takes_turn slots id p t l c f s k at now true is = absurd (((k.each id (one_line_view p (Waits t) l c f) at).stands).later is (sym now))
  takes_turn slots id p t l c f s k at now false is =
      let n = k.now in
      let v : View = one_line_view p (Waits t) l c f in
      let mine = k.each id v at in
      let stands = mine.stands in
      let place = subst (Slot n.list n.count s.homes) is k.place in
      let y : T = place.0 in
      let home = place.2 in
      let w : View = holding_view v t (entries y) (faults y) in
      let n' : Progress = taken_now n in
      let own : n.seat_of_ticket n.served ≡ id = ap n.seat_of_ticket now ∙ stands.own in
      let more : total tickets (set s.views id w) + 1 ≡ total tickets s.views + 1 = total-set tickets s.views id v w at in
      let same : total line_count (set s.views id w) + 1 ≡ total line_count s.views + 1 = total-set line_count s.views id v w at in
      let turns = k.turns in
      let room = k.room in
      let high : t < n.drawn = stands.high in
      let right = mine.lines.0 in
      let all : IsPrefix (entries y) n.list = subst (IsPrefix (entries y)) home.same_list (prefix_refl (entries y)) in
      let few_seen : c ≤ n.count = mine.count in
      let counts : faults y ≡ n.count = home.same_count in (
        w,
        takes 0 (Some y),
        ap (λ (hs : List (Option (Maybe T))). get_elem? hs 0) place.1,
        record {
          now = n';
          words = ap (λ (ws : List ℕ). set ws 1 (get_or ws 1 0)) k.words;
          whole = k.whole;
          place = ap (λ (hs : List (Option (Maybe T))). set hs 0 none) place.1;
          few = k.few;
          turns = omega arith;
          room = omega arith;
          busy = λ _. omega arith;
          editors = k.editors;
          each = fits_set o n' s.views id w
              (λ j u other e. let h = k.each j u e in record { from = h.from; stands = stands_taken n id j u own other is u.stage h.stands; told = h.told; count = h.count; lines = h.lines })
              record {
                from = mine.from;
                stands = record { turn = sym now; high = high; own = stands.own; out = refl; line = omega arith; count = counts; whole = (home.same_list, tt) };
                told = mine.told;
                count = omega arith;
                lines = (record { at = right.at; first = right.first; last = right.last; own = right.own; seen = all }, tt);
              };
        },
        record {
          value = y;
          me = refl;
          longer_seen = subst (IsPrefix l.seen) (sym home.same_list) right.seen;
          more = omega arith;
          same_setting = home.same_setting ∙ ap (λ (q : Origin). q.setting) (sym (mine.from refl));
        },
      )

  pub calls : (slots id : ℕ) (p : Origin) (t : ℕ) (l : Line) (c f : ℕ)
      → Allows Rule slots id (one_line_view p (Waits t) l c f, []) 1 (λ n. n) (LoadsServing entries faults setting (step slots 1 0 0 none) (one_line_view p (Waits t) l c f, []))
  calls slots id p t l c f s k is at small =
      let v : View = one_line_view p (Waits t) l c f in
      dite (ℕ_discrete (get_or s.words 1 0) (t % 2 ^ 64))
      (λ here. let r = takes_turn slots id p t l c f s k at (called_now s k id t v at (k.each id v at).stands here) k.now.is_out refl in (r.0, r.1, r.2, r.3, ((λ _. r.4), (λ away. absurd (away here)))))
      (λ away. (v, keeps, tt, unmoved s 1 id v at k, ((λ here. absurd (away here)), (λ _. refl))))

  pub grows : (slots id : ℕ) (p : Origin) (t : ℕ) (l : Line) (c f : ℕ) (y : T) (e : Entry) → entries y ≡ l.seen ++ e ∷ [] → e.editor ≡ l.number → length (entries y) < length p.opening + 2 ^ 64
      → Allows Rule slots id (one_line_view p (Holds t) l c f, (0, Some y) ∷ []) 2 (λ n. (n + 1) % 2 ^ 64) (AddsEntry entries (step slots 2 1 0 none) (one_line_view p (Holds t) l c f, (0, Some y) ∷ []))
  grows slots id p t l c f y e more by fits s k is at small =
      let n = k.now in
      let v : View = one_line_view p (Holds t) l c f in
      let mine = k.each id v at in
      let stands = mine.stands in
      let w : View = grown_view v e in
      let n' : Progress = grown_now n e in
      let right = mine.lines.0 in
      let own : n.seat_of_ticket n.served ≡ id = ap n.seat_of_ticket (sym stands.turn) ∙ stands.own in
      let same_seen : l.seen ≡ n.list = stands.whole.0 in
      let from : p ≡ o = mine.from refl in
      let long : length l.seen ≡ length o.opening + length n.gained = ap length (same_seen ∙ k.whole) ∙ length-append o.opening n.gained in
      let long' : length (entries y) ≡ length l.seen + 1 = ap length more ∙ length-append l.seen (e ∷ []) in
      let begun : length p.opening ≡ length o.opening = ap (λ (q : Origin). length q.opening) from in
      let small' : length n.gained + 1 < 2 ^ 64 = omega arith in
      let next : (length n.gained + 1) % 2 ^ 64 ≡ length (n.gained ++ e ∷ []) = mod-eq_of_lt small' ∙ sym (length-append n.gained (e ∷ [])) in
      let at_place : (length o.opening + 1) + length n.gained ≡ length l.seen + 1 = omega arith in
      let tickets_same : total tickets (set s.views id w) + 1 ≡ total tickets s.views + 1 = total-set tickets s.views id v w at in
      let lines_same : total line_count (set s.views id w) + 1 ≡ total line_count s.views + 1 = total-set line_count s.views id v w at in
      let turns = k.turns in
      let room = k.room in
      let first = right.first in
      let last = right.last in (
        w,
        keeps,
        tt,
        record {
          now = n';
          words = ap (λ (ws : List ℕ). set ws 2 ((get_or ws 2 0 + 1) % 2 ^ 64)) k.words ∙ ap (λ (x : ℕ). n.drawn % 2 ^ 64 ∷ n.served % 2 ^ 64 ∷ x ∷ []) next;
          whole = ap (λ (xs : List Entry). xs ++ e ∷ []) k.whole ∙ append_assoc o.opening n.gained (e ∷ []);
          place = subst (λ b. Slot n.list n.count s.homes b → Slot n'.list n'.count s.homes b) (sym stands.out) (λ h. h) k.place;
          few = k.few;
          turns = omega arith;
          room = omega arith;
          busy = k.busy;
          editors = each_append (IsEditor o.passes) n.gained (e ∷ []) k.editors ((omega arith, omega arith), tt);
          each = fits_set o n' s.views id w
              (λ j u other x. let h = k.each j u x in record {
                from = h.from;
                stands = stands_grown n e id j u own other u.stage h.stands;
                told = prefix_more u.told n.list (e ∷ []) h.told;
                count = h.count;
                lines = each_map _ _ u.lines (λ z r. right_grown o n.seat_of_number n.gained n.list e id j (ap n.seat_of_number by ∙ right.at) other z r) h.lines;
              })
              record {
                from = mine.from;
                stands = record { turn = stands.turn; high = stands.high; own = stands.own; out = stands.out; line = omega arith; count = stands.count; whole = (ap (λ (xs : List Entry). xs ++ e ∷ []) same_seen, tt) };
                told = (n.list ++ e ∷ [], refl);
                count = mine.count;
                lines = (
                  record {
                    at = right.at;
                    first = right.first;
                    last = right.last;
                    own = (λ i. right.own i ++ (sym at_place i, e) ∷ []) ∙ sym (own_entries-snoc l.number (length o.opening + 1) n.gained e by);
                    seen = subst (λ (xs : List Entry). IsPrefix (xs ++ e ∷ []) (n.list ++ e ∷ [])) (sym same_seen) (prefix_refl (n.list ++ e ∷ []));
                  },
                  tt,
                );
              };
        },
        λ y' e' carried more'.
            let ys : y ≡ y' = ap (carried_value y) carried in
            let es : e ≡ e' = last_same l.seen e e' (sym more ∙ (ap entries ys ∙ more')) in
            ap (λ (x : Entry). (grown_view v x, (0, Some y) ∷ [])) es,
      )

  pub serves : (slots id : ℕ) (p : Origin) (t : ℕ) (l : Line) (c f : ℕ) (y : T) → entries y ≡ l.seen → setting y ≡ p.setting → c ≤ faults y
      → Allows Rule slots id (one_line_view p (Holds t) l c f, (0, Some y) ∷ []) 1 (λ n. (n + 1) % 2 ^ 64) (EndsTurn faults (step slots 1 1 0 none) (one_line_view p (Holds t) l c f, (0, Some y) ∷ []))
  serves slots id p t l c f y same_list same_set more s k is at small =
      let n = k.now in
      let v : View = one_line_view p (Holds t) l c f in
      let mine = k.each id v at in
      let stands = mine.stands in
      let w : View = passed_view v (faults y) in
      let n' : Progress = served_now n (faults y) in
      let right = mine.lines.0 in
      let own : n.seat_of_ticket n.served ≡ id = ap n.seat_of_ticket (sym stands.turn) ∙ stands.own in
      let seen_all : l.seen ≡ n.list = stands.whole.0 in
      let counts : c ≡ n.count = stands.count in
      let from : p ≡ o = mine.from refl in
      let out : s.homes ≡ none ∷ [] = subst (Slot n.list n.count s.homes) stands.out k.place in
      let one_less : total tickets (set s.views id w) + 1 ≡ total tickets s.views + 0 = total-set tickets s.views id v w at in
      let lines_same : total line_count (set s.views id w) + 1 ≡ total line_count s.views + 1 = total-set line_count s.views id v w at in
      let turns = k.turns in
      let room = k.room in
      let told : IsPrefix ([]) n.list = (n.list, refl) in (
        w,
        gives,
        tt,
        record {
          now = n';
          words = ap (λ (ws : List ℕ). set ws 1 ((get_or ws 1 0 + 1) % 2 ^ 64)) k.words ∙ ap (λ (x : ℕ). n.drawn % 2 ^ 64 ∷ x ∷ length n.gained ∷ []) (next_mod n.served (2 ^ 64));
          whole = k.whole;
          place = (y, ap (λ (hs : List (Option (Maybe T))). set hs 0 (some (Some y))) out, record { same_list = same_list ∙ seen_all; same_count = refl; same_setting = same_set ∙ ap (λ (q : Origin). q.setting) from });
          few = k.few;
          turns = omega arith;
          room = omega arith;
          busy = λ b. absurd (true≢false (sym b));
          editors = k.editors;
          each = fits_set o n' s.views id w
              (λ j u other x. let h = k.each j u x in let few_seen = h.count in record {
                from = h.from;
                stands = stands_served n (faults y) id j u own other u.stage h.stands;
                told = h.told;
                count = omega arith;
                lines = h.lines;
              })
              record { from = mine.from; stands = tt; told = told; count = le_refl (faults y); lines = mine.lines };
        },
        λ y' carried. let ys : y ≡ y' = ap (carried_value y) carried in ap (λ (x : T). (passed_view v (faults x), [])) ys,
      )
