-- What each write and each sync keeps.
use Rattle.std.proofs.Common.{◌≡◌, ◌≢◌, ◌<◌, ◌≤◌, inl, inr, ⊎_elim, ℕ, ◌+◌, List, [], ◌∷◌, ◌++◌, length, take, drop, get_or, refl, sym, ◌∙◌, ap, subst, arith, append_assoc, length-append, take-append-drop}
use Rattle.std.proofs.lemmas.List.{take_at, drop_at, take-take, get_or-take, get_or_at, take_more}
use Rattle.topo_disk.specs.Disk.{Holds, Torn, Follows, Only, Within, Elapses, LeavesOnly}
use Rattle.topo_journal.specs.Bytes.{frame}
use Rattle.topo_journal.specs.Kept.{IsClosedAfter, IsFramedAfter, Each}
use Rattle.topo_journal.proofs.Fronts.{framed_rest}

pub closed_at : (front c : List ℕ) (gate : ℕ) (rest : List ℕ) → gate ≢ 1 → c ≡ front ++ gate ∷ rest → IsClosedAfter front c
closed_at front c gate rest shut is = record {
  front_same = ap (λ (l : List ℕ). take (length front) l) is ∙ take_at front (gate ∷ rest) (length front) refl;
  within = omega (arith, ap length is, length-append front (gate ∷ rest));
  shut = λ e. shut (sym (ap (λ (l : List ℕ). get_or l (length front) 0) is ∙ get_or_at front gate rest 0 (length front) refl) ∙ e);
}

pub closed_torn : (front : List ℕ) (n : ℕ) (d c : List ℕ) → Torn (length front + 1) n d c → IsClosedAfter front d → IsClosedAfter front c
closed_torn front n d c torn closed =
    let k = length front in
    let le : k ≤ k + 1 = omega arith in
    let lt : k < k + 1 = omega arith in
    let same : get_or c k 0 ≡ get_or d k 0 = sym (get_or-take (k + 1) c k 0 lt) ∙ ap (λ (l : List ℕ). get_or l k 0) torn.before ∙ get_or-take (k + 1) d k 0 lt in
    record {
      front_same = sym (take-take k (k + 1) c le) ∙ ap (λ (l : List ℕ). take k l) torn.before ∙ take-take k (k + 1) d le ∙ closed.front_same;
      within = omega (arith, torn.no_shorter, closed.within);
      shut = λ e. closed.shut (sym same ∙ e);
    }

pub framed_torn : (front body d c : List ℕ) → Torn (length front) 1 d c → IsFramedAfter front body d → IsFramedAfter front body c
framed_torn front body d c torn framed = record {
  front_same = torn.before ∙ framed.front_same;
  framed = ap (λ (l : List ℕ). take (length (frame body) + 1) l) torn.after ∙ framed.framed;
}

-- one byte over the gate
over_gate : (front body d c : List ℕ) (gate : ℕ) → Holds d (length front) (gate ∷ []) c → IsFramedAfter front body d → c ≡ front ++ gate ∷ drop (length front + 1) d
over_gate front body d c gate holds framed =
    holds ∙ ap (λ (l : List ℕ). l ++ (gate ∷ []) ++ drop (length front + 1) d) framed.front_same ∙ append_assoc front (gate ∷ []) (drop (length front + 1) d)

pub closed_written : (front body d c : List ℕ) → Holds d (length front) (0 ∷ []) c → IsFramedAfter front body d → IsClosedAfter front c
closed_written front body d c holds framed = closed_at front c 0 (drop (length front + 1) d) (omega arith) (over_gate front body d c 0 holds framed)

pub opened_written : (front body d c : List ℕ) → Holds d (length front) (1 ∷ []) c → IsFramedAfter front body d → IsClosedAfter (front ++ 1 ∷ frame body) c
opened_written front body d c holds framed =
    let k = length (frame body) + 1 in
    let behind : drop (length front + 1) d ≡ frame body ++ 0 ∷ framed_rest front body d =
    sym (take-append-drop k (drop (length front + 1) d)) ∙ ap (λ (l : List ℕ). l ++ drop k (drop (length front + 1) d)) framed.framed ∙ append_assoc (frame body) (0 ∷ []) (framed_rest front body d) in
    closed_at (front ++ 1 ∷ frame body) c 0 (framed_rest front body d) (omega arith)
    (over_gate front body d c 1 holds framed ∙ ap (λ (l : List ℕ). front ++ 1 ∷ l) behind ∙ sym (append_assoc front (1 ∷ frame body) (0 ∷ framed_rest front body d)))

-- a frame behind the gate
pub framed_written : (front body d c : List ℕ) → Holds d (length front + 1) (frame body ++ 0 ∷ []) c → IsClosedAfter front d → IsFramedAfter front body c
framed_written front body d c holds closed =
    let n = length front in let gate = get_or d n 0 in let bytes = frame body ++ 0 ∷ [] in let rest = drop (n + 1 + length bytes) d in
    let begin : take (n + 1) d ≡ front ++ gate ∷ [] = take_more d n 0 closed.within ∙ ap (λ (l : List ℕ). l ++ gate ∷ []) closed.front_same in
    let is : c ≡ (front ++ gate ∷ []) ++ (bytes ++ rest) = holds ∙ ap (λ (l : List ℕ). l ++ bytes ++ rest) begin ∙ append_assoc (front ++ gate ∷ []) bytes rest in
    let behind : drop (n + 1) c ≡ bytes ++ rest = ap (λ (l : List ℕ). drop (n + 1) l) is ∙ drop_at (front ++ gate ∷ []) (bytes ++ rest) (n + 1) (length-append front (gate ∷ [])) in
    record {
      front_same = ap (λ (l : List ℕ). take n l) (is ∙ append_assoc front (gate ∷ []) (bytes ++ rest)) ∙ take_at front (gate ∷ (bytes ++ rest)) n refl;
      framed = ap (λ (l : List ℕ). take (length (frame body) + 1) l) behind ∙ take_at bytes rest (length (frame body) + 1) (length-append (frame body) (0 ∷ []));
    }

pub each_torn : (P : List ℕ → Type 0) (step : List ℕ → List ℕ → Type 0) → ((d c : List ℕ) → step d c → P d → P c) → (seen seen' : List ℕ) (outcomes outcomes' : List ℕ → Type 0)
    → Each P seen outcomes → step seen seen' → Follows step outcomes outcomes' → Each P seen' outcomes'
each_torn P step keeps seen seen' outcomes outcomes' each changed follows = record {
  now = keeps seen seen' changed each.now;
  crashed = λ c left. let from = follows c left in keeps from.0 c from.2 (each.crashed from.0 from.1);
}

pub each_synced : (P : List ℕ → Type 0) (seen seen' : List ℕ) (outcomes outcomes' : List ℕ → Type 0) → Each P seen outcomes → seen' ≡ seen → Within outcomes' outcomes → Each P seen' outcomes'
each_synced P seen seen' outcomes outcomes' each same fewer = record { now = subst P (sym same) each.now; crashed = λ c left. each.crashed c (fewer c left) }

pub each_kept : (P : List ℕ → Type 0) (written seen : List ℕ) (outcomes : List ℕ → Type 0) → P written → seen ≡ written → Only written outcomes → Each P seen outcomes
each_kept P written seen outcomes holds same only = record { now = subst P (sym same) holds; crashed = λ c left. subst P (sym (only c left)) holds }

module _ {D : Type 0} (moment : D → ℕ) (left_since : D → ℕ → List ℕ → Type 0) where
  -- before the first call
  pub started : (old : D) (P : List ℕ → Type 0) → ((c : List ℕ) → left_since old (moment old) c → P c) → LeavesOnly moment left_since old old P
  started old P here = record { later = omega arith; each = here; before = λ t c le left. inl left }

  -- one call more, after which a crash leaves what has P
  pub goes_on : (old mid new : D) (P may_leave : List ℕ → Type 0) → LeavesOnly moment left_since old mid P → Elapses (moment mid) (moment new) (left_since mid) (left_since new) may_leave
      → ((c : List ℕ) → may_leave c → P c) → LeavesOnly moment left_since old new P
  goes_on old mid new P may_leave so_far time here = record {
    later = omega (arith, so_far.later, time.later);
    each = λ c left. ⊎_elim (so_far.each c) (here c) (time.nothing_else (moment old) c so_far.later left);
    before = λ t c le left. ⊎_elim (so_far.before t c le) (λ now. inr (here c now)) (time.nothing_else t c (omega (arith, le, so_far.later)) left);
  }

  -- one part, and then another
  pub joined : (old mid new : D) (P Q R : List ℕ → Type 0) → LeavesOnly moment left_since old mid P → LeavesOnly moment left_since mid new Q → ((c : List ℕ) → P c → R c) → ((c : List ℕ) → Q c → R c) → LeavesOnly moment left_since old new R
  joined old mid new P Q R first second p q = record {
    later = omega (arith, first.later, second.later);
    each = λ c left. ⊎_elim (λ was. p c (first.each c was)) (q c) (second.before (moment old) c first.later left);
    before = λ t c le left. ⊎_elim (λ was. ⊎_elim (λ is. inl is) (λ is. inr (p c is)) (first.before t c le was)) (λ is. inr (q c is)) (second.before t c (omega (arith, le, first.later)) left);
  }

  pub weaker : (old new : D) (P R : List ℕ → Type 0) → LeavesOnly moment left_since old new P → ((c : List ℕ) → P c → R c) → LeavesOnly moment left_since old new R
  weaker old new P R first p = record {
    later = first.later;
    each = λ c left. p c (first.each c left);
    before = λ t c le left. ⊎_elim (λ is. inl is) (λ is. inr (p c is)) (first.before t c le left);
  }
