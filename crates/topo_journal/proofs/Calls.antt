-- The calls of the gates, one after another.
use Rattle.std.proofs.Common.{◌≡◌, ℕ, ◌+◌, List, [], ◌∷◌, ◌++◌, length, subst, Result, Ok, Err, OnErr}
use Rattle.topo_disk.specs.Disk.{Holds, Torn, Follows, Elapses, LeavesOnly}
use Rattle.topo_journal.specs.Bytes.{frame}
use Rattle.topo_journal.specs.Kept.{IsClosedAfter, IsFramedAfter, Each}
use Rattle.topo_journal.proofs.Steps.{closed_torn, framed_torn, closed_written, opened_written, framed_written, each_torn, started, goes_on}

pub on_err : {T E P : Type 0} (r : Result T E) → P → OnErr r P
on_err (Ok x) p = tt
on_err (Err e) p = p

module _ (front : List ℕ) (gate : ℕ) (at : gate ≡ length front) where
  -- a write behind the gate, whatever became of it
  pub behind : (n : ℕ) (seen seen' : List ℕ) (outcomes outcomes' : List ℕ → Type 0) → Each (IsClosedAfter front) seen outcomes → Torn (gate + 1) n seen seen' → Follows (Torn (gate + 1) n) outcomes outcomes'
      → Each (IsClosedAfter front) seen' outcomes'
  behind n seen seen' outcomes outcomes' = each_torn (IsClosedAfter front) (Torn (gate + 1) n) (λ d c torn. closed_torn front n d c (subst (λ (g : ℕ). Torn (g + 1) n d c) at torn)) seen seen' outcomes outcomes'

  -- a write of the gate, whatever became of it
  pub over : (body seen seen' : List ℕ) (outcomes outcomes' : List ℕ → Type 0) → Each (IsFramedAfter front body) seen outcomes → Torn gate 1 seen seen' → Follows (Torn gate 1) outcomes outcomes'
      → Each (IsFramedAfter front body) seen' outcomes'
  over body seen seen' outcomes outcomes' = each_torn (IsFramedAfter front body) (Torn gate 1) (λ d c torn. framed_torn front body d c (subst (λ (g : ℕ). Torn g 1 d c) at torn)) seen seen' outcomes outcomes'

  pub framed_now : (body framed seen written : List ℕ) → framed ≡ frame body ++ 0 ∷ [] → Holds seen (gate + 1) framed written → IsClosedAfter front seen → IsFramedAfter front body written
  framed_now body framed seen written is holds =
      framed_written front body seen written (subst (λ (g : ℕ). Holds seen (g + 1) (frame body ++ 0 ∷ []) written) at (subst (λ (l : List ℕ). Holds seen (gate + 1) l written) is holds))

  pub closed_now : (body seen written : List ℕ) → Holds seen gate (0 ∷ []) written → IsFramedAfter front body seen → IsClosedAfter front written
  closed_now body seen written holds = closed_written front body seen written (subst (λ (g : ℕ). Holds seen g (0 ∷ []) written) at holds)

  pub opened_now : (body seen written : List ℕ) → Holds seen gate (1 ∷ []) written → IsFramedAfter front body seen → IsClosedAfter (front ++ 1 ∷ frame body) written
  opened_now body seen written holds = opened_written front body seen written (subst (λ (g : ℕ). Holds seen g (1 ∷ []) written) at holds)

-- a run of two calls
pub two_calls : {D : Type 0} (moment : D → ℕ) (left_since : D → ℕ → List ℕ → Type 0) (first mid last : D) (P now then may_leave : List ℕ → Type 0)
    → ((c : List ℕ) → left_since first (moment first) c → may_leave c) → ((c : List ℕ) → may_leave c → P c)
    → Elapses (moment first) (moment mid) (left_since first) (left_since mid) now → ((c : List ℕ) → now c → P c)
    → Elapses (moment mid) (moment last) (left_since mid) (left_since last) then → ((c : List ℕ) → then c → P c)
    → LeavesOnly moment left_since first last P
two_calls moment left_since first mid last P now then may_leave only holds time here time' here' =
    goes_on moment left_since first mid last P then (goes_on moment left_since first first mid P now (started moment left_since first P (λ c left. holds c (only c left))) time here) time' here'

pub one_call : {D : Type 0} (moment : D → ℕ) (left_since : D → ℕ → List ℕ → Type 0) (first last : D) (P now may_leave : List ℕ → Type 0)
    → ((c : List ℕ) → left_since first (moment first) c → may_leave c) → ((c : List ℕ) → may_leave c → P c)
    → Elapses (moment first) (moment last) (left_since first) (left_since last) now → ((c : List ℕ) → now c → P c)
    → LeavesOnly moment left_since first last P
one_call moment left_since first last P now may_leave only holds time here =
    goes_on moment left_since first first last P now (started moment left_since first P (λ c left. holds c (only c left))) time here
