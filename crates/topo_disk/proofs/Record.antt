-- How the record of a disk's calls grows, and what stays.
use Rattle.std.proofs.Common.{◌≡◌, ◌⊎◌, inl, inr, ℕ, ◌+◌, ◌≤◌, true, false, List, [], ◌∷◌, ◌++◌, length, take, get_or, refl, sym, ◌∙◌, ap, subst, arith, length-append, Result, Ok, Err, OnOk, OnErr}
use Rattle.std.proofs.lemmas.Bool.{cases_eq}
use Rattle.std.proofs.lemmas.List.{take_all, take-append-le}
use Rattle.topo_disk.specs.declared.call.Call.{Call}
use Rattle.topo_disk.specs.declared.call.Call.TheVariants.{Size, Read, Write, Sync}
use Rattle.topo_disk.specs.declared.call.Called.{Called}
use Rattle.topo_disk.specs.Disk.{Elapses, Within, Only}
use Rattle.topo_disk.specs.Standing.{Standing, fresh, after, after_call, after_all, synced, is_pending, IsImage, IsReached}
use Rattle.topo_disk.specs.Moments.{standing_at, LeftSince}
use Rattle.topo_disk.specs.Laws.{only_image}

-- a fact that both answers of a call give
pub by_result : {T E A B C : Type 0} (r : Result T E) → OnOk r A → OnErr r B → (A → C) → (B → C) → C
by_result (Ok x) a b f g = f a
by_result (Err e) a b f g = g b

pub by_result_two : {T E A A' B B' C : Type 0} (r : Result T E) → OnOk r A → OnOk r A' → OnErr r B → OnErr r B' → (A → A' → C) → (B → B' → C) → C
by_result_two (Ok x) a a' b b' f g = f a a'
by_result_two (Err e) a a' b b' f g = g b b'

pub one_more : (s : Standing) (calls : List Called) (called : Called) → after_all s (calls ++ called ∷ []) ≡ after called (after_all s calls)
one_more s [] called = refl
one_more s (first ∷ calls) called = one_more (after first s) calls called

after_failed : (call : Call) (s : Standing) → after_call true call s ≡ s
after_failed Size s = refl
after_failed (Read at len) s = refl
after_failed (Write at bytes) s = refl
after_failed Sync s = refl

-- the record is as it was, or has one call more
abbrev pub Grows : List Called → List Called → Type 0
Grows calls calls' = (calls' ≡ calls) ⊎ ((called : Called) × (calls' ≡ calls ++ called ∷ []))

module _ (first : List ℕ) (calls calls' : List Called) where
  abbrev before : Standing
  before = after_all (fresh first) calls

  abbrev now : Standing
  now = after_all (fresh first) calls'

  pub with_call : (called : Called) → calls' ≡ calls ++ called ∷ [] → now ≡ after called before
  with_call called is = ap (after_all (fresh first)) is ∙ one_more (fresh first) calls called

  pub failed_stays : (call : Call) → (calls' ≡ calls) ⊎ (calls' ≡ calls ++ record { call = call; failed = true } ∷ []) → now ≡ before
  failed_stays call (inl same) = ap (after_all (fresh first)) same
  failed_stays call (inr more) = with_call (record { call = call; failed = true }) more ∙ after_failed call before

  pub failed_grows : (call : Call) → (calls' ≡ calls) ⊎ (calls' ≡ calls ++ record { call = call; failed = true } ∷ []) → Grows calls calls'
  failed_grows call (inl same) = inl same
  failed_grows call (inr more) = inr (record { call = call; failed = true }, more)

  -- what stays where nothing changes
  pub reached_still : (bytes : List ℕ) → now ≡ before → IsReached before bytes → IsReached now bytes
  reached_still bytes same reached = subst (λ s. IsReached s bytes) (sym same) reached

  pub pending_still : now ≡ before → (is_pending now ≡ is_pending before) × Within (IsImage now) (IsImage before) × Within (IsImage before) (IsImage now)
  pending_still same = (ap is_pending same, λ c image. subst (λ s. IsImage s c) same image, λ c image. subst (λ s. IsImage s c) (sym same) image)

  abbrev Times : Type 0
  Times = Elapses (length calls) (length calls') (LeftSince first calls) (LeftSince first calls') (IsImage now)

  front_same : (called : Called) (k : ℕ) → calls' ≡ calls ++ called ∷ [] → k ≤ length calls → take k calls' ≡ take k calls
  front_same called k is le = ap (take k) is ∙ take-append-le k calls (called ∷ []) le

  longer : (called : Called) → calls' ≡ calls ++ called ∷ [] → length calls' ≡ length calls + 1
  longer called is = ap length is ∙ length-append calls (called ∷ [])

  image_at : (k : ℕ) (c : List ℕ) (some : List Called) → take k calls' ≡ some → IsImage (standing_at first calls' k) c → IsImage (after_all (fresh first) some) c
  image_at k c some is image = subst (λ l. IsImage (after_all (fresh first) l) c) is image

  pub time_grows : Grows calls calls' → Times
  time_grows (inl same) = record {
    later = omega (arith, ap length same);
    nothing_else = λ t c le left. inl (subst (λ l. LeftSince first l t c) same left);
    keeps = λ t c le left. subst (λ l. LeftSince first l t c) (sym same) left;
  }
  time_grows (inr grown) =
      let more = longer grown.0 grown.1 in
      record {
        later = omega (arith, more);
        nothing_else = λ t c le left. elim (cases_eq left.0 (length calls')) [
          | inl last ↦ inr (image_at left.0 c calls' (take_all left.0 calls' (omega (arith, last))) left.3)
          | inr other ↦ let early : left.0 ≤ length calls = omega (arith, more, left.2, other) in
              inl (left.0, left.1, early, image_at left.0 c (take left.0 calls) (front_same grown.0 left.0 grown.1 early) left.3)
        ];
        keeps = λ t c le left. (left.0, left.1, omega (arith, more, left.2), subst (λ l. IsImage (after_all (fresh first) l) c) (sym (front_same grown.0 left.0 grown.1 left.2)) left.3);
      }

  -- a sync that went through
  pub synced_reached : (bytes : List ℕ) → now ≡ synced before → IsReached before bytes → IsReached now bytes
  synced_reached bytes is reached = subst (λ s. IsReached s bytes) (sym is) (record {
    seen = reached.seen;
    image = record { no_shorter = omega (arith, ap length reached.seen); no_longer = omega (arith, ap length reached.seen); same = λ k below free. sym (ap (λ (l : List ℕ). get_or l k 0) reached.seen) };
    calm = λ none. reached.seen;
  })

  pub synced_calm : now ≡ synced before → is_pending now ≡ false
  synced_calm is = ap is_pending is

  pub synced_only : (bytes : List ℕ) → now ≡ synced before → IsReached before bytes → Only bytes (IsImage now)
  synced_only bytes is reached = only_image now bytes (synced_reached bytes is reached) (synced_calm is)

  pub synced_within : (bytes : List ℕ) → now ≡ synced before → IsReached before bytes → Within (IsImage now) (IsImage before)
  synced_within bytes is reached c image = subst (IsImage before) (sym (synced_only bytes is reached c image)) reached.image
