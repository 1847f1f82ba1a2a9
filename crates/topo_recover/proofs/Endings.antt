-- What is left of a disk, at each end of a recovery.
use Rattle.std.proofs.Common.{◌≡◌, ◌≢◌, ◌<◌, ◌≤◌, ◌⊎◌, inl, inr, ℕ, zero, suc, Bool, true, false, ◌&&◌, List, [], ◌∷◌, length, drop, slice_index, if◌then◌else◌, nat_lt, refl, sym, ◌∙◌, ap, subst, arith}
use Rattle.std.proofs.lemmas.Bool.{cases_eq, cases_lt}
use Rattle.topo_base.specs.declared.edit.Entry.{Entry}
use Rattle.history_model.specs.Answers.{Bounds}
use Rattle.drawing.specs.Drawing.{Drawing}
use Rattle.history_model.specs.Journal.{AreEntries, IsClosed, IsNoJournalYet, StandsFor, IsBadAt}
use Rattle.topo_journal.specs.Bytes.{Legal, Stands, Reading, History, Bad, number, read_gates, read, is_not_yet}
use Rattle.topo_journal.specs.Kept.{start_of}
use Rattle.topo_journal.specs.Plain.{has_name}
use Rattle.topo_journal.proofs.EntryJournals.{good_bad}
use Rattle.topo_journal.proofs.Created.{not_yet_stands, short_not_yet, shut_not_yet}
use Rattle.topo_journal.proofs.Parsed.{short_bad, bad_zero, bad_none}
use Rattle.topo_journal.proofs.Headers.{closed_long, open_named, open_unnamed, open_short}
use Rattle.topo_recover.specs.Recovered.{StandsSince, IsKept, IsUnwritten}
use Rattle.topo_recover.proofs.Heads.{shut_yet, headed_not_yet, read_first}

-- ---- the empty history
pub yet_is : (bytes : List ℕ) → IsNoJournalYet bytes → is_not_yet bytes ≡ true
yet_is bytes (inl short) = short_not_yet bytes short
yet_is [] (inr w) = absurd w.1
yet_is (b ∷ bytes) (inr w) = shut_not_yet (b ∷ bytes) (record { shut = w.1; some = omega arith; few = w.0 })

some_rest : (m : Bounds) (S : Drawing) (gate : ℕ) (rest : List ℕ) (xs : List Entry) → AreEntries m S gate rest xs → rest ≢ []
some_rest m S gate [] [] entries none = entries
some_rest m S gate (b ∷ rest) [] entries none = cc none
some_rest m S gate rest (x ∷ xs) (next, (framed, may, more)) none = absurd (cc (none, framed.laid))

pub yet_empty : (m : Bounds) (bytes : List ℕ) (history : List Entry) → IsNoJournalYet bytes → StandsFor m bytes history → history ≡ []
yet_empty m bytes history yet (inl w) = w.1
yet_empty m bytes history yet (inr (rest, (head, entries))) = absurd (headed_not_yet bytes rest head (some_rest m _ 7 rest history entries) yet)

-- the test that takes no body
abbrev pub never : Legal
never = λ _ _. false

refused : (t : Bool) (X B : Reading) → (if t && false then X else B) ≡ B
refused true X B = refl
refused false X B = refl

open_bad : (steps : ℕ) (before : List (List ℕ)) (p a b c d : ℕ) (rest : List ℕ) → read_gates never (suc steps) before p (1 ∷ a ∷ b ∷ c ∷ d ∷ rest) ≡ Bad p
unfolding read_gates
open_bad steps before p a b c d rest = refused (nat_lt (number a b c d) (length rest)) _ (Bad p)

open_gate_bad : (steps : ℕ) (before : List (List ℕ)) (p g : ℕ) (rest : List ℕ) → g ≡ 1 → read_gates never (suc steps) before p (g ∷ rest) ≡ Bad p
open_gate_bad steps before p g [] one = short_bad never steps before p g [] one (omega arith)
open_gate_bad steps before p g (a ∷ []) one = short_bad never steps before p g (a ∷ []) one (omega arith)
open_gate_bad steps before p g (a ∷ b ∷ []) one = short_bad never steps before p g (a ∷ b ∷ []) one (omega arith)
open_gate_bad steps before p g (a ∷ b ∷ c ∷ []) one = short_bad never steps before p g (a ∷ b ∷ c ∷ []) one (omega arith)
open_gate_bad steps before p g (a ∷ b ∷ c ∷ d ∷ rest) one = ap (λ (k : ℕ). read_gates never (suc steps) before p (k ∷ a ∷ b ∷ c ∷ d ∷ rest)) one ∙ open_bad steps before p a b c d rest

none_closed : (steps : ℕ) (before bodies : List (List ℕ)) (p : ℕ) (bytes : List ℕ) → read_gates never steps before p bytes ≡ History bodies → IsClosed bytes
none_closed zero before bodies p bytes is = absurd (good_bad (sym is ∙ bad_zero never before p bytes))
none_closed (suc steps) before bodies p [] is = absurd (good_bad (sym is ∙ bad_none never steps before p))
none_closed (suc steps) before bodies p (g ∷ rest) is = elim (cases_eq g 1) [
  | inl one ↦ absurd (good_bad (sym is ∙ open_gate_bad steps before p g rest one))
  | inr shut ↦ shut
]

headed_empty : (m : Bounds) (bytes : List ℕ) (name : Bool) → 7 < length bytes → slice_index bytes 0 ≡ 1 → has_name bytes ≡ name → read never bytes ≡ History [] → StandsFor m bytes []
headed_empty m bytes true long one name is =
    (read_first m bytes long one name).stands [] (none_closed (length (drop 7 bytes)) [] [] 7 (drop 7 bytes) (sym (open_named never bytes long one name) ∙ is))
headed_empty m bytes false long one name is = absurd (good_bad (sym is ∙ open_unnamed never bytes long one name))

-- bytes that stand for no body stand for no entry
pub stands_empty : (m : Bounds) (bytes : List ℕ) → Stands never bytes [] → StandsFor m bytes []
stands_empty m bytes is = elim (cases_lt 1 (length bytes)) [
  | inr short ↦ inl (inl short, refl)
  | inl long ↦ elim (cases_eq (slice_index bytes 0) 1) [
    | inl one ↦ elim (cases_lt 7 (length bytes)) [
      | inl eight_up ↦ headed_empty m bytes (has_name bytes) eight_up one refl is
      | inr few ↦ absurd (good_bad (sym is ∙ open_short never bytes (omega arith) (omega arith) one))
    ]
    | inr shut ↦ elim (cases_lt 8 (length bytes)) [
      | inl many ↦ absurd (good_bad (sym is ∙ closed_long never bytes many shut))
      | inr few ↦ inl (shut_yet bytes long few shut, refl)
    ]
  ]
]

-- ---- the start
start_late : (p : Bool) (a b : ℕ) → a ≤ b → a ≤ (if p then b else a)
start_late true a b le = le
start_late false a b le = omega arith

module _ {D : Type 0} (pending : D → Bool) (moment : D → ℕ) where
  pub start_later : (called synced : D) → moment called ≤ moment synced → moment called ≤ start_of pending moment called synced
  start_later called synced le = start_late (pending called) (moment called) (moment synced) le

  pub start_first : (called synced : D) → pending called ≡ false → start_of pending moment called synced ≡ moment called
  start_first called synced none = ap (λ (p : Bool). if p then moment synced else moment called) none

-- ---- what is kept
module _ {D : Type 0} (pending : D → Bool) (moment : D → ℕ) (seen : D → List ℕ) (may_leave : D → List ℕ → Type 0) (left_since : D → ℕ → List ℕ → Type 0) (m : Bounds) where
  pub unwritten_stands : (old new : D) (t : ℕ) (bytes : List ℕ) (history : List Entry) → moment old ≤ t → IsUnwritten moment seen left_since new bytes t → StandsFor m bytes history
      → StandsSince moment seen left_since m old new t history
  unwritten_stands old new t bytes history later u stands = record {
    later = later;
    before = u.before;
    reads = subst (λ (l : List ℕ). StandsFor m l history) (sym u.reads) stands;
    leaves = λ c left. subst (λ (l : List ℕ). StandsFor m l history) (sym (u.leaves c left)) stands;
  }

  pub kept_unwritten : (old new : D) (t : ℕ) → moment old ≤ t → (pending old ≡ false → t ≡ moment old) → IsUnwritten moment seen left_since new (seen old) t
      → IsKept pending moment seen may_leave left_since m old new
  kept_unwritten old new t later first u history stands = inr (t, first, unwritten_stands old new t (seen old) history later u stands)

  pub kept_made : (old new : D) (t : ℕ) → (pending old ≡ false → t ≡ moment old) → IsNoJournalYet (seen old) → StandsSince moment seen left_since m old new t []
      → IsKept pending moment seen may_leave left_since m old new
  kept_made old new t first yet since history stands =
      inr (t, first, subst (StandsSince moment seen left_since m old new t) (sym (yet_empty m (seen old) history yet stands)) since)

-- a disk that is not yet a journal isn't bad
pub yet_not_bad : (m : Bounds) (bytes : List ℕ) (offset : ℕ) → IsNoJournalYet bytes → IsBadAt m bytes offset → ⊥
yet_not_bad m bytes offset yet (inl w) = w.0 yet
yet_not_bad m bytes offset yet (inr (rest, (head, other, more))) = headed_not_yet bytes rest head other yet

-- ---- a disk that became a journal with no entry
module _ {D : Type 0} (pending : D → Bool) (moment : D → ℕ) (seen : D → List ℕ) (left_since : D → ℕ → List ℕ → Type 0) (m : Bounds) where
  pub made_stands : (old new called synced called' synced' : D) → called' ≡ called → synced' ≡ synced → moment old ≤ start_of pending moment called synced
      → start_of pending moment called' synced' ≤ moment new
      → left_since new (start_of pending moment called' synced') (seen new)
      → ((c : List ℕ) → left_since new (start_of pending moment called' synced') c → Stands never c [])
      → StandsSince moment seen left_since m old new (start_of pending moment called synced) []
  made_stands old new called synced called' synced' one two later before now since =
      let start : start_of pending moment called' synced' ≡ start_of pending moment called synced =
      ap (λ (d : D). start_of pending moment d synced') one ∙ ap (λ (d : D). start_of pending moment called d) two in
      let later' : moment old ≤ start_of pending moment called' synced' = subst (λ (t : ℕ). moment old ≤ t) (sym start) later in
      subst (λ (t : ℕ). StandsSince moment seen left_since m old new t []) start (record {
        later = later';
        before = before;
        reads = stands_empty m (seen new) (since (seen new) now);
        leaves = λ c left. stands_empty m c (since c left);
      })

-- each thing that a crash may leave stands for nothing, where what was there is not yet a journal
pub since_unmade : (yet bytes : List ℕ) → IsNoJournalYet yet → (bytes ≡ yet) ⊎ Stands never bytes [] → Stands never bytes []
since_unmade yet bytes is (inl same) = subst (λ (l : List ℕ). Stands never l []) (sym same) (not_yet_stands never yet (yet_is yet is))
since_unmade yet bytes is (inr stands) = stands

-- ---- a disk to which nothing was written
module _ {D : Type 0} (pending : D → Bool) (moment : D → ℕ) (seen : D → List ℕ) (may_leave : D → List ℕ → Type 0) (left_since : D → ℕ → List ℕ → Type 0) (m : Bounds) where
  starts : (disk first called synced : D) → called ≡ disk → synced ≡ first → moment disk ≤ moment first
      → (moment disk ≤ start_of pending moment called synced) × (pending disk ≡ false → start_of pending moment called synced ≡ moment disk)
  starts disk first called synced one two le =
      subst (λ (c : D). (moment disk ≤ start_of pending moment c synced) × (pending disk ≡ false → start_of pending moment c synced ≡ moment disk)) (sym one)
      (subst (λ (s : D). (moment disk ≤ start_of pending moment disk s) × (pending disk ≡ false → start_of pending moment disk s ≡ moment disk)) (sym two)
      (start_later pending moment disk first le, start_first pending moment disk first))

  pub kept_seen : (disk first called synced new : D) (bytes : List ℕ) → called ≡ disk → synced ≡ first → moment disk ≤ moment first → bytes ≡ seen disk
      → IsUnwritten moment seen left_since new bytes (start_of pending moment called synced) → IsKept pending moment seen may_leave left_since m disk new
  kept_seen disk first called synced new bytes one two le same u =
      let start = starts disk first called synced one two le in
      kept_unwritten pending moment seen may_leave left_since m disk new (start_of pending moment called synced) start.0 start.1
      (subst (λ (l : List ℕ). IsUnwritten moment seen left_since new l (start_of pending moment called synced)) same u)

  pub kept_new : (disk first called synced new : D) → called ≡ disk → synced ≡ first → moment disk ≤ moment first → IsNoJournalYet (seen disk)
      → StandsSince moment seen left_since m called new (start_of pending moment called synced) [] → IsKept pending moment seen may_leave left_since m disk new
  kept_new disk first called synced new one two le yet since =
      let start = starts disk first called synced one two le in
      kept_made pending moment seen may_leave left_since m disk new (start_of pending moment called synced) start.1 yet
      (subst (λ (o : D). StandsSince moment seen left_since m o new (start_of pending moment called synced) []) one since)
