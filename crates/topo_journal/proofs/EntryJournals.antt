-- What bytes stand for, by entries and by bodies.
use Rattle.std.proofs.Common.{◌≡◌, ◌≢◌, ◌<◌, inl, inr, ⊎_elim, ℕ, ◌^◌, Bool, true, false, List, [], ◌∷◌, ◌++◌, length, drop, slice_index, codes, refl, sym, ◌∙◌, ap, subst, arith}
use Rattle.std.proofs.lemmas.Bool.{cases_eq, cases_lt, true≢false}
use Rattle.std.proofs.lemmas.Bool.Decides.{nat_tests}
use Rattle.topo_base.specs.declared.edit.Entry.{Entry}
use Rattle.drawing.specs.Drawing.{Drawing}
use Rattle.history_model.specs.Answers.{Bounds}
use Rattle.history_model.specs.Journal.{AreEntries, IsHeaded, IsNoJournalYet, StandsFor, IsBadAt}
use Rattle.topo_journal.specs.Bytes.{Legal, Stands, History, Bad, read_gates, read}
use Rattle.topo_journal.specs.Kept.{AreBytes}
use Rattle.topo_journal.specs.Plain.{has_name}
use Rattle.topo_journal.specs.Entries.{spellings, ReadsEntries}
use Rattle.topo_journal.proofs.EntryTests.{TestsEntries}
use Rattle.topo_journal.proofs.Reading.{behind_header}
use Rattle.topo_journal.proofs.Created.{not_yet_stands, short_not_yet, shut_not_yet}
use Rattle.topo_journal.proofs.Parsed.{named, tail_bytes}
use Rattle.topo_journal.proofs.Headers.{eight, closed_long, open_short, open_unnamed}
use Rattle.topo_journal.proofs.EntryReading.{not_empty, Told, enters, told, enters_bad, legal_follows}

yet_read : (legal : Legal) (bytes : List ℕ) → IsNoJournalYet bytes → read legal bytes ≡ History []
yet_read legal bytes (inl short) = not_yet_stands legal bytes (short_not_yet bytes short)
yet_read legal [] (inr w) = absurd w.1
yet_read legal (b ∷ bytes) (inr w) = not_yet_stands legal (b ∷ bytes) (shut_not_yet (b ∷ bytes) (record { shut = w.1; some = omega arith; few = w.0 }))

headed_read : (legal : Legal) (bytes rest : List ℕ) → IsHeaded bytes rest → 0 < length rest → read legal bytes ≡ read_gates legal (length rest) [] 7 rest
headed_read legal bytes rest head some = ap (read legal) head.laid ∙ behind_header legal head.format rest head.not_later some

-- an open header is no closed one
pub open_yet : (bytes : List ℕ) → 1 < length bytes → slice_index bytes 0 ≡ 1 → IsNoJournalYet bytes → ⊥
open_yet bytes long one (inl short) = absurd (omega arith)
open_yet [] long one (inr w) = absurd w.1
open_yet (b ∷ bytes) long one (inr w) = w.1 one

pub head_long : (bytes rest : List ℕ) → IsHeaded bytes rest → rest ≢ [] → 7 < length bytes
head_long bytes rest head other = omega (arith, ap length head.laid, not_empty rest other)

pub head_named : (bytes rest : List ℕ) → IsHeaded bytes rest → has_name bytes ≡ true
head_named bytes rest head = ap has_name head.laid ∙ other_format head.format head.not_later
  where
    other_format : (format : ℕ) → format ≢ 2 → has_name (1 ∷ (codes "TOPOJ" ++ format ∷ rest)) ≡ true
    other_format format other = grind (arith, nat_tests)

pub laid : (h a b c d e f g : ℕ) (rest : List ℕ) → h ≡ 1 → a ≡ 84 → b ≡ 79 → c ≡ 80 → d ≡ 79 → e ≡ 74 → h ∷ a ∷ b ∷ c ∷ d ∷ e ∷ f ∷ g ∷ rest ≡ 1 ∷ (codes "TOPOJ" ++ f ∷ g ∷ rest)
laid h a b c d e f g rest h1 a1 b1 c1 d1 e1 = rw (h1, a1, b1, c1, d1, e1) refl

-- the three kinds of bytes
data Shape (legal : Legal) (bytes : List ℕ) : Type 0 where
  NotYet : IsNoJournalYet bytes → Shape legal bytes
  Headed : (rest : List ℕ) → IsHeaded bytes rest → rest ≢ [] → Shape legal bytes
  Headless : (IsNoJournalYet bytes → ⊥) → ((rest : List ℕ) → IsHeaded bytes rest → rest ≢ [] → ⊥) → read legal bytes ≡ Bad 0 → Shape legal bytes

open_shape : (legal : Legal) (bytes : List ℕ) (name : Bool) → 7 < length bytes → slice_index bytes 0 ≡ 1 → has_name bytes ≡ name → Shape legal bytes
open_shape legal bytes true long one name =
    let v = eight bytes long in
    let n = named v.a v.b v.c v.d v.e v.f (sym (ap has_name v.is) ∙ name) in
    let opens : v.h ≡ 1 = sym (ap (λ (l : List ℕ). slice_index l 0) v.is) ∙ one in
    Headed (v.g ∷ v.rest) (record { format = v.f; laid = v.is ∙ laid v.h v.a v.b v.c v.d v.e v.f v.g v.rest opens n.0 n.1 n.2 n.3 n.4; not_later = n.5 }) (λ none. cc none)
open_shape legal bytes false long one name =
    Headless (open_yet bytes (omega arith) one) (λ rest head other. true≢false (sym (head_named bytes rest head) ∙ name)) (open_unnamed legal bytes long one name)

closed_shape : (legal : Legal) (bytes : List ℕ) → 1 < length bytes → slice_index bytes 0 ≢ 1 → Shape legal bytes
closed_shape legal [] long shut = absurd (omega arith)
closed_shape legal (b ∷ bytes) long shut = elim (cases_lt 8 (length (b ∷ bytes))) [
  | inl many ↦ Headless (⊎_elim (λ short. absurd (omega arith)) (λ w. absurd (omega (arith, w.0, many))))
      (λ rest head other. shut (ap (λ (l : List ℕ). slice_index l 0) head.laid)) (closed_long legal (b ∷ bytes) many shut)
  | inr few ↦ NotYet (inr (few, shut))
]

shape : (legal : Legal) (bytes : List ℕ) → Shape legal bytes
shape legal bytes = elim (cases_lt 1 (length bytes)) [
  | inr short ↦ NotYet (inl short)
  | inl long ↦ elim (cases_eq (slice_index bytes 0) 1) [
    | inl one ↦ elim (cases_lt 7 (length bytes)) [
      | inl eight_up ↦ open_shape legal bytes (has_name bytes) eight_up one refl
      | inr few ↦ Headless (open_yet bytes long one) (λ rest head other. absurd (omega (arith, few, head_long bytes rest head other)))
          (open_short legal bytes (omega arith) (omega arith) one)
    ]
    | inr shut ↦ closed_shape legal bytes long shut
  ]
]

pub history_is : {a b : List (List ℕ)} → History a ≡ History b → a ≡ b
history_is e = cc e

bad_is : {p q : ℕ} → Bad p ≡ Bad q → p ≡ q
bad_is e = cc e

pub good_bad : {bodies : List (List ℕ)} {p : ℕ} → History bodies ≡ Bad p → ⊥
good_bad e = cc e

module _ (m : Bounds) (legal : Legal) (small : m.max_journal < 2 ^ 32) (tests : TestsEntries m legal) where
  some_gate : (S : Drawing) (gate : ℕ) (rest : List ℕ) (xs : List Entry) → AreEntries m S gate rest xs → 0 < length rest
  some_gate S gate [] [] entries = absurd entries
  some_gate S gate (b ∷ rest) [] entries = omega arith
  some_gate S gate rest (x ∷ xs) (next, (framed, may, more)) = omega (arith, ap length framed.laid)

  by_entries : (bytes : List ℕ) (history : List Entry) → StandsFor m bytes history → Stands legal bytes (spellings history)
  by_entries bytes history (inl w) = yet_read legal bytes w.0 ∙ ap (λ (l : List Entry). History (spellings l)) (sym w.1)
  by_entries bytes history (inr (rest, (head, entries))) =
      headed_read legal bytes rest head (some_gate _ 7 rest history entries) ∙ enters m legal small tests (length rest) [] history 7 rest refl refl (omega arith) entries

  rest_bytes : (bytes rest : List ℕ) → IsHeaded bytes rest → AreBytes bytes → AreBytes rest
  rest_bytes bytes rest head are = subst AreBytes (ap (drop 7) head.laid) (tail_bytes 7 bytes are)

  told_rest : (rest : List ℕ) → AreBytes rest → Told m legal small tests [] 7 rest (read_gates legal (length rest) [] 7 rest)
  told_rest rest are = told m legal small tests (length rest) [] 7 rest refl refl are (omega arith)

  by_bodies : (bytes : List ℕ) (bodies : List (List ℕ)) → AreBytes bytes → Stands legal bytes bodies → (history : List Entry) × (spellings history ≡ bodies) × StandsFor m bytes history
  by_bodies bytes bodies are is = elim (shape legal bytes) [
    | NotYet yet ↦ ([], history_is (sym (yet_read legal bytes yet) ∙ is), inl (yet, refl))
    | Headed rest head other ↦
        let reads = sym (headed_read legal bytes rest head (not_empty rest other)) ∙ is in
        let found = told_rest rest (rest_bytes bytes rest head are) in
        ⊎_elim (λ w. (found.0, history_is (sym w.1 ∙ reads), inr (rest, (head, w.0)))) (λ w. absurd (good_bad (sym reads ∙ w.2))) found.1
    | Headless none headless bad ↦ absurd (good_bad (sym is ∙ bad))
  ]

  by_offset : (bytes : List ℕ) (offset : ℕ) → AreBytes bytes → read legal bytes ≡ Bad offset → IsBadAt m bytes offset
  by_offset bytes offset are is = elim (shape legal bytes) [
    | NotYet yet ↦ absurd (good_bad (sym (yet_read legal bytes yet) ∙ is))
    | Headed rest head other ↦
        let reads = sym (headed_read legal bytes rest head (not_empty rest other)) ∙ is in
        let found = told_rest rest (rest_bytes bytes rest head are) in
        ⊎_elim (λ w. absurd (good_bad (sym w.1 ∙ reads)))
        (λ w. subst (IsBadAt m bytes) (bad_is (sym w.2 ∙ reads)) (inr (rest, (head, other, (found.0, w.1))))) found.1
    | Headless none headless bad ↦ inl (none, bad_is (sym is ∙ bad), headless)
  ]

  by_bad : (bytes : List ℕ) (offset : ℕ) → AreBytes bytes → IsBadAt m bytes offset → read legal bytes ≡ Bad offset
  by_bad bytes offset are (inr (rest, (head, other, (xs, bad)))) =
      headed_read legal bytes rest head (not_empty rest other)
      ∙ enters_bad m legal small tests (length rest) [] xs 7 offset rest refl refl (rest_bytes bytes rest head are) (omega arith) bad
  by_bad bytes offset are (inl (none, zero_offset, headless)) = elim (shape legal bytes) [
    | NotYet yet ↦ absurd (none yet)
    | Headed rest head other ↦ absurd (headless rest head other)
    | Headless none' headless' bad ↦ bad ∙ ap Bad (sym zero_offset)
  ]

pub reads_entries : (m : Bounds) (legal : Legal) → m.max_journal < 2 ^ 32 → TestsEntries m legal → ReadsEntries m legal
reads_entries m legal small tests = record {
  stands = by_entries m legal small tests;
  entries = by_bodies m legal small tests;
  bad = by_bad m legal small tests;
  offset = by_offset m legal small tests;
  legal_history = legal_follows m legal small tests;
}
