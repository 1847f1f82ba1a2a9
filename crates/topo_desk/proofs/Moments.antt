-- What the bytes stand for that a crash during an append leaves.
use Rattle.std.proofs.Common.{◌≡◌, ◌<◌, ◌⊎◌, inl, inr, ⊎_elim, ℕ, ◌^◌, Bool, true, IsTrue, List, [], ◌∷◌, ◌++◌, length, take, refl, sym, ap, subst, ◌∙◌, arith}
use Rattle.std.specs.List.{list_all}
use Rattle.std.proofs.Math.Bool.{and-true}
use Rattle.std.proofs.lemmas.Bool.{cases_eq, cases_lt}
use Rattle.std.proofs.lemmas.List.{map-append}
use Rattle.topo_base.specs.declared.edit.Entry.{Entry}
use Rattle.entry_codec.specs.Laws.{EntriesAreRead}
use Rattle.entry_codec.specs.Reading.{entry_in}
use Rattle.history_model.specs.Answers.{Bounds}
use Rattle.drawing.specs.InRange.{is_spelled}
use Rattle.history_model.specs.Journal.{IsNoJournalYet, StandsFor}
use Rattle.history_model.specs.Legal.{is_legal}
use Rattle.history_model.specs.Spelling.{entry_bytes}
use Rattle.plane.proofs.LineTurns.{all-append}
use Rattle.topo_journal.specs.Bytes.{Legal, Stands, History, Bad, is_not_yet}
use Rattle.topo_journal.specs.Entries.{spellings}
use Rattle.topo_disk.specs.Disk.{LeavesOnly}
use Rattle.topo_journal.specs.Kept.{AreBytes, Each, StandsDoubting, gate_behind}
use Rattle.topo_journal.proofs.Created.{not_yet_stands, short_not_yet, shut_not_yet}
use Rattle.topo_journal.proofs.EntryJournals.{good_bad, history_is}
use Rattle.topo_journal.proofs.Headers.{closed_long}
use Rattle.topo_journal.proofs.Parsed.{adoptable}
use Rattle.topo_desk.specs.Doubt.{may_be_in_doubt}
use Rattle.topo_desk.specs.Left.{StandsForOneMore, StandsOrDoubts}
use Rattle.topo_desk.proofs.Laid.{closed_image, in_doubt}

-- the test that takes every body
abbrev pub every : Legal
every before body = true

none_spelled : (ys : List Entry) → spellings ys ≡ [] → ys ≡ []
none_spelled [] e = refl
none_spelled (y ∷ ys) e = absurd (cc e)

module _ (m : Bounds) (small : m.max_journal < 2 ^ 32) where
  yet_stands : (xs : List Entry) (c : List ℕ) → IsNoJournalYet c → is_not_yet c ≡ true → Stands every c (spellings xs) → StandsFor m c xs
  yet_stands xs c yet is stands = inl (yet, none_spelled xs (history_is (sym stands ∙ not_yet_stands every c is)))

  pub bytes_stand : (xs : List Entry) → IsTrue (list_all is_spelled xs) → IsTrue (is_legal m.max_id m.max_journal xs) → (c : List ℕ) → AreBytes c → Stands every c (spellings xs) → StandsFor m c xs
  bytes_stand xs spelled legal [] bytes stands = yet_stands xs [] (inl (omega arith)) (short_not_yet [] (omega arith)) stands
  bytes_stand xs spelled legal (b ∷ c) bytes stands = elim (cases_lt 1 (length (b ∷ c))) [
    | inr short ↦ yet_stands xs (b ∷ c) (inl short) (short_not_yet (b ∷ c) short) stands
    | inl long ↦ elim (cases_eq b 1) [
      | inl one ↦
          let adopted = adoptable every (b ∷ c) (spellings xs) bytes long one stands in
          closed_image m small xs spelled legal (take (gate_behind (spellings xs)) (b ∷ c)) (b ∷ c) adopted.0 adopted.2 adopted.1
      | inr shut ↦ elim (cases_lt 8 (length (b ∷ c))) [
        | inl many ↦ absurd (good_bad (sym stands ∙ closed_long every (b ∷ c) many shut))
        | inr few ↦ yet_stands xs (b ∷ c) (inr (few, shut)) (shut_not_yet (b ∷ c) (record { shut = shut; some = omega arith; few = few })) stands
      ]
    ]
  ]

  module _ (xs : List Entry) (spelled : IsTrue (list_all is_spelled xs)) (legal : IsTrue (is_legal m.max_id m.max_journal xs)) (c : List ℕ) (bytes : AreBytes c) where
    one_more : (y : Entry) (body : List ℕ) → IsTrue (is_spelled y) → IsTrue (is_legal m.max_id m.max_journal (xs ++ y ∷ [])) → body ≡ entry_bytes y → Stands every c (spellings xs ++ body ∷ [])
        → StandsForOneMore m c xs
    one_more y body one legal_more is stands =
        let same : spellings xs ++ body ∷ [] ≡ spellings (xs ++ y ∷ []) = ap (λ (l : List ℕ). spellings xs ++ l ∷ []) is ∙ sym (map-append entry_bytes xs (y ∷ [])) in
        record {
          entry = y;
          legal = legal_more;
          stands = bytes_stand (xs ++ y ∷ []) (all-append is_spelled xs (y ∷ []) spelled (and-true (is_spelled y) ∙ one)) legal_more c bytes (subst (Stands every c) same stands);
        }

    stands_then : EntriesAreRead → (x : Entry) (body other : List ℕ) (doubt : Bool) → IsTrue (is_spelled x) → IsTrue (is_legal m.max_id m.max_journal (xs ++ x ∷ [])) → body ≡ entry_bytes x
        → (doubt ≡ true → may_be_in_doubt m xs other ≡ true) → StandsDoubting every (spellings xs) doubt other c ⊎ Stands every c (spellings xs ++ body ∷ []) → StandsOrDoubts m xs true c
    stands_then read x body other doubt one legal_more is may (inl (inl stands)) = inl (bytes_stand xs spelled legal c bytes stands)
    stands_then read x body other doubt one legal_more is may (inl (inr w)) =
        let found = in_doubt m xs (entry_in other) (may w.0) in
        let good = (read other found.0).0 found.1.0 in
        inr (refl, one_more found.0 other good.0 found.1.1 (sym good.1) w.1)
    stands_then read x body other doubt one legal_more is may (inr stands) = inr (refl, one_more x body one legal_more is stands)

    pub moment_stands : EntriesAreRead → (x : Entry) (body other : List ℕ) (doubt : Bool) (before : List (List ℕ)) → IsTrue (is_spelled x) → IsTrue (is_legal m.max_id m.max_journal (xs ++ x ∷ []))
        → body ≡ entry_bytes x → (doubt ≡ true → may_be_in_doubt m xs other ≡ true) → before ≡ spellings xs
        → StandsDoubting every before doubt other c ⊎ Stands every c (before ++ body ∷ []) → StandsOrDoubts m xs true c
    moment_stands read x body other doubt before one legal_more is may same given =
        stands_then read x body other doubt one legal_more is may
        (subst (λ (bs : List (List ℕ)). StandsDoubting every bs doubt other c ⊎ Stands every c (bs ++ body ∷ [])) same given)

-- ---- where nothing is appended
pub still_leaves : {D : Type 0} (moment : D → ℕ) (left_since : D → ℕ → List ℕ → Type 0) (disk : D) (may_leave P : List ℕ → Type 0) → ((c : List ℕ) → left_since disk (moment disk) c → may_leave c)
    → ((c : List ℕ) → may_leave c → P c) → LeavesOnly moment left_since disk disk P
still_leaves moment left_since disk may_leave P now each = record { later = omega arith; each = λ c left. each c (now c left); before = λ t c le left. inl left }

pub still_stands : (m : Bounds) (xs : List Entry) (doubt : Bool) (seen : List ℕ) (outcomes : List ℕ → Type 0) → Each (StandsOrDoubts m xs doubt) seen outcomes → (c : List ℕ) → outcomes c → AreBytes c
    → StandsOrDoubts m xs true c
still_stands m xs doubt seen outcomes each c left bytes = ⊎_elim (λ stands. inl stands) (λ w. inr (refl, w.1)) (each.crashed c left)
