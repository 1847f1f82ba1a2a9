-- What an image of a journal's disk stands for, where the journal has the spellings of a legal history.
use Rattle.std.proofs.Common.{◌≡◌, ◌≢◌, ◌<◌, ◌≤◌, ◌⊎◌, inl, inr, ⊎_elim, ℕ, ◌+◌, ◌^◌, Bool, true, false, ◌&&◌, nat_le, IsTrue, List, [], ◌∷◌, ◌++◌, length, take, drop, get_or, slice_index, is_ok, Option, Some, None, refl, sym, ap, subst, ◌∙◌, arith, append_assoc, length-append, le-leb, leb-true}
use Rattle.std.specs.List.{list_all}
use Rattle.std.proofs.Math.Bool.{and-true}
use Rattle.std.proofs.lemmas.Bool.{cases_eq, and_parts, and_from, false≢true}
use Rattle.std.proofs.lemmas.List.{map-append}
use Rattle.topo_base.specs.declared.edit.Entry.{Entry}
use Rattle.entry_codec.specs.Laws.{EntriesAreRead}
use Rattle.entry_codec.specs.Reading.{entry_in}
use Rattle.history_model.specs.Answers.{Bounds}
use Rattle.drawing.specs.Drawing.{Drawing, nothing_drawn}
use Rattle.drawing.specs.InRange.{is_spelled}
use Rattle.history_model.specs.Journal.{AreEntries, StandsFor, next_gate}
use Rattle.history_model.specs.Legal.{is_legal, journal_length}
use Rattle.drawing.specs.Accepted.{is_entry, are_accepted, ids_within}
use Rattle.drawing.specs.Replay.{after}
use Rattle.history_model.specs.Spelling.{entry_bytes}
use Rattle.drawing.specs.Step.{step}
use Rattle.plane.proofs.LineTurns.{all-append}
use Rattle.topo_journal.specs.Bytes.{frame, frames, opening}
use Rattle.topo_journal.specs.Entries.{spellings}
use Rattle.topo_journal.specs.Kept.{IsFront, IsClosedAfter, IsFramedAfter, IsSound, Each, bodies_of, history, doubted}
use Rattle.topo_journal.proofs.EntryFrames.{number_size}
use Rattle.topo_journal.proofs.Fronts.{front_more, closed_whole, framed_whole, framed_gate, framed_rest}
use Rattle.topo_desk.specs.Doubt.{is_legal_with, may_be_in_doubt}
use Rattle.topo_desk.specs.Left.{StandsForOneMore, StandsOrDoubts}

least : (xs : List Entry) → 8 ≤ journal_length xs
least [] = omega arith
least (x ∷ xs) = omega (arith, least xs)

-- ---- a history behind a header, and a closed gate
module _ (m : Bounds) (small : m.max_journal < 2 ^ 32) (g : ℕ) (shut : g ≢ 1) (rest : List ℕ) where
  entries_laid : (S : Drawing) (gate : ℕ) (xs : List Entry) → IsTrue (list_all is_spelled xs) → IsTrue (are_accepted m.max_id S xs) → gate + journal_length xs ≤ m.max_journal + 7
      → AreEntries m S gate (frames (spellings xs) ++ g ∷ rest) xs
  entries_laid S gate [] spelled accepted fits = shut
  entries_laid S gate (x ∷ xs) spelled accepted fits =
      let body = entry_bytes x in let next = frames (spellings xs) ++ g ∷ rest in
      let low = least xs in
      let each = and_parts (is_spelled x) (list_all is_spelled xs) spelled in
      let on = and_parts (is_entry x && is_ok (step S x.edit) && ids_within m.max_id (after S x.edit)) (are_accepted m.max_id (after S x.edit) xs) accepted in
      let ids = and_parts (is_entry x && is_ok (step S x.edit)) (ids_within m.max_id (after S x.edit)) on.0 in
      let done = and_parts (is_entry x) (is_ok (step S x.edit)) ids.0 in
      let last : nat_le (next_gate gate x + 1) m.max_journal ≡ true = le-leb (next_gate gate x + 1) m.max_journal (omega (arith, fits, low)) in
      let short : length body < 2 ^ 32 = omega (arith, fits, low, small) in (
        next,
        (
          record {
            spelled = each.0;
            laid = ap (λ (l : List ℕ). 1 ∷ l) (append_assoc (frame body) (frames (spellings xs)) (g ∷ rest)) ∙ ap (λ (l : List ℕ). 1 ∷ (l ++ body ++ next)) (sym (number_size (length body) short));
            gated = λ none. absurd (omega (arith, ap length none, length-append (frames (spellings xs)) (g ∷ rest)));
          },
          and_from (is_ok (step S x.edit) && ids_within m.max_id (after S x.edit)) (nat_le (next_gate gate x + 1) m.max_journal) (and_from (is_ok (step S x.edit)) (ids_within m.max_id (after S x.edit)) done.1 ids.1) last,
          entries_laid (after S x.edit) (next_gate gate x) xs each.1 on.1 (omega (arith, fits)),
        ),
      )

  stands_laid : (format : ℕ) (xs : List Entry) → format ≢ 2 → IsTrue (list_all is_spelled xs) → IsTrue (is_legal m.max_id m.max_journal xs)
      → StandsFor m ((opening format ++ frames (spellings xs)) ++ g ∷ rest) xs
  stands_laid format xs other spelled legal =
      let parts = and_parts (are_accepted m.max_id nothing_drawn xs) (nat_le (journal_length xs) m.max_journal) legal in
      let fits = leb-true (journal_length xs) m.max_journal parts.1 in
      inr (frames (spellings xs) ++ g ∷ rest, (record { format = format; laid = refl; not_later = other }, entries_laid nothing_drawn 7 xs spelled parts.0 (omega (arith, fits))))

  pub stands_front : (front : List ℕ) (xs : List Entry) → IsFront front → bodies_of front ≡ spellings xs → IsTrue (list_all is_spelled xs) → IsTrue (is_legal m.max_id m.max_journal xs)
      → StandsFor m (front ++ g ∷ rest) xs
  stands_front front xs is same spelled legal =
      let whole : front ≡ opening (slice_index front 6) ++ frames (spellings xs) = is.whole ∙ ap (λ bs. opening (slice_index front 6) ++ frames bs) same in
      subst (λ (l : List ℕ). StandsFor m (l ++ g ∷ rest) xs) (sym whole) (stands_laid (slice_index front 6) xs is.format spelled legal)

-- ---- images of a crash
module _ (m : Bounds) (small : m.max_journal < 2 ^ 32) (xs : List Entry) (spelled : IsTrue (list_all is_spelled xs)) (legal : IsTrue (is_legal m.max_id m.max_journal xs)) where
  pub closed_image : (front c : List ℕ) → IsFront front → bodies_of front ≡ spellings xs → IsClosedAfter front c → StandsFor m c xs
  closed_image front c is same closed =
      subst (λ (l : List ℕ). StandsFor m l xs) (sym (closed_whole front c closed))
      (stands_front m small (get_or c (length front) 0) closed.shut (drop (length front + 1) c) front xs is same spelled legal)

  pub framed_image : (front c : List ℕ) (x : Entry) → IsFront front → bodies_of front ≡ spellings xs → IsTrue (is_spelled x) → IsTrue (is_legal m.max_id m.max_journal (xs ++ x ∷ []))
      → IsFramedAfter front (entry_bytes x) c → StandsFor m c xs ⊎ StandsForOneMore m c xs
  framed_image front c x is same one legal_more framed =
      let body = entry_bytes x in let gate = framed_gate front c in let behind = framed_rest front body c in
      let whole = framed_whole front body c framed in
      let more = front_more front body is in
      let same_more : bodies_of (front ++ 1 ∷ frame body) ≡ spellings (xs ++ x ∷ []) = more.1 ∙ ap (λ (bs : List (List ℕ)). bs ++ body ∷ []) same ∙ sym (map-append entry_bytes xs (x ∷ [])) in
      let spelled_more : IsTrue (list_all is_spelled (xs ++ x ∷ [])) = all-append is_spelled xs (x ∷ []) spelled (and-true (is_spelled x) ∙ one) in
      elim (cases_eq gate 1) [
        | inl is_open ↦ inr (record {
          entry = x;
          legal = legal_more;
          stands = subst (λ (l : List ℕ). StandsFor m l (xs ++ x ∷ []))
              (sym (whole ∙ ap (λ (k : ℕ). front ++ k ∷ (frame body ++ 0 ∷ behind)) is_open ∙ sym (append_assoc front (1 ∷ frame body) (0 ∷ behind))))
              (stands_front m small 0 (omega arith) behind (front ++ 1 ∷ frame body) (xs ++ x ∷ []) more.0 same_more spelled_more legal_more);
        })
        | inr closed ↦ inl (subst (λ (l : List ℕ). StandsFor m l xs) (sym whole) (stands_front m small gate closed (frame body ++ 0 ∷ behind) front xs is same spelled legal))
      ]

-- ---- the entry in doubt
pub in_doubt : (m : Bounds) (xs : List Entry) (o : Option Entry) → is_legal_with m xs o ≡ true → (x : Entry) × ((o ≡ Some x) × IsTrue (is_legal m.max_id m.max_journal (xs ++ x ∷ [])))
in_doubt m xs None is = absurd (false≢true is)
in_doubt m xs (Some x) is = (x, (refl, is))

pub each_stands : EntriesAreRead → (m : Bounds) (xs : List Entry) (seen : List ℕ) (outcomes : List ℕ → Type 0) (gate : ℕ) (doubt : Bool) → m.max_journal < 2 ^ 32 → IsTrue (list_all is_spelled xs)
    → IsTrue (is_legal m.max_id m.max_journal xs) → IsSound seen outcomes gate doubt → history gate seen ≡ spellings xs → (doubt ≡ true → may_be_in_doubt m xs (doubted gate seen) ≡ true)
    → Each (StandsOrDoubts m xs doubt) seen outcomes
each_stands read m xs seen outcomes gate false small spelled legal sound same may =
    let each = sound.sure refl in let front = take gate seen in
    record {
      now = inl (closed_image m small xs spelled legal front seen sound.front same each.now);
      crashed = λ c left. inl (closed_image m small xs spelled legal front c sound.front same (each.crashed c left));
    }
each_stands read m xs seen outcomes gate true small spelled legal sound same may =
    let each = sound.unsure refl in let front = take gate seen in
    let found = in_doubt m xs (entry_in (doubted gate seen)) (may refl) in
    let x = found.0 in
    let is = (read (doubted gate seen) x).0 found.1.0 in
    let image : (c : List ℕ) → IsFramedAfter front (doubted gate seen) c → StandsOrDoubts m xs true c =
    λ c framed. ⊎_elim (λ h. inl h) (λ h. inr (refl, h))
    (framed_image m small xs spelled legal front c x sound.front same is.0 found.1.1 (subst (λ (b : List ℕ). IsFramedAfter front b c) (sym is.1) framed)) in
    record { now = image seen each.now; crashed = λ c left. image c (each.crashed c left) }
