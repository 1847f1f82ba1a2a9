-- From one gate of a journal to the next.
use Rattle.std.proofs.Common.{◌≡◌, ◌≢◌, ◌<◌, ◌≤◌, ℕ, ◌+◌, ◌^◌, Bool, true, false, ◌&&◌, not, IsTrue, List, [], ◌∷◌, ◌++◌, length, take, drop, get_or, slice_index, nat_lt, nat_le, is_ok, Ok, Err, if◌then◌else◌, refl, sym, ◌∙◌, ap, subst, arith, append_assoc, length-append, length-take, length-drop, take-append-drop, leb-true}
use Rattle.std.proofs.lemmas.Bool.{and_parts, true≢false, lt-ltb}
use Rattle.std.proofs.lemmas.Bool.Decides.{nat_tests}
use Rattle.std.proofs.lemmas.List.{append-nil, map-append, take_at, drop_all, drop-drop, drop_more}
use Rattle.topo_base.specs.declared.edit.Entry.{Entry}
use Rattle.topo_base.specs.declared.answer.Answer.{Answer}
use Rattle.drawing.specs.Drawing.{Drawing, nothing_drawn}
use Rattle.drawing.specs.Outcome.{Outcome}
use Rattle.drawing.specs.Step.{step}
use Rattle.drawing.specs.Replay.{replay, after, drawing_of, after_all, edits_of}
use Rattle.drawing.specs.Accepted.{ids_within, is_editor, is_entry, keeps_limits}
use Rattle.history_model.specs.Legal.{journal_length}
use Rattle.drawing.specs.InRange.{is_edit, is_in_range, is_spelled}
use Rattle.history_model.specs.Spelling.{number_bytes, entry_bytes}
use Rattle.history_model.specs.Answers.{Bounds}
use Rattle.history_model.specs.Run.{is_done}
use Rattle.history_model.specs.Journal.{IsFramed, next_gate, may_stand, AreEntries, IsBadAfter, IsClosed, StandsFor, IsBadAt}
use Rattle.history_model.proofs.Fronts.{number_front}
use Rattle.history_model.proofs.Running.{edits_of-append}
use Rattle.history_model.proofs.Spellings.{entry_front}
use Rattle.entry_codec.proofs.Lengths.{short_entry}
use Rattle.topo_journal.specs.Bytes.{frame, frames, opening}
use Rattle.topo_journal.specs.Entries.{spellings}
use Rattle.topo_journal.specs.Kept.{IsFront, IsClosedAfter, history as bodies_in}
use Rattle.topo_journal.proofs.Fronts.{front_from}
use Rattle.topo_journal.proofs.Steps.{closed_at}
use Rattle.topo_journal.proofs.Reading.{frames-push}
use Rattle.topo_journal.proofs.EntryFrames.{number_size}
use Rattle.topo_desk.specs.Verdict.{verdict, verdict_of}
use Rattle.topo_recover.specs.declared.end.RecoverEnd.TheVariants.{NoJournal}
use Rattle.topo_recover.specs.Reached.{IsReadTo}

-- ---- an entry more
pub journal_more : (xs : List Entry) (x : Entry) → journal_length (xs ++ x ∷ []) ≡ journal_length xs + (5 + length (entry_bytes x))
journal_more [] x = refl
journal_more (y ∷ xs) x = omega (arith, journal_more xs x)

then_after : (xs : List Entry) (x : Entry) → after (replay xs) x.edit ≡ replay (xs ++ x ∷ [])
then_after xs x = sym (edits_of-append nothing_drawn xs (x ∷ []))

-- ---- an edit is done exactly where its entry may stand
within_both : (ids : Bool) (most long gate : ℕ) (a b c : Answer) → long ≡ gate → is_done a ≡ false → is_done b ≡ false → is_done c ≡ true
    → is_done (if not ids then a else (if nat_lt most long then b else c)) ≡ (true && ids && nat_le gate most)
within_both false most long gate a b c same na nb nc = na
within_both true most long gate a b c same na nb nc = fits (nat_lt most long) refl
  where
    fits : (full : Bool) → nat_lt most long ≡ full → is_done (if nat_lt most long then b else c) ≡ nat_le gate most
    fits true is = rw is (nb ∙ grind (arith, nat_tests))
    fits false is = rw is (nc ∙ grind (arith, nat_tests))

done_of : (m : Bounds) (history : List Entry) (x : Entry) (gate : ℕ) (S : Drawing) (o : Outcome) → gate + 1 ≡ journal_length history
    → is_done (verdict_of m history x o) ≡ (is_ok o && ids_within m.max_id (drawing_of S o) && nat_le (next_gate gate x + 1) m.max_journal)
done_of m history x gate S (Err rule) place = refl
done_of m history x gate S (Ok done) place =
    within_both (ids_within m.max_id done.drawing) m.max_journal (journal_length (history ++ x ∷ [])) (next_gate gate x + 1) _ _ _ (omega (arith, journal_more history x, place)) refl refl refl

pub done_may : (m : Bounds) (history : List Entry) (x : Entry) (gate : ℕ) → gate + 1 ≡ journal_length history → is_done (verdict m history x) ≡ may_stand m (replay history) gate x
done_may m history x gate place = done_of m history x gate (replay history) (step (replay history) x.edit) place

pub next_place : (history : List Entry) (x : Entry) (gate : ℕ) → gate + 1 ≡ journal_length history → next_gate gate x + 1 ≡ journal_length (history ++ x ∷ [])
next_place history x gate place = omega (arith, journal_more history x, place)

-- ---- frames
-- the body of an entry that may stand is short
pub short_body : (m : Bounds) (S : Drawing) (gate : ℕ) (x : Entry) → m.max_journal < 2 ^ 32 → IsTrue (may_stand m S gate x) → length (entry_bytes x) < 2 ^ 32
short_body m S gate x small may =
    let last = leb-true (next_gate gate x + 1) m.max_journal (and_parts (is_ok (step S x.edit) && ids_within m.max_id (after S x.edit)) (nat_le (next_gate gate x + 1) m.max_journal) may).1 in
    omega (arith, last, small)

-- and so is that of an entry that can be spelled
pub short_spelled : (x : Entry) → IsTrue (is_spelled x) → length (entry_bytes x) ≤ 65553
short_spelled x spelled =
    let parts = and_parts (is_editor x.editor) (is_edit x.edit) spelled in
    let edit = and_parts (keeps_limits x.edit) (is_in_range x.edit) parts.1 in
    let entry : is_entry x ≡ true = rw (parts.0, edit.0) refl in
    short_entry x entry edit.1

-- what is at an open gate and behind it
pub at_gate : (bytes : List ℕ) (gate : ℕ) → gate < length bytes → slice_index bytes gate ≡ 1 → drop gate bytes ≡ 1 ∷ drop (gate + 1) bytes
at_gate bytes gate below one = drop_more bytes gate 0 below ∙ ap (λ (b : ℕ). b ∷ drop (gate + 1) bytes) one

pub framed_here : (bytes body : List ℕ) (gate n : ℕ) (x : Entry) → gate + 5 + n < length bytes → slice_index bytes gate ≡ 1
    → number_bytes n ≡ take 4 (drop (gate + 1) bytes) → body ≡ take n (drop (gate + 5) bytes) → entry_bytes x ≡ body → IsTrue (is_spelled x)
    → IsFramed (drop gate bytes) x (drop (gate + 5 + n) bytes) × (next_gate gate x ≡ gate + 5 + n)
framed_here bytes body gate n x fits one number is spells spelled =
    let long : length (entry_bytes x) ≡ n = omega (arith, ap length spells, ap length is, length-take n (drop (gate + 5) bytes), length-drop (gate + 5) bytes, fits) in
    let fifth : drop 4 (drop (gate + 1) bytes) ≡ drop (gate + 5) bytes = drop-drop 4 (gate + 1) bytes ∙ ap (λ (k : ℕ). drop k bytes) (omega arith) in
    let last : drop n (drop (gate + 5) bytes) ≡ drop (gate + 5 + n) bytes = drop-drop n (gate + 5) bytes in
    let behind : drop (gate + 5) bytes ≡ entry_bytes x ++ drop (gate + 5 + n) bytes =
    sym (take-append-drop n (drop (gate + 5) bytes)) ∙ ap (λ (l : List ℕ). l ++ drop n (drop (gate + 5) bytes)) (sym is ∙ sym spells) ∙ ap (λ (l : List ℕ). entry_bytes x ++ l) last in
    let lengths : drop (gate + 1) bytes ≡ number_bytes n ++ drop (gate + 5) bytes =
    sym (take-append-drop 4 (drop (gate + 1) bytes)) ∙ ap (λ (l : List ℕ). l ++ drop 4 (drop (gate + 1) bytes)) (sym number) ∙ ap (λ (l : List ℕ). number_bytes n ++ l) fifth in (
      record {
        spelled = spelled;
        laid = at_gate bytes gate (omega (arith, fits)) one ∙ ap (λ (l : List ℕ). 1 ∷ l) lengths
            ∙ ap (λ (l : List ℕ). 1 ∷ (number_bytes n ++ l)) behind
            ∙ ap (λ (k : ℕ). 1 ∷ (number_bytes k ++ entry_bytes x ++ drop (gate + 5 + n) bytes)) (sym long);
        gated = λ none. absurd (omega (arith, ap length none, length-drop (gate + 5 + n) bytes, fits));
      },
      omega (arith, long),
    )

-- of an entry that stands at a gate: its length, itself, and that the next gate is there
pub framed_parts : (bytes : List ℕ) (gate : ℕ) (x : Entry) (next : List ℕ) → IsFramed (drop gate bytes) x next
    → (number_bytes (length (entry_bytes x)) ≡ take 4 (drop (gate + 1) bytes)) × (entry_bytes x ++ next ≡ drop (gate + 5) bytes) × (gate + 5 + length (entry_bytes x) < length bytes)
framed_parts bytes gate x next framed =
    let first : drop (gate + 1) bytes ≡ number_bytes (length (entry_bytes x)) ++ entry_bytes x ++ next = sym (drop-drop 1 gate bytes) ∙ ap (drop 1) framed.laid in
    let fifth : drop (gate + 5) bytes ≡ entry_bytes x ++ next = sym (drop-drop 5 gate bytes) ∙ ap (drop 5) framed.laid in
    let some : 0 < length next = not_nil next framed.gated in (
      ap (take 4) (sym first),
      sym fifth,
      omega (arith, ap length framed.laid, length-append (entry_bytes x) next, length-drop gate bytes, some),
    )
  where
    not_nil : (l : List ℕ) → l ≢ [] → 0 < length l
    not_nil [] other = absurd (other refl)
    not_nil (b ∷ l) other = omega arith

one_number : (n k : ℕ) → n < 2 ^ 32 → k < 2 ^ 32 → number_bytes n ≡ number_bytes k → n ≡ k
one_number n k small small' same =
    (number_front n k [] [] (lt-ltb n (2 ^ 32) small) (lt-ltb k (2 ^ 32) small') (append-nil (number_bytes n) ∙ same ∙ sym (append-nil (number_bytes k)))).0

pub framed_length : (bytes : List ℕ) (gate n : ℕ) (x : Entry) (next : List ℕ) → n < 2 ^ 32 → length (entry_bytes x) < 2 ^ 32 → number_bytes n ≡ take 4 (drop (gate + 1) bytes)
    → IsFramed (drop gate bytes) x next → length (entry_bytes x) ≡ n
framed_length bytes gate n x next small short number framed = one_number (length (entry_bytes x)) n short small ((framed_parts bytes gate x next framed).0 ∙ sym number)

pub framed_body : (bytes body : List ℕ) (gate n : ℕ) (x : Entry) (next : List ℕ) → n < 2 ^ 32 → length (entry_bytes x) < 2 ^ 32 → number_bytes n ≡ take 4 (drop (gate + 1) bytes)
    → body ≡ take n (drop (gate + 5) bytes) → IsFramed (drop gate bytes) x next → entry_bytes x ≡ body
framed_body bytes body gate n x next small short number is framed =
    let long = framed_length bytes gate n x next small short number framed in
    sym (take_at (entry_bytes x) next n long) ∙ ap (take n) (framed_parts bytes gate x next framed).1 ∙ sym is

-- ---- reading on
pub read_on : (m : Bounds) (bytes : List ℕ) (gate next : ℕ) (history : List Entry) (x : Entry) → IsReadTo m bytes gate history → gate < length bytes
    → IsFramed (drop gate bytes) x (drop next bytes) → length (entry_bytes x) < 2 ^ 32 → IsTrue (may_stand m (replay history) gate x) → next_gate gate x ≡ next
    → IsReadTo m bytes next (history ++ x ∷ [])
read_on m bytes gate next history x r within framed short may place =
    let body = entry_bytes x in let rest = drop next bytes in
    let front = opening (slice_index bytes 6) ++ frames (spellings history) in
    let laid : drop gate bytes ≡ 1 ∷ (frame body ++ rest) =
    framed.laid ∙ ap (λ (l : List ℕ). 1 ∷ (l ++ body ++ rest)) (number_size (length body) short) in
    let whole : bytes ≡ (front ++ 1 ∷ frame body) ++ rest =
    sym (take-append-drop gate bytes) ∙ ap (λ (l : List ℕ). l ++ drop gate bytes) r.front ∙ ap (λ (l : List ℕ). front ++ l) laid ∙ sym (append_assoc front (1 ∷ frame body) rest) in
    let size : length (front ++ 1 ∷ frame body) ≡ next =
    omega (arith, place, length-append front (1 ∷ frame body), ap length r.front, length-take gate bytes, within) in
    let bodies : spellings (history ++ x ∷ []) ≡ spellings history ++ body ∷ [] = map-append entry_bytes history (x ∷ []) in
    let more : front ++ 1 ∷ frame body ≡ opening (slice_index bytes 6) ++ frames (spellings (history ++ x ∷ [])) =
    append_assoc (opening (slice_index bytes 6)) (frames (spellings history)) (1 ∷ frame body)
    ∙ ap (λ (l : List ℕ). opening (slice_index bytes 6) ++ l) (sym (frames-push (spellings history) body) ∙ ap frames (sym bodies)) in
    record {
      format = r.format;
      front = ap (take next) whole ∙ take_at (front ++ 1 ∷ frame body) rest next size ∙ more;
      stands = λ xs entries. subst (StandsFor m bytes) (sym (append_assoc history (x ∷ []) xs)) (r.stands (x ∷ xs) (rest, (framed, may, behind xs entries)));
      bad = λ xs offset bad. r.bad (x ∷ xs) offset (rest, (framed, may, bad_behind xs offset bad));
    }
  where
    behind : (xs : List Entry) → AreEntries m (replay (history ++ x ∷ [])) next (drop next bytes) xs → AreEntries m (after (replay history) x.edit) (next_gate gate x) (drop next bytes) xs
    behind xs entries = subst (λ (p : ℕ). AreEntries m (after (replay history) x.edit) p (drop next bytes) xs) (sym place) (subst (λ (S : Drawing). AreEntries m S next (drop next bytes) xs) (sym (then_after history x)) entries)

    bad_behind : (xs : List Entry) (offset : ℕ) → IsBadAfter m (replay (history ++ x ∷ [])) next (drop next bytes) xs offset → IsBadAfter m (after (replay history) x.edit) (next_gate gate x) (drop next bytes) xs offset
    bad_behind xs offset bad = subst (λ (p : ℕ). IsBadAfter m (after (replay history) x.edit) p (drop next bytes) xs offset) (sym place) (subst (λ (S : Drawing). IsBadAfter m S next (drop next bytes) xs offset) (sym (then_after history x)) bad)

-- ---- bad gates
not_shut : (bytes : List ℕ) (gate : ℕ) → gate < length bytes → slice_index bytes gate ≡ 1 → IsClosed (drop gate bytes) → ⊥
not_shut bytes gate within one shut = closed_not (subst IsClosed (at_gate bytes gate within one) shut)
  where
    closed_not : IsClosed (1 ∷ drop (gate + 1) bytes) → ⊥
    closed_not other = other refl

pub bad_here : (m : Bounds) (bytes : List ℕ) (gate : ℕ) (history : List Entry) → m.max_journal < 2 ^ 32 → IsReadTo m bytes gate history → gate < length bytes → slice_index bytes gate ≡ 1
    → ((x : Entry) (next : List ℕ) → IsFramed (drop gate bytes) x next → length (entry_bytes x) < 2 ^ 32 → IsTrue (may_stand m (replay history) gate x) → ⊥)
    → IsBadAt m bytes gate
bad_here m bytes gate history small r within one none = r.bad [] gate (
  refl,
  record {
    not_closed = not_shut bytes gate within one;
    no_entry = λ x next framed may. none x next framed (short_body m (replay history) gate x small may) may;
  },
)

-- the only entry at a gate may not stand there
pub unlike : (m : Bounds) (S : Drawing) (gate : ℕ) (x y : Entry) → IsTrue (is_spelled x) → IsTrue (is_spelled y) → entry_bytes x ≡ entry_bytes y → may_stand m S gate x ≡ false → IsTrue (may_stand m S gate y) → ⊥
unlike m S gate x y sx sy same no_x may =
    let one = (entry_front x y [] [] sx sy (ap (λ (l : List ℕ). l ++ []) same)).0 in
    true≢false (sym (subst (λ (z : Entry). IsTrue (may_stand m S gate z)) (sym one) may) ∙ no_x)

-- ---- the closed gate
pub closed_here : (bytes : List ℕ) (gate : ℕ) → gate < length bytes → slice_index bytes gate ≢ 1 → IsClosed (drop gate bytes)
closed_here bytes gate within shut = subst IsClosed (sym (drop_more bytes gate 0 within)) shut

pub stands_here : (m : Bounds) (bytes : List ℕ) (gate : ℕ) (history : List Entry) → IsReadTo m bytes gate history → gate < length bytes → slice_index bytes gate ≢ 1 → StandsFor m bytes history
stands_here m bytes gate history r within shut = subst (StandsFor m bytes) (append-nil history) (r.stands [] (closed_here bytes gate within shut))

pub adopts : (m : Bounds) (bytes : List ℕ) (gate : ℕ) (history : List Entry) → IsReadTo m bytes gate history → gate < length bytes → slice_index bytes gate ≢ 1
    → IsFront (take gate bytes) × IsClosedAfter (take gate bytes) bytes × (bodies_in gate bytes ≡ spellings history)
adopts m bytes gate history r within shut =
    let its_front = front_from (take gate bytes) (slice_index bytes 6) (spellings history) r.format r.front in
    let whole : bytes ≡ take gate bytes ++ get_or bytes gate 0 ∷ drop (gate + 1) bytes =
    sym (take-append-drop gate bytes) ∙ ap (λ (l : List ℕ). take gate bytes ++ l) (drop_more bytes gate 0 within) in
    (its_front.0, closed_at (take gate bytes) bytes (get_or bytes gate 0) (drop (gate + 1) bytes) shut whole, its_front.1)

-- the offset of an answer
same_offset : {p q : ℕ} → NoJournal p ≡ NoJournal q → p ≡ q
same_offset e = cc e

pub bad_at : (m : Bounds) (bytes : List ℕ) (p q : ℕ) → IsBadAt m bytes p → NoJournal p ≡ NoJournal q → IsBadAt m bytes q
bad_at m bytes p q bad e = subst (IsBadAt m bytes) (same_offset e) bad

-- what begins a spelling and is one is all of it
pub whole_spelling : (x y : Entry) (body : List ℕ) (used : ℕ) → IsTrue (is_spelled x) → IsTrue (is_spelled y) → used ≤ length body → body ≡ entry_bytes x ++ drop used body → entry_bytes y ≡ body
    → used ≡ length body
whole_spelling x y body used sx sy within laid is =
    let none = (entry_front x y (drop used body) [] sx sy (sym laid ∙ sym is ∙ sym (append-nil (entry_bytes y)))).1 in
    omega (arith, ap length none, length-drop used body, within)

pub all_spelled : (x : Entry) (body : List ℕ) (used : ℕ) → body ≡ entry_bytes x ++ drop used body → used ≡ length body → entry_bytes x ≡ body
all_spelled x body used laid all =
    let none : drop used body ≡ [] = drop_all used body (omega (arith, all)) in
    sym (append-nil (entry_bytes x)) ∙ ap (λ (l : List ℕ). entry_bytes x ++ l) (sym none) ∙ sym laid
