-- What a journal of bodies reads as where the test asks for entries.
use Rattle.std.proofs.Common.{◌≡◌, ◌≢◌, ◌<◌, ◌≤◌, ◌⊎◌, inl, inr, ⊎_elim, ℕ, zero, suc, ◌+◌, ◌^◌, Bool, true, false, ◌&&◌, ◌==◌, IsTrue, List, [], ◌∷◌, ◌++◌, length, take, drop, get_or, nat_lt, nat_le, is_ok, if◌then◌else◌, refl, sym, ◌∙◌, ap, subst, arith, append_assoc, length-append, length-take, length-drop, take-append-drop, leb-true, le-leb, ltb-true}
use Rattle.std.specs.List.{list_all}
use Rattle.std.proofs.Math.Bool.{and-true}
use Rattle.std.proofs.lemmas.Bool.{cases_eq, lt-ltb, and_parts, true≢false}
use Rattle.std.proofs.lemmas.Bool.Decides.{nat_tests}
use Rattle.std.proofs.lemmas.List.{append-nil, map-append, take_at, drop_at}
use Rattle.plane.proofs.LineTurns.{all-append}
use Rattle.topo_base.specs.declared.edit.Entry.{Entry}
use Rattle.drawing.specs.Drawing.{Drawing, nothing_drawn}
use Rattle.drawing.specs.Step.{step}
use Rattle.drawing.specs.Replay.{replay, after, after_all, edits_of}
use Rattle.drawing.specs.Accepted.{ids_within, is_entry, are_accepted}
use Rattle.history_model.specs.Legal.{is_legal, journal_length}
use Rattle.drawing.specs.InRange.{is_spelled}
use Rattle.history_model.specs.Spelling.{number_bytes, entry_bytes}
use Rattle.history_model.specs.Answers.{Bounds}
use Rattle.history_model.specs.Journal.{IsFramed, next_gate, may_stand, AreEntries, IsBadGate, IsBadAfter}
use Rattle.history_model.proofs.Running.{edits_of-append}
use Rattle.topo_journal.specs.Bytes.{Legal, Follow, AreLegal, number, frame, frames, Reading, History, Bad, read_gates}
use Rattle.topo_journal.specs.Kept.{AreBytes, gate_behind}
use Rattle.topo_journal.specs.Entries.{spellings, AreSpelled}
use Rattle.topo_journal.proofs.EntryTests.{TestsEntries}
use Rattle.topo_journal.proofs.Reading.{number-bytes, closed_gate, open_gate}
use Rattle.topo_journal.proofs.Parsed.{bytes-number, tail_bytes, short_bad, bad_zero, bad_none}
use Rattle.topo_journal.proofs.Scans.{grown}
use Rattle.topo_journal.proofs.EntryFrames.{number_size}

pick : (g : ℕ) (s t : Bool) (X B H : Reading) → g ≡ 1
    → ((s ≡ true) × (t ≡ true) × ((if g == 1 then (if s && t then X else B) else H) ≡ X)) ⊎ (((s && t) ≡ false) × ((if g == 1 then (if s && t then X else B) else H) ≡ B))
pick g true true X B H one = inl (refl, refl, grind (arith, nat_tests))
pick g true false X B H one = inr (refl, grind (arith, nat_tests))
pick g false t X B H one = inr (refl, grind (arith, nat_tests))

-- an open gate before four bytes and more: a body that the test takes, or a bad gate
opened : (legal : Legal) (steps : ℕ) (before : List (List ℕ)) (p g a b c d : ℕ) (rest : List ℕ) → g ≡ 1
    → ((number a b c d < length rest) × (legal before (take (number a b c d) rest) ≡ true)
    × (read_gates legal (suc steps) before p (g ∷ a ∷ b ∷ c ∷ d ∷ rest) ≡ read_gates legal steps (before ++ take (number a b c d) rest ∷ []) (p + 5 + number a b c d) (drop (number a b c d) rest)))
    ⊎ (((nat_lt (number a b c d) (length rest) && legal before (take (number a b c d) rest)) ≡ false)
    × (read_gates legal (suc steps) before p (g ∷ a ∷ b ∷ c ∷ d ∷ rest) ≡ Bad p))
unfolding read_gates
opened legal steps before p g a b c d rest one =
    let n = number a b c d in
    ⊎_elim (λ w. inl (ltb-true n (length rest) w.0, w.1, w.2)) (λ w. inr w)
    (pick g (nat_lt n (length rest)) (legal before (take n rest)) (read_gates legal steps (before ++ take n rest ∷ []) (p + 5 + n) (drop n rest)) (Bad p) (History before) one)

pub not_empty : (l : List ℕ) → l ≢ [] → 0 < length l
not_empty [] other = absurd (other refl)
not_empty (b ∷ l) other = omega arith

module _ (m : Bounds) (legal : Legal) (small : m.max_journal < 2 ^ 32) (tests : TestsEntries m legal) where
  -- the body of an entry that may stand is short
  short_body : (S : Drawing) (gate : ℕ) (x : Entry) → IsTrue (may_stand m S gate x) → length (entry_bytes x) < 2 ^ 32
  short_body S gate x may =
      let last = leb-true (next_gate gate x + 1) m.max_journal (and_parts (is_ok (step S x.edit) && ids_within m.max_id (after S x.edit)) (nat_le (next_gate gate x + 1) m.max_journal) may).1 in
      omega (arith, last, small)

  one_behind : (xs : List Entry) (x : Entry) → spellings (xs ++ x ∷ []) ≡ spellings xs ++ entry_bytes x ∷ []
  one_behind xs x = map-append entry_bytes xs (x ∷ [])

  next_behind : (xs : List Entry) (x : Entry) (gate : ℕ) → gate ≡ gate_behind (spellings xs) → next_gate gate x ≡ gate_behind (spellings (xs ++ x ∷ []))
  next_behind xs x gate at = grown gate (length (entry_bytes x)) (spellings xs) (spellings (xs ++ x ∷ [])) (entry_bytes x) (one_behind xs x) at refl

  spelled_more : (xs : List Entry) (x : Entry) → AreSpelled xs → IsTrue (is_spelled x) → AreSpelled (xs ++ x ∷ [])
  spelled_more xs x are is = all-append is_spelled xs (x ∷ []) are (and-true (is_spelled x) ∙ is)

  then_after : (xs : List Entry) (x : Entry) → after (replay xs) x.edit ≡ replay (xs ++ x ∷ [])
  then_after xs x = sym (edits_of-append nothing_drawn xs (x ∷ []))

  -- a frame, as it is laid for entries and for bodies
  laid_frame : (x : Entry) (bytes next : List ℕ) → length (entry_bytes x) < 2 ^ 32 → IsFramed bytes x next → bytes ≡ 1 ∷ (frame (entry_bytes x) ++ next)
  laid_frame x bytes next short framed =
      let body = entry_bytes x in
      framed.laid ∙ ap (λ (l : List ℕ). 1 ∷ (l ++ body ++ next)) (number_size (length body) short)

  next_shorter : (x : Entry) (bytes next : List ℕ) → IsFramed bytes x next → length next < length bytes
  next_shorter x bytes next framed = omega (arith, ap length framed.laid, length-append (entry_bytes x) next)

  -- ---- from entries to bodies
  next_read : (steps : ℕ) (xs : List Entry) (x : Entry) (gate : ℕ) (bytes next : List ℕ) → AreSpelled xs → gate ≡ gate_behind (spellings xs) → IsFramed bytes x next
      → IsTrue (may_stand m (replay xs) gate x)
      → read_gates legal (suc steps) (spellings xs) gate bytes ≡ read_gates legal steps (spellings (xs ++ x ∷ [])) (next_gate gate x) next
  next_read steps xs x gate bytes next are at framed may =
      let body = entry_bytes x in
      let short = short_body (replay xs) gate x may in
      let taken = tests.takes xs x are (framed.spelled, subst (λ (p : ℕ). IsTrue (may_stand m (replay xs) p x)) at may) in
      let some : 0 < length next = not_empty next framed.gated in
      ap (read_gates legal (suc steps) (spellings xs) gate) (laid_frame x bytes next short framed)
      ∙ open_gate legal steps (spellings xs) gate body next taken some
      ∙ ap (λ bs. read_gates legal steps bs (next_gate gate x) next) (sym (one_behind xs x))

  pub enters : (steps : ℕ) (xs ys : List Entry) (gate : ℕ) (bytes : List ℕ) → AreSpelled xs → gate ≡ gate_behind (spellings xs) → length bytes ≤ steps
      → AreEntries m (replay xs) gate bytes ys → read_gates legal steps (spellings xs) gate bytes ≡ History (spellings (xs ++ ys))
  enters steps xs [] gate [] are at enough entries = absurd entries
  enters zero xs [] gate (b ∷ bytes) are at enough entries = absurd (omega arith)
  enters (suc steps) xs [] gate (b ∷ bytes) are at enough entries =
      closed_gate legal steps (spellings xs) gate b bytes entries ∙ ap (λ (l : List Entry). History (spellings l)) (sym (append-nil xs))
  enters zero xs (y ∷ ys) gate bytes are at enough (next, (framed, may, rest)) = absurd (omega (arith, enough, next_shorter y bytes next framed))
  enters (suc steps) xs (y ∷ ys) gate bytes are at enough (next, (framed, may, rest)) =
      next_read steps xs y gate bytes next are at framed may
      ∙ enters steps (xs ++ y ∷ []) ys (next_gate gate y) next (spelled_more xs y are framed.spelled) (next_behind xs y gate at)
      (omega (arith, enough, next_shorter y bytes next framed)) (subst (λ S. AreEntries m S (next_gate gate y) next ys) (then_after xs y) rest)
      ∙ ap (λ (l : List Entry). History (spellings l)) (append_assoc xs (y ∷ []) ys)

  -- ---- from bodies to entries
  -- what stands at a gate and behind it, by what was read
  abbrev pub Told : List Entry → ℕ → List ℕ → Reading → Type 0
  Told xs gate bytes reading =
      (ys : List Entry) × ((AreEntries m (replay xs) gate bytes ys × (reading ≡ History (spellings (xs ++ ys)))) ⊎ ((p : ℕ) × IsBadAfter m (replay xs) gate bytes ys p × (reading ≡ Bad p)))

  frame_short : (x : Entry) (g : ℕ) (rest next : List ℕ) → IsFramed (g ∷ rest) x next → 5 ≤ length rest
  frame_short x g rest next framed = omega (arith, ap length framed.laid, length-append (entry_bytes x) next)

  told_closed : (steps : ℕ) (xs : List Entry) (gate g : ℕ) (rest : List ℕ) → g ≢ 1 → Told xs gate (g ∷ rest) (read_gates legal (suc steps) (spellings xs) gate (g ∷ rest))
  told_closed steps xs gate g rest shut =
      ([], inl (shut, closed_gate legal steps (spellings xs) gate g rest shut ∙ ap (λ (l : List Entry). History (spellings l)) (sym (append-nil xs))))

  told_short : (steps : ℕ) (xs : List Entry) (gate g : ℕ) (rest : List ℕ) → length rest < 4 → Told xs gate (g ∷ rest) (read_gates legal (suc steps) (spellings xs) gate (g ∷ rest))
  told_short steps xs gate g rest short = elim (cases_eq g 1) [
    | inl one ↦ (
      [],
      inr (
        gate,
        (
          refl,
          record {
            not_closed = λ shut. shut one;
            no_entry = λ x next framed may. absurd (omega (arith, short, frame_short x g rest next framed));
          },
        ),
        short_bad legal steps (spellings xs) gate g rest one short,
      ),
    )
    | inr shut ↦ told_closed steps xs gate g rest shut
  ]

  -- an entry before what stands behind it
  told_behind : (xs : List Entry) (x : Entry) (gate : ℕ) (bytes next : List ℕ) (reading : Reading) → IsFramed bytes x next → IsTrue (may_stand m (replay xs) gate x)
      → Told (xs ++ x ∷ []) (next_gate gate x) next reading → Told xs gate bytes reading
  told_behind xs x gate bytes next reading framed may (ys, inl w) = (
    x ∷ ys,
    inl ((next, (framed, may, subst (λ S. AreEntries m S (next_gate gate x) next ys) (sym (then_after xs x)) w.0)), w.1 ∙ ap (λ (l : List Entry). History (spellings l)) (append_assoc xs (x ∷ []) ys)),
  )
  told_behind xs x gate bytes next reading framed may (ys, inr (p, bad, reads)) = (
    x ∷ ys,
    inr (p, (next, (framed, may, subst (λ S. IsBadAfter m S (next_gate gate x) next ys p) (sym (then_after xs x)) bad)), reads),
  )

  -- a body that the test takes is the spelling of an entry that may stand there
  told_more : (xs : List Entry) (gate g a b c d : ℕ) (rest : List ℕ) (reading : Reading) → AreSpelled xs → gate ≡ gate_behind (spellings xs) → AreBytes (g ∷ a ∷ b ∷ c ∷ d ∷ rest)
      → g ≡ 1 → number a b c d < length rest → legal (spellings xs) (take (number a b c d) rest) ≡ true
      → ((x : Entry) → AreSpelled (xs ++ x ∷ []) → next_gate gate x ≡ gate_behind (spellings (xs ++ x ∷ [])) → spellings xs ++ take (number a b c d) rest ∷ [] ≡ spellings (xs ++ x ∷ [])
      → gate + 5 + number a b c d ≡ next_gate gate x → Told (xs ++ x ∷ []) (next_gate gate x) (drop (number a b c d) rest) reading)
      → Told xs gate (g ∷ a ∷ b ∷ c ∷ d ∷ rest) reading
  told_more xs gate g a b c d rest reading are at bytes one fits taken further =
      let n = number a b c d in let body = take n rest in let next = drop n rest in
      let found = tests.only xs body are taken in
      let x = found.0 in let is : entry_bytes x ≡ body = found.1 in
      let size : length (entry_bytes x) ≡ n = omega (arith, ap length is, length-take n rest, fits) in
      let short : n < 2 ^ 32 = omega (arith, bytes 1 (omega arith), bytes 2 (omega arith), bytes 3 (omega arith), bytes 4 (omega arith)) in
      let spelled : number_bytes (length (entry_bytes x)) ≡ a ∷ b ∷ c ∷ d ∷ [] =
      ap number_bytes size ∙ number_size n short ∙ bytes-number a b c d (bytes 2 (omega arith)) (bytes 3 (omega arith)) (bytes 4 (omega arith)) in
      let split : rest ≡ entry_bytes x ++ next = sym (take-append-drop n rest) ∙ ap (λ (l : List ℕ). l ++ next) (sym is) in
      let framed : IsFramed (g ∷ a ∷ b ∷ c ∷ d ∷ rest) x next = record {
        spelled = found.2.0;
        laid = ap (λ (k : ℕ). k ∷ a ∷ b ∷ c ∷ d ∷ rest) one ∙ ap (λ (l : List ℕ). 1 ∷ a ∷ b ∷ c ∷ d ∷ l) split
            ∙ ap (λ (l : List ℕ). 1 ∷ (l ++ entry_bytes x ++ next)) (sym spelled);
        gated = λ none. absurd (omega (arith, ap length none, length-drop n rest, fits));
      } in
      let may : IsTrue (may_stand m (replay xs) gate x) = subst (λ (p : ℕ). IsTrue (may_stand m (replay xs) p x)) (sym at) found.2.1 in
      let same : spellings xs ++ body ∷ [] ≡ spellings (xs ++ x ∷ []) = ap (λ (l : List ℕ). spellings xs ++ l ∷ []) (sym is) ∙ sym (one_behind xs x) in
      told_behind xs x gate (g ∷ a ∷ b ∷ c ∷ d ∷ rest) next reading framed may (further x (spelled_more xs x are found.2.0) (next_behind xs x gate at) same (omega (arith, size)))

  told_unread : (xs : List Entry) (gate g a b c d : ℕ) (rest : List ℕ) → AreSpelled xs → gate ≡ gate_behind (spellings xs) → g ≡ 1
      → (nat_lt (number a b c d) (length rest) && legal (spellings xs) (take (number a b c d) rest)) ≡ false
      → IsBadGate m (replay xs) gate (g ∷ a ∷ b ∷ c ∷ d ∷ rest)
  told_unread xs gate g a b c d rest are at one untaken = record {
    not_closed = λ shut. shut one;
    no_entry = λ x next framed may.
        let n = number a b c d in let body = entry_bytes x in let k = length body in
        let is = laid_frame x (g ∷ a ∷ b ∷ c ∷ d ∷ rest) next (short_body (replay xs) gate x may) framed in
        let size : n ≡ k = ap (λ (l : List ℕ). number (get_or l 1 0) (get_or l 2 0) (get_or l 3 0) (get_or l 4 0)) is ∙ number-bytes k in
        let split : rest ≡ body ++ next = ap (drop 5) is in
        let fits : nat_lt n (length rest) ≡ true = lt-ltb n (length rest) (omega (arith, size, ap length split, length-append body next, not_empty next framed.gated)) in
        let front : take n rest ≡ body = ap (take n) split ∙ take_at body next n (sym size) in
        let taken : legal (spellings xs) (take n rest) ≡ true =
        ap (legal (spellings xs)) front ∙ tests.takes xs x are (framed.spelled, subst (λ (p : ℕ). IsTrue (may_stand m (replay xs) p x)) at may) in
        let both : (nat_lt n (length rest) && legal (spellings xs) (take n rest)) ≡ true = rw (fits, taken) refl in
        true≢false (sym both ∙ untaken);
  }

  pub told : (steps : ℕ) (xs : List Entry) (gate : ℕ) (bytes : List ℕ) → AreSpelled xs → gate ≡ gate_behind (spellings xs) → AreBytes bytes → length bytes ≤ steps
      → Told xs gate bytes (read_gates legal steps (spellings xs) gate bytes)
  told zero xs gate [] are at bytes enough = ([], inr (gate, (refl, record { not_closed = λ none. none; no_entry = λ x next framed may. absurd (omega (arith, ap length framed.laid)) }), bad_zero legal (spellings xs) gate []))
  told zero xs gate (g ∷ rest) are at bytes enough = absurd (omega arith)
  told (suc steps) xs gate [] are at bytes enough = ([], inr (gate, (refl, record { not_closed = λ none. none; no_entry = λ x next framed may. absurd (omega (arith, ap length framed.laid)) }), bad_none legal steps (spellings xs) gate))
  told (suc steps) xs gate (g ∷ []) are at bytes enough = told_short steps xs gate g [] (omega arith)
  told (suc steps) xs gate (g ∷ a ∷ []) are at bytes enough = told_short steps xs gate g (a ∷ []) (omega arith)
  told (suc steps) xs gate (g ∷ a ∷ b ∷ []) are at bytes enough = told_short steps xs gate g (a ∷ b ∷ []) (omega arith)
  told (suc steps) xs gate (g ∷ a ∷ b ∷ c ∷ []) are at bytes enough = told_short steps xs gate g (a ∷ b ∷ c ∷ []) (omega arith)
  told (suc steps) xs gate (g ∷ a ∷ b ∷ c ∷ d ∷ rest) are at bytes enough = elim (cases_eq g 1) [
    | inl one ↦ ⊎_elim
        (λ w. subst (Told xs gate (g ∷ a ∷ b ∷ c ∷ d ∷ rest)) (sym w.2) (told_more xs gate g a b c d rest _ are at bytes one w.0 w.1
        (λ x are' at' same place. subst (Told (xs ++ x ∷ []) (next_gate gate x) (drop (number a b c d) rest))
        (ap (λ bs. read_gates legal steps bs (next_gate gate x) (drop (number a b c d) rest)) (sym same) ∙ ap (λ p. read_gates legal steps (spellings xs ++ take (number a b c d) rest ∷ []) p (drop (number a b c d) rest)) (sym place))
        (told steps (xs ++ x ∷ []) (next_gate gate x) (drop (number a b c d) rest) are' at' (tail_bytes (number a b c d) rest (tail_bytes 5 (g ∷ a ∷ b ∷ c ∷ d ∷ rest) bytes)) (omega (arith, enough, length-drop (number a b c d) rest))))))
        (λ w. ([], inr (gate, (refl, told_unread xs gate g a b c d rest are at one w.0), w.1)))
        (opened legal steps (spellings xs) gate g a b c d rest one)
    | inr shut ↦ told_closed steps xs gate g (a ∷ b ∷ c ∷ d ∷ rest) shut
  ]

  -- ---- the first bad gate
  next_bytes : (x : Entry) (bytes next : List ℕ) → length (entry_bytes x) < 2 ^ 32 → IsFramed bytes x next → AreBytes bytes → AreBytes next
  next_bytes x bytes next short framed are =
      let before = 1 ∷ frame (entry_bytes x) in
      let behind : drop (length before) bytes ≡ next = ap (drop (length before)) (laid_frame x bytes next short framed) ∙ drop_at before next (length before) refl in
      subst AreBytes behind (tail_bytes (length before) bytes are)

  bad_here : (xs : List Entry) (gate p : ℕ) (bytes : List ℕ) (reading : Reading) → p ≡ gate → IsBadGate m (replay xs) gate bytes → Told xs gate bytes reading → reading ≡ Bad p
  bad_here xs gate p bytes reading place bad ([], inl w) = absurd (bad.not_closed w.0)
  bad_here xs gate p bytes reading place bad (x ∷ ys, inl ((next, (framed, may, rest)), reads)) = absurd (bad.no_entry x next framed may)
  bad_here xs gate p bytes reading place bad ([], inr (q, (same, other), reads)) = reads ∙ ap Bad (same ∙ sym place)
  bad_here xs gate p bytes reading place bad (x ∷ ys, inr (q, (next, (framed, may, rest)), reads)) = absurd (bad.no_entry x next framed may)

  pub enters_bad : (steps : ℕ) (xs ys : List Entry) (gate p : ℕ) (bytes : List ℕ) → AreSpelled xs → gate ≡ gate_behind (spellings xs) → AreBytes bytes → length bytes ≤ steps
      → IsBadAfter m (replay xs) gate bytes ys p → read_gates legal steps (spellings xs) gate bytes ≡ Bad p
  enters_bad steps xs [] gate p bytes are at of_bytes enough (place, bad) = bad_here xs gate p bytes _ place bad (told steps xs gate bytes are at of_bytes enough)
  enters_bad zero xs (y ∷ ys) gate p bytes are at of_bytes enough (next, (framed, may, rest)) = absurd (omega (arith, enough, next_shorter y bytes next framed))
  enters_bad (suc steps) xs (y ∷ ys) gate p bytes are at of_bytes enough (next, (framed, may, rest)) =
      next_read steps xs y gate bytes next are at framed may
      ∙ enters_bad steps (xs ++ y ∷ []) ys (next_gate gate y) p next (spelled_more xs y are framed.spelled) (next_behind xs y gate at)
      (next_bytes y bytes next (short_body (replay xs) gate y may) framed of_bytes)
      (omega (arith, enough, next_shorter y bytes next framed)) (subst (λ S. IsBadAfter m S (next_gate gate y) next ys p) (then_after xs y) rest)

  -- ---- legal histories
  longer_frames : (front rest : List (List ℕ)) → length (frames front) ≤ length (frames (front ++ rest))
  longer_frames [] rest = omega arith
  longer_frames (body ∷ front) rest = omega (arith, longer_frames front rest, length-append (frame body) (frames front), length-append (frame body) (frames (front ++ rest)))

  follows : (xs ys : List Entry) → AreSpelled xs → AreSpelled ys → are_accepted m.max_id (replay xs) ys ≡ true → gate_behind (spellings (xs ++ ys)) + 1 ≤ m.max_journal
      → Follow legal (spellings xs) (spellings ys)
  follows xs [] are are' accepted fits = tt
  follows xs (y ∷ ys) are are' accepted fits =
      let spelled = and_parts (is_spelled y) (list_all is_spelled ys) are' in
      let on = and_parts (is_entry y && is_ok (step (replay xs) y.edit) && ids_within m.max_id (after (replay xs) y.edit)) (are_accepted m.max_id (after (replay xs) y.edit) ys) accepted in
      let ids = and_parts (is_entry y && is_ok (step (replay xs) y.edit)) (ids_within m.max_id (after (replay xs) y.edit)) on.0 in
      let done = and_parts (is_entry y) (is_ok (step (replay xs) y.edit)) ids.0 in
      let gate = gate_behind (spellings xs) in
      let fits' : gate_behind (spellings ((xs ++ y ∷ []) ++ ys)) + 1 ≤ m.max_journal = subst (λ (l : List Entry). gate_behind (spellings l) + 1 ≤ m.max_journal) (sym (append_assoc xs (y ∷ []) ys)) fits in
      let front : gate_behind (spellings (xs ++ y ∷ [])) ≤ gate_behind (spellings ((xs ++ y ∷ []) ++ ys)) =
      subst (λ (l : List (List ℕ)). gate_behind (spellings (xs ++ y ∷ [])) ≤ gate_behind l) (sym (map-append entry_bytes (xs ++ y ∷ []) ys))
      (omega (arith, longer_frames (spellings (xs ++ y ∷ [])) (spellings ys))) in
      let last : nat_le (next_gate gate y + 1) m.max_journal ≡ true = le-leb (next_gate gate y + 1) m.max_journal (omega (arith, next_behind xs y gate refl, front, fits')) in
      let may : may_stand m (replay xs) gate y ≡ true = rw (done.1, ids.1, last) refl in (
        tests.takes xs y are (spelled.0, may),
        subst (λ (l : List (List ℕ)). Follow legal l (spellings ys)) (one_behind xs y)
            (follows (xs ++ y ∷ []) ys (spelled_more xs y are spelled.0) spelled.1 (subst (λ S. are_accepted m.max_id S ys ≡ true) (then_after xs y) on.1) fits'),
      )

  journal_end : (history : List Entry) → journal_length history ≡ gate_behind (spellings history) + 1
  journal_end [] = refl
  journal_end (x ∷ history) = omega (arith, journal_end history, length-append (frame (entry_bytes x)) (frames (spellings history)))

  pub legal_follows : (history : List Entry) → AreSpelled history → IsTrue (is_legal m.max_id m.max_journal history) → AreLegal legal (spellings history)
  legal_follows history are legal_one =
      let parts = and_parts (are_accepted m.max_id nothing_drawn history) (nat_le (journal_length history) m.max_journal) legal_one in
      follows [] history refl are parts.0 (omega (arith, leb-true (journal_length history) m.max_journal parts.1, journal_end history))
