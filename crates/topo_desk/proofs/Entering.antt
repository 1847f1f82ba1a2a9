-- A board's history with an entry more, and what an edit is answered.
use Rattle.std.proofs.Common.{◌≡◌, ◌<◌, ◌≤◌, ◌^◌, ℕ, ◌+◌, Bool, true, false, not, ◌&&◌, nat_lt, nat_le, cond, List, [], ◌∷◌, ◌++◌, length, IsTrue, Ok, Err, is_ok, refl, sym, ap, ◌∙◌, arith, length-append, le-leb, leb-true}
use Rattle.std.proofs.lemmas.Bool.{and_parts, and_from}
use Rattle.std.proofs.lemmas.Bool.Decides.{nat_tests}
use Rattle.topo_base.specs.declared.answer.Answer.TheVariants.{Done, Refused}
use Rattle.topo_base.specs.declared.edit.Entry.{Entry}
use Rattle.topo_base.specs.declared.element.Element.{Element}
use Rattle.topo_base.specs.declared.rule.Rule.{Rule}
use Rattle.topo_base.specs.declared.rule.Rule.TheVariants.{IdsSpent, HistoryFull}
use Rattle.topo_base.specs.declared.write.RowWrite.{RowWrite}
use Rattle.read_set.specs.Plans.{IsPlanFor}
use Rattle.history_model.specs.Answers.{Bounds}
use Rattle.drawing.specs.Drawing.{Drawing, nothing_drawn}
use Rattle.drawing.specs.InRange.{is_spelled, is_edit, is_in_range}
use Rattle.history_model.specs.Legal.{is_legal, journal_length}
use Rattle.drawing.specs.Accepted.{is_accepted, is_entry, is_editor, keeps_limits, are_accepted, ids_within}
use Rattle.drawing.specs.Outcome.{Accepted, Outcome}
use Rattle.drawing.specs.Replay.{replay, after, after_all, answer_of, drawing_of, edits_of}
use Rattle.history_model.specs.Spelling.{entry_bytes, frame_bytes}
use Rattle.drawing.specs.Step.{step}
use Rattle.std.specs.List.{list_any}
use Rattle.topo_desk.specs.Beyond.{adds_beyond}
use Rattle.read_set.specs.Ready.{IsReady}
use Rattle.subdivision_laws.specs.Subdivided.{IsSubdivided}
use Rattle.subdivision_laws.proofs.SubdivisionsStaying.{subdivisions_stay}
use Rattle.topo_desk.specs.Verdict.{verdict, verdict_of}
use Rattle.topo_desk.proofs.SpentIds.{beyond_is}

-- ---- lengths
pub journal_more : (history : List Entry) (x : Entry) → journal_length (history ++ x ∷ []) ≡ journal_length history + (5 + length (entry_bytes x))
journal_more [] x = refl
journal_more (y ∷ ys) x = omega (arith, journal_more ys x)

pub frame_length : (x : Entry) → length (frame_bytes x) ≡ 5 + length (entry_bytes x)
frame_length x = omega (arith, length-append (entry_bytes x) (0 ∷ []))

-- ---- ids of a legal history
ids_after : (max_id : ℕ) (S : Drawing) (history : List Entry) → IsTrue (ids_within max_id S) → IsTrue (are_accepted max_id S history) → IsTrue (ids_within max_id (after_all S (edits_of history)))
ids_after max_id S [] within h = within
ids_after max_id S (x ∷ xs) within h =
    let parts = and_parts (is_entry x && is_ok (step S x.edit) && ids_within max_id (after S x.edit)) (are_accepted max_id (after S x.edit) xs) h in
    let here = and_parts (is_entry x && is_ok (step S x.edit)) (ids_within max_id (after S x.edit)) parts.0 in
    ids_after max_id (after S x.edit) xs here.1 parts.1

ids_begin : (max_id : ℕ) → IsTrue (ids_within max_id nothing_drawn)
ids_begin max_id = let one : nat_le 1 (max_id + 1) ≡ true = le-leb 1 (max_id + 1) (omega arith) in rw one refl

pub legal_ids : (m : Bounds) (history : List Entry) → IsTrue (is_legal m.max_id m.max_journal history) → IsTrue (ids_within m.max_id (replay history))
legal_ids m history legal =
    ids_after m.max_id nothing_drawn history (ids_begin m.max_id) (and_parts (are_accepted m.max_id nothing_drawn history) (nat_le (journal_length history) m.max_journal) legal).0

pub legal_fits : (m : Bounds) (history : List Entry) → IsTrue (is_legal m.max_id m.max_journal history) → journal_length history ≤ m.max_journal
legal_fits m history legal = leb-true _ _ (and_parts (are_accepted m.max_id nothing_drawn history) (nat_le (journal_length history) m.max_journal) legal).1

pub legal_subdivided : (m : Bounds) (history : List Entry) → IsTrue (is_legal m.max_id m.max_journal history) → IsSubdivided (replay history)
legal_subdivided m history legal = subdivisions_stay.each_history m.max_id history (and_parts (is_accepted m.max_id history) (nat_le (journal_length history) m.max_journal) legal).0

pub legal_ready : (m : Bounds) (history : List Entry) → m.max_id + 3 < 2 ^ 32 → IsTrue (is_legal m.max_id m.max_journal history) → IsReady (replay history)
legal_ready m history small legal =
    let S = replay history in let top = m.max_id + 1 in
    let four = and_parts (nat_le S.next_ids.node top && nat_le S.next_ids.edge top && nat_le S.next_ids.face top && nat_le S.next_ids.layer top) (nat_le S.next_ids.feature top) (legal_ids m history legal) in
    let three = and_parts (nat_le S.next_ids.node top && nat_le S.next_ids.edge top && nat_le S.next_ids.face top) (nat_le S.next_ids.layer top) four.0 in
    let two = and_parts (nat_le S.next_ids.node top && nat_le S.next_ids.edge top) (nat_le S.next_ids.face top) three.0 in
    let one = and_parts (nat_le S.next_ids.node top) (nat_le S.next_ids.edge top) two.0 in
    let node = leb-true _ _ one.0 in let edge = leb-true _ _ one.1 in let face = leb-true _ _ two.1 in let layer = leb-true _ _ three.1 in let feature = leb-true _ _ four.1 in
    let kept = (legal_subdivided m history legal).referenced in
    record { ids = kept.ids; references = kept.references; node_more = omega arith; edge_more = omega arith; face_more = omega arith; layer_more = omega arith; feature_more = omega arith }

-- ---- what an edit is answered
-- by a rule of its function
pub refused_as : (m : Bounds) (history : List Entry) (x : Entry) (outcome : Outcome) (rule : Rule) (front : ℕ) → answer_of (length history) outcome ≡ Refused rule front
    → verdict_of m history x outcome ≡ Refused rule front
refused_as m history x (Ok done) rule front is = cc is
refused_as m history x (Err other) rule front is = is

module _ (m : Bounds) (history : List Entry) (x : Entry) (done : Accepted) (accepted : step (replay history) x.edit ≡ Ok done) where
  verdict_is : verdict m history x ≡ verdict_of m history x (Ok done)
  verdict_is = ap (verdict_of m history x) accepted

  pub spent_is : not (ids_within m.max_id done.drawing) ≡ true → verdict m history x ≡ Refused IdsSpent (length history)
  spent_is spent = verdict_is ∙ ap (λ (b : Bool). cond b (Refused IdsSpent (length history)) (cond (nat_lt m.max_journal (journal_length (history ++ x ∷ []))) (Refused HistoryFull (length history)) (Done done.ids (length history + 1)))) spent

  within_is : not (ids_within m.max_id done.drawing) ≡ false → verdict m history x ≡ cond (nat_lt m.max_journal (journal_length (history ++ x ∷ []))) (Refused HistoryFull (length history)) (Done done.ids (length history + 1))
  within_is within = verdict_is ∙ ap (λ (b : Bool). cond b (Refused IdsSpent (length history)) (cond (nat_lt m.max_journal (journal_length (history ++ x ∷ []))) (Refused HistoryFull (length history)) (Done done.ids (length history + 1)))) within

  pub full_is : not (ids_within m.max_id done.drawing) ≡ false → m.max_journal < journal_length (history ++ x ∷ []) → verdict m history x ≡ Refused HistoryFull (length history)
  full_is within full = let over : nat_lt m.max_journal (journal_length (history ++ x ∷ [])) ≡ true = grind (arith, nat_tests) in within_is within ∙ ap (λ (b : Bool). cond b (Refused HistoryFull (length history)) (Done done.ids (length history + 1))) over

  pub done_is : not (ids_within m.max_id done.drawing) ≡ false → journal_length (history ++ x ∷ []) ≤ m.max_journal → verdict m history x ≡ Done done.ids (length history + 1)
  done_is within fits = let over : nat_lt m.max_journal (journal_length (history ++ x ∷ [])) ≡ false = grind (arith, nat_tests) in within_is within ∙ ap (λ (b : Bool). cond b (Refused HistoryFull (length history)) (Done done.ids (length history + 1))) over

  pub same_after : after (replay history) x.edit ≡ done.drawing
  same_after = ap (drawing_of (replay history)) accepted

  pub also_after : replay (history ++ x ∷ []) ≡ done.drawing
  also_after = edits_more nothing_drawn history ∙ same_after
    where
      edits_more : (S : Drawing) (front : List Entry) → after_all S (edits_of (front ++ x ∷ [])) ≡ after (after_all S (edits_of front)) x.edit
      edits_more S [] = refl
      edits_more S (y ∷ ys) = edits_more (after S y.edit) ys

-- ---- the tests of ids and of the journal's length
-- of a plan on a legal history
pub record IsPlanned (m : Bounds) (history : List Entry) (x : Entry) (ws : List RowWrite) (ids : List Element) : Type 0 where
  pub legal : IsTrue (is_legal m.max_id m.max_journal history)
  pub planned : IsPlanFor (replay history) x.edit ws ids

module _ (m : Bounds) (history : List Entry) (x : Entry) (ws : List RowWrite) (ids : List Element) (h : IsPlanned m history x ws ids) where
  beyond : list_any (adds_beyond m.max_id) ws ≡ not (ids_within m.max_id h.planned.done.drawing)
  beyond = beyond_is m.max_id (replay history) h.planned.done.drawing ws (legal_ids m history h.legal) h.planned.writable h.planned.tables

  pub spent_on : list_any (adds_beyond m.max_id) ws ≡ true → verdict m history x ≡ Refused IdsSpent (length history)
  spent_on any = spent_is m history x h.planned.done h.planned.accepted (sym beyond ∙ any)

  -- the length of the journal with the entry
  pub long_with : (bytes size : ℕ) (frame : List ℕ) → bytes ≡ journal_length history → frame ≡ frame_bytes x → size ≡ length frame → bytes + size ≡ journal_length (history ++ x ∷ [])
  long_with bytes size frame long framed sized = omega (arith, long, sized, ap length framed, frame_length x, journal_more history x)

  pub full_on : (bytes size : ℕ) (frame : List ℕ) → bytes ≡ journal_length history → frame ≡ frame_bytes x → size ≡ length frame → list_any (adds_beyond m.max_id) ws ≡ false → m.max_journal < bytes + size
      → verdict m history x ≡ Refused HistoryFull (length history)
  full_on bytes size frame long framed sized any full =
      full_is m history x h.planned.done h.planned.accepted (sym beyond ∙ any) (omega (arith, full, long_with bytes size frame long framed sized))

  pub within_on : list_any (adds_beyond m.max_id) ws ≡ false → IsTrue (ids_within m.max_id (after (replay history) x.edit))
  within_on any = ap (ids_within m.max_id) (same_after m history x h.planned.done h.planned.accepted) ∙ not_false (ids_within m.max_id h.planned.done.drawing) (sym beyond ∙ any)
    where
      not_false : (b : Bool) → not b ≡ false → b ≡ true
      not_false true e = refl
      not_false false e = cc e

-- ---- the board with the entry
pub entry_is : (x : Entry) → IsTrue (is_spelled x) → IsTrue (is_entry x)
entry_is x spelled =
    let parts = and_parts (is_editor x.editor) (is_edit x.edit) spelled in
    and_from (is_editor x.editor) (keeps_limits x.edit) parts.0 (and_parts (keeps_limits x.edit) (is_in_range x.edit) parts.1).0
