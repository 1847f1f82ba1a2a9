-- What each decided change keeps holds after each edit, and in every accepted history.
use Rattle.std.proofs.Common.{◌≡◌, ℕ, refl, sym, subst, append_assoc, append-nil, true, List, [], ◌∷◌, ◌++◌, Ok, Err, ◌&&◌}
use Rattle.std.specs.Prelude.{is_ok}
use Rattle.std.specs.List.{list_all}
use Rattle.std.proofs.lemmas.Bool.{and_parts, and_from}
use Rattle.topo_base.specs.declared.edit.Edit.{Edit}
use Rattle.topo_base.specs.declared.edit.Entry.{Entry}
use Rattle.drawing.specs.Accepted.{is_accepted, are_accepted, is_entry, is_editor, ids_within, keeps_limits}
use Rattle.drawing.specs.Drawing.{Drawing, nothing_drawn}
use Rattle.drawing.specs.Replay.{after, after_all, drawing_of, edits_of, replay}
use Rattle.drawing.specs.Step.{step}
use Rattle.drawing.specs.Change.{Change}
use Rattle.drawing.specs.Decide.{decide}
use Rattle.drawing.specs.Apply.{apply, Decision, carried_out}
use Rattle.drawing.proofs.Replaying.{are_accepted-push}
use Rattle.edit_changes.specs.Evidence.{IsDecided, is_within}
use Rattle.edit_changes.specs.ChangeLaw.{IsDrawn}
use Rattle.edit_changes.proofs.Evidence.{decided, within}

-- ---- one edit: what each decided change keeps, from a drawing where the property holds
after_decided : (P : Drawing → Type 0) (S : Drawing) (d : Decision) → ((c : Change) → d ≡ Ok c → P ((apply S c).drawing)) → P S → P (drawing_of S (carried_out S d))
after_decided P S (Ok c) each h = each c refl
after_decided P S (Err rule) each h = h

pub after_change : (P : Drawing → Type 0) (S : Drawing) (e : Edit) → ((c : Change) → IsDecided S c → P ((apply S c).drawing)) → P S → P (after S e)
after_change P S e each h = after_decided P S (decide S e) (λ c is. each c (decided S e c is)) h

-- the same of an edit within the limits
pub after_within : (P : Drawing → Type 0) (S : Drawing) (e : Edit) → keeps_limits e ≡ true → ((c : Change) → IsDecided S c → is_within c ≡ true → P ((apply S c).drawing)) → P S → P (after S e)
after_within P S e limits each h = after_decided P S (decide S e) (λ c is. each c (decided S e c is) (within S e c limits is)) h

-- ---- edits, one after another
pub all_changes : (P : Drawing → Type 0) → ((S : Drawing) (c : Change) → IsDecided S c → P S → P ((apply S c).drawing)) → (S : Drawing) (es : List Edit) → P S → P (after_all S es)
all_changes P each S [] h = h
all_changes P each S (e ∷ es) h = all_changes P each (after S e) es (after_change P S e (λ c is. each S c is h) h)

pub after_edits : (P : Drawing → Type 0) → ((S : Drawing) (e : Edit) → keeps_limits e ≡ true → P S → P (after S e)) → (S : Drawing) (es : List Edit) → list_all keeps_limits es ≡ true → P S → P (after_all S es)
after_edits P each S [] limits h = h
after_edits P each S (e ∷ es) limits h =
    let both = and_parts (keeps_limits e) (list_all keeps_limits es) limits in
    after_edits P each (after S e) es both.1 (each S e both.0 h)

-- the edits of an accepted history keep the limits
within_limits : (max_id : ℕ) (S : Drawing) (history : List Entry) → are_accepted max_id S history ≡ true → list_all keeps_limits (edits_of history) ≡ true
within_limits max_id S [] k = refl
within_limits max_id S (x ∷ xs) k =
    let rest = and_parts (is_entry x && is_ok (step S x.edit) && ids_within max_id (after S x.edit)) (are_accepted max_id (after S x.edit) xs) k in
    let some = and_parts (is_entry x && is_ok (step S x.edit)) (ids_within max_id (after S x.edit)) rest.0 in
    let entry = and_parts (is_entry x) (is_ok (step S x.edit)) some.0 in
    and_from (keeps_limits x.edit) (list_all keeps_limits (edits_of xs)) (and_parts (is_editor x.editor) (keeps_limits x.edit) entry.0).1 (within_limits max_id (after S x.edit) xs rest.1)

pub in_histories : (max_id : ℕ) (P : Drawing → Type 0) → ((S : Drawing) (e : Edit) → keeps_limits e ≡ true → P S → P (after S e)) → P nothing_drawn → (history : List Entry) → is_accepted max_id history ≡ true → P (replay history)
in_histories max_id P each begun history accepted = after_edits P each nothing_drawn (edits_of history) (within_limits max_id nothing_drawn history accepted) begun

-- ---- every accepted history
edits_of-append : (S : Drawing) (front rest : List Entry) → after_all S (edits_of (front ++ rest)) ≡ after_all (after_all S (edits_of front)) (edits_of rest)
edits_of-append S [] rest = refl
edits_of-append S (x ∷ front) rest = edits_of-append (after S x.edit) front rest

pub accepted_histories : (max_id : ℕ) (P : Drawing → Type 0) → P nothing_drawn
    → ((S : Drawing) (c : Change) → IsDrawn max_id S → IsDecided S c → is_within c ≡ true → P S → P ((apply S c).drawing))
    → (history : List Entry) → is_accepted max_id history ≡ true → P (replay history)
accepted_histories max_id P begun each history accepted = onward [] history refl accepted begun
  where
    onward : (front rest : List Entry) → are_accepted max_id nothing_drawn front ≡ true → are_accepted max_id (replay front) rest ≡ true → P (replay front) → P (replay (front ++ rest))
    onward front [] done more h = subst (λ l. P (replay l)) (sym (append-nil front)) h
    onward front (x ∷ rest) done more h =
        let S = replay front in
        let parts = and_parts (is_entry x && is_ok (step S x.edit) && ids_within max_id (after S x.edit)) (are_accepted max_id (after S x.edit) rest) more in
        let some = and_parts (is_entry x && is_ok (step S x.edit)) (ids_within max_id (after S x.edit)) parts.0 in
        let entry = and_parts (is_entry x) (is_ok (step S x.edit)) some.0 in
        let drawn : IsDrawn max_id S = record { history = front; accepted = done; is = refl } in
        let limits = (and_parts (is_editor x.editor) (keeps_limits x.edit) entry.0).1 in
        let then = after_within P S x.edit limits (λ c is w. each S c drawn is w h) h in
        let seam = edits_of-append nothing_drawn front (x ∷ []) in
        subst (λ l. P (replay l)) (append_assoc front (x ∷ []) rest)
        (onward (front ++ x ∷ []) rest (are_accepted-push max_id nothing_drawn front x done entry.0 entry.1 some.1)
        (subst (λ T. are_accepted max_id T rest ≡ true) (sym seam) parts.1)
        (subst P (sym seam) then))
