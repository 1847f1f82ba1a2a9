-- Edits one after another, and a history with an entry more.
use Rattle.std.proofs.Common.{◌≡◌, ℕ, ◌&&◌, List, [], ◌∷◌, ◌++◌, IsTrue, is_ok, refl}
use Rattle.std.proofs.lemmas.Bool.{and_parts, and_from}
use Rattle.topo_base.specs.declared.edit.Edit.{Edit}
use Rattle.topo_base.specs.declared.edit.Entry.{Entry}
use Rattle.drawing.specs.Drawing.{Drawing}
use Rattle.drawing.specs.Step.{step}
use Rattle.drawing.specs.Replay.{after, after_all, edits_of}
use Rattle.drawing.specs.Accepted.{are_accepted, is_entry, ids_within}

pub after_all-append : (S : Drawing) (es fs : List Edit) → after_all S (es ++ fs) ≡ after_all (after_all S es) fs
after_all-append S [] fs = refl
after_all-append S (e ∷ es) fs = after_all-append (after S e) es fs

-- ---- a history with an entry more
pub are_accepted-push : (max_id : ℕ) (S : Drawing) (history : List Entry) (x : Entry) → IsTrue (are_accepted max_id S history)
    → IsTrue (is_entry x) → IsTrue (is_ok (step (after_all S (edits_of history)) x.edit)) → IsTrue (ids_within max_id (after (after_all S (edits_of history)) x.edit))
    → IsTrue (are_accepted max_id S (history ++ x ∷ []))
are_accepted-push max_id S [] x h entry ok within = and_from _ _ (and_from _ _ (and_from _ _ entry ok) within) refl
are_accepted-push max_id S (y ∷ ys) x h entry ok within =
    let parts = and_parts (is_entry y && is_ok (step S y.edit) && ids_within max_id (after S y.edit)) (are_accepted max_id (after S y.edit) ys) h in
    and_from _ _ parts.0 (are_accepted-push max_id (after S y.edit) ys x parts.1 entry ok within)
