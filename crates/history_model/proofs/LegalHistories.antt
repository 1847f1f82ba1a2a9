-- A legal history with an entry more.
use Rattle.std.proofs.Common.{nat_le, List, [], ◌∷◌, ◌++◌, IsTrue, is_ok}
use Rattle.std.proofs.lemmas.Bool.{and_parts, and_from}
use Rattle.topo_base.specs.declared.edit.Entry.{Entry}
use Rattle.drawing.specs.Drawing.{nothing_drawn}
use Rattle.drawing.specs.Step.{step}
use Rattle.drawing.specs.Replay.{replay, after}
use Rattle.drawing.specs.Accepted.{are_accepted, is_entry, ids_within}
use Rattle.drawing.proofs.Replaying.{are_accepted-push}
use Rattle.history_model.specs.Legal.{is_legal, journal_length}
use Rattle.history_model.specs.Answers.{Bounds}

pub legal-push : (m : Bounds) (history : List Entry) (x : Entry) → IsTrue (is_legal m.max_id m.max_journal history)
    → IsTrue (is_entry x) → IsTrue (is_ok (step (replay history) x.edit)) → IsTrue (ids_within m.max_id (after (replay history) x.edit))
    → IsTrue (nat_le (journal_length (history ++ x ∷ [])) m.max_journal) → IsTrue (is_legal m.max_id m.max_journal (history ++ x ∷ []))
legal-push m history x h entry ok within fits =
    let parts = and_parts (are_accepted m.max_id nothing_drawn history) (nat_le (journal_length history) m.max_journal) h in
    and_from _ _ (are_accepted-push m.max_id nothing_drawn history x parts.0 entry ok within) fits
