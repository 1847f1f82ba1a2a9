-- After each entry of a legal history the drawing is a planar subdivision, in which all that a row names is listed, and features keep their points.
use Rattle.std.proofs.Common.{ℕ, zero, suc, List, [], ◌∷◌, ◌&&◌, nat_le, take, is_ok, IsTrue, refl, subst}
use Rattle.std.specs.List.{list_all}
use Rattle.std.proofs.lemmas.Bool.{and_parts, and_from}
use Rattle.topo_base.specs.declared.edit.Entry.{Entry}
use Rattle.history_model.specs.Answers.{Bounds}
use Rattle.drawing.specs.Drawing.{Drawing, nothing_drawn}
use Rattle.drawing.specs.Accepted.{is_accepted, are_accepted, ids_within, is_editor, is_entry, keeps_limits}
use Rattle.history_model.specs.Legal.{is_legal, journal_length}
use Rattle.drawing.specs.Replay.{after, edits_of, replay}
use Rattle.drawing.specs.Step.{step}
use Rattle.point_laws.proofs.PointsStaying.{points_stay}
use Rattle.reference_laws.proofs.ReferencesStaying.{references_stay}
use Rattle.subdivision_laws.proofs.SubdivisionsStaying.{subdivisions_stay}
use Rattle.topo.specs.Run.{IsSoundHistory}

-- the edits of a legal history keep the limits, and so do those of a front of it
front_keeps : (max_id : ℕ) (S : Drawing) (xs : List Entry) (n : ℕ) → IsTrue (are_accepted max_id S xs) → IsTrue (list_all keeps_limits (edits_of (take n xs)))
front_keeps max_id S [] zero h = refl
front_keeps max_id S [] (suc n) h = refl
front_keeps max_id S (x ∷ xs) zero h = refl
front_keeps max_id S (x ∷ xs) (suc n) h =
    let parts = and_parts (is_entry x && is_ok (step S x.edit) && ids_within max_id (after S x.edit)) (are_accepted max_id (after S x.edit) xs) h in
    let more = and_parts (is_entry x && is_ok (step S x.edit)) (ids_within max_id (after S x.edit)) parts.0 in
    let entry = (and_parts (is_entry x) (is_ok (step S x.edit)) more.0).0 in
    and_from (keeps_limits x.edit) (list_all keeps_limits (edits_of (take n xs))) (and_parts (is_editor x.editor) (keeps_limits x.edit) entry).1
    (front_keeps max_id (after S x.edit) xs n parts.1)

pub sound_history : (m : Bounds) (history : List Entry) → IsTrue (is_legal m.max_id m.max_journal history) → IsSoundHistory m history
sound_history m history legal =
    let accepted = (and_parts (is_accepted m.max_id history) (nat_le (journal_length history) m.max_journal) legal).0 in
    let kept : (n : ℕ) → IsTrue (list_all keeps_limits (edits_of (take n history))) = λ n. front_keeps m.max_id nothing_drawn history n accepted in
    record {
      legal = legal;
      subdivision = λ n. subdivisions_stay.subdivision (replay (take n history)) (subdivisions_stay.all_edits (edits_of (take n history)) (kept n));
      referenced = λ n. references_stay.all_edits (edits_of (take n history)) (kept n);
      points = λ front rest x is leaves. points_stay.each_entry m.max_id front rest x (subst (λ h. IsTrue (is_accepted m.max_id h)) is accepted) leaves;
    }
