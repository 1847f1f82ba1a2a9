use Rattle.std.proofs.Common.{◌≡◌, ℕ, List, ◌++◌, refl, subst, ap, ◌∙◌, OnOk, append_assoc}
use Rattle.std.specs.Prelude.{codes, flat_map}
use Rattle.std.specs.Fmt.{digits}
use Rattle.topo_base.specs.declared.rows.FaceRow.{FaceRow}
use Rattle.drawing.specs.Tables.{universal_face}
use Rattle.drawing.specs.Places.{rows_of}
use Rattle.script_model.specs.Texts.{face_text}
use Rattle.table_print.proofs.rows.push_faces.Goals as goal

universal_line : codes "face 0 -\n" ≡ face_text universal_face
unfolding digits
universal_line = refl

pub returns : goal.returns
returns c =
    let text = c.args.text.now in
    let rest = flat_map face_text (rows_of c.faces.result.now) in
    let before = ap (λ (t : List ℕ). t ++ rest) (c.in_ok-push_bytes.ensures ∙ ap (λ (l : List ℕ). text ++ l) universal_line) in
    subst (λ (t : List ℕ). OnOk c.push_rows.result (c.push_rows.new.text ≡ t))
    (before ∙ append_assoc text (face_text universal_face) rest ∙ ap (λ (fs : List FaceRow). text ++ flat_map face_text fs) c.faces.ensures) c.push_rows.ensures
