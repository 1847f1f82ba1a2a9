use Rattle.std.proofs.Common.{◌≡◌, ◌∙◌, ℕ, ap, get_or, map, List, Option, None, subst}
use Rattle.std.specs.Prelude.{slice_get, slice_set}
use Rattle.topo_base.specs.declared.rows.Box4.{Box4}
use Rattle.topo_base.specs.declared.rows.FaceRow.{FaceRow}
use Rattle.drawing.specs.Rows.{row_at}
use Rattle.validate_topology.specs.BoxLines.{box_of_all}
use Rattle.validate_topology.proofs.Marked.{none_by, set_by, value_by}
use Rattle.validate_topology.proofs.place_lines.widen.Goals as goal

abbrev id_of : FaceRow → ℕ
id_of f = f.face_id

pub returns-in_default-clause-widened : goal.returns-in_default-clause-widened
returns-in_default-clause-widened c least e =
    let faces = c.args.faces.now in
    e ∙ none_by id_of faces least c.args.face (box_of_all (least c.args.face) c.args.points.now) (subst (λ (n : ℕ). row_at id_of faces n ≡ None) c.face.view_is c.in_default.ensures.lookup)

pub returns-clause-widened : goal.returns-clause-widened
returns-clause-widened c least e =
    let faces = c.args.faces.now in
    let place = c.in-Some.place in
    let points = c.args.points.now in
    let read = c.index.result.now in
    let wide = box_of_all (least c.args.face) points in
    let values = map (λ (f : FaceRow). least f.face_id) faces in
    let lookup = subst (λ (n : ℕ). row_at id_of faces n ≡ slice_get faces place) c.face.view_is c.in-Some.ensures.lookup in
    let was = c.index.ensures ∙ ap (λ (bs : List (Option Box4)). get_or bs place read) e ∙ value_by id_of faces least c.args.face place read c.in-Some.ensures.within lookup in
    ap (λ (bs : List (Option Box4)). slice_set bs place c.widest.result) e
    ∙ ap (λ (b : Option Box4). slice_set values place b) (c.widest.ensures ∙ ap (λ (b : Option Box4). box_of_all b points) was)
    ∙ set_by id_of 0 faces least c.args.face place wide c.rows.ensures.ascend c.in-Some.ensures.within lookup
