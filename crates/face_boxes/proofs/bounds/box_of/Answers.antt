use Rattle.std.proofs.Common.{◌≡◌, ◌∙◌, ap, eqb, eqb-true, false, List, Option, filter}
use Rattle.std.proofs.lemmas.Bool.{false_from_ne_true}
use Rattle.topo_base.specs.declared.rows.Box4.{Box4}
use Rattle.drawing.specs.Drawing.{Edge}
use Rattle.drawing.specs.Tables.{drawn, has_side, least_box}
use Rattle.face_boxes.proofs.Boxes.{none_left_out, points_of}
use Rattle.face_boxes.proofs.bounds.box_of.Goals as goal

pub returns-clause-bounds : goal.returns-clause-bounds
returns-clause-bounds g c =
    let box_in : List Edge → Option Box4 = λ es. least_box (points_of (filter (has_side c.args.face) es)) in
    let all = (drawn c.args.tables.now.rows).edges in
    let other : eqb c.args.face 0 ≡ false = false_from_ne_true (eqb c.args.face 0) (λ e. c.if-face-eq0.false (c.face.view_is ∙ eqb-true c.args.face 0 e)) in
    rw other (c.box_beside.ensures.bounds ∙ ap box_in (none_left_out all))
