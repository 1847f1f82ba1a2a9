use Rattle.std.proofs.Common.{ap, ◌∙◌}
use Rattle.drawing.specs.AddEdge.{coming}
use Rattle.drawing.specs.IsoEdits.{with_edge}
use Rattle.drawing.specs.Tables.{Tables}
use Rattle.read_set.specs.Drafted.{Drafted}
use Rattle.face_split.specs.Divided.{both_boxes}
use Rattle.face_split.proofs.OnePart.{division_by, one_begins, one_can_close, one_closes, one_divided, one_divides, border_is_linked}
use Rattle.face_split.proofs.closing.divide_in_one.Goals as goal

pub divide-requires-clause-linked : goal.divide-requires-clause-linked
divide-requires-clause-linked g c =
    let h = c.requires in border_is_linked h.before h.start h.end h.line c.args.face c.args.border.now c.args.cut.now h.added.ringed h.cut

pub divide-requires-clause-divisible : goal.divide-requires-clause-divisible
divide-requires-clause-divisible g c =
    let h = c.requires in
    let begun = one_begins h.before h.start h.end h.line c.args.face c.args.edge c.in_ok-new.new c.args.shell c.args.draft.now.rows c.add_face.new.draft.rows c.one_part-parts.result h.added h.edge_is
    c.in_ok-new.ensures.face c.in_ok-new.ensures.rows c.one_part-parts.ensures in
    one_divides h.before h.start h.end h.line c.args.face c.args.border.now c.args.cut.now c.args.shell c.args.draft.now.rows c.add_face.new.draft.rows c.one_part-parts.result h.added h.cut begun

pub write_all-requires : goal.write_all-requires
write_all-requires g c =
    let h = c.requires in
    let p = c.one_part-parts.result in
    let begun = one_begins h.before h.start h.end h.line c.args.face c.args.edge c.in_ok-new.new c.args.shell c.args.draft.now.rows c.add_face.new.draft.rows p h.added h.edge_is
    c.in_ok-new.ensures.face c.in_ok-new.ensures.rows c.one_part-parts.ensures in
    let divided = one_divided h.before h.start h.end h.line c.args.face c.args.border.now c.args.cut.now c.args.shell c.args.draft.now.rows c.add_face.new.draft.rows p h.added h.cut begun in
    let followed = c.in_ok-divide.ensures.rows (with_edge h.before h.start h.end h.line c.args.face) (coming h.before h.start h.end h.line c.args.face)
    (division_by h.before h.start h.end h.line c.args.face p) divided in
    let boxes = c.in_ok-boxes.ensures ∙ ap (λ (t : Tables). both_boxes t p.left_part p.right_part) c.tables.ensures in
    record {
      can = one_can_close h.before h.start h.end h.line c.args.face c.args.shell c.args.draft.now.rows c.add_face.new.draft.rows c.divide.new.draft.rows p c.in_ok-boxes.boxes h.added
          (record { begun = begun; followed = followed; boxes = boxes });
    }

pub returns-clause-rows : goal.returns-clause-rows
returns-clause-rows g c S a b line added edge_is cut shell =
    let p = c.one_part-parts.result in
    let begun = one_begins S a b line c.args.face c.args.edge c.in_ok-new.new c.args.shell c.args.draft.now.rows c.add_face.new.draft.rows p added edge_is c.in_ok-new.ensures.face c.in_ok-new.ensures.rows
    c.one_part-parts.ensures in
    let divided = one_divided S a b line c.args.face c.args.border.now c.args.cut.now c.args.shell c.args.draft.now.rows c.add_face.new.draft.rows p added cut begun in
    let followed = c.in_ok-divide.ensures.rows (with_edge S a b line c.args.face) (coming S a b line c.args.face) (division_by S a b line c.args.face p) divided in
    let boxes = c.in_ok-boxes.ensures ∙ ap (λ (t : Tables). both_boxes t p.left_part p.right_part) c.tables.ensures in
    one_closes S a b line c.args.face c.args.shell c.args.draft.now.rows c.add_face.new.draft.rows c.divide.new.draft.rows c.write_all.new.self.rows p c.in_ok-boxes.boxes added
    (record { begun = begun; followed = followed; boxes = boxes }) (ap (λ (d : Drafted). d.rows) c.in_ok-write_all.ensures.made) shell
