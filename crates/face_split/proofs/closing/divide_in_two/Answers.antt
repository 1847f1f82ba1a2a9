use Rattle.std.proofs.Common.{◌∷◌, ◌++◌, [], ap, ◌∙◌}
use Rattle.topo_base.specs.declared.write.RowId.TheVariants.{Old}
use Rattle.topo_base.specs.declared.write.RowWrite.TheVariants.{DropFace}
use Rattle.drawing.specs.AddEdge.{coming}
use Rattle.drawing.specs.IsoEdits.{with_edge}
use Rattle.drawing.specs.Tables.{Tables}
use Rattle.read_set.specs.Drafted.{Drafted}
use Rattle.face_split.specs.Closing.{two_parts}
use Rattle.face_split.specs.Divided.{both_boxes}
use Rattle.face_split.proofs.OnePart.{border_is_linked, division_by}
use Rattle.face_split.proofs.TwoParts.{two_begins, two_closes, two_divided, two_divides, two_may_close}
use Rattle.face_split.proofs.closing.divide_in_two.Goals as goal

pub divide-requires-clause-linked : goal.divide-requires-clause-linked
divide-requires-clause-linked g c =
    let h = c.requires.cut in border_is_linked h.before h.start h.end h.line c.args.face c.args.border.now c.args.cut.now h.added.ringed h.cut

pub divide-requires-clause-divisible : goal.divide-requires-clause-divisible
divide-requires-clause-divisible g c =
    let h = c.requires.cut in
    let begun = two_begins h.before h.start h.end h.line c.args.face c.args.edge c.in_ok-left_part.left_part c.in_ok-right_part.right_part c.args.draft.now.rows c.add_face.new.draft.rows c.add_face-2.new.draft.rows h.added h.edge_is
    c.in_ok-left_part.ensures.face c.in_ok-left_part.ensures.rows c.in_ok-right_part.ensures.face c.in_ok-right_part.ensures.rows in
    two_divides h.before h.start h.end h.line c.args.face c.args.border.now c.args.cut.now c.args.draft.now.rows c.add_face-2.new.draft.rows (two_parts c.args.face c.args.edge c.in_ok-left_part.left_part c.in_ok-right_part.right_part) h.added h.cut begun

pub write_all-requires : goal.write_all-requires
write_all-requires g c =
    let h = c.requires.cut in
    let p = two_parts c.args.face c.args.edge c.in_ok-left_part.left_part c.in_ok-right_part.right_part in
    let begun = two_begins h.before h.start h.end h.line c.args.face c.args.edge c.in_ok-left_part.left_part c.in_ok-right_part.right_part c.args.draft.now.rows c.add_face.new.draft.rows c.add_face-2.new.draft.rows h.added h.edge_is
    c.in_ok-left_part.ensures.face c.in_ok-left_part.ensures.rows c.in_ok-right_part.ensures.face c.in_ok-right_part.ensures.rows in
    let divided = two_divided h.before h.start h.end h.line c.args.face c.args.border.now c.args.cut.now c.args.draft.now.rows c.add_face-2.new.draft.rows p h.added h.cut begun in
    let followed = c.in_ok-divide.ensures.rows (with_edge h.before h.start h.end h.line c.args.face) (coming h.before h.start h.end h.line c.args.face) (division_by h.before h.start h.end h.line c.args.face p) divided in
    let boxes = c.in_ok-last.ensures ∙ ap (λ (t : Tables). both_boxes t p.left_part p.right_part) c.tables.ensures in
    let last = c.in_ok-push.ensures.ok ∙ (λ i. boxes i ++ DropFace (Old (c.face.view_is i)) ∷ []) in
    record {
      can = two_may_close h.before h.start h.end h.line c.args.face c.args.draft.now.rows c.add_face-2.new.draft.rows c.divide.new.draft.rows p c.push.new.self h.added c.requires.some
          (record { begun = begun; followed = followed; last = last });
    }

pub returns-clause-rows : goal.returns-clause-rows
returns-clause-rows g c S a b line added edge_is cut =
    let p = two_parts c.args.face c.args.edge c.in_ok-left_part.left_part c.in_ok-right_part.right_part in
    let begun = two_begins S a b line c.args.face c.args.edge c.in_ok-left_part.left_part c.in_ok-right_part.right_part c.args.draft.now.rows c.add_face.new.draft.rows c.add_face-2.new.draft.rows added edge_is
    c.in_ok-left_part.ensures.face c.in_ok-left_part.ensures.rows c.in_ok-right_part.ensures.face c.in_ok-right_part.ensures.rows in
    let divided = two_divided S a b line c.args.face c.args.border.now c.args.cut.now c.args.draft.now.rows c.add_face-2.new.draft.rows p added cut begun in
    let followed = c.in_ok-divide.ensures.rows (with_edge S a b line c.args.face) (coming S a b line c.args.face) (division_by S a b line c.args.face p) divided in
    let boxes = c.in_ok-last.ensures ∙ ap (λ (t : Tables). both_boxes t p.left_part p.right_part) c.tables.ensures in
    let last = c.in_ok-push.ensures.ok ∙ (λ i. boxes i ++ DropFace (Old (c.face.view_is i)) ∷ []) in
    two_closes S a b line c.args.face c.args.draft.now.rows c.add_face-2.new.draft.rows c.divide.new.draft.rows c.write_all.new.self.rows p c.push.new.self added
    (record { begun = begun; followed = followed; last = last }) (ap (λ (d : Drafted). d.rows) c.in_ok-write_all.ensures.made)
