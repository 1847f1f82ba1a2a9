use Rattle.drawing.specs.Tables.{face_row}
use Rattle.face_merge.proofs.Outcomes.{one_merge}
use Rattle.face_merge.proofs.merging.keep_one.Goals as goal

pub merge-requires : goal.merge-requires
merge-requires g c =
    let h = c.requires.removed in record {
      before = h.before;
      row = h.row;
      face_rows = face_row h.before;
      faces = h.before.faces;
      ids = h.before.next_ids;
      merge = one_merge h.before h.row c.args.edge.now c.args.goes c.args.kept c.args.draft.now.rows h.removed c.requires.sides c.requires.other c.requires.some;
    }

pub returns-clause-rows : goal.returns-clause-rows
returns-clause-rows g c S e removed =
    c.in_ok-merge.ensures.rows S e (face_row S) S.faces S.next_ids
    (one_merge S e c.args.edge.now c.args.goes c.args.kept c.args.draft.now.rows removed c.requires.sides c.requires.other c.requires.some)
