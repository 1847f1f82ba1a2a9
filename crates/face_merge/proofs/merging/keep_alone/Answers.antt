use Rattle.std.proofs.Common.{◌∙◌}
use Rattle.drawing.specs.Tables.{face_row}
use Rattle.face_merge.proofs.Outcomes.{alone_is, alone_merge}
use Rattle.face_merge.proofs.merging.keep_alone.Goals as goal

pub merge-requires : goal.merge-requires
merge-requires g c =
    let h = c.requires.removed in record {
      before = h.before;
      row = h.row;
      face_rows = face_row h.before;
      faces = h.before.faces;
      ids = h.before.next_ids;
      merge = alone_merge h.before h.row c.args.edge.now c.args.draft.now.rows h.removed c.requires.same;
    }

pub returns-clause-rows : goal.returns-clause-rows
returns-clause-rows g c S e removed =
    c.in_ok-merge.ensures.rows S e (face_row S) S.faces S.next_ids (alone_merge S e c.args.edge.now c.args.draft.now.rows removed c.requires.same) ∙ alone_is S e c.args.edge.now removed.edge
