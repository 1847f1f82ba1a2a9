use Rattle.std.proofs.Common.{◌∙◌}
use Rattle.face_merge.proofs.Outcomes.{anew_is, anew_merge, faces_and_new, ids_after, rows_and_new}
use Rattle.face_merge.proofs.merging.keep_anew.Goals as goal

pub merge-requires : goal.merge-requires
merge-requires g c =
    let h = c.requires.removed in record {
      before = h.before;
      row = h.row;
      face_rows = rows_and_new h.before;
      faces = faces_and_new h.before;
      ids = ids_after h.before;
      merge = anew_merge h.before h.row c.args.edge.now c.in_ok-new.new c.args.draft.now.rows c.add_face.new.draft.rows h.removed c.in_ok-new.ensures.face c.in_ok-new.ensures.rows c.requires.other
          c.requires.left c.requires.right;
    }

pub returns-clause-rows : goal.returns-clause-rows
returns-clause-rows g c S e removed =
    c.in_ok-merge.ensures.rows S e (rows_and_new S) (faces_and_new S) (ids_after S)
    (anew_merge S e c.args.edge.now c.in_ok-new.new c.args.draft.now.rows c.add_face.new.draft.rows removed c.in_ok-new.ensures.face c.in_ok-new.ensures.rows c.requires.other c.requires.left c.requires.right)
    ∙ anew_is S e c.args.edge.now c.in_ok-new.new c.args.draft.now.rows removed c.in_ok-new.ensures.face
