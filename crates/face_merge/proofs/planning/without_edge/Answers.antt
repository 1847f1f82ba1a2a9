use Rattle.std.proofs.Common.{sym, ◌∙◌}
use Rattle.drawing.specs.Edits.{merged}
use Rattle.drawing.specs.Tables.{drawn, drawn_edge}
use Rattle.face_merge.proofs.EdgeGone.{has_removed, was_removed}
use Rattle.face_merge.proofs.Outcomes.{accepted}
use Rattle.face_merge.proofs.planning.without_edge.Goals as goal

pub merge_faces-requires-clause-removed : goal.merge_faces-requires-clause-removed
merge_faces-requires-clause-removed g c =
    let S = drawn c.args.tables.now.rows in
    has_removed S (drawn_edge c.args.edge.now) c.of.result c.in_ok-draft.draft.rows
    (was_removed c.args.tables.now.rows c.args.edge.now c.of.result c.in_ok-draft.draft.rows c.requires.ready c.requires.there c.of.ensures c.in_ok-draft.ensures.rows)

pub returns : goal.returns
returns g c =
    let S = drawn c.args.tables.now.rows in
    let e = drawn_edge c.args.edge.now in
    let removed = was_removed c.args.tables.now.rows c.args.edge.now c.of.result c.in_ok-draft.draft.rows c.requires.ready c.requires.there c.of.ensures c.in_ok-draft.ensures.rows in
    let done = accepted c.args.anew S e in
    c.into_edited.ensures S (merged c.args.anew S e) done.0 done.1
    (record {
      draft = c.in_ok-face.ensures.drafted S c.in_ok-draft.ensures.draft;
      rows = c.in_ok-face.ensures.rows S e done.0 removed done.1;
      ids = c.in_ok-face.ensures.ids S e done.0 removed done.1 ∙ sym c.one_id-ids.ensures;
    })
