use Rattle.std.proofs.Common.{◌∙◌, ap}
use Rattle.face_rings.proofs.RowBorders.{row_more, row_next, rows_all}
use Rattle.face_rings.proofs.content.FaceContent.of_rows.Goals as goal

pub push_row-requires : goal.push_row-requires
push_row-requires c =
    row_next c.args.face c.args.edges.now c.loop-row.row-index c.row-item.result c.loop-row.content c.loop-row-test.true c.row-item.is c.requires c.loop-row.invariant

pub loop-row-preserved : goal.loop-row-preserved
loop-row-preserved c =
    c.in_ok-push_row.ensures.ok ∙ row_more c.args.face c.args.edges.now c.loop-row.row-index c.row-item.result c.loop-row.content c.loop-row-test.true c.row-item.is c.loop-row.invariant

pub returns : goal.returns
returns c = rows_all c.args.face c.args.edges.now c.loop-row.row-index c.loop-row.content c.loop-row-test.false c.loop-row.invariant
