use Rattle.history_model.specs.Spelling.{point_bytes}
use Rattle.drawing.specs.InRange.{is_grid_point}
use Rattle.entry_codec.proofs.Appending.{flat_more, all_more}
use Rattle.entry_codec.proofs.fields.put_points.Goals as goal

pub loop-point-preserved : goal.loop-point-preserved
loop-point-preserved c = record {
  bytes = flat_more point_bytes c.args.out.now.items c.args.points.now c.loop-point.point-index c.point-item.result c.loop-point.out.items c.put_point.new.out.items
      c.loop-point-test.true c.point-item.is c.loop-point.invariant.bytes c.in_ok-put_point.ensures.bytes;
  good = all_more is_grid_point c.args.points.now c.loop-point.point-index c.point-item.result c.loop-point-test.true c.point-item.is c.loop-point.invariant.good c.put_point.ensures.good;
}
