use Rattle.std.proofs.Common.{◌≡◌, ◌++◌, IsTrue, take, flat_map}
use Rattle.std.specs.List.{list_all}
use Rattle.drawing.specs.InRange.{is_grid_point}
use Rattle.history_model.specs.Spelling.{point_bytes}
use Rattle.entry_codec.proofs.fields.put_points.Given as goal

abbrev pub invariant-loop-point : goal.invariant-loop-point
invariant-loop-point l = record {
  bytes : l.out.items ≡ l.fn.out.items ++ flat_map point_bytes (take l.point-index l.points);
  good : IsTrue (list_all is_grid_point (take l.point-index l.points));
}
