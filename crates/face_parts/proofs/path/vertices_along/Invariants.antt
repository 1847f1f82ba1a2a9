use Rattle.std.proofs.Common.{◌≡◌, ◌+◌, take}
use Rattle.face_parts.specs.Paths.{path_of}
use Rattle.face_parts.proofs.path.vertices_along.Given as goal

-- those of the darts so far, with a step for each
abbrev pub invariant-loop-dart : goal.invariant-loop-dart
invariant-loop-dart g l = record {
  path : l.path.items ≡ path_of l.tables.rows.edges (take l.dart-index l.darts);
  counted : l.steps ≡ l.fn.steps + l.dart-index;
}
