use Rattle.std.proofs.Common.{◌≡◌, ◌++◌, map, take}
use Rattle.face_parts.specs.Sides.{set_side}
use Rattle.face_parts.proofs.sides.push_darts.Given as goal

-- the writes of the darts so far
abbrev pub invariant-loop-dart : goal.invariant-loop-dart
invariant-loop-dart l = l.writes ≡ l.fn.writes ++ map (set_side l.part) (take l.dart-index l.ring)
