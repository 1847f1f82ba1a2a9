use Rattle.std.proofs.Common.{take}
use Rattle.face_rings.specs.Rings.{Marks}
use Rattle.face_rings.proofs.rings.mark.Given as goal

abbrev pub invariant-loop-dart : goal.invariant-loop-dart
invariant-loop-dart l = Marks l.rows (take l.dart-index l.ring) l.initial.seen l.seen
