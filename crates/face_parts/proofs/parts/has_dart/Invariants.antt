use Rattle.std.proofs.Common.{◌≡◌, drop}
use Rattle.face_rings.specs.Border.{has_dart}
use Rattle.face_parts.proofs.parts.has_dart.Given as goal

-- the dart isn't before this place
abbrev pub invariant-loop-other : goal.invariant-loop-other
invariant-loop-other l = has_dart l.ring l.dart ≡ has_dart (drop l.other-index l.ring) l.dart
