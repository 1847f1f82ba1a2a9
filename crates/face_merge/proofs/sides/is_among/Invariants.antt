use Rattle.std.proofs.Common.{◌≡◌, drop}
use Rattle.drawing.specs.Relations.{is_among}
use Rattle.face_merge.proofs.sides.is_among.Given as goal

-- whether the face is one of these is whether it is one of the rest
abbrev pub invariant-loop-other : goal.invariant-loop-other
invariant-loop-other l = is_among l.fn.face l.faces ≡ is_among l.fn.face (drop l.other-index l.faces)
