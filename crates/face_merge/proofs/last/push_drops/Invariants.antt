use Rattle.std.proofs.Common.{◌≡◌, ◌++◌, map, take}
use Rattle.face_merge.specs.Last.{drop_face}
use Rattle.face_merge.proofs.last.push_drops.Given as goal

-- the writes of the faces so far
abbrev pub invariant-loop-face : goal.invariant-loop-face
invariant-loop-face l = l.writes ≡ l.fn.writes ++ map drop_face (take l.face-index l.gone)
