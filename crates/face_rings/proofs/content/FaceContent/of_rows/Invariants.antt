use Rattle.std.proofs.Common.{◌≡◌, take}
use Rattle.face_rings.proofs.RowBorders.{seen_border}
use Rattle.face_rings.proofs.content.FaceContent.of_rows.Given as goal

abbrev pub invariant-loop-row : goal.invariant-loop-row
invariant-loop-row l = l.content ≡ seen_border l.face (take l.row-index l.edges)
