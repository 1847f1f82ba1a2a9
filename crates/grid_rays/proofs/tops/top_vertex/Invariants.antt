use Rattle.plane.proofs.Tops.{IsTopSoFar}
use Rattle.grid_rays.proofs.tops.top_vertex.Given as goal

abbrev pub invariant-loop-i : goal.invariant-loop-i
invariant-loop-i l = IsTopSoFar l.vertices l.i l.top
