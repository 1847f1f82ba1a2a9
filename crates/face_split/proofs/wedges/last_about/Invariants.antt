use Rattle.std.proofs.Common.{◌≡◌, drop, None}
use Rattle.face_split.specs.Wedges.{last_from}
use Rattle.face_split.proofs.LastWedges.{seen_wedges}
use Rattle.face_split.proofs.wedges.last_about.Given as goal

-- the last so far, with the rest, is the last of all
abbrev pub invariant-loop-row : goal.invariant-loop-row
invariant-loop-row l = last_from l.way l.last (seen_wedges l.node (drop l.row-index l.edges)) ≡ last_from l.way None (seen_wedges l.node l.edges)
