use Rattle.std.proofs.Common.{◌≡◌, map}
use Rattle.face_rings.specs.Rings.{darts_in}
use Rattle.face_rings.proofs.Marking.{IsSeen, rings_to}
use Rattle.face_rings.proofs.rings.face_rings.Given as goal

abbrev pub invariant-loop-place : goal.invariant-loop-place
invariant-loop-place l = record {
  seen : IsSeen l.rows l.place l.seen.items;
  found : map darts_in l.all.items ≡ rings_to l.rows l.place;
}
