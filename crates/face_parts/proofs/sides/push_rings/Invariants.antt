use Rattle.std.proofs.Common.{◌≡◌, ◌+◌, ◌≤◌, ◌++◌, map, drop, length}
use Rattle.face_rings.specs.Rings.{darts_in}
use Rattle.face_parts.specs.Divided.{part_of_ring}
use Rattle.face_parts.specs.Sides.{side_writes}
use Rattle.face_parts.proofs.sides.push_rings.Given as goal

-- the writes so far, and those of the rings to come
abbrev pub invariant-loop-ring : goal.invariant-loop-ring
invariant-loop-ring g l =
    let writes_of = side_writes (part_of_ring l.parts l.cut l.tables.rows.edges) l.parts.face in
    record {
      writes : l.writes ++ writes_of (map darts_in (drop l.ring-index l.rings)) ≡ l.fn.writes ++ writes_of (map darts_in l.rings);
      counted : l.steps + length (drop l.ring-index l.rings) ≤ l.fn.steps + length l.rings;
    }
