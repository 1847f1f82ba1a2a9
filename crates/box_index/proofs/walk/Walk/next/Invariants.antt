use Rattle.std.proofs.Common.{◌≡◌, ◌-◌}
use Rattle.box_index.specs.Cells.{cell, place}
use Rattle.box_index.specs.Walk.{IsWalk, at, left}
use Rattle.box_index.proofs.walk.Walk.next.Given as goal

abbrev pub invariant-walk : goal.invariant-walk
invariant-walk l = record {
  walk : IsWalk l.self;
  grid : l.self.grid.now ≡ l.fn.self.grid.now;
  area : l.self.area ≡ l.fn.self.area;
  left : left l.fn.self ≡ left l.self;
}

abbrev pub decreases-walk : goal.decreases-walk
decreases-walk l = place (cell 43 0 0) 0 - at l.self
