use Rattle.std.proofs.Common.{◌≡◌, ◌+◌, ◌≤◌, IsTrue, drop}
use Rattle.std.specs.List.{list_any, list_all, sum_by}
use Rattle.drawing.specs.Places.{rows_of}
use Rattle.drawing_queries.proofs.scan.any_row.Given as goal

-- no row before this place meets the test
abbrev pub invariant-loop-slot : goal.invariant-loop-slot
invariant-loop-slot g l = record {
  fits : IsTrue (list_all (g.T.RowTest.fits l.test) (rows_of (drop l.slot-index l.slots)));
  test : list_any (g.T.RowTest.holds l.test) (rows_of l.slots) ≡ list_any (g.T.RowTest.holds l.test) (rows_of (drop l.slot-index l.slots));
  counted : l.steps + sum_by (g.T.RowTest.most_steps l.test) (rows_of (drop l.slot-index l.slots))
      ≤ l.fn.steps + sum_by (g.T.RowTest.most_steps l.test) (rows_of l.slots);
}
