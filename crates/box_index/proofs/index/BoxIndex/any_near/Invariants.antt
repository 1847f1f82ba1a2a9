use Rattle.std.proofs.Common.{◌≡◌, ◌+◌, ◌≤◌, IsTrue, length}
use Rattle.std.specs.List.{list_all, list_any, sum_by}
use Rattle.box_index.specs.Boxes.{entries_near}
use Rattle.box_index.proofs.index.BoxIndex.any_near.Given as goal

-- what is left has the answer, and its steps fit
abbrev pub invariant-loop-entry : goal.invariant-loop-entry
invariant-loop-entry g l = record {
  fits : IsTrue (list_all (g.T.EntryTest.fits l.test) l.near);
  test : list_any (g.T.EntryTest.holds l.test) (entries_near l.area l.self.entries) ≡ list_any (g.T.EntryTest.holds l.test) l.near;
  counted : l.steps + sum_by (g.T.EntryTest.most_steps l.test) l.near ≤ l.fn.steps + sum_by (g.T.EntryTest.most_steps l.test) (entries_near l.area l.self.entries);
}

abbrev pub decreases-loop-entry : goal.decreases-loop-entry
decreases-loop-entry g l = length l.near
