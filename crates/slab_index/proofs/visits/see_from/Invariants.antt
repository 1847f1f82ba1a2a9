use Rattle.std.proofs.Common.{◌≡◌, ◌+◌, ◌≤◌, drop}
use Rattle.std.specs.Prelude.{fold}
use Rattle.slab_index.proofs.visits.see_from.Given as goal

-- what the rest gives from here is what all from the first on give
abbrev pub invariant-loop-i : goal.invariant-loop-i
invariant-loop-i g l = record {
  seen : fold (g.T.Look.with_one) l.look (drop l.i l.pieces) ≡ fold (g.T.Look.with_one) l.fn.look (drop l.first l.pieces);
  sound : g.T.Look.is_sound l.look;
  steps : l.steps ≤ l.fn.steps + l.i;
}
