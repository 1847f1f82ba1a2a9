use Rattle.std.proofs.Common.{◌≡◌, ◌+◌, ◌-◌, ◌<◌, ◌≤◌, length}
use Rattle.std.specs.Prelude.{fold, All}
use Rattle.slab_index.specs.Held.{IsInRange}
use Rattle.slab_index.specs.Slabs.{slabs_round}
use Rattle.slab_index.specs.Path.{in_slabs, on_path}
use Rattle.slab_index.proofs.index.see_path.Given as goal

-- what the rest of the slabs gives from here is what all give
abbrev pub invariant-loop : goal.invariant-loop
invariant-loop g l = record {
  seen : fold (g.T.Look.with_one) l.look (in_slabs l.slabs.kept (slabs_round (43 - l.counter) l.number)) ≡ fold (g.T.Look.with_one) l.fn.look (on_path l.fn.p l.slabs.kept);
  in_range : 0 < l.counter → All IsInRange l.slabs.kept;
  sound : g.T.Look.is_sound l.look;
  steps : l.steps + (43 - l.counter) + length (in_slabs l.slabs.kept (slabs_round (43 - l.counter) l.number)) ≤ l.fn.steps + 43 + length (on_path l.fn.p l.slabs.kept);
}
