use Rattle.std.proofs.Common.{ap, subst, arith}
use Rattle.std.specs.Prelude.{count_by}
use Rattle.slab_index.specs.Index.{Index}
use Rattle.slab_index.specs.Slabs.{is_near}
use Rattle.slab_index.specs.On.{IsEdgeOn}
use Rattle.slab_index.proofs.Looks.{looked_on}
use Rattle.slab_index.proofs.Paths.{path_once}
use Rattle.slab_index.proofs.index.SlabIndex.edge_on.Goals as goal

pub returns-clause-on : goal.returns-clause-on
returns-clause-on g c =
    let kept = c.self.inside.slabs.kept in
    let found = looked_on c.args.p kept c.see_path.new.look c.see_path.ensures.point c.see_path.ensures.in_range c.see_path.ensures.seen in
    subst (λ (v : Index). IsEdgeOn c.args.p v.kept c.see_path.new.look.least) c.self.view_is found

pub returns-clause-counted : goal.returns-clause-counted
returns-clause-counted g c =
    let near = path_once c.args.p c.self.inside.slabs.kept c.see_path.ensures.point in
    let same = ap (λ (v : Index). count_by (is_near c.args.p) v.kept) c.self.view_is in
    let steps = c.see_path.ensures.steps in
    omega (arith, near, same, steps)
