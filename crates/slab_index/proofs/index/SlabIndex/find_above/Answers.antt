use Rattle.std.proofs.Common.{ap, subst, arith, None}
use Rattle.std.specs.Prelude.{count_by}
use Rattle.slab_index.specs.Index.{Index}
use Rattle.slab_index.specs.Slabs.{is_near}
use Rattle.slab_index.specs.Above.{IsFirstAbove}
use Rattle.slab_index.proofs.Lowest.{IsFound}
use Rattle.slab_index.proofs.Looks.{looked_above}
use Rattle.slab_index.proofs.Paths.{path_once}
use Rattle.slab_index.proofs.index.SlabIndex.find_above.Goals as goal

pub returns-in-Some-clause-above : goal.returns-in-Some-clause-above
returns-in-Some-clause-above g c =
    let kept = c.self.inside.slabs.kept in
    let found = looked_above c.args.p kept c.see_path.new.look c.see_path.ensures.point c.see_path.ensures.in_range c.see_path.ensures.seen in
    let first : IsFirstAbove c.args.p kept c.in-Some.piece = subst (IsFound c.args.p kept) c.in-Some.is found in
    (c.in-Some.piece, (subst (λ (v : Index). IsFirstAbove c.args.p v.kept c.in-Some.piece) c.self.view_is first, c.dart_beside.ensures))

pub returns-in-Some-clause-counted : goal.returns-in-Some-clause-counted
returns-in-Some-clause-counted g c =
    let near = path_once c.args.p c.self.inside.slabs.kept c.see_path.ensures.point in
    let same = ap (λ (v : Index). count_by (is_near c.args.p) v.kept) c.self.view_is in
    let steps = c.see_path.ensures.steps in
    omega (arith, near, same, steps)

pub returns-in-None-clause-above : goal.returns-in-None-clause-above
returns-in-None-clause-above g c =
    let kept = c.self.inside.slabs.kept in
    let found = looked_above c.args.p kept c.see_path.new.look c.see_path.ensures.point c.see_path.ensures.in_range c.see_path.ensures.seen in
    subst (λ (v : Index). IsFound c.args.p v.kept None) c.self.view_is (subst (IsFound c.args.p kept) c.in-None.is found)

pub returns-in-None-clause-counted : goal.returns-in-None-clause-counted
returns-in-None-clause-counted g c =
    let near = path_once c.args.p c.self.inside.slabs.kept c.see_path.ensures.point in
    let same = ap (λ (v : Index). count_by (is_near c.args.p) v.kept) c.self.view_is in
    let steps = c.see_path.ensures.steps in
    omega (arith, near, same, steps)
