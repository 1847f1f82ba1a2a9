use Rattle.std.proofs.Common.{ap, arith, ◌<ℤ◌, ℕ, Option}
use Rattle.std.proofs.lemmas.Int.{ints}
use Rattle.slab_index.specs.Reach.{top}
use Rattle.slab_index.proofs.Reach.{below_off}
use Rattle.slab_index.proofs.on.LookOnLook.lowest_top.Goals as goal

pub returns : goal.returns
returns c = λ e h.
    let look = c.args.self.now in
    let v = c.y.ensures.value in
    let low : top e <ℤ look.point.y = omega (arith, ints) in
    ap (λ (o : Option ℕ). record look { least = o }) (below_off look.point look.least e low)
