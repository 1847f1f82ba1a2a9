use Rattle.std.proofs.Common.{ap, arith, ◌<ℤ◌, ℕ, Option}
use Rattle.std.proofs.lemmas.Int.{ints}
use Rattle.slab_index.specs.Reach.{bottom}
use Rattle.slab_index.proofs.Reach.{above_off}
use Rattle.slab_index.proofs.on.LookOnLook.is_done_at.Goals as goal

pub returns : goal.returns
returns c = λ done e b.
    let look = c.args.self.now in
    let v = c.y.ensures.value in
    let high : look.point.y <ℤ bottom e = omega (arith, ints) in
    ap (λ (o : Option ℕ). record look { least = o }) (above_off look.point look.least e high)
