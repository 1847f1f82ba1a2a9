use Rattle.std.proofs.Common.{ap, arith, ◌≤ℤ◌, Option}
use Rattle.std.proofs.lemmas.Int.{ints}
use Rattle.slab_index.specs.declared.piece.Piece.{Piece}
use Rattle.slab_index.specs.Reach.{top}
use Rattle.slab_index.proofs.Reach.{below_out}
use Rattle.slab_index.proofs.above.LookAboveLook.lowest_top.Goals as goal

pub returns : goal.returns
returns c = λ e h.
    let look = c.args.self.now in
    let v = c.y.ensures.value in
    let r = c.y.ensures.range in
    let low : top e ≤ℤ look.point.y = omega (arith, ints) in
    ap (λ (o : Option Piece). record look { lowest = o }) (below_out look.point look.lowest e low)
