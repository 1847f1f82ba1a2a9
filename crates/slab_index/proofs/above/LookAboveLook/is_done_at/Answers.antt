use Rattle.std.proofs.Common.{ap, arith, ◌<ℤ◌, Option}
use Rattle.std.proofs.lemmas.Int.{ints}
use Rattle.slab_index.specs.declared.piece.Piece.{Piece}
use Rattle.slab_index.specs.Reach.{top}
use Rattle.slab_index.proofs.Reach.{done_above}
use Rattle.slab_index.proofs.above.LookAboveLook.is_done_at.Goals as goal

pub returns-in-Some : goal.returns-in-Some
returns-in-Some c = λ done e b.
    let look = c.args.self.now in
    let v = c.top_of.ensures.value in
    let low : top c.in-Some.piece <ℤ c.args.height = omega (arith, ints) in
    ap (λ (o : Option Piece). record look { lowest = o }) (done_above look.point look.lowest c.in-Some.piece e c.args.height c.requires c.in-Some.is low b)
