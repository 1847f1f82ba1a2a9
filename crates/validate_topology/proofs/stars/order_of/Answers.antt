use Rattle.std.proofs.Common.{◌≡◌, ◌↔◌, IsTrue, subst}
use Rattle.std.specs.declared.cmp.Ordering.TheVariants.{Less}
use Rattle.plane.specs.Direction.{Direction, is_nearer}
use Rattle.validate_topology.proofs.SpokeOrder.{turned_less}
use Rattle.validate_topology.proofs.stars.order_of.Goals as goal

pub returns : goal.returns
returns c =
    let a = c.args.a.now in
    let b = c.args.b.now in
    let o = c.clockwise.result in
    let some = c.clockwise.ensures.some in
    turned_less a b o c.if-a-b.false some.1 some.2 (subst (λ (u : Direction). o ≡ Less ↔ IsTrue (is_nearer u (a.dir) (b.dir))) c.up.ensures c.clockwise.ensures.less)
