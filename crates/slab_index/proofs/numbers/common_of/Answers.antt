use Rattle.std.proofs.Common.{◌≡◌, ◌-◌, ◌+◌, sym, ◌∙◌, ap, arith}
use Rattle.slab_index.specs.Slabs.{common}
use Rattle.slab_index.proofs.Paths.{common_none, common_if_same, common_halved}
use Rattle.slab_index.proofs.numbers.common_of.Goals as goal

pub returns-then-left-right : goal.returns-then-left-right
returns-then-left-right c = sym (common_if_same (42 - c.loop.counter) c.loop.left c.loop.right c.if-left-right.true) ∙ c.loop.invariant

pub loop-preserved : goal.loop-preserved
loop-preserved c = sym (common_halved (42 - c.loop.counter) (42 - (c.loop.counter + 1)) c.loop.left c.loop.right (omega arith) c.if-left-right.false) ∙ c.loop.invariant

pub returns : goal.returns
returns c =
    let e : 42 - c.loop.counter ≡ 0 = omega arith in
    sym (ap (λ k. common k c.loop.left c.loop.right) e ∙ common_none c.loop.left c.loop.right) ∙ c.loop.invariant
