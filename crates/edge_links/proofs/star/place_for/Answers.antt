use Rattle.std.proofs.Common.{sym, ◌∙◌}
use Rattle.plane.specs.Direction.{is_nearer, straight_up}
use Rattle.plane.specs.Wedge.{no_direction}
use Rattle.edge_links.proofs.Places.{first_at, none_yet, none_at_all}
use Rattle.edge_links.proofs.star.place_for.Goals as goal

pub returns-then-is_first-clause-value : goal.returns-then-is_first-clause-value
returns-then-is_first-clause-value c =
    first_at (λ v. is_nearer straight_up c.args.dir v) c.args.dirs.now c.loop-index.index no_direction c.index-dirs-index.result c.loop-index-test.true c.loop-index.invariant c.index-dirs-index.is
    (sym c.is_first.ensures ∙ c.if-is_first.true)

pub loop-index-preserved : goal.loop-index-preserved
loop-index-preserved c =
    none_yet (λ v. is_nearer straight_up c.args.dir v) c.args.dirs.now c.loop-index.index no_direction c.index-dirs-index.result c.loop-index-test.true c.loop-index.invariant c.index-dirs-index.is
    (sym c.is_first.ensures ∙ c.if-is_first.false)

pub returns-clause-value : goal.returns-clause-value
returns-clause-value c = none_at_all (λ v. is_nearer straight_up c.args.dir v) c.args.dirs.now c.loop-index.index no_direction c.loop-index.auto.index-end c.loop-index-test.false c.loop-index.invariant
