use Rattle.std.proofs.Common.{sym, subst, inr, refl, IsTrue}
use Rattle.plane.specs.Direction.{is_nearer, IsNotZero}
use Rattle.plane.specs.Wedge.{direction_at}
use Rattle.plane.proofs.Wedges.{IsDivided, at_index, divided_last, divided_none, divided_at, divided_end, one_before}
use Rattle.grid_angle.proofs.star.wedge.Goals as goal

divided : (c : goal.In-Greater) → IsDivided c.args.star.now c.args.dir c.loop-i.last
divided c =
    let first = at_index c.args.star.now 0 c.index-star-0.result c.requires.some c.index-star-0.is in
    let here = at_index c.args.star.now c.loop-i.i c.index-star-i.result c.loop-i-test.true c.index-star-i.is in
    divided_at c.args.star.now c.args.dir c.loop-i.i c.loop-i.last c.requires.order c.loop-i-test.true
    (subst IsNotZero (sym first) c.clockwise.ensures.some.0)
    c.loop-i.invariant.last c.loop-i.invariant.before
    (subst (λ u. IsTrue (is_nearer (direction_at c.args.star.now 0) c.args.dir u)) (sym here)
    (subst (λ u. IsTrue (is_nearer u c.args.dir c.index-star-i.result)) (sym first) (c.clockwise.ensures.greater.0 c.in-Greater.is)))

pub returns-in-Greater-clause-none : goal.returns-in-Greater-clause-none
returns-in-Greater-clause-none c = divided_none c.args.star.now c.args.dir c.loop-i.last (divided c)

pub returns-in-Greater-clause-wedge : goal.returns-in-Greater-clause-wedge
returns-in-Greater-clause-wedge c = divided_last c.args.star.now c.args.dir c.loop-i.last c.requires.order (divided c)

pub loop-i-preserved : goal.loop-i-preserved
loop-i-preserved c =
    let first = at_index c.args.star.now 0 c.index-star-0.result c.requires.some c.index-star-0.is in
    let here = at_index c.args.star.now c.loop-i.i c.index-star-i.result c.loop-i-test.true c.index-star-i.is in
    record {
      last = inr refl;
      before = one_before c.args.star.now c.args.dir c.loop-i.i c.loop-i.invariant.before (record {
        nearer = subst (λ u. IsTrue (is_nearer (direction_at c.args.star.now 0) u c.args.dir)) (sym here)
            (subst (λ u. IsTrue (is_nearer u c.index-star-i.result c.args.dir)) (sym first) (c.clockwise.ensures.less.0 c.in-Less.is));
        first = subst IsNotZero (sym first) c.clockwise.ensures.some.0;
        own = subst IsNotZero (sym here) c.clockwise.ensures.some.1;
        other = c.clockwise.ensures.some.2;
      });
    }

pub returns-clause-none : goal.returns-clause-none
returns-clause-none c =
    divided_none c.args.star.now c.args.dir c.loop-i.last
    (divided_end c.args.star.now c.args.dir c.loop-i.i c.loop-i.last c.requires.some c.loop-i.auto.i-end c.loop-i-test.false c.loop-i.invariant.last c.loop-i.invariant.before)

pub returns-clause-wedge : goal.returns-clause-wedge
returns-clause-wedge c =
    divided_last c.args.star.now c.args.dir c.loop-i.last c.requires.order
    (divided_end c.args.star.now c.args.dir c.loop-i.i c.loop-i.last c.requires.some c.loop-i.auto.i-end c.loop-i-test.false c.loop-i.invariant.last c.loop-i.invariant.before)
