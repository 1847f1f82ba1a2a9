use Rattle.std.proofs.Common.{◌∙◌, sym, arith}
use Rattle.std.proofs.lemmas.List.Sorted.{sum_by_popped}
use Rattle.box_index.proofs.Taken.{all_taken, any_taken, any_left}
use Rattle.box_index.proofs.index.BoxIndex.any_near.Goals as goal

pub holds-requires : goal.holds-requires
holds-requires g c = (all_taken _ _ c.in-Some.entry c.in-Some.ensures.found (g.T.EntryTest.fits c.args.test.now) c.loop-entry.invariant.fits).0

pub returns-then-holds-clause-test : goal.returns-then-holds-clause-test
returns-then-holds-clause-test g c =
    sym (c.loop-entry.invariant.test ∙ any_taken _ _ c.in-Some.entry c.in-Some.ensures.found (g.T.EntryTest.holds c.args.test.now) (sym c.holds.ensures.test ∙ c.if-holds.true))

pub returns-then-holds-clause-counted : goal.returns-then-holds-clause-counted
returns-then-holds-clause-counted g c =
    let taken = sum_by_popped (g.T.EntryTest.most_steps c.args.test.now) c.in-Some.entry _ _ c.in-Some.ensures.found in
    omega (arith, taken, c.loop-entry.invariant.counted, c.holds.ensures.counted)

pub loop-entry-preserved : goal.loop-entry-preserved
loop-entry-preserved g c =
    let taken = sum_by_popped (g.T.EntryTest.most_steps c.args.test.now) c.in-Some.entry _ _ c.in-Some.ensures.found in
    record {
      fits = (all_taken _ _ c.in-Some.entry c.in-Some.ensures.found (g.T.EntryTest.fits c.args.test.now) c.loop-entry.invariant.fits).1;
      test = c.loop-entry.invariant.test ∙ any_left _ _ c.in-Some.entry c.in-Some.ensures.found (g.T.EntryTest.holds c.args.test.now) (sym c.holds.ensures.test ∙ c.if-holds.false);
      counted = omega (arith, taken, c.loop-entry.invariant.counted, c.holds.ensures.counted);
    }
