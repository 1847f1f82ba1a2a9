use Rattle.std.proofs.Common.{◌-◌, ◌+◌, ◌/◌, sym, ◌∙◌, ap, arith, length, length-append}
use Rattle.std.specs.Prelude.{fold}
use Rattle.std.proofs.lemmas.List.Sums.{fold-append}
use Rattle.slab_index.specs.Slabs.{slabs_round}
use Rattle.slab_index.specs.Path.{in_slab, in_slabs}
use Rattle.slab_index.proofs.Paths.{one_slab_on, no_slab}
use Rattle.slab_index.proofs.index.see_path.Goals as goal

pub loop-preserved : goal.loop-preserved
loop-preserved g c =
    let W = g.T.Look.with_one in
    let kept = c.args.slabs.now.kept in
    let here = in_slab kept c.loop.number in
    let rest = in_slabs kept (slabs_round (43 - (c.loop.counter + 1)) (c.loop.number / 2)) in
    let all = one_slab_on kept (43 - c.loop.counter) (43 - (c.loop.counter + 1)) c.loop.number (omega arith) in
    let seen = c.see.ensures.seen in
    record {
      seen = ap (λ l. fold W l rest) seen ∙ sym (fold-append W c.loop.look here rest) ∙ ap (fold W c.loop.look) (sym all) ∙ c.loop.invariant.seen;
      in_range = λ _. c.see.ensures.in_range;
      sound = c.see.ensures.sound;
      steps = (
          let a = ap (λ l. length l) all in
          let b = length-append here rest in
          let e = c.see.ensures.steps in
          let f = c.tick.ensures in
          let h = c.loop.invariant.steps in
          let k = c.loop-test.true in
          omega (arith, a, b, e, f, h, k)
          );
    }

pub returns-clause-seen : goal.returns-clause-seen
returns-clause-seen g c =
    let none = no_slab c.args.slabs.now.kept (43 - c.loop.counter) c.loop.number (omega arith) in
    sym (ap (fold (g.T.Look.with_one) c.loop.look) none) ∙ c.loop.invariant.seen

pub returns-clause-steps : goal.returns-clause-steps
returns-clause-steps g c =
    let none = ap (λ l. length l) (no_slab c.args.slabs.now.kept (43 - c.loop.counter) c.loop.number (omega arith)) in
    let h = c.loop.invariant.steps in
    let k = c.loop-test.false in
    omega (arith, none, h, k)

pub returns-clause-in_range : goal.returns-clause-in_range
returns-clause-in_range g c = let k = c.loop-test.false in c.loop.invariant.in_range (omega arith)
