use Rattle.std.proofs.Common.{◌+◌, ◌<◌, ◌∙◌, sym, ap, arith, drop, length, rules, w64}
use Rattle.std.specs.Prelude.{fold, FitsSigned}
use Rattle.std.proofs.lemmas.Int.{to_z-of_z}
use Rattle.slab_index.proofs.Reach.{skipped, all_done, rest_here, none_here}
use Rattle.slab_index.proofs.visits.see_from.Goals as goal

pub loop-i-preserved : goal.loop-i-preserved
loop-i-preserved g c =
    let W = g.T.Look.with_one in
    let xs = c.args.pieces.now in
    let i = c.loop-i.i in
    let t = c.loop-i-test.true in
    let h : i < length xs = omega arith in
    let rest = rest_here xs i c.index-pieces-i.result h c.index-pieces-i.is in
    record {
      seen = ap (λ l. fold W l (drop (i + 1) xs)) c.see.ensures.seen ∙ sym (ap (fold W c.loop-i.look) rest) ∙ c.loop-i.invariant.seen;
      sound = c.see.ensures.sound c.loop-i.invariant.sound;
      steps = (let a = c.loop-i.invariant.steps in let b = c.tick.ensures in omega (arith, a, b));
    }

pub returns-then-is_done_at-clause-seen : goal.returns-then-is_done_at-clause-seen
returns-then-is_done_at-clause-seen g c =
    let W = g.T.Look.with_one in
    let xs = c.args.pieces.now in
    let i = c.loop-i.i in
    let t = c.loop-i-test.true in
    let h : i < length xs = omega arith in
    let f : FitsSigned w64 c.floor_of.result = search rules in
    let floor = to_z-of_z w64 c.floor_of.result f ∙ c.floor_of.ensures in
    sym (skipped W c.loop-i.look (drop i xs) (λ k d lt. c.is_done_at.ensures c.if-is_done_at.true _ (all_done xs i c.args.rise c.index-pieces-i.result _ h c.index-pieces-i.is c.requires.rising c.requires.all_no_higher floor k d lt)))
    ∙ c.loop-i.invariant.seen

pub returns-clause-seen : goal.returns-clause-seen
returns-clause-seen g c =
    let W = g.T.Look.with_one in
    sym (ap (fold W c.loop-i.look) (none_here c.args.pieces.now c.loop-i.i (let t = c.loop-i-test.false in omega arith))) ∙ c.loop-i.invariant.seen
