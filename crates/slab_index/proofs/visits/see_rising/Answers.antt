use Rattle.std.proofs.Common.{◌∙◌, ◌<ℤ◌, sym, subst, rules, w64}
use Rattle.std.specs.Prelude.{FitsSigned}
use Rattle.std.proofs.lemmas.Int.{to_z-of_z}
use Rattle.slab_index.specs.Reach.{top}
use Rattle.slab_index.proofs.Reach.{front_skipped}
use Rattle.slab_index.proofs.visits.see_rising.Goals as goal

pub returns-clause-seen : goal.returns-clause-seen
returns-clause-seen g c =
    let f : FitsSigned w64 c.lowest_top.result = search rules in
    let same = to_z-of_z w64 c.lowest_top.result f in
    c.see_from.ensures.seen
    ∙ sym (front_skipped (g.T.Look.with_one) c.args.look.now c.args.pieces.now c.count_below-first.result _ c.count_below-first.ensures.below (λ e lt. c.lowest_top.ensures e (subst (λ z. top e <ℤ z) same lt)))
