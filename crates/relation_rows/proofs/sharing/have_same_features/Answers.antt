use Rattle.std.proofs.Common.{sym, ◌∙◌}
use Rattle.relation_rows.proofs.SameNumbers.{below, first_ended, second_ended}
use Rattle.relation_rows.proofs.sharing.have_same_features.Goals as goal

pub returns-then-here-rows : goal.returns-then-here-rows
returns-then-here-rows g c =
    let here = c.next_listing-here.ensures in
    let there = c.next_listing-there.ensures in
    first_ended _ _ _ _ (here.none c.if-here-rows.true) there.within.1 there.none there.some ∙ sym c.loop-rows.invariant.same

pub returns-then-there-rows : goal.returns-then-there-rows
returns-then-there-rows g c =
    let here = c.next_listing-here.ensures in
    let there = c.next_listing-there.ensures in
    second_ended _ _ (there.none c.if-there-rows.true) (here.some (below _ _ here.within.1 c.if-here-rows.false)) ∙ sym c.loop-rows.invariant.same
