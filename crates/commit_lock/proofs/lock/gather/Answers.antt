use Rattle.std.proofs.Common.{rules, ◌≡◌, [], ◌∷◌, ap, ◌∙◌, subst}
use Rattle.std.specs.List.{AllByRecursion as Each}
use Rattle.std.proofs.lemmas.List.Elements.{recursion_from_All}
use Rattle.commit_lock.specs.Passes.{PassValue}
use Rattle.commit_lock.proofs.Lists.{each_middle}
use Rattle.commit_lock.proofs.Given.{pass_is, gathers_as, popped}
use Rattle.commit_lock.proofs.Closing.{gathers_one, gathers_more}
use Rattle.commit_lock.proofs.lock.gather.Goals as goal

pub joins-init : goal.joins-init
joins-init g c =
    let lock = λ (p : PassValue). p.lock ≡ c.args.shared.now.table_id in
    let own = each_middle lock _ c.in-Some.first [] (subst (Each lock) c.in-Some.ensures.items (recursion_from_All lock _ c.requires.own)) in
    record {
      table = c.into_seat-seat.ensures.0 ∙ (ap (λ (x : PassValue). x.lock) c.first.view_is ∙ own);
      slots = c.into_seat-seat.ensures.3;
      done = (c.in-Some.first ∷ [], c.in-Some.ensures.items, gathers_one _ c.in-Some.first (pass_is _ _ _ _ c.into_seat-seat.ensures.2 c.first.invariant c.first.view_is));
    }

pub join_seat-requires : goal.join_seat-requires
join_seat-requires g c =
    let i = c.joins.invariant in
    let h = i.done.2 in
    let items = popped _ _ _ _ _ i.done.1 c.in-Some-pop.ensures.items in
    let lock = λ (p : PassValue). p.lock ≡ c.args.shared.now.table_id in
    let own = each_middle lock _ c.in-Some-pop.pass _ (subst (Each lock) items (recursion_from_All lock _ c.requires.own)) in
    let w = pass_is _ _ _ _ c.into_seat.ensures.2 c.pass.invariant c.pass.view_is in
    (i.table, c.into_seat.ensures.0 ∙ (ap (λ (x : PassValue). x.lock) c.pass.view_is ∙ own), c.into_seat.ensures.3, search rules, gathers_as g.T.Chronicle.entries g.T.Chronicle.faults g.T.Chronicle.setting _ _ _ h.from _ h.count h.faults _ _ c.in-Some-pop.pass h.same w)

pub joins-preserved : goal.joins-preserved
joins-preserved g c =
    let i = c.joins.invariant in
    let j = c.join_seat.ensures in
    let w = pass_is _ _ _ _ c.into_seat.ensures.2 c.pass.invariant c.pass.view_is in
    record {
      table = j.0 ∙ i.table;
      slots = ap (λ m. m.1) j.2 ∙ i.slots;
      done = (c.in-Some-pop.pass ∷ i.done.0, popped _ _ _ _ _ i.done.1 c.in-Some-pop.ensures.items, gathers_more i.done.0 _ _ _ _ i.done.2 w (ap (λ m. m.0) j.2));
    }
