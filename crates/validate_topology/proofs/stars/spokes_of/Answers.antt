use Rattle.std.proofs.Common.{◌∙◌, ap, arith, rules, subst, get_or}
use Rattle.std.proofs.lemmas.List.{take_all}
use Rattle.std.proofs.lemmas.List.Sorted.{All-permutation, IsPermutation-map, answers_always}
use Rattle.std.specs.List.Sorted.{IsPermutation}
use Rattle.validate_topology.specs.Following.{IsSpokeOf, half_edges_of, halves_at, spoke_less}
use Rattle.validate_topology.specs.declared.stars.Spoke.{Spoke}
use Rattle.validate_topology.proofs.SpokeOrder.{less_is_order}
use Rattle.validate_topology.proofs.SpokePlaces.{halves_pushed, row_at_place}
use Rattle.validate_topology.proofs.stars.spokes_of.Goals as goal

pub loop-index-preserved : goal.loop-index-preserved
loop-index-preserved c =
    let rows = c.args.edges.now in
    let i = c.loop-index.index in
    let row = c.index-edges-index.result in
    let is = c.index-edges-index.is in
    let more = c.in_ok-push_spokes.ensures.len in
    let so_far = c.loop-index.invariant.len in
    record {
      len = omega (arith, more, so_far);
      each = c.in_ok-push_spokes.ensures.each rows (row_at_place rows i row c.loop-index-test.true is) c.loop-index.invariant.each;
      halves = λ d. halves_pushed rows i row d _ _ c.loop-index-test.true is c.in_ok-push_spokes.ensures.places (c.loop-index.invariant.halves d);
    }

pub returns-clause-spokes : goal.returns-clause-spokes
returns-clause-spokes c =
    let rows = c.args.edges.now in
    let hs = half_edges_of rows in
    let moved = c.sort_unstable_by.ensures.permutation in
    record {
      each = All-permutation (IsSpokeOf hs) _ _ moved c.loop-index.invariant.each;
      all = λ d. subst (λ ks. IsPermutation ks (halves_at hs d c.sort_unstable_by.new.self.items)) (c.loop-index.invariant.halves d ∙ ap half_edges_of (take_all c.loop-index.index rows (omega (arith, c.loop-index-test.false))))
          (IsPermutation-map (λ (s : Spoke). get_or hs s.place d) _ _ moved);
      order = c.sort_unstable_by.ensures.sorted spoke_less (less_is_order (λ (s : Spoke). s.node) (λ (s : Spoke). s.dir)) (answers_always _ _ _ (λ f a r f' h. search rules));
    }
