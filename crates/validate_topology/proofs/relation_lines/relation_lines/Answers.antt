use Rattle.std.proofs.Common.{◌++◌, ◌∙◌, List, map, refl, ap, subst}
use Rattle.validate_topology.specs.Pairs.{IsInOrder}
use Rattle.validate_topology.specs.Raw.{tables_in}
use Rattle.validate_topology.specs.RelationLines.{kind_wrong, missing_elements, mistyped, universes, unlisted, without_feature}
use Rattle.validate_topology.specs.declared.pairs.IdPair.{IdPair}
use Rattle.topo_base.specs.declared.rows.RelationRow.{RelationRow}
use Rattle.validate_topology.proofs.Pushing.{four_pushed}
use Rattle.validate_topology.proofs.relation_lines.relation_lines.Goals as goal

pub returns : goal.returns
returns c =
    let t = tables_in c.args.raw.now in
    let rows = c.rows-rows.ensures.rows in
    let ps = c.in_order-strangers.result.items in
    let qs = c.in_order-wrong.result.items in
    let strangers = c.in_ok-unlisted_features.ensures ∙ ap (unlisted t.features) rows in
    let wrong = c.in_ok-mistyped_features.ensures ∙ ap (mistyped t.features t.layers) rows in (
      map without_feature ps ++ map kind_wrong qs ++ universes t t.relations ++ missing_elements t t.relations,
      (
        record {
          strangers = ps;
          strangers_are = subst (λ (xs : List IdPair). IsInOrder xs ps) strangers c.in_order-strangers.ensures;
          wrong = qs;
          wrong_are = subst (λ (xs : List IdPair). IsInOrder xs qs) wrong c.in_order-wrong.ensures;
          all = refl;
        },
        four_pushed c.args.report.now _ _ _ _ (map without_feature ps) (map kind_wrong qs) (universes t t.relations) (missing_elements t t.relations)
            (c.in_ok-relations_without_feature.ensures ∙ ap (λ (xs : List IdPair). c.args.report.now ++ map without_feature xs) c.deref.ensures.value)
            (c.in_ok-relations_of_wrong_kind.ensures ∙ ap (λ (xs : List IdPair). c.relations_without_feature.new.report ++ map kind_wrong xs) c.deref-2.ensures.value)
            (c.in_ok-relations_of_universe.ensures ∙ ap (λ (xs : List RelationRow). c.relations_of_wrong_kind.new.report ++ universes t xs) rows)
            (c.in_ok-relations_without_element.ensures ∙ ap (λ (xs : List RelationRow). c.relations_of_universe.new.report ++ missing_elements t xs) rows),
      ),
    )
