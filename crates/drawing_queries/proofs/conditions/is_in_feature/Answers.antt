use Rattle.std.proofs.Common.{◌≡◌, ◌∙◌, sym, ap, drop, List, true}
use Rattle.std.specs.List.{list_any}
use Rattle.topo_base.specs.declared.rows.RelationRow.{RelationRow}
use Rattle.drawing.specs.Relations.{lists_element}
use Rattle.drawing.specs.Tables.{drawn}
use Rattle.drawing_queries.proofs.IsolatedTests.{in_feature_is}
use Rattle.drawing_queries.proofs.RowTests.{any_at, dropped}
use Rattle.drawing_queries.proofs.conditions.is_in_feature.Goals as goal

pub returns-then-lists_element-clause-test : goal.returns-then-lists_element-clause-test
returns-then-lists_element-clause-test g c =
    let S = drawn c.args.tables.now.rows in
    let lists = lists_element S c.args.element_type c.args.id in
    let rows = c.relations-row-items.result.now in
    let i = c.loop-row.row-index in
    let here : list_any lists (drop i rows) ≡ true = any_at lists rows i c.row-item.result c.loop-row-test.true c.row-item.is (sym c.lists_element.ensures.test ∙ c.if-lists_element.true) in
    sym (in_feature_is S c.args.element_type c.args.id ∙ c.loop-row.invariant.test
    ∙ ap (λ (rs : List RelationRow). list_any lists (drop i rs)) (sym c.relations-row-items.ensures) ∙ here)

pub returns-clause-test : goal.returns-clause-test
returns-clause-test g c =
    let S = drawn c.args.tables.now.rows in
    let lists = lists_element S c.args.element_type c.args.id in
    let rows = c.relations-row-items.result.now in
    let i = c.loop-row.row-index in
    sym (in_feature_is S c.args.element_type c.args.id ∙ c.loop-row.invariant.test
    ∙ ap (λ (rs : List RelationRow). list_any lists (drop i rs)) (sym c.relations-row-items.ensures) ∙ dropped lists rows i c.loop-row-test.false)
