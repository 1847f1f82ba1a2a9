use Rattle.std.proofs.Common.{◌≡◌, ◌+◌, take, drop, get_or, sym, ◌∙◌}
use Rattle.std.proofs.lemmas.List.{get_or_default}
use Rattle.topo_base.specs.declared.edit.Pair.{Pair}
use Rattle.drawing.specs.Layers.{elements_rule}
use Rattle.drawing.specs.Tables.{drawn}
use Rattle.topogeom_points.proofs.Elements.{next_rule, none_goes, some_stays}
use Rattle.topogeom_points.proofs.pairs.elements_rule.Goals as goal

pub returns-then-is_some : goal.returns-then-is_some
returns-then-is_some g c =
    let S = drawn c.args.tables.now.rows in
    let layer = c.args.layer.now in
    let xs = c.args.pairs.now in
    let i = c.loop-place.place in
    let x : Pair = get_or xs i (record { id = 0; element_type = 0 }) in
    let rule = c.rule_behind-rule.result in
    let rest = elements_rule S layer (take (i + 1) xs) (drop (i + 1) xs) in
    let is : x ≡ get_or xs i x = get_or_default xs i (record { id = 0; element_type = 0 }) x c.loop-place-test.true in
    sym (c.loop-place.invariant ∙ next_rule S layer xs i x rule c.loop-place-test.true is (sym c.rule_behind-rule.ensures)
    ∙ some_stays rule rest (sym c.is_some.ensures ∙ c.if-is_some.true))

pub loop-place-preserved : goal.loop-place-preserved
loop-place-preserved g c =
    let S = drawn c.args.tables.now.rows in
    let layer = c.args.layer.now in
    let xs = c.args.pairs.now in
    let i = c.loop-place.place in
    let x : Pair = get_or xs i (record { id = 0; element_type = 0 }) in
    let rule = c.rule_behind-rule.result in
    let rest = elements_rule S layer (take (i + 1) xs) (drop (i + 1) xs) in
    let is : x ≡ get_or xs i x = get_or_default xs i (record { id = 0; element_type = 0 }) x c.loop-place-test.true in
    c.loop-place.invariant ∙ next_rule S layer xs i x rule c.loop-place-test.true is (sym c.rule_behind-rule.ensures)
    ∙ none_goes rule rest (sym c.is_some.ensures ∙ c.if-is_some.false)
