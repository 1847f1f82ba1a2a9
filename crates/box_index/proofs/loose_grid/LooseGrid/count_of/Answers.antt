use Rattle.std.proofs.Common.{◌∙◌, ℕ, ap, arith, unwrap_or, Option, length}
use Rattle.box_index.specs.LooseGrid.{CellTable, kept}
use Rattle.box_index.proofs.Indexed.{count_small}
use Rattle.box_index.proofs.loose_grid.LooseGrid.count_of.Goals as goal

pub returns-clause-small : goal.returns-clause-small
returns-clause-small c =
    let few = count_small _ c.self.invariant c.args.cell in
    let is = c.unwrap_or.ensures ∙ ap (λ (o : Option ℕ). unwrap_or o 0) (c.copied.ensures ∙ c.get.ensures.value) in
    let same = ap (λ (i : CellTable). length (kept i)) c.self.view_is in
    omega (arith, few, is, same)
