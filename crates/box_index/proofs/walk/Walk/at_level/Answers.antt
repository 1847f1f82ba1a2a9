use Rattle.std.proofs.Common.{◌∙◌, arith}
use Rattle.box_index.specs.Walk.{at}
use Rattle.box_index.proofs.Passing.{at_is, first_past}
use Rattle.box_index.proofs.walk.Walk.at_level.Goals as goal

pub returns-clause-past : goal.returns-clause-past
returns-clause-past c = λ r e found meet low.
    first_past c.args.grid.now c.args.area.now c.args.from c.used_level-level.result (at c.at_cell.result)
    c.used_level-level.ensures.grid c.requires.area c.used_level-level.ensures.high c.used_level-level.ensures.unused
    (omega (arith, c.first_column.ensures.value, c.first_column.ensures.range)) (omega (arith, c.first_row.ensures.value, c.first_row.ensures.range))
    (at_is c.at_cell.result _ _ _ c.at_cell.ensures.level (c.at_cell.ensures.column ∙ c.first_column.ensures.value) (c.at_cell.ensures.row ∙ c.first_row.ensures.value) c.at_cell.ensures.number)
    r e found meet low
