use Rattle.std.proofs.Common.{◌∙◌, sym, ap, arith, subst}
use Rattle.topo_base.specs.declared.rows.Box4.{Box4}
use Rattle.box_index.specs.LooseGrid.{CellTable, IsLooseGrid, left_from}
use Rattle.box_index.specs.Walk.{at}
use Rattle.box_index.proofs.Left.{left_same, left_whole}
use Rattle.box_index.proofs.walk.Walk.new.Goals as goal

pub returns-clause-left : goal.returns-clause-left
returns-clause-left c =
    let w = c.at_level.result in
    ap (λ (i : CellTable). left_from i w.area (at w)) c.at_level.ensures.grid ∙ ap (λ (a : Box4). left_from c.args.grid.now a (at w)) c.at_level.ensures.area
    ∙ sym (left_same c.args.grid.now c.args.area.now 0 (at w) (subst IsLooseGrid c.at_level.ensures.grid c.at_level.ensures.walk.grid) (omega arith)
    (record { none = λ r e found meet low. c.at_level.ensures.past r e found meet (omega arith) }))
    ∙ left_whole c.args.grid.now c.args.area.now
