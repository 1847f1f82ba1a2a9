use Rattle.std.proofs.Common.{◌∙◌, ◌-◌, List, Option, ap, sym, arith}
use Rattle.drawing.specs.Places.{at_place}
use Rattle.drawing.proofs.RowLemmas.{row_at-none, row_at-some}
use Rattle.topo_tables.proofs.places.Places.get.Goals as goal

pub returns-then-id-eq0 : goal.returns-then-id-eq0
returns-then-id-eq0 g c =
    rw (← c.self.view_is, c.if-id-eq0.true) (sym (row_at-none g.R.Row.number c.self.inside.slots.items c.self.invariant.in_place))

pub returns-else-id-eq0 : goal.returns-else-id-eq0
returns-else-id-eq0 g c =
    rw (← c.self.view_is)
    (c.slot_at.ensures ∙ ap (λ (places : List (Option g.row.R.Denot)). at_place places (c.args.id - 1)) c.deref.ensures.value
    ∙ row_at-some g.R.Row.number c.self.inside.slots.items c.args.id c.self.invariant.in_place (omega arith))
