use Rattle.std.proofs.Common.{◌∙◌, sym}
use Rattle.shared_rows.specs.Children.{row_in}
use Rattle.shared_rows.proofs.Tabulated.{slot_tabulated, slot_past}
use Rattle.shared_rows.proofs.table.Table.get.Goals as goal

pub returns-then-place-self : goal.returns-then-place-self
returns-then-place-self g c =
    rw (← c.self.view_is) (c.get.ensures ∙ sym (slot_tabulated (row_in g.N.Node.row_at c.self.inside.root) c.self.inside.len c.args.place c.if-place-self.true))

pub returns-else-place-self : goal.returns-else-place-self
returns-else-place-self g c =
    rw (← c.self.view_is) (sym (slot_past (row_in g.N.Node.row_at c.self.inside.root) c.self.inside.len c.args.place c.if-place-self.false))
