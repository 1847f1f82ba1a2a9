use Rattle.std.proofs.Common.{sym}
use Rattle.shared_rows.specs.Children.{row_in}
use Rattle.shared_rows.proofs.Tabulated.{length-tabulate}
use Rattle.shared_rows.proofs.table.Table.len.Goals as goal

pub returns : goal.returns
returns g c = rw (← c.self.view_is) (sym (length-tabulate (row_in g.N.Node.row_at c.self.inside.root) c.self.inside.len))
