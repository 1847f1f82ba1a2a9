use Rattle.std.proofs.Common.{◌^◌}
use Rattle.shared_rows.specs.Children.{open_in}
use Rattle.shared_rows.proofs.Tabulated.{opened_kept, nothing_opened}
use Rattle.shared_rows.proofs.TableViews.{on_ok}
use Rattle.shared_rows.proofs.table.Table.seal.Goals as goal

pub returns-clause-closed : goal.returns-clause-closed
returns-clause-closed g c =
    rw (← c.self.view_is) (opened_kept (open_in g.N.Node.is_open c.seal.new.self) (open_in g.N.Node.is_open c.self.inside.root) (2 ^ 32) c.seal.ensures.closed)

pub returns-clause-ok : goal.returns-clause-ok
returns-clause-ok g c = on_ok c.seal.result (nothing_opened (open_in g.N.Node.is_open c.seal.new.self) (2 ^ 32)) c.seal.ensures.ok
