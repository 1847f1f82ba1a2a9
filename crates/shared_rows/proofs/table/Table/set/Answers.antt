use Rattle.std.proofs.Common.{◌^◌, Some}
use Rattle.shared_rows.specs.Children.{row_in, open_in}
use Rattle.shared_rows.proofs.Tabulated.{set_tabulated}
use Rattle.shared_rows.proofs.TableViews.{is_open_at}
use Rattle.shared_rows.proofs.table.Table.set.Goals as goal

pub put-requires : goal.put-requires
put-requires g c =
    is_open_at c.args.self.now (row_in g.N.Node.row_at c.self.inside.root) (open_in g.N.Node.is_open c.self.inside.root) c.self.inside.len (2 ^ 32) c.self.view_is
    c.args.place c.ranges.place.fits c.requires.opened

pub returns-clause-slots : goal.returns-clause-slots
returns-clause-slots g c =
    rw (← c.self.view_is)
    (set_tabulated (row_in g.N.Node.row_at c.self.inside.root) (row_in g.N.Node.row_at c.put.new.self) c.self.inside.len c.args.place (Some c.args.row) c.put.ensures.here c.put.ensures.elsewhere)
