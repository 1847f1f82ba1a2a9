use Rattle.std.proofs.Common.{◌^◌}
use Rattle.shared_rows.specs.Children.{open_in}
use Rattle.shared_rows.proofs.Tabulated.{opened_tabulated, opened_kept}
use Rattle.shared_rows.proofs.table.Table.reserve_at.Goals as goal

pub returns-clause-kept : goal.returns-clause-kept
returns-clause-kept g c =
    rw (← c.self.view_is) (opened_kept (open_in g.N.Node.is_open c.self.inside.root) (open_in g.N.Node.is_open c.open.new.self) (2 ^ 32) c.open.ensures.kept)

pub returns-clause-ok : goal.returns-clause-ok
returns-clause-ok g c =
    rw (opened_tabulated (open_in g.N.Node.is_open c.open.new.self) (2 ^ 32) c.args.place c.ranges.place.fits) c.open.ensures.ok
