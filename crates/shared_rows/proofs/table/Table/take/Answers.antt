use Rattle.std.proofs.Common.{◌∙◌, ◌^◌, None, sym, arith}
use Rattle.shared_rows.specs.Children.{row_in, open_in}
use Rattle.shared_rows.proofs.Tabulated.{slot_tabulated, set_tabulated}
use Rattle.shared_rows.proofs.TableViews.{len_is, is_open_at}
use Rattle.shared_rows.proofs.table.Table.take.Goals as goal

pub take-requires : goal.take-requires
take-requires g c =
    is_open_at c.args.self.now (row_in g.N.Node.row_at c.self.inside.root) (open_in g.N.Node.is_open c.self.inside.root) c.self.inside.len (2 ^ 32) c.self.view_is
    c.args.place c.ranges.place.fits c.requires.opened

pub returns-clause-taken : goal.returns-clause-taken
returns-clause-taken g c =
    let row_at = row_in g.N.Node.row_at c.self.inside.root in
    let same = len_is c.args.self.now row_at (open_in g.N.Node.is_open c.self.inside.root) c.self.inside.len (2 ^ 32) c.self.view_is in
    rw (← c.self.view_is) (c.take.ensures.taken ∙ sym (slot_tabulated row_at c.self.inside.len c.args.place (omega (arith, same, c.requires.within))))

pub returns-clause-slots : goal.returns-clause-slots
returns-clause-slots g c =
    rw (← c.self.view_is)
    (set_tabulated (row_in g.N.Node.row_at c.self.inside.root) (row_in g.N.Node.row_at c.take.new.self) c.self.inside.len c.args.place None c.take.ensures.here c.take.ensures.elsewhere)
