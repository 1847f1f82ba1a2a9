use Rattle.std.proofs.Common.{◌^◌, Some, arith}
use Rattle.shared_rows.specs.Children.{row_in, open_in}
use Rattle.shared_rows.proofs.Tabulated.{pushed_tabulated}
use Rattle.shared_rows.proofs.TableViews.{len_is, is_open_behind}
use Rattle.shared_rows.proofs.table.Table.push.Goals as goal

pub put-requires : goal.put-requires
put-requires g c =
    let row_at = row_in g.N.Node.row_at c.self.inside.root in
    let is_open = open_in g.N.Node.is_open c.self.inside.root in
    let same = len_is c.args.self.now row_at is_open c.self.inside.len (2 ^ 32) c.self.view_is in
    is_open_behind c.args.self.now row_at is_open c.self.inside.len (2 ^ 32) c.self.view_is (omega (arith, same, c.requires.small)) c.requires.opened

pub overflow_add-self : goal.overflow_add-self
overflow_add-self g c =
    let row_at = row_in g.N.Node.row_at c.self.inside.root in
    let is_open = open_in g.N.Node.is_open c.self.inside.root in
    let same = len_is c.args.self.now row_at is_open c.self.inside.len (2 ^ 32) c.self.view_is in
    omega (arith, same, c.requires.small)

pub returns-clause-slots : goal.returns-clause-slots
returns-clause-slots g c =
    rw (← c.self.view_is)
    (pushed_tabulated (row_in g.N.Node.row_at c.self.inside.root) (row_in g.N.Node.row_at c.put.new.self) c.self.inside.len (Some c.args.row) c.put.ensures.here c.put.ensures.elsewhere)
