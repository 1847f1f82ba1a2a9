use Rattle.drawing.specs.Places.{rows_of}
use Rattle.edge_split.proofs.SplitLists.{new_joined}
use Rattle.edge_split.proofs.writes.new_writes.Goals as goal

pub returns : goal.returns
returns c =
    new_joined c.args.tables.now.rows.edges (rows_of c.edges.result.now) c.args.row.now c.args.point c.args.parts.now.node c.args.parts.now.edge c.args.parts.now.first c.args.parts.now.second
    c.in_ok-writes.writes c.relink_rows.new.writes c.push_last.new.writes c.requires.edge c.in_ok-writes.ensures c.edges.ensures c.in_ok-relink_rows.ensures c.in_ok-push_last.ensures
