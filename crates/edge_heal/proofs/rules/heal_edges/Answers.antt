use Rattle.std.proofs.Common.{refl}
use Rattle.drawing.specs.Drawing.{edge_at}
use Rattle.drawing.specs.Tables.{drawn, drawn_edge}
use Rattle.edge_heal.proofs.HealPlans.{answers_rows, edge_named, first_missing, row_there, second_missing, edit_of, step_of}
use Rattle.read_set.proofs.Keeping.{answer_keeps}
use Rattle.edge_heal.proofs.rules.heal_edges.Goals as goal

pub returns-in_default-clause-answer : goal.returns-in_default-clause-answer
returns-in_default-clause-answer g c =
    first_missing c.args.anew c.args.tables.now.rows c.args.tables.now.rows c.args.edge c.edge.result (edge_at (drawn c.args.tables.now.rows) c.args.other) refl c.in_default.not-Some c.edge.ensures.row

pub returns-in_default-edge-clause-answer : goal.returns-in_default-edge-clause-answer
returns-in_default-edge-clause-answer g c =
    second_missing c.args.anew c.args.tables.now.rows c.args.tables.now.rows c.args.other c.edge-2.result (drawn_edge c.in-Some.first.now) (edge_at (drawn c.args.tables.now.rows) c.args.edge) refl
    (edge_named c.args.tables.now.rows c.args.tables.now.rows c.args.edge c.edge.result c.in-Some.first refl c.in-Some.is c.edge.ensures.row) c.in_default-edge.not-Some c.edge-2.ensures.row

pub heal_rows-requires-clause-first : goal.heal_rows-requires-clause-first
heal_rows-requires-clause-first g c = row_there c.args.tables.now.rows c.args.tables.now.rows c.args.edge c.edge.result c.in-Some.first c.requires.stands refl c.in-Some.is c.edge.ensures.row

pub heal_rows-requires-clause-second : goal.heal_rows-requires-clause-second
heal_rows-requires-clause-second g c = row_there c.args.tables.now.rows c.args.tables.now.rows c.args.other c.edge-2.result c.in-Some-edge.second c.requires.stands refl c.in-Some-edge.is c.edge-2.ensures.row

pub returns-clause-answer : goal.returns-clause-answer
returns-clause-answer g c =
    answers_rows c.args.anew (drawn c.args.tables.now.rows) (edge_at (drawn c.args.tables.now.rows) c.args.edge) (edge_at (drawn c.args.tables.now.rows) c.args.other) (drawn_edge c.in-Some.first.now) (drawn_edge c.in-Some-edge.second.now) c.heal_rows.result
    (edge_named c.args.tables.now.rows c.args.tables.now.rows c.args.edge c.edge.result c.in-Some.first refl c.in-Some.is c.edge.ensures.row)
    (edge_named c.args.tables.now.rows c.args.tables.now.rows c.args.other c.edge-2.result c.in-Some-edge.second refl c.in-Some-edge.is c.edge-2.ensures.row)
    c.heal_rows.ensures

pub returns-clause-kept : goal.returns-clause-kept
returns-clause-kept g c =
    answer_keeps (drawn c.args.tables.now.rows) (edit_of c.args.anew c.args.edge c.args.other) _ c.heal_rows.result (step_of (drawn c.args.tables.now.rows) c.args.anew c.args.edge c.args.other) (returns-clause-answer g c)
