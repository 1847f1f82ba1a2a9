use Rattle.std.proofs.Common.{Ok, refl, rules, sym, ◌∙◌}
use Rattle.drawing.specs.Tables.{drawn, drawn_edge}
use Rattle.edge_split.specs.Splitting.{done_by}
use Rattle.edge_split.proofs.SplitPlans.{accepted, cut_there, no_edge, not_on_edge, proper_there, step_of, edit_of}
use Rattle.read_set.proofs.Answering.{want_of_memory}
use Rattle.read_set.proofs.Keeping.{answer_keeps}
use Rattle.edge_split.proofs.rules.split_edge.Goals as goal

pub returns-in_default-clause-answer : goal.returns-in_default-clause-answer
returns-in_default-clause-answer g c =
    no_edge c.args.anew c.args.tables.now.rows c.args.tables.now.rows c.args.edge c.edge.result c.args.point refl c.in_default.not-Some c.edge.ensures.row

pub is_inside_line-requires : goal.is_inside_line-requires
is_inside_line-requires g c =
    proper_there c.args.tables.now.rows c.args.tables.now.rows c.args.edge c.edge.result c.in-Some.row c.requires.ringed.rings.plain.plain refl c.in-Some.is c.edge.ensures.row

pub returns-then-not-is_inside_line-clause-answer : goal.returns-then-not-is_inside_line-clause-answer
returns-then-not-is_inside_line-clause-answer g c =
    not_on_edge c.args.anew c.args.tables.now.rows c.args.tables.now.rows c.args.edge c.edge.result c.in-Some.row c.args.point refl c.in-Some.is c.edge.ensures.row
    (sym c.is_inside_line.ensures.test ∙ c.if-not-is_inside_line.true)

pub split-requires-clause-cut : goal.split-requires-clause-cut
split-requires-clause-cut g c =
    cut_there c.args.tables.now.rows c.args.tables.now.rows c.args.edge c.edge.result c.in-Some.row c.args.point c.requires.stands refl c.in-Some.is c.edge.ensures.row
    (sym c.is_inside_line.ensures.test ∙ c.if-not-is_inside_line.false)

pub returns-in_err-tried-clause-answer : goal.returns-in_err-tried-clause-answer
returns-in_err-tried-clause-answer g c =
    want_of_memory (drawn c.args.tables.now.rows) _ (done_by c.args.anew (drawn c.args.tables.now.rows) (drawn_edge c.in-Some.row.now) c.args.point) c.from_residual.result
    (accepted c.args.anew c.args.tables.now.rows c.args.tables.now.rows c.args.edge c.edge.result c.in-Some.row c.args.point refl c.in-Some.is c.edge.ensures.row
    (sym c.is_inside_line.ensures.test ∙ c.if-not-is_inside_line.false))
    (search rules)

pub returns-clause-answer : goal.returns-clause-answer
returns-clause-answer g c =
    c.into_edited.ensures (drawn c.args.tables.now.rows) _ (done_by c.args.anew (drawn c.args.tables.now.rows) (drawn_edge c.in-Some.row.now) c.args.point)
    (accepted c.args.anew c.args.tables.now.rows c.args.tables.now.rows c.args.edge c.edge.result c.in-Some.row c.args.point refl c.in-Some.is c.edge.ensures.row
    (sym c.is_inside_line.ensures.test ∙ c.if-not-is_inside_line.false))
    c.in_ok-tried.ensures

pub returns-clause-kept : goal.returns-clause-kept
returns-clause-kept g c =
    answer_keeps (drawn c.args.tables.now.rows) (edit_of c.args.anew c.args.edge c.args.point) _ (Ok c.into_edited.result) (step_of (drawn c.args.tables.now.rows) c.args.anew c.args.edge c.args.point) (returns-clause-answer g c)
