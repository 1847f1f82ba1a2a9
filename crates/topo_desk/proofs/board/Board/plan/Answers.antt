use Rattle.std.proofs.Common.{ap, sym, subst, ◌∙◌}
use Rattle.drawing.specs.Tables.{tables_of}
use Rattle.topo_desk.specs.Boarded.{Boarded, bounds_of}
use Rattle.read_set.specs.Ready.{IsReady}
use Rattle.subdivision_laws.specs.Subdivided.{IsSubdivided}
use Rattle.topo_desk.proofs.Entering.{legal_ready, legal_subdivided}
use Rattle.topo_desk.proofs.Boards.{drawing_is, planned_on, refused_on}
use Rattle.topo_desk.proofs.board.Board.plan.Goals as goal

pub plan_on-requires-clause-ready : goal.plan_on-requires-clause-ready
plan_on-requires-clause-ready g c =
    let b = c.self.inside in
    subst IsReady (sym (drawing_is b.tables.rows b.history.entries c.self.invariant.stands)) (legal_ready (bounds_of b.limits) b.history.entries b.limits.ids c.self.invariant.legal)

pub plan_on-requires-clause-subdivided : goal.plan_on-requires-clause-subdivided
plan_on-requires-clause-subdivided g c =
    let b = c.self.inside in
    subst IsSubdivided (sym (drawing_is b.tables.rows b.history.entries c.self.invariant.stands)) (legal_subdivided (bounds_of b.limits) b.history.entries c.self.invariant.legal)

pub plan_on-requires-clause-stands : goal.plan_on-requires-clause-stands
plan_on-requires-clause-stands g c =
    let b = c.self.inside in
    c.self.invariant.stands ∙ ap tables_of (sym (drawing_is b.tables.rows b.history.entries c.self.invariant.stands))

pub returns-clause-planned : goal.returns-clause-planned
returns-clause-planned g c =
    planned_on c.self.inside.tables.rows c.self.inside.history.entries c.args.self.now.history c.args.edit.now c.plan_on.result c.self.invariant.stands (ap (λ (b : Boarded). b.history) c.self.view_is) c.plan_on.ensures.planned

pub returns-clause-refused : goal.returns-clause-refused
returns-clause-refused g c editor =
    refused_on c.self.inside.tables.rows c.self.inside.history.entries c.args.self.now.history c.args.self.now.bounds c.len.result editor c.args.edit.now c.plan_on.result
    c.self.invariant.stands (ap (λ (b : Boarded). b.history) c.self.view_is) c.len.ensures c.plan_on.ensures.refused
