use Rattle.std.proofs.Common.{◌≡◌, Result, Err, IfErr, rules, sym, subst}
use Rattle.read_set.specs.declared.end.PlanEnd.{PlanEnd}
use Rattle.topo_desk.specs.Prepared.{IsUnready}
use Rattle.topo_desk.specs.Verdict.{verdict}
use Rattle.topo_desk.proofs.board.Board.prepare.Goals as goal

pub returns-in_err-edited-clause-refused : goal.returns-in_err-edited-clause-refused
returns-in_err-edited-clause-refused g c =
    let unready = IsUnready (verdict c.args.self.now.bounds c.args.self.now.history (record { editor = c.args.editor; edit = c.args.edit })) in
    let left : c.from_residual.result ≡ Err c.in_err-edited.field-0.0 = search rules in
    subst (λ r. IfErr r unready) (sym left) (c.in_err-edited.ensures.refused c.args.editor)
