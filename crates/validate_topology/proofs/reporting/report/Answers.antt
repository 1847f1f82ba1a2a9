use Rattle.std.proofs.lemmas.Result.{IfOk-weaker}
use Rattle.std.proofs.Common.{◌≡◌, IsTrue, []}
use Rattle.drawing.specs.Plain.{IsPlain}
use Rattle.drawing.specs.Subdivision.{faces_have_shells, rings_have_one_face}
use Rattle.drawing.specs.Tables.{drawn}
use Rattle.validate_topology.specs.Raw.{tables_in}
use Rattle.validate_topology.specs.Stages.{IsReport}
use Rattle.validate_topology.proofs.RingsSound.{one_face, ringed_report, shells_right}
use Rattle.validate_topology.proofs.Staging.{plain_report}
use Rattle.validate_topology.proofs.reporting.report.Goals as goal

pub returns-clause-plain : goal.returns-clause-plain
returns-clause-plain c =
    let t = tables_in c.args.raw.now in
    IfOk-weaker c.counted_report.result (IsReport t) (λ r. r ≡ [] → IsPlain (drawn t)) (λ r is none. plain_report t r c.rows.ensures.ascend is none) c.counted_report.ensures

pub returns-clause-rings : goal.returns-clause-rings
returns-clause-rings c =
    let t = tables_in c.args.raw.now in
    IfOk-weaker c.counted_report.result (IsReport t) (λ r. r ≡ [] → IsTrue (rings_have_one_face (drawn t))) (λ r is none. one_face t (ringed_report t r is none)) c.counted_report.ensures

pub returns-clause-shells : goal.returns-clause-shells
returns-clause-shells c =
    let t = tables_in c.args.raw.now in
    IfOk-weaker c.counted_report.result (IsReport t) (λ r. r ≡ [] → IsTrue (faces_have_shells (drawn t))) (λ r is none. shells_right t (ringed_report t r is none)) c.counted_report.ensures
