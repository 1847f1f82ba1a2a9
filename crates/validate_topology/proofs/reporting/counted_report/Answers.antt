use Rattle.std.proofs.Common.{subst}
use Rattle.validate_topology.specs.PlainLines.{HasPlainLines}
use Rattle.validate_topology.specs.Raw.{tables_in}
use Rattle.validate_topology.specs.RelationLines.{AreReferenceLines}
use Rattle.validate_topology.specs.Stages.IsReport.{on_faces}
use Rattle.validate_topology.proofs.Staging.{emptied, none_put}
use Rattle.validate_topology.proofs.reporting.counted_report.Goals as goal

pub returns : goal.returns
returns g c =
    let t = tables_in c.args.raw.now in
    let first = c.reference_lines.new.report in
    let second = c.plain_lines.new.report in
    let none = emptied c.is_empty.result first c.is_empty.ensures c.if-not-is_empty.false in
    let also = emptied c.is_empty-2.result second c.is_empty-2.ensures c.if-not-is_empty-2.false in
    let plain = c.in_ok-plain_lines.ensures in
    on_faces (subst (AreReferenceLines t) none c.in_ok-reference_lines.ensures)
    (subst (HasPlainLines t) (none_put first second plain.0 none also plain.1.1) plain.1.0) c.in_ok-face_lines.ensures
