use Rattle.std.proofs.Common.{◌∙◌, ◌++◌, sym}
use Rattle.topo_base.specs.declared.rows.FaceRow.{FaceRow}
use Rattle.validate_topology.specs.RingLines.{count_wrong}
use Rattle.validate_topology.specs.declared.ring_lines.Tally.{Tally}
use Rattle.validate_topology.proofs.Counting.{count_read, counts_pushed}
use Rattle.validate_topology.proofs.ring_lines.counts_wrong.Goals as goal

pub loop-index-preserved : goal.loop-index-preserved
loop-index-preserved c count same =
    let faces = c.args.faces.now in
    let i = c.loop-index.index in
    let face = c.index-faces-index.result in
    let none : Tally = record { count = 0; until = 0 } in
    let read = count_read faces c.args.tallies.now count i none face c.loop-index-test.true c.index-faces-index.is same in
    counts_pushed (λ (f : FaceRow). count_wrong f.face_id (count f.face_id)) faces i face c.args.report.now (count_wrong 0 (count 0)) c.loop-index.report c.count_wrong-in-loop-index.new.report
    c.loop-index-test.true c.index-faces-index.is (c.loop-index.invariant count same)
    (c.in_ok-count_wrong-2.ensures ∙ (λ j. c.loop-index.report ++ count_wrong (sym c.index-faces-index.is j).face_id (read j)))
