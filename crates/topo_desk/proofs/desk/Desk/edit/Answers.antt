use Rattle.std.proofs.Common.{true, List, subst}
use Rattle.topo_base.specs.declared.edit.Entry.{Entry}
use Rattle.entry_codec.proofs.EditLaws.{entries_read}
use Rattle.history_model.specs.Answers.{Bounds}
use Rattle.topo_disk.specs.Disk.{LeavesOnly}
use Rattle.topo_journal.specs.Kept.{AreBytes}
use Rattle.topo_desk.specs.Left.{StandsOrDoubts}
use Rattle.topo_desk.proofs.Laid.{each_stands}
use Rattle.topo_desk.proofs.Moments.{still_leaves, still_stands}
use Rattle.topo_desk.proofs.desk.Desk.edit.Goals as goal

pub returns-in-Ok-clause-any_moment : goal.returns-in-Ok-clause-any_moment
returns-in-Ok-clause-any_moment g c told =
    let D = g.D.Disk in let b = c.args.self.now.board in
    subst (λ (m : Bounds). LeavesOnly D.moment D.left_since c.args.self.now.journal.disk c.enter.new.self.journal.disk (λ f. AreBytes f → StandsOrDoubts m b.history true f)) c.prepare.ensures.bounds
    (subst (λ (h : List Entry). LeavesOnly D.moment D.left_since c.args.self.now.journal.disk c.enter.new.self.journal.disk (λ f. AreBytes f → StandsOrDoubts c.prepare.new.self.bounds h true f))
    c.prepare.ensures.history (c.enter.ensures.any_moment told))

pub returns-in-Err-Refused-clause-any_moment : goal.returns-in-Err-Refused-clause-any_moment
returns-in-Err-Refused-clause-any_moment g c told =
    let D = g.D.Disk in let d = c.args.self.now in let b = d.board in
    still_leaves D.moment D.left_since d.journal.disk (D.may_leave d.journal.disk) _ (λ f left. g.met.D.Disk.only_now d.journal.disk f told left)
    (still_stands b.bounds b.history d.journal.doubt (D.seen d.journal.disk) (D.may_leave d.journal.disk)
    (each_stands entries_read b.bounds b.history (D.seen d.journal.disk) (D.may_leave d.journal.disk) d.journal.gate d.journal.doubt d.small c.see_legal.ensures.spelled c.see_legal.ensures.legal
    (d.journal.sound told) (d.stands told) (d.doubted told)))

pub returns-in-Err-Memory-clause-any_moment : goal.returns-in-Err-Memory-clause-any_moment
returns-in-Err-Memory-clause-any_moment g c told =
    let D = g.D.Disk in let d = c.args.self.now in let b = d.board in
    still_leaves D.moment D.left_since d.journal.disk (D.may_leave d.journal.disk) _ (λ f left. g.met.D.Disk.only_now d.journal.disk f told left)
    (still_stands b.bounds b.history d.journal.doubt (D.seen d.journal.disk) (D.may_leave d.journal.disk)
    (each_stands entries_read b.bounds b.history (D.seen d.journal.disk) (D.may_leave d.journal.disk) d.journal.gate d.journal.doubt d.small c.see_legal.ensures.spelled c.see_legal.ensures.legal
    (d.journal.sound told) (d.stands told) (d.doubted told)))
