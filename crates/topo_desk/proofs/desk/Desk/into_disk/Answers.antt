use Rattle.std.proofs.Common.{sym, subst}
use Rattle.topo_journal.specs.Kept.{Each}
use Rattle.topo_desk.specs.Left.{StandsOrDoubts}
use Rattle.topo_desk.proofs.Laid.{each_stands}
use Rattle.entry_codec.proofs.EditLaws.{entries_read}
use Rattle.topo_desk.proofs.desk.Desk.into_disk.Goals as goal

pub returns-clause-left : goal.returns-clause-left
returns-clause-left g c told =
    let D = g.D.Disk in let d = c.args.self in let b = d.board in
    subst (λ disk. Each (StandsOrDoubts b.bounds b.history d.journal.doubt) (D.seen disk) (D.may_leave disk)) (sym c.into_disk.ensures)
    (each_stands entries_read b.bounds b.history (D.seen d.journal.disk) (D.may_leave d.journal.disk) d.journal.gate d.journal.doubt d.small c.see_legal.ensures.spelled c.see_legal.ensures.legal
    (d.journal.sound told) (d.stands told) (d.doubted told))
