use Rattle.std.proofs.Common.{◌≡◌, ℕ, List, sym, subst, ◌∙◌}
use Rattle.topo_base.specs.declared.edit.Entry.{Entry}
use Rattle.topo_desk.specs.Boarded.{bounds_of}
use Rattle.history_model.specs.Answers.{Bounds}
use Rattle.history_model.specs.Journal.{StandsFor, IsBadAt}
use Rattle.topo_recover.specs.Recovered.{IsKept}
use Rattle.topo.specs.Endings.{standard, RunsOn, ran, nothing_read, WasRecovered}
use Rattle.topo.specs.Views.{SinkView, DiskView}
use Rattle.topo.proofs.Runs.{rebased, unread}
use Rattle.topo.proofs.apply.run_script.Goals as goal

pub returns-in-Ok : goal.returns-in-Ok
returns-in-Ok g c =
    let old : SinkView = record { written = g.K.Sink.written c.args.sink.now; faults = g.K.Sink.faults c.args.sink.now } in
    let new : SinkView = record { written = g.K.Sink.written c.end_with_script.new.sink; faults = g.K.Sink.faults c.end_with_script.new.sink } in
    let left = c.end_with_script.result.disk in
    let behind : DiskView = record { tells = g.D.Disk.tells; seen = g.D.Disk.seen left; may_leave = g.D.Disk.may_leave left; faults = g.D.Disk.faults left } in
    let disk = c.in-Ok.desk.journal.disk in
    let read = c.in-Ok.desk.board.history in
    let limits : bounds_of c.standard.result ≡ standard = λ i. record { max_id = c.standard.ensures.ids i; max_journal = c.standard.ensures.journal i } in
    ran read (λ told. subst (λ (m : Bounds). StandsFor m (g.D.Disk.seen c.args.disk) read) limits (c.in-Ok.ensures.history told))
    (rebased read c.args.script.items old new g.D.Disk.tells (g.D.Disk.seen disk) (g.D.Disk.seen c.args.disk) (g.D.Disk.may_leave disk) (g.D.Disk.may_leave c.args.disk) (g.D.Disk.faults disk) (g.D.Disk.faults c.args.disk) behind
    c.end_with_script.result.status c.in-Ok.ensures.calm c.end_with_script.ensures)

pub returns-in-Err : goal.returns-in-Err
returns-in-Err g c =
    let old : SinkView = record { written = g.K.Sink.written c.args.sink.now; faults = g.K.Sink.faults c.args.sink.now } in
    let new : SinkView = record { written = g.K.Sink.written c.end_unread.new.sink; faults = g.K.Sink.faults c.end_unread.new.sink } in
    let before : DiskView = record { tells = g.D.Disk.tells; seen = g.D.Disk.seen c.args.disk; may_leave = g.D.Disk.may_leave c.args.disk; faults = g.D.Disk.faults c.args.disk } in
    let limits : bounds_of c.standard.result ≡ standard = λ i. record { max_id = c.standard.ensures.ids i; max_journal = c.standard.ensures.journal i } in
    let ends = λ (d : g.row.D.Denot) (s : ℕ). RunsOn c.args.script.items (g.D.Disk.tells → IsKept g.D.Disk.pending g.D.Disk.moment g.D.Disk.seen g.D.Disk.may_leave g.D.Disk.left_since standard c.args.disk d) old new before
    (record { tells = g.D.Disk.tells; seen = g.D.Disk.seen d; may_leave = g.D.Disk.may_leave d; faults = g.D.Disk.faults d }) s in
    let d = c.in-Err.disk in
    let kept = λ (told : g.D.Disk.tells). subst (λ (m : Bounds). IsKept g.D.Disk.pending g.D.Disk.moment g.D.Disk.seen g.D.Disk.may_leave g.D.Disk.left_since m c.args.disk d) limits (c.in-Err.ensures.kept_err told) in
    let none = unread old new before (record { tells = g.D.Disk.tells; seen = g.D.Disk.seen d; may_leave = g.D.Disk.may_leave d; faults = g.D.Disk.faults d }) c.end_unread.result c.in-Err.end
    (λ offset is told. subst (λ (m : Bounds). IsBadAt m (g.D.Disk.seen c.args.disk) offset) limits (c.in-Err.ensures.bad told offset is)) c.in-Err.ensures.fault c.in-Err.ensures.calm_err c.end_unread.ensures in
    subst (ends c.of.result.disk) (sym c.of.ensures.0) (subst (λ (x : g.row.D.Denot). ends x c.end_unread.result) (sym c.of.ensures.1) (nothing_read kept none))
