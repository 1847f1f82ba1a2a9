use Rattle.std.proofs.Common.{◌≡◌, IsTrue, false, ℕ, List, Bool, ap, sym, subst, ◌∙◌}
use Rattle.topo_base.specs.declared.edit.Entry.{Entry}
use Rattle.history_model.specs.Answers.{Bounds}
use Rattle.history_model.specs.Legal.{is_legal}
use Rattle.topo.specs.Endings.{standard}
use Rattle.topo.specs.Running.{IsBegun}
use Rattle.topo.specs.Views.{SinkView, DiskView}
use Rattle.topo.proofs.Runs.{EndsOn, runs_on}
use Rattle.topo.proofs.apply.end_with_script.Goals as goal

pub returns : goal.returns
returns g c =
    let old : SinkView = record { written = g.K.Sink.written c.args.sink.now; faults = g.K.Sink.faults c.args.sink.now } in
    let new : SinkView = record { written = g.K.Sink.written c.end_run-status.new.sink; faults = g.K.Sink.faults c.end_run-status.new.sink } in
    let disk = c.args.desk.journal.disk in
    let left = c.into_disk.result in
    let before : DiskView = record { tells = g.D.Disk.tells; seen = g.D.Disk.seen disk; may_leave = g.D.Disk.may_leave disk; faults = g.D.Disk.faults disk } in
    let behind : DiskView = record { tells = g.D.Disk.tells; seen = g.D.Disk.seen left; may_leave = g.D.Disk.may_leave left; faults = g.D.Disk.faults left } in
    let read = c.args.desk.board.history in
    let r = c.new-run.result in
    let t = c.end_run-status.new.run in
    let begun : IsBegun read standard false before.faults r = subst (λ (b : Bool). IsBegun read standard b before.faults r) c.requires.sure (subst (λ (m : Bounds). IsBegun read m c.args.desk.journal.doubt before.faults r) c.requires.bounds c.new-run.ensures.begun) in
    let legal = subst (λ (m : Bounds). IsTrue (is_legal m.max_id m.max_journal read)) c.requires.bounds c.new-run.ensures.legal in
    let on : EndsOn read r t before behind = record { begun = begun; legal = legal; faults = c.into_disk.ensures.faults; left = c.into_disk.ensures.left } in
    runs_on read r t c.args.script.items old new before behind c.end_run-status.result on c.requires.good c.end_run-status.ensures
