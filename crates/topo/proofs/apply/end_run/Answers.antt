use Rattle.std.proofs.Common.{◌≡◌, ℕ, Bool, Result, Ok, Err, ap, subst, sym, ◌∙◌, inl, inr}
use Rattle.topo_io.specs.Causes.{Rose}
use Rattle.drawing.specs.Replay.{replay}
use Rattle.script_model.specs.Texts.{tables_text}
use Rattle.topo.specs.declared.run.Stop.{Stop}
use Rattle.topo.specs.Output.{Prints}
use Rattle.topo.specs.Views.{SinkView}
use Rattle.topo.specs.Running.{StopsAt, whole_status}
use Rattle.topo.proofs.Ends.{runs_whole, runs_short, runs_cut}
use Rattle.topo.proofs.apply.end_run.Goals as goal

pub returns-in-Ok : goal.returns-in-Ok
returns-in-Ok g c =
    let old : SinkView = record { written = g.K.Sink.written c.args.sink.now; faults = g.K.Sink.faults c.args.sink.now } in
    let mid : SinkView = record { written = g.K.Sink.written c.serve_all.new.sink; faults = g.K.Sink.faults c.serve_all.new.sink } in
    let new : SinkView = record { written = g.K.Sink.written c.end_with_tables.new.sink; faults = g.K.Sink.faults c.end_with_tables.new.sink } in
    let t = c.serve_all.new.self in
    let status = c.whole_status-status.ensures ∙ (λ i. whole_status (c.has_failed.ensures i) (c.all_done.ensures i)) in
    runs_whole c.args.run.now t c.args.script.items old mid new c.end_with_tables.result c.in-Ok.ensures
    (subst (λ (s : ℕ). Prints mid new (tables_text (replay t.history)) s c.end_with_tables.result) status c.end_with_tables.ensures)

pub returns-in-Err-NoMemory : goal.returns-in-Err-NoMemory
returns-in-Err-NoMemory g c =
    let old : SinkView = record { written = g.K.Sink.written c.args.sink.now; faults = g.K.Sink.faults c.args.sink.now } in
    let mid : SinkView = record { written = g.K.Sink.written c.serve_all.new.sink; faults = g.K.Sink.faults c.serve_all.new.sink } in
    let new : SinkView = record { written = g.K.Sink.written c.end_short.new.sink; faults = g.K.Sink.faults c.end_short.new.sink } in
    let t = c.serve_all.new.self in
    let stop = subst (λ (s : Stop). StopsAt c.args.run.now c.args.script.items t old mid s) c.in-Err-NoMemory.field-0-is c.in-Err-NoMemory.ensures in
    runs_short c.args.run.now t c.args.script.items old mid new c.end_short.result stop c.end_short.ensures

pub returns-in-Err-NoText : goal.returns-in-Err-NoText
returns-in-Err-NoText g c =
    let old : SinkView = record { written = g.K.Sink.written c.args.sink.now; faults = g.K.Sink.faults c.args.sink.now } in
    let mid : SinkView = record { written = g.K.Sink.written c.serve_all.new.sink; faults = g.K.Sink.faults c.serve_all.new.sink } in
    let t = c.serve_all.new.self in
    let stop = subst (λ (s : Stop). StopsAt c.args.run.now c.args.script.items t old mid s) c.in-Err-NoText.field-0-is c.in-Err-NoText.ensures in
    runs_cut c.args.run.now t c.args.script.items old mid _ c.of.result stop (inr c.of.ensures)

pub returns-in-Err-Fault : goal.returns-in-Err-Fault
returns-in-Err-Fault g c =
    let old : SinkView = record { written = g.K.Sink.written c.args.sink.now; faults = g.K.Sink.faults c.args.sink.now } in
    let mid : SinkView = record { written = g.K.Sink.written c.serve_all.new.sink; faults = g.K.Sink.faults c.serve_all.new.sink } in
    let t = c.serve_all.new.self in
    let stop = subst (λ (s : Stop). StopsAt c.args.run.now c.args.script.items t old mid s) c.in-Err-Fault.field-0-is c.in-Err-Fault.ensures in
    runs_cut c.args.run.now t c.args.script.items old mid _ c.of-in-Err-Fault.result stop (inl (c.of-in-Err-Fault.ensures, stop.cause))
