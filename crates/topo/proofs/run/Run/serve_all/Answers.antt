use Rattle.std.proofs.Common.{◌≡◌, ◌<◌, ◌≤◌, ◌+◌, ℕ, List, Bool, Result, Ok, Err, IsTrue, length, ap, sym, subst, ◌∙◌, arith}
use Rattle.std.specs.List.{list_all}
use Rattle.topo_base.specs.ScriptLines.{ScriptLine}
use Rattle.script_model.specs.NamedRange.{is_script_line}
use Rattle.topo.specs.declared.run.Stop.{Stop}
use Rattle.topo.specs.declared.run.Stop.TheVariants.{NoMemory}
use Rattle.topo.specs.Views.{SinkView}
use Rattle.topo.specs.Running.{AllReplied, SomeReplied, StopsAt}
use Rattle.topo.proofs.Loop.{so_more, ends_last, ends_unbound, ends_stopped, good_at}
use Rattle.topo.proofs.run.Run.serve_all.Goals as goal

pub serve-requires : goal.serve-requires
serve-requires g c =
    good_at is_script_line c.deref-line-items.result.now c.loop-at.at c.line-item.result (subst (λ (ls : List ScriptLine). IsTrue (list_all is_script_line ls)) (sym c.deref-line-items.ensures.value) c.requires) c.loop-at-test.true c.line-item.is

pub loop-at-preserved : goal.loop-at-preserved
loop-at-preserved g c =
    let old : SinkView = record { written = g.K.Sink.written c.args.sink.now; faults = g.K.Sink.faults c.args.sink.now } in
    let mid : SinkView = record { written = g.K.Sink.written c.loop-at.sink; faults = g.K.Sink.faults c.loop-at.sink } in
    let new : SinkView = record { written = g.K.Sink.written c.serve.new.sink; faults = g.K.Sink.faults c.serve.new.sink } in
    so_more c.args.self.now c.loop-at.self c.serve.new.self c.deref-line-items.result.now c.loop-at.at c.line-item.result old mid new c.in-Ok-true.field-0 c.loop-at-test.true c.line-item.is c.loop-at.invariant
    c.in-Ok-true.ensures c.in-Ok-true.field-0-test

pub returns-then-at-len : goal.returns-then-at-len
returns-then-at-len g c =
    let old : SinkView = record { written = g.K.Sink.written c.args.sink.now; faults = g.K.Sink.faults c.args.sink.now } in
    let mid : SinkView = record { written = g.K.Sink.written c.loop-at.sink; faults = g.K.Sink.faults c.loop-at.sink } in
    let new : SinkView = record { written = g.K.Sink.written c.serve.new.sink; faults = g.K.Sink.faults c.serve.new.sink } in
    let ls = c.deref-line-items.result.now in
    let more = c.if-at-len.true in
    let count = c.len.ensures in
    let same = ap length c.deref-line-items.ensures.value in
    subst (λ (ks : List ScriptLine). SomeReplied c.args.self.now ks c.serve.new.self old new) c.deref-line-items.ensures.value
    (ends_unbound c.args.self.now c.loop-at.self c.serve.new.self ls c.loop-at.at c.line-item.result old mid new c.in-Ok-false.field-0 c.loop-at-test.true c.line-item.is (omega (arith, more, count, same)) c.loop-at.invariant
    c.in-Ok-false.ensures)

pub returns-in-Ok-false : goal.returns-in-Ok-false
returns-in-Ok-false g c =
    let old : SinkView = record { written = g.K.Sink.written c.args.sink.now; faults = g.K.Sink.faults c.args.sink.now } in
    let mid : SinkView = record { written = g.K.Sink.written c.loop-at.sink; faults = g.K.Sink.faults c.loop-at.sink } in
    let new : SinkView = record { written = g.K.Sink.written c.serve.new.sink; faults = g.K.Sink.faults c.serve.new.sink } in
    let ls = c.deref-line-items.result.now in
    let last = c.if-at-len.false in
    let count = c.len.ensures in
    let same = ap length c.deref-line-items.ensures.value in
    subst (λ (ks : List ScriptLine). AllReplied c.args.self.now ks c.serve.new.self old new) c.deref-line-items.ensures.value
    (ends_last {A = Bool} c.in-Ok-false.field-0 c.args.self.now c.loop-at.self c.serve.new.self ls c.loop-at.at c.line-item.result old mid new c.in-Ok-false.field-0 c.loop-at-test.true c.line-item.is (omega (arith, last, count, same)) c.loop-at.invariant
    c.in-Ok-false.ensures)

pub returns-in-Err : goal.returns-in-Err
returns-in-Err g c =
    let old : SinkView = record { written = g.K.Sink.written c.args.sink.now; faults = g.K.Sink.faults c.args.sink.now } in
    let mid : SinkView = record { written = g.K.Sink.written c.loop-at.sink; faults = g.K.Sink.faults c.loop-at.sink } in
    let new : SinkView = record { written = g.K.Sink.written c.serve.new.sink; faults = g.K.Sink.faults c.serve.new.sink } in
    subst (λ (ks : List ScriptLine). StopsAt c.args.self.now ks c.serve.new.self old new c.in-Err.stop) c.deref-line-items.ensures.value
    (ends_stopped c.args.self.now c.loop-at.self c.serve.new.self c.deref-line-items.result.now c.loop-at.at c.line-item.result old mid new c.in-Err.stop c.loop-at-test.true c.line-item.is c.loop-at.invariant c.in-Err.ensures)
