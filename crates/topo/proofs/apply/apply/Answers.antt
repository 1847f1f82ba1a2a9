use Rattle.std.proofs.Common.{◌≡◌, ◌≤◌, ℕ, List, Err, ap, sym, subst, length}
use Rattle.script_model.specs.NamedRange.{is_script_line}
use Rattle.script_model.specs.Script.{IsScript, IsFirstBad, lines_of, edit_lines}
use Rattle.script_model.proofs.Scripts.{script_spelled}
use Rattle.topo.specs.Endings.{max_source, had_script, bad_line}
use Rattle.topo.specs.Output.{Tells, fault_line}
use Rattle.topo.specs.Views.{SinkView}
use Rattle.topo.proofs.Statuses.{whole_at}
use Rattle.topo.proofs.apply.apply.Goals as goal

pub run_script-requires : goal.run_script-requires
run_script-requires g c = script_spelled is_script_line (edit_lines (lines_of c.deref.result.now)) c.in-Ok-read_script.script.items c.in-Ok-read_script.ensures.script

pub returns-in-Ok-read_script : goal.returns-in-Ok-read_script
returns-in-Ok-read_script g c =
    let es = c.in-Ok-read_script.script.items in
    let read = c.in-Ok.bytes.items in
    let spelled = subst (λ (bs : List ℕ). IsScript is_script_line bs es) c.deref.ensures.value c.in-Ok-read_script.ensures.script in
    had_script es
    (record {
      told = whole_at (λ bs. IsScript is_script_line bs es) _ read c.in-Ok.ensures.whole spelled;
      short = whole_at (λ bs. length bs ≤ max_source) _ read c.in-Ok.ensures.whole c.in-Ok.ensures.short;
      ended = c.in-Ok.ensures.end;
      calm = c.in-Ok.ensures.kept;
    })
    c.run_script.ensures

pub returns : goal.returns
returns g c =
    let old : SinkView = record { written = g.K.Sink.written c.args.sink.now; faults = g.K.Sink.faults c.args.sink.now } in
    let new : SinkView = record { written = g.K.Sink.written c.end_with_line.new.sink; faults = g.K.Sink.faults c.end_with_line.new.sink } in
    let n = c.in-Err-BadLine.line in
    let read = c.in-Ok.bytes.items in
    let bad = subst (λ (bs : List ℕ). IsFirstBad is_script_line bs n) c.deref.ensures.value (c.in-Err-BadLine.ensures.bad n (ap Err c.in-Err-BadLine.field-0-is)) in
    bad_line c.of-in-Err-BadLine.ensures.1 n
    (record {
      told = whole_at (λ bs. IsFirstBad is_script_line bs n) _ read c.in-Ok.ensures.whole bad;
      short = whole_at (λ bs. length bs ≤ max_source) _ read c.in-Ok.ensures.whole c.in-Ok.ensures.short;
      ended = c.in-Ok.ensures.end;
      calm = c.in-Ok.ensures.kept;
    })
    (subst (λ (s : ℕ). Tells old new (fault_line n) 3 s) (sym c.of-in-Err-BadLine.ensures.0) c.end_with_line.ensures)
