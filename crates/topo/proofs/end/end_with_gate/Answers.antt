use Rattle.std.proofs.Common.{ℕ, List, ◌++◌, ap, subst, ◌∙◌}
use Rattle.topo.specs.Output.{Says, says, journal_line}
use Rattle.topo.specs.Views.{SinkView}
use Rattle.topo.proofs.end.end_with_gate.Goals as goal

pub returns : goal.returns
returns g c =
    let old : SinkView = record { written = g.K.Sink.written c.args.sink.now; faults = g.K.Sink.faults c.args.sink.now } in
    let new : SinkView = record { written = g.K.Sink.written c.end_with.new.sink; faults = g.K.Sink.faults c.end_with.new.sink } in
    let line = c.as_bytes.ensures ∙ c.in-Ok.ensures ∙ ap (λ (l : List ℕ). l ++ journal_line c.args.offset) c.new-text.ensures in
    says (subst (λ (text : List ℕ). Says old new text 4 c.end_with.result) line c.end_with.ensures)
