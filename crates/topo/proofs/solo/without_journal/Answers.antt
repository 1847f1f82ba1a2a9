use Rattle.std.proofs.Common.{◌≡◌, ◌∙◌, ℕ, true, false, refl, sym, subst}
use Rattle.std.specs.Prelude.{codes}
use Rattle.topo.specs.Endings.{Checked, bad_words, checks}
use Rattle.topo.specs.Output.{Says}
use Rattle.topo.specs.Views.{SinkView, SourceView}
use Rattle.topo.proofs.solo.without_journal.Goals as goal

pub returns-then-is_check : goal.returns-then-is_check
returns-then-is_check g c =
    let from : SourceView = record { left = g.S.Source.left c.args.source.now; faults = g.S.Source.faults c.args.source.now } in
    let to : SourceView = record { left = g.S.Source.left c.check.new.source; faults = g.S.Source.faults c.check.new.source } in
    let old : SinkView = record { written = g.K.Sink.written c.args.sink.now; faults = g.K.Sink.faults c.args.sink.now } in
    let new : SinkView = record { written = g.K.Sink.written c.check.new.sink; faults = g.K.Sink.faults c.check.new.sink } in
    checks (c.is_check.ensures.0 c.if-is_check.true) c.of.ensures.1 (subst (λ (s : ℕ). Checked from to old new s) (sym c.of.ensures.0) c.check.ensures)

pub returns : goal.returns
returns g c =
    let old : SinkView = record { written = g.K.Sink.written c.args.sink.now; faults = g.K.Sink.faults c.args.sink.now } in
    let new : SinkView = record { written = g.K.Sink.written c.end_with.new.sink; faults = g.K.Sink.faults c.end_with.new.sink } in
    bad_words c.requires
    (λ is. let both : true ≡ false = sym (c.is_check.ensures.1 is) ∙ c.if-is_check.false in cc)
    c.of-2.ensures.1 refl (subst (λ (s : ℕ). Says old new (codes "fault words\n") 2 s) (sym c.of-2.ensures.0) c.end_with.ensures)
