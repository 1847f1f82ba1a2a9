use Rattle.std.proofs.Common.{refl, inl}
use Rattle.std.specs.Prelude.{codes}
use Rattle.topo_io.proofs.Written.{front_longer}
use Rattle.drawing.specs.Replay.{replay}
use Rattle.script_model.specs.Texts.{tables_text}
use Rattle.topo.specs.Output.{print_cut}
use Rattle.topo.specs.Views.{SinkView}
use Rattle.topo.proofs.Ends.{prints_then}
use Rattle.topo.proofs.apply.end_short.Goals as goal

pub returns-in-Ok : goal.returns-in-Ok
returns-in-Ok g c =
    let old : SinkView = record { written = g.K.Sink.written c.args.sink.now; faults = g.K.Sink.faults c.args.sink.now } in
    let mid : SinkView = record { written = g.K.Sink.written c.write_all.new.sink; faults = g.K.Sink.faults c.write_all.new.sink } in
    let new : SinkView = record { written = g.K.Sink.written c.end_with_tables.new.sink; faults = g.K.Sink.faults c.end_with_tables.new.sink } in
    prints_then old mid new (codes "memory\n") (tables_text (replay c.args.run.now.history)) 8 c.end_with_tables.result c.in-Ok.ensures.ok c.in-Ok.ensures.cause.kept c.end_with_tables.ensures

pub returns-in-Err : goal.returns-in-Err
returns-in-Err g c =
    print_cut (inl (c.of.ensures, c.in-Err.ensures.cause.failed))
    (front_longer _ _ (codes "memory\n") (tables_text (replay c.args.run.now.history)) _ c.in-Err.ensures.err refl)
