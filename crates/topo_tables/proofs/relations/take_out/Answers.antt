use Rattle.std.proofs.Common.{rules, tests, not}
use Rattle.std.proofs.lemmas.Fn.{filter_same}
use Rattle.drawing.specs.Relations.{same_row}
use Rattle.topo_tables.proofs.relations.take_out.Goals as goal

pub returns-clause-rows : goal.returns-clause-rows
returns-clause-rows c = filter_same _ (λ r. not (same_row c.args.row r)) _ (λ x b q k. search (rules, tests)) _ _ c.retain.ensures.filtered
