use Rattle.drawing.proofs.TableLemmas.{drawn-tables_of}
use Rattle.drawing.proofs.laws.tables_law.Goals as goal

pub returns : goal.returns
returns c = drawn-tables_of
