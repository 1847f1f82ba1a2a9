use Rattle.table_dump.proofs.Dumps.{dumps_apart, dumps_good, printed_back}
use Rattle.table_dump.proofs.laws.dump_law.Goals as goal

pub returns : goal.returns
returns c = record { apart = dumps_apart; good = dumps_good; printed = printed_back }
