use Rattle.std.proofs.Common.{length}
use Rattle.table_dump.specs.Steps.{front_of}
use Rattle.table_dump.proofs.Dumps.{IsReadTo}
use Rattle.table_dump.proofs.read.read_tables.Given as goal

-- the lines in front are those of the rows that were read
abbrev pub invariant-loop-rest : goal.invariant-loop-rest
invariant-loop-rest l = IsReadTo l.fn.text l.rest l.line (front_of l.reading)

abbrev pub decreases-loop-rest : goal.decreases-loop-rest
decreases-loop-rest l = length l.rest
