use Rattle.validate_topology.proofs.Sweeping.{level}
use Rattle.validate_topology.proofs.sweep.level_conflict.Goals as goal

pub returns-else-is_level_with : goal.returns-else-is_level_with
returns-else-is_level_with g c = level c.args.one.now c.args.other.now c.is_level_with.result c.is_level_with.ensures c.if-is_level_with.false
