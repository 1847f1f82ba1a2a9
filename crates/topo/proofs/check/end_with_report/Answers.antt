use Rattle.topo.specs.Endings.{reported}
use Rattle.topo.proofs.check.end_with_report.Goals as goal

pub returns-in-Ok : goal.returns-in-Ok
returns-in-Ok g c = reported _ (record { is = c.in-Ok.ensures.lines; plain = c.in-Ok.ensures.plain; rings = c.in-Ok.ensures.rings; shells = c.in-Ok.ensures.shells }) c.end_with_lines.ensures
