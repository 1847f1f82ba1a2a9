-- Step: what each edit does to a drawing, or the rule that refuses it.
use Rattle.topo_base.specs.declared.edit.Edit.{Edit}
use Rattle.drawing.specs.Drawing.{Drawing}
use Rattle.drawing.specs.Outcome.{Outcome}
use Rattle.drawing.specs.Apply.{carried_out}
use Rattle.drawing.specs.Decide.{decide}

abbrev pub step : Drawing → Edit → Outcome
step S e = carried_out S (decide S e)
