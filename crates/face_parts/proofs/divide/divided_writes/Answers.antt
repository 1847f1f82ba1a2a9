use Rattle.face_parts.proofs.Allowing.{result_divides, result_can}
use Rattle.face_parts.proofs.divide.divided_writes.Goals as goal

pub returns-clause-divided : goal.returns-clause-divided
returns-clause-divided g c = result_divides c.args.parts.now c.args.cut.now c.args.tables.now.rows c.args.content.now c.writes_of.result c.writes_of.ensures.writes

pub returns-clause-can : goal.returns-clause-can
returns-clause-can g c = result_can c.args.parts.now c.args.cut.now c.args.tables.now.rows c.args.content.now c.writes_of.result c.writes_of.ensures.writes
