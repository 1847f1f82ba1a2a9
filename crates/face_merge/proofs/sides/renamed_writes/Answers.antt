use Rattle.face_merge.proofs.Allowing.{result_can}
use Rattle.face_merge.proofs.Renaming.{result_renames}
use Rattle.face_merge.proofs.sides.renamed_writes.Goals as goal

pub returns-clause-renamed : goal.returns-clause-renamed
returns-clause-renamed g c = result_renames c.args.edge.now c.args.gone.now c.args.kept c.args.tables.now.rows c.writes_of.result c.writes_of.ensures.writes

pub returns-clause-can : goal.returns-clause-can
returns-clause-can g c = result_can c.args.edge.now c.args.gone.now c.args.kept c.args.tables.now.rows c.writes_of.result c.writes_of.ensures.writes
