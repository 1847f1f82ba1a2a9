use Rattle.script_model.proofs.EditsReading.{edits_read_back}
use Rattle.script_model.proofs.laws.words_law.Goals as goal

pub returns : goal.returns
returns c = edits_read_back
