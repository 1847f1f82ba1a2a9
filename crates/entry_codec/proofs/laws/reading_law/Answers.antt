use Rattle.entry_codec.proofs.EditLaws.{entries_read, fronts_read}
use Rattle.entry_codec.proofs.laws.reading_law.Goals as goal

pub returns : goal.returns
returns c = record { entries = entries_read; fronts = fronts_read }
