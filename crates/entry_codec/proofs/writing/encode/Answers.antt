use Rattle.entry_codec.proofs.Lengths.{short_entry}
use Rattle.entry_codec.proofs.writing.encode.Goals as goal

pub returns-clause-short : goal.returns-clause-short
returns-clause-short c = short_entry c.args.entry.now c.requires c.in_ok-put_edit.ensures.good
