use Rattle.topo_journal.specs.Entries.{legal_entry}
use Rattle.topo_journal.proofs.EntryFrames.{entry_frame}
use Rattle.topo_journal.proofs.EntryTests.{tests_entries, follows}
use Rattle.topo_journal.proofs.EntryJournals.{reads_entries}
use Rattle.topo_journal.proofs.laws.entries_law.Goals as goal

pub returns : goal.returns
returns c = record { reads = λ m small. reads_entries m (legal_entry m) small (tests_entries m); follows = follows; frames = entry_frame }
