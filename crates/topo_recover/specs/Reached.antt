-- What is known of a journal's bytes while its gates are read one after another.
use Rattle.std.specs.Prelude.{◌≡◌, ◌≢◌, ℕ, List, [], ◌++◌, take, drop, slice_index, Result, IsErrOf}
use Rattle.topo_base.specs.declared.edit.Entry.{Entry}
use Rattle.topo_io.specs.Causes.{Rose}
use Rattle.drawing.specs.Replay.{replay}
use Rattle.history_model.specs.Answers.{Bounds}
use Rattle.history_model.specs.Journal.{AreEntries, IsBadAfter, IsNoJournalYet, StandsFor, IsBadAt}
use Rattle.topo_journal.specs.Bytes.{frames, opening}
use Rattle.topo_journal.specs.Entries.{spellings}
use Rattle.topo_recover.specs.declared.end.RecoverEnd.{RecoverEnd}
use Rattle.topo_recover.specs.declared.end.RecoverEnd.TheVariants.{DiskFault}
use Rattle.topo_recover.specs.declared.header.Header.{Header}
use Rattle.topo_recover.specs.declared.header.Header.TheVariants.{NotYet, Open, Bad}

-- the history stands before the gate at this offset, and what stands from there on decides what all the bytes stand for
pub record IsReadTo (m : Bounds) (bytes : List ℕ) (gate : ℕ) (history : List Entry) : Type 0 where
  pub format : slice_index bytes 6 ≢ 2
  pub front : take gate bytes ≡ opening (slice_index bytes 6) ++ frames (spellings history)
  pub stands : (xs : List Entry) → AreEntries m (replay history) gate (drop gate bytes) xs → StandsFor m bytes (history ++ xs)
  pub bad : (xs : List Entry) (offset : ℕ) → IsBadAfter m (replay history) gate (drop gate bytes) xs offset → IsBadAt m bytes offset

-- what a header says of the bytes behind it
abbrev pub IsHeader : Header → List ℕ → Type 0
IsHeader NotYet bytes = IsNoJournalYet bytes
IsHeader Open bytes = (m : Bounds) → IsReadTo m bytes 7 []
IsHeader Bad bytes = (m : Bounds) → IsBadAt m bytes 0

-- how a disk's count of faults moves in a call that ends so
pub record HasEnded {T : Type 0} (before now : ℕ) (result : Result T RecoverEnd) : Type 0 where
  pub fault : IsErrOf result DiskFault → Rose before now
  pub calm : (IsErrOf result DiskFault → ⊥) → now ≡ before
