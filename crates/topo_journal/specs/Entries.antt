-- How a journal of bodies is a journal of entries.
use Rattle.std.specs.Prelude.{◌≡◌, ℕ, Bool, false, IsTrue, List, [], ◌∷◌, map, Option, Some, None, option_and_then}
use Rattle.std.specs.List.{list_all}
use Rattle.topo_base.specs.declared.edit.Entry.{Entry}
use Rattle.drawing.specs.Replay.{replay}
use Rattle.history_model.specs.Legal.{is_legal}
use Rattle.drawing.specs.InRange.{is_spelled}
use Rattle.history_model.specs.Spelling.{entry_bytes, frame_bytes}
use Rattle.history_model.specs.Answers.{Bounds}
use Rattle.history_model.specs.Journal.{may_stand, StandsFor, IsBadAt}
use Rattle.entry_codec.specs.Reading.{entry_in}
use Rattle.topo_journal.specs.Bytes.{Legal, AreLegal, Stands, read, Bad}
use Rattle.topo_journal.specs.Kept.{AreBytes, IsFrame, body_in, gate_behind}

-- the bodies of these entries
abbrev pub spellings : List Entry → List (List ℕ)
spellings history = map entry_bytes history

-- each of the entries can be spelled
abbrev pub AreSpelled : List Entry → Type 0
AreSpelled history = IsTrue (list_all is_spelled history)

-- the entry can be spelled, and may stand behind these
abbrev pub MayFollow : Bounds → List Entry → Entry → Type 0
MayFollow m history x = IsTrue (is_spelled x) × IsTrue (may_stand m (replay history) (gate_behind (spellings history)) x)

-- the entries whose spellings these bodies are
abbrev pub entries_in : List (List ℕ) → Option (List Entry)
entries_in [] = Some []
entries_in (body ∷ bodies) = option_and_then (λ x. option_and_then (λ xs. Some (x ∷ xs)) (entries_in bodies)) (entry_in body)

-- an entry is there, and it may stand behind these bodies of a history
abbrev pub is_next : Bounds → List (List ℕ) → Option (List Entry) → Option Entry → Bool
is_next m bodies None x = false
is_next m bodies (Some history) None = false
is_next m bodies (Some history) (Some x) = may_stand m (replay history) (gate_behind bodies) x

-- the test of a journal of entries: the bodies before are spellings of entries, and this one of an entry that may stand behind them
unfoldable pub legal_entry : Bounds → Legal
legal_entry m before body = is_next m before (entries_in before) (entry_in body)

-- by this test bytes stand for bodies exactly where they stand for the entries that these spell
pub record ReadsEntries (m : Bounds) (legal : Legal) : Type 0 where
  pub stands : (bytes : List ℕ) (history : List Entry) → StandsFor m bytes history → Stands legal bytes (spellings history)
  pub entries : (bytes : List ℕ) (bodies : List (List ℕ)) → AreBytes bytes → Stands legal bytes bodies
      → (history : List Entry) × (spellings history ≡ bodies) × StandsFor m bytes history
  pub bad : (bytes : List ℕ) (offset : ℕ) → AreBytes bytes → IsBadAt m bytes offset → read legal bytes ≡ Bad offset
  pub offset : (bytes : List ℕ) (offset : ℕ) → AreBytes bytes → read legal bytes ≡ Bad offset → IsBadAt m bytes offset
  pub legal_history : (history : List Entry) → AreSpelled history → IsTrue (is_legal m.max_id m.max_journal history) → AreLegal legal (spellings history)

-- the frame of an entry is one that an append takes, and its body is the entry's spelling
abbrev pub IsEntryFrame : Entry → Type 0
IsEntryFrame x = IsFrame (frame_bytes x) × (body_in (frame_bytes x) ≡ entry_bytes x)
