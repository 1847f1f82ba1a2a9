-- What a reader of the code answers.
use Rattle.std.specs.Prelude.{◌≡◌, ℕ, ◌≤◌, IsTrue, List, ◌++◌, length, drop, Option, Some, None, Result, Ok, Err}
use Rattle.topo_base.specs.declared.edit.Entry.{Entry}
use Rattle.drawing.specs.InRange.{is_spelled}
use Rattle.history_model.specs.Spelling.{entry_bytes}
use Rattle.entry_codec.specs.declared.ends.CodecEnd.{CodecEnd}
use Rattle.entry_codec.specs.declared.ends.CodecEnd.TheVariants.{NoEntry, Memory}

-- what was answered, seen by view, is what the grammar reads, unless memory ran out
abbrev pub Fails : {Y : Type 0} → CodecEnd → Option Y → Type 0
Fails Memory read = Unit {0}
Fails NoEntry read = read ≡ None

abbrev pub Gives : {X Y : Type 0} → (X → Y) → Result X CodecEnd → Option Y → Type 0
Gives view (Ok x) read = read ≡ Some (view x)
Gives view (Err e) read = Fails e read

-- the first so many bytes are the spelling of this entry
pub record IsInFront (bytes : List ℕ) (x : Entry) (size : ℕ) : Type 0 where
  pub spelled : IsTrue (is_spelled x)
  pub size_is : size ≡ length (entry_bytes x)
  pub within : size ≤ length bytes
  pub laid : bytes ≡ entry_bytes x ++ drop size bytes
