-- What contracts see of a draft.
use Rattle.std.specs.Prelude.{◌≡◌, Bool, true, false, List}
use Rattle.topo_base.specs.declared.write.RowWrite.{RowWrite}
use Rattle.topo_base.specs.declared.write.RowWrite.TheVariants.{AddEdge, SetLine, AddLayer}
use Rattle.drawing.specs.Drawing.{Drawing}
use Rattle.drawing.specs.Tables.{Tables, tables_of}
use Rattle.drawing.specs.Writable.{CanWriteAll}
use Rattle.drawing.specs.Writes.{all_written}

-- the rows after the writes, and the writes in order
pub record Drafted : Type 0 where
  pub rows : Tables
  pub writes : List RowWrite

-- the writes may be made on the tables of the drawing, one after the other, and these are the rows that they leave
pub record IsDraftOf (S : Drawing) (d : Drafted) : Type 0 where
  pub writable : CanWriteAll S.next_ids (tables_of S) d.writes
  pub rows : d.rows ≡ all_written S.next_ids (tables_of S) d.writes

-- a write that has neither a line nor a name
abbrev pub is_flat : RowWrite → Bool
is_flat (AddEdge edge start end next_left next_right left right line) = false
is_flat (SetLine edge start end line) = false
is_flat (AddLayer layer level child kind name) = false
is_flat _ = true
