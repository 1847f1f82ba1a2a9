-- What contracts see of a board: its history, how far this may grow, and for what there is room.
use Rattle.std.specs.Prelude.{◌≡◌, ℕ, IsTrue, List}
use Rattle.std.specs.List.{list_all}
use Rattle.topo_base.specs.declared.edit.Entry.{Entry}
use Rattle.topo_base.specs.declared.limits.Limits.{Limits}
use Rattle.history_model.specs.Answers.{Bounds}
use Rattle.drawing.specs.InRange.{is_spelled}
use Rattle.history_model.specs.Legal.{is_legal, journal_length}
use Rattle.drawing.specs.Replay.{replay}
use Rattle.drawing.specs.Tables.{Tables, tables_of}
use Rattle.topo_tables.specs.Room.{Room}

pub record Boarded : Type 0 where
  pub history : List Entry
  pub bounds : Bounds
  pub row_room : Room
  pub entry_room : ℕ

abbrev pub bounds_of : Limits → Bounds
bounds_of limits = record { max_id = limits.max_id; max_journal = limits.max_journal }

-- the tables stand for the drawing of a legal history, whose journal has so many bytes, and whose entries can be spelled
pub record IsBoard (rows : Tables) (history : List Entry) (m : Bounds) (bytes : ℕ) : Type 0 where
  pub stands : rows ≡ tables_of (replay history)
  pub legal : IsTrue (is_legal m.max_id m.max_journal history)
  pub long : bytes ≡ journal_length history
  pub spelled : IsTrue (list_all is_spelled history)
