-- When an edit may be entered on a board, and why it may not.
use Rattle.std.specs.Prelude.{◌≡◌, ℕ, ◌<◌, nat_le, IsTrue, List, [], ◌∷◌, ◌++◌}
use Rattle.topo_base.specs.declared.answer.Answer.{Answer}
use Rattle.topo_base.specs.declared.answer.Answer.TheVariants.{Refused as IsRefused}
use Rattle.topo_base.specs.declared.edit.Entry.{Entry}
use Rattle.topo_base.specs.declared.element.Element.{Element}
use Rattle.topo_base.specs.declared.write.RowWrite.{RowWrite}
use Rattle.read_set.specs.Plans.{IsPlanFor}
use Rattle.read_set.specs.declared.end.PlanEnd.{PlanEnd}
use Rattle.read_set.specs.declared.end.PlanEnd.TheVariants.{Refused, Memory}
use Rattle.drawing.specs.InRange.{is_spelled}
use Rattle.history_model.specs.Legal.{is_legal, journal_length}
use Rattle.drawing.specs.Accepted.{ids_within}
use Rattle.drawing.specs.Replay.{replay, after}
use Rattle.history_model.specs.Spelling.{frame_bytes}
use Rattle.topo_tables.specs.Room.{HasRoom}
use Rattle.topo_desk.specs.Boarded.{Boarded}

-- the entry can be spelled, so, and is legal behind the history, and these writes and ids are right for its edit
pub record IsReadied (b : Boarded) (x : Entry) (ws : List RowWrite) (ids : List Element) (frame : List ℕ) : Type 0 where
  pub spelled : IsTrue (is_spelled x)
  pub framed : frame ≡ frame_bytes x
  pub planned : IsPlanFor (replay b.history) x.edit ws ids
  pub within : IsTrue (ids_within b.bounds.max_id (after (replay b.history) x.edit))
  pub fits : IsTrue (nat_le (journal_length (b.history ++ x ∷ [])) b.bounds.max_journal)
  pub legal : IsTrue (is_legal b.bounds.max_id b.bounds.max_journal (b.history ++ x ∷ []))

-- and there is room for the writes and for the entry
pub record IsPrepared (b : Boarded) (x : Entry) (ws : List RowWrite) (ids : List Element) (frame : List ℕ) : Type 0 where
  pub readied : IsReadied b x ws ids frame
  pub row_room : HasRoom b.row_room ws
  pub entry_room : 0 < b.entry_room

-- the edit is refused with this answer, or memory ran out
abbrev pub IsUnready : Answer → PlanEnd → Type 0
IsUnready answer (Refused rule front) = answer ≡ IsRefused rule front
IsUnready answer Memory = Unit {0}
