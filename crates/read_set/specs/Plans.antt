-- What a plan promises: row writes and reply ids that are right for an edit.
use Rattle.std.specs.Prelude.{◌≡◌, List, Ok}
use Rattle.topo_base.specs.declared.edit.Edit.{Edit}
use Rattle.topo_base.specs.declared.element.Element.{Element}
use Rattle.topo_base.specs.declared.write.RowWrite.{RowWrite}
use Rattle.drawing.specs.Drawing.{Drawing}
use Rattle.drawing.specs.Outcome.{Accepted, Outcome}
use Rattle.drawing.specs.Step.{step}
use Rattle.drawing.specs.Tables.{tables_of}
use Rattle.drawing.specs.Writes.{all_written}
use Rattle.drawing.specs.Writable.{CanWriteAll}

-- the outcome is that the edit is accepted with these ids; on the drawing's tables the writes may be made in order, and they leave those of the drawing after
pub record AreWritesOf (S : Drawing) (o : Outcome) (ws : List RowWrite) (ids : List Element) : Type 0 where
  pub done : Accepted
  pub accepted : o ≡ Ok done
  pub named : done.ids ≡ ids
  pub writable : CanWriteAll S.next_ids (tables_of S) ws
  pub tables : all_written S.next_ids (tables_of S) ws ≡ tables_of done.drawing

abbrev pub IsPlanFor : Drawing → Edit → List RowWrite → List Element → Type 0
IsPlanFor S e ws ids = AreWritesOf S (step S e) ws ids
