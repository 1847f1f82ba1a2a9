-- What the row writes of an edit keep.
use Rattle.std.specs.Prelude.{◌≡◌, IsTrue, List, Result}
use Rattle.std.specs.Result.{IfOk}
use Rattle.topo_base.specs.declared.edit.Edit.{Edit}
use Rattle.topo_base.specs.declared.write.RowWrite.{RowWrite}
use Rattle.drawing.specs.Accepted.{keeps_limits}
use Rattle.drawing.specs.Drawing.{Drawing}
use Rattle.drawing.specs.Replay.{after}
use Rattle.drawing.specs.Subdivision.{IsSubdivision}
use Rattle.drawing.specs.Tables.{tables_of}
use Rattle.drawing.specs.Writes.{all_written}
use Rattle.covered_laws.specs.Definition.{IsOfRows}
use Rattle.point_laws.specs.PointsStay.{KeepsPoints, leaves_points}
use Rattle.read_set.specs.declared.edited.Edited.{Edited}
use Rattle.read_set.specs.declared.end.EditEnd.{EditEnd}

-- the writes leave the tables of the drawing after the edit; where the one before was a planar subdivision, with lines and ids as their types have them, this one is, and each feature that is there before and after has the points that it had, unless the edit moves a node or changes what a feature lists
pub record KeepsDrawing (S : Drawing) (e : Edit) (ws : List RowWrite) : Type 0 where
  pub tables : all_written S.next_ids (tables_of S) ws ≡ tables_of (after S e)
  pub subdivision : IsOfRows S → IsSubdivision S → IsOfRows (after S e) × IsSubdivision (after S e)
  pub points : IsOfRows S → IsSubdivision S → IsTrue (leaves_points e) → KeepsPoints S (after S e)

-- so do those of an answer, where the edit is within the limits
abbrev pub Keeps : Drawing → Edit → Result Edited EditEnd → Type 0
Keeps S e answer = IfOk answer (λ (d : Edited). IsTrue (keeps_limits e) → KeepsDrawing S e d.writes)
