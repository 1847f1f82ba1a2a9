-- The line that may come between two nodes.
use Rattle.std.specs.Prelude.{ℕ, IsTrue, Contains, List}
use Rattle.topo_base.specs.Point.{Point}
use Rattle.topo_base.specs.declared.rows.NodeRow.{NodeRow}
use Rattle.drawing.specs.Drawing.{Drawing}
use Rattle.drawing.specs.IsoEdits.{with_edge}
use Rattle.plane.specs.LinePoints.{has_proper_segments}
use Rattle.drawing.specs.Plain.{IsPlain}
use Rattle.ring_laws.specs.Ringed.{LiesIn}

-- the line may come between the nodes: it lies in the face at both ends, and the drawing with it is plain
pub record IsPlaced (S : Drawing) (a b : NodeRow) (line : List Point) (f : ℕ) : Type 0 where
  pub start : Contains S.nodes a
  pub end : Contains S.nodes b
  pub plain : IsPlain (with_edge S a b line f)
  pub proper : IsTrue (has_proper_segments line)
  pub lies : LiesIn S a b line f
