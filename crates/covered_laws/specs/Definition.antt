-- A planar subdivision by the definition has all that the laws of subdivisions keep.
use Rattle.std.specs.Prelude.{pos, IsTrue, [], ◌∷◌, None}
use Rattle.topo_base.specs.Point.{Point}
use Rattle.topo_base.specs.declared.edit.Edit.{Edit}
use Rattle.drawing.specs.Accepted.{keeps_limits}
use Rattle.drawing.specs.Drawing.{Drawing, nothing_drawn}
use Rattle.drawing.specs.Replay.{after}
use Rattle.drawing.specs.Subdivision.{IsSubdivision}
use Rattle.drawing.specs.Vertices.{have_segments}
use Rattle.reference_laws.specs.Referenced.{StartsAtOne}
use Rattle.subdivision_laws.specs.Subdivided.{IsSubdivided}
use Rattle.point_laws.specs.PointsStay.{KeepsPoints, leaves_points}

-- what the types of lines and of tables keep: lines have two vertices or more, and the ids of new rows are 1 or more
pub record IsOfRows (S : Drawing) : Type 0 where
  pub lines : IsTrue (have_segments S.edges)
  pub starts : StartsAtOne S.next_ids

-- two drawings that are subdivisions by the definition alone: nothing drawn, whose first ids will be 0, and a line of one vertex with a face on either side
abbrev pub from_zero : Drawing
from_zero = record nothing_drawn { next_ids = record { node = 0; edge = 0; face = 1; layer = 0; feature = 0 } }

abbrev pub origin : Point
origin = record { x = pos 0; y = pos 0 }

abbrev pub one_vertex : Drawing
one_vertex = record {
  nodes = record { node_id = 1; containing_face = None; geom = origin } ∷ [];
  edges = record { edge_id = 1; start_node = 1; end_node = 1; left_face = 1; right_face = 2; geom = origin ∷ [] } ∷ [];
  faces = 0 ∷ 1 ∷ 2 ∷ [];
  layers = [];
  features = [];
  relations = [];
  next_ids = record { node = 2; edge = 2; face = 3; layer = 1; feature = 1 };
}

pub record DefinitionTellsAll : Type 0 where
  -- with these, the definition tells all that the laws of subdivisions keep, and is told by it
  pub subdivided : (S : Drawing) → IsOfRows S → IsSubdivision S → IsSubdivided S
  pub defined : (S : Drawing) → IsSubdivided S → IsOfRows S × IsSubdivision S
  -- so each edit within the limits keeps such a drawing a planar subdivision
  pub each_edit : (S : Drawing) (e : Edit) → IsTrue (keeps_limits e) → IsOfRows S → IsSubdivision S → IsOfRows (after S e) × IsSubdivision (after S e)
  -- and, where it moves no node and changes no feature's list, the points of every feature
  pub each_feature : (S : Drawing) (e : Edit) → IsTrue (keeps_limits e) → IsOfRows S → IsSubdivision S → IsTrue (leaves_points e) → KeepsPoints S (after S e)
  -- neither of the two follows from the definition
  pub ids_wanted : IsSubdivision from_zero × IsTrue (have_segments from_zero.edges) × (StartsAtOne from_zero.next_ids → ⊥)
  pub lines_wanted : IsSubdivision one_vertex × StartsAtOne one_vertex.next_ids × (IsTrue (have_segments one_vertex.edges) → ⊥)
