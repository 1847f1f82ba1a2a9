-- Two features list a face that is divided. Where only the first of them followed it, the second would lose the points of the new part.
use Rattle.std.specs.Prelude.{ℕ, pos, ◌==◌, List, [], ◌∷◌, None, flat_map, codes, if◌then◌else◌}
use Rattle.topo_base.specs.Point.{Point}
use Rattle.topo_base.specs.RationalPoint.{RationalPoint, rational}
use Rattle.topo_base.specs.declared.edit.Edit.{Edit}
use Rattle.topo_base.specs.declared.edit.Edit.TheVariants.{AddIsoNode, AddEdgeModFace, ModEdgeSplit, AddLayer, CreateTopoGeom}
use Rattle.topo_base.specs.declared.edit.Pair.{Pair}
use Rattle.topo_base.specs.declared.kind.Kind.TheVariants.{Areal}
use Rattle.topo_base.specs.declared.rows.RelationRow.{RelationRow}
use Rattle.drawing.specs.Drawing.{Drawing, nothing_drawn}
use Rattle.drawing.specs.FeaturePoints.{IsPointOf}
use Rattle.drawing.specs.Relations.{face_type, features_of, followed, ordered}
use Rattle.drawing.specs.Replay.{after, after_all}

abbrev pub at : ℕ → ℕ → Point
at x y = record { x = pos x; y = pos y }

-- a square, its face 1, and two features that list this face
abbrev pub the_face : List Pair
the_face = record { id = 1; element_type = 3 } ∷ []

abbrev pub shared_square : List Edit
shared_square =
    AddIsoNode None (at 0 0)
    ∷ AddEdgeModFace 1 1 (at 0 0 ∷ at 4 0 ∷ at 4 4 ∷ at 0 4 ∷ at 0 0 ∷ [])
    ∷ ModEdgeSplit 1 (at 4 4)
    ∷ AddLayer (codes "parcels") Areal None
    ∷ CreateTopoGeom 1 the_face
    ∷ CreateTopoGeom 1 the_face
    ∷ []

abbrev pub shared : Drawing
shared = after_all nothing_drawn shared_square

-- the diagonal divides it: the part above is the new face 2
abbrev pub diagonal : Edit
diagonal = AddEdgeModFace 1 2 (at 0 0 ∷ at 4 4 ∷ [])

abbrev pub above_diagonal : RationalPoint
above_diagonal = rational (at 1 3)

-- the rows where the first feature that lists the face follows it to its parts, and no other one does
abbrev pub follow_first : Drawing → ℕ → List ℕ → List RelationRow
follow_first S f parts = ordered (flat_map (λ (row : RelationRow). if row.topogeo_id == first_of (features_of S face_type f) then followed S face_type (f ∷ []) parts row else row ∷ []) S.relations)
  where
    first_of : List ℕ → ℕ
    first_of [] = 0
    first_of (t ∷ ts) = t

abbrev pub first_alone : Drawing
first_alone = record (after shared diagonal) { relations = follow_first shared 1 (1 ∷ 2 ∷ []) }

-- the second feature has the point, has it after the edit, and would not have it
pub record FirstAloneLosesPoints : Type 0 where
  pub before : IsPointOf shared 2 above_diagonal
  pub after_all_follow : IsPointOf (after shared diagonal) 2 above_diagonal
  pub lost : IsPointOf first_alone 2 above_diagonal → ⊥
