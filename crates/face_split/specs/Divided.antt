-- What is left to do where an edge that came divides its face, and what that leaves.
use Rattle.std.specs.Prelude.{◌≡◌, ℕ, ◌+◌, IsTrue, List, [], ◌∷◌, ◌++◌, None}
use Rattle.topo_base.specs.Point.{Point}
use Rattle.topo_base.specs.declared.rows.FaceRow.{FaceRow}
use Rattle.topo_base.specs.declared.rows.FeatureRow.{FeatureRow}
use Rattle.topo_base.specs.declared.write.RowWrite.{RowWrite}
use Rattle.drawing.specs.AddEdge.{Division}
use Rattle.drawing.specs.Content.{listing}
use Rattle.drawing.specs.Drawing.{Drawing, Edge}
use Rattle.drawing.specs.Relations.{face_type, follow, lists_element}
use Rattle.drawing.specs.Tables.{Tables, drawn, face_box}
use Rattle.drawing.specs.Writable.{has_face_row}
use Rattle.face_boxes.specs.Bounds.{box_write}
use Rattle.face_parts.specs.declared.parts.FaceParts.{FaceParts}
use Rattle.face_parts.specs.DividedFace.{IsDividedFace}
use Rattle.face_rings.specs.declared.content.BorderDart.{BorderDart}
use Rattle.relation_rows.specs.Following.{AreFeaturesOf}

-- the features that list the face are features of the tables
abbrev pub KnowsFeatures : Tables → ℕ → Type 0
KnowsFeatures t f = (features : List FeatureRow) → features ≡ listing (lists_element (drawn t) face_type f) (drawn t) → AreFeaturesOf t face_type f features

-- the tables with a face more, which has no box yet
abbrev pub new_face : ℕ → FaceRow
new_face f = record { face_id = f; mbr = None }

abbrev pub with_new_face : Tables → Tables
with_new_face t = record t { faces = t.faces ++ new_face t.next_ids.face ∷ []; next_ids = record (t.next_ids) { face = t.next_ids.face + 1 } }

-- the features that listed the face list both parts
abbrev pub followed_rows : Tables → FaceParts → Tables
followed_rows t p = record t { relations = follow (drawn t) face_type (p.face ∷ []) (p.left_part ∷ p.right_part ∷ []) }

-- a face that an edge divides, both parts of which are listed
pub record IsDivisible (t : Tables) (p : FaceParts) (walk : List Point) (border : List BorderDart) : Type 0 where
  pub drawing : Drawing
  pub edge : Edge
  pub division : Division
  pub divided : IsDividedFace drawing edge division p walk t border
  pub left : IsTrue (has_face_row t p.left_part)
  pub right : IsTrue (has_face_row t p.right_part)
  pub features : KnowsFeatures t p.face

-- the writes of both boxes
abbrev pub both_boxes : Tables → ℕ → ℕ → List RowWrite
both_boxes t l r = box_write l (face_box (drawn t) l) ++ box_write r (face_box (drawn t) r)
