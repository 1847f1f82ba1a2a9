-- A draft without an edge, on which the faces on its two sides become one.
use Rattle.std.specs.Prelude.{◌≡◌, ◌⊎◌, ℕ, IsTrue, List, [], ◌∷◌, None}
use Rattle.std.specs.List.{Contains}
use Rattle.topo_base.specs.declared.write.RowId.TheVariants.{Old}
use Rattle.topo_base.specs.declared.write.RowWrite.TheVariants.{AddFace}
use Rattle.drawing.specs.Drawing.{Drawing, Edge}
use Rattle.drawing.specs.Relations.{face_type, follow}
use Rattle.drawing.specs.Subdivision.{ids_in_order, references_known}
use Rattle.drawing.specs.Tables.{Tables, drawn}
use Rattle.drawing.specs.Writes.{written}
use Rattle.edge_links.specs.UnlinksLaw.{dropped_rows}
use Rattle.face_merge.specs.declared.removed.Removed.{Removed}
use Rattle.face_merge.specs.MergedSides.{IsLess}
use Rattle.face_merge.specs.Sides.{removed_of}

-- the rows are those of S without the edge e: its links have gone, and the faces on its sides, nodes, features and boxes are still those of S
pub record WasRemoved (S : Drawing) (e : Edge) (r : Removed) (t : Tables) : Type 0 where
  pub ids : IsTrue (ids_in_order S)
  pub references : IsTrue (references_known S)
  pub there : Contains S.edges e
  pub edge : r ≡ removed_of e
  pub rows : t ≡ dropped_rows S e.edge_id

-- there is such a drawing, and such an edge
pub record HasRemoved (t : Tables) (r : Removed) : Type 0 where
  pub before : Drawing
  pub row : Edge
  pub removed : WasRemoved before row r t

-- the two faces are those on the sides
abbrev pub AreSides : Removed → ℕ → ℕ → Type 0
AreSides r f g = ((f ≡ r.left_face) × (g ≡ r.right_face)) ⊎ ((f ≡ r.right_face) × (g ≡ r.left_face))

-- the tables with a face more, which has no box yet
abbrev pub with_new_face : Tables → Tables
with_new_face t = written t.next_ids t (AddFace (Old t.next_ids.face) None)

-- the features that listed one of the faces list the one that is kept, face by face, and all at once
abbrev pub with_relations : Tables → List ℕ → ℕ → Tables
with_relations t gone kept = record t { relations = follow (drawn t) face_type gone (kept ∷ []) }

abbrev pub one_by_one : Tables → List ℕ → ℕ → Tables
one_by_one t [] kept = t
one_by_one t (f ∷ gone) kept = one_by_one (with_relations t (f ∷ []) kept) gone kept

-- there is a drawing without an edge, as rows have it
pub record HasLess (t : Tables) (r : Removed) : Type 0 where
  pub before : Drawing
  pub row : Edge
  pub less : IsLess before row r t
