-- Faces that become one, where the one that is kept is listed: what is known of the draft, and the drawing after.
use Rattle.std.specs.Prelude.{◌≡◌, ℕ, false, not, ◌==◌, IsTrue, List, [], ◌∷◌, map, filter}
use Rattle.topo_base.specs.declared.rows.Counters.{Counters}
use Rattle.topo_base.specs.declared.rows.FaceRow.{FaceRow}
use Rattle.drawing.specs.Drawing.{Drawing, Edge}
use Rattle.drawing.specs.Relations.{is_among}
use Rattle.drawing.specs.RemoveEdge.{without_edge}
use Rattle.drawing.specs.Rows.{has_row}
use Rattle.drawing.specs.Subdivision.{ids_in_order, references_known}
use Rattle.drawing.specs.Tables.{Tables, face_row}
use Rattle.drawing.specs.Writable.{has_face_row}
use Rattle.drawing.specs.Writes.{face_row_id}
use Rattle.edge_links.specs.UnlinksLaw.{dropped_rows}
use Rattle.face_merge.specs.declared.removed.Removed.{Removed}
use Rattle.face_merge.specs.Sides.{removed_of}

-- the faces that don't go
abbrev pub stay : List ℕ → List ℕ → List ℕ
stay gone fs = filter (λ g. not (is_among g gone)) fs

-- the rows before: those of S without the edge, with these rows of faces, and these next ids
abbrev pub begun : Drawing → Edge → (ℕ → FaceRow) → List ℕ → Counters → Tables
begun S e row fs ids = record (dropped_rows S e.edge_id) { faces = map row fs; next_ids = ids }

-- the drawing after
abbrev pub merged_in : Drawing → Edge → List ℕ → ℕ → List ℕ → Counters → Drawing
merged_in S e gone kept fs ids = record (without_edge S e gone kept (stay gone fs)) { next_ids = ids }

-- rows of faces, which but for the face that is kept and those that go are those of the drawing
pub record KeepsRows (row : ℕ → FaceRow) (U : Drawing) (gone : List ℕ) (kept : ℕ) : Type 0 where
  pub id : (f : ℕ) → face_row_id (row f) ≡ f
  pub zero : row 0 ≡ face_row U 0
  pub others : (g : ℕ) → g == kept ≡ false → is_among g gone ≡ false → row g ≡ face_row U g

-- each of these faces is there, once, and is not face 0
abbrev pub MayGo : List FaceRow → List ℕ → Type 0
MayGo rows [] = Unit {0}
MayGo rows (f ∷ gone) = IsTrue (has_row face_row_id rows f) × (f == 0 ≡ false) × (is_among f gone ≡ false) × MayGo rows gone

pub record IsMerge (S : Drawing) (e : Edge) (row : ℕ → FaceRow) (fs : List ℕ) (ids : Counters) (r : Removed) (gone : List ℕ) (kept : ℕ) (t : Tables) : Type 0 where
  pub ordered : IsTrue (ids_in_order S)
  pub references : IsTrue (references_known S)
  pub edge : r ≡ removed_of e
  pub rows : t ≡ begun S e row fs ids
  pub keeps : KeepsRows row (merged_in S e gone kept fs ids) gone kept
  pub there : IsTrue (has_face_row t kept)
  pub may_go : MayGo t.faces gone

pub record HasMerge (t : Tables) (r : Removed) (gone : List ℕ) (kept : ℕ) : Type 0 where
  pub before : Drawing
  pub row : Edge
  pub face_rows : ℕ → FaceRow
  pub faces : List ℕ
  pub ids : Counters
  pub merge : IsMerge before row face_rows faces ids r gone kept t
