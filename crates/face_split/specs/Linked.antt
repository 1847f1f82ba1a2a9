-- Tables whose links are right, and an edge with its face.
use Rattle.std.specs.Prelude.{◌≡◌, ℕ, Contains}
use Rattle.drawing.specs.Drawing.{Drawing, Edge}
use Rattle.drawing.specs.Tables.{Tables, tables_of, drawn}
use Rattle.ring_laws.specs.Ringed.{IsRinged}

-- the links are those of the drawing, the rings of which have one face each
pub record IsLinked (t : Tables) : Type 0 where
  pub edges : t.edges ≡ (tables_of (drawn t)).edges
  pub ringed : IsRinged (drawn t)

-- e is the edge of this id, and has the face on its left
pub record IsEdgeBeside (S : Drawing) (edge face : ℕ) (e : Edge) : Type 0 where
  pub there : Contains S.edges e
  pub id : e.edge_id ≡ edge
  pub left : e.left_face ≡ face

pub record HasEdgeBeside (S : Drawing) (edge face : ℕ) : Type 0 where
  pub row : Edge
  pub beside : IsEdgeBeside S edge face row
