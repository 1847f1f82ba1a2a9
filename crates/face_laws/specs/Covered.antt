-- A drawing whose faces lie where their borders say, each but face 0 with one shell.
use Rattle.std.specs.Prelude.{◌≡◌, ◌≢◌, ℕ, IsTrue, Some}
use Rattle.std.specs.List.{Contains}
use Rattle.topo_base.specs.Point.{Point}
use Rattle.topo_base.specs.declared.rows.NodeRow.{NodeRow}
use Rattle.plane.specs.Segment.{Segment}
use Rattle.drawing.specs.Drawing.{Drawing, has_face}
use Rattle.drawing.specs.HalfEdge.{half_edges}
use Rattle.ring_laws.specs.Ringed.{IsRinged}
use Rattle.parity_laws.specs.Rings.{Sided, of_face, IsInFace}
use Rattle.parity_laws.specs.Shelling.{OneShell, NoShell}
use Rattle.face_laws.specs.Walked.{steps_of, face_on_left}

-- the face on the left of a step
abbrev pub face_of : Drawing → Segment → ℕ
face_of S s = face_on_left (half_edges S) s

-- left of each step is its face, by the parity of the steps with that face on their left
abbrev pub IsSided : Drawing → Type 0
IsSided S = (f : ℕ) → f ≢ 0 → Sided (steps_of S) (of_face (face_of S) f)

-- the point is in this face of the drawing, by the same parity
abbrev pub IsInFaceOf : Drawing → Point → ℕ → Type 0
IsInFaceOf S p f = IsInFace (steps_of S) (face_of S) f p

pub record IsCovered (S : Drawing) : Type 0 where
  pub ringed : IsRinged S
  pub sided : IsSided S
  -- each listed face but 0 has one shell, and face 0 has none
  pub shells : (f : ℕ) → IsTrue (has_face S f) → f ≢ 0 → OneShell (steps_of S) (face_of S) f
  pub outer : NoShell (steps_of S) (face_of S) 0
  -- each isolated node is in its face
  pub placed : (n : NodeRow) (f : ℕ) → Contains S.nodes n → n.containing_face ≡ Some f → IsInFaceOf S n.geom f
