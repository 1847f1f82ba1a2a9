-- What each edit keeps: faces where their borders say, and one shell each. That rings have one face is kept by a law of its own.
use Rattle.std.proofs.Common.{◌≡◌, ◌≢◌, ℕ, Some}
use Rattle.std.specs.Prelude.{IsTrue}
use Rattle.std.specs.List.{Contains}
use Rattle.topo_base.specs.declared.rows.NodeRow.{NodeRow}
use Rattle.drawing.specs.Drawing.{Drawing, has_face}
use Rattle.ring_laws.specs.Ringed.{IsRinged}
use Rattle.parity_laws.specs.Shelling.{OneShell, NoShell}
use Rattle.face_laws.specs.Walked.{steps_of}
use Rattle.face_laws.specs.Covered.{face_of, IsSided, IsInFaceOf, IsCovered}

pub record Covers (T : Drawing) : Type 0 where
  pub sided : IsSided T
  pub shells : (f : ℕ) → IsTrue (has_face T f) → f ≢ 0 → OneShell (steps_of T) (face_of T) f
  pub outer : NoShell (steps_of T) (face_of T) 0
  pub placed : (n : NodeRow) (f : ℕ) → Contains T.nodes n → n.containing_face ≡ Some f → IsInFaceOf T n.geom f

pub covered : (T : Drawing) → IsRinged T → Covers T → IsCovered T
covered T ringed c = record { ringed = ringed; sided = c.sided; shells = c.shells; outer = c.outer; placed = c.placed }

pub covers : (T : Drawing) → IsCovered T → Covers T
covers T c = record { sided = c.sided; shells = c.shells; outer = c.outer; placed = c.placed }
