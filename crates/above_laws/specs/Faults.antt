-- A planar subdivision, told by what is asked of its rows, rings, holes and isolated nodes.
use Rattle.std.specs.Prelude.{IsTrue}
use Rattle.drawing.specs.Drawing.{Drawing}
use Rattle.drawing.specs.Plain.{IsPlain}
use Rattle.drawing.specs.Subdivision.{IsSubdivision, is_consistent}
use Rattle.covered_laws.specs.Definition.{IsOfRows}
use Rattle.above_laws.specs.Places.{HolesAreBelow, NodesAreBelow}

-- ids, references, the faces of rings and the counts of shells are right, edges meet at nodes alone, and holes and isolated nodes are in the faces above them
pub record IsWithoutFault (S : Drawing) : Type 0 where
  pub consistent : IsTrue (is_consistent S)
  pub plain : IsPlain S
  pub holes : HolesAreBelow S
  pub nodes : NodesAreBelow S

-- the definition asks of each rational point in which faces it is; this much of it suffices, and follows
pub record FaultsTellAll : Type 0 where
  pub subdivision : (S : Drawing) → IsOfRows S → IsWithoutFault S → IsSubdivision S
  pub without : (S : Drawing) → IsOfRows S → IsSubdivision S → IsWithoutFault S
