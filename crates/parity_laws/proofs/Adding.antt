-- Where a line that comes makes no new face, each face keeps its steps.
use Rattle.std.proofs.Common.{◌≡◌, refl, sym, Bool, List}
use Rattle.plane.specs.Segment.{Segment}
use Rattle.parity_laws.specs.Steps.{Even, left}
use Rattle.parity_laws.specs.Rings.{In, Within, Drawn, Ringwise, Sided}
use Rattle.parity_laws.proofs.Climbing.{by_two}
use Rattle.parity_laws.proofs.Splitting.{world}
use Rattle.parity_laws.proofs.Seeing.{view}

-- X is what the face had, and each step of the new drawing has it on its left where it has the face
pub face_stays : (T : List Segment) (X : List Segment) (face : Segment → Bool) → Drawn T → Ringwise T face → Even X → Within X T →
    ((s : Segment) → In s T → left X s ≡ face s) → Sided T face
face_stays T X face drawn h even w is s i =
    by_two T X X face (λ p q. p) (world T face drawn h) (view T drawn) even w even w refl (λ t j. sym (is t j)) s i
