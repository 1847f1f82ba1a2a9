-- A line that comes to a drawing's steps.
use Rattle.std.specs.Prelude.{◌≡◌, ℕ, List, [], ◌∷◌, ◌++◌, ◌⊎◌}
use Rattle.plane.specs.Segment.{Segment}
use Rattle.plane.specs.Crossings.{back}
use Rattle.parity_laws.specs.Rings.{In, Next, Drawn, Ringwise, of_face}

-- the steps walked back, from the last to the first
abbrev pub walked_back : List Segment → List Segment
walked_back [] = []
walked_back (s ∷ L) = walked_back L ++ back s ∷ []

-- the line's steps in both directions
abbrev pub both_ways_of : List Segment → List Segment
both_ways_of L = L ++ walked_back L

-- T and the line, walked both ways
abbrev pub with_line : List Segment → List Segment → List Segment
with_line T L = T ++ both_ways_of L

-- d and X, up to z, come one after another, and no other step of T begins where one of them ends and the next one begins
abbrev pub Strung : List Segment → Segment → List Segment → Segment → Type 0
Strung T d [] z = d ≡ z
Strung T d (n ∷ X) z = (n.a ≡ d.b) × ((t : Segment) → In t T → t.a ≡ d.b → (t ≡ n) ⊎ (t ≡ back d)) × Strung T n X z

-- the line from the step first through rest to the step last comes to T
pub record LineComes (T : List Segment) (first : Segment) (rest : List Segment) (last : Segment) : Type 0 where
  pub old : Drawn T
  pub new : Drawn (with_line T (first ∷ rest))
  pub strung : Strung (with_line T (first ∷ rest)) first rest last

-- from d the way goes on along the line, at its first or at its last step
abbrev pub Enters : List Segment → Segment → Segment → Segment → Type 0
Enters T first last d = Next T d first ⊎ Next T d (back last)

-- d is followed by the step e of the line, and e walked back by the other end's step e', and that one walked back by n
pub record CornerOfBoth (T : List Segment) (d n e e' : Segment) : Type 0 where
  pub enters : Next T d e
  pub between : Next T (back e) e'
  pub leaves : Next T (back e') n

-- F' is F on the old steps and f on the line, and f is the face where the line is entered
pub record FaceComes (T : List Segment) (first : Segment) (rest : List Segment) (last : Segment) (F F' : Segment → ℕ) (f : ℕ) : Type 0 where
  pub rings : (g : ℕ) → Ringwise T (of_face F g)
  pub same : (s : Segment) → In s T → F' s ≡ F s
  pub line : (s : Segment) → In s (both_ways_of (first ∷ rest)) → F' s ≡ f
  pub entry : (d : Segment) → In d T → Enters (with_line T (first ∷ rest)) first last d → F d ≡ f
