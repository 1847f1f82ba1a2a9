-- Walks from point to point, rings and polylines.
use Rattle.std.specs.Prelude.{◌≡◌, ◌≢◌, ◌≤ℤ◌, Bool, false, List, [], ◌∷◌, ◌++◌}
use Rattle.topo_base.specs.Point.{Point}
use Rattle.plane.specs.Segment.{Segment}
use Rattle.plane.specs.Parity.{xor}
use Rattle.plane.specs.Crossings.{last_of}
use Rattle.parity_laws.specs.Steps.{odd}

-- the steps from v through ws
abbrev pub steps : Point → List Point → List Segment
steps v [] = []
steps v (w ∷ ws) = record { a = v; b = w } ∷ steps w ws

pub record Line : Type 0 where
  pub first : Point
  pub rest : List Point

abbrev pub all_steps : List Line → List Segment
all_steps [] = []
all_steps (l ∷ ls) = steps l.first l.rest ++ all_steps ls

-- at each point an even number of the lines' ends
abbrev pub EndsPair : List Line → Type 0
EndsPair ls = (h : Point → Bool) → odd (λ l. xor (h l.first) (h (last_of l.first l.rest))) ls ≡ false

-- each step of the list begins where the one before it ends, and z is the end of the last
abbrev pub Chained : Point → List Segment → Point → Type 0
Chained v [] z = v ≡ z
Chained v (t ∷ X) z = (t.a ≡ v) × Chained t.b X z

-- p is not above the end of any step
abbrev pub NoHigher : Point → Segment → Type 0
NoHigher p t = (t.a.y ≤ℤ p.y) × (t.b.y ≤ℤ p.y)

-- t does not begin or end at p
abbrev pub NotAt : Point → Segment → Type 0
NotAt p t = (t.a ≢ p) × (t.b ≢ p)
