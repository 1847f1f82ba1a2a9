-- Rings and shells of a face, as labels of steps.
use Rattle.std.specs.Prelude.{◌≡◌, ℕ, Bool, true, List}
use Rattle.plane.specs.Segment.{Segment}
use Rattle.parity_laws.specs.Steps.{left}
use Rattle.parity_laws.specs.Rings.{In, those, Ringwise, OneRing}

-- p is a ring of T, and has the given step
pub record IsRingLabel (T : List Segment) (p : Segment → Bool) : Type 0 where
  pub ringwise : Ringwise T p
  pub one : OneRing T p
  pub step : Segment
  pub there : In step T
  pub mine : p step ≡ true

-- p is a ring of T in the face f, and its own parity left of it is 1
pub record IsShellOf (T : List Segment) (F : Segment → ℕ) (f : ℕ) (p : Segment → Bool) : Type 0 where
  pub ring : IsRingLabel T p
  pub face : F ring.step ≡ f
  pub is_left : left (those p T) ring.step ≡ true

-- the face f has a shell, and no two
pub record OneShell (T : List Segment) (F : Segment → ℕ) (f : ℕ) : Type 0 where
  pub p : Segment → Bool
  pub shell : IsShellOf T F f p
  pub only : (q r : Segment → Bool) → IsShellOf T F f q → IsShellOf T F f r → (s : Segment) → In s T → q s ≡ r s

-- the face f has no shell
abbrev pub NoShell : List Segment → (Segment → ℕ) → ℕ → Type 0
NoShell T F f = (p : Segment → Bool) → IsShellOf T F f p → ⊥

-- each step of T is on a ring
abbrev pub HasRingLabels : List Segment → Type 0
HasRingLabels T = (s : Segment) → In s T → (p : Segment → Bool) × (IsRingLabel T p × (p s ≡ true))
