-- Clockwise from one direction, the others stand in one strict order.
use Rattle.std.specs.Prelude.{◌≡◌, ◌↔◌, ℤ, pos, ◌*ℤ◌, ◌<ℤ◌, false, IsTrue}
use Rattle.plane.specs.Direction.{Direction, IsNotZero, OneDirection, quarter, is_nearer, same_direction}

-- v is u made longer or shorter
abbrev pub IsMultiple : Direction → Direction → Type 0
IsMultiple u v = (k m : ℤ) × ((pos 0 <ℤ k) × (pos 0 <ℤ m) × (k *ℤ u.dx ≡ m *ℤ v.dx) × (k *ℤ u.dy ≡ m *ℤ v.dy))

-- clockwise from r: a strict order, in which two directions are equal exactly where they point the same way
pub record IsClockwiseOrder (r : Direction) : Type 0 where
  pub irreflexive : (u : Direction) → is_nearer r u u ≡ false
  pub transitive : (u v w : Direction) → IsTrue (is_nearer r u v) → IsTrue (is_nearer r v w) → IsTrue (is_nearer r u w)
  pub total : (u v : Direction) → IsNotZero u → IsNotZero v → is_nearer r u v ≡ false → is_nearer r v u ≡ false → OneDirection u v
  pub equal : (u v : Direction) → OneDirection u v → (is_nearer r u v ≡ false) × (is_nearer r v u ≡ false)
  -- neither the lengths of the directions nor that of r matter
  pub lengths : (u v : Direction) → OneDirection u v → quarter r u ≡ quarter r v
  pub own_length : (u v : Direction) → OneDirection u v → quarter u r ≡ quarter v r
  -- v after u, as seen from r, is also r after v as seen from u
  pub cyclic : (u v : Direction) → IsNotZero u → IsTrue (is_nearer r u v) → same_direction r u ≡ false → IsTrue (is_nearer u v r)

pub record ClockwiseIsOrder : Type 0 where
  pub order : (r : Direction) → IsNotZero r → IsClockwiseOrder r
  pub same : (u v : Direction) → IsNotZero u → IsNotZero v → IsTrue (same_direction u v) ↔ OneDirection u v
  pub multiple : (u v : Direction) → OneDirection u v → IsMultiple u v
