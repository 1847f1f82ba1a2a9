-- What a ring is, and the law that the rings of a border divide its darts.
use Rattle.std.specs.Prelude.{◌≡◌, ◌≢◌, ℕ, ◌+◌, ◌-◌, ◌<◌, IsTrue, List, length, Contains, AllPairs}
use Rattle.std.specs.List.{slice_index_or}
use Rattle.topo_base.specs.declared.ids.Dart.{Dart}
use Rattle.face_rings.specs.declared.content.BorderDart.{BorderDart}
use Rattle.face_rings.specs.Border.{darts_of, next_dart, are_linked}
use Rattle.face_rings.specs.Rings.{ring_of, rings}

-- darts from this one on, each next after the one before, until the first comes back, and none of them twice
pub record IsRingFrom (border : List BorderDart) (first : Dart) (ring : List Dart) : Type 0 where
  pub some : 0 < length ring
  pub begins : (d : Dart) → slice_index_or ring 0 d ≡ first
  pub follows : (i : ℕ) (d : Dart) → i + 1 < length ring → slice_index_or ring (i + 1) d ≡ next_dart border (slice_index_or ring i d)
  pub closes : (d : Dart) → next_dart border (slice_index_or ring (length ring - 1) d) ≡ first
  pub once : AllPairs (λ d e. d ≢ e) ring

-- one of these rings has the dart, and no other
abbrev pub IsInOne : List (List Dart) → Dart → Type 0
IsInOne all d = (ring : List Dart) × (Contains all ring × Contains ring d × ((other : List Dart) → Contains all other → Contains other d → other ≡ ring))

pub record RingsDivide : Type 0 where
  pub ring : (border : List BorderDart) (d : Dart) → IsTrue (are_linked border) → Contains (darts_of border) d → IsRingFrom border d (ring_of border d)
  pub one : (border : List BorderDart) (d : Dart) → IsTrue (are_linked border) → Contains (darts_of border) d → IsInOne (rings border) d
