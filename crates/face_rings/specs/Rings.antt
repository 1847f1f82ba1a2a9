-- A ring of a border: darts, each of which is next after the one before, until the first comes back.
use Rattle.std.specs.Prelude.{◌≡◌, ℕ, zero, suc, ◌<◌, Bool, false, not, ◌||◌, List, [], ◌∷◌, length, filter, map, if◌then◌else◌}
use Rattle.std.specs.List.{list_all, slice_index_or}
use Rattle.std.specs.declared.alloc.Global.{Global}
use Rattle.std.specs.declared.vec.Vec.{Vec}
use Rattle.topo_base.specs.Darts.{same_dart}
use Rattle.topo_base.specs.declared.ids.Dart.{Dart}
use Rattle.face_rings.specs.declared.content.BorderDart.{BorderDart}
use Rattle.face_rings.specs.Border.{dart_before, darts_of, has_dart, next_dart}

-- the darts from d on, at most this many more, until the first is next
abbrev pub walk : List BorderDart → Dart → ℕ → Dart → List Dart
walk border first zero d = d ∷ []
walk border first (suc more) d =
    let on = next_dart border d in let rest = walk border first more on in if same_dart on first then d ∷ [] else d ∷ rest

-- the ring of d
abbrev pub ring_of : List BorderDart → Dart → List Dart
ring_of border d = walk border d (length border) d

-- the rings, each begun with its least dart, ascending by these
abbrev pub begins_ring : List BorderDart → Dart → Bool
begins_ring border d = list_all (λ e. not (dart_before e d)) (ring_of border d)

abbrev pub rings : List BorderDart → List (List Dart)
rings border = map (ring_of border) (filter (begins_ring border) (darts_of border))

-- the darts of a ring that was found
abbrev pub darts_in : Vec Dart Global → List Dart
darts_in ring = ring.items

-- the places of the ring's darts are marked besides those that were
pub record Marks (border : List BorderDart) (ring : List Dart) (old new : List Bool) : Type 0 where
  pub long : length new ≡ length old
  pub marked : (i : ℕ) (b : BorderDart) → i < length border
      → slice_index_or new i false ≡ (slice_index_or old i false || has_dart ring ((slice_index_or border i b).dart))
