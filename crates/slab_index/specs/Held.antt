-- Slabs, each at a place that is found by its number.
use Rattle.std.specs.Prelude.{◌≡◌, ℕ, ◌+◌, ◌≤◌, ◌^◌, List, Option, Some, All, flat_map, vec_len, vec_capacity, slice_get}
use Rattle.std.specs.Option.{option_map}
use Rattle.topo_base.specs.Point.{IsCoordinate}
use Rattle.slab_index.specs.declared.piece.Piece.{Piece}
use Rattle.slab_index.specs.declared.slabs.Slab.{Slab}
use Rattle.slab_index.specs.Reach.{IsRising, IsNoHigher}
use Rattle.slab_index.specs.Slabs.{slab_of}

-- the segment is kept in the slab of this number, and its ends are in range from left to right
pub record IsInSlab (n : ℕ) (e : Piece) : Type 0 where
  pub own : slab_of e ≡ n
  pub start : IsCoordinate e.start.x
  pub end : IsCoordinate e.end.x

-- the segments of a slab are in it and none is higher than its rise; those that are kept are in order, and there is room for
-- those that come
pub record IsSlab (s : Slab) : Type 0 where
  pub kept : All (IsInSlab s.number) s.kept.items
  pub coming : All (IsInSlab s.number) s.coming.items
  pub room : vec_len s.kept + vec_len s.coming ≤ vec_capacity s.kept
  pub rising : IsRising s.kept.items
  pub rise : s.rise ≤ 2 ^ 41
  pub kept_no_higher : All (IsNoHigher s.rise) s.kept.items
  pub coming_no_higher : All (IsNoHigher s.rise) s.coming.items

abbrev pub number_of : Slab → ℕ
number_of s = s.number

-- the number of the slab at a place
abbrev pub number_at : List Slab → ℕ → Option ℕ
number_at slabs i = option_map number_of (slice_get slabs i)

-- each slab is found at its place by its number
pub record AreSlabs (find : ℕ → Option ℕ) (slabs : List Slab) : Type 0 where
  pub found : (q i : ℕ) → find q ≡ Some i → number_at slabs i ≡ Some q
  pub listed : (q i : ℕ) → number_at slabs i ≡ Some q → find q ≡ Some i
  pub held : All IsSlab slabs

abbrev pub kept_of : Slab → List Piece
kept_of s = s.kept.items

abbrev pub coming_of : Slab → List Piece
coming_of s = s.coming.items

-- the slabs at each place have one number
abbrev pub HaveSameNumbers : List Slab → List Slab → Type 0
HaveSameNumbers before after = (i : ℕ) → number_at after i ≡ number_at before i

-- the slab at this place is that of the segment
pub record IsPlaceOf (slabs : List Slab) (i : ℕ) (e : Piece) : Type 0 where
  pub there : number_at slabs i ≡ Some (slab_of e)
  pub in_slab : IsInSlab (slab_of e) e

-- the ends of each segment are in range from left to right
pub record IsInRange (e : Piece) : Type 0 where
  pub start : IsCoordinate e.start.x
  pub end : IsCoordinate e.end.x

-- the segments of all slabs
abbrev pub all_kept : List Slab → List Piece
all_kept slabs = flat_map kept_of slabs

abbrev pub all_coming : List Slab → List Piece
all_coming slabs = flat_map coming_of slabs
