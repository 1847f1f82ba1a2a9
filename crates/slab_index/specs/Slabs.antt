-- Slabs: upright strips of the plane, each of which is halved into the two below it, down to those that are one unit wide.
use Rattle.std.specs.Prelude.{ℕ, zero, suc, ◌+◌, ◌/◌, ◌^◌, ◌==◌, pos, ℤ, ◌+ℤ◌, Bool, List, [], ◌∷◌, if◌then◌else◌}
use Rattle.std.specs.List.{list_any}
use Rattle.std.specs.Int.RustNames.{unsigned_abs}
use Rattle.topo_base.specs.Point.{Point}
use Rattle.slab_index.specs.declared.piece.Piece.{Piece}

-- A slab has a number: that of all the plane is 1, and the halves of n are 2 n on the left and 2 n + 1 on the right. After 42
-- halvings a slab is one unit wide. This is the number of the one that holds x.
abbrev pub leaf : ℤ → ℕ
leaf x = unsigned_abs (x +ℤ pos (2 ^ 42 + 2 ^ 40))

-- of two slabs as wide as one another, so many halvings below the widest: the smallest slab round both
unfoldable pub common : ℕ → ℕ → ℕ → ℕ
common zero a b = a
common (suc n) a b = if a == b then a else common n (a / 2) (b / 2)

-- the slab of a segment is the smallest one that holds both of its ends
abbrev pub slab_of : Piece → ℕ
slab_of e = common 42 (leaf e.start.x) (leaf e.end.x)

-- a slab and those round it, so many
unfoldable pub slabs_round : ℕ → ℕ → List ℕ
slabs_round zero m = []
slabs_round (suc n) m = m ∷ slabs_round n (m / 2)

-- the slabs that hold p: its path
abbrev pub path : Point → List ℕ
path p = slabs_round 43 (leaf p.x)

-- the slab of a segment is on the path of p
abbrev pub is_near : Point → Piece → Bool
is_near p e = list_any (λ k. slab_of e == k) (path p)
