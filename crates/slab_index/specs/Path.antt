-- The segments that are looked at for a point.
use Rattle.std.specs.Prelude.{ℕ, ◌==◌, List, filter, flat_map}
use Rattle.topo_base.specs.Point.{Point}
use Rattle.slab_index.specs.declared.piece.Piece.{Piece}
use Rattle.slab_index.specs.Slabs.{slab_of, path}

-- the segments of the slab of this number
abbrev pub in_slab : List Piece → ℕ → List Piece
in_slab kept k = filter (λ e. slab_of e == k) kept

-- the segments of these slabs, slab by slab
abbrev pub in_slabs : List Piece → List ℕ → List Piece
in_slabs kept slabs = flat_map (in_slab kept) slabs

-- the segments of the slabs that hold p
abbrev pub on_path : Point → List Piece → List Piece
on_path p kept = in_slabs kept (path p)
