-- The segments of edges, as an index keeps them.
use Rattle.std.specs.Prelude.{◌≡◌, ℕ, ◌+◌, Bool, not, ◌&&◌, ◌==◌, List, map, flat_map, count_by}
use Rattle.std.specs.List.{list_any}
use Rattle.topo_base.specs.declared.rows.EdgeRow.{EdgeRow}
use Rattle.plane.specs.Segment.{Segment}
use Rattle.plane.specs.Line.{segments_of}
use Rattle.slab_index.specs.declared.piece.Piece.{Piece}

-- the segments of an edge, and of several
abbrev pub piece_of : ℕ → Segment → Piece
piece_of n s = record { edge = n; start = s.a; end = s.b }

abbrev pub pieces_of : EdgeRow → List Piece
pieces_of row = map (piece_of row.edge_id) (segments_of row.geom)

abbrev pub pieces_of_all : List EdgeRow → List Piece
pieces_of_all rows = flat_map pieces_of rows

-- the segment is of one of these edges
abbrev pub is_gone : List ℕ → Piece → Bool
is_gone gone e = list_any (λ n. n == e.edge) gone

-- Lists whose order doesn't matter: one has the segments of two others together, each as often as they have it.
abbrev pub AreTogether : List Piece → List Piece → List Piece → Type 0
AreTogether all some others = (f : Piece → Bool) → count_by f all ≡ count_by f some + count_by f others

-- the segments without those of these edges, and others that come
abbrev pub AreChanged : List Piece → List Piece → List ℕ → List Piece → Type 0
AreChanged after before gone come = (f : Piece → Bool) → count_by f after ≡ count_by (λ e. f e && not (is_gone gone e)) before + count_by f come

-- the segments that are kept, and those that come with the change that is staged
pub record Segments : Type 0 where
  pub kept : List Piece
  pub coming : List Piece
