use Rattle.std.proofs.Common.{◌≡◌, ◌+◌, Bool, drop}
use Rattle.std.specs.Prelude.{count_by, map}
use Rattle.plane.specs.Line.{segments_of}
use Rattle.slab_index.specs.declared.piece.Piece.{Piece}
use Rattle.slab_index.specs.Pieces.{piece_of}
use Rattle.slab_index.proofs.index.stage_edge.Given as goal

-- what comes so far, with the rest of the line, is what came before with all of it
abbrev pub invariant-loop-i : goal.invariant-loop-i
invariant-loop-i l = record {
  kept : l.slabs.kept ≡ l.fn.slabs.kept;
  coming : (f : Piece → Bool) → count_by f l.slabs.coming + count_by f (map (piece_of l.row.edge_id) (segments_of (drop l.i l.vertices)))
      ≡ count_by f (map (piece_of l.row.edge_id) (segments_of l.vertices)) + count_by f l.fn.slabs.coming;
}
