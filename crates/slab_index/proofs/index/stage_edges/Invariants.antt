use Rattle.std.proofs.Common.{◌≡◌, ◌+◌, Bool, drop}
use Rattle.std.specs.Prelude.{count_by}
use Rattle.slab_index.specs.declared.piece.Piece.{Piece}
use Rattle.slab_index.specs.Pieces.{pieces_of_all}
use Rattle.slab_index.proofs.index.stage_edges.Given as goal

-- what comes so far, with the rest of the edges, is what came before with all of them
abbrev pub invariant-loop-row : goal.invariant-loop-row
invariant-loop-row l = record {
  kept : l.slabs.kept ≡ l.fn.slabs.kept;
  coming : (f : Piece → Bool) → count_by f l.slabs.coming + count_by f (pieces_of_all (drop l.row-index l.rows)) ≡ count_by f (pieces_of_all l.rows) + count_by f l.fn.slabs.coming;
}
