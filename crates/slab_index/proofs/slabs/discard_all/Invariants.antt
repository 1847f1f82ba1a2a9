use Rattle.std.proofs.Common.{◌≡◌, All, Bool, length, drop}
use Rattle.std.specs.Prelude.{count_by}
use Rattle.slab_index.specs.declared.piece.Piece.{Piece}
use Rattle.slab_index.specs.Held.{IsSlab, HaveSameNumbers, all_kept, all_coming}
use Rattle.slab_index.proofs.slabs.discard_all.Given as goal

-- the slabs so far have no segments that come
abbrev pub invariant-loop-place : goal.invariant-loop-place
invariant-loop-place l = record {
  slabs : All IsSlab l.slabs.items;
  numbers : HaveSameNumbers l.fn.slabs.items l.slabs.items;
  len : length l.slabs.items ≡ l.place-end;
  kept : all_kept l.slabs.items ≡ all_kept l.fn.slabs.items;
  coming : (f : Piece → Bool) → count_by f (all_coming l.slabs.items) ≡ count_by f (all_coming (drop l.place l.slabs.items));
}
