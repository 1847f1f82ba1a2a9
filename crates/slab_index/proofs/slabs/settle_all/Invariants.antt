use Rattle.std.proofs.Common.{◌≡◌, ◌+◌, All, Bool, not, ◌&&◌, length, drop}
use Rattle.std.specs.Prelude.{count_by}
use Rattle.slab_index.specs.declared.piece.Piece.{Piece}
use Rattle.slab_index.specs.Pieces.{is_gone}
use Rattle.slab_index.specs.Held.{IsSlab, HaveSameNumbers, all_kept, all_coming}
use Rattle.slab_index.proofs.slabs.settle_all.Given as goal

-- what is kept so far, with what the rest of the slabs gives, is what all give
abbrev pub invariant-loop-place : goal.invariant-loop-place
invariant-loop-place l = record {
  slabs : All IsSlab l.slabs.items;
  numbers : HaveSameNumbers l.fn.slabs.items l.slabs.items;
  len : length l.slabs.items ≡ l.place-end;
  kept : (f : Piece → Bool) → count_by f (all_kept l.slabs.items) + (count_by (λ e. f e && not (is_gone l.gone e)) (all_kept (drop l.place l.slabs.items)) + count_by f (all_coming (drop l.place l.slabs.items)))
      ≡ count_by f (all_kept (drop l.place l.slabs.items)) + (count_by (λ e. f e && not (is_gone l.gone e)) (all_kept l.fn.slabs.items) + count_by f (all_coming l.fn.slabs.items));
  coming : (f : Piece → Bool) → count_by f (all_coming l.slabs.items) ≡ count_by f (all_coming (drop l.place l.slabs.items));
}
