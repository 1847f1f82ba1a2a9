-- What contracts see of an index.
use Rattle.std.specs.Prelude.{◌≡◌, ℕ, Bool, false, List, []}
use Rattle.slab_index.specs.declared.piece.Piece.{Piece}

-- the segments that are kept, in no order; those that come and the edges that go with the change that is staged, if one is
pub record Index : Type 0 where
  pub kept : List Piece
  pub coming : List Piece
  pub gone : List ℕ
  pub staged : Bool

-- where no change is staged, nothing comes or goes
pub record IsIndex (i : Index) : Type 0 where
  pub nothing_comes : i.staged ≡ false → i.coming ≡ []
  pub nothing_goes : i.staged ≡ false → i.gone ≡ []
