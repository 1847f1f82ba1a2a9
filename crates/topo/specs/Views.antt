-- What is shown of the outside: what a source still has, what a sink has taken, and what stands on a disk.
use Rattle.std.specs.Prelude.{ℕ, List, Option}

pub record SourceView : Type 0 where
  pub left : Option (List ℕ)
  pub faults : ℕ

pub record SinkView : Type 0 where
  pub written : Option (List ℕ)
  pub faults : ℕ

-- whether it tells, what a read gives, and what a crash now may leave
pub record DiskView : Type 1 where
  pub tells : Type 0
  pub seen : List ℕ
  pub may_leave : List ℕ → Type 0
  pub faults : ℕ
