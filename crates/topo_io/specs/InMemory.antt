-- Sources and sinks in memory that fail in listed calls.
use Rattle.std.specs.Prelude.{ℕ, Bool, List, ◌==◌}
use Rattle.std.specs.List.{list_any}
use Rattle.topo_io.specs.Causes.{next_count}

-- how many calls there were, the numbers of those that are to fail (the first call is 1), and how many failed
pub record Calls : Type 0 where
  pub made : ℕ
  pub to_fail : List ℕ
  pub failed : ℕ

-- no call yet
abbrev pub no_calls : List ℕ → Calls
no_calls to_fail = record { made = 0; to_fail = to_fail; failed = 0 }

-- whether the next call is to fail
abbrev pub is_to_fail : Calls → Bool
is_to_fail c = list_any (λ n. n == next_count c.made) c.to_fail

-- one more call, which did not fail
abbrev pub after_success : Calls → Calls
after_success c = record { made = next_count c.made; to_fail = c.to_fail; failed = c.failed }

-- one more call, which failed
abbrev pub after_failure : Calls → Calls
after_failure c = record { made = next_count c.made; to_fail = c.to_fail; failed = next_count c.failed }

-- the bytes that a source in memory has left, or a sink in memory holds, and its calls
pub record InMemory : Type 0 where
  pub bytes : List ℕ
  pub calls : Calls
