-- The darts of two edges that are healed, by the names of the joined edge.
use Rattle.std.specs.Prelude.{ℕ, Bool, not, ◌==◌, if◌then◌else◌}
use Rattle.topo_base.specs.declared.ids.Dart.{Dart}

-- where two edges are healed into one, which is walked forward (or not) from the first one on, a dart of the first that leaves its far node is that of the joined edge there, and one of the second that leaves its far node is the other
abbrev pub healed_name : ℕ → ℕ → ℕ → Bool → Dart → Dart
healed_name e f id way d =
    if d.edge == f then record { edge = id; forward = not way } else (if d.edge == e then record { edge = id; forward = way } else d)
