-- The darts of an edge that is split, by the names of its parts.
use Rattle.std.specs.Prelude.{ℕ, ◌==◌, if◌then◌else◌}
use Rattle.topo_base.specs.declared.ids.Dart.{Dart}

-- where the edge is split into a first and a second part, a dart of it that leaves one of its nodes is that of the part there
abbrev pub renamed : ℕ → ℕ → ℕ → Dart → Dart
renamed edge first second d =
    if d.edge == edge then record { edge = if d.forward then first else second; forward = d.forward } else d
