-- Whether two darts are one.
use Rattle.std.specs.Prelude.{Bool, true, false, not, ◌&&◌, ◌==◌}
use Rattle.topo_base.specs.declared.ids.Dart.{Dart}

-- both forward, or both backward
abbrev pub same_way : Bool → Bool → Bool
same_way true b = b
same_way false b = not b

-- one edge, in one direction
abbrev pub same_dart : Dart → Dart → Bool
same_dart d c = d.edge == c.edge && same_way d.forward c.forward
