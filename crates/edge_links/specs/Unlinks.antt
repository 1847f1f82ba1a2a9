-- The links round a node after an edge that goes.
use Rattle.std.specs.Prelude.{ℕ, Bool, not, ◌&&◌, ◌==◌, List, [], ◌∷◌, map, filter, if◌then◌else◌}
use Rattle.topo_base.specs.declared.ids.Dart.{Dart}
use Rattle.topo_base.specs.declared.write.RowWrite.{RowWrite}
use Rattle.edge_links.specs.Links.{dart_at, dart_after, link_back}

-- a dart of another edge, and those that stay where the edge goes
abbrev pub is_other : ℕ → Dart → Bool
is_other edge d = not (d.edge == edge)

abbrev pub others : ℕ → List Dart → List Dart
others edge darts = filter (is_other edge) darts

-- what stands next to a dart, going round all, where these stand behind it
abbrev pub next_round : Dart → List Dart → List Dart → Dart
next_round d all behind = dart_at (dart_at d all 0) behind 0

-- it stays, and what stands next to it goes
abbrev pub stands_before : ℕ → List Dart → Dart → List Dart → Bool
stands_before edge all d behind = is_other edge d && not (is_other edge (next_round d all behind))

-- those of some, the last ones of all, that do so
abbrev pub before_gone : ℕ → List Dart → List Dart → List Dart
before_gone edge all [] = []
before_gone edge all (d ∷ behind) = if stands_before edge all d behind then d ∷ before_gone edge all behind else before_gone edge all behind

-- each of them, walked back, is followed by the dart next to it among those that stay
abbrev pub unlinks_round : ℕ → List Dart → List RowWrite
unlinks_round edge darts = map (λ d. link_back d (dart_after d (others edge darts))) (before_gone edge darts darts)
