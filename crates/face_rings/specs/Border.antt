-- The border of a face: its darts, each with the one that follows it.
use Rattle.std.specs.Prelude.{Bool, true, not, ◌&&◌, ◌||◌, ◌==◌, nat_lt, List, [], ◌∷◌, map, if◌then◌else◌}
use Rattle.std.specs.List.{list_all, list_any}
use Rattle.std.specs.declared.cmp.Ordering.{Ordering}
use Rattle.std.specs.declared.cmp.Ordering.TheVariants.{Less, Equal, Greater}
use Rattle.topo_base.specs.declared.ids.Dart.{Dart}
use Rattle.topo_base.specs.Darts.{same_dart}
use Rattle.face_rings.specs.declared.content.BorderDart.{BorderDart}

-- the one that comes first: by edge, forward before backward
abbrev pub dart_before : Dart → Dart → Bool
dart_before d e = nat_lt d.edge e.edge || d.edge == e.edge && d.forward && not e.forward

-- how they lie in this order
abbrev pub dart_order : Dart → Dart → Ordering
dart_order d e = if dart_before d e then Less else (if dart_before e d then Greater else Equal)

-- each dart comes before the one behind it, so none stands twice
abbrev pub darts_ascend : List BorderDart → Bool
darts_ascend [] = true
darts_ascend (a ∷ []) = true
darts_ascend (a ∷ b ∷ border) = dart_before a.dart b.dart && darts_ascend (b ∷ border)

-- the darts alone
abbrev pub darts_of : List BorderDart → List Dart
darts_of border = map (λ (b : BorderDart). b.dart) border

-- the dart that follows d
abbrev pub next_dart : List BorderDart → Dart → Dart
next_dart [] d = d
next_dart (b ∷ border) d = if same_dart b.dart d then b.next else next_dart border d

-- these darts have d
abbrev pub has_dart : List Dart → Dart → Bool
has_dart darts d = list_any (same_dart d) darts

-- no two darts have the same next dart
abbrev pub nexts_differ : List BorderDart → Bool
nexts_differ [] = true
nexts_differ (b ∷ border) = not (list_any (λ (c : BorderDart). same_dart c.next b.next) border) && nexts_differ border

-- besides, each next dart is one of the border
abbrev pub are_linked : List BorderDart → Bool
are_linked border = list_all (λ (b : BorderDart). has_dart (darts_of border) b.next) border && nexts_differ border
