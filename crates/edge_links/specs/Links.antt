-- The links round a node after a dart that came.
use Rattle.std.specs.Prelude.{ℕ, ◌+◌, ◌-◌, Bool, true, false, ◌==◌, List, [], ◌∷◌, length, if◌then◌else◌}
use Rattle.std.specs.List.{position_or_len, slice_index_or}
use Rattle.topo_base.specs.declared.ids.Dart.{Dart}
use Rattle.topo_base.specs.declared.write.RowId.TheVariants.{Old}
use Rattle.topo_base.specs.declared.write.RowDart.{RowDart}
use Rattle.topo_base.specs.declared.write.Hand.{Hand}
use Rattle.topo_base.specs.declared.write.Hand.TheVariants.{Left, Right}
use Rattle.topo_base.specs.declared.write.RowWrite.{RowWrite}
use Rattle.topo_base.specs.declared.write.RowWrite.TheVariants.{SetNext}
use Rattle.topo_base.specs.Darts.{same_dart}

-- where a dart stands
abbrev pub place_of : Dart → List Dart → ℕ
place_of d darts = position_or_len (same_dart d) darts

-- the index after another, and before it, going round so many places
abbrev pub index_after : ℕ → ℕ → ℕ
index_after n i = if i + 1 == n then 0 else i + 1

abbrev pub index_before : ℕ → ℕ → ℕ
index_before n i = if i == 0 then n - 1 else i - 1

-- the dart at an index; and those after a dart and before it, going round: a lone dart is its own
abbrev pub dart_at : Dart → List Dart → ℕ → Dart
dart_at d darts i = slice_index_or darts i d

abbrev pub dart_after : Dart → List Dart → Dart
dart_after d darts = dart_at d darts (index_after (length darts) (place_of d darts))

abbrev pub dart_before : Dart → List Dart → Dart
dart_before d darts = dart_at d darts (index_before (length darts) (place_of d darts))

-- the hand of an edge on which the link of a dart walked back is: what follows the edge is on its left
abbrev pub hand_back : Bool → Hand
hand_back true = Right
hand_back false = Left

-- an edge as a row write names it
abbrev pub row_dart : Dart → RowDart
row_dart d = record { edge = Old d.edge; forward = d.forward }

-- what follows a dart walked back becomes another
abbrev pub link_back : Dart → Dart → RowWrite
link_back d next = SetNext (Old d.edge) (hand_back d.forward) (row_dart next)

-- the dart follows the one before it, walked back, and the one after it follows it walked back
abbrev pub links_round : Dart → List Dart → List RowWrite
links_round d darts = link_back (dart_before d darts) d ∷ link_back d (dart_after d darts) ∷ []
