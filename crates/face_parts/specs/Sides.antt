-- The row writes by which sides and containing faces follow the division of a face.
use Rattle.std.specs.Prelude.{ℕ, Bool, true, false, ◌==◌, nat_eq, List, [], ◌∷◌, map, flat_map, Some, if◌then◌else◌}
use Rattle.std.specs.Option.{option_eq}
use Rattle.topo_base.specs.Point.{Point}
use Rattle.topo_base.specs.declared.ids.Dart.{Dart}
use Rattle.topo_base.specs.declared.rows.EdgeRow.{EdgeRow}
use Rattle.topo_base.specs.declared.rows.NodeRow.{NodeRow}
use Rattle.topo_base.specs.declared.write.RowId.TheVariants.{Old}
use Rattle.topo_base.specs.declared.write.Hand.{Hand}
use Rattle.topo_base.specs.declared.write.Hand.TheVariants.{Left, Right}
use Rattle.topo_base.specs.declared.write.RowWrite.{RowWrite}
use Rattle.topo_base.specs.declared.write.RowWrite.TheVariants.{SetSide, SetContaining}
use Rattle.face_rings.specs.Border.{has_dart}

-- a dart of an edge, and the hand on which its left side stands
abbrev pub dart_along : Bool → ℕ → Dart
dart_along forward edge = record { edge = edge; forward = forward }

abbrev pub hand_of : Bool → Hand
hand_of true = Left
hand_of false = Right

-- the side on the left of a dart becomes the part
abbrev pub set_side : ℕ → Dart → RowWrite
set_side part d = SetSide (Old d.edge) (hand_of d.forward) (Old part)

-- the writes of a ring, if it comes into another face, and of some rings
abbrev pub ring_writes : (List Dart → ℕ) → ℕ → List Dart → List RowWrite
ring_writes part f ring = if part ring == f then [] else map (set_side (part ring)) ring

abbrev pub side_writes : (List Dart → ℕ) → ℕ → List (List Dart) → List RowWrite
side_writes part f all = flat_map (ring_writes part f) all

-- a row with the parts of those of its darts that are among these
abbrev pub part_or : (Dart → ℕ) → List Dart → Dart → ℕ → ℕ
part_or part darts d face = if has_dart darts d then part d else face

abbrev pub with_parts : (Dart → ℕ) → List Dart → EdgeRow → EdgeRow
with_parts part darts e =
    record e { left_face = part_or part darts (dart_along true e.edge_id) e.left_face; right_face = part_or part darts (dart_along false e.edge_id) e.right_face }

-- a node in the face comes into the part that has its point
abbrev pub lies_in : ℕ → NodeRow → Bool
lies_in f n = option_eq nat_eq n.containing_face (Some f)

abbrev pub in_part : (Point → ℕ) → ℕ → NodeRow → NodeRow
in_part part f n = if lies_in f n then record n { containing_face = Some (part n.geom) } else n

abbrev pub set_containing : ℕ → NodeRow → RowWrite
set_containing part n = SetContaining (Old n.node_id) (Some (Old part))

abbrev pub node_write : (Point → ℕ) → ℕ → NodeRow → List RowWrite
node_write part f n = if lies_in f n then (if part n.geom == f then [] else set_containing (part n.geom) n ∷ []) else []

abbrev pub node_writes : (Point → ℕ) → ℕ → List NodeRow → List RowWrite
node_writes part f nodes = flat_map (node_write part f) nodes
