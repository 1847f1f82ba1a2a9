-- The border of a face out of rows of edges, and a border with a changed link.
use Rattle.std.specs.Prelude.{ℕ, Bool, true, false, ◌==◌, List, [], ◌∷◌, ◌++◌, flat_map, map, if◌then◌else◌}
use Rattle.topo_base.specs.Darts.{same_dart}
use Rattle.topo_base.specs.declared.ids.Dart.{Dart}
use Rattle.topo_base.specs.declared.rows.EdgeRow.{EdgeRow}
use Rattle.face_rings.specs.declared.content.BorderDart.{BorderDart}

-- the darts of an edge that have the face on their left: the edge forward, and backward
abbrev pub forward_dart : EdgeRow → BorderDart
forward_dart e = let d : Dart = record { edge = e.edge_id; forward = true } in record { dart = d; next = e.next_left_edge }

abbrev pub backward_dart : EdgeRow → BorderDart
backward_dart e = let d : Dart = record { edge = e.edge_id; forward = false } in record { dart = d; next = e.next_right_edge }

abbrev pub only_if : Bool → BorderDart → List BorderDart
only_if b one = if b then one ∷ [] else []

abbrev pub row_border : ℕ → EdgeRow → List BorderDart
row_border f e = only_if (e.left_face == f) (forward_dart e) ++ only_if (e.right_face == f) (backward_dart e)

abbrev pub rows_border : ℕ → List EdgeRow → List BorderDart
rows_border f rows = flat_map (row_border f) rows

-- the same darts, where d is followed by another
abbrev pub with_next : Dart → Dart → List BorderDart → List BorderDart
with_next d next border = map (λ (b : BorderDart). if same_dart b.dart d then record b { next = next } else b) border
