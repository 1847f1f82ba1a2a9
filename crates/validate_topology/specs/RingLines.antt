-- The lines of a report on the faces beside rings, and on shells.
use Rattle.std.specs.Prelude.{◌≡◌, ℕ, not, ◌==◌, List, ◌++◌, filter, flat_map, reverse, count_by, if◌then◌else◌}
use Rattle.topo_base.specs.declared.rows.FaceRow.{FaceRow}
use Rattle.drawing.specs.HalfEdge.{HalfEdge, half_edges, dart_of}
use Rattle.drawing.specs.Star.{next_of}
use Rattle.drawing.specs.Subdivision.{is_shell_of, rings}
use Rattle.drawing.specs.Tables.{Tables, drawn}
use Rattle.validate_topology.specs.OnlyIf.{only_if}
use Rattle.validate_topology.specs.declared.lines.ReportLine.{ReportLine}
use Rattle.validate_topology.specs.declared.lines.ReportLine.TheVariants.{RingSidesDiffer, FaceShells}

-- half-edges as signed edges ascend: those walked back, the one of the last edge first, and then the others
abbrev pub walked_back : List HalfEdge → List HalfEdge
walked_back hs = filter (λ (h : HalfEdge). not h.is_forward) (reverse hs)

abbrev pub walked_forward : List HalfEdge → List HalfEdge
walked_forward hs = filter (λ (h : HalfEdge). h.is_forward) hs

-- half-edges of these that have another face on their left than the one that is next
abbrev pub side_differs : HalfEdge → HalfEdge → List ReportLine
side_differs h next = only_if (not (h.on_left == next.on_left)) (RingSidesDiffer (dart_of h) (dart_of next))

abbrev pub side_line : List HalfEdge → HalfEdge → List ReportLine
side_line hs h = side_differs h (next_of hs h)

abbrev pub sides_differ : List HalfEdge → List HalfEdge → List ReportLine
sides_differ hs some = flat_map (side_line hs) some

-- faces that don't have one shell among these rings, or none where it is face 0
abbrev pub shells_due : ℕ → ℕ
shells_due f = if f == 0 then 0 else 1

abbrev pub shells_of : List (List HalfEdge) → ℕ → ℕ
shells_of all f = count_by (is_shell_of f) all

abbrev pub count_wrong : ℕ → ℕ → List ReportLine
count_wrong f count = only_if (not (count == shells_due f)) (FaceShells f count)

abbrev pub counts_wrong : (ℕ → ℕ) → List FaceRow → List ReportLine
counts_wrong count rows = flat_map (λ (f : FaceRow). count_wrong f.face_id (count f.face_id)) rows

-- the lines of the fourth stage: those on sides, and then those on shells
abbrev pub ring_lines : List HalfEdge → List FaceRow → List ReportLine
ring_lines hs faces = sides_differ hs (walked_back hs) ++ sides_differ hs (walked_forward hs) ++ counts_wrong (shells_of (rings hs)) faces

abbrev pub HasRingLines : Tables → List ReportLine → Type 0
HasRingLines t lines = lines ≡ ring_lines (half_edges (drawn t)) t.faces
