-- The lines of a report on what lies in another face than the tables say.
use Rattle.std.specs.Prelude.{◌≡◌, ℕ, Bool, true, false, not, ◌&&◌, ◌==◌, List, [], ◌∷◌, ◌++◌, flat_map, reverse, Option, Some, None, if◌then◌else◌}
use Rattle.topo_base.specs.Darts.{same_way}
use Rattle.topo_base.specs.Point.{Point}
use Rattle.topo_base.specs.declared.rows.NodeRow.{NodeRow}
use Rattle.plane.specs.ClosedWalk.{top_of}
use Rattle.drawing.specs.HalfEdge.{HalfEdge, half_edges, dart_of}
use Rattle.drawing.specs.Ring.{is_hole, ring_segments}
use Rattle.drawing.specs.Subdivision.{rings}
use Rattle.drawing.specs.Tables.{Tables, drawn, face_box}
use Rattle.validate_topology.specs.BoxLines.{wrong_boxes}
use Rattle.validate_topology.specs.FaceAbove.{IsFaceAbove}
use Rattle.validate_topology.specs.OnlyIf.{only_if}
use Rattle.validate_topology.specs.declared.lines.ReportLine.{ReportLine}
use Rattle.validate_topology.specs.declared.lines.ReportLine.TheVariants.{HoleInOtherFace, NodeInOtherFace}

-- a hole, begun with this half-edge, whose face isn't this one, which is above its top vertex
abbrev pub hole_elsewhere : HalfEdge → ℕ → List ReportLine
hole_elsewhere h face = only_if (not (h.on_left == face)) (HoleInOtherFace (dart_of h) face)

-- the line of a ring that begins with a half-edge walked in this direction
abbrev pub hole_line : (Point → ℕ) → Bool → List HalfEdge → List ReportLine
hole_line above forward [] = []
hole_line above forward (h ∷ ring) =
    if is_hole (h ∷ ring) && same_way h.is_forward forward then hole_elsewhere h (above (top_of (ring_segments (h ∷ ring)))) else []

-- signed edges ascend, so those walked back come first, the one of the last edge before the others
abbrev pub hole_lines : (Point → ℕ) → List (List HalfEdge) → List ReportLine
hole_lines above all = flat_map (hole_line above false) (reverse all) ++ flat_map (hole_line above true) all

-- isolated nodes whose containing face isn't the one above them
abbrev pub node_line : (Point → ℕ) → NodeRow → Option ℕ → List ReportLine
node_line above n None = []
node_line above n (Some f) = only_if (not (f == above n.geom)) (NodeInOtherFace n.node_id (above n.geom))

abbrev pub node_lines : (Point → ℕ) → List NodeRow → List ReportLine
node_lines above rows = flat_map (λ (n : NodeRow). node_line above n n.containing_face) rows

-- the lines of the last stage: those on holes, those on isolated nodes, and those on boxes
pub record HasPlaceLines (t : Tables) (lines : List ReportLine) : Type 0 where
  pub above : Point → ℕ
  pub is_above : (p : Point) → IsFaceAbove t.edges p (above p)
  pub all : lines ≡ hole_lines above (rings (half_edges (drawn t))) ++ node_lines above t.nodes ++ wrong_boxes (face_box (drawn t)) t.faces
