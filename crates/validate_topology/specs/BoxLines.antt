-- The lines of a report on boxes.
use Rattle.std.specs.Prelude.{◌≡◌, ℕ, Bool, true, false, not, ◌&&◌, ◌==◌, if◌then◌else◌, List, ◌++◌, filter, flat_map, fold, Option, Some, None}
use Rattle.std.specs.Ordering.{int_eq}
use Rattle.topo_base.specs.Point.{Point}
use Rattle.topo_base.specs.declared.rows.Box4.{Box4}
use Rattle.topo_base.specs.declared.rows.FaceRow.{FaceRow}
use Rattle.drawing.specs.Drawing.{Edge}
use Rattle.drawing.specs.Tables.{Tables, box_at, drawn, face_box, has_side, least_box, wider}
use Rattle.validate_topology.specs.OnlyIf.{only_if}
use Rattle.validate_topology.specs.declared.lines.ReportLine.{ReportLine}
use Rattle.validate_topology.specs.declared.lines.ReportLine.TheVariants.{FaceBoxWrong}

-- the least box of a box, if there is one, and a point; and more points
abbrev pub box_with : Option Box4 → Point → Option Box4
box_with None p = Some (box_at p)
box_with (Some b) p = Some (wider b p)

abbrev pub box_of_all : Option Box4 → List Point → Option Box4
box_of_all mbr ps = fold box_with mbr ps

-- the least box of the vertices of the edges that have the face on a side
abbrev pub box_beside : List Edge → ℕ → Option Box4
box_beside edges f = least_box (flat_map (λ (e : Edge). e.geom) (filter (has_side f) edges))

-- the same, where face 0 has none
abbrev pub least_of : List Edge → ℕ → Option Box4
least_of edges f = if f == 0 then None else box_beside edges f

-- a test that two boxes are one
abbrev pub equal_boxes : Box4 → Box4 → Bool
equal_boxes a b = int_eq a.min_x b.min_x && int_eq a.min_y b.min_y && int_eq a.max_x b.max_x && int_eq a.max_y b.max_y

abbrev pub same_box : Option Box4 → Option Box4 → Bool
same_box None None = true
same_box (Some a) (Some b) = equal_boxes a b
same_box a b = false

-- faces whose box isn't the least one
abbrev pub wrong_boxes : (ℕ → Option Box4) → List FaceRow → List ReportLine
wrong_boxes least rows = flat_map (λ (f : FaceRow). only_if (not (same_box f.mbr (least f.face_id))) (FaceBoxWrong f.face_id)) rows
