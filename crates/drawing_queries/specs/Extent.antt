-- The least box of the vertices beside a face.
use Rattle.std.specs.Prelude.{ℕ, Bool, false, not, ◌==◌, List, filter, flat_map, fold, Option, Some, None}
use Rattle.topo_base.specs.Point.{Point}
use Rattle.topo_base.specs.declared.rows.Box4.{Box4}
use Rattle.drawing.specs.Drawing.{Edge}
use Rattle.drawing.specs.Tables.{wider, least_box, has_side}

-- a least box with these points more
abbrev pub grown : Option Box4 → List Point → Option Box4
grown None ps = least_box ps
grown (Some b) ps = Some (fold wider b ps)

-- the edge is the one that is left out, if any is
abbrev pub is_left_out : Option ℕ → Edge → Bool
is_left_out None x = false
is_left_out (Some e) x = x.edge_id == e

-- the vertices of the edges, but for the one that is left out, that have the face on a side
abbrev pub vertices_beside : ℕ → Option ℕ → List Edge → List Point
vertices_beside f out edges = flat_map (λ (x : Edge). x.geom) (filter (has_side f) (filter (λ x. not (is_left_out out x)) edges))
