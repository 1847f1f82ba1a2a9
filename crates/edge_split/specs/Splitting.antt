-- The rows of a drawing in which an edge is split.
use Rattle.std.specs.Prelude.{◌≡◌, ℕ, ◌+◌, Bool, if◌then◌else◌, IsTrue, Contains, List, [], ◌∷◌, ◌++◌, map, None, Some}
use Rattle.topo_base.specs.Point.{Point}
use Rattle.topo_base.specs.declared.rows.EdgeRow.{EdgeRow}
use Rattle.topo_base.specs.declared.rows.FeatureRow.{FeatureRow}
use Rattle.drawing.specs.Content.{listing}
use Rattle.drawing.specs.Drawing.{Drawing, Edge, edge_at, edge_id_of}
use Rattle.drawing.specs.IsoEdits.{with_node}
use Rattle.plane.specs.Line.{is_inside_line}
use Rattle.drawing.specs.Outcome.{Accepted}
use Rattle.drawing.specs.Relations.{edge_type, follow, lists_element}
use Rattle.drawing.specs.Rows.{with_change, without_row}
use Rattle.drawing.specs.SplitEdge.{first_part, second_part, split_mod_done, split_new_done}
use Rattle.drawing.specs.Tables.{Tables, drawn, drawn_edge, face_row, tables_of}
use Rattle.relation_rows.specs.Following.{AreFeaturesOf}

-- the row of an edge is there, and the point lies inside its line
pub record IsCut (S : Drawing) (r : EdgeRow) (p : Point) : Type 0 where
  pub there : Contains (tables_of S).edges r
  pub named : edge_at S r.edge_id ≡ Some (drawn_edge r)
  pub inside : IsTrue (is_inside_line p r.geom)

-- the features that list the edge are features of the tables
abbrev pub HasFeaturesOf : Tables → ℕ → Type 0
HasFeaturesOf t edge = (features : List FeatureRow) → features ≡ listing (lists_element (drawn t) edge_type edge) (drawn t) → AreFeaturesOf t edge_type edge features

-- modedgesplit, before features follow
abbrev pub mod_edges : Drawing → Edge → Point → List Edge
mod_edges S e p =
    with_change edge_id_of S.edges e.edge_id (λ x. first_part x S.next_ids.node p x.edge_id) ++ second_part e S.next_ids.node p S.next_ids.edge ∷ []

abbrev pub split_mod_in : Drawing → Edge → Point → Drawing
split_mod_in S e p =
    let T = with_node S None p in record T { edges = mod_edges S e p; next_ids = record (T.next_ids) { edge = S.next_ids.edge + 1 } }

-- newedgessplit
abbrev pub new_edges : Drawing → Edge → Point → List Edge
new_edges S e p =
    without_row edge_id_of S.edges e.edge_id ++ first_part e S.next_ids.node p S.next_ids.edge ∷ second_part e S.next_ids.node p (S.next_ids.edge + 1) ∷ []

abbrev pub split_new_in : Drawing → Edge → Point → Drawing
split_new_in S e p =
    let T = with_node S None p in record T { edges = new_edges S e p; next_ids = record (T.next_ids) { edge = S.next_ids.edge + 2 } }

-- the rows of a drawing, with the boxes of another
abbrev pub rows_boxed_as : Drawing → Drawing → Tables
rows_boxed_as S T = record (tables_of T) { faces = map (face_row S) S.faces }

-- features that list the edge list both parts
abbrev pub followed_rows : Tables → ℕ → ℕ → ℕ → Tables
followed_rows t edge first second = record t { relations = follow (drawn t) edge_type (edge ∷ []) (first ∷ second ∷ []) }

-- what is done: both parts are new, or the edge is the first
abbrev pub done_by : Bool → Drawing → Edge → Point → Accepted
done_by anew S e p = if anew then split_new_done S e p else split_mod_done S e p
