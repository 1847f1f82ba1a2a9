-- An edge split at a point of its line.
use Rattle.std.specs.Prelude.{ℕ, ◌+◌, [], ◌∷◌, ◌++◌, None}
use Rattle.topo_base.specs.Point.{Point}
use Rattle.plane.specs.Line.{line_up_to, line_from}
use Rattle.drawing.specs.Rows.{without_row, with_change}
use Rattle.drawing.specs.Drawing.{Drawing, Edge, edge_id_of}
use Rattle.drawing.specs.Relations.{follow, edge_type}
use Rattle.drawing.specs.Outcome.{Accepted, the_node, the_edge}
use Rattle.drawing.specs.IsoEdits.{with_node}

-- the part of the edge up to the node n at p, and from it on, with an id of its own
abbrev pub first_part : Edge → ℕ → Point → ℕ → Edge
first_part e n p id = record e { edge_id = id; end_node = n; geom = line_up_to p e.geom }

abbrev pub second_part : Edge → ℕ → Point → ℕ → Edge
second_part e n p id = record e { edge_id = id; start_node = n; geom = line_from p e.geom }

-- modedgesplit: the edge becomes its first part
abbrev pub split_mod_done : Drawing → Edge → Point → Accepted
split_mod_done S e p =
    let n = S.next_ids.node in
    let new = S.next_ids.edge in
    let T = with_node S None p in
    record {
      drawing = record T {
        edges = with_change edge_id_of S.edges e.edge_id (λ x. first_part x n p x.edge_id) ++ second_part e n p new ∷ [];
        relations = follow S edge_type (e.edge_id ∷ []) (e.edge_id ∷ new ∷ []);
        next_ids = record (T.next_ids) { edge = new + 1 };
      };
      ids = the_node n ∷ the_edge new ∷ [];
    }

-- newedgessplit: the edge goes and both parts are new
abbrev pub split_new_done : Drawing → Edge → Point → Accepted
split_new_done S e p =
    let n = S.next_ids.node in
    let new = S.next_ids.edge in
    let T = with_node S None p in
    record {
      drawing = record T {
        edges = without_row edge_id_of S.edges e.edge_id ++ first_part e n p new ∷ second_part e n p (new + 1) ∷ [];
        relations = follow S edge_type (e.edge_id ∷ []) (new ∷ (new + 1) ∷ []);
        next_ids = record (T.next_ids) { edge = new + 2 };
      };
      ids = the_node n ∷ the_edge new ∷ the_edge (new + 1) ∷ [];
    }
