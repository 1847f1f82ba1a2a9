-- Two edges healed into one at a node that has no other edge.
use Rattle.std.specs.Prelude.{ℕ, ◌+◌, Bool, true, false, ◌==◌, List, [], ◌∷◌, ◌++◌, reverse, filter, find, Option, if◌then◌else◌}
use Rattle.plane.specs.Line.{joined}
use Rattle.drawing.specs.Rows.{without_row, with_change}
use Rattle.drawing.specs.Drawing.{Drawing, Edge, node_id_of, edge_id_of, is_end_of, has_only}
use Rattle.drawing.specs.HalfEdge.{HalfEdge, forward_of, backward_of}
use Rattle.drawing.specs.Relations.{follow, edge_type}
use Rattle.drawing.specs.Outcome.{Accepted, the_node, the_edge}

-- the edge starts and ends at one node
abbrev pub is_closed : Edge → Bool
is_closed e = e.start_node == e.end_node

-- the common nodes, the end of the first edge first
abbrev pub common_nodes : Edge → Edge → List ℕ
common_nodes e f = filter (λ n. is_end_of n f) (e.end_node ∷ e.start_node ∷ [])

abbrev pub is_nothing : List ℕ → Bool
is_nothing [] = true
is_nothing (n ∷ ns) = false

-- the healed node: the first common one that has no edge but the two
abbrev pub healed_node : Drawing → Edge → Edge → Option ℕ
healed_node S e f = find (λ n. has_only S n e.edge_id f.edge_id) (common_nodes e f)

-- the edge walked away from the node
abbrev pub away_from : ℕ → Edge → HalfEdge
away_from n f = if f.start_node == n then forward_of f else backward_of f

-- the joined edge: at the end of e it is e and then f, and else f walked up to the node and then e
abbrev pub joined_edge : ℕ → Edge → Edge → ℕ → Edge
joined_edge n e f id =
    let far = away_from n f in
    if n == e.end_node then record e { edge_id = id; end_node = far.to_node; geom = joined e.geom far.points }
    else record e { edge_id = id; start_node = far.to_node; geom = joined (reverse far.points) e.geom }

-- modedgeheal: the first edge is the result; newedgeheal: the result is a new edge
abbrev pub heal_mod_done : Drawing → Edge → Edge → ℕ → Accepted
heal_mod_done S e f n =
    record {
      drawing = record S {
        nodes = without_row node_id_of S.nodes n;
        edges = with_change edge_id_of (without_row edge_id_of S.edges f.edge_id) e.edge_id (λ x. joined_edge n x f x.edge_id);
        relations = follow S edge_type (e.edge_id ∷ f.edge_id ∷ []) (e.edge_id ∷ []);
      };
      ids = the_node n ∷ the_edge e.edge_id ∷ [];
    }

abbrev pub heal_new_done : Drawing → Edge → Edge → ℕ → Accepted
heal_new_done S e f n =
    let new = S.next_ids.edge in
    record {
      drawing = record S {
        nodes = without_row node_id_of S.nodes n;
        edges = without_row edge_id_of (without_row edge_id_of S.edges e.edge_id) f.edge_id ++ joined_edge n e f new ∷ [];
        relations = follow S edge_type (e.edge_id ∷ f.edge_id ∷ []) (new ∷ []);
        next_ids = record (S.next_ids) { edge = new + 1 };
      };
      ids = the_edge new ∷ the_node n ∷ [];
    }
