-- Isolated nodes and isolated edges.
use Rattle.std.specs.Prelude.{ℕ, ◌+◌, Bool, true, false, not, ◌&&◌, ◌==◌, List, [], ◌∷◌, ◌++◌, Option, Some, None}
use Rattle.topo_base.specs.Point.{Point}
use Rattle.topo_base.specs.declared.rows.NodeRow.{NodeRow}
use Rattle.drawing.specs.Rows.{with_change}
use Rattle.drawing.specs.Drawing.{Drawing, Edge, node_id_of, has_face, has_only}
use Rattle.drawing.specs.Relations.{features_of}

-- any face is accepted where none is given
abbrev pub accepts_face : Drawing → Option ℕ → Bool
accepts_face S None = true
accepts_face S (Some f) = has_face S f

abbrev pub is_given_face : Option ℕ → ℕ → Bool
is_given_face None g = true
is_given_face (Some f) g = f == g

-- a feature lists it
abbrev pub is_in_feature : Drawing → ℕ → ℕ → Bool
is_in_feature S type id = is_listed (features_of S type id)
  where
    is_listed : List ℕ → Bool
    is_listed [] = false
    is_listed (t ∷ ts) = true

-- the nodes with a node more; with another containing face of one; with another point of one
abbrev pub with_node : Drawing → Option ℕ → Point → Drawing
with_node S face p =
    record S { nodes = S.nodes ++ record { node_id = S.next_ids.node; containing_face = face; geom = p } ∷ []; next_ids = record (S.next_ids) { node = S.next_ids.node + 1 } }

abbrev pub put_in_face : Option ℕ → ℕ → List NodeRow → List NodeRow
put_in_face face n nodes = with_change node_id_of nodes n (λ row. record row { containing_face = face })

abbrev pub put_at : Point → ℕ → List NodeRow → List NodeRow
put_at p n nodes = with_change node_id_of nodes n (λ row. record row { geom = p })

-- the edges with an edge more, with this face on both sides, whose nodes are isolated no more
abbrev pub with_edge : Drawing → NodeRow → NodeRow → List Point → ℕ → Drawing
with_edge S a b line face =
    record S {
      nodes = put_in_face None a.node_id (put_in_face None b.node_id S.nodes);
      edges = S.edges ++ record { edge_id = S.next_ids.edge; start_node = a.node_id; end_node = b.node_id; left_face = face; right_face = face; geom = line } ∷ [];
      next_ids = record (S.next_ids) { edge = S.next_ids.edge + 1 };
    }

-- an edge is isolated where its nodes differ and neither has another edge
abbrev pub is_isolated_edge : Drawing → Edge → Bool
is_isolated_edge S e =
    not (e.start_node == e.end_node) && has_only S e.start_node e.edge_id e.edge_id && has_only S e.end_node e.edge_id e.edge_id
