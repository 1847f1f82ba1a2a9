-- A removed edge: the faces on its two sides become one.
use Rattle.std.specs.Prelude.{ℕ, ◌+◌, Bool, not, ◌&&◌, List, [], ◌∷◌, ◌++◌, map, filter, Some, if◌then◌else◌}
use Rattle.std.specs.Option.{option_map}
use Rattle.topo_base.specs.declared.rows.NodeRow.{NodeRow}
use Rattle.std.specs.Str.{bytes_eq}
use Rattle.drawing.specs.Rows.{without_row}
use Rattle.drawing.specs.Drawing.{Drawing, Edge, edge_id_of, is_end_of, is_isolated}
use Rattle.drawing.specs.Relations.{features_of, follow, is_among, face_type}
use Rattle.drawing.specs.Outcome.{Accepted, the_face}

-- the same numbers in the same order
abbrev pub same_numbers : List ℕ → List ℕ → Bool
same_numbers ns ms = bytes_eq ns ms

-- the same features list both
abbrev pub have_same_features : Drawing → ℕ → ℕ → ℕ → Bool
have_same_features S type x y = same_numbers (features_of S type x) (features_of S type y)

-- a face that goes is now the one that stays
abbrev pub renamed : List ℕ → ℕ → ℕ → ℕ
renamed gone kept f = if is_among f gone then kept else f

abbrev pub renamed_edge : List ℕ → ℕ → Edge → Edge
renamed_edge gone kept e = record e { left_face = renamed gone kept e.left_face; right_face = renamed gone kept e.right_face }

-- an end node of the edge that has no other edge is isolated in the face that covers the place
abbrev pub renamed_node : Drawing → Edge → List ℕ → ℕ → NodeRow → NodeRow
renamed_node T e gone kept n =
    if is_end_of n.node_id e && is_isolated T n.node_id then record n { containing_face = Some kept }
    else record n { containing_face = option_map (renamed gone kept) n.containing_face }

-- the drawing without the edge, where these faces have become this one, and these faces are listed
abbrev pub without_edge : Drawing → Edge → List ℕ → ℕ → List ℕ → Drawing
without_edge S e gone kept faces =
    let T = record S { edges = without_row edge_id_of S.edges e.edge_id } in
    record T {
      nodes = map (renamed_node T e gone kept) S.nodes;
      edges = map (renamed_edge gone kept) (without_row edge_id_of S.edges e.edge_id);
      faces = faces;
      relations = follow S face_type gone (kept ∷ []);
    }

abbrev pub without_faces : Drawing → List ℕ → List ℕ
without_faces S gone = filter (λ f. not (is_among f gone)) S.faces

-- one of the two faces is kept and the other goes
abbrev pub merged_into_done : Drawing → Edge → ℕ → ℕ → Accepted
merged_into_done S e kept goes =
    record { drawing = without_edge S e (goes ∷ []) kept (without_faces S (goes ∷ [])); ids = the_face kept ∷ [] }

-- both go and a new face comes
abbrev pub merged_anew_done : Drawing → Edge → Accepted
merged_anew_done S e =
    let new = S.next_ids.face in
    let gone = e.left_face ∷ e.right_face ∷ [] in
    record { drawing = record (without_edge S e gone new (without_faces S gone ++ new ∷ [])) { next_ids = record (S.next_ids) { face = new + 1 } }; ids = the_face new ∷ [] }
