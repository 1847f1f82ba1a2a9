-- Added, removed and split edges, layers and features keep a drawing plain.
use Rattle.std.proofs.Common.{◌≡◌, ℕ, refl, Bool, true, false, cond, not, List}
use Rattle.std.specs.List.{Contains}
use Rattle.topo_base.specs.Point.{Point}
use Rattle.topo_base.specs.declared.rows.NodeRow.{NodeRow}
use Rattle.plane.specs.Line.{on_line, is_line_end, is_inside_line, first_vertex, last_vertex}
use Rattle.drawing.specs.Rows.{without_row}
use Rattle.drawing.specs.Drawing.{Drawing, Edge, node_id_of, edge_id_of}
use Rattle.drawing.specs.HalfEdge.{forward_of, backward_of, half_edges}
use Rattle.drawing.specs.AddEdge.{divided, divided_node, divided_edge, divided_side, Division}
use Rattle.drawing.specs.RemoveEdge.{without_edge, renamed, renamed_node, renamed_edge}
use Rattle.drawing.proofs.Ordering.{InOrder-filter, InOrder-map}
use Rattle.plane.proofs.LineTests.{at_from, Decides-inside_line}
use Rattle.drawing.proofs.Members.{ids_differ}
use Rattle.plane.proofs.LineParts.{cut}
use Rattle.drawing.proofs.PlainSplits.{IsSplit}
use Rattle.std.proofs.lemmas.Bool.{and_parts}
use Rattle.drawing.proofs.PlainChanges.{nodes_mapped, edges_filtered, sides_changed}
use Rattle.edit_changes.proofs.PlainStaying.{HasPlain}

-- either of two rows with this id and this point
either_row : (b : Bool) (x y r : NodeRow) → (x.node_id ≡ r.node_id) × (x.geom ≡ r.geom) → (y.node_id ≡ r.node_id) × (y.geom ≡ r.geom)
    → ((cond b x y).node_id ≡ r.node_id) × ((cond b x y).geom ≡ r.geom)
either_row true x y r h k = h
either_row false x y r h k = k

-- ---- added edges
divided_kept : (d : Division) (r : NodeRow) → ((divided_node d r).node_id ≡ r.node_id) × ((divided_node d r).geom ≡ r.geom)
divided_kept d r = either_row _ _ _ r (refl, refl) (refl, refl)

pub parts_made : (T : Drawing) (d : Division) (faces : List ℕ) (new : ℕ) → HasPlain T → HasPlain (divided T d faces new)
parts_made T d faces new h =
    let hs = half_edges T in
    record {
      parts = nodes_mapped (divided_node d) T.nodes _ (divided_kept d)
          (sides_changed (λ (e : Edge). divided_side d hs e.left_face (forward_of e)) (λ (e : Edge). divided_side d hs e.right_face (backward_of e)) T.nodes T.edges h.parts);
      ids = InOrder-map node_id_of 0 T.next_ids.node (divided_node d) T.nodes (λ r. (divided_kept d r).0) h.ids;
      edge_ids = InOrder-map edge_id_of 0 T.next_ids.edge (divided_edge d hs) T.edges (λ e. refl) h.edge_ids;
    }

-- ---- removed edges
renamed_kept : (T : Drawing) (e : Edge) (gone : List ℕ) (kept : ℕ) (r : NodeRow) → ((renamed_node T e gone kept r).node_id ≡ r.node_id) × ((renamed_node T e gone kept r).geom ≡ r.geom)
renamed_kept T e gone kept r = either_row _ _ _ r (refl, refl) (refl, refl)

pub edge_gone : (S : Drawing) (e : Edge) (gone : List ℕ) (kept : ℕ) (faces : List ℕ) (next : ℕ) → HasPlain S
    → HasPlain (record (without_edge S e gone kept faces) { next_ids = record (S.next_ids) { face = next } })
edge_gone S e gone kept faces next h =
    let T = record S { edges = without_row edge_id_of S.edges e.edge_id } in
    record {
      parts = nodes_mapped (renamed_node T e gone kept) S.nodes _ (renamed_kept T e gone kept)
          (sides_changed (λ (x : Edge). renamed gone kept x.left_face) (λ (x : Edge). renamed gone kept x.right_face) S.nodes _ (edges_filtered _ S.nodes S.edges h.parts));
      ids = InOrder-map node_id_of 0 S.next_ids.node (renamed_node T e gone kept) S.nodes (λ r. (renamed_kept T e gone kept r).0) h.ids;
      edge_ids = InOrder-map edge_id_of 0 S.next_ids.edge (renamed_edge gone kept) _ (λ x. refl) (InOrder-filter edge_id_of 0 S.next_ids.edge _ S.edges h.edge_ids);
    }

-- ---- split edges
pub cut_at : (S : Drawing) (e : Edge) (p : Point) → HasPlain S → Contains S.edges e → is_inside_line p e.geom ≡ true → IsSplit S.nodes S.edges e p
cut_at S e p h c inside =
    let on = (and_parts (on_line p e.geom) (not (is_line_end p e.geom)) inside).0 in
    let ends = (Decides-inside_line p e.geom).0 inside in
    record {
      plain = h.parts;
      ids = ids_differ node_id_of 0 S.next_ids.node S.nodes h.ids;
      there = c;
      cut = cut p e.geom on;
      not_first = λ s. ends.1 (at_from p (first_vertex e.geom) s);
      not_last = λ s. ends.2 (at_from p (last_vertex e.geom) s);
    }
