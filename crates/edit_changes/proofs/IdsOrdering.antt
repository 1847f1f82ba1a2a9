-- Rows stay in the order of their ids, by changes.
use Rattle.std.proofs.Common.{◌≡◌, ℕ, ◌+◌, ◌≤◌, refl, subst, append_assoc, arith, Bool, true, false, cond, not, IsTrue, List, [], ◌∷◌, ◌++◌, Option, Some, None}
use Rattle.std.specs.Prelude.{◌==◌}
use Rattle.std.proofs.lemmas.Bool.{and_from, and_parts}
use Rattle.topo_base.specs.Point.{Point}
use Rattle.topo_base.specs.declared.rows.NodeRow.{NodeRow}
use Rattle.topo_base.specs.declared.edit.Edit.{Edit}
use Rattle.drawing.specs.Drawing.{Drawing, Edge, nothing_drawn, node_id_of, edge_id_of, layer_id_of, feature_id_of}
use Rattle.drawing.specs.Subdivision.{ids_in_order, face_id_of}
use Rattle.drawing.specs.Replay.{after_all}
use Rattle.drawing.specs.Rows.{without_row}
use Rattle.drawing.specs.IsoEdits.{with_node, with_edge, put_in_face}
use Rattle.drawing.specs.HalfEdge.{half_edges}
use Rattle.drawing.specs.AddEdge.{Division, divided, divided_node, divided_edge}
use Rattle.drawing.specs.RemoveEdge.{without_edge, without_faces, renamed_node, renamed_edge}
use Rattle.drawing.specs.SplitEdge.{first_part, second_part}
use Rattle.drawing.specs.HealEdges.{joined_edge}
use Rattle.drawing.proofs.Ordering.{InOrder, InOrder-push, InOrder-filter, InOrder-map, InOrder-change}
use Rattle.drawing.specs.Change.{Change, NodeComes, NodeMoves, NodeGoes, EdgeComes, FaceIsDivided, FaceIsDividedAnew, LoneEdgeGoes, EdgeGoes, FacesJoin, FacesJoinAnew, EdgeIsCut, EdgeIsCutAnew, EdgesAreJoined, EdgesAreJoinedAnew, LayerComes, FeatureComes, FeatureLists, FeatureUnlists, FeatureGoes}
use Rattle.drawing.specs.Apply.{apply}
use Rattle.edit_changes.proofs.Histories.{all_changes}

-- the five parts of the test
pub record AllInOrder (S : Drawing) : Type 0 where
  pub nodes : InOrder node_id_of 1 S.next_ids.node S.nodes
  pub edges : InOrder edge_id_of 1 S.next_ids.edge S.edges
  pub faces : InOrder face_id_of 0 S.next_ids.face S.faces
  pub layers : InOrder layer_id_of 1 S.next_ids.layer S.layers
  pub features : InOrder feature_id_of 1 S.next_ids.feature S.features
  pub starts : (1 ≤ S.next_ids.node) × (1 ≤ S.next_ids.edge) × (1 ≤ S.next_ids.layer) × (1 ≤ S.next_ids.feature)

-- the test of all ids, and its parts
pub ids_of : (S : Drawing) → AllInOrder S → IsTrue (ids_in_order S)
ids_of S h = and_from _ _ (and_from _ _ (and_from _ _ (and_from _ _ h.nodes.test h.edges.test) h.faces.test) h.layers.test) h.features.test

pub order_of : (S : Drawing) → IsTrue (ids_in_order S) → (1 ≤ S.next_ids.node) × (1 ≤ S.next_ids.edge) × (1 ≤ S.next_ids.layer) × (1 ≤ S.next_ids.feature) → AllInOrder S
order_of S ids starts =
    let p4 = and_parts _ _ ids in
    let p3 = and_parts _ _ p4.0 in
    let p2 = and_parts _ _ p3.0 in
    let p1 = and_parts _ _ p2.0 in
    record { nodes = record { test = p1.0 }; edges = record { test = p1.1 }; faces = record { test = p2.1 }; layers = record { test = p3.1 }; features = record { test = p4.1 }; starts = starts }

-- ---- lists of rows
pub push_two : {R : Type 0} (id : R → ℕ) (low next : ℕ) (rows : List R) (x y : R) → id x ≡ next → id y ≡ next + 1 → low ≤ next → InOrder id low next rows → InOrder id low (next + 2) (rows ++ x ∷ y ∷ [])
push_two id low next rows x y ix iy from h =
    let two = InOrder-push id low (next + 1) (rows ++ x ∷ []) y iy (omega arith) (InOrder-push id low next rows x ix from h) in
    let e : next + 1 + 1 ≡ next + 2 = omega arith in
    subst (λ k. InOrder id low k (rows ++ x ∷ y ∷ [])) e (subst (InOrder id low (next + 1 + 1)) (append_assoc rows (x ∷ []) (y ∷ [])) two)

pub InOrder-without : {R : Type 0} (id : R → ℕ) (low next : ℕ) (rows : List R) (n : ℕ) → InOrder id low next rows → InOrder id low next (without_row id rows n)
InOrder-without id low next rows n h = InOrder-filter id low next (λ r. not (id r == n)) rows h

-- of the nodes, where the containing face of one is set
pub InOrder-put : (low next : ℕ) (face : Option ℕ) (n : ℕ) (nodes : List NodeRow) → InOrder node_id_of low next nodes → InOrder node_id_of low next (put_in_face face n nodes)
InOrder-put low next face n nodes h = InOrder-change node_id_of low next n (λ row. record row { containing_face = face }) nodes (λ r. refl) h

pub either_id : {R : Type 0} (id : R → ℕ) (b : Bool) (x y : R) (n : ℕ) → id x ≡ n → id y ≡ n → id (cond b x y) ≡ n
either_id id true x y n p q = p
either_id id false x y n p q = q

pub joined_id : (n : ℕ) (x f : Edge) (k : ℕ) → edge_id_of (joined_edge n x f k) ≡ k
joined_id n x f k = either_id edge_id_of _ _ _ k refl refl

-- ---- changes of several edits
node_more : (S : Drawing) (face : Option ℕ) (p : Point) → AllInOrder S → AllInOrder (with_node S face p)
node_more S face p h = let s = h.starts in record { nodes = InOrder-push node_id_of 1 S.next_ids.node S.nodes _ refl s.0 h.nodes; starts = (omega arith, s.1, s.2, s.3); edges = h.edges; faces = h.faces; layers = h.layers; features = h.features }

edge_more : (S : Drawing) (a b : NodeRow) (line : List Point) (f : ℕ) → AllInOrder S → AllInOrder (with_edge S a b line f)
edge_more S a b line f h =
    let s = h.starts in
    record { nodes = InOrder-put 1 S.next_ids.node None a.node_id _ (InOrder-put 1 S.next_ids.node None b.node_id S.nodes h.nodes); edges = InOrder-push edge_id_of 1 S.next_ids.edge S.edges _ refl s.1 h.edges; starts = (s.0, omega arith, s.2, s.3); faces = h.faces; layers = h.layers; features = h.features }

parts_made : (T : Drawing) (d : Division) (faces : List ℕ) (new : ℕ) → AllInOrder T → InOrder face_id_of 0 (T.next_ids.face + new) faces → AllInOrder (divided T d faces new)
parts_made T d faces new h made = record {
  nodes = InOrder-map node_id_of 1 T.next_ids.node (divided_node d) T.nodes (λ n. either_id node_id_of _ _ n (node_id_of n) refl refl) h.nodes;
  edges = InOrder-map edge_id_of 1 T.next_ids.edge (divided_edge d (half_edges T)) T.edges (λ e. refl) h.edges;
  faces = made;
  layers = h.layers;
  features = h.features;
  starts = h.starts;
}

edge_gone : (S : Drawing) (e : Edge) (gone : List ℕ) (kept : ℕ) (faces : List ℕ) (next : ℕ) → AllInOrder S → InOrder face_id_of 0 next faces → AllInOrder (record (without_edge S e gone kept faces) { next_ids = record (S.next_ids) { face = next } })
edge_gone S e gone kept faces next h made = record {
  nodes = InOrder-map node_id_of 1 S.next_ids.node (renamed_node (record S { edges = without_row edge_id_of S.edges e.edge_id }) e gone kept) S.nodes (λ n. either_id node_id_of _ _ _ (node_id_of n) refl refl) h.nodes;
  edges = InOrder-map edge_id_of 1 S.next_ids.edge (renamed_edge gone kept) _ (λ x. refl) (InOrder-without edge_id_of 1 S.next_ids.edge S.edges e.edge_id h.edges);
  faces = made;
  layers = h.layers;
  features = h.features;
  starts = h.starts;
}

gone_faces : (S : Drawing) (gone : List ℕ) → AllInOrder S → InOrder face_id_of 0 S.next_ids.face (without_faces S gone)
gone_faces S gone h = InOrder-filter face_id_of 0 S.next_ids.face _ S.faces h.faces

-- ---- each change
pub change_ordered : (S : Drawing) (c : Change) → AllInOrder S → AllInOrder ((apply S c).drawing)
change_ordered S (NodeComes face p) h = node_more S (Some face) p h
change_ordered S (NodeMoves n p) h = record { nodes = InOrder-change node_id_of 1 S.next_ids.node n.node_id (λ row. record row { geom = p }) S.nodes (λ r. refl) h.nodes; edges = h.edges; faces = h.faces; layers = h.layers; features = h.features; starts = h.starts }
change_ordered S (NodeGoes n) h = record { nodes = InOrder-without node_id_of 1 S.next_ids.node S.nodes n.node_id h.nodes; edges = h.edges; faces = h.faces; layers = h.layers; features = h.features; starts = h.starts }
change_ordered S (EdgeComes a b line face) h = edge_more S a b line face h
change_ordered S (FaceIsDivided a b line d) h = parts_made _ d _ 1 (edge_more S a b line d.face h) (InOrder-push face_id_of 0 S.next_ids.face S.faces S.next_ids.face refl (omega arith) h.faces)
change_ordered S (FaceIsDividedAnew a b line d) h =
    parts_made _ d _ 2 (edge_more S a b line d.face h) (push_two face_id_of 0 S.next_ids.face _ _ _ refl refl (omega arith) (InOrder-filter face_id_of 0 S.next_ids.face (λ g. not (g == d.face)) S.faces h.faces))
change_ordered S (LoneEdgeGoes e) h = record { nodes = InOrder-put 1 S.next_ids.node (Some e.left_face) e.start_node _ (InOrder-put 1 S.next_ids.node (Some e.left_face) e.end_node S.nodes h.nodes); edges = InOrder-without edge_id_of 1 S.next_ids.edge S.edges e.edge_id h.edges; faces = h.faces; layers = h.layers; features = h.features; starts = h.starts }
change_ordered S (EdgeGoes e) h = edge_gone S e [] e.left_face S.faces S.next_ids.face h h.faces
change_ordered S (FacesJoin e kept goes) h = edge_gone S e (goes ∷ []) kept _ S.next_ids.face h (gone_faces S (goes ∷ []) h)
change_ordered S (FacesJoinAnew e) h =
    let new = S.next_ids.face in
    let gone = e.left_face ∷ e.right_face ∷ [] in
    edge_gone S e gone new _ (new + 1) h (InOrder-push face_id_of 0 new (without_faces S gone) new refl (omega arith) (gone_faces S gone h))
change_ordered S (EdgeIsCut e p) h =
    let n = S.next_ids.node in
    let s = h.starts in
    let kept = InOrder-change edge_id_of 1 S.next_ids.edge e.edge_id (λ x. first_part x n p x.edge_id) S.edges (λ r. refl) h.edges in
    record { nodes = (node_more S None p h).nodes; edges = InOrder-push edge_id_of 1 S.next_ids.edge _ (second_part e n p S.next_ids.edge) refl s.1 kept; starts = (omega arith, omega arith, s.2, s.3); faces = h.faces; layers = h.layers; features = h.features }
change_ordered S (EdgeIsCutAnew e p) h =
    let s = h.starts in
    record { nodes = (node_more S None p h).nodes; edges = push_two edge_id_of 1 S.next_ids.edge _ _ _ refl refl s.1 (InOrder-without edge_id_of 1 S.next_ids.edge S.edges e.edge_id h.edges); starts = (omega arith, omega arith, s.2, s.3); faces = h.faces; layers = h.layers; features = h.features }
change_ordered S (EdgesAreJoined e f n) h = record {
  nodes = InOrder-without node_id_of 1 S.next_ids.node S.nodes n h.nodes;
  edges = InOrder-change edge_id_of 1 S.next_ids.edge e.edge_id (λ x. joined_edge n x f x.edge_id) (without_row edge_id_of S.edges f.edge_id) (λ x. joined_id n x f x.edge_id) (InOrder-without edge_id_of 1 S.next_ids.edge S.edges f.edge_id h.edges);
  faces = h.faces;
  layers = h.layers;
  features = h.features;
  starts = h.starts;
}
change_ordered S (EdgesAreJoinedAnew e f n) h =
    let s = h.starts in
    let new = S.next_ids.edge in
    record { nodes = InOrder-without node_id_of 1 S.next_ids.node S.nodes n h.nodes; edges = InOrder-push edge_id_of 1 new _ (joined_edge n e f new) (joined_id n e f new) s.1 (InOrder-without edge_id_of 1 S.next_ids.edge _ f.edge_id (InOrder-without edge_id_of 1 S.next_ids.edge S.edges e.edge_id h.edges)); starts = (s.0, omega arith, s.2, s.3); faces = h.faces; layers = h.layers; features = h.features }
change_ordered S (LayerComes name kind child level) h = let s = h.starts in record { layers = InOrder-push layer_id_of 1 S.next_ids.layer S.layers _ refl s.2 h.layers; starts = (s.0, s.1, omega arith, s.3); nodes = h.nodes; edges = h.edges; faces = h.faces; features = h.features }
change_ordered S (FeatureComes layer xs) h = let s = h.starts in record { features = InOrder-push feature_id_of 1 S.next_ids.feature S.features _ refl s.3 h.features; starts = (s.0, s.1, s.2, omega arith); nodes = h.nodes; edges = h.edges; faces = h.faces; layers = h.layers }
change_ordered S (FeatureLists row) h = record { nodes = h.nodes; edges = h.edges; faces = h.faces; layers = h.layers; features = h.features; starts = h.starts }
change_ordered S (FeatureUnlists row) h = record { nodes = h.nodes; edges = h.edges; faces = h.faces; layers = h.layers; features = h.features; starts = h.starts }
change_ordered S (FeatureGoes t) h = record { features = InOrder-without feature_id_of 1 S.next_ids.feature S.features t.feature_id h.features; nodes = h.nodes; edges = h.edges; faces = h.faces; layers = h.layers; starts = h.starts }

-- ---- and all of them
pub all_ordered : (S : Drawing) (es : List Edit) → AllInOrder S → AllInOrder (after_all S es)
all_ordered S es h = all_changes AllInOrder (λ T c _ k. change_ordered T c k) S es h

begun : AllInOrder nothing_drawn
begun = record { nodes = record { test = refl }; edges = record { test = refl }; faces = record { test = refl }; layers = record { test = refl }; features = record { test = refl }; starts = (omega arith, omega arith, omega arith, omega arith) }

pub ids_in_order_law : (es : List Edit) → IsTrue (ids_in_order (after_all nothing_drawn es))
ids_in_order_law es = ids_of (after_all nothing_drawn es) (all_ordered nothing_drawn es begun)
