-- The faces of nodes and edges that were found, where they are known.
use Rattle.std.proofs.Common.{◌≡◌, ℕ, ◌==◌, ◌&&◌, refl, subst, Option, Some, None, true, Bool, unwrap_or, ⊎_elim, IsTrue, List, [], ◌∷◌, ◌||◌, false}
use Rattle.std.specs.List.{list_all, list_any, Contains}
use Rattle.std.proofs.lemmas.Bool.{and_parts, and_from}
use Rattle.topo_base.specs.Point.{same_point}
use Rattle.topo_base.specs.declared.rows.NodeRow.{NodeRow}
use Rattle.drawing.specs.Drawing.{Drawing, Edge, node_id_of, edge_id_of, layer_id_of, feature_id_of, node_at, edge_at, has_node, has_face, is_isolated}
use Rattle.drawing.specs.IsoEdits.{accepts_face}
use Rattle.plane.specs.Line.{segments_of, first_vertex, last_vertex, is_proper}
use Rattle.drawing.specs.Plain.{IsPlain, is_between_nodes, has_point}
use Rattle.drawing.specs.Rows.{has_row}
use Rattle.plane.proofs.ListTests.{all_weaker, contains_none, contains_cases}
use Rattle.drawing.proofs.Members.{contains-found}
use Rattle.drawing.specs.Subdivision.{ids_in_order, rows_in_order, face_id_of, is_edge_known, is_face_known, is_node_known, references_known}
use Rattle.relation_rows.proofs.KnownFeatures.{references_parts}
use Rattle.read_set.specs.Ready.{IsReady}

-- ---- faces that are known
abbrev knows_containing : Drawing → NodeRow → Bool
knows_containing S n = accepts_face S n.containing_face

abbrev knows_sides : Drawing → Edge → Bool
knows_sides S e = has_face S e.left_face && has_face S e.right_face

-- face 0 is listed, and so are containing faces and sides; the ids of faces ascend, below the next one
pub record KnowsFaces (S : Drawing) : Type 0 where
  pub universe : IsTrue (has_face S 0)
  pub containing : IsTrue (list_all (knows_containing S) S.nodes)
  pub sides : IsTrue (list_all (knows_sides S) S.edges)
  pub ids : IsTrue (rows_in_order face_id_of 0 S.next_ids.face S.faces)

containing_known : (S : Drawing) (n : NodeRow) → is_node_known S n ≡ true → knows_containing S n ≡ true
containing_known S n h = by n.containing_face (is_isolated S n.node_id) h
  where
    by : (face : Option ℕ) (isolated : Bool) → is_face_known S face isolated ≡ true → accepts_face S face ≡ true
    by None isolated known = refl
    by (Some f) isolated known = (and_parts isolated (has_face S f) known).1

sides_known : (S : Drawing) (e : Edge) → is_edge_known S e ≡ true → knows_sides S e ≡ true
sides_known S e h =
    let right = and_parts (has_node S e.start_node && has_node S e.end_node && has_face S e.left_face) (has_face S e.right_face) h in
    let left = and_parts (has_node S e.start_node && has_node S e.end_node) (has_face S e.left_face) right.0 in
    and_from (has_face S e.left_face) (has_face S e.right_face) left.1 right.1

faces_in_order : (S : Drawing) → IsTrue (ids_in_order S) → IsTrue (rows_in_order face_id_of 0 S.next_ids.face S.faces)
faces_in_order S h =
    let features = and_parts _ (rows_in_order feature_id_of 1 S.next_ids.feature S.features) h in
    let layers = and_parts _ (rows_in_order layer_id_of 1 S.next_ids.layer S.layers) features.0 in
    (and_parts _ (rows_in_order face_id_of 0 S.next_ids.face S.faces) layers.0).1

pub knows_faces : (S : Drawing) → IsReady S → KnowsFaces S
knows_faces S h = let known = references_parts S h.references in record {
  universe = known.universe;
  containing = all_weaker (is_node_known S) (knows_containing S) (containing_known S) S.nodes known.nodes;
  sides = all_weaker (is_edge_known S) (knows_sides S) (sides_known S) S.edges known.edges;
  ids = faces_in_order S h.ids;
}

-- a test of all holds of one of them
pub of_all : {X : Type 0} (p : X → Bool) (xs : List X) (x : X) → list_all p xs ≡ true → Contains xs x → p x ≡ true
of_all p [] x h c = absurd (contains_none x c)
of_all p (y ∷ xs) x h c =
    let both = and_parts (p y) (list_all p xs) h in
    ⊎_elim (λ (e : y ≡ x). subst (λ z. p z ≡ true) e both.0) (λ (k : Contains xs x). of_all p xs x both.1 k) (contains_cases x y xs c)

-- the face of a node that was found is listed, and is face 0 where it has none
pub node_face : (S : Drawing) (n : ℕ) (node : NodeRow) → KnowsFaces S → node_at S n ≡ Some node → has_face S (unwrap_or node.containing_face 0) ≡ true
node_face S n node known found =
    by node.containing_face (of_all (knows_containing S) S.nodes node known.containing (contains-found (λ (m : NodeRow). node_id_of m == n) node S.nodes found).0)
  where
    by : (face : Option ℕ) → accepts_face S face ≡ true → has_face S (unwrap_or face 0) ≡ true
    by None h = known.universe
    by (Some f) h = h

-- both faces beside an edge that was found are listed
pub edge_faces : (S : Drawing) (n : ℕ) (e : Edge) → KnowsFaces S → edge_at S n ≡ Some e → (has_face S e.left_face ≡ true) × (has_face S e.right_face ≡ true)
edge_faces S n e known found =
    and_parts (has_face S e.left_face) (has_face S e.right_face) (of_all (knows_sides S) S.edges e known.sides (contains-found (λ (f : Edge). edge_id_of f == n) e S.edges found).0)

-- the nodes of an edge that was found are there
some_weaker : {X : Type 0} (p q : X → Bool) (xs : List X) → list_any (λ x. p x && q x) xs ≡ true → list_any p xs ≡ true
some_weaker p q [] h = h
some_weaker p q (x ∷ xs) h = by (p x) (q x) (list_any (λ y. p y && q y) xs) (list_any p xs) (some_weaker p q xs) h
  where
    by : (a b c d : Bool) → (c ≡ true → d ≡ true) → (a && b || c) ≡ true → (a || d) ≡ true
    by true b c d rest k = refl
    by false b c d rest k = rest k

pub ends_there : (S : Drawing) (n : ℕ) (e : Edge) → IsPlain S → edge_at S n ≡ Some e → IsTrue (has_row node_id_of S.nodes e.start_node) × IsTrue (has_row node_id_of S.nodes e.end_node)
ends_there S n e plain found =
    let fits = of_all (is_between_nodes S) S.edges e plain.lines_fit (contains-found (λ (f : Edge). edge_id_of f == n) e S.edges found).0 in
    let proper = list_all is_proper (segments_of e.geom) in
    let starts = has_point S e.start_node (first_vertex e.geom) in
    let ends = has_point S e.end_node (last_vertex e.geom) in
    let both = and_parts (proper && starts) ends fits in
    let front = and_parts proper starts both.0 in (
      some_weaker (λ (m : NodeRow). m.node_id == e.start_node) (λ (m : NodeRow). same_point m.geom (first_vertex e.geom)) S.nodes front.1,
      some_weaker (λ (m : NodeRow). m.node_id == e.end_node) (λ (m : NodeRow). same_point m.geom (last_vertex e.geom)) S.nodes both.1,
    )
