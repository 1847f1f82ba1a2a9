-- The writes of a division may be made.
use Rattle.std.proofs.Common.{◌≡◌, ℕ, refl, sym, ◌∙◌, ap, subst, ⊎_elim, Bool, true, false, cond, IsTrue, ◌==◌, List, [], ◌∷◌, ◌++◌, map, Some, Result, Ok, Err}
use Rattle.std.specs.List.{Contains}
use Rattle.std.specs.Result.{IfOk}
use Rattle.topo_base.specs.Point.{Point}
use Rattle.topo_base.specs.declared.ids.Dart.{Dart}
use Rattle.topo_base.specs.declared.rows.Counters.{Counters}
use Rattle.topo_base.specs.declared.rows.EdgeRow.{EdgeRow}
use Rattle.topo_base.specs.declared.rows.NodeRow.{NodeRow}
use Rattle.topo_base.specs.declared.write.RowWrite.{RowWrite}
use Rattle.drawing.specs.AddEdge.{Division, is_on_left, part_beside}
use Rattle.drawing.specs.Drawing.{Drawing, Edge, node_id_of}
use Rattle.drawing.specs.HalfEdge.{HalfEdge, forward_of, backward_of, half_edges}
use Rattle.drawing.specs.Ring.{ring_of, contains_half_edge, least_vertex}
use Rattle.drawing.specs.Rows.{has_row}
use Rattle.drawing.specs.Tables.{Tables, edge_row, tables_of}
use Rattle.drawing.specs.Writable.{CanWriteAll, has_edge_row, has_face_row, has_node_row}
use Rattle.drawing.specs.Writes.{all_written, written, edge_row_id, with_side}
use Rattle.plane.proofs.ListTests.{contains_here, contains_there}
use Rattle.drawing.proofs.Members.{contains-map}
use Rattle.drawing.proofs.WritesInOrder.{can_write-append}
use Rattle.face_rings.specs.declared.content.BorderDart.{BorderDart}
use Rattle.face_rings.specs.Rings.{rings}
use Rattle.face_rings.proofs.HalvesApart.{half_of}
use Rattle.face_parts.specs.declared.parts.FaceParts.{FaceParts}
use Rattle.face_parts.specs.Divided.{is_left_of, part_of_point, part_of_ring, division_writes}
use Rattle.face_parts.specs.DividedFace.{HasRows, IsDividedFace, with_division}
use Rattle.face_parts.specs.Sides.{hand_of, lies_in, set_containing, node_writes, side_writes}
use Rattle.face_parts.proofs.Dividing.{want, half_at, moving, moving_known, named, sides_same, sides_written, divides}
use Rattle.face_parts.proofs.Lists.{has_listed}
use Rattle.face_parts.proofs.RingWrites.{wanted}
use Rattle.topo_tables.proofs.RowChanges.{has_changed}

-- ---- sides
abbrev MaySide : Tables → (Dart → ℕ) → Dart → Type 0
MaySide t part d = IsTrue (has_edge_row t d.edge) × IsTrue (has_face_row t (part d))

side_id : (forward : Bool) (g : ℕ) (r : EdgeRow) → edge_row_id (with_side (hand_of forward) g r) ≡ edge_row_id r
side_id true g r = refl
side_id false g r = refl

can_sides : (n : Counters) (t : Tables) (part : Dart → ℕ) (ds : List Dart) → ((d : Dart) → Contains ds d → MaySide t part d) → CanWriteAll n t (map (wanted part) ds)
can_sides n t part [] each = tt
can_sides n t part (d ∷ ds) each = (
  each d (contains_here d ds),
  can_sides n (written n t (wanted part d)) part ds
      (λ x c. let p = each x (contains_there x d ds c) in (has_changed edge_row_id t.edges d.edge x.edge (with_side (hand_of d.forward) (part d)) (side_id d.forward (part d)) ∙ p.0, p.1)),
)

-- ---- containing faces
abbrev MayContain : Tables → (Point → ℕ) → NodeRow → Type 0
MayContain t part r = IsTrue (has_node_row t r.node_id) × IsTrue (has_face_row t (part r.geom))

can_nodes : (n : Counters) (t : Tables) (part : Point → ℕ) (f : ℕ) (rows : List NodeRow) → ((r : NodeRow) → Contains rows r → MayContain t part r) → CanWriteAll n t (node_writes part f rows)
can_nodes n t part f [] each = tt
can_nodes n t part f (r ∷ rows) each = by (lies_in f r) (part r.geom == f) (λ u may. can_nodes n u part f rows may)
  where
    here : MayContain t part r
    here = each r (contains_here r rows)

    others : (x : NodeRow) → Contains rows x → MayContain t part x
    others x c = each x (contains_there x r rows c)

    by : (b c : Bool) → ((u : Tables) → ((x : NodeRow) → Contains rows x → MayContain u part x) → CanWriteAll n u (node_writes part f rows))
        → CanWriteAll n t (cond b (cond c [] (set_containing (part r.geom) r ∷ [])) [] ++ node_writes part f rows)
    by false c rest = rest t others
    by true true rest = rest t others
    by true false rest = (
      here,
      rest (written n t (set_containing (part r.geom) r))
          (λ x c. let p = others x c in (has_changed node_id_of t.nodes r.node_id x.node_id (λ (s : NodeRow). record s { containing_face = Some (part r.geom) }) (λ s. refl) ∙ p.0, p.1)),
    )

-- ---- each part is one of the two
beside_either : (P : ℕ → Type 0) (d : Division) (hs : List HalfEdge) (h : HalfEdge) → P d.left_part → P d.right_part → P (part_beside d hs h)
beside_either P d hs h left right = by (contains_half_edge d.left_ring h) (contains_half_edge d.right_ring h) (is_on_left d.left_ring (least_vertex (ring_of hs h)))
  where
    by : (a b c : Bool) → P (cond a d.left_part (cond b d.right_part (cond c d.left_part d.right_part)))
    by true b c = left
    by false true c = right
    by false false true = left
    by false false false = right

point_either : (P : ℕ → Type 0) (parts : FaceParts) (vertices : List Point) (p : Point) → P parts.left_part → P parts.right_part → P (part_of_point parts vertices p)
point_either P parts vertices p left right = by (is_left_of vertices p)
  where
    by : (b : Bool) → P (cond b parts.left_part parts.right_part)
    by true = left
    by false = right

-- ---- the writes of a division
edge_there : (T : Drawing) (h : HalfEdge) → Contains (half_edges T) h → has_row edge_row_id (tables_of T).edges h.edge_id ≡ true
edge_there T h c =
    let r = half_of T.edges h c in
    let there = has_listed edge_row_id (tables_of T).edges (edge_row (half_edges T) r.edge) (contains-map (edge_row (half_edges T)) r.edge T.edges r.there) in
    ⊎_elim
    (λ (p : forward_of r.edge ≡ h). subst (λ (x : HalfEdge). has_row edge_row_id (tables_of T).edges x.edge_id ≡ true) p there)
    (λ (p : backward_of r.edge ≡ h). subst (λ (x : HalfEdge). has_row edge_row_id (tables_of T).edges x.edge_id ≡ true) p there)
    r.way

pub may_divide : (T : Drawing) (e : Edge) (d : Division) (parts : FaceParts) (vertices : List Point) (t : Tables) (border : List BorderDart) (n : Counters) (u : Tables) → IsDividedFace T e d parts vertices t border → HasRows T u
    → IsTrue (has_face_row u parts.left_part) → IsTrue (has_face_row u parts.right_part) → CanWriteAll n u (division_writes parts vertices t border)
may_divide T e d parts vertices t border n u of rows left right =
    let sides = side_writes (part_of_ring parts vertices t.edges) parts.face (rings border) in
    let nodes = node_writes (part_of_point parts vertices) parts.face t.nodes in
    can_write-append n u sides nodes
    (subst (CanWriteAll n u) (sym (sides_same T e d parts vertices t border of)) (can_sides n u (want T e d) (moving T d parts vertices t) dart))
    (subst (λ (v : Tables). CanWriteAll n v nodes) (sym (sides_written T e d parts vertices t border n u of rows)) (can_nodes n _ (part_of_point parts vertices) parts.face t.nodes node))
  where
    dart : (x : Dart) → Contains (moving T d parts vertices t) x → MaySide u (want T e d) x
    dart x c =
        let m = named T d.face x (moving_known T d parts vertices t x of.rings c) in
        let there : has_row edge_row_id u.edges m.half.edge_id ≡ true = subst (λ (es : List EdgeRow). has_row edge_row_id es m.half.edge_id ≡ true) (sym rows.edges) (edge_there T m.half m.there) in (
          subst (λ (y : Dart). has_row edge_row_id u.edges y.edge ≡ true) m.dart there,
          beside_either (λ g. IsTrue (has_face_row u g)) d (half_edges T) (half_at e (half_edges T) x)
              (subst (λ g. IsTrue (has_face_row u g)) of.left_part left) (subst (λ g. IsTrue (has_face_row u g)) of.right_part right),
        )

    node : (r : NodeRow) → Contains t.nodes r → (IsTrue (has_row node_id_of u.nodes r.node_id)) × IsTrue (has_face_row u (part_of_point parts vertices r.geom))
    node r c = (
      subst (λ (rs : List NodeRow). has_row node_id_of rs r.node_id ≡ true) (of.rows.nodes ∙ sym rows.nodes) (has_listed node_id_of t.nodes r c),
      point_either (λ g. IsTrue (has_face_row u g)) parts vertices r.geom left right,
    )

-- ---- what a call gives
pub result_divides : {E : Type 0} (parts : FaceParts) (vertices : List Point) (u : Tables) (border : List BorderDart) (r : Result (List RowWrite) E) → IfOk r (λ (ws : List RowWrite). ws ≡ division_writes parts vertices u border)
    → IfOk r (λ (ws : List RowWrite). (T : Drawing) (e : Edge) (d : Division) (n : Counters) (t : Tables) → IsDividedFace T e d parts vertices u border → HasRows T t → all_written n t ws ≡ with_division t T d)
result_divides parts vertices u border (Ok ws) is = λ T e d n t of rows. ap (all_written n t) is ∙ divides T e d parts vertices u border n t of rows
result_divides parts vertices u border (Err stop) is = tt

pub result_can : {E : Type 0} (parts : FaceParts) (vertices : List Point) (u : Tables) (border : List BorderDart) (r : Result (List RowWrite) E) → IfOk r (λ (ws : List RowWrite). ws ≡ division_writes parts vertices u border)
    → IfOk r (λ (ws : List RowWrite). (T : Drawing) (e : Edge) (d : Division) (n : Counters) (t : Tables) → IsDividedFace T e d parts vertices u border → HasRows T t
    → IsTrue (has_face_row t parts.left_part) → IsTrue (has_face_row t parts.right_part) → CanWriteAll n t ws)
result_can parts vertices u border (Ok ws) is = λ T e d n t of rows left right. subst (CanWriteAll n t) (sym is) (may_divide T e d parts vertices u border n t of rows left right)
result_can parts vertices u border (Err stop) is = tt
