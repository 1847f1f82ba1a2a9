-- An edge that comes within a face: each point of its line is in that face or on its border.
use Rattle.std.proofs.Common.{◌≤◌, length, ◌≡◌, ℕ, refl, sym, ◌∙◌, ap, subst, ◌⊎◌, inl, inr, ⊎_elim, true, false, ◌==◌, List, [], ◌∷◌, filter, eq-eqb, eqb-true, Option, Some, None, unwrap_or}
use Rattle.std.specs.Prelude.{IsTrue, reverse, fold}
use Rattle.std.specs.List.{Contains}
use Rattle.std.proofs.lemmas.Bool.{and_parts, false≢true, or_cases, or_left, or_right}
use Rattle.topo_base.specs.Point.{Point, same_point}
use Rattle.topo_base.specs.RationalPoint.{RationalPoint, IsAt}
use Rattle.topo_base.specs.declared.rows.NodeRow.{NodeRow}
use Rattle.plane.specs.Direction.{Direction, first_direction}
use Rattle.drawing.specs.Drawing.{Drawing, Edge, is_end_of}
use Rattle.drawing.specs.Faced.{is_in}
use Rattle.drawing.specs.Faces.{face_after, wedge_face}
use Rattle.drawing.specs.FeaturePoints.{OnSides}
use Rattle.drawing.specs.HalfEdge.{HalfEdge, forward_of, backward_of, half_edges, leaves}
use Rattle.plane.specs.Line.{first_vertex, last_vertex}
use Rattle.plane.specs.RationalTests.{IsOnLine}
use Rattle.drawing.specs.DrawnPoints.{IsOnEdge, IsOffEdges}
use Rattle.drawing.specs.Relations.{is_among}
use Rattle.drawing.specs.Star.{last_clockwise, farther_of}
use Rattle.drawing.proofs.BlockedTests.{Decides-line_blocked}
use Rattle.plane.proofs.ListTests.{Some_of, contains_none}
use Rattle.drawing.proofs.Members.{contains-filter, contains-filtered}
use Rattle.plane.proofs.Middle.{on_at, at_or_not}
use Rattle.face_rings.proofs.FaceBorders.{has_plain_lines}
use Rattle.face_rings.proofs.HalvesApart.{half_of, forward_there, backward_there}
use Rattle.ring_laws.proofs.Inserting.{farthest_is}
use Rattle.ring_laws.proofs.WithoutEdge.{leaves_end}
use Rattle.parity_laws.proofs.Tests.{same_is}
use Rattle.edit_changes.specs.Evidence.{EdgeMayCome}
use Rattle.local_laws.proofs.LineLaws.{lines_lie_in_faces}
use Rattle.subdivision_laws.specs.Subdivided.{IsSubdivided}
use Rattle.point_laws.proofs.Areal.{contained_in, contained_off, end_on_edge, has_containing, on_some_edge}

-- ---- the face of a line at a node
-- a half-edge that leaves the node on whose right the face is
after_some : (way : Direction) (ks : List HalfEdge) (k : HalfEdge) → Contains ks k → (c : HalfEdge) × (Contains ks c × (face_after (last_clockwise way ks) ≡ c.on_right))
after_some way [] k i = absurd (contains_none k i)
after_some way (h ∷ ks) k i = (fold (farther_of way) h ks, ((farthest_is way h ks).there, refl))

-- an edge with the face on a side, which has the node as an end
beside_half : (S : Drawing) (n : NodeRow) (f : ℕ) (q : RationalPoint) (c : HalfEdge) → IsSubdivided S → Contains S.nodes n → IsAt n.geom q → Contains (half_edges S) c → c.from_node ≡ n.node_id → c.on_right ≡ f → OnSides S (f ∷ []) q
beside_half S n f q c s cn at i from right =
    let r = half_of S.edges c i in
    let is = subst (λ m. is_end_of m r.edge ≡ true) from (leaves_end S.edges c r) in (
      r.edge,
      (
        r.there,
        ⊎_elim
            (λ (p : forward_of r.edge ≡ c). or_right (is_among r.edge.left_face (f ∷ [])) (is_among r.edge.right_face (f ∷ [])) (one (r.edge.right_face) (sym right ∙ sym (ap (λ (h : HalfEdge). h.on_right) p))))
            (λ (p : backward_of r.edge ≡ c). or_left (is_among r.edge.left_face (f ∷ [])) (is_among r.edge.right_face (f ∷ [])) (one (r.edge.left_face) (sym right ∙ sym (ap (λ (h : HalfEdge). h.on_right) p))))
            r.way,
        end_on_edge S n r.edge q (has_plain_lines S s.covered.ringed.rings) cn r.there is at,
      ),
    )
  where
    one : (g : ℕ) → f ≡ g → is_among g (f ∷ []) ≡ true
    one g e = or_left (f == g) false (eq-eqb f g e)

-- some half-edge of an edge leaves its end
leaves_some : (S : Drawing) (n : ℕ) (x : Edge) → Contains S.edges x → is_end_of n x ≡ true → (k : HalfEdge) × Contains (filter (leaves n) (half_edges S)) k
leaves_some S n x c is =
    ⊎_elim
    (λ (e : (x.start_node == n) ≡ true). (forward_of x, contains-filter (leaves n) (forward_of x) (half_edges S) (forward_there S.edges x c) e))
    (λ (e : (x.end_node == n) ≡ true). (backward_of x, contains-filter (leaves n) (backward_of x) (half_edges S) (backward_there S.edges x c) e))
    (or_cases (x.start_node == n) (x.end_node == n) is)

-- the node is in the face, or on its border
pub at_node : (S : Drawing) (n : NodeRow) (way : Direction) (f : ℕ) (q : RationalPoint) → IsSubdivided S → Contains S.nodes n → wedge_face S n way ≡ f → IsAt n.geom q
    → (IsOffEdges S q × IsTrue (is_in S f q)) ⊎ OnSides S (f ∷ []) q
at_node S n way f q s c wedge at = ⊎_elim on_it off_it (on_some_edge S q)
  where
    off_it : IsOffEdges S q → (IsOffEdges S q × IsTrue (is_in S f q)) ⊎ OnSides S (f ∷ []) q
    off_it off =
        let (g, own) = has_containing S n q s c at off in
        let is : g ≡ f = ap (λ o. unwrap_or o (face_after (last_clockwise way (filter (leaves n.node_id) (half_edges S))))) (sym own) ∙ wedge in
        inl (off, subst (λ k. IsTrue (is_in S k q)) is (contained_in S n g q s c own at))

    on_it : Some_of (λ (e : Edge). IsOnEdge q e) S.edges → (IsOffEdges S q × IsTrue (is_in S f q)) ⊎ OnSides S (f ∷ []) q
    on_it (x, (cx, (t, (ct, on)))) = by n.containing_face refl
      where
        is_end : is_end_of n.node_id x ≡ true
        is_end = s.covered.ringed.rings.plain.plain.nodes_off_edges n x c cx (t, (ct, on_at n.geom q t at on))

        by : (o : Option ℕ) → n.containing_face ≡ o → (IsOffEdges S q × IsTrue (is_in S f q)) ⊎ OnSides S (f ∷ []) q
        by (Some g) e = absurd (contained_off S n g q s c e at x cx (t, (ct, on)))
        by None e =
            let (k, i) = leaves_some S n.node_id x cx is_end in
            let (h, (j, right)) = after_some way (filter (leaves n.node_id) (half_edges S)) k i in
            let both = contains-filtered (leaves n.node_id) h (half_edges S) j in
            inr (beside_half S n f q h s c at both.0 (eqb-true h.from_node n.node_id both.1) (sym right ∙ ap (λ o. unwrap_or o (face_after (last_clockwise way (filter (leaves n.node_id) (half_edges S))))) (sym e) ∙ wedge))

-- ---- each point of the line
pub on_line_of : (S : Drawing) (a b : NodeRow) (line : List Point) (f : ℕ) (q : RationalPoint) → IsSubdivided S → 2 ≤ length line → EdgeMayCome S a b line f → IsOnLine q line
    → (IsOffEdges S q × IsTrue (is_in S f q)) ⊎ OnSides S (f ∷ []) q
on_line_of S a b line f q s long k on =
    ⊎_elim
    (λ (at : IsAt (first_vertex line) q). at_node S a (first_direction line) f q s k.start_there k.starts_in (subst (λ p. IsAt p q) (same_is (first_vertex line) a.geom ends.0) at))
    (λ (nf : IsAt (first_vertex line) q → ⊥).
    ⊎_elim
    (λ (at : IsAt (last_vertex line) q). at_node S b (first_direction (reverse line)) f q s k.end_there k.ends_in (subst (λ p. IsAt p q) (same_is (last_vertex line) b.geom ends.1) at))
    (λ (nl : IsAt (last_vertex line) q → ⊥).
    inl (
      λ x c i. false≢true (sym k.free ∙ (Decides-line_blocked S line).1 (q, ((on, nf, nl), inr (x, (c, i))))),
      lines_lie_in_faces.in_face S a b line f q s long k on nf nl,
    ))
    (at_or_not (last_vertex line) q))
    (at_or_not (first_vertex line) q)
  where
    ends : (same_point (first_vertex line) a.geom ≡ true) × (same_point (last_vertex line) b.geom ≡ true)
    ends = and_parts (same_point (first_vertex line) a.geom) (same_point (last_vertex line) b.geom) k.ends
