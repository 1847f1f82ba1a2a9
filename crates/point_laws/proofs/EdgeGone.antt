-- The line of an edge that has gone lies in the face that covers its place, or on the border of that.
use Rattle.std.proofs.Common.{◌≡◌, ◌≢◌, ◌∙◌, ℕ, arith, refl, sym, subst, ◌⊎◌, inl, ⊎_elim, true, false, List, [], ◌∷◌, eqb}
use Rattle.std.specs.Prelude.{IsTrue}
use Rattle.std.specs.List.{Contains}
use Rattle.std.proofs.lemmas.Bool.{and_from, and_parts, false_from_ne_true}
use Rattle.topo_base.specs.Point.{Point, same_point}
use Rattle.topo_base.specs.RationalPoint.{IsAt, RationalPoint}
use Rattle.topo_base.specs.declared.rows.NodeRow.{NodeRow}
use Rattle.plane.specs.Line.{first_vertex, is_proper, is_simple, last_vertex, segments_of}
use Rattle.plane.specs.LinePoints.{IsInsideLine}
use Rattle.plane.specs.Relation.{IsProper, SameCoordinates}
use Rattle.plane.specs.Segment.{Segment}
use Rattle.plane.proofs.ListTests.{Decides-all, Some_of}
use Rattle.plane.proofs.Middle.{on_at}
use Rattle.plane.proofs.PointTests.{Decides-same_point}
use Rattle.plane.proofs.SimpleTests.{Decides-proper, Decides-simple}
use Rattle.drawing.specs.AddEdge.{face_at_start}
use Rattle.drawing.specs.Blocked.{goes_between, is_line_blocked}
use Rattle.drawing.specs.DrawnPoints.{IsAtEdge, IsAtNode, IsOffEdges, IsOnEdge}
use Rattle.drawing.specs.Drawing.{Drawing, Edge, is_end_of}
use Rattle.drawing.specs.Faced.{is_in}
use Rattle.drawing.specs.FeaturePoints.{OnSides}
use Rattle.drawing.proofs.BlockedTests.{Decides-line_blocked}
use Rattle.drawing.proofs.PlainSplits.{end_cases, id_point, one_point}
use Rattle.face_rings.proofs.FaceBorders.{has_plain_lines}
use Rattle.face_rings.proofs.HalfLines.{HasPlainLines}
use Rattle.parity_laws.specs.Rings.{In, of_face, those}
use Rattle.parity_laws.specs.Steps.{left}
use Rattle.parity_laws.proofs.OnLine.{forth_in}
use Rattle.face_laws.specs.Covered.{IsCovered, face_of}
use Rattle.face_laws.specs.Walked.{steps_of}
use Rattle.edit_changes.specs.Evidence.{EdgeMayCome}
use Rattle.local_laws.proofs.LineFaces.{IsFree, line_parity, same_face}
use Rattle.local_laws.proofs.LineLaws.{lines_lie_in_faces}
use Rattle.subdivision_laws.specs.Subdivided.{IsSubdivided}
use Rattle.point_laws.proofs.EdgeComes.{on_line_of}

-- ---- T is S without the edge: its nodes are where they were, and the other edges have their lines
abbrev SameRow : NodeRow → NodeRow → Type 0
SameRow m n = (m.node_id ≡ n.node_id) × (m.geom ≡ n.geom)

pub record IsWithout (S T : Drawing) (e : Edge) : Type 0 where
  pub there : Contains S.edges e
  pub row : (n : NodeRow) → Contains S.nodes n → (m : NodeRow) × (Contains T.nodes m × SameRow m n)
  pub was_row : (m : NodeRow) → Contains T.nodes m → (n : NodeRow) × (Contains S.nodes n × SameRow m n)
  pub was_edge : (y : Edge) → Contains T.edges y → (x : Edge) × (Contains S.edges x × ((x.edge_id ≡ e.edge_id → ⊥) × (y.geom ≡ x.geom)))

-- ---- the edge may come again
again : (S T : Drawing) (e : Edge) → HasPlainLines S → IsWithout S T e → (a : NodeRow) × ((b : NodeRow) × IsFree T a b e.geom)
again S T e good h = (a.0, (b.0, record { between = record { start_there = a.1.0; end_there = b.1.0; long = good.long e h.there; ends = between; simple = simple }; free = free }))
  where
    starts : Some_of (λ (row : NodeRow). (row.node_id ≡ e.start_node) × SameCoordinates row.geom (first_vertex e.geom)) S.nodes
    starts = (good.plain.fit e h.there).starts

    ends : Some_of (λ (row : NodeRow). (row.node_id ≡ e.end_node) × SameCoordinates row.geom (last_vertex e.geom)) S.nodes
    ends = (good.plain.fit e h.there).ends

    a : (m : NodeRow) × (Contains T.nodes m × SameRow m starts.0)
    a = h.row starts.0 starts.1.0

    b : (m : NodeRow) × (Contains T.nodes m × SameRow m ends.0)
    b = h.row ends.0 ends.1.0

    turned : (p r : Point) → SameCoordinates p r → SameCoordinates r p
    turned p r k = (sym k.0, sym k.1)

    between : goes_between a.0 b.0 e.geom ≡ true
    between =
        and_from (same_point (first_vertex e.geom) a.0.geom) (same_point (last_vertex e.geom) b.0.geom)
        ((Decides-same_point (first_vertex e.geom) a.0.geom).1 (subst (SameCoordinates (first_vertex e.geom)) (sym a.1.1.1) (turned starts.0.geom (first_vertex e.geom) starts.1.1.1)))
        ((Decides-same_point (last_vertex e.geom) b.0.geom).1 (subst (SameCoordinates (last_vertex e.geom)) (sym b.1.1.1) (turned ends.0.geom (last_vertex e.geom) ends.1.1.1)))

    simple : is_simple e.geom ≡ true
    simple = (Decides-simple e.geom).1 ((Decides-all is_proper IsProper Decides-proper (segments_of e.geom)).0 (good.plain.fit e h.there).proper, good.plain.simple e h.there)

    -- no node is inside the line
    at_end : (q : RationalPoint) → IsInsideLine q e.geom → (row : NodeRow) → Contains S.nodes row → IsAt row.geom q → is_end_of row.node_id e ≡ true → ⊥
    at_end q inside row c at is =
        ⊎_elim
        (λ (k : row.node_id ≡ e.start_node). inside.1 (subst (λ (v : Point). IsAt v q) (one_point row.geom (first_vertex e.geom) (id_point S.nodes row e.start_node (first_vertex e.geom) good.node_ids c k starts)) at))
        (λ (k : row.node_id ≡ e.end_node). inside.2 (subst (λ (v : Point). IsAt v q) (one_point row.geom (last_vertex e.geom) (id_point S.nodes row e.end_node (last_vertex e.geom) good.node_ids c k ends)) at))
        (end_cases row.node_id e is)

    not_at_node : (q : RationalPoint) → IsInsideLine q e.geom → IsAtNode T q → ⊥
    not_at_node q inside (m, (cm, at)) =
        let (n, (c, same)) = h.was_row m cm in
        let here = subst (λ (v : Point). IsAt v q) same.1 at in
        let (t, (ct, on)) = inside.0 in
        at_end q inside n c here (good.plain.off n e c h.there (t, (ct, on_at n.geom q t here on)))

    not_at_edge : (q : RationalPoint) → IsInsideLine q e.geom → IsAtEdge T q → ⊥
    not_at_edge q inside (y, (cy, on)) =
        let (x, (cx, (far, same))) = h.was_edge y cy in
        let (n, (c, at, both)) = good.plain.meet e x q h.there cx (λ k. far (sym k)) inside.0 (subst (λ line. IsOnEdge q (record x { geom = line })) same on) in
        at_end q inside n c at (and_parts (is_end_of n.node_id e) (is_end_of n.node_id x) both).0

    free : is_line_blocked T e.geom ≡ false
    free =
        false_from_ne_true (is_line_blocked T e.geom)
        (λ t. let (q, (inside, at)) = (Decides-line_blocked T e.geom).0 t in ⊎_elim (not_at_node q inside) (not_at_edge q inside) at)

-- ---- the face at its start
-- left of the step the parities say the face k
abbrev pub IsBeside : Drawing → Segment → ℕ → Type 0
IsBeside T s k = (g : ℕ) → g ≢ 0 → left (those (of_face (face_of T) g) (steps_of T)) s ≡ eqb k g

start_face : (T : Drawing) (a b : NodeRow) (line : List Point) (first : Segment) (rest : List Segment) (k : ℕ) → segments_of line ≡ first ∷ rest → IsCovered T → IsFree T a b line → IsBeside T first k → face_at_start T a line ≡ k
start_face T a b [] first rest k is c h beside = let long = h.between.long in absurd (omega arith)
start_face T a b (p ∷ []) first rest k is c h beside = let long = h.between.long in absurd (omega arith)
start_face T a b (p ∷ r ∷ vs) first rest k is c h beside =
    same_face k (face_at_start T a (p ∷ r ∷ vs)) (λ g n. sym (beside g n) ∙ line_parity T a b p r vs c h g n first (forth_in (segments_of (p ∷ r ∷ vs)) first (subst (In first) (sym is) (inl refl))))

pub on_gone : (S T : Drawing) (e : Edge) (first : Segment) (rest : List Segment) (k : ℕ) (q : RationalPoint) → IsSubdivided S → IsSubdivided T → IsWithout S T e → segments_of e.geom ≡ first ∷ rest → IsBeside T first k → IsOnEdge q e
    → (IsOffEdges T q × IsTrue (is_in T k q)) ⊎ OnSides T (k ∷ []) q
on_gone S T e first rest k q s t h line beside on =
    let (a, (b, may)) = again S T e (has_plain_lines S s.covered.ringed.rings) h in
    let comes = lines_lie_in_faces.may_come T a b e.geom t may.between may.free in
    on_line_of T a b e.geom k q t may.between.long (subst (EdgeMayCome T a b e.geom) (start_face T a b e.geom first rest k line t.covered may beside) comes) on
