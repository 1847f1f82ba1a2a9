-- A plain drawing by its nodes and its edges alone, and by what these lists contain.
use Rattle.std.proofs.Common.{◌≡◌, ◌≢◌, ℕ, refl, not, ◌&&◌, ◌==◌, List, [], ◌∷◌, IsTrue}
use Rattle.std.specs.List.{list_all, list_any, Contains}
use Rattle.std.specs.Bool.{Decides}
use Rattle.std.proofs.lemmas.Bool.{and_parts, and_from}
use Rattle.std.proofs.lemmas.List.Elements.{All-contains}
use Rattle.std.proofs.lemmas.Bool.Decides.{Decides-eqb, Decides-and, Decides-not, Decides-like}
use Rattle.topo_base.specs.Point.{Point, same_point}
use Rattle.topo_base.specs.RationalPoint.{RationalPoint, rational, IsAt}
use Rattle.topo_base.specs.declared.rows.NodeRow.{NodeRow}
use Rattle.plane.specs.Line.{segments_of, first_vertex, last_vertex, is_proper}
use Rattle.drawing.specs.Drawing.{Drawing, Edge, is_end_of}
use Rattle.drawing.specs.DrawnPoints.{IsOnEdge}
use Rattle.plane.specs.Relation.{SameCoordinates}
use Rattle.drawing.specs.Plain.{nodes_differ, has_point, is_between_nodes, IsPlain}
use Rattle.plane.specs.SimpleLine.{IsSimpleLine}
use Rattle.plane.proofs.PointTests.{Decides-same_point}
use Rattle.plane.proofs.ListTests.{Some_of, Decides-any, Decides-all}
use Rattle.plane.proofs.LineTests.{all_from}
use Rattle.drawing.proofs.Members.{Pairwise}

-- the points of two nodes differ
abbrev pub PointsDiffer : NodeRow → NodeRow → Type 0
PointsDiffer n m = SameCoordinates m.geom n.geom → ⊥

-- some node has this id and this point
abbrev pub HasPoint : List NodeRow → ℕ → Point → Type 0
HasPoint nodes n p = Some_of (λ (row : NodeRow). (row.node_id ≡ n) × SameCoordinates row.geom p) nodes

-- the edge runs from node to node
pub record IsBetweenNodes (nodes : List NodeRow) (e : Edge) : Type 0 where
  pub proper : IsTrue (list_all is_proper (segments_of e.geom))
  pub starts : HasPoint nodes e.start_node (first_vertex e.geom)
  pub ends : HasPoint nodes e.end_node (last_vertex e.geom)

-- q is the point of a node that is an end of both
abbrev pub IsCommonNode : List NodeRow → Edge → Edge → RationalPoint → Type 0
IsCommonNode nodes e f q = (n : NodeRow) × (Contains nodes n × IsAt n.geom q × IsTrue (is_end_of n.node_id e && is_end_of n.node_id f))

pub record ArePlain (nodes : List NodeRow) (edges : List Edge) : Type 0 where
  pub apart : Pairwise PointsDiffer nodes
  pub fit : (e : Edge) → Contains edges e → IsBetweenNodes nodes e
  pub simple : (e : Edge) → Contains edges e → IsSimpleLine (segments_of e.geom)
  pub meet : (e f : Edge) (q : RationalPoint) → Contains edges e → Contains edges f → e.edge_id ≢ f.edge_id → IsOnEdge q e → IsOnEdge q f → IsCommonNode nodes e f q
  pub off : (n : NodeRow) (e : Edge) → Contains nodes n → Contains edges e → IsOnEdge (rational n.geom) e → IsTrue (is_end_of n.node_id e)

Decides-differ : (nodes : List NodeRow) → Decides (nodes_differ nodes) (Pairwise PointsDiffer nodes)
Decides-differ [] = (λ h. tt, λ h. refl)
Decides-differ (n ∷ ns) =
    let test = λ (m : NodeRow). same_point m.geom n.geom in
    let any = Decides-any test (λ (m : NodeRow). SameCoordinates m.geom n.geom) (λ m. Decides-same_point m.geom n.geom) ns in
    let none = Decides-not (list_any test ns) any in
    let each : Decides (not (list_any test ns)) ((m : NodeRow) → Contains ns m → PointsDiffer n m) =
    Decides-like (not (list_any test ns)) (λ f. λ m c s. f (m, (c, s))) (λ f. λ s. f s.0 s.1.0 s.1.1) none in
    Decides-and (not (list_any test ns)) (nodes_differ ns) each (Decides-differ ns)

Decides-has_point : (S : Drawing) (n : ℕ) (p : Point) → Decides (has_point S n p) (HasPoint S.nodes n p)
Decides-has_point S n p =
    Decides-any (λ (row : NodeRow). row.node_id == n && same_point row.geom p) (λ (row : NodeRow). (row.node_id ≡ n) × SameCoordinates row.geom p)
    (λ row. Decides-and (row.node_id == n) (same_point row.geom p) (Decides-eqb row.node_id n) (Decides-same_point row.geom p)) S.nodes

Decides-between_nodes : (S : Drawing) (e : Edge) → Decides (is_between_nodes S e) (IsBetweenNodes S.nodes e)
Decides-between_nodes S e =
    let proper = list_all is_proper (segments_of e.geom) in
    let starts = has_point S e.start_node (first_vertex e.geom) in
    let ends = has_point S e.end_node (last_vertex e.geom) in
    let first = Decides-has_point S e.start_node (first_vertex e.geom) in
    let last = Decides-has_point S e.end_node (last_vertex e.geom) in (
      λ h.
          let both = and_parts (proper && starts) ends h in
          let front = and_parts proper starts both.0 in
          record { proper = front.0; starts = first.0 front.1; ends = last.0 both.1 },
      λ (k : IsBetweenNodes S.nodes e). and_from (proper && starts) ends (and_from proper starts k.proper (first.1 k.starts)) (last.1 k.ends),
    )

pub parts_of : (S : Drawing) → IsPlain S → ArePlain S.nodes S.edges
parts_of S h =
    let all = (Decides-all (is_between_nodes S) (IsBetweenNodes S.nodes) (Decides-between_nodes S) S.edges).0 h.lines_fit in
    record {
      apart = (Decides-differ S.nodes).0 h.nodes_apart;
      fit = λ e c. All-contains (IsBetweenNodes S.nodes) S.edges e all c;
      simple = h.lines_simple;
      meet = h.edges_meet_at_nodes;
      off = h.nodes_off_edges;
    }

pub plain_of : (S : Drawing) → ArePlain S.nodes S.edges → IsPlain S
plain_of S h = record {
  nodes_apart = (Decides-differ S.nodes).1 h.apart;
  lines_fit = (Decides-all (is_between_nodes S) (IsBetweenNodes S.nodes) (Decides-between_nodes S) S.edges).1 (all_from (IsBetweenNodes S.nodes) S.edges h.fit);
  lines_simple = h.simple;
  edges_meet_at_nodes = h.meet;
  nodes_off_edges = h.off;
}
