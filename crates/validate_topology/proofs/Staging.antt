-- The lines of the later stages, and what a report without lines says.
use Rattle.std.proofs.Common.{◌≡◌, ◌∙◌, ◌*◌, ℕ, Bool, true, IsTrue, List, [], ◌∷◌, ◌++◌, ap, length, map, refl, subst, sym}
use Rattle.std.proofs.lemmas.Bool.{false≢true}
use Rattle.std.proofs.lemmas.List.{length-map}
use Rattle.topo_base.specs.Point.{Point}
use Rattle.topo_base.specs.declared.rows.EdgeRow.{EdgeRow}
use Rattle.topo_base.specs.declared.rows.NodeRow.{NodeRow}
use Rattle.drawing.specs.Drawing.{node_id_of}
use Rattle.drawing.specs.HalfEdge.{HalfEdge}
use Rattle.drawing.specs.Plain.{IsPlain}
use Rattle.drawing.specs.Subdivision.{rings}
use Rattle.drawing.specs.Tables.{Tables, drawn, drawn_edge}
use Rattle.drawing.specs.Vertices.{have_segments}
use Rattle.validate_topology.specs.Ascending.{numbers_ascend}
use Rattle.validate_topology.specs.BoxLines.{least_of, wrong_boxes}
use Rattle.validate_topology.specs.FaceAbove.{IsFaceAbove, TellsFaces}
use Rattle.validate_topology.specs.Following.{AreNext, ArePlainEdges, half_edge, half_edges_of}
use Rattle.validate_topology.specs.LinkLines.{HasLinkLines, has_edge, lefts_wrong, nodes_isolated, nodes_joined, rights_wrong}
use Rattle.validate_topology.specs.OnlyIf.{is_empty}
use Rattle.validate_topology.specs.PlaceLines.{HasPlaceLines, hole_lines, node_lines}
use Rattle.validate_topology.specs.RingLines.{HasRingLines, ring_lines}
use Rattle.validate_topology.specs.Stages.{IsReport}
use Rattle.validate_topology.specs.Stages.IsReport.{on_references, on_points, on_faces}
use Rattle.validate_topology.specs.Walks.{AreFollowed, halves_of}
use Rattle.validate_topology.specs.declared.sides.Side.{Side}
use Rattle.validate_topology.specs.declared.lines.ReportLine.{ReportLine}
use Rattle.validate_topology.proofs.FirstAbove.{one_above, some_above}
use Rattle.validate_topology.proofs.Plain.{plain_drawing}

none_there : (lines : List ReportLine) → is_empty lines ≡ true → lines ≡ []
none_there [] e = refl
none_there (l ∷ lines) e = absurd (false≢true e)

pub emptied : (b : Bool) (lines : List ReportLine) → b ≡ is_empty lines → b ≡ true → lines ≡ []
emptied b lines is e = none_there lines (sym is ∙ e)

pub none_put : (old new lines : List ReportLine) → old ≡ [] → new ≡ [] → new ≡ old ++ lines → lines ≡ []
none_put old new lines none also is = (λ i. sym none i ++ lines) ∙ sym is ∙ also

pub has_links : (t : Tables) (old lines : List ReportLine) (edges : List EdgeRow) → old ≡ [] → edges ≡ t.edges
    → lines
    ≡ old ++ nodes_joined (has_edge (map drawn_edge edges)) t.nodes ++ nodes_isolated (has_edge (map drawn_edge edges)) t.nodes ++ lefts_wrong (half_edges_of edges) edges ++ rights_wrong (half_edges_of edges) edges
    → HasLinkLines t lines
has_links t old lines edges none same is = is
    ∙ (λ i.
    let rows = same i in
    none i ++ nodes_joined (has_edge (map drawn_edge rows)) t.nodes ++ nodes_isolated (has_edge (map drawn_edge rows)) t.nodes ++ lefts_wrong (half_edges_of rows) rows ++ rights_wrong (half_edges_of rows) rows)

pub has_rings : (t : Tables) (old lines : List ReportLine) (hs : List HalfEdge) (edges : List EdgeRow) → old ≡ [] → hs ≡ half_edges_of edges → edges ≡ t.edges → lines ≡ old ++ ring_lines hs t.faces → HasRingLines t lines
has_rings t old lines hs edges none halves same is = is ∙ (λ i. none i ++ ring_lines ((halves ∙ ap half_edges_of same) i) t.faces)

-- the darts, each with the one that is next
pub are_followed : (sides : List Side) (places : List ℕ) (edges : List EdgeRow) → ArePlainEdges edges → IsTrue (have_segments (map drawn_edge edges)) → halves_of sides ≡ half_edges_of edges → length sides ≡ 2 * length edges → length places ≡ 2 * length edges
    → AreNext (half_edges_of edges) places → AreFollowed (halves_of sides) places
are_followed sides places edges plain long halves wide len next =
    let all = length-map sides half_edge in
    record {
      plain = record { of = record plain.of { edges = map drawn_edge edges }; plain = plain.plain; long = long; halves = sym halves };
      len = len ∙ sym wide ∙ sym all;
      next = subst (λ (hs : List HalfEdge). AreNext hs places) (sym halves) next;
    }

pub has_places : (t : Tables) (old lines : List ReportLine) (nodes : List NodeRow) (all : List (List HalfEdge)) (above : Point → ℕ) → old ≡ [] → nodes ≡ t.nodes → all ≡ rings (half_edges_of t.edges)
    → ((p : Point) → IsFaceAbove t.edges p (above p)) → lines ≡ old ++ hole_lines above all ++ node_lines above nodes ++ wrong_boxes (least_of (map drawn_edge t.edges)) t.faces → HasPlaceLines t lines
has_places t old lines nodes all above none same rs told is = record {
  above = above;
  is_above = told;
  all = is ∙ (λ i. none i ++ hole_lines above (rs i) ++ node_lines above (same i) ++ wrong_boxes (least_of (map drawn_edge t.edges)) t.faces);
}

-- the lines of a stage's parts, one behind the other
pub parts_put : (old first second new holes nodes boxes : List ReportLine) → first ≡ old ++ holes → second ≡ first ++ nodes → new ≡ second ++ boxes → new ≡ old ++ holes ++ nodes ++ boxes
parts_put old first second new holes nodes boxes is also last = last ∙ ap (λ ls. ls ++ boxes) (also ∙ ap (λ ls. ls ++ nodes) is)

-- above each point there is one face
pub one_told : (t : Tables) → ArePlainEdges t.edges → TellsFaces t.edges (λ p. (some_above t.edges p).0)
one_told t plain p f is = one_above plain.of t.edges p f ((some_above t.edges p).0) plain.plain is ((some_above t.edges p).1)

pub plain_report : (t : Tables) (lines : List ReportLine) → IsTrue (numbers_ascend node_id_of 0 t.nodes) → IsReport t lines → lines ≡ [] → IsPlain (drawn t)
plain_report t lines up (on_references some refs) none = absurd (some none)
plain_report t lines up (on_points some refs plain) none = absurd (some none)
plain_report t lines up (on_faces refs plain faces) none = plain_drawing t up plain
