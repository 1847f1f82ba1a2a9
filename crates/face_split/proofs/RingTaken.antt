-- The ring of an edge that came, in the tables, and whether it takes the edge both ways.
use Rattle.std.proofs.Common.{◌≡◌, ℕ, Bool, true, false, List, [], ◌∷◌, map, cond, refl, sym, ap, ◌∙◌, subst}
use Rattle.std.proofs.lemmas.List.Elements.{Contains-push}
use Rattle.topo_base.specs.Darts.{same_dart}
use Rattle.topo_base.specs.Point.{Point}
use Rattle.topo_base.specs.declared.ids.Dart.{Dart}
use Rattle.topo_base.specs.declared.rows.NodeRow.{NodeRow}
use Rattle.drawing.proofs.TableLemmas.{drawn-tables_of, list_any-map}
use Rattle.drawing.specs.AddEdge.{coming}
use Rattle.drawing.specs.Drawing.{Drawing}
use Rattle.drawing.specs.HalfEdge.{backward_of, dart_of, forward_of, half_edges}
use Rattle.drawing.specs.IsoEdits.{with_edge}
use Rattle.drawing.specs.Outcome.{the_edge}
use Rattle.drawing.specs.Ring.{contains_half_edge, ring_of}
use Rattle.drawing.specs.Tables.{Tables, tables_of, drawn}
use Rattle.face_rings.specs.declared.content.BorderDart.{BorderDart}
use Rattle.face_rings.specs.Border.{has_dart}
use Rattle.face_rings.specs.FaceBorder.{face_border}
use Rattle.ring_laws.specs.Ringed.{IsRinged}
use Rattle.face_split.specs.Added.{added_rows}
use Rattle.face_split.specs.Closing.{HasAdded, HasEdgeIn, HasRing, IsRingOnLeft, WasAdded, in_parts, left_ring, with_edge_in}
use Rattle.face_split.specs.Linked.{HasEdgeBeside, IsEdgeBeside, IsLinked}

-- ---- the rows stand for the drawing with the edge
drawn_added : (S : Drawing) (a b : NodeRow) (line : List Point) (f : ℕ) → drawn (added_rows S a b line f) ≡ with_edge S a b line f
drawn_added S a b line f =
    let T = with_edge S a b line f in
    let edges = ap (λ (D : Drawing). D.edges) (drawn-tables_of T) in
    let faces = ap (λ (D : Drawing). D.faces) (drawn-tables_of S) in
    λ i. record T { edges = edges i; faces = faces i }

pub drawn_is : (S : Drawing) (a b : NodeRow) (line : List Point) (f : ℕ) (t u : Tables) → WasAdded S a b line f t → u ≡ t → drawn u ≡ with_edge S a b line f
drawn_is S a b line f t u h same = ap drawn (same ∙ h.rows) ∙ drawn_added S a b line f

linked : (S : Drawing) (a b : NodeRow) (line : List Point) (f : ℕ) (t u : Tables) → WasAdded S a b line f t → u ≡ t → IsLinked u
linked S a b line f t u h same =
    let drawing = drawn_is S a b line f t u h same in record {
      edges = ap (λ (v : Tables). v.edges) (same ∙ h.rows) ∙ ap (λ (D : Drawing). (tables_of D).edges) (sym drawing);
      ringed = subst IsRinged (sym drawing) h.ringed;
    }

pub is_linked : (t u : Tables) (edge f : ℕ) → HasAdded t edge f → u ≡ t → IsLinked u
is_linked t u edge f h same = linked h.before h.start h.end h.line f t u h.added same

-- ---- the edge stands beside its face
pub stands_beside : (S : Drawing) (a b : NodeRow) (line : List Point) (f edge : ℕ) (t u : Tables) → WasAdded S a b line f t → edge ≡ S.next_ids.edge → u ≡ t → IsEdgeBeside (drawn u) edge f (coming S a b line f)
stands_beside S a b line f edge t u h edge_is same =
    let e = coming S a b line f in
    subst (λ (D : Drawing). IsEdgeBeside D edge f e) (sym (drawn_is S a b line f t u h same)) (record { there = Contains-push S.edges e; id = sym edge_is; left = refl })

pub has_edge_beside : (t u : Tables) (edge f : ℕ) → HasAdded t edge f → u ≡ t → HasEdgeBeside (drawn u) edge f
has_edge_beside t u edge f h same = record { row = coming h.before h.start h.end h.line f; beside = stands_beside h.before h.start h.end h.line f edge t u h.added h.edge_is same }

-- ---- the ring that was found is that on the left
pub on_left : (S : Drawing) (a b : NodeRow) (line : List Point) (f : ℕ) (t u : Tables) (border : List BorderDart) (ring : List Dart) → WasAdded S a b line f t → u ≡ t
    → border ≡ face_border (half_edges (drawn u)) f → ring ≡ map dart_of (ring_of (half_edges (drawn u)) (forward_of (coming S a b line f))) → IsRingOnLeft S a b line f border ring
on_left S a b line f t u border ring h same border_is ring_is =
    let drawing = drawn_is S a b line f t u h same in record {
      border_is = border_is ∙ ap (λ (D : Drawing). face_border (half_edges D) f) drawing;
      ring_is = ring_is ∙ ap (λ (D : Drawing). map dart_of (ring_of (half_edges D) (forward_of (coming S a b line f)))) drawing;
    }

pub has_ring : (t u : Tables) (edge f : ℕ) (border : List BorderDart) (ring : List Dart) → (h : HasAdded t edge f) → IsRingOnLeft h.before h.start h.end h.line f border ring → HasRing t edge f border ring
has_ring t u edge f border ring h left =
    record { before = h.before; start = h.start; end = h.end; line = h.line; added = h.added; edge_is = h.edge_is; on_left = left }

pub has_edge_in : (t : Tables) (edge f : ℕ) → HasAdded t edge f → HasEdgeIn t f
has_edge_in t edge f h = record { before = h.before; start = h.start; end = h.end; line = h.line; added = h.added }

-- ---- it takes the edge both ways where it has the edge's other dart
pub takes_both : (S : Drawing) (a b : NodeRow) (line : List Point) (f edge : ℕ) (border : List BorderDart) (ring darts : List Dart) (found : Bool) → edge ≡ S.next_ids.edge → IsRingOnLeft S a b line f border ring → darts ≡ ring
    → found ≡ has_dart darts (record { edge = edge; forward = false }) → contains_half_edge (left_ring S a b line f) (backward_of (coming S a b line f)) ≡ found
takes_both S a b line f edge border ring darts found edge_is left same is =
    let own : Dart = record { edge = S.next_ids.edge; forward = false } in
    sym (is ∙ (λ i. has_dart (same i) (record { edge = edge_is i; forward = false })) ∙ ap (λ ds. has_dart ds own) left.ring_is ∙ list_any-map (same_dart own) dart_of (left_ring S a b line f))

pub whole_rows : (S : Drawing) (a b : NodeRow) (line : List Point) (f : ℕ) (both found : Bool) → contains_half_edge (left_ring S a b line f) (backward_of (coming S a b line f)) ≡ found → found ≡ true
    → tables_of (with_edge S a b line f) ≡ tables_of (with_edge_in both S a b line f).drawing
whole_rows S a b line f both found takes is =
    ap (λ c. tables_of (cond c (record { drawing = with_edge S a b line f; ids = the_edge S.next_ids.edge ∷ [] }) (in_parts both S a b line f)).drawing) (sym (takes ∙ is))

pub whole_ids : (S : Drawing) (a b : NodeRow) (line : List Point) (f edge : ℕ) (both found : Bool) → edge ≡ S.next_ids.edge → contains_half_edge (left_ring S a b line f) (backward_of (coming S a b line f)) ≡ found
    → found ≡ true → the_edge edge ∷ [] ≡ (with_edge_in both S a b line f).ids
whole_ids S a b line f edge both found edge_is takes is =
    (λ i. the_edge (edge_is i) ∷ []) ∙ ap (λ c. (cond c (record { drawing = with_edge S a b line f; ids = the_edge S.next_ids.edge ∷ [] }) (in_parts both S a b line f)).ids) (sym (takes ∙ is))

pub parted : (S : Drawing) (a b : NodeRow) (line : List Point) (f : ℕ) (both found : Bool) → contains_half_edge (left_ring S a b line f) (backward_of (coming S a b line f)) ≡ found → found ≡ false
    → in_parts both S a b line f ≡ with_edge_in both S a b line f
parted S a b line f both found takes is =
    ap (λ c. cond c (record { drawing = with_edge S a b line f; ids = the_edge S.next_ids.edge ∷ [] }) (in_parts both S a b line f)) (sym (takes ∙ is))
