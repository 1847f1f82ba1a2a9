-- The line of a half-edge of a plain drawing.
use Rattle.std.proofs.Common.{◌≡◌, ℕ, zero, suc, ◌+◌, ◌≤◌, refl, sym, ◌∙◌, ap, subst, arith, ◌⊎◌, inl, inr, ⊎_elim, true, IsTrue, List, [], ◌∷◌, ◌++◌, length, slice_get, Some}
use Rattle.std.specs.Prelude.{reverse}
use Rattle.std.specs.List.{Contains, list_all}
use Rattle.std.proofs.lemmas.Grind.{reverse_onto}
use Rattle.std.proofs.lemmas.List.{length-reverse, reverse-reverse}
use Rattle.topo_base.specs.Point.{Point}
use Rattle.topo_base.specs.RationalPoint.{RationalPoint, IsAt}
use Rattle.topo_base.specs.declared.rows.NodeRow.{NodeRow}
use Rattle.plane.specs.Segment.{Segment}
use Rattle.plane.specs.Line.{segments_of, first_vertex, last_vertex, is_proper}
use Rattle.drawing.specs.Drawing.{Drawing, Edge, edge_id_of, is_end_of}
use Rattle.drawing.specs.HalfEdge.{HalfEdge, forward_of, backward_of}
use Rattle.plane.specs.RationalTests.{IsOn, IsOnLine}
use Rattle.drawing.specs.DrawnPoints.{IsOnEdge}
use Rattle.plane.specs.Relation.{SameCoordinates}
use Rattle.plane.specs.SimpleLine.{IsSimpleLine}
use Rattle.drawing.proofs.Ordering.{InOrder}
use Rattle.plane.proofs.ListTests.{some_same}
use Rattle.drawing.proofs.Members.{Pairwise}
use Rattle.drawing.proofs.PlainParts.{HasPoint, ArePlain}
use Rattle.drawing.proofs.PlainSplits.{NodeIdsDiffer, id_point, end_cases}
use Rattle.plane.proofs.SegmentParts.{segment, end_on}
use Rattle.plane.proofs.LineCuts.{place_back, last_ends}
use Rattle.plane.proofs.LineTurns.{first-reverse, last-reverse, reverse_on, reverse_simple, reverse_proper}
use Rattle.face_rings.proofs.Inside.{IsInside}

-- ---- lines of two vertices or more
pub record Begins (line : List Point) : Type 0 where
  pub first : Point
  pub second : Point
  pub rest : List Point
  pub is : line ≡ first ∷ second ∷ rest

pub begins : (line : List Point) → 2 ≤ length line → Begins line
begins [] h = absurd (omega arith)
begins (a ∷ []) h = absurd (omega arith)
begins (a ∷ b ∷ rest) h = record { first = a; second = b; rest = rest; is = refl }

-- a point inside the first segment of a simple line is on no other segment of it
pub inner_on_first : (a b : Point) (rest : List Point) (q : RationalPoint) (k : ℕ) (t : Segment) → IsSimpleLine (segments_of (a ∷ b ∷ rest)) → IsInside a b q → slice_get (segments_of (a ∷ b ∷ rest)) k ≡ Some t → IsOn q t → k ≡ 0
inner_on_first a b rest q zero t simple in_it e on = refl
inner_on_first a b rest q (suc k) t simple in_it e on =
    ⊎_elim
    (λ (h : (suc k ≡ 0 + 1) × IsAt b q). absurd (in_it.not_end h.1))
    (λ (h : (0 ≡ 0) × (suc k + 1 ≡ length (segments_of (a ∷ b ∷ rest))) × IsAt a q × IsAt t.b q). absurd (in_it.not_start h.2))
    (simple 0 (suc k) (segment a b) t q (omega arith) refl e in_it.on on)

-- nor is it the last vertex
last_place : (a b : Point) (rest : List Point) → (k : ℕ) × ((t : Segment) × ((k + 1 ≡ length (segments_of (a ∷ b ∷ rest))) × (slice_get (segments_of (a ∷ b ∷ rest)) k ≡ Some t)))
last_place a b [] = (0, (segment a b, (omega arith, refl)))
last_place a b (c ∷ rest) = let (k, (t, (last, e))) = last_place b c rest in (suc k, (t, (omega arith, e)))

pub inner_not_last : (a b : Point) (rest : List Point) (q : RationalPoint) → IsSimpleLine (segments_of (a ∷ b ∷ rest)) → IsInside a b q → IsAt (last_vertex (a ∷ b ∷ rest)) q → ⊥
inner_not_last a b rest q simple in_it at =
    let (k, (t, (last, e))) = last_place a b rest in
    let ends = last_ends (a ∷ b ∷ rest) k t e last in
    let at_end : IsAt t.b q = subst (λ (p : Point). IsAt p q) ends at in
    let first : k ≡ 0 = inner_on_first a b rest q k t simple in_it e (end_on t q at_end) in
    let same : segment a b ≡ t = some_same (segment a b) t (subst (λ n. slice_get (segments_of (a ∷ b ∷ rest)) n ≡ Some t) first e) in
    in_it.not_end (subst (λ (s : Segment). IsAt s.b q) (sym same) at_end)

-- ---- the last segment of a line is the first of it walked back
pub reverse_is : (a : Point) (l : List Point) → reverse (a ∷ l) ≡ reverse l ++ a ∷ []
reverse_is a l = reverse_onto l a []

segments-push : (l : List Point) (z a : Point) → segments_of ((l ++ z ∷ []) ++ a ∷ []) ≡ segments_of (l ++ z ∷ []) ++ segment z a ∷ []
segments-push [] z a = refl
segments-push (x ∷ []) z a = refl
segments-push (x ∷ y ∷ l) z a = ap (λ ss. segment x y ∷ ss) (segments-push (y ∷ l) z a)

pub last_of_reverse : (line : List Point) (a b : Point) (rest : List Point) → reverse line ≡ a ∷ b ∷ rest → (k : ℕ) × (slice_get (segments_of line) k ≡ Some (segment b a))
last_of_reverse line a b rest e =
    let whole : line ≡ (reverse rest ++ b ∷ []) ++ a ∷ [] = sym (reverse-reverse line) ∙ ap reverse e ∙ reverse_is a (b ∷ rest) ∙ ap (λ r. r ++ a ∷ []) (reverse_is b rest) in
    let ss = segments_of (reverse rest ++ b ∷ []) in
    let n : length ss + 0 ≡ length ss = omega arith in
    (length ss, ap (λ l. slice_get (segments_of l) (length ss)) whole ∙ ap (λ l. slice_get l (length ss)) (segments-push (reverse rest) b a) ∙ sym (ap (slice_get (ss ++ segment b a ∷ [])) n) ∙ place_back ss (segment b a ∷ []) 0)

-- ---- what a plain drawing says of a half-edge of an edge
pub record IsLineOf (S : Drawing) (e : Edge) (h : HalfEdge) : Type 0 where
  pub id : h.edge_id ≡ e.edge_id
  pub long : 2 ≤ length h.points
  pub proper : list_all is_proper (segments_of h.points) ≡ true
  pub simple : IsSimpleLine (segments_of h.points)
  pub starts : HasPoint S.nodes h.from_node (first_vertex h.points)
  pub on_edge : (q : RationalPoint) → IsOnLine q h.points → IsOnEdge q e
  pub ends : (n : NodeRow) → Contains S.nodes n → IsTrue (is_end_of n.node_id e) → SameCoordinates n.geom (first_vertex h.points) ⊎ SameCoordinates n.geom (last_vertex h.points)

-- the drawing is plain, ids ascend, and each line has two vertices or more
pub record HasPlainLines (S : Drawing) : Type 0 where
  pub plain : ArePlain S.nodes S.edges
  pub node_ids : Pairwise NodeIdsDiffer S.nodes
  pub edge_ids : InOrder edge_id_of 0 S.next_ids.edge S.edges
  pub long : (e : Edge) → Contains S.edges e → 2 ≤ length e.geom

pub forward_line : (S : Drawing) (e : Edge) → HasPlainLines S → Contains S.edges e → IsLineOf S e (forward_of e)
forward_line S e good c =
    let fit = good.plain.fit e c in
    record {
      id = refl;
      long = good.long e c;
      proper = fit.proper;
      simple = good.plain.simple e c;
      starts = fit.starts;
      on_edge = λ q on. on;
      ends = λ n k is.
          ⊎_elim
          (λ (p : n.node_id ≡ e.start_node). inl (id_point S.nodes n e.start_node (first_vertex e.geom) good.node_ids k p fit.starts))
          (λ (p : n.node_id ≡ e.end_node). inr (id_point S.nodes n e.end_node (last_vertex e.geom) good.node_ids k p fit.ends))
          (end_cases n.node_id e is);
    }

pub backward_line : (S : Drawing) (e : Edge) → HasPlainLines S → Contains S.edges e → IsLineOf S e (backward_of e)
backward_line S e good c =
    let fit = good.plain.fit e c in
    record {
      id = refl;
      long = subst (λ n. 2 ≤ n) (sym (length-reverse e.geom)) (good.long e c);
      proper = reverse_proper e.geom fit.proper;
      simple = reverse_simple e.geom (good.plain.simple e c);
      starts = subst (HasPoint S.nodes e.end_node) (sym (first-reverse e.geom)) fit.ends;
      on_edge = reverse_on e.geom;
      ends = λ n k is.
          ⊎_elim
          (λ (p : n.node_id ≡ e.start_node). inr (subst (SameCoordinates n.geom) (sym (last-reverse e.geom)) (id_point S.nodes n e.start_node (first_vertex e.geom) good.node_ids k p fit.starts)))
          (λ (p : n.node_id ≡ e.end_node). inl (subst (SameCoordinates n.geom) (sym (first-reverse e.geom)) (id_point S.nodes n e.end_node (last_vertex e.geom) good.node_ids k p fit.ends)))
          (end_cases n.node_id e is);
    }
