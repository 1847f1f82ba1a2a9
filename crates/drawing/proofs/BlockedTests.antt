-- The tests that a point or a line is blocked say what their names say.
use Rattle.std.proofs.Common.{◌≡◌, ◌≢◌, ℕ, ◌⊎◌, inl, inr, ⊎_elim, Bool, true, false, not, ◌&&◌, ◌==◌, List, [], ◌∷◌}
use Rattle.std.specs.List.{list_all, list_any, All}
use Rattle.std.specs.Bool.{Decides}
use Rattle.std.proofs.lemmas.Bool.{and_cases, or_cases, cases_Bool, not-true}
use Rattle.std.proofs.lemmas.List.Elements.{All-contains}
use Rattle.std.proofs.lemmas.Bool.Decides.{Decides-eqb, Decides-and, Decides-or, Decides-not, not_from_Decides}
use Rattle.topo_base.specs.Point.{Point, same_point}
use Rattle.topo_base.specs.RationalPoint.{RationalPoint, rational, IsAt}
use Rattle.topo_base.specs.declared.rows.NodeRow.{NodeRow}
use Rattle.plane.specs.Segment.{Segment, overlaps, meets_only_at}
use Rattle.plane.specs.Line.{first_vertex, last_vertex, segments_of, on_line, is_inside_line, meets_at_own_ends}
use Rattle.drawing.specs.Drawing.{Drawing, Edge}
use Rattle.drawing.specs.Blocked.{is_on_edge, is_blocked, is_blocked_for, is_line_blocked}
use Rattle.drawing.specs.DrawnPoints.{IsOnEdge}
use Rattle.plane.specs.Relation.{HaveOne, HaveMore, MeetOnlyAt, SameCoordinates}
use Rattle.plane.specs.LinePoints.{IsInsideLine, MeetsAtOwnEnds}
use Rattle.drawing.specs.DrawnPoints.{IsAtNode, IsAtEdge, IsAtOther}
use Rattle.plane.proofs.Collinear.{at_point}
use Rattle.plane.proofs.ListTests.{Some_of, Decides-any, Decides-all, contains_here, contains_there}
use Rattle.plane.proofs.Middle.{HasOther, another, at_or_not, on_at}
use Rattle.plane.proofs.MeetTests.{Decides-overlaps, Decides-meets_only_at, at_one, one_or_none}
use Rattle.plane.proofs.LineTests.{from_at, Decides-at_other, Decides-on_line, Decides-inside_line, Decides-own_ends}

pub Decides-on_edge : (S : Drawing) (p : Point) → Decides (is_on_edge S p) (IsAtEdge S (rational p))
Decides-on_edge S p = Decides-any (λ (e : Edge). on_line p e.geom) (λ (e : Edge). IsOnEdge (rational p) e) (λ e. Decides-on_line p e.geom) S.edges

pub Decides-blocked : (S : Drawing) (p : Point) → Decides (is_blocked S p) (IsAtNode S (rational p) ⊎ IsAtEdge S (rational p))
Decides-blocked S p =
    let nodes = Decides-any (λ (n : NodeRow). same_point n.geom p) (λ (n : NodeRow). IsAt n.geom (rational p)) (λ n. Decides-at_other n.geom p) S.nodes in
    Decides-or (list_any (λ (n : NodeRow). same_point n.geom p) S.nodes) (is_on_edge S p) nodes (Decides-on_edge S p)

pub Decides-blocked_for : (S : Drawing) (own : ℕ) (p : Point) → Decides (is_blocked_for S own p) (IsAtOther S own (rational p) ⊎ IsAtEdge S (rational p))
Decides-blocked_for S own p =
    let test = λ (n : NodeRow). not (n.node_id == own) && same_point n.geom p in
    let nodes = Decides-any test (λ (n : NodeRow). (n.node_id ≢ own) × IsAt n.geom (rational p))
    (λ n. Decides-and (not (n.node_id == own)) (same_point n.geom p) (Decides-not (n.node_id == own) (Decides-eqb n.node_id own)) (Decides-at_other n.geom p)) S.nodes in
    Decides-or (list_any test S.nodes) (is_on_edge S p) nodes (Decides-on_edge S p)

-- ---- lines
-- an element that fails a test that not all pass
failing : {X : Type 0} (p : X → Bool) (xs : List X) → list_all p xs ≡ false → Some_of (λ x. p x ≡ false) xs
failing p [] h = absurd (no h)
  where
    no : true ≡ false → ⊥
    no h = cc
failing p (x ∷ xs) h =
    ⊎_elim
    (λ (e : p x ≡ false). (x, (contains_here x xs, e)))
    (λ (e : list_all p xs ≡ false). let s = failing p xs e in (s.0, (contains_there s.0 x xs s.1.0, s.1.1)))
    (and_cases (p x) (list_all p xs) h)

more_or_not : (s t : Segment) → HaveMore s t ⊎ (HaveMore s t → ⊥)
more_or_not s t =
    ⊎_elim
    (λ (h : overlaps s t ≡ true). inl ((Decides-overlaps s t).0 h))
    (λ (h : overlaps s t ≡ false). inr (not_from_Decides (overlaps s t) (Decides-overlaps s t) h))
    (cases_Bool (overlaps s t))

-- two segments that do not meet at p and r alone have another common point
other_point : (p r : Point) (s t : Segment) → (MeetOnlyAt p r s t → ⊥) → HasOther s t p r
other_point p r s t far =
    ⊎_elim
    (λ (h : HaveMore s t). another s t p r h)
    (λ (none : HaveMore s t → ⊥).
    ⊎_elim
    (λ (h : HaveOne s t).
    ⊎_elim
    (λ (a : IsAt p h.0). absurd (far (λ q on. inl ((at_one p r s t h.0 h.1 a none).1 q on))))
    (λ (a : IsAt p h.0 → ⊥).
    ⊎_elim
    (λ (b : IsAt r h.0). absurd (far (λ q on. inr ((at_one r p s t h.0 h.1 b none).1 q on))))
    (λ (b : IsAt r h.0 → ⊥). (h.0, (h.1, a, b)))
    (at_or_not r h.0))
    (at_or_not p h.0))
    (λ (h : HaveOne s t → ⊥). absurd (far (λ q on. absurd (h (q, on)))))
    (one_or_none s t))
    (more_or_not s t)

-- some point inside the line is a node's or lies on an edge
abbrev Stopped : Drawing → List Point → Type 0
Stopped S line = (q : RationalPoint) × (IsInsideLine q line × (IsAtNode S q ⊎ IsAtEdge S q))

by_node : (S : Drawing) (line : List Point) → Some_of (λ (n : NodeRow). IsInsideLine (rational n.geom) line) S.nodes → Stopped S line
by_node S line (n, (c, inside)) = (rational n.geom, (inside, inl (n, (c, at_point n.geom))))

by_edge : (S : Drawing) (line : List Point) → list_all (λ (e : Edge). meets_at_own_ends line e.geom) S.edges ≡ false → Stopped S line
by_edge S line h =
    let first = first_vertex line in
    let last = last_vertex line in
    let edge = failing (λ (e : Edge). meets_at_own_ends line e.geom) S.edges h in
    let geom = edge.0.geom in
    let one = failing (λ (s : Segment). list_all (meets_only_at first last s) (segments_of geom)) (segments_of line) edge.1.1 in
    let s = one.0 in
    let two = failing (meets_only_at first last s) (segments_of geom) one.1.1 in
    let t = two.0 in
    let o = other_point first last s t (not_from_Decides (meets_only_at first last s t) (Decides-meets_only_at first last s t) two.1.1) in
    (o.0, (((s, (one.1.0, o.1.0.0)), o.1.1, o.1.2), inr (edge.0, (edge.1.0, (t, (two.1.0, o.1.0.1))))))

-- a node at a point inside the line is inside it
node_inside : (n : Point) (line : List Point) (q : RationalPoint) → IsInsideLine q line → IsAt n q → IsInsideLine (rational n) line
node_inside n line q ((s, (c, on)), not_first, not_last) h =
    ((s, (c, on_at n q s h on)), λ a. not_first (moved n (first_vertex line) q (from_at n (first_vertex line) a) h), λ a. not_last (moved n (last_vertex line) q (from_at n (last_vertex line) a) h))
  where
    moved : (p r : Point) (q : RationalPoint) → SameCoordinates p r → IsAt p q → IsAt r q
    moved p r q h k = (rw (← h.0) k.0, rw (← h.1) k.1)

stops : (S : Drawing) (line : List Point) → Stopped S line
    → Some_of (λ (n : NodeRow). IsInsideLine (rational n.geom) line) S.nodes ⊎ (All (λ (e : Edge). MeetsAtOwnEnds line e.geom) S.edges → ⊥)
stops S line (q, (inside, at)) =
    ⊎_elim
    (λ (h : IsAtNode S q). inl (h.0, (h.1.0, node_inside h.0.geom line q inside h.1.1)))
    (λ (h : IsAtEdge S q).
    inr (λ f.
    ⊎_elim inside.1 inside.2 (All-contains (λ (e : Edge). MeetsAtOwnEnds line e.geom) S.edges h.0 f h.1.0 q inside.0 h.1.1)))
    at

pub Decides-line_blocked : (S : Drawing) (line : List Point) → Decides (is_line_blocked S line) (Stopped S line)
Decides-line_blocked S line =
    let node_test = λ (n : NodeRow). is_inside_line n.geom line in
    let edge_test = λ (e : Edge). meets_at_own_ends line e.geom in
    let nodes = Decides-any node_test (λ (n : NodeRow). IsInsideLine (rational n.geom) line) (λ n. Decides-inside_line n.geom line) S.nodes in
    let edges = Decides-all edge_test (λ (e : Edge). MeetsAtOwnEnds line e.geom) (λ e. Decides-own_ends line e.geom) S.edges in
    let none = Decides-not (list_all edge_test S.edges) edges in
    let either = Decides-or (list_any node_test S.nodes) (not (list_all edge_test S.edges)) nodes none in (
      λ h. ⊎_elim
          (λ (k : list_any node_test S.nodes ≡ true). by_node S line (nodes.0 k))
          (λ (k : not (list_all edge_test S.edges) ≡ true). by_edge S line (not-true (list_all edge_test S.edges) k))
          (or_cases (list_any node_test S.nodes) (not (list_all edge_test S.edges)) h),
      λ (k : Stopped S line). either.1 (stops S line k),
    )
