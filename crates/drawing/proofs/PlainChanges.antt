-- The changes of nodes and edges that keep them plain.
use Rattle.std.proofs.Common.{◌≡◌, ◌≢◌, ℕ, refl, sym, ◌∙◌, ap, subst, ◌⊎◌, inl, inr, ⊎_elim, Bool, true, false, cond, not, ◌&&◌, ◌==◌, List, [], ◌∷◌, ◌++◌, map, filter, Option, IsTrue, eq-eqb, ne_eqb, eqb-true}
use Rattle.std.specs.List.{Contains}
use Rattle.std.proofs.lemmas.Bool.{and_parts, and_from, or_left, or_right, cond_both, cond-false}
use Rattle.std.proofs.lemmas.List.Elements.{Contains-append_left, Contains-push_cases}
use Rattle.std.proofs.lemmas.Bool.Decides.{Decides-eqb, Decides-not, not_from_Decides}
use Rattle.topo_base.specs.Point.{Point}
use Rattle.topo_base.specs.RationalPoint.{RationalPoint, rational, IsAt}
use Rattle.topo_base.specs.declared.rows.NodeRow.{NodeRow}
use Rattle.plane.specs.Line.{segments_of, first_vertex, last_vertex}
use Rattle.drawing.specs.Rows.{without_row}
use Rattle.drawing.specs.Drawing.{Edge, node_id_of, is_end_of}
use Rattle.drawing.specs.IsoEdits.{put_in_face, put_at}
use Rattle.drawing.specs.DrawnPoints.{IsOnEdge}
use Rattle.plane.specs.Relation.{SameCoordinates}
use Rattle.plane.specs.SimpleLine.{IsSimpleLine}
use Rattle.plane.specs.LinePoints.{IsInsideLine}
use Rattle.plane.proofs.Collinear.{at_point}
use Rattle.plane.proofs.Middle.{at_or_not, on_at}
use Rattle.plane.proofs.LineTests.{from_at}
use Rattle.drawing.proofs.Members.{contains-map, contains-mapped, contains-filter, contains-filtered, Pairwise, pairwise-map, pairwise-filter, pairwise-push, pairwise-both, pairwise-same}
use Rattle.drawing.proofs.PlainParts.{PointsDiffer, HasPoint, IsBetweenNodes, IsCommonNode, ArePlain}

pub turned : (p r : Point) → SameCoordinates p r → SameCoordinates r p
turned p r h = (sym h.0, sym h.1)

pub start_is_end : (e : Edge) (n : ℕ) → n ≡ e.start_node → IsTrue (is_end_of n e)
start_is_end e n is = or_left (e.start_node == n) (e.end_node == n) (eq-eqb e.start_node n (sym is))

pub end_is_end : (e : Edge) (n : ℕ) → n ≡ e.end_node → IsTrue (is_end_of n e)
end_is_end e n is = or_right (e.start_node == n) (e.end_node == n) (eq-eqb e.end_node n (sym is))

-- ---- other nodes
-- a node with this id and this point is among them
abbrev pub IsKept : List NodeRow → NodeRow → Type 0
IsKept ms n = (m : NodeRow) × (Contains ms m × ((m.node_id ≡ n.node_id) × (m.geom ≡ n.geom)))

pub kept_point : (ns ms : List NodeRow) (n : ℕ) (p : Point) → ((row : NodeRow) → Contains ns row → row.node_id ≡ n → IsKept ms row) → HasPoint ns n p → HasPoint ms n p
kept_point ns ms n p stays (row, (c, (is, at))) =
    let k = stays row c is in (k.0, (k.1.0, (k.1.1.0 ∙ is, subst (λ g. SameCoordinates g p) (sym k.1.1.1) at)))

-- points of nodes differ still, each end of an edge is kept, and no node comes to lie on an edge
pub nodes_changed : (ns ms : List NodeRow) (es : List Edge) → ArePlain ns es → Pairwise PointsDiffer ms
    → ((n : NodeRow) (e : Edge) → Contains ns n → Contains es e → IsTrue (is_end_of n.node_id e) → IsKept ms n)
    → ((m : NodeRow) (e : Edge) → Contains ms m → Contains es e → IsOnEdge (rational m.geom) e → IsTrue (is_end_of m.node_id e)) → ArePlain ms es
nodes_changed ns ms es h apart stays off = record { apart = apart; fit = fit; simple = h.simple; meet = meet; off = off }
  where
    fit : (e : Edge) → Contains es e → IsBetweenNodes ms e
    fit e c =
        let k = h.fit e c in
        record {
          proper = k.proper;
          starts = kept_point ns ms e.start_node (first_vertex e.geom) (λ row cr is. stays row e cr c (start_is_end e row.node_id is)) k.starts;
          ends = kept_point ns ms e.end_node (last_vertex e.geom) (λ row cr is. stays row e cr c (end_is_end e row.node_id is)) k.ends;
        }

    meet : (e f : Edge) (q : RationalPoint) → Contains es e → Contains es f → e.edge_id ≢ f.edge_id → IsOnEdge q e → IsOnEdge q f → IsCommonNode ms e f q
    meet e f q ce cf differ on_e on_f =
        let k = h.meet e f q ce cf differ on_e on_f in
        let n = k.0 in
        let ends = and_parts (is_end_of n.node_id e) (is_end_of n.node_id f) k.1.2 in
        let m = stays n e k.1.0 ce ends.0 in
        (m.0, (m.1.0, subst (λ g. IsAt g q) (sym m.1.1.1) k.1.1, subst (λ i. IsTrue (is_end_of i e && is_end_of i f)) (sym m.1.1.0) k.1.2))

-- a node more, at a point that is no node's and lies on no edge
pub node_added : (ns : List NodeRow) (n : NodeRow) (es : List Edge) → ArePlain ns es → ((m : NodeRow) → Contains ns m → SameCoordinates m.geom n.geom → ⊥)
    → ((e : Edge) → Contains es e → IsOnEdge (rational n.geom) e → ⊥) → ArePlain (ns ++ n ∷ []) es
node_added ns n es h far free =
    nodes_changed ns (ns ++ n ∷ []) es h
    (pairwise-push PointsDiffer ns n (λ m c. λ s. far m c (turned n.geom m.geom s)) h.apart)
    (λ m e c ce end. (m, (Contains-append_left ns (n ∷ []) m c, (refl, refl))))
    (λ m e c ce on.
    ⊎_elim
    (λ (k : Contains ns m). h.off m e k ce on)
    (λ (is : n ≡ m). absurd (free e ce (subst (λ (r : NodeRow). IsOnEdge (rational r.geom) e) (sym is) on)))
    (Contains-push_cases ns n m c))

-- a node less, that is an end of no edge
pub node_removed : (ns : List NodeRow) (n : ℕ) (es : List Edge) → ArePlain ns es → ((e : Edge) → Contains es e → IsTrue (is_end_of n e) → ⊥) → ArePlain (without_row node_id_of ns n) es
node_removed ns n es h alone =
    let test = λ (r : NodeRow). not (r.node_id == n) in
    nodes_changed ns (without_row node_id_of ns n) es h
    (pairwise-filter PointsDiffer test ns h.apart)
    (λ m e c ce end.
    let other : m.node_id ≢ n = λ is. alone e ce (subst (λ i. IsTrue (is_end_of i e)) is end) in
    (m, (contains-filter test m ns c ((Decides-not (m.node_id == n) (Decides-eqb m.node_id n)).1 other), (refl, refl))))
    (λ m e c ce on. h.off m e (contains-filtered test m ns c).0 ce on)

-- a node that is an end of no edge, at another point, which is no other node's and lies on no edge
pub node_moved : (ns : List NodeRow) (n : ℕ) (p : Point) (es : List Edge) → ArePlain ns es → Pairwise (λ (r s : NodeRow). r.node_id ≢ s.node_id) ns
    → ((e : Edge) → Contains es e → IsTrue (is_end_of n e) → ⊥) → ((m : NodeRow) → Contains ns m → m.node_id ≢ n → SameCoordinates m.geom p → ⊥)
    → ((e : Edge) → Contains es e → IsOnEdge (rational p) e → ⊥) → ArePlain (put_at p n ns) es
node_moved ns n p es h ids alone far free =
    let move = λ (r : NodeRow). record r { geom = p } in
    let f = λ (r : NodeRow). cond (r.node_id == n) (move r) r in
    let other : (r : NodeRow) → (r.node_id == n) ≡ false → r.node_id ≢ n = λ r e. not_from_Decides (r.node_id == n) (Decides-eqb r.node_id n) e in
    let keeps : (x y : NodeRow) → Contains ns x → Contains ns y → PointsDiffer x y × (x.node_id ≢ y.node_id) → PointsDiffer (f x) (f y) =
    λ x y cx cy r.
    cond_both (x.node_id == n) (move x) x (λ z. PointsDiffer z (f y))
    (λ is. cond_both (y.node_id == n) (move y) y (λ w. PointsDiffer (move x) w) (λ is'. absurd (r.1 (eqb-true x.node_id n is ∙ sym (eqb-true y.node_id n is')))) (λ no. far y cy (other y no)))
    (λ no. cond_both (y.node_id == n) (move y) y (λ w. PointsDiffer x w) (λ is. λ s. far x cx (other x no) (turned p x.geom s)) (λ _. r.0)) in
    nodes_changed ns (put_at p n ns) es h
    (pairwise-map (λ x y. PointsDiffer x y × (x.node_id ≢ y.node_id)) PointsDiffer f ns keeps (pairwise-both PointsDiffer (λ (x y : NodeRow). x.node_id ≢ y.node_id) ns h.apart ids))
    (λ m e c ce end.
    let not_it : m.node_id ≢ n = λ is. alone e ce (subst (λ i. IsTrue (is_end_of i e)) is end) in
    let same : f m ≡ m = cond-false (m.node_id == n) (move m) m (ne_eqb m.node_id n not_it) in
    (m, (subst (λ r. Contains (map f ns) r) same (contains-map f m ns c), (refl, refl))))
    (λ m e c ce.
    let r = contains-mapped f m ns c in
    subst (λ (z : NodeRow). IsOnEdge (rational z.geom) e → IsTrue (is_end_of z.node_id e)) r.1.1
    (cond_both (r.0.node_id == n) (move r.0) r.0 (λ (z : NodeRow). IsOnEdge (rational z.geom) e → IsTrue (is_end_of z.node_id e)) (λ _. λ on. absurd (free e ce on)) (λ _. λ on. h.off r.0 e r.1.0 ce on)))

-- nodes that keep their ids and points
pub nodes_mapped : (f : NodeRow → NodeRow) (ns : List NodeRow) (es : List Edge) → ((r : NodeRow) → ((f r).node_id ≡ r.node_id) × ((f r).geom ≡ r.geom)) → ArePlain ns es → ArePlain (map f ns) es
nodes_mapped f ns es keeps h =
    nodes_changed ns (map f ns) es h
    (pairwise-map PointsDiffer PointsDiffer f ns (λ x y cx cy r. λ s. r (rw (← (keeps x).1, ← (keeps y).1) s)) h.apart)
    (λ m e c ce end. (f m, (contains-map f m ns c, keeps m)))
    (λ m e c ce.
    let r = contains-mapped f m ns c in
    let k = keeps r.0 in
    subst (λ (z : NodeRow). IsOnEdge (rational z.geom) e → IsTrue (is_end_of z.node_id e)) r.1.1
    (λ on. subst (λ i. IsTrue (is_end_of i e)) (sym k.0) (h.off r.0 e r.1.0 ce (subst (λ g. IsOnEdge (rational g) e) k.1 on))))

pub face_set : (face : Option ℕ) (n : ℕ) (ns : List NodeRow) (es : List Edge) → ArePlain ns es → ArePlain (put_in_face face n ns) es
face_set face n ns es h = nodes_mapped (λ (r : NodeRow). cond (r.node_id == n) (record r { containing_face = face }) r) ns es (λ r. keeps face r (r.node_id == n)) h
  where
    keeps : (face : Option ℕ) (r : NodeRow) (b : Bool) → ((cond b (record r { containing_face = face }) r).node_id ≡ r.node_id) × ((cond b (record r { containing_face = face }) r).geom ≡ r.geom)
    keeps face r true = (refl, refl)
    keeps face r false = (refl, refl)

-- ---- other edges
-- some edges less
pub edges_filtered : (p : Edge → Bool) (ns : List NodeRow) (es : List Edge) → ArePlain ns es → ArePlain ns (filter p es)
edges_filtered p ns es h =
    let there : (e : Edge) → Contains (filter p es) e → Contains es e = λ e c. (contains-filtered p e es c).0 in
    record {
      apart = h.apart;
      fit = λ e c. h.fit e (there e c);
      simple = λ e c. h.simple e (there e c);
      meet = λ e f q ce cf. h.meet e f q (there e ce) (there f cf);
      off = λ n e c ce. h.off n e c (there e ce);
    }

-- an edge more, whose inner points are no node's and lie on no edge
at_same : (p r : Point) (q : RationalPoint) → SameCoordinates p r → IsAt r q → IsAt p q
at_same p r q h k = (rw (h.0) k.0, rw (h.1) k.1)

-- each point of it is an inner one or that of a node at an end
abbrev IsAtEndNode : List NodeRow → Edge → RationalPoint → Type 0
IsAtEndNode ns e q = (n : NodeRow) × (Contains ns n × IsAt n.geom q × IsTrue (is_end_of n.node_id e))

inside_or_end : (ns : List NodeRow) (e : Edge) (q : RationalPoint) → IsBetweenNodes ns e → IsOnEdge q e → IsInsideLine q e.geom ⊎ IsAtEndNode ns e q
inside_or_end ns e q h on =
    let first = first_vertex e.geom in
    let last = last_vertex e.geom in
    let a = h.starts in
    let b = h.ends in
    ⊎_elim
    (λ (k : IsAt first q). inr (a.0, (a.1.0, at_same a.0.geom first q a.1.1.1 k, start_is_end e a.0.node_id a.1.1.0)))
    (λ (far : IsAt first q → ⊥).
    ⊎_elim
    (λ (k : IsAt last q). inr (b.0, (b.1.0, at_same b.0.geom last q b.1.1.1 k, end_is_end e b.0.node_id b.1.1.0)))
    (λ (far' : IsAt last q → ⊥). inl (on, far, far'))
    (at_or_not last q))
    (at_or_not first q)

-- where it meets another edge both have the end node there
met : (ns : List NodeRow) (es : List Edge) (e f : Edge) (q : RationalPoint) → ArePlain ns es → IsBetweenNodes ns e → ((q : RationalPoint) (f : Edge) → IsInsideLine q e.geom → Contains es f → IsOnEdge q f → ⊥)
    → Contains es f → IsOnEdge q e → IsOnEdge q f → (n : NodeRow) × (Contains ns n × IsAt n.geom q × IsTrue (is_end_of n.node_id e) × IsTrue (is_end_of n.node_id f))
met ns es e f q h fits free c on_e on_f =
    ⊎_elim
    (λ (k : IsInsideLine q e.geom). absurd (free q f k c on_f))
    (λ (k : IsAtEndNode ns e q).
    let n = k.0 in
    let on : IsOnEdge (rational n.geom) f = (on_f.0, (on_f.1.0, on_at n.geom q on_f.0 k.1.1 on_f.1.1)) in
    (n, (k.1.0, k.1.1, k.1.2, h.off n f k.1.0 c on)))
    (inside_or_end ns e q fits on_e)

pub edge_added : (ns : List NodeRow) (es : List Edge) (e : Edge) → ArePlain ns es → IsBetweenNodes ns e → IsSimpleLine (segments_of e.geom)
    → ((q : RationalPoint) (n : NodeRow) → IsInsideLine q e.geom → Contains ns n → IsAt n.geom q → ⊥)
    → ((q : RationalPoint) (f : Edge) → IsInsideLine q e.geom → Contains es f → IsOnEdge q f → ⊥) → ArePlain ns (es ++ e ∷ [])
edge_added ns es e h fits line no_node no_edge =
    let here : (x : Edge) → Contains (es ++ e ∷ []) x → Contains es x ⊎ (e ≡ x) = λ x c. Contains-push_cases es e x c in
    record {
      apart = h.apart;
      fit = λ x c. ⊎_elim (λ (k : Contains es x). h.fit x k) (λ (is : e ≡ x). subst (IsBetweenNodes ns) is fits) (here x c);
      simple = λ x c. ⊎_elim (λ (k : Contains es x). h.simple x k) (λ (is : e ≡ x). subst (λ (y : Edge). IsSimpleLine (segments_of y.geom)) is line) (here x c);
      meet = λ x y q cx cy differ on_x on_y.
          ⊎_elim
          (λ (kx : Contains es x).
          ⊎_elim
          (λ (ky : Contains es y). h.meet x y q kx ky differ on_x on_y)
          (λ (iy : e ≡ y). subst (λ z. IsOnEdge q z → IsCommonNode ns x z q) iy (λ on. let m = met ns es e x q h fits no_edge kx on on_x in (m.0, (m.1.0, m.1.1, and_from _ _ m.1.3 m.1.2))) on_y)
          (here y cy))
          (λ (ix : e ≡ x).
          ⊎_elim
          (λ (ky : Contains es y). subst (λ z. IsOnEdge q z → IsCommonNode ns z y q) ix (λ on. let m = met ns es e y q h fits no_edge ky on on_y in (m.0, (m.1.0, m.1.1, and_from _ _ m.1.2 m.1.3))) on_x)
          (λ (iy : e ≡ y). absurd (differ (ap (λ (z : Edge). z.edge_id) (sym ix ∙ iy))))
          (here y cy))
          (here x cx);
      off = λ n x c cx.
          ⊎_elim
          (λ (k : Contains es x). h.off n x c k)
          (λ (is : e ≡ x). subst (λ z. IsOnEdge (rational n.geom) z → IsTrue (is_end_of n.node_id z)) is (λ on. own_end ns e n h.apart fits no_node c on))
          (here x cx);
    }
  where
    own_end : (ns : List NodeRow) (e : Edge) (n : NodeRow) → Pairwise PointsDiffer ns → IsBetweenNodes ns e → ((q : RationalPoint) (n : NodeRow) → IsInsideLine q e.geom → Contains ns n → IsAt n.geom q → ⊥)
        → Contains ns n → IsOnEdge (rational n.geom) e → IsTrue (is_end_of n.node_id e)
    own_end ns e n apart fits no_node c on =
        ⊎_elim
        (λ (k : IsInsideLine (rational n.geom) e.geom). absurd (no_node (rational n.geom) n k c (at_point n.geom)))
        (λ (k : IsAtEndNode ns e (rational n.geom)).
        let s = from_at n.geom k.0.geom k.1.1 in
        let same : n ≡ k.0 = pairwise-same PointsDiffer ns n k.0 apart c k.1.0 (λ far. far (turned n.geom k.0.geom s)) (λ far. far s) in
        subst (λ (m : NodeRow). IsTrue (is_end_of m.node_id e)) (sym same) k.1.2)
        (inside_or_end ns e (rational n.geom) fits on)

-- edges with other faces on their sides
pub sides_changed : (left right : Edge → ℕ) (ns : List NodeRow) (es : List Edge) → ArePlain ns es → ArePlain ns (map (λ (e : Edge). record e { left_face = left e; right_face = right e }) es)
sides_changed left right ns es h =
    let g = λ (e : Edge). record e { left_face = left e; right_face = right e } in
    record {
      apart = h.apart;
      fit = λ e c. let r = contains-mapped g e es c in let k = h.fit r.0 r.1.0 in subst (IsBetweenNodes ns) r.1.1 (record { proper = k.proper; starts = k.starts; ends = k.ends });
      simple = λ e c. let r = contains-mapped g e es c in subst (λ (x : Edge). IsSimpleLine (segments_of x.geom)) r.1.1 (h.simple r.0 r.1.0);
      meet = λ e f q ce cf.
          let r = contains-mapped g e es ce in
          let s = contains-mapped g f es cf in
          subst (λ (x : Edge). x.edge_id ≢ f.edge_id → IsOnEdge q x → IsOnEdge q f → IsCommonNode ns x f q) r.1.1
          (subst (λ (y : Edge). r.0.edge_id ≢ y.edge_id → IsOnEdge q r.0 → IsOnEdge q y → IsCommonNode ns (g r.0) y q) s.1.1 (h.meet r.0 s.0 q r.1.0 s.1.0));
      off = λ n e c ce. let r = contains-mapped g e es ce in subst (λ (x : Edge). IsOnEdge (rational n.geom) x → IsTrue (is_end_of n.node_id x)) r.1.1 (h.off n r.0 c r.1.0);
    }
