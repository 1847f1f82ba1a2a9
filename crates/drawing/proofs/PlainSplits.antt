-- An edge that is split keeps nodes and edges plain.
use Rattle.std.proofs.Common.{◌≡◌, ◌≢◌, ℕ, refl, sym, ◌∙◌, ap, subst, ◌⊎◌, inl, inr, ⊎_elim, true, cond, not, map, ◌==◌, List, [], ◌∷◌, ◌++◌, None, IsTrue, eqb-true}
use Rattle.std.specs.List.{Contains}
use Rattle.std.proofs.lemmas.Bool.{and_parts, and_from, or_cases, cond_both}
use Rattle.std.proofs.lemmas.List.Elements.{Contains-push, Contains-append_left, Contains-append_cases, Contains-push_cases}
use Rattle.std.proofs.lemmas.Bool.Decides.{Decides-eqb, Decides-not, not_from_Decides}
use Rattle.topo_base.specs.Point.{Point}
use Rattle.topo_base.specs.RationalPoint.{RationalPoint, rational, IsAt}
use Rattle.topo_base.specs.declared.rows.NodeRow.{NodeRow}
use Rattle.plane.specs.Line.{segments_of, first_vertex, last_vertex, line_up_to, line_from}
use Rattle.drawing.specs.Drawing.{Edge, edge_id_of, is_end_of}
use Rattle.drawing.specs.Rows.{without_row, with_change}
use Rattle.plane.specs.RationalTests.{IsOnLine}
use Rattle.drawing.specs.DrawnPoints.{IsOnEdge}
use Rattle.plane.specs.Relation.{SameCoordinates}
use Rattle.plane.specs.SimpleLine.{IsSimpleLine}
use Rattle.drawing.specs.SplitEdge.{first_part, second_part}
use Rattle.plane.proofs.Relations.{joined, same_end}
use Rattle.plane.proofs.Middle.{on_at}
use Rattle.plane.proofs.LineTests.{from_at}
use Rattle.drawing.proofs.Members.{contains-mapped, contains-filtered, Pairwise, pairwise-push, pairwise-same}
use Rattle.plane.proofs.ListTests.{contains_none, contains_cases}
use Rattle.plane.proofs.LineParts.{Cut}
use Rattle.plane.proofs.LineCuts.{at_place, here_at, up_to_simple, from_simple, cut_common, up_to_on, from_on, first_on_up_to, last_on_from, proper_up_to, proper_from}
use Rattle.drawing.proofs.PlainParts.{PointsDiffer, HasPoint, IsBetweenNodes, IsCommonNode, ArePlain}
use Rattle.drawing.proofs.PlainChanges.{kept_point, turned, start_is_end, end_is_end}

-- two points with the same coordinates are one
pub one_point : (p r : Point) → SameCoordinates p r → p ≡ r
one_point p r h = λ i. record { x = h.0 i; y = h.1 i }

abbrev pub NodeIdsDiffer : NodeRow → NodeRow → Type 0
NodeIdsDiffer n m = n.node_id ≢ m.node_id

-- the edge e, of plain nodes and edges, is cut at p, which is not an end of its line
pub record IsSplit (ns : List NodeRow) (es : List Edge) (e : Edge) (p : Point) : Type 0 where
  pub plain : ArePlain ns es
  pub ids : Pairwise NodeIdsDiffer ns
  pub there : Contains es e
  pub cut : Cut p e.geom
  pub not_first : SameCoordinates p (first_vertex e.geom) → ⊥
  pub not_last : SameCoordinates p (last_vertex e.geom) → ⊥

-- ---- the end nodes
-- the one node with an id has the point that some node with it has
pub id_point : (ns : List NodeRow) (m : NodeRow) (n : ℕ) (p : Point) → Pairwise NodeIdsDiffer ns → Contains ns m → m.node_id ≡ n → HasPoint ns n p → SameCoordinates m.geom p
id_point ns m n p ids c is (row, (cr, (is', at))) =
    let same : m ≡ row = pairwise-same NodeIdsDiffer ns m row ids c cr (λ far. far (is ∙ sym is')) (λ far. far (is' ∙ sym is)) in
    subst (λ (r : NodeRow). SameCoordinates r.geom p) (sym same) at

-- the one node at a point has the id that some node there has
pub point_id : (ns : List NodeRow) (m : NodeRow) (n : ℕ) (p : Point) → Pairwise PointsDiffer ns → Contains ns m → SameCoordinates m.geom p → HasPoint ns n p → m.node_id ≡ n
point_id ns m n p apart c s (row, (cr, (is, at))) =
    let here : SameCoordinates m.geom row.geom = (s.0 ∙ sym at.0, s.1 ∙ sym at.1) in
    let same : m ≡ row = pairwise-same PointsDiffer ns m row apart c cr (λ far. far (turned m.geom row.geom here)) (λ far. far here) in
    ap (λ (r : NodeRow). r.node_id) same ∙ is

pub end_cases : (n : ℕ) (e : Edge) → IsTrue (is_end_of n e) → (n ≡ e.start_node) ⊎ (n ≡ e.end_node)
end_cases n e h =
    ⊎_elim
    (λ (k : (e.start_node == n) ≡ true). inl (sym (eqb-true e.start_node n k)))
    (λ (k : (e.end_node == n) ≡ true). inr (sym (eqb-true e.end_node n k)))
    (or_cases (e.start_node == n) (e.end_node == n) h)

-- no node is at p
free : (ns : List NodeRow) (es : List Edge) (e : Edge) (p : Point) → IsSplit ns es e p → (m : NodeRow) → Contains ns m → SameCoordinates m.geom p → ⊥
free ns es e p g m c s =
    let here = g.cut.here in
    let fit = g.plain.fit e g.there in
    let is = one_point m.geom p s in
    let on : IsOnEdge (rational m.geom) e = subst (λ v. IsOnEdge (rational v) e) (sym is) (here, (at_place here (segments_of e.geom) _ (here_at p e.geom g.cut), g.cut.on)) in
    ⊎_elim
    (λ (k : m.node_id ≡ e.start_node). g.not_first (subst (λ v. SameCoordinates v (first_vertex e.geom)) is (id_point ns m e.start_node (first_vertex e.geom) g.ids c k fit.starts)))
    (λ (k : m.node_id ≡ e.end_node). g.not_last (subst (λ v. SameCoordinates v (last_vertex e.geom)) is (id_point ns m e.end_node (last_vertex e.geom) g.ids c k fit.ends)))
    (end_cases m.node_id e (g.plain.off m e c g.there on))

-- a node on both parts is at both ends of the line
both_ends : (ns : List NodeRow) (es : List Edge) (e : Edge) (p : Point) → IsSplit ns es e p → (m : NodeRow) → Contains ns m → IsOnLine (rational m.geom) (line_up_to p e.geom) → IsOnLine (rational m.geom) (line_from p e.geom)
    → (m.node_id ≡ e.start_node) × (m.node_id ≡ e.end_node)
both_ends ns es e p g m c on_first on_second =
    let fit = g.plain.fit e g.there in
    ⊎_elim
    (λ (k : IsAt p (rational m.geom)). absurd (free ns es e p g m c (from_at m.geom p k)))
    (λ (k : IsAt (first_vertex e.geom) (rational m.geom) × IsAt (last_vertex e.geom) (rational m.geom)). (
      point_id ns m e.start_node (first_vertex e.geom) g.plain.apart c (from_at m.geom (first_vertex e.geom) k.0) fit.starts,
      point_id ns m e.end_node (last_vertex e.geom) g.plain.apart c (from_at m.geom (last_vertex e.geom) k.1) fit.ends,
    ))
    (cut_common p e.geom g.cut (g.plain.simple e g.there) (rational m.geom) on_first on_second)

ends_first : (ns : List NodeRow) (es : List Edge) (e : Edge) (p : Point) (n id : ℕ) → IsSplit ns es e p → (m : NodeRow) → Contains ns m → IsOnEdge (rational m.geom) (first_part e n p id)
    → IsTrue (is_end_of m.node_id (first_part e n p id))
ends_first ns es e p n id g m c on =
    let fit = g.plain.fit e g.there in
    let by_start : m.node_id ≡ e.start_node → IsTrue (is_end_of m.node_id (first_part e n p id)) = λ k. start_is_end (first_part e n p id) m.node_id k in
    ⊎_elim by_start
    (λ (k : m.node_id ≡ e.end_node).
    let is = one_point m.geom (last_vertex e.geom) (id_point ns m e.end_node (last_vertex e.geom) g.ids c k fit.ends) in
    by_start (both_ends ns es e p g m c on (subst (λ v. IsOnLine (rational v) (line_from p e.geom)) (sym is) (last_on_from p e.geom g.cut g.not_last))).0)
    (end_cases m.node_id e (g.plain.off m e c g.there (up_to_on p e.geom g.cut (rational m.geom) on)))

ends_second : (ns : List NodeRow) (es : List Edge) (e : Edge) (p : Point) (n id : ℕ) → IsSplit ns es e p → (m : NodeRow) → Contains ns m → IsOnEdge (rational m.geom) (second_part e n p id)
    → IsTrue (is_end_of m.node_id (second_part e n p id))
ends_second ns es e p n id g m c on =
    let fit = g.plain.fit e g.there in
    let by_end : m.node_id ≡ e.end_node → IsTrue (is_end_of m.node_id (second_part e n p id)) = λ k. end_is_end (second_part e n p id) m.node_id k in
    ⊎_elim
    (λ (k : m.node_id ≡ e.start_node).
    let is = one_point m.geom (first_vertex e.geom) (id_point ns m e.start_node (first_vertex e.geom) g.ids c k fit.starts) in
    by_end (both_ends ns es e p g m c (subst (λ v. IsOnLine (rational v) (line_up_to p e.geom)) (sym is) (first_on_up_to p e.geom g.cut)) on).1)
    by_end
    (end_cases m.node_id e (g.plain.off m e c g.there (from_on p e.geom g.cut (rational m.geom) on)))

-- ---- a part, whose points are the edge's, and of which each node on it is an end
record IsPart (ns : List NodeRow) (e x : Edge) : Type 0 where
  pub inside : (q : RationalPoint) → IsOnEdge q x → IsOnEdge q e
  pub ends : (m : NodeRow) → Contains ns m → IsOnEdge (rational m.geom) x → IsTrue (is_end_of m.node_id x)

part_meets : (ns : List NodeRow) (es : List Edge) (e x f : Edge) (q : RationalPoint) → ArePlain ns es → Contains es e → IsPart ns e x → Contains es f → f.edge_id ≢ e.edge_id → IsOnEdge q x → IsOnEdge q f
    → (m : NodeRow) × (Contains ns m × IsAt m.geom q × IsTrue (is_end_of m.node_id x) × IsTrue (is_end_of m.node_id f))
part_meets ns es e x f q h ce part cf differ on_x on_f =
    let k = h.meet e f q ce cf (λ s. differ (sym s)) (part.inside q on_x) on_f in
    let m = k.0 in
    let on : IsOnEdge (rational m.geom) x = (on_x.0, (on_x.1.0, on_at m.geom q on_x.0 k.1.1 on_x.1.1)) in
    (m, (k.1.0, k.1.1, part.ends m k.1.0 on, (and_parts (is_end_of m.node_id e) (is_end_of m.node_id f) k.1.2).1))

-- where an edge comes from: another edge, the first part or the second
abbrev pub ComesFrom : List Edge → Edge → Edge → Edge → Edge → Type 0
ComesFrom es e first second x = (Contains es x × (x.edge_id ≢ e.edge_id)) ⊎ ((first ≡ x) ⊎ (second ≡ x))

abbrev pub new_node : ℕ → Point → NodeRow
new_node n p = record { node_id = n; containing_face = None; geom = p }

wider : (ns : List NodeRow) (n : NodeRow) (k : ℕ) (p : Point) → HasPoint ns k p → HasPoint (ns ++ n ∷ []) k p
wider ns n k p h = kept_point ns (ns ++ n ∷ []) k p (λ row c _. (row, (Contains-append_left ns (n ∷ []) row c, (refl, refl)))) h

first_fits : (ns : List NodeRow) (es : List Edge) (e : Edge) (p : Point) (n id : ℕ) → IsSplit ns es e p → IsBetweenNodes (ns ++ new_node n p ∷ []) (first_part e n p id)
first_fits ns es e p n id g =
    let fit = g.plain.fit e g.there in
    record {
      proper = proper_up_to p e.geom g.cut g.not_first fit.proper;
      starts = subst (HasPoint (ns ++ new_node n p ∷ []) e.start_node) (sym g.cut.up_first) (wider ns (new_node n p) e.start_node (first_vertex e.geom) fit.starts);
      ends = (new_node n p, (Contains-push ns (new_node n p), (refl, subst (SameCoordinates p) (sym g.cut.up_last) (joined p))));
    }

second_fits : (ns : List NodeRow) (es : List Edge) (e : Edge) (p : Point) (n id : ℕ) → IsSplit ns es e p → IsBetweenNodes (ns ++ new_node n p ∷ []) (second_part e n p id)
second_fits ns es e p n id g =
    let fit = g.plain.fit e g.there in
    record {
      proper = proper_from p e.geom g.cut fit.proper;
      starts = (new_node n p, (Contains-push ns (new_node n p), (refl, g.cut.from_first)));
      ends = subst (HasPoint (ns ++ new_node n p ∷ []) e.end_node) (sym g.cut.from_last) (wider ns (new_node n p) e.end_node (last_vertex e.geom) fit.ends);
    }

-- the two parts meet at the new node, and at a node at both ends
parts_meet : (ns : List NodeRow) (es : List Edge) (e : Edge) (p : Point) (n id id' : ℕ) (q : RationalPoint) → IsSplit ns es e p → IsOnEdge q (first_part e n p id) → IsOnEdge q (second_part e n p id')
    → (m : NodeRow) × (Contains (ns ++ new_node n p ∷ []) m × IsAt m.geom q × IsTrue (is_end_of m.node_id (first_part e n p id)) × IsTrue (is_end_of m.node_id (second_part e n p id')))
parts_meet ns es e p n id id' q g on_first on_second =
    let fit = g.plain.fit e g.there in
    let a = fit.starts in
    ⊎_elim
    (λ (k : IsAt p q). (new_node n p, (Contains-push ns (new_node n p), k, end_is_end (first_part e n p id) n refl, start_is_end (second_part e n p id') n refl)))
    (λ (k : IsAt (first_vertex e.geom) q × IsAt (last_vertex e.geom) q).
    let at : IsAt a.0.geom q = subst (λ v. IsAt v q) (sym (one_point a.0.geom (first_vertex e.geom) a.1.1.1)) k.0 in
    let same = same_end q a.0.geom (last_vertex e.geom) at k.1 in
    let end = point_id ns a.0 e.end_node (last_vertex e.geom) g.plain.apart a.1.0 same fit.ends in
    (a.0, (Contains-append_left ns (new_node n p ∷ []) a.0 a.1.0, at, start_is_end (first_part e n p id) a.0.node_id a.1.1.0, end_is_end (second_part e n p id') a.0.node_id end)))
    (cut_common p e.geom g.cut (g.plain.simple e g.there) q on_first on_second)

pub edge_split : (ns : List NodeRow) (es fs : List Edge) (e : Edge) (p : Point) (n id id' : ℕ) → IsSplit ns es e p
    → ((x : Edge) → Contains fs x → ComesFrom es e (first_part e n p id) (second_part e n p id') x) → ArePlain (ns ++ new_node n p ∷ []) fs
edge_split ns es fs e p n id id' g from = record { apart = apart; fit = fit; simple = simple; meet = meet; off = off }
  where
    part_one : IsPart ns e (first_part e n p id)
    part_one = record { inside = λ q on. up_to_on p e.geom g.cut q on; ends = λ m c on. ends_first ns es e p n id g m c on }

    part_two : IsPart ns e (second_part e n p id')
    part_two = record { inside = λ q on. from_on p e.geom g.cut q on; ends = λ m c on. ends_second ns es e p n id' g m c on }

    apart : Pairwise PointsDiffer (ns ++ new_node n p ∷ [])
    apart = pairwise-push PointsDiffer ns (new_node n p) (λ m c s. free ns es e p g m c (turned p m.geom s)) g.plain.apart

    old_fits : (x : Edge) → Contains es x → IsBetweenNodes (ns ++ new_node n p ∷ []) x
    old_fits x c =
        let k = g.plain.fit x c in
        record { proper = k.proper; starts = wider ns (new_node n p) x.start_node (first_vertex x.geom) k.starts; ends = wider ns (new_node n p) x.end_node (last_vertex x.geom) k.ends }

    fit : (x : Edge) → Contains fs x → IsBetweenNodes (ns ++ new_node n p ∷ []) x
    fit x c =
        ⊎_elim
        (λ (k : Contains es x × (x.edge_id ≢ e.edge_id)). old_fits x k.0)
        (⊎_elim
        (λ (k : first_part e n p id ≡ x). subst (IsBetweenNodes (ns ++ new_node n p ∷ [])) k (first_fits ns es e p n id g))
        (λ (k : second_part e n p id' ≡ x). subst (IsBetweenNodes (ns ++ new_node n p ∷ [])) k (second_fits ns es e p n id' g)))
        (from x c)

    simple : (x : Edge) → Contains fs x → IsSimpleLine (segments_of x.geom)
    simple x c =
        ⊎_elim
        (λ (k : Contains es x × (x.edge_id ≢ e.edge_id)). g.plain.simple x k.0)
        (⊎_elim
        (λ (k : first_part e n p id ≡ x). subst (λ (y : Edge). IsSimpleLine (segments_of y.geom)) k (up_to_simple p e.geom g.cut (g.plain.simple e g.there) g.not_last))
        (λ (k : second_part e n p id' ≡ x). subst (λ (y : Edge). IsSimpleLine (segments_of y.geom)) k (from_simple p e.geom g.cut (g.plain.simple e g.there) g.not_first)))
        (from x c)

    with_old : (x f : Edge) (q : RationalPoint) → IsPart ns e x → Contains es f × (f.edge_id ≢ e.edge_id) → IsOnEdge q x → IsOnEdge q f → IsCommonNode (ns ++ new_node n p ∷ []) x f q
    with_old x f q part c on_x on_f =
        let m = part_meets ns es e x f q g.plain g.there part c.0 c.1 on_x on_f in
        (m.0, (Contains-append_left ns (new_node n p ∷ []) m.0 m.1.0, m.1.1, and_from (is_end_of m.0.node_id x) (is_end_of m.0.node_id f) m.1.2 m.1.3))

    swapped : (x y : Edge) (q : RationalPoint) → IsCommonNode (ns ++ new_node n p ∷ []) x y q → IsCommonNode (ns ++ new_node n p ∷ []) y x q
    swapped x y q k =
        let both = and_parts (is_end_of k.0.node_id x) (is_end_of k.0.node_id y) k.1.2 in
        (k.0, (k.1.0, k.1.1, and_from (is_end_of k.0.node_id y) (is_end_of k.0.node_id x) both.1 both.0))

    with_each_other : (q : RationalPoint) → IsOnEdge q (first_part e n p id) → IsOnEdge q (second_part e n p id') → IsCommonNode (ns ++ new_node n p ∷ []) (first_part e n p id) (second_part e n p id') q
    with_each_other q on_x on_y =
        let m = parts_meet ns es e p n id id' q g on_x on_y in
        (m.0, (m.1.0, m.1.1, and_from (is_end_of m.0.node_id (first_part e n p id)) (is_end_of m.0.node_id (second_part e n p id')) m.1.2 m.1.3))

    old_meet : (x y : Edge) (q : RationalPoint) → Contains es x → Contains es y → x.edge_id ≢ y.edge_id → IsOnEdge q x → IsOnEdge q y → IsCommonNode (ns ++ new_node n p ∷ []) x y q
    old_meet x y q cx cy differ on_x on_y =
        let m = g.plain.meet x y q cx cy differ on_x on_y in (m.0, (Contains-append_left ns (new_node n p ∷ []) m.0 m.1.0, m.1.1, m.1.2))

    meet : (x y : Edge) (q : RationalPoint) → Contains fs x → Contains fs y → x.edge_id ≢ y.edge_id → IsOnEdge q x → IsOnEdge q y → IsCommonNode (ns ++ new_node n p ∷ []) x y q
    meet x y q cx cy =
        let one = first_part e n p id in
        let two = second_part e n p id' in
        let Goal : Edge → Edge → Type 0 = λ (a b : Edge). a.edge_id ≢ b.edge_id → IsOnEdge q a → IsOnEdge q b → IsCommonNode (ns ++ new_node n p ∷ []) a b q in
        ⊎_elim
        (λ (kx : Contains es x × (x.edge_id ≢ e.edge_id)).
        ⊎_elim
        (λ (ky : Contains es y × (y.edge_id ≢ e.edge_id)). old_meet x y q kx.0 ky.0)
        (⊎_elim
        (λ (iy : one ≡ y). subst (λ b. Goal x b) iy (λ _ on_x on_y. swapped one x q (with_old one x q part_one kx on_y on_x)))
        (λ (iy : two ≡ y). subst (λ b. Goal x b) iy (λ _ on_x on_y. swapped two x q (with_old two x q part_two kx on_y on_x))))
        (from y cy))
        (⊎_elim
        (λ (ix : one ≡ x).
        subst (λ a. Goal a y) ix
        (⊎_elim
        (λ (ky : Contains es y × (y.edge_id ≢ e.edge_id)). λ _ on_x on_y. with_old one y q part_one ky on_x on_y)
        (⊎_elim
        (λ (iy : one ≡ y). λ differ. absurd (differ (ap (λ (r : Edge). r.edge_id) iy)))
        (λ (iy : two ≡ y). subst (λ b. Goal one b) iy (λ _ on_x on_y. with_each_other q on_x on_y)))
        (from y cy)))
        (λ (ix : two ≡ x).
        subst (λ a. Goal a y) ix
        (⊎_elim
        (λ (ky : Contains es y × (y.edge_id ≢ e.edge_id)). λ _ on_x on_y. with_old two y q part_two ky on_x on_y)
        (⊎_elim
        (λ (iy : one ≡ y). subst (λ b. Goal two b) iy (λ _ on_x on_y. swapped one two q (with_each_other q on_y on_x)))
        (λ (iy : two ≡ y). λ differ. absurd (differ (ap (λ (r : Edge). r.edge_id) iy))))
        (from y cy))))
        (from x cx)

    off_new : (x : Edge) → Contains es x → x.edge_id ≢ e.edge_id → IsOnEdge (rational p) x → ⊥
    off_new x c differ on =
        let here = g.cut.here in
        let on_e : IsOnEdge (rational p) e = (here, (at_place here (segments_of e.geom) _ (here_at p e.geom g.cut), g.cut.on)) in
        let m = g.plain.meet e x (rational p) g.there c (λ s. differ (sym s)) on_e on in
        free ns es e p g m.0 m.1.0 (turned p m.0.geom (from_at p m.0.geom m.1.1))

    off : (m : NodeRow) (x : Edge) → Contains (ns ++ new_node n p ∷ []) m → Contains fs x → IsOnEdge (rational m.geom) x → IsTrue (is_end_of m.node_id x)
    off m x cm cx =
        let one = first_part e n p id in
        let two = second_part e n p id' in
        let Goal : NodeRow → Edge → Type 0 = λ (r : NodeRow) (a : Edge). IsOnEdge (rational r.geom) a → IsTrue (is_end_of r.node_id a) in
        ⊎_elim
        (λ (km : Contains ns m).
        ⊎_elim
        (λ (kx : Contains es x × (x.edge_id ≢ e.edge_id)). λ on. g.plain.off m x km kx.0 on)
        (⊎_elim
        (λ (ix : one ≡ x). subst (λ a. Goal m a) ix (λ on. part_one.ends m km on))
        (λ (ix : two ≡ x). subst (λ a. Goal m a) ix (λ on. part_two.ends m km on)))
        (from x cx))
        (λ (im : new_node n p ≡ m).
        subst (λ r. Goal r x) im
        (⊎_elim
        (λ (kx : Contains es x × (x.edge_id ≢ e.edge_id)). λ on. absurd (off_new x kx.0 kx.1 on))
        (⊎_elim
        (λ (ix : one ≡ x). subst (λ a. Goal (new_node n p) a) ix (λ _. end_is_end one n refl))
        (λ (ix : two ≡ x). subst (λ a. Goal (new_node n p) a) ix (λ _. start_is_end two n refl)))
        (from x cx)))
        (Contains-push_cases ns (new_node n p) m cm)

-- ---- the edges after a split
abbrev pub EdgeIdsDiffer : Edge → Edge → Type 0
EdgeIdsDiffer x y = x.edge_id ≢ y.edge_id

-- the edge becomes its first part
pub from_changed : (es : List Edge) (e : Edge) (p : Point) (n new : ℕ) → Pairwise EdgeIdsDiffer es → Contains es e → (x : Edge)
    → Contains (with_change edge_id_of es e.edge_id (λ y. first_part y n p y.edge_id) ++ second_part e n p new ∷ []) x → ComesFrom es e (first_part e n p e.edge_id) (second_part e n p new) x
from_changed es e p n new ids ce x c =
    let part = λ (y : Edge). first_part y n p y.edge_id in
    let f = λ (y : Edge). cond (y.edge_id == e.edge_id) (part y) y in
    ⊎_elim
    (λ (k : Contains (map f es) x).
    let r = contains-mapped f x es k in
    subst (ComesFrom es e (first_part e n p e.edge_id) (second_part e n p new)) r.1.1
    (cond_both (r.0.edge_id == e.edge_id) (part r.0) r.0 (ComesFrom es e (first_part e n p e.edge_id) (second_part e n p new))
    (λ is.
    let one = eqb-true r.0.edge_id e.edge_id is in
    let same : e ≡ r.0 = pairwise-same EdgeIdsDiffer es e r.0 ids ce r.1.0 (λ far. far (sym one)) (λ far. far one) in
    inr (inl (ap part same)))
    (λ no. inl (r.1.0, not_from_Decides (r.0.edge_id == e.edge_id) (Decides-eqb r.0.edge_id e.edge_id) no))))
    (λ (k : second_part e n p new ≡ x). inr (inr k))
    (Contains-push_cases (map f es) (second_part e n p new) x c)

-- the edge goes, and both parts are new
pub from_both : (es : List Edge) (e : Edge) (p : Point) (n new new' : ℕ) (x : Edge)
    → Contains (without_row edge_id_of es e.edge_id ++ first_part e n p new ∷ second_part e n p new' ∷ []) x → ComesFrom es e (first_part e n p new) (second_part e n p new') x
from_both es e p n new new' x c =
    let one = first_part e n p new in
    let two = second_part e n p new' in
    ⊎_elim
    (λ (k : Contains (without_row edge_id_of es e.edge_id) x).
    let r = contains-filtered (λ (y : Edge). not (y.edge_id == e.edge_id)) x es k in
    inl (r.0, (Decides-not (x.edge_id == e.edge_id) (Decides-eqb x.edge_id e.edge_id)).0 r.1))
    (λ (k : Contains (one ∷ two ∷ []) x).
    ⊎_elim
    (λ (is : one ≡ x). inr (inl is))
    (λ (l : Contains (two ∷ []) x). ⊎_elim (λ (is : two ≡ x). inr (inr is)) (λ (m : Contains [] x). absurd (contains_none x m)) (contains_cases x two [] l))
    (contains_cases x one (two ∷ []) k))
    (Contains-append_cases (without_row edge_id_of es e.edge_id) (one ∷ two ∷ []) x c)
