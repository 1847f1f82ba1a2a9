-- Two edges that are healed into one keep nodes and edges plain.
use Rattle.std.proofs.Common.{◌≡◌, ◌≢◌, ℕ, ◌+◌, refl, sym, ◌∙◌, ap, subst, arith, ◌⊎◌, inl, inr, ⊎_elim, true, not, ◌==◌, List, [], ◌∷◌, ◌++◌, length, length-append, slice_get, Some, IsTrue}
use Rattle.std.specs.Prelude.{reverse}
use Rattle.std.specs.List.{list_all, Contains}
use Rattle.std.proofs.lemmas.Bool.{and_parts, and_from}
use Rattle.std.proofs.lemmas.Bool.Decides.{Decides-eqb, Decides-not}
use Rattle.std.proofs.lemmas.List.Elements.{Contains-append_cases}
use Rattle.std.proofs.lemmas.Option.{slice_get_within}
use Rattle.topo_base.specs.Point.{Point}
use Rattle.topo_base.specs.RationalPoint.{RationalPoint, rational, IsAt}
use Rattle.topo_base.specs.declared.rows.NodeRow.{NodeRow}
use Rattle.plane.specs.Segment.{Segment}
use Rattle.plane.specs.Line.{segments_of, first_vertex, last_vertex, is_proper, joined, no_point}
use Rattle.drawing.specs.Rows.{without_row}
use Rattle.drawing.specs.Drawing.{Edge, node_id_of, is_end_of}
use Rattle.plane.specs.RationalTests.{IsOn, IsOnLine}
use Rattle.drawing.specs.DrawnPoints.{IsOnEdge}
use Rattle.plane.specs.Relation.{SameCoordinates}
use Rattle.plane.specs.SimpleLine.{IsSimpleLine}
use Rattle.plane.proofs.Collinear.{at_point}
use Rattle.plane.proofs.Relations.{same_end}
use Rattle.plane.proofs.Middle.{on_at}
use Rattle.plane.proofs.SimpleTests.{first_begins}
use Rattle.drawing.proofs.Members.{contains-filter, contains-filtered, Pairwise, pairwise-filter}
use Rattle.plane.proofs.LineCuts.{at_place, place_cases, last_ends}
use Rattle.plane.proofs.LineTurns.{first-reverse, last-reverse, reverse_on, reverse_simple, reverse_proper, all-append, segments-joined, first-joined, last-joined, open_pair, first_only, last_only}
use Rattle.drawing.proofs.PlainParts.{PointsDiffer, HasPoint, IsBetweenNodes, IsCommonNode, ArePlain}
use Rattle.drawing.proofs.PlainChanges.{kept_point, start_is_end, end_is_end}
use Rattle.drawing.proofs.PlainSplits.{one_point, NodeIdsDiffer, id_point, point_id, end_cases}

-- a walk along the edge e, from the node u to the node v, which differ
pub record IsWalk (ns : List NodeRow) (e : Edge) (l : List Point) (u v : ℕ) : Type 0 where
  pub proper : list_all is_proper (segments_of l) ≡ true
  pub starts : HasPoint ns u (first_vertex l)
  pub ends : HasPoint ns v (last_vertex l)
  pub simple : IsSimpleLine (segments_of l)
  pub inside : (q : RationalPoint) → IsOnLine q l → IsOnEdge q e
  pub nodes : (k : ℕ) → IsTrue (is_end_of k e) → (k ≡ u) ⊎ (k ≡ v)
  pub differ : u ≢ v

pub walk_forward : (ns : List NodeRow) (es : List Edge) (e : Edge) → ArePlain ns es → Contains es e → e.start_node ≢ e.end_node → IsWalk ns e e.geom e.start_node e.end_node
walk_forward ns es e h c differ =
    let fit = h.fit e c in
    record { proper = fit.proper; starts = fit.starts; ends = fit.ends; simple = h.simple e c; inside = λ q on. on; nodes = λ k end. end_cases k e end; differ = differ }

pub walk_back : (ns : List NodeRow) (e : Edge) (l : List Point) (u v : ℕ) → IsWalk ns e l u v → IsWalk ns e (reverse l) v u
walk_back ns e l u v w = record {
  proper = reverse_proper l w.proper;
  starts = subst (HasPoint ns v) (sym (first-reverse l)) w.ends;
  ends = subst (HasPoint ns u) (sym (last-reverse l)) w.starts;
  simple = reverse_simple l w.simple;
  inside = λ q on. w.inside q (reverse_on l q on);
  nodes = λ k end. ⊎_elim (λ (is : k ≡ u). inr is) (λ (is : k ≡ v). inl is) (w.nodes k end);
  differ = λ is. w.differ (sym is);
}

-- it isn't closed, so it has a vertex
not_closed : (ns : List NodeRow) (e : Edge) (l : List Point) (u v : ℕ) → Pairwise PointsDiffer ns → IsWalk ns e l u v → (q : RationalPoint) → IsAt (first_vertex l) q → IsAt (last_vertex l) q → ⊥
not_closed ns e l u v apart w q a b =
    let row = w.starts in
    let k = row.1.1.1 in
    let s = same_end q (first_vertex l) (last_vertex l) a b in
    let is = point_id ns row.0 v (last_vertex l) apart row.1.0 (k.0 ∙ s.0, k.1 ∙ s.1) w.ends in
    w.differ (sym row.1.1.0 ∙ is)

some_vertex : (l : List Point) → ((q : RationalPoint) → IsAt (first_vertex l) q → IsAt (last_vertex l) q → ⊥) → (x : Point) × ((xs : List Point) × (l ≡ x ∷ xs))
some_vertex [] h = absurd (h (rational no_point) (at_point no_point) (at_point no_point))
some_vertex (x ∷ xs) h = (x, (xs, refl))

-- the edge x goes along e to the node n, and on along f
pub record IsHealed (ns : List NodeRow) (e f : Edge) (n : ℕ) (x : Edge) : Type 0 where
  pub a : List Point
  pub b : List Point
  pub line : x.geom ≡ joined a b
  pub first : IsWalk ns e a x.start_node n
  pub second : IsWalk ns f b n x.end_node

pub record AreHealed (ns : List NodeRow) (es : List Edge) (e f : Edge) (n : ℕ) (x : Edge) : Type 0 where
  pub plain : ArePlain ns es
  pub ids : Pairwise NodeIdsDiffer ns
  pub has_e : Contains es e
  pub has_f : Contains es f
  pub differ : e.edge_id ≢ f.edge_id
  pub healed : IsHealed ns e f n x

at_point_of : (p r : Point) (q : RationalPoint) → SameCoordinates p r → IsAt p q → IsAt r q
at_point_of p r q h k = subst (λ v. IsAt v q) (one_point p r h) k

-- what it is made of
record IsInRow (ns : List NodeRow) (x : Edge) (a b : List Point) : Type 0 where
  pub joint : last_vertex a ≡ first_vertex b
  pub whole : segments_of x.geom ≡ segments_of a ++ segments_of b
  pub begins : first_vertex x.geom ≡ first_vertex a
  pub ends : last_vertex x.geom ≡ last_vertex b

in_row : (ns : List NodeRow) (es : List Edge) (e f : Edge) (n : ℕ) (x : Edge) (g : AreHealed ns es e f n x) → IsInRow ns x g.healed.a g.healed.b
in_row ns es e f n x g =
    let h = g.healed in
    let row = h.first.ends in
    let k = row.1.1.1 in
    let s = id_point ns row.0 n (first_vertex h.b) g.ids row.1.0 row.1.1.0 h.second.starts in
    let joint : last_vertex h.a ≡ first_vertex h.b = one_point (last_vertex h.a) (first_vertex h.b) (sym k.0 ∙ s.0, sym k.1 ∙ s.1) in
    let va = some_vertex h.a (not_closed ns e h.a x.start_node n g.plain.apart h.first) in
    let vb = some_vertex h.b (not_closed ns f h.b n x.end_node g.plain.apart h.second) in
    record {
      joint = joint;
      whole = ap segments_of h.line ∙ segments-joined h.a h.b va.0 vb.0 va.1.0 vb.1.0 va.1.1 vb.1.1 joint;
      begins = ap first_vertex h.line ∙ first-joined h.a h.b va.0 va.1.0 va.1.1;
      ends = ap last_vertex h.line ∙ last-joined h.a h.b va.0 vb.0 va.1.0 vb.1.0 va.1.1 vb.1.1 joint;
    }

-- ---- it is simple
-- the two walks meet at the joint, and where they begin and end
across : (ns : List NodeRow) (es : List Edge) (e f : Edge) (n : ℕ) (x : Edge) (g : AreHealed ns es e f n x) (i j : ℕ) (s t : Segment) (q : RationalPoint)
    → slice_get (segments_of g.healed.a) i ≡ Some s → slice_get (segments_of g.healed.b) j ≡ Some t → IsOn q s → IsOn q t
    → ((length (segments_of g.healed.a) + j ≡ i + 1) × IsAt s.b q) ⊎ ((i ≡ 0) × (j + 1 ≡ length (segments_of g.healed.b)) × IsAt s.a q × IsAt t.b q)
across ns es e f n x g i j s t q is_s is_t on_s on_t =
    let h = g.healed in
    let a = h.a in
    let b = h.b in
    let row = in_row ns es e f n x g in
    let open_a = not_closed ns e a x.start_node n g.plain.apart h.first in
    let open_b = not_closed ns f b n x.end_node g.plain.apart h.second in
    let k = g.plain.meet e f q g.has_e g.has_f g.differ (h.first.inside q (s, (at_place s (segments_of a) i is_s, on_s))) (h.second.inside q (t, (at_place t (segments_of b) j is_t, on_t))) in
    let m = k.0 in
    let ends = and_parts (is_end_of m.node_id e) (is_end_of m.node_id f) k.1.2 in
    let at_joint : m.node_id ≡ n → ((length (segments_of a) + j ≡ i + 1) × IsAt s.b q) ⊎ ((i ≡ 0) × (j + 1 ≡ length (segments_of b)) × IsAt s.a q × IsAt t.b q) =
    λ is.
    let at_last = at_point_of m.geom (last_vertex a) q (id_point ns m n (last_vertex a) g.ids k.1.0 is h.first.ends) k.1.1 in
    let at_first = at_point_of m.geom (first_vertex b) q (id_point ns m n (first_vertex b) g.ids k.1.0 is h.second.starts) k.1.1 in
    let p = last_only a h.first.proper h.first.simple open_a i s q is_s on_s at_last in
    let r = first_only b h.second.proper h.second.simple open_b j t q is_t on_t at_first in
    inl (omega (arith, p, r), subst (λ v. IsAt v q) (last_ends a i s is_s p) at_last) in
    ⊎_elim
    (λ (u : m.node_id ≡ x.start_node).
    ⊎_elim at_joint
    (λ (v : m.node_id ≡ x.end_node).
    let at_first = at_point_of m.geom (first_vertex a) q (id_point ns m x.start_node (first_vertex a) g.ids k.1.0 u h.first.starts) k.1.1 in
    let at_last = at_point_of m.geom (last_vertex b) q (id_point ns m x.end_node (last_vertex b) g.ids k.1.0 v h.second.ends) k.1.1 in
    let p = first_only a h.first.proper h.first.simple open_a i s q is_s on_s at_first in
    let r = last_only b h.second.proper h.second.simple open_b j t q is_t on_t at_last in
    let is_0 : slice_get (segments_of a) 0 ≡ Some s = subst (λ l. slice_get (segments_of a) l ≡ Some s) p is_s in
    inr (p, r, subst (λ v. IsAt v q) (first_begins a s is_0) at_first, subst (λ v. IsAt v q) (last_ends b j t is_t r) at_last))
    (h.second.nodes m.node_id ends.1))
    at_joint
    (h.first.nodes m.node_id ends.0)

healed_simple : (ns : List NodeRow) (es : List Edge) (e f : Edge) (n : ℕ) (x : Edge) → AreHealed ns es e f n x → IsSimpleLine (segments_of x.geom)
healed_simple ns es e f n x g =
    let h = g.healed in
    let a = segments_of h.a in
    let b = segments_of h.b in
    let row = in_row ns es e f n x g in
    let open_a = not_closed ns e h.a x.start_node n g.plain.apart h.first in
    let open_b = not_closed ns f h.b n x.end_node g.plain.apart h.second in
    let long = length-append a b in
    subst IsSimpleLine (sym row.whole)
    (λ i j s t q below is_s is_t on_s on_t.
    ⊎_elim
    (λ (at_i : slice_get a i ≡ Some s).
    ⊎_elim
    (λ (at_j : slice_get a j ≡ Some t). inl (open_pair h.a h.first.simple open_a i j s t q below at_i at_j on_s on_t))
    (λ (at_j : (k : ℕ) × ((j ≡ length a + k) × (slice_get b k ≡ Some t))).
    ⊎_elim
    (λ (r : (length a + at_j.0 ≡ i + 1) × IsAt s.b q). inl (omega (arith, r.0, at_j.1.0), r.1))
    (λ (r : (i ≡ 0) × (at_j.0 + 1 ≡ length b) × IsAt s.a q × IsAt t.b q). inr (r.0, omega (arith, r.1, at_j.1.0, long), r.2, r.3))
    (across ns es e f n x g i at_j.0 s t q at_i at_j.1.1 on_s on_t))
    (place_cases a b j t is_t))
    (λ (at_i : (k : ℕ) × ((i ≡ length a + k) × (slice_get b k ≡ Some s))).
    ⊎_elim
    (λ (at_j : slice_get a j ≡ Some t). absurd (omega (arith, slice_get_within a j t at_j, at_i.1.0, below)))
    (λ (at_j : (k : ℕ) × ((j ≡ length a + k) × (slice_get b k ≡ Some t))).
    let p = open_pair h.b h.second.simple open_b at_i.0 at_j.0 s t q (omega (arith, at_i.1.0, at_j.1.0, below)) at_i.1.1 at_j.1.1 on_s on_t in
    inl (omega (arith, p.0, at_i.1.0, at_j.1.0), p.1))
    (place_cases a b j t is_t))
    (place_cases a b i s is_s))

-- ---- its points and its nodes
healed_on : (ns : List NodeRow) (es : List Edge) (e f : Edge) (n : ℕ) (x : Edge) (q : RationalPoint) → AreHealed ns es e f n x → IsOnEdge q x → IsOnEdge q e ⊎ IsOnEdge q f
healed_on ns es e f n x q g (s, (c, on)) =
    let h = g.healed in
    let row = in_row ns es e f n x g in
    ⊎_elim
    (λ (k : Contains (segments_of h.a) s). inl (h.first.inside q (s, (k, on))))
    (λ (k : Contains (segments_of h.b) s). inr (h.second.inside q (s, (k, on))))
    (Contains-append_cases (segments_of h.a) (segments_of h.b) s (subst (λ ss. Contains ss s) row.whole c))

healed_end : (ns : List NodeRow) (es : List Edge) (e f : Edge) (n : ℕ) (x : Edge) → AreHealed ns es e f n x → (m : NodeRow) → Contains ns m → m.node_id ≢ n → IsOnEdge (rational m.geom) x → IsTrue (is_end_of m.node_id x)
healed_end ns es e f n x g m c other on =
    let h = g.healed in
    ⊎_elim
    (λ (k : IsOnEdge (rational m.geom) e).
    ⊎_elim
    (λ (u : m.node_id ≡ x.start_node). start_is_end x m.node_id u)
    (λ (v : m.node_id ≡ n). absurd (other v))
    (h.first.nodes m.node_id (g.plain.off m e c g.has_e k)))
    (λ (k : IsOnEdge (rational m.geom) f).
    ⊎_elim
    (λ (u : m.node_id ≡ n). absurd (other u))
    (λ (v : m.node_id ≡ x.end_node). end_is_end x m.node_id v)
    (h.second.nodes m.node_id (g.plain.off m f c g.has_f k)))
    (healed_on ns es e f n x (rational m.geom) g on)

-- ---- the drawing
-- another edge, which does not end at the node
pub record IsBeside (es : List Edge) (e f : Edge) (n : ℕ) (y : Edge) : Type 0 where
  pub there : Contains es y
  pub not_e : y.edge_id ≢ e.edge_id
  pub not_f : y.edge_id ≢ f.edge_id
  pub away : IsTrue (is_end_of n y) → ⊥

still_there : (ns : List NodeRow) (n : ℕ) (m : NodeRow) → Contains ns m → m.node_id ≢ n → Contains (without_row node_id_of ns n) m
still_there ns n m c other = contains-filter (λ (r : NodeRow). not (r.node_id == n)) m ns c ((Decides-not (m.node_id == n) (Decides-eqb m.node_id n)).1 other)

still_has : (ns : List NodeRow) (n k : ℕ) (p : Point) → k ≢ n → HasPoint ns k p → HasPoint (without_row node_id_of ns n) k p
still_has ns n k p other h = kept_point ns (without_row node_id_of ns n) k p (λ row c is. (row, (still_there ns n row c (λ e. other (sym is ∙ e)), (refl, refl)))) h

not_at : (n k : ℕ) (y : Edge) → (IsTrue (is_end_of n y) → ⊥) → IsTrue (is_end_of k y) → k ≢ n
not_at n k y away end is = away (subst (λ i. IsTrue (is_end_of i y)) is end)

beside_meets : (ns : List NodeRow) (es : List Edge) (e f : Edge) (n : ℕ) (x y : Edge) (q : RationalPoint) → AreHealed ns es e f n x → IsBeside es e f n y → IsOnEdge q x → IsOnEdge q y
    → (m : NodeRow) × (Contains (without_row node_id_of ns n) m × IsAt m.geom q × IsTrue (is_end_of m.node_id x) × IsTrue (is_end_of m.node_id y))
beside_meets ns es e f n x y q g b on_x on_y =
    ⊎_elim
    (λ (k : IsOnEdge q e). by_edge ns es e f n x y q e g b on_x (g.plain.meet e y q g.has_e b.there (λ s. b.not_e (sym s)) k on_y))
    (λ (k : IsOnEdge q f). by_edge ns es e f n x y q f g b on_x (g.plain.meet f y q g.has_f b.there (λ s. b.not_f (sym s)) k on_y))
    (healed_on ns es e f n x q g on_x)
  where
    by_edge : (ns : List NodeRow) (es : List Edge) (e f : Edge) (n : ℕ) (x y : Edge) (q : RationalPoint) (d : Edge) → AreHealed ns es e f n x → IsBeside es e f n y → IsOnEdge q x → IsCommonNode ns d y q
        → (m : NodeRow) × (Contains (without_row node_id_of ns n) m × IsAt m.geom q × IsTrue (is_end_of m.node_id x) × IsTrue (is_end_of m.node_id y))
    by_edge ns es e f n x y q d g b on_x k =
        let m = k.0 in
        let end = (and_parts (is_end_of m.node_id d) (is_end_of m.node_id y) k.1.2).1 in
        let other = not_at n m.node_id y b.away end in
        let on : IsOnEdge (rational m.geom) x = (on_x.0, (on_x.1.0, on_at m.geom q on_x.0 k.1.1 on_x.1.1)) in
        (m, (still_there ns n m k.1.0 other, k.1.1, healed_end ns es e f n x g m k.1.0 other on, end))

pub edges_healed : (ns : List NodeRow) (es fs : List Edge) (e f : Edge) (n : ℕ) (x : Edge) → AreHealed ns es e f n x → ((y : Edge) → Contains fs y → IsBeside es e f n y ⊎ (x ≡ y))
    → ArePlain (without_row node_id_of ns n) fs
edges_healed ns es fs e f n x g from = record {
  apart = pairwise-filter PointsDiffer (λ (r : NodeRow). not (r.node_id == n)) ns g.plain.apart;
  fit = fit;
  simple = λ y c. ⊎_elim (λ (b : IsBeside es e f n y). g.plain.simple y b.there) (λ (is : x ≡ y). subst (λ (z : Edge). IsSimpleLine (segments_of z.geom)) is (healed_simple ns es e f n x g)) (from y c);
  meet = meet;
  off = off;
}
  where
    old_fit : (y : Edge) → IsBeside es e f n y → IsBetweenNodes (without_row node_id_of ns n) y
    old_fit y b =
        let k = g.plain.fit y b.there in
        record {
          proper = k.proper;
          starts = still_has ns n y.start_node (first_vertex y.geom) (not_at n y.start_node y b.away (start_is_end y y.start_node refl)) k.starts;
          ends = still_has ns n y.end_node (last_vertex y.geom) (not_at n y.end_node y b.away (end_is_end y y.end_node refl)) k.ends;
        }

    new_fit : IsBetweenNodes (without_row node_id_of ns n) x
    new_fit =
        let h = g.healed in
        let row = in_row ns es e f n x g in
        record {
          proper = subst (λ ss. list_all is_proper ss ≡ true) (sym row.whole) (all-append is_proper (segments_of h.a) (segments_of h.b) h.first.proper h.second.proper);
          starts = subst (HasPoint (without_row node_id_of ns n) x.start_node) (sym row.begins) (still_has ns n x.start_node (first_vertex h.a) h.first.differ h.first.starts);
          ends = subst (HasPoint (without_row node_id_of ns n) x.end_node) (sym row.ends) (still_has ns n x.end_node (last_vertex h.b) (λ is. h.second.differ (sym is)) h.second.ends);
        }

    fit : (y : Edge) → Contains fs y → IsBetweenNodes (without_row node_id_of ns n) y
    fit y c = ⊎_elim (λ (b : IsBeside es e f n y). old_fit y b) (λ (is : x ≡ y). subst (IsBetweenNodes (without_row node_id_of ns n)) is new_fit) (from y c)

    old_meet : (y z : Edge) (q : RationalPoint) → IsBeside es e f n y → IsBeside es e f n z → y.edge_id ≢ z.edge_id → IsOnEdge q y → IsOnEdge q z → IsCommonNode (without_row node_id_of ns n) y z q
    old_meet y z q by bz differ on_y on_z =
        let k = g.plain.meet y z q by.there bz.there differ on_y on_z in
        let end = (and_parts (is_end_of k.0.node_id y) (is_end_of k.0.node_id z) k.1.2).0 in
        (k.0, (still_there ns n k.0 k.1.0 (not_at n k.0.node_id y by.away end), k.1.1, k.1.2))

    meet : (y z : Edge) (q : RationalPoint) → Contains fs y → Contains fs z → y.edge_id ≢ z.edge_id → IsOnEdge q y → IsOnEdge q z → IsCommonNode (without_row node_id_of ns n) y z q
    meet y z q cy cz =
        let Goal : Edge → Edge → Type 0 = λ (c d : Edge). c.edge_id ≢ d.edge_id → IsOnEdge q c → IsOnEdge q d → IsCommonNode (without_row node_id_of ns n) c d q in
        ⊎_elim
        (λ (by : IsBeside es e f n y).
        ⊎_elim
        (λ (bz : IsBeside es e f n z). old_meet y z q by bz)
        (λ (is : x ≡ z).
        subst (λ d. Goal y d) is
        (λ _ on_y on_x. let m = beside_meets ns es e f n x y q g by on_x on_y in (m.0, (m.1.0, m.1.1, and_from (is_end_of m.0.node_id y) (is_end_of m.0.node_id x) m.1.3 m.1.2))))
        (from z cz))
        (λ (is : x ≡ y).
        subst (λ c. Goal c z) is
        (⊎_elim
        (λ (bz : IsBeside es e f n z).
        λ _ on_x on_z. let m = beside_meets ns es e f n x z q g bz on_x on_z in (m.0, (m.1.0, m.1.1, and_from (is_end_of m.0.node_id x) (is_end_of m.0.node_id z) m.1.2 m.1.3)))
        (λ (is' : x ≡ z). λ differ. absurd (differ (ap (λ (r : Edge). r.edge_id) is')))
        (from z cz)))
        (from y cy)

    off : (m : NodeRow) (y : Edge) → Contains (without_row node_id_of ns n) m → Contains fs y → IsOnEdge (rational m.geom) y → IsTrue (is_end_of m.node_id y)
    off m y cm cy =
        let r = contains-filtered (λ (k : NodeRow). not (k.node_id == n)) m ns cm in
        let other : m.node_id ≢ n = (Decides-not (m.node_id == n) (Decides-eqb m.node_id n)).0 r.1 in
        ⊎_elim
        (λ (b : IsBeside es e f n y). λ on. g.plain.off m y r.0 b.there on)
        (λ (is : x ≡ y). subst (λ (d : Edge). IsOnEdge (rational m.geom) d → IsTrue (is_end_of m.node_id d)) is (λ on. healed_end ns es e f n x g m r.0 other on))
        (from y cy)
