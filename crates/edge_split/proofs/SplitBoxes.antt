-- Where an edge is split, each face keeps its box.
use Rattle.std.proofs.Common.{◌≡◌, ℕ, refl, sym, ◌∙◌, ap, subst, arith, ℤ, ◌≤ℤ◌, ◌⊎◌, inl, inr, ⊎_elim, Bool, true, false, cond, ◌||◌, ◌&&◌, List, [], ◌∷◌, map, filter, Option, Some, None}
use Rattle.std.specs.Prelude.{◌==◌, flat_map, fold}
use Rattle.std.specs.Int.{int_max, int_min}
use Rattle.std.specs.List.{Contains}
use Rattle.std.proofs.lemmas.Bool.{eqb-true, eq-eqb, false≢true}
use Rattle.std.proofs.lemmas.Int.{fold-int_max_bounds, fold-int_max_reached, fold-int_min_bounds, fold-int_min_reached}
use Rattle.std.proofs.lemmas.List.Elements.{All-contains, Contains-append_cases, Contains-append_left, Contains-append_right}
use Rattle.topo_base.specs.Point.{Point, same_point}
use Rattle.topo_base.specs.RationalPoint.{IsBetween}
use Rattle.topo_base.specs.declared.rows.Box4.{Box4}
use Rattle.drawing.specs.Drawing.{Drawing, Edge}
use Rattle.plane.specs.Line.{line_from, line_up_to, on_line}
use Rattle.plane.specs.Orientation.{is_straight}
use Rattle.plane.specs.Segment.{is_between, on_segment}
use Rattle.drawing.specs.SplitEdge.{first_part, second_part}
use Rattle.drawing.specs.Tables.{box_at, face_box, face_row, has_side, least_box, wider}
use Rattle.plane.proofs.ListTests.{contains_cases, contains_here, contains_none, contains_there}
use Rattle.drawing.proofs.Members.{contains-filter, contains-filtered, contains-map, contains-mapped}
use Rattle.plane.proofs.PointTests.{Decides-between}
use Rattle.plane.proofs.Ring.{signed}
use Rattle.plane.proofs.SegmentParts.{segment}
use Rattle.std.proofs.lemmas.Bool.{and_parts}
use Rattle.face_rings.proofs.HalfLines.{HasPlainLines}
use Rattle.face_rings.proofs.HalvesApart.{one_edge}
use Rattle.face_rings.proofs.Ranks.{by_bool}
use Rattle.ring_laws.proofs.SplitSides.{IsSplitInto}

-- ---- one axis
-- z is one of the points, or lies between two of them on an axis
abbrev SpansBy : (Point → ℤ) → List Point → Point → Type 0
SpansBy f ps z = Contains ps z ⊎ ((a : Point) × ((b : Point) × (Contains ps a × (Contains ps b × IsBetween (f a) (f z) (f b)))))

abbrev low : (Point → ℤ) → Point → List Point → ℤ
low f p ps = fold int_min (f p) (map f ps)

abbrev high : (Point → ℤ) → Point → List Point → ℤ
high f p ps = fold int_max (f p) (map f ps)

low_bound : (f : Point → ℤ) (p : Point) (ps : List Point) (z : Point) → Contains (p ∷ ps) z → low f p ps ≤ℤ f z
low_bound f p ps z c =
    let r = fold int_min (f p) (map f ps) in
    let bounds = fold-int_min_bounds (f p) (map f ps) r refl in
    ⊎_elim (λ (e : p ≡ z). subst (λ (y : Point). r ≤ℤ f y) e bounds.0) (λ (d : Contains ps z). All-contains (λ x. r ≤ℤ x) (map f ps) (f z) bounds.1 (contains-map f z ps d)) (contains_cases z p ps c)

high_bound : (f : Point → ℤ) (p : Point) (ps : List Point) (z : Point) → Contains (p ∷ ps) z → f z ≤ℤ high f p ps
high_bound f p ps z c =
    let r = fold int_max (f p) (map f ps) in
    let bounds = fold-int_max_bounds (f p) (map f ps) r refl in
    ⊎_elim (λ (e : p ≡ z). subst (λ (y : Point). f y ≤ℤ r) e bounds.0) (λ (d : Contains ps z). All-contains (λ x. x ≤ℤ r) (map f ps) (f z) bounds.1 (contains-map f z ps d)) (contains_cases z p ps c)

low_reached : (f : Point → ℤ) (p : Point) (ps : List Point) → (z : Point) × (Contains (p ∷ ps) z × (f z ≡ low f p ps))
low_reached f p ps =
    let r = fold int_min (f p) (map f ps) in
    ⊎_elim
    (λ (e : r ≡ f p). (p, (contains_here p ps, sym e)))
    (λ (c : Contains (map f ps) r). let (z, (d, is)) = contains-mapped f r ps c in (z, (contains_there z p ps d, is)))
    (fold-int_min_reached (f p) (map f ps) r refl)

high_reached : (f : Point → ℤ) (p : Point) (ps : List Point) → (z : Point) × (Contains (p ∷ ps) z × (f z ≡ high f p ps))
high_reached f p ps =
    let r = fold int_max (f p) (map f ps) in
    ⊎_elim
    (λ (e : r ≡ f p). (p, (contains_here p ps, sym e)))
    (λ (c : Contains (map f ps) r). let (z, (d, is)) = contains-mapped f r ps c in (z, (contains_there z p ps d, is)))
    (fold-int_max_reached (f p) (map f ps) r refl)

below_between : (r a m b : ℤ) → r ≤ℤ a → r ≤ℤ b → IsBetween a m b → r ≤ℤ m
below_between r a m b h k (inl (l, g)) = omega (arith, signed)
below_between r a m b h k (inr (l, g)) = omega (arith, signed)

above_between : (r a m b : ℤ) → a ≤ℤ r → b ≤ℤ r → IsBetween a m b → m ≤ℤ r
above_between r a m b h k (inl (l, g)) = omega (arith, signed)
above_between r a m b h k (inr (l, g)) = omega (arith, signed)

low_span : (f : Point → ℤ) (p : Point) (ps : List Point) (z : Point) → SpansBy f (p ∷ ps) z → low f p ps ≤ℤ f z
low_span f p ps z (inl c) = low_bound f p ps z c
low_span f p ps z (inr (a, (b, (ca, (cb, m))))) = below_between (low f p ps) (f a) (f z) (f b) (low_bound f p ps a ca) (low_bound f p ps b cb) m

high_span : (f : Point → ℤ) (p : Point) (ps : List Point) (z : Point) → SpansBy f (p ∷ ps) z → f z ≤ℤ high f p ps
high_span f p ps z (inl c) = high_bound f p ps z c
high_span f p ps z (inr (a, (b, (ca, (cb, m))))) = above_between (high f p ps) (f a) (f z) (f b) (high_bound f p ps a ca) (high_bound f p ps b cb) m

one_of_both : (a b : ℤ) → a ≤ℤ b → b ≤ℤ a → a ≡ b
one_of_both a b h k = omega (arith, signed)

low_same : (f : Point → ℤ) (p q : Point) (ps qs : List Point) → ((z : Point) → Contains (p ∷ ps) z → SpansBy f (q ∷ qs) z) → ((z : Point) → Contains (q ∷ qs) z → SpansBy f (p ∷ ps) z) → low f p ps ≡ low f q qs
low_same f p q ps qs on back =
    let (y, (cy, y_is)) = low_reached f p ps in
    let (z, (cz, z_is)) = low_reached f q qs in
    one_of_both (low f p ps) (low f q qs) (subst (λ r. low f p ps ≤ℤ r) z_is (low_span f p ps z (back z cz))) (subst (λ r. low f q qs ≤ℤ r) y_is (low_span f q qs y (on y cy)))

high_same : (f : Point → ℤ) (p q : Point) (ps qs : List Point) → ((z : Point) → Contains (p ∷ ps) z → SpansBy f (q ∷ qs) z) → ((z : Point) → Contains (q ∷ qs) z → SpansBy f (p ∷ ps) z) → high f p ps ≡ high f q qs
high_same f p q ps qs on back =
    let (y, (cy, y_is)) = high_reached f p ps in
    let (z, (cz, z_is)) = high_reached f q qs in
    one_of_both (high f p ps) (high f q qs) (subst (λ r. r ≤ℤ high f q qs) y_is (high_span f q qs y (on y cy))) (subst (λ r. r ≤ℤ high f p ps) z_is (high_span f p ps z (back z cz)))

-- ---- the least box
abbrev x_of : Point → ℤ
x_of p = p.x

abbrev y_of : Point → ℤ
y_of p = p.y

box_from : (b : Box4) (ps : List Point) → fold wider b ps ≡ record { min_x = fold int_min b.min_x (map x_of ps); min_y = fold int_min b.min_y (map y_of ps); max_x = fold int_max b.max_x (map x_of ps); max_y = fold int_max b.max_y (map y_of ps) }
box_from b [] = refl
box_from b (p ∷ ps) = box_from (wider b p) ps

box_is : (p : Point) (ps : List Point) → fold wider (box_at p) ps ≡ record { min_x = low x_of p ps; min_y = low y_of p ps; max_x = high x_of p ps; max_y = high y_of p ps }
box_is p ps = box_from (box_at p) ps

-- z is one of the points, or lies between two of them on both axes
abbrev pub Spans : List Point → Point → Type 0
Spans ps z = Contains ps z ⊎ ((a : Point) × ((b : Point) × (Contains ps a × (Contains ps b × (IsBetween a.x z.x b.x × IsBetween a.y z.y b.y)))))

on_x : (ps : List Point) (z : Point) → Spans ps z → SpansBy x_of ps z
on_x ps z (inl c) = inl c
on_x ps z (inr (a, (b, (ca, (cb, m))))) = inr (a, (b, (ca, (cb, m.0))))

on_y : (ps : List Point) (z : Point) → Spans ps z → SpansBy y_of ps z
on_y ps z (inl c) = inl c
on_y ps z (inr (a, (b, (ca, (cb, m))))) = inr (a, (b, (ca, (cb, m.1))))

no_span : (z : Point) → Spans [] z → ⊥
no_span z (inl c) = contains_none z c
no_span z (inr (a, (b, (ca, (cb, m))))) = contains_none a ca

pub least_same : (ps qs : List Point) → ((z : Point) → Contains ps z → Spans qs z) → ((z : Point) → Contains qs z → Spans ps z) → least_box ps ≡ least_box qs
least_same [] [] on back = refl
least_same [] (q ∷ qs) on back = absurd (no_span q (back q (contains_here q qs)))
least_same (p ∷ ps) [] on back = absurd (no_span p (on p (contains_here p ps)))
least_same (p ∷ ps) (q ∷ qs) on back =
    let x_on = λ (z : Point) (c : Contains (p ∷ ps) z). on_x (q ∷ qs) z (on z c) in
    let y_on = λ (z : Point) (c : Contains (p ∷ ps) z). on_y (q ∷ qs) z (on z c) in
    let x_back = λ (z : Point) (c : Contains (q ∷ qs) z). on_x (p ∷ ps) z (back z c) in
    let y_back = λ (z : Point) (c : Contains (q ∷ qs) z). on_y (p ∷ ps) z (back z c) in
    let a = low_same x_of p q ps qs x_on x_back in
    let b = low_same y_of p q ps qs y_on y_back in
    let c = high_same x_of p q ps qs x_on x_back in
    let d = high_same y_of p q ps qs y_on y_back in
    ap Some (box_is p ps ∙ (λ i. record { min_x = a i; min_y = b i; max_x = c i; max_y = d i }) ∙ sym (box_is q qs))

-- ---- the vertices of the parts of a line
up_to_has : (p : Point) (line : List Point) (q : Point) → Contains (line_up_to p line) q → Contains line q ⊎ (p ≡ q)
up_to_has p [] q c = inl c
up_to_has p (a ∷ []) q c = inl c
up_to_has p (a ∷ b ∷ rest) q c = by (on_segment p (segment a b)) c (up_to_has p (b ∷ rest) q)
  where
    by : (t : Bool) → Contains (cond t (a ∷ p ∷ []) (a ∷ line_up_to p (b ∷ rest))) q → (Contains (line_up_to p (b ∷ rest)) q → Contains (b ∷ rest) q ⊎ (p ≡ q)) → Contains (a ∷ b ∷ rest) q ⊎ (p ≡ q)
    by true k more =
        ⊎_elim
        (λ (e : a ≡ q). inl (subst (Contains (a ∷ b ∷ rest)) e (contains_here a (b ∷ rest))))
        (λ (d : Contains (p ∷ []) q). ⊎_elim (λ (e : p ≡ q). inr e) (λ (n : Contains [] q). absurd (contains_none q n)) (contains_cases q p [] d))
        (contains_cases q a (p ∷ []) k)
    by false k more =
        ⊎_elim
        (λ (e : a ≡ q). inl (subst (Contains (a ∷ b ∷ rest)) e (contains_here a (b ∷ rest))))
        (λ (d : Contains (line_up_to p (b ∷ rest)) q). ⊎_elim (λ (m : Contains (b ∷ rest) q). inl (contains_there q a (b ∷ rest) m)) (λ (e : p ≡ q). inr e) (more d))
        (contains_cases q a (line_up_to p (b ∷ rest)) k)

from_has : (p : Point) (line : List Point) (q : Point) → Contains (line_from p line) q → Contains line q ⊎ (p ≡ q)
from_has p [] q c = inl c
from_has p (a ∷ []) q c = inl c
from_has p (a ∷ b ∷ rest) q c = by (on_segment p (segment a b)) (same_point p b) c (from_has p (b ∷ rest) q)
  where
    by : (t u : Bool) → Contains (cond t (cond u (b ∷ rest) (p ∷ b ∷ rest)) (line_from p (b ∷ rest))) q → (Contains (line_from p (b ∷ rest)) q → Contains (b ∷ rest) q ⊎ (p ≡ q)) → Contains (a ∷ b ∷ rest) q ⊎ (p ≡ q)
    by true true k more = inl (contains_there q a (b ∷ rest) k)
    by true false k more = ⊎_elim (λ (e : p ≡ q). inr e) (λ (d : Contains (b ∷ rest) q). inl (contains_there q a (b ∷ rest) d)) (contains_cases q p (b ∷ rest) k)
    by false u k more = ⊎_elim (λ (m : Contains (b ∷ rest) q). inl (contains_there q a (b ∷ rest) m)) (λ (e : p ≡ q). inr e) (more k)

parts_have : (p : Point) (line : List Point) (q : Point) → on_line p line ≡ true → Contains line q → Contains (line_up_to p line) q ⊎ Contains (line_from p line) q
parts_have p [] q on c = inl c
parts_have p (a ∷ []) q on c = inl c
parts_have p (a ∷ b ∷ rest) q on c = by (on_segment p (segment a b)) (same_point p b) on (parts_have p (b ∷ rest) q)
  where
    by : (t u : Bool) → (t || on_line p (b ∷ rest)) ≡ true → (on_line p (b ∷ rest) ≡ true → Contains (b ∷ rest) q → Contains (line_up_to p (b ∷ rest)) q ⊎ Contains (line_from p (b ∷ rest)) q)
        → Contains (cond t (a ∷ p ∷ []) (a ∷ line_up_to p (b ∷ rest))) q ⊎ Contains (cond t (cond u (b ∷ rest) (p ∷ b ∷ rest)) (line_from p (b ∷ rest))) q
    by true true k more = ⊎_elim (λ (e : a ≡ q). inl (subst (Contains (a ∷ p ∷ [])) e (contains_here a (p ∷ [])))) (λ (d : Contains (b ∷ rest) q). inr d) (contains_cases q a (b ∷ rest) c)
    by true false k more =
        ⊎_elim (λ (e : a ≡ q). inl (subst (Contains (a ∷ p ∷ [])) e (contains_here a (p ∷ [])))) (λ (d : Contains (b ∷ rest) q). inr (contains_there q p (b ∷ rest) d)) (contains_cases q a (b ∷ rest) c)
    by false u k more =
        ⊎_elim
        (λ (e : a ≡ q). inl (subst (Contains (a ∷ line_up_to p (b ∷ rest))) e (contains_here a (line_up_to p (b ∷ rest)))))
        (λ (d : Contains (b ∷ rest) q). ⊎_elim (λ (m : Contains (line_up_to p (b ∷ rest)) q). inl (contains_there q a (line_up_to p (b ∷ rest)) m)) (λ (m : Contains (line_from p (b ∷ rest)) q). inr m) (more k d))
        (contains_cases q a (b ∷ rest) c)

-- a point on a line lies between two of its vertices
between_vertices : (p : Point) (line : List Point) → on_line p line ≡ true → (a : Point) × ((b : Point) × (Contains line a × (Contains line b × (IsBetween a.x p.x b.x × IsBetween a.y p.y b.y))))
between_vertices p [] on = absurd (false≢true on)
between_vertices p (a ∷ []) on = absurd (false≢true on)
between_vertices p (a ∷ b ∷ rest) on = by (on_segment p (segment a b)) refl on (between_vertices p (b ∷ rest))
  where
    by : (t : Bool) → on_segment p (segment a b) ≡ t → (t || on_line p (b ∷ rest)) ≡ true
        → (on_line p (b ∷ rest) ≡ true → (c : Point) × ((d : Point) × (Contains (b ∷ rest) c × (Contains (b ∷ rest) d × (IsBetween c.x p.x d.x × IsBetween c.y p.y d.y)))))
        → (c : Point) × ((d : Point) × (Contains (a ∷ b ∷ rest) c × (Contains (a ∷ b ∷ rest) d × (IsBetween c.x p.x d.x × IsBetween c.y p.y d.y))))
    by true e k more =
        let both = and_parts (is_straight a b p && is_between a.x p.x b.x) (is_between a.y p.y b.y) e in
        let front = and_parts (is_straight a b p) (is_between a.x p.x b.x) both.0 in
        (a, (b, (contains_here a (b ∷ rest), (contains_there b a (b ∷ rest) (contains_here b rest), ((Decides-between a.x p.x b.x).0 front.1, (Decides-between a.y p.y b.y).0 both.1)))))
    by false e k more = let (c, (d, (cc', (cd, m)))) = more k in (c, (d, (contains_there c a (b ∷ rest) cc', (contains_there d a (b ∷ rest) cd, m))))

-- ---- the vertices beside a face
abbrev pub beside : ℕ → List Edge → List Point
beside f edges = flat_map (λ (e : Edge). e.geom) (filter (has_side f) edges)

vertex_of : (edges : List Edge) (x : Edge) (q : Point) → Contains edges x → Contains x.geom q → Contains (flat_map (λ (e : Edge). e.geom) edges) q
vertex_of [] x q c d = absurd (contains_none x c)
vertex_of (y ∷ edges) x q c d =
    ⊎_elim
    (λ (e : y ≡ x). Contains-append_left y.geom (flat_map (λ (z : Edge). z.geom) edges) q (subst (λ (z : Edge). Contains z.geom q) (sym e) d))
    (λ (k : Contains edges x). Contains-append_right y.geom (flat_map (λ (z : Edge). z.geom) edges) q (vertex_of edges x q k d))
    (contains_cases x y edges c)

of_vertex : (edges : List Edge) (q : Point) → Contains (flat_map (λ (e : Edge). e.geom) edges) q → (x : Edge) × (Contains edges x × Contains x.geom q)
of_vertex [] q c = absurd (contains_none q c)
of_vertex (y ∷ edges) q c =
    ⊎_elim
    (λ (d : Contains y.geom q). (y, (contains_here y edges, d)))
    (λ (k : Contains (flat_map (λ (z : Edge). z.geom) edges) q). let (x, (cx, d)) = of_vertex edges q k in (x, (contains_there x y edges cx, d)))
    (Contains-append_cases y.geom (flat_map (λ (z : Edge). z.geom) edges) q c)

pub beside_has : (f : ℕ) (edges : List Edge) (x : Edge) (q : Point) → Contains edges x → has_side f x ≡ true → Contains x.geom q → Contains (beside f edges) q
beside_has f edges x q c side d = vertex_of (filter (has_side f) edges) x q (contains-filter (has_side f) x edges c side) d

pub of_beside : (f : ℕ) (edges : List Edge) (q : Point) → Contains (beside f edges) q → (x : Edge) × (Contains edges x × ((has_side f x ≡ true) × Contains x.geom q))
of_beside f edges q c =
    let (x, (k, d)) = of_vertex (filter (has_side f) edges) q c in
    let both = contains-filtered (has_side f) x edges k in
    (x, (both.0, (both.1, d)))

-- ---- boxes
split_spans : (S : Drawing) (e : Edge) (p : Point) (id id' : ℕ) (fs : List Edge) (f : ℕ) → HasPlainLines S → IsSplitInto S e p id id' fs → (q : Point) → Contains (beside f fs) q → Spans (beside f S.edges) q
split_spans S e p id id' fs f good split q c =
    let (x, (cx, (side, d))) = of_beside f fs q c in
    ⊎_elim
    (λ (old : Contains S.edges x × (x.edge_id ≡ e.edge_id → ⊥)). inl (beside_has f S.edges x q old.0 side d))
    (λ (part : (first_part e S.next_ids.node p id ≡ x) ⊎ (second_part e S.next_ids.node p id' ≡ x)).
    ⊎_elim
    (λ (is : first_part e S.next_ids.node p id ≡ x).
    let own : has_side f e ≡ true = subst (λ (y : Edge). has_side f y ≡ true) (sym is) side in
    of_part own (up_to_has p e.geom q (subst (λ (y : Edge). Contains y.geom q) (sym is) d)))
    (λ (is : second_part e S.next_ids.node p id' ≡ x).
    let own : has_side f e ≡ true = subst (λ (y : Edge). has_side f y ≡ true) (sym is) side in
    of_part own (from_has p e.geom q (subst (λ (y : Edge). Contains y.geom q) (sym is) d)))
    part)
    (split.from x cx)
  where
    of_part : has_side f e ≡ true → Contains e.geom q ⊎ (p ≡ q) → Spans (beside f S.edges) q
    of_part own (inl k) = inl (beside_has f S.edges e q split.there own k)
    of_part own (inr k) =
        let (a, (b, (ca, (cb, m)))) = between_vertices p e.geom split.on in
        inr (a, (b, (beside_has f S.edges e a split.there own ca, (beside_has f S.edges e b split.there own cb, subst (λ (z : Point). IsBetween a.x z.x b.x × IsBetween a.y z.y b.y) k m))))

split_has : (S : Drawing) (e : Edge) (p : Point) (id id' : ℕ) (fs : List Edge) (f : ℕ) → HasPlainLines S → IsSplitInto S e p id id' fs → (q : Point) → Contains (beside f S.edges) q → Spans (beside f fs) q
split_has S e p id id' fs f good split q c =
    let (x, (cx, (side, d))) = of_beside f S.edges q c in
    ⊎_elim
    (λ (t : (x.edge_id == e.edge_id) ≡ true).
    let is = one_edge S x e good cx split.there (eqb-true x.edge_id e.edge_id t) in
    let own : has_side f e ≡ true = subst (λ (y : Edge). has_side f y ≡ true) is side in
    ⊎_elim
    (λ (k : Contains (line_up_to p e.geom) q). inl (beside_has f fs (first_part e S.next_ids.node p id) q split.first own k))
    (λ (k : Contains (line_from p e.geom) q). inl (beside_has f fs (second_part e S.next_ids.node p id') q split.second own k))
    (parts_have p e.geom q split.on (subst (λ (y : Edge). Contains y.geom q) is d)))
    (λ (t : (x.edge_id == e.edge_id) ≡ false). inl (beside_has f fs x q (split.old x cx (λ k. false≢true (sym t ∙ eq-eqb x.edge_id e.edge_id k))) side d))
    (by_bool (x.edge_id == e.edge_id))

pub box_kept : (S T : Drawing) (e : Edge) (p : Point) (id id' : ℕ) (f : ℕ) → HasPlainLines S → IsSplitInto S e p id id' T.edges → face_box S f ≡ face_box T f
box_kept S T e p id id' f good split =
    ap (λ (b : Option Box4). cond (f == 0) None b)
    (least_same (beside f S.edges) (beside f T.edges) (λ q c. split_has S e p id id' T.edges f good split q c) (λ q c. split_spans S e p id id' T.edges f good split q c))

pub boxes_kept : (S T : Drawing) (e : Edge) (p : Point) (id id' : ℕ) (faces : List ℕ) → HasPlainLines S → IsSplitInto S e p id id' T.edges → map (face_row S) faces ≡ map (face_row T) faces
boxes_kept S T e p id id' [] good split = refl
boxes_kept S T e p id id' (f ∷ faces) good split = λ i. record { face_id = f; mbr = box_kept S T e p id id' f good split i } ∷ boxes_kept S T e p id id' faces good split i
