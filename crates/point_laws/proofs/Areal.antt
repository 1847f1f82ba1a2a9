-- The points of faces: those off the edges that are in one of them, and those on their borders. Nodes play no part.
use Rattle.std.proofs.Common.{◌≡◌, ℕ, ◌≤◌, refl, sym, ◌∙◌, ap, subst, arith, ◌⊎◌, inl, inr, ⊎_elim, Bool, true, false, not, ◌&&◌, List, [], ◌∷◌, length, pos, ◌*ℤ◌, Option, Some, None}
use Rattle.std.specs.Prelude.{IsTrue}
use Rattle.std.specs.Ordering.{int_eq}
use Rattle.std.specs.Bool.{Decides}
use Rattle.std.specs.List.{Contains, list_any}
use Rattle.std.proofs.lemmas.Bool.{and_parts, false≢true}
use Rattle.std.proofs.lemmas.Bool.Decides.{Decides-and, Decides-int_eq}
use Rattle.topo_base.specs.Point.{Point}
use Rattle.topo_base.specs.RationalPoint.{RationalPoint, IsAt}
use Rattle.topo_base.specs.declared.kind.Kind.TheVariants.{Areal}
use Rattle.topo_base.specs.declared.rows.NodeRow.{NodeRow}
use Rattle.drawing.specs.Drawing.{Drawing, Edge, has_face, is_end_of, is_isolated}
use Rattle.drawing.specs.Faced.{is_in}
use Rattle.drawing.specs.FeaturePoints.{IsPointOfElements, OnSides}
use Rattle.plane.specs.Line.{segments_of, first_vertex, last_vertex}
use Rattle.plane.specs.RationalTests.{area_at, IsOn, IsOnLine}
use Rattle.drawing.specs.DrawnPoints.{IsOnEdge, IsOffEdges, IsOffNodes}
use Rattle.drawing.specs.Relations.{is_among}
use Rattle.drawing.specs.Subdivision.{is_face_known}
use Rattle.plane.proofs.ListTests.{Decides-any, Some_of, contains_here, contains_there}
use Rattle.plane.proofs.Middle.{on_at}
use Rattle.drawing.proofs.PlainSplits.{end_cases, id_point, one_point}
use Rattle.plane.proofs.PointTests.{Decides-between}
use Rattle.plane.specs.Segment.{Segment}
use Rattle.plane.specs.Segment.{is_between}
use Rattle.plane.proofs.SegmentParts.{start_on, end_on}
use Rattle.face_rings.proofs.FaceBorders.{has_plain_lines}
use Rattle.face_rings.proofs.HalfLines.{HasPlainLines}
use Rattle.ring_laws.proofs.Known.{isolated_if, none_ends}
use Rattle.parity_laws.specs.Rings.{those, of_face}
use Rattle.face_laws.specs.Covered.{face_of}
use Rattle.face_laws.specs.Walked.{steps_of}
use Rattle.face_laws.proofs.Covering.{known, faces_given, covered_faced}
use Rattle.face_laws.proofs.FaceParity.{in_face_at_is}
use Rattle.face_laws.proofs.InFace.{in_by}
use Rattle.face_laws.proofs.Tying.{at_rational}
use Rattle.local_laws.proofs.Inside.{above_same}
use Rattle.subdivision_laws.specs.Subdivided.{IsSubdivided}

-- ---- the ends of a line are on it
pub first_on : (line : List Point) (q : RationalPoint) → 2 ≤ length line → IsAt (first_vertex line) q → IsOnLine q line
first_on [] q h at = absurd (omega arith)
first_on (a ∷ []) q h at = absurd (omega arith)
first_on (a ∷ b ∷ rest) q h at = (_, (contains_here _ (segments_of (b ∷ rest)), start_on _ q at))

pub last_on : (line : List Point) (q : RationalPoint) → 2 ≤ length line → IsAt (last_vertex line) q → IsOnLine q line
last_on [] q h at = absurd (omega arith)
last_on (a ∷ []) q h at = absurd (omega arith)
last_on (a ∷ b ∷ []) q h at = (_, (contains_here _ [], end_on _ q at))
last_on (a ∷ b ∷ c ∷ rest) q h at = let (s, (i, on)) = last_on (b ∷ c ∷ rest) q (omega arith) at in (s, (contains_there s _ (segments_of (b ∷ c ∷ rest)) i, on))

-- ---- what is decided of a rational point
decided : (b : Bool) (P : Type 0) → Decides b P → P ⊎ (P → ⊥)
decided true P d = inl (d.0 refl)
decided false P d = inr (λ p. let e : false ≡ true = d.1 p in absurd cc)

unfoldable pub is_at : Point → RationalPoint → Bool
is_at p q = int_eq q.x (p.x *ℤ q.d) && int_eq q.y (p.y *ℤ q.d)

Decides-is_at : (p : Point) (q : RationalPoint) → Decides (is_at p q) (IsAt p q)
unfolding is_at
Decides-is_at p q = Decides-and (int_eq q.x (p.x *ℤ q.d)) (int_eq q.y (p.y *ℤ q.d)) (Decides-int_eq q.x (p.x *ℤ q.d)) (Decides-int_eq q.y (p.y *ℤ q.d))

pub at_some_node : (S : Drawing) (q : RationalPoint) → Some_of (λ (n : NodeRow). IsAt n.geom q) S.nodes ⊎ (Some_of (λ (n : NodeRow). IsAt n.geom q) S.nodes → ⊥)
at_some_node S q = decided _ _ (Decides-any (λ (n : NodeRow). is_at n.geom q) (λ (n : NodeRow). IsAt n.geom q) (λ n. Decides-is_at n.geom q) S.nodes)

unfoldable pub is_on : RationalPoint → Segment → Bool
is_on q s = int_eq (area_at s.a s.b q) (pos 0) && is_between (s.a.x *ℤ q.d) q.x (s.b.x *ℤ q.d) && is_between (s.a.y *ℤ q.d) q.y (s.b.y *ℤ q.d)

Decides-is_on : (q : RationalPoint) (s : Segment) → Decides (is_on q s) (IsOn q s)
unfolding is_on
Decides-is_on q s =
    let straight = int_eq (area_at s.a s.b q) (pos 0) in
    let across = is_between (s.a.x *ℤ q.d) q.x (s.b.x *ℤ q.d) in
    let upward = is_between (s.a.y *ℤ q.d) q.y (s.b.y *ℤ q.d) in
    let all = Decides-and (straight && across) upward (Decides-and straight across (Decides-int_eq (area_at s.a s.b q) (pos 0)) (Decides-between (s.a.x *ℤ q.d) q.x (s.b.x *ℤ q.d))) (Decides-between (s.a.y *ℤ q.d) q.y (s.b.y *ℤ q.d)) in
    (λ t. let (front, last) = all.0 t in record { straight = front.0; across = front.1; upward = last }, λ on. all.1 ((on.straight, on.across), on.upward))

pub on_line_or_not : (q : RationalPoint) (line : List Point) → IsOnLine q line ⊎ (IsOnLine q line → ⊥)
on_line_or_not q line = decided _ _ (Decides-any (is_on q) (IsOn q) (Decides-is_on q) (segments_of line))

pub on_some_edge : (S : Drawing) (q : RationalPoint) → Some_of (λ (e : Edge). IsOnEdge q e) S.edges ⊎ IsOffEdges S q
on_some_edge S q =
    ⊎_elim (λ (s : Some_of (λ (e : Edge). IsOnEdge q e) S.edges). inl s) (λ (n : Some_of (λ (e : Edge). IsOnEdge q e) S.edges → ⊥). inr (λ e c on. n (e, (c, on))))
    (decided _ _ (Decides-any (λ (e : Edge). list_any (is_on q) (segments_of e.geom)) (λ (e : Edge). IsOnEdge q e) (λ e. Decides-any (is_on q) (IsOn q) (Decides-is_on q) (segments_of e.geom)) S.edges))

-- where the tests say so
pub off_edges : (S : Drawing) (q : RationalPoint) → list_any (λ (e : Edge). list_any (is_on q) (segments_of e.geom)) S.edges ≡ false → IsOffEdges S q
off_edges S q none e c on =
    let on_some : list_any (λ (e : Edge). list_any (is_on q) (segments_of e.geom)) S.edges ≡ true =
    (Decides-any (λ (e : Edge). list_any (is_on q) (segments_of e.geom)) (λ (e : Edge). IsOnEdge q e) (λ e. Decides-any (is_on q) (IsOn q) (Decides-is_on q) (segments_of e.geom)) S.edges).1 (e, (c, on)) in
    false≢true (sym none ∙ on_some)

pub off_nodes : (S : Drawing) (q : RationalPoint) → list_any (λ (n : NodeRow). is_at n.geom q) S.nodes ≡ false → IsOffNodes S q
off_nodes S q none n c at =
    false≢true (sym none ∙ (Decides-any (λ (n : NodeRow). is_at n.geom q) (λ (n : NodeRow). IsAt n.geom q) (λ n. Decides-is_at n.geom q) S.nodes).1 (n, (c, at)))

-- ---- isolated nodes
pub node_is_known : (S : Drawing) (n : NodeRow) → IsSubdivided S → Contains S.nodes n → is_face_known S n.containing_face (is_isolated S n.node_id) ≡ true
node_is_known S n s c = (known S s.covered.ringed).nodes n c

-- a node with a containing face is on no edge
pub contained_off : (S : Drawing) (n : NodeRow) (f : ℕ) (q : RationalPoint) → IsSubdivided S → Contains S.nodes n → n.containing_face ≡ Some f → IsAt n.geom q → IsOffEdges S q
contained_off S n f q s c own at e ce (t, (ct, on)) =
    let lone = (and_parts (is_isolated S n.node_id) (has_face S f) (ap (λ o. is_face_known S o (is_isolated S n.node_id)) (sym own) ∙ node_is_known S n s c)).0 in
    none_ends S n.node_id lone e ce (s.covered.ringed.rings.plain.plain.nodes_off_edges n e c ce (t, (ct, on_at n.geom q t at on)))

-- it is in that face
pub contained_in : (S : Drawing) (n : NodeRow) (f : ℕ) (q : RationalPoint) → IsSubdivided S → Contains S.nodes n → n.containing_face ≡ Some f → IsAt n.geom q → IsTrue (is_in S f q)
contained_in S n f q s c own at =
    in_by S q f
    (λ g some.
    sym (in_face_at_is (face_of S) S g q (faces_given S (has_plain_lines S s.covered.ringed.rings)))
    ∙ above_same (those (of_face (face_of S) g) (steps_of S)) n.geom q (at_rational n.geom q at)
    ∙ s.covered.placed n f c own g some)
    (and_parts (is_isolated S n.node_id) (has_face S f) (ap (λ o. is_face_known S o (is_isolated S n.node_id)) (sym own) ∙ node_is_known S n s c)).1

-- a node that is an end of an edge is on it
pub end_on_edge : (S : Drawing) (n : NodeRow) (e : Edge) (q : RationalPoint) → HasPlainLines S → Contains S.nodes n → Contains S.edges e → is_end_of n.node_id e ≡ true → IsAt n.geom q → IsOnEdge q e
end_on_edge S n e q good c ce is at =
    ⊎_elim
    (λ (k : n.node_id ≡ e.start_node). first_on e.geom q (good.long e ce) (subst (λ (p : Point). IsAt p q) (one_point n.geom (first_vertex e.geom) (id_point S.nodes n e.start_node (first_vertex e.geom) good.node_ids c k (good.plain.fit e ce).starts)) at))
    (λ (k : n.node_id ≡ e.end_node). last_on e.geom q (good.long e ce) (subst (λ (p : Point). IsAt p q) (one_point n.geom (last_vertex e.geom) (id_point S.nodes n e.end_node (last_vertex e.geom) good.node_ids c k (good.plain.fit e ce).ends)) at))
    (end_cases n.node_id e is)

-- a node off the edges has a containing face
pub has_containing : (S : Drawing) (n : NodeRow) (q : RationalPoint) → IsSubdivided S → Contains S.nodes n → IsAt n.geom q → IsOffEdges S q → (f : ℕ) × (n.containing_face ≡ Some f)
has_containing S n q s c at off = by n.containing_face refl (node_is_known S n s c)
  where
    lone : is_isolated S n.node_id ≡ true
    lone = isolated_if S n.node_id (λ e ce is. off e ce (end_on_edge S n e q (has_plain_lines S s.covered.ringed.rings) c ce is at))

    by : (o : Option ℕ) → n.containing_face ≡ o → is_face_known S o (is_isolated S n.node_id) ≡ true → (f : ℕ) × (n.containing_face ≡ Some f)
    by None e h = let no_face : not (is_isolated S n.node_id) ≡ false = ap not lone in absurd cc
    by (Some f) e h = (f, e)

-- ---- the points of faces without the nodes
abbrev pub InArea : Drawing → List ℕ → RationalPoint → Type 0
InArea S ids q = (IsOffEdges S q × ((f : ℕ) × (IsTrue (is_among f ids) × IsTrue (is_in S f q)))) ⊎ OnSides S ids q

pub area_from : (S : Drawing) (ids : List ℕ) (q : RationalPoint) → IsSubdivided S → IsPointOfElements S Areal ids q → InArea S ids q
area_from S ids q s (inl p) = inl (p.0, p.2)
area_from S ids q s (inr (inl p)) = inr p
area_from S ids q s (inr (inr p)) =
    let (n, (f, (c, own, among, at))) = p in
    inl (contained_off S n f q s c own at, (f, (among, contained_in S n f q s c own at)))

pub area_to : (S : Drawing) (ids : List ℕ) (q : RationalPoint) → IsSubdivided S → InArea S ids q → IsPointOfElements S Areal ids q
area_to S ids q s (inr p) = inr (inl p)
area_to S ids q s (inl (off, (f, (among, inside)))) =
    ⊎_elim
    (λ (k : Some_of (λ (n : NodeRow). IsAt n.geom q) S.nodes).
    let (n, (c, at)) = k in
    let (g, own) = has_containing S n q s c at off in
    let same : g ≡ f = (covered_faced S s.covered).in_one q g f off (contained_in S n g q s c own at) inside in
    inr (inr (n, (f, (c, own ∙ ap (λ m. Some m) same, among, at)))))
    (λ (k : Some_of (λ (n : NodeRow). IsAt n.geom q) S.nodes → ⊥). inl (off, λ n c at. k (n, (c, at)), (f, (among, inside))))
    (at_some_node S q)
