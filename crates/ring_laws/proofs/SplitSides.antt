-- A split edge: the rings have the parts in its place, and faces and nodes stay known.
use Rattle.std.proofs.Common.{◌≡◌, ℕ, pos, ◌≤◌, refl, sym, ◌∙◌, ap, subst, arith, ◌⊎◌, inl, inr, ⊎_elim, Bool, true, false, not, cond, ◌&&◌, ◌||◌, List, [], ◌∷◌, ◌++◌, length}
use Rattle.std.specs.Prelude.{reverse, flat_map, ◌==◌}
use Rattle.std.specs.List.{Contains}
use Rattle.std.proofs.lemmas.Bool.{and_parts, or_left, or_right, eqb-true, eq-eqb, false≢true, cases_eq}
use Rattle.std.proofs.lemmas.Grind.{reverse_onto}
use Rattle.std.proofs.lemmas.List.{length-reverse}
use Rattle.std.proofs.lemmas.List.Elements.{Contains-push_cases}
use Rattle.topo_base.specs.Point.{Point, same_point}
use Rattle.topo_base.specs.RationalPoint.{IsBetween}
use Rattle.topo_base.specs.declared.rows.NodeRow.{NodeRow}
use Rattle.topo_base.specs.declared.rows.RelationRow.{RelationRow}
use Rattle.topo_base.specs.declared.rows.Counters.{Counters}
use Rattle.plane.specs.Direction.{direction_to, first_direction}
use Rattle.drawing.specs.Drawing.{Drawing, Edge, node_id_of, has_face, is_end_of, is_isolated}
use Rattle.drawing.specs.HalfEdge.{HalfEdge, forward_of, backward_of, both_ways, half_edges}
use Rattle.plane.specs.Line.{last_vertex, first_vertex, on_line, line_up_to, line_from}
use Rattle.plane.specs.Orientation.{area, is_straight}
use Rattle.drawing.specs.PlainInOrder.{IsPlainInOrder}
use Rattle.plane.specs.Relation.{SameCoordinates}
use Rattle.plane.specs.Segment.{is_between, on_segment}
use Rattle.drawing.specs.SplitEdge.{first_part, second_part}
use Rattle.drawing.specs.Subdivision.{is_node_known}
use Rattle.drawing.proofs.Members.{ids_within}
use Rattle.drawing.proofs.PlainSplits.{ComesFrom, new_node}
use Rattle.plane.proofs.PointTests.{Decides-between, Decides-straight, Decides-same_point}
use Rattle.plane.proofs.SegmentParts.{segment}
use Rattle.face_rings.proofs.HalfLines.{HasPlainLines}
use Rattle.face_rings.proofs.HalvesApart.{half_of, forward_there, backward_there, one_edge}
use Rattle.face_rings.proofs.Ranks.{by_bool}
use Rattle.ring_laws.proofs.Alike.{Alike, alike_one, alike_same, one_way, other_way, IsLike, like_self, Correspond, joined_like}
use Rattle.ring_laws.proofs.Known.{any_in, any_same, IsKnown, not_isolated, none_ends, none_leaves, known_kept}
use Rattle.ring_laws.proofs.KnownStays.{end_is, new_isolated}
pub use Rattle.ring_laws.proofs.WithoutEdge.{half_there}
use Rattle.ring_laws.proofs.Turning.{FacesAgree, spread_of}

-- ---- the directions of the parts
on_parts : (p a b : Point) → on_segment p (segment a b) ≡ true → (area a b p ≡ pos 0) × IsBetween a.x p.x b.x × IsBetween a.y p.y b.y
on_parts p a b h =
    let both = and_parts (is_straight a b p && is_between a.x p.x b.x) (is_between a.y p.y b.y) h in
    let front = and_parts (is_straight a b p) (is_between a.x p.x b.x) both.0 in
    ((Decides-straight a b p).0 front.0, (Decides-between a.x p.x b.x).0 front.1, (Decides-between a.y p.y b.y).0 both.1)

-- a line leaves in the direction of its first two vertices
pub first_of_some : (xs ys : List Point) → 2 ≤ length xs → first_direction (xs ++ ys) ≡ first_direction xs
first_of_some [] ys h = absurd (omega arith)
first_of_some (x ∷ []) ys h = absurd (omega arith)
first_of_some (x ∷ y ∷ xs) ys h = refl

-- seen from its end, a line doesn't depend on its first vertex
pub from_end : (a : Point) (l : List Point) → 2 ≤ length l → first_direction (reverse (a ∷ l)) ≡ first_direction (reverse l)
from_end a l h = ap first_direction (reverse_onto l a []) ∙ first_of_some (reverse l) (a ∷ []) (subst (λ n. 2 ≤ n) (sym (length-reverse l)) h)

up_begins : (p b : Point) (rest : List Point) → (ps : List Point) × (line_up_to p (b ∷ rest) ≡ b ∷ ps)
up_begins p b [] = ([], refl)
up_begins p b (c ∷ rest) = by_test (on_segment p (segment b c))
  where
    by_test : (t : Bool) → (ps : List Point) × (cond t (b ∷ p ∷ []) (b ∷ line_up_to p (c ∷ rest)) ≡ b ∷ ps)
    by_test true = (p ∷ [], refl)
    by_test false = (line_up_to p (c ∷ rest), refl)

pub first_way : (p : Point) (line : List Point) → on_line p line ≡ true → (SameCoordinates p (first_vertex line) → ⊥) → Alike (first_direction line) (first_direction (line_up_to p line))
first_way p [] on far = absurd (false≢true on)
first_way p (a ∷ []) on far = absurd (false≢true on)
first_way p (a ∷ b ∷ rest) on far = by_test (on_segment p (segment a b)) refl
  where
    by_test : (t : Bool) → on_segment p (segment a b) ≡ t → Alike (direction_to a b) (first_direction (cond t (a ∷ p ∷ []) (a ∷ line_up_to p (b ∷ rest))))
    by_test true e = let k = on_parts p a b e in alike_one (direction_to a b) (direction_to a p) (one_way a b p k.0 k.1 k.2 far)
    by_test false e = let (ps, is) = up_begins p b rest in alike_same (direction_to a b) (first_direction (a ∷ line_up_to p (b ∷ rest))) (sym (ap (λ l. first_direction (a ∷ l)) is))

pub second_way : (p : Point) (line : List Point) → on_line p line ≡ true → (SameCoordinates p (last_vertex line) → ⊥) → Alike (first_direction (reverse line)) (first_direction (reverse (line_from p line)))
second_way p [] on far = absurd (false≢true on)
second_way p (a ∷ []) on far = absurd (false≢true on)
second_way p (a ∷ b ∷ []) on far = by_test (on_segment p (segment a b)) refl (same_point p b) refl on
  where
    by_test : (t : Bool) → on_segment p (segment a b) ≡ t → (u : Bool) → same_point p b ≡ u → (t || false) ≡ true → Alike (direction_to b a) (first_direction (reverse (cond t (cond u (b ∷ []) (p ∷ b ∷ [])) (b ∷ []))))
    by_test true e true at on = absurd (far ((Decides-same_point p b).0 at))
    by_test true e false at on = let k = on_parts p a b e in alike_one (direction_to b a) (direction_to b p) (other_way a b p k.0 k.1 k.2 far)
    by_test false e u at on = absurd (false≢true on)
second_way p (a ∷ b ∷ c ∷ rest) on far = by_test (on_segment p (segment a b)) (same_point p b) on (λ k. second_way p (b ∷ c ∷ rest) k far)
  where
    long : 2 ≤ length (b ∷ c ∷ rest)
    long = omega arith

    by_test : (t u : Bool) → (t || on_line p (b ∷ c ∷ rest)) ≡ true → (on_line p (b ∷ c ∷ rest) ≡ true → Alike (first_direction (reverse (b ∷ c ∷ rest))) (first_direction (reverse (line_from p (b ∷ c ∷ rest)))))
        → Alike (first_direction (reverse (a ∷ b ∷ c ∷ rest))) (first_direction (reverse (cond t (cond u (b ∷ c ∷ rest) (p ∷ b ∷ c ∷ rest)) (line_from p (b ∷ c ∷ rest)))))
    by_test true true on more = alike_same (first_direction (reverse (a ∷ b ∷ c ∷ rest))) (first_direction (reverse (b ∷ c ∷ rest))) (from_end a (b ∷ c ∷ rest) long)
    by_test true false on more = alike_same (first_direction (reverse (a ∷ b ∷ c ∷ rest))) (first_direction (reverse (p ∷ b ∷ c ∷ rest))) (from_end a (b ∷ c ∷ rest) long ∙ sym (from_end p (b ∷ c ∷ rest) long))
    by_test false u on more = subst (λ d. Alike d (first_direction (reverse (line_from p (b ∷ c ∷ rest))))) (sym (from_end a (b ∷ c ∷ rest) long)) (more on)

-- ---- edges that have the parts of e in its place
pub record IsSplitInto (S : Drawing) (e : Edge) (p : Point) (id id' : ℕ) (fs : List Edge) : Type 0 where
  pub there : Contains S.edges e
  pub from : (x : Edge) → Contains fs x → ComesFrom S.edges e (first_part e S.next_ids.node p id) (second_part e S.next_ids.node p id') x
  pub old : (x : Edge) → Contains S.edges x → (x.edge_id ≡ e.edge_id → ⊥) → Contains fs x
  pub first : Contains fs (first_part e S.next_ids.node p id)
  pub second : Contains fs (second_part e S.next_ids.node p id')
  pub on : on_line p e.geom ≡ true
  pub not_first : SameCoordinates p (first_vertex e.geom) → ⊥
  pub not_last : SameCoordinates p (last_vertex e.geom) → ⊥

pub node_of : {h k : HalfEdge} → h ≡ k → h.from_node ≡ k.from_node
node_of e = ap (λ (x : HalfEdge). x.from_node) e

-- the parts leave the ends as e does
pub first_like : (S : Drawing) (e : Edge) (p : Point) (id id' : ℕ) (fs : List Edge) → IsSplitInto S e p id id' fs → IsLike (forward_of e) (forward_of (first_part e S.next_ids.node p id))
first_like S e p id id' fs split = record { node = refl; way = first_way p e.geom split.on split.not_first; left = refl; right = refl }

pub second_like : (S : Drawing) (e : Edge) (p : Point) (id id' : ℕ) (fs : List Edge) → IsSplitInto S e p id id' fs → IsLike (backward_of e) (backward_of (second_part e S.next_ids.node p id'))
second_like S e p id id' fs split = record { node = refl; way = second_way p e.geom split.on split.not_last; left = refl; right = refl }

parts_correspond : (S : Drawing) (e : Edge) (p : Point) (id id' : ℕ) (fs : List Edge) → HasPlainLines S → IsSplitInto S e p id id' fs → Correspond (half_edges S) (flat_map both_ways fs) S.next_ids.node
parts_correspond S e p id id' fs good split = record { found = found; back = back }
  where
    found : (k : HalfEdge) → Contains (flat_map both_ways fs) k → (k.from_node ≡ S.next_ids.node → ⊥) → (h : HalfEdge) × (Contains (half_edges S) h × IsLike h k)
    found k ck far =
        let r = half_of fs k ck in
        ⊎_elim
        (λ (old : Contains S.edges r.edge × (r.edge.edge_id ≡ e.edge_id → ⊥)). (k, (half_there S.edges k r.edge old.0 r.way, like_self k)))
        (λ (part : (first_part e S.next_ids.node p id ≡ r.edge) ⊎ (second_part e S.next_ids.node p id' ≡ r.edge)).
        ⊎_elim
        (λ (is : first_part e S.next_ids.node p id ≡ r.edge).
        ⊎_elim
        (λ (q : forward_of r.edge ≡ k).
        (forward_of e, (forward_there S.edges e split.there, subst (IsLike (forward_of e)) (ap forward_of is ∙ q) (first_like S e p id id' fs split))))
        (λ (q : backward_of r.edge ≡ k). absurd (far (sym (node_of (ap backward_of is ∙ q)))))
        r.way)
        (λ (is : second_part e S.next_ids.node p id' ≡ r.edge).
        ⊎_elim
        (λ (q : forward_of r.edge ≡ k). absurd (far (sym (node_of (ap forward_of is ∙ q)))))
        (λ (q : backward_of r.edge ≡ k).
        (backward_of e, (backward_there S.edges e split.there, subst (IsLike (backward_of e)) (ap backward_of is ∙ q) (second_like S e p id id' fs split))))
        r.way)
        part)
        (split.from r.edge r.there)

    back : (h : HalfEdge) → Contains (half_edges S) h → (h.from_node ≡ S.next_ids.node → ⊥) → (k : HalfEdge) × (Contains (flat_map both_ways fs) k × IsLike h k)
    back h ch far =
        let r = half_of S.edges h ch in
        ⊎_elim
        (λ (t : (r.edge.edge_id == e.edge_id) ≡ true).
        let is = one_edge S r.edge e good r.there split.there (eqb-true r.edge.edge_id e.edge_id t) in
        ⊎_elim
        (λ (q : forward_of r.edge ≡ h).
        (forward_of (first_part e S.next_ids.node p id), (forward_there fs (first_part e S.next_ids.node p id) split.first, subst (λ (x : HalfEdge). IsLike x (forward_of (first_part e S.next_ids.node p id))) (ap forward_of (sym is) ∙ q) (first_like S e p id id' fs split))))
        (λ (q : backward_of r.edge ≡ h).
        (backward_of (second_part e S.next_ids.node p id'), (backward_there fs (second_part e S.next_ids.node p id') split.second, subst (λ (x : HalfEdge). IsLike x (backward_of (second_part e S.next_ids.node p id'))) (ap backward_of (sym is) ∙ q) (second_like S e p id id' fs split))))
        r.way)
        (λ (t : (r.edge.edge_id == e.edge_id) ≡ false).
        (h, (half_there fs h r.edge (split.old r.edge r.there (λ q. false≢true (sym t ∙ eq-eqb r.edge.edge_id e.edge_id q))) r.way, like_self h)))
        (by_bool (r.edge.edge_id == e.edge_id))

-- ---- the rings
-- from the new node leave the first part walked back, and the second
pub at_new : (S : Drawing) (e : Edge) (p : Point) (id id' : ℕ) (fs : List Edge) → IsPlainInOrder S → HasPlainLines S → IsSplitInto S e p id id' fs → (k : HalfEdge) → Contains (flat_map both_ways fs) k → k.from_node ≡ S.next_ids.node → (backward_of (first_part e S.next_ids.node p id) ≡ k) ⊎ (forward_of (second_part e S.next_ids.node p id') ≡ k)
at_new S e p id id' fs ordered good split k ck at =
    let r = half_of fs k ck in
    let lone = new_isolated S ordered good in
    let not_end : is_end_of S.next_ids.node e ≡ true → ⊥ = none_ends S S.next_ids.node lone e split.there in
    ⊎_elim
    (λ (old : Contains S.edges r.edge × (r.edge.edge_id ≡ e.edge_id → ⊥)). absurd (none_leaves S S.next_ids.node lone k (half_there S.edges k r.edge old.0 r.way) at))
    (λ (part : (first_part e S.next_ids.node p id ≡ r.edge) ⊎ (second_part e S.next_ids.node p id' ≡ r.edge)).
    ⊎_elim
    (λ (is : first_part e S.next_ids.node p id ≡ r.edge).
    ⊎_elim
    (λ (q : forward_of r.edge ≡ k). absurd (not_end (or_left (e.start_node == S.next_ids.node) (e.end_node == S.next_ids.node) (eq-eqb e.start_node S.next_ids.node (node_of (ap forward_of is ∙ q) ∙ at)))))
    (λ (q : backward_of r.edge ≡ k). inl (ap backward_of is ∙ q))
    r.way)
    (λ (is : second_part e S.next_ids.node p id' ≡ r.edge).
    ⊎_elim
    (λ (q : forward_of r.edge ≡ k). inr (ap forward_of is ∙ q))
    (λ (q : backward_of r.edge ≡ k). absurd (not_end (or_right (e.start_node == S.next_ids.node) (e.end_node == S.next_ids.node) (eq-eqb e.end_node S.next_ids.node (node_of (ap backward_of is ∙ q) ∙ at)))))
    r.way)
    part)
    (split.from r.edge r.there)

abbrev pub split_with : Drawing → Point → List Edge → List RelationRow → Counters → Drawing
split_with S p fs rows ids = record S { nodes = S.nodes ++ new_node S.next_ids.node p ∷ []; edges = fs; relations = rows; next_ids = ids }

pub split_joined : (S : Drawing) (e : Edge) (p : Point) (id id' : ℕ) (fs : List Edge) (rows : List RelationRow) (ids : Counters) → IsPlainInOrder S → HasPlainLines S → IsSplitInto S e p id id' fs → HasPlainLines (split_with S p fs rows ids)
    → FacesAgree (half_edges S) → FacesAgree (flat_map both_ways fs)
split_joined S e p id id' fs rows ids ordered good split more joined t s h =
    ⊎_elim
    (λ (at : t.from_node ≡ S.next_ids.node). here (at_new S e p id id' fs ordered good split t h.first at) (at_new S e p id id' fs ordered good split s h.second (h.one_node ∙ at)))
    (λ (far : t.from_node ≡ S.next_ids.node → ⊥). joined_like (half_edges S) (flat_map both_ways fs) S.next_ids.node (spread_of S good) (spread_of (split_with S p fs rows ids) more) (parts_correspond S e p id id' fs good split) joined t s h far)
    (cases_eq t.from_node S.next_ids.node)
  where
    here : (backward_of (first_part e S.next_ids.node p id) ≡ t) ⊎ (forward_of (second_part e S.next_ids.node p id') ≡ t) → (backward_of (first_part e S.next_ids.node p id) ≡ s) ⊎ (forward_of (second_part e S.next_ids.node p id') ≡ s) → t.on_right ≡ s.on_left
    here (inl x) (inr y) = ap (λ (z : HalfEdge). z.on_right) (sym x) ∙ ap (λ (z : HalfEdge). z.on_left) y
    here (inr x) (inl y) = ap (λ (z : HalfEdge). z.on_right) (sym x) ∙ ap (λ (z : HalfEdge). z.on_left) y
    here (inl x) (inl y) =
        let e2 = h.alone (sym y ∙ x) (forward_of (second_part e S.next_ids.node p id')) (forward_there fs (second_part e S.next_ids.node p id') split.second) (node_of x) in
        absurd (false≢true (ap (λ (z : HalfEdge). z.is_forward) (x ∙ sym e2)))
    here (inr x) (inr y) =
        let e2 = h.alone (sym y ∙ x) (backward_of (first_part e S.next_ids.node p id)) (backward_there fs (first_part e S.next_ids.node p id) split.first) (node_of x) in
        absurd (false≢true (ap (λ (z : HalfEdge). z.is_forward) (e2 ∙ sym x)))

-- ---- faces and nodes
pub split_known : (S : Drawing) (e : Edge) (p : Point) (id id' : ℕ) (fs : List Edge) (rows : List RelationRow) (ids : Counters) → IsPlainInOrder S → HasPlainLines S → IsSplitInto S e p id id' fs → IsKnown S → IsKnown (split_with S p fs rows ids)
split_known S e p id id' fs rows ids ordered good split known = record {
  universe = known.universe;
  sides = λ x c. ⊎_elim
      (λ (old : Contains S.edges x × (x.edge_id ≡ e.edge_id → ⊥)). known.sides x old.0)
      (λ (part : (first_part e S.next_ids.node p id ≡ x) ⊎ (second_part e S.next_ids.node p id' ≡ x)).
      ⊎_elim
      (λ (is : first_part e S.next_ids.node p id ≡ x). subst (λ (y : Edge). (has_face S y.left_face ≡ true) × (has_face S y.right_face ≡ true)) is (known.sides e split.there))
      (λ (is : second_part e S.next_ids.node p id' ≡ x). subst (λ (y : Edge). (has_face S y.left_face ≡ true) × (has_face S y.right_face ≡ true)) is (known.sides e split.there))
      part)
      (split.from x c);
  nodes = λ m c. ⊎_elim
      (λ (d : Contains S.nodes m).
      known_kept S (split_with S p fs rows ids) m.containing_face (is_isolated S m.node_id) (is_isolated (split_with S p fs rows ids) m.node_id) (as_before m.node_id (not_new m d)) (λ f t. t) (known.nodes m d))
      (λ (q : new_node S.next_ids.node p ≡ m). subst (λ (x : NodeRow). is_node_known (split_with S p fs rows ids) x ≡ true) q
      (ap not (not_isolated (split_with S p fs rows ids) S.next_ids.node (first_part e S.next_ids.node p id) split.first
      (or_right (e.start_node == S.next_ids.node) (S.next_ids.node == S.next_ids.node) (eq-eqb S.next_ids.node S.next_ids.node refl)))))
      (Contains-push_cases S.nodes (new_node S.next_ids.node p) m c);
}
  where
    not_new : (m : NodeRow) → Contains S.nodes m → m.node_id ≡ S.next_ids.node → ⊥
    not_new m c q = let below = (ids_within node_id_of 0 S.next_ids.node S.nodes m (record { test = ordered.node_ids }) c).1 in omega arith

    to_first : (m : ℕ) → e.start_node ≡ m → is_end_of m (first_part e S.next_ids.node p id) ≡ true
    to_first m q = or_left (e.start_node == m) (S.next_ids.node == m) (eq-eqb e.start_node m q)

    to_second : (m : ℕ) → e.end_node ≡ m → is_end_of m (second_part e S.next_ids.node p id') ≡ true
    to_second m q = or_right (S.next_ids.node == m) (e.end_node == m) (eq-eqb e.end_node m q)

    out_of_first : (m : ℕ) → (m ≡ S.next_ids.node → ⊥) → is_end_of m (first_part e S.next_ids.node p id) ≡ true → is_end_of m e ≡ true
    out_of_first m far t = ⊎_elim (λ (q : e.start_node ≡ m). or_left (e.start_node == m) (e.end_node == m) (eq-eqb e.start_node m q)) (λ (q : S.next_ids.node ≡ m). absurd (far (sym q))) (end_is m (first_part e S.next_ids.node p id) t)

    out_of_second : (m : ℕ) → (m ≡ S.next_ids.node → ⊥) → is_end_of m (second_part e S.next_ids.node p id') ≡ true → is_end_of m e ≡ true
    out_of_second m far t = ⊎_elim (λ (q : S.next_ids.node ≡ m). absurd (far (sym q))) (λ (q : e.end_node ≡ m). or_right (e.start_node == m) (e.end_node == m) (eq-eqb e.end_node m q)) (end_is m (second_part e S.next_ids.node p id') t)

    as_before : (m : ℕ) → (m ≡ S.next_ids.node → ⊥) → is_isolated S m ≡ is_isolated (split_with S p fs rows ids) m
    as_before m far = ap not (any_same (is_end_of m) (is_end_of m) S.edges fs
        (λ x c t. ⊎_elim
        (λ (q : (x.edge_id == e.edge_id) ≡ true).
        let is = one_edge S x e good c split.there (eqb-true x.edge_id e.edge_id q) in
        ⊎_elim
        (λ (u : e.start_node ≡ m). any_in (is_end_of m) fs (first_part e S.next_ids.node p id) split.first (to_first m u))
        (λ (u : e.end_node ≡ m). any_in (is_end_of m) fs (second_part e S.next_ids.node p id') split.second (to_second m u))
        (end_is m e (subst (λ (y : Edge). is_end_of m y ≡ true) is t)))
        (λ (q : (x.edge_id == e.edge_id) ≡ false). any_in (is_end_of m) fs x (split.old x c (λ u. false≢true (sym q ∙ eq-eqb x.edge_id e.edge_id u))) t)
        (by_bool (x.edge_id == e.edge_id)))
        (λ x c t. ⊎_elim
        (λ (old : Contains S.edges x × (x.edge_id ≡ e.edge_id → ⊥)). any_in (is_end_of m) S.edges x old.0 t)
        (λ (part : (first_part e S.next_ids.node p id ≡ x) ⊎ (second_part e S.next_ids.node p id' ≡ x)).
        any_in (is_end_of m) S.edges e split.there
        (⊎_elim
        (λ (is : first_part e S.next_ids.node p id ≡ x). out_of_first m far (subst (λ (y : Edge). is_end_of m y ≡ true) (sym is) t))
        (λ (is : second_part e S.next_ids.node p id' ≡ x). out_of_second m far (subst (λ (y : Edge). is_end_of m y ≡ true) (sym is) t))
        part))
        (split.from x c)))
