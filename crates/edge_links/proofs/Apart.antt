-- In a plain drawing the directions about a node differ.
use Rattle.std.proofs.Common.{◌≡◌, ◌≢◌, ℕ, ◌+◌, ◌<◌, refl, sym, ◌∙◌, ap, subst, arith, ℤ, pos, ◌-ℤ◌, ◌⊎◌, inl, inr, ⊎_elim, Bool, true, false, eqb, eqb-true, ne_eqb, List, [], ◌∷◌, ◌++◌, length, length-append, filter, slice_get, Some, IsTrue}
use Rattle.std.specs.Prelude.{reverse, flat_map, ◌&&◌, ◌==◌}
use Rattle.std.specs.List.{Contains, list_all}
use Rattle.std.proofs.lemmas.Bool.{and_parts, or_cases, cases_eq, both_ways as both_true}
use Rattle.std.proofs.lemmas.Grind.{reverse_onto}
use Rattle.std.proofs.lemmas.List.{reverse-reverse}
use Rattle.topo_base.specs.Darts.{same_way}
use Rattle.topo_base.specs.Point.{Point}
use Rattle.topo_base.specs.RationalPoint.{RationalPoint, IsAt}
use Rattle.topo_base.specs.declared.rows.NodeRow.{NodeRow}
use Rattle.plane.specs.Direction.{first_direction, direction_to, OneDirection, IsNotZero}
use Rattle.drawing.specs.Drawing.{Edge, is_end_of}
use Rattle.drawing.specs.HalfEdge.{HalfEdge, forward_of, backward_of, both_ways, leaves, same_half_edge}
use Rattle.plane.specs.Line.{segments_of, first_vertex, last_vertex, is_proper}
use Rattle.plane.specs.SimpleLine.{IsSimpleLine}
use Rattle.plane.specs.RationalTests.{IsOn, IsOnLine}
use Rattle.drawing.specs.DrawnPoints.{IsOnEdge}
use Rattle.plane.specs.Relation.{SameCoordinates}
use Rattle.plane.specs.Segment.{Segment}
use Rattle.drawing.specs.Star.{leaving}
use Rattle.plane.proofs.Collinear.{on_round}
use Rattle.plane.proofs.Directions.{one_turned}
use Rattle.plane.proofs.LineCuts.{last_ends}
use Rattle.plane.proofs.LineTurns.{first-reverse, last-reverse, reverse_on, reverse_proper, reverse_simple}
use Rattle.plane.proofs.ListTests.{contains_here, contains_there, contains_cases}
use Rattle.drawing.proofs.Members.{Pairwise, pairwise-same, pairwise-filter, contains-filtered}
use Rattle.plane.proofs.Middle.{another}
use Rattle.drawing.proofs.PlainParts.{ArePlain, HasPoint}
use Rattle.plane.proofs.Ring.{signed}
use Rattle.plane.proofs.SegmentParts.{segment, end_on}
use Rattle.edge_links.proofs.Half.{IsHalfOf, IdsDiffer, in_half_edges, one_edge, half_id}
use Rattle.edge_links.proofs.Meeting.{have_more}
use Rattle.edge_links.proofs.Following.{IsStar, of_star, same_self}
use Rattle.edge_links.proofs.Sorting.{AreOrdered, ordered_of, clockwise_sorted}

-- no id of a node comes twice
abbrev pub NodesDiffer : List NodeRow → Type 0
NodesDiffer nodes = Pairwise (λ (x y : NodeRow). x.node_id ≢ y.node_id) nodes

one_node : (nodes : List NodeRow) (x y : NodeRow) → NodesDiffer nodes → Contains nodes x → Contains nodes y → x.node_id ≡ y.node_id → x ≡ y
one_node nodes x y differ cx cy e = pairwise-same (λ (x y : NodeRow). x.node_id ≢ y.node_id) nodes x y differ cx cy (λ f. f e) (λ f. f (sym e))

point_same : (p q : Point) → SameCoordinates p q → p ≡ q
point_same p q same = let a = same.0 in let b = same.1 in λ i. record { x = a i; y = b i }

one_point : (nodes : List NodeRow) (n : ℕ) (p q : Point) → NodesDiffer nodes → HasPoint nodes n p → HasPoint nodes n q → p ≡ q
one_point nodes n p q differ x y =
    let one = one_node nodes x.0 y.0 differ x.1.0 y.1.0 (x.1.1.0 ∙ sym y.1.1.0) in
    sym (point_same x.0.geom p x.1.1.1) ∙ ap (λ (r : NodeRow). r.geom) one ∙ point_same y.0.geom q y.1.1.1

-- a node at q with this id is at the point of the node with this id
at_point : (nodes : List NodeRow) (m : NodeRow) (n : ℕ) (p : Point) (q : RationalPoint) → NodesDiffer nodes → Contains nodes m → m.node_id ≡ n → HasPoint nodes n p → IsAt m.geom q → IsAt p q
at_point nodes m n p q differ cm e x at =
    let one = one_node nodes m x.0 differ cm x.1.0 (e ∙ sym x.1.1.0) in
    subst (λ z. IsAt z q) (ap (λ (r : NodeRow). r.geom) one ∙ point_same x.0.geom p x.1.1.1) at

-- ---- half-edges of a plain drawing
record IsPlainHalf (nodes : List NodeRow) (h : HalfEdge) : Type 0 where
  proper : list_all is_proper (segments_of h.points) ≡ true
  simple : IsSimpleLine (segments_of h.points)
  starts : HasPoint nodes h.from_node (first_vertex h.points)
  ends : HasPoint nodes h.to_node (last_vertex h.points)

half_plain : (nodes : List NodeRow) (edges : List Edge) → ArePlain nodes edges → (e : Edge) → Contains edges e → (h : HalfEdge) → IsHalfOf e h → IsPlainHalf nodes h
half_plain nodes edges plain e c h half =
    let fit = plain.fit e c in
    let forward : IsPlainHalf nodes (forward_of e) = record { proper = fit.proper; simple = plain.simple e c; starts = fit.starts; ends = fit.ends } in
    let backward : IsPlainHalf nodes (backward_of e) = record {
      proper = reverse_proper e.geom fit.proper;
      simple = reverse_simple e.geom (plain.simple e c);
      starts = subst (HasPoint nodes e.end_node) (sym (first-reverse e.geom)) fit.ends;
      ends = subst (HasPoint nodes e.start_node) (sym (last-reverse e.geom)) fit.starts;
    } in
    ⊎_elim (λ (f : h ≡ forward_of e). subst (IsPlainHalf nodes) (sym f) forward) (λ (f : h ≡ backward_of e). subst (IsPlainHalf nodes) (sym f) backward) half

on_half : (e : Edge) (h : HalfEdge) (q : RationalPoint) → IsHalfOf e h → IsOnLine q h.points → IsOnEdge q e
on_half e h q half on =
    ⊎_elim
    (λ (f : h ≡ forward_of e). subst (λ (k : HalfEdge). IsOnLine q k.points) f on)
    (λ (f : h ≡ backward_of e). reverse_on e.geom q (subst (λ (k : HalfEdge). IsOnLine q k.points) f on))
    half

ends_of_half : (e : Edge) (h : HalfEdge) (n : ℕ) → IsHalfOf e h → IsTrue (is_end_of n e) → (n ≡ h.from_node) ⊎ (n ≡ h.to_node)
ends_of_half e h n half is =
    ⊎_elim
    (λ (s : (e.start_node == n) ≡ true). let a = sym (eqb-true e.start_node n s) in ⊎_elim (λ (f : h ≡ forward_of e). inl (a ∙ ap (λ (k : HalfEdge). k.from_node) (sym f))) (λ (f : h ≡ backward_of e). inr (a ∙ ap (λ (k : HalfEdge). k.to_node) (sym f))) half)
    (λ (s : (e.end_node == n) ≡ true). let a = sym (eqb-true e.end_node n s) in ⊎_elim (λ (f : h ≡ forward_of e). inr (a ∙ ap (λ (k : HalfEdge). k.to_node) (sym f))) (λ (f : h ≡ backward_of e). inl (a ∙ ap (λ (k : HalfEdge). k.from_node) (sym f))) half)
    (or_cases (e.start_node == n) (e.end_node == n) is)

-- ---- a point inside the first segment of a line
-- is on no later segment
later_clash : (p a b : Point) (bs : List Point) (q : RationalPoint) → IsSimpleLine (segments_of (p ∷ a ∷ b ∷ bs)) → IsOn q (segment p a) → (IsAt p q → ⊥) → (IsAt a q → ⊥)
    → (j : ℕ) (t : Segment) → 0 < j → slice_get (segments_of (p ∷ a ∷ b ∷ bs)) j ≡ Some t → IsOn q t → ⊥
later_clash p a b bs q simple on not_start not_end j t above found on_t =
    ⊎_elim
    (λ (h : (j ≡ 0 + 1) × IsAt a q). not_end h.1)
    (λ (h : (0 ≡ 0) × (j + 1 ≡ length (segments_of (p ∷ a ∷ b ∷ bs))) × IsAt p q × IsAt t.b q). not_start h.2)
    (simple 0 j (segment p a) t q above refl found on on_t)

-- the last of a list
found_last : {X : Type 0} (x : X) (xs : List X) → (y : X) × (slice_get (x ∷ xs) (length xs) ≡ Some y)
found_last x [] = (x, refl)
found_last x (z ∷ zs) = found_last z zs

end_clash : (p a : Point) (rest : List Point) (q : RationalPoint) → IsSimpleLine (segments_of (p ∷ a ∷ rest)) → IsOn q (segment p a) → (IsAt p q → ⊥) → (IsAt a q → ⊥) → IsAt (last_vertex (p ∷ a ∷ rest)) q → ⊥
end_clash p a [] q simple on not_start not_end at = not_end at
end_clash p a (b ∷ bs) q simple on not_start not_end at =
    let later = segments_of (a ∷ b ∷ bs) in
    let last = found_last (segment p a) later in
    let ends = last_ends (p ∷ a ∷ b ∷ bs) (length later) last.0 last.1 (omega arith) in
    later_clash p a b bs q simple on not_start not_end (length later) last.0 (omega arith) last.1 (end_on last.0 q (subst (λ z. IsAt z q) ends at))

-- a line whose first direction isn't zero has two vertices
two_vertices : (l : List Point) → IsNotZero (first_direction l) → (p : Point) × ((a : Point) × ((rest : List Point) × (l ≡ p ∷ a ∷ rest)))
two_vertices [] some = absurd (some refl refl)
two_vertices (p ∷ []) some = absurd (some refl refl)
two_vertices (p ∷ a ∷ rest) some = (p, (a, (rest, refl)))

-- a common point of two segments from one point in one direction, inside the first
have_inner : (p a b : Point) → IsNotZero (direction_to p a) → IsNotZero (direction_to p b) → OneDirection (direction_to p a) (direction_to p b) → (q : RationalPoint) × (IsOn q (segment p a) × IsOn q (segment p b) × (IsAt p q → ⊥) × (IsAt a q → ⊥))
have_inner p a b ha hb one =
    let r = another (segment p a) (segment p b) p a (have_more p a b ha hb one) in
    (r.0, (r.1.0.0, r.1.0.1, r.1.1, r.1.2))

-- ---- two half-edges of different edges
different_lines : (nodes : List NodeRow) (edges : List Edge) → ArePlain nodes edges → NodesDiffer nodes → (e f : Edge) → Contains edges e → Contains edges f → e.edge_id ≢ f.edge_id
    → (h k : HalfEdge) → IsHalfOf e h → IsHalfOf f k → (p a b : Point) (more bs : List Point) → h.points ≡ p ∷ a ∷ more → k.points ≡ p ∷ b ∷ bs
    → IsNotZero (direction_to p a) → IsNotZero (direction_to p b) → OneDirection (direction_to p a) (direction_to p b) → ⊥
different_lines nodes edges plain differ e f ce cf apart h k half_h half_k p a b more bs is_h is_k ha hb one =
    let plain_h = half_plain nodes edges plain e ce h half_h in
    let r = have_inner p a b ha hb one in
    let on_h : IsOnLine r.0 h.points = subst (λ l. IsOnLine r.0 l) (sym is_h) (segment p a, (contains_here (segment p a) (segments_of (a ∷ more)), r.1.0)) in
    let on_k : IsOnLine r.0 k.points = subst (λ l. IsOnLine r.0 l) (sym is_k) (segment p b, (contains_here (segment p b) (segments_of (b ∷ bs)), r.1.1)) in
    let m = plain.meet e f r.0 ce cf apart (on_half e h r.0 half_h on_h) (on_half f k r.0 half_k on_k) in
    let end = (and_parts (is_end_of m.0.node_id e) (is_end_of m.0.node_id f) m.1.2).0 in
    ⊎_elim
    (λ (s : m.0.node_id ≡ h.from_node). r.1.2 (subst (λ z. IsAt z r.0) (ap first_vertex is_h) (at_point nodes m.0 h.from_node (first_vertex h.points) r.0 differ m.1.0 s plain_h.starts m.1.1)))
    (λ (s : m.0.node_id ≡ h.to_node).
    end_clash p a more r.0 (subst (λ l. IsSimpleLine (segments_of l)) is_h plain_h.simple) r.1.0 r.1.2 r.1.3
    (subst (λ z. IsAt z r.0) (ap last_vertex is_h) (at_point nodes m.0 h.to_node (last_vertex h.points) r.0 differ m.1.0 s plain_h.ends m.1.1)))
    (ends_of_half e h m.0.node_id half_h end)

different_edges : (nodes : List NodeRow) (edges : List Edge) → ArePlain nodes edges → NodesDiffer nodes → (e f : Edge) → Contains edges e → Contains edges f → e.edge_id ≢ f.edge_id
    → (h k : HalfEdge) → IsHalfOf e h → IsHalfOf f k → h.from_node ≡ k.from_node → IsNotZero (leaving h) → IsNotZero (leaving k) → OneDirection (leaving h) (leaving k) → ⊥
different_edges nodes edges plain differ e f ce cf apart h k half_h half_k node some_h some_k one =
    let x = two_vertices h.points some_h in
    let y = two_vertices k.points some_k in
    let is_h : h.points ≡ x.0 ∷ x.1.0 ∷ x.1.1.0 = x.1.1.1 in
    let starts_h = (half_plain nodes edges plain e ce h half_h).starts in
    let starts_k = (half_plain nodes edges plain f cf k half_k).starts in
    let same : y.0 ≡ x.0 = sym (ap first_vertex y.1.1.1) ∙ sym (one_point nodes k.from_node (first_vertex h.points) (first_vertex k.points) differ (subst (λ n. HasPoint nodes n (first_vertex h.points)) node starts_h) starts_k) ∙ ap first_vertex is_h in
    let is_k : k.points ≡ x.0 ∷ y.1.0 ∷ y.1.1.0 = y.1.1.1 ∙ ap (λ z. z ∷ y.1.0 ∷ y.1.1.0) same in
    let dir_h : leaving h ≡ direction_to x.0 x.1.0 = ap first_direction is_h in
    let dir_k : leaving k ≡ direction_to x.0 y.1.0 = ap first_direction is_k in
    different_lines nodes edges plain differ e f ce cf apart h k half_h half_k x.0 x.1.0 y.1.0 x.1.1.0 y.1.1.0 is_h is_k
    (subst IsNotZero dir_h some_h) (subst IsNotZero dir_k some_k) (subst (OneDirection (direction_to x.0 x.1.0)) dir_k (subst (λ u. OneDirection u (leaving k)) dir_h one))

-- ---- the two half-edges of a closed edge
segments_push : (l : List Point) (y z : Point) → segments_of ((l ++ y ∷ []) ++ z ∷ []) ≡ segments_of (l ++ y ∷ []) ++ segment y z ∷ []
segments_push [] y z = refl
segments_push (x ∷ []) y z = refl
segments_push (x ∷ w ∷ l) y z = ap (λ ss. segment x w ∷ ss) (segments_push (w ∷ l) y z)

turned_back : (l : List Point) (z y : Point) (ys : List Point) → reverse l ≡ z ∷ y ∷ ys → l ≡ (reverse ys ++ y ∷ []) ++ z ∷ []
turned_back l z y ys e = sym (reverse-reverse l) ∙ ap reverse e ∙ reverse_onto (y ∷ ys) z [] ∙ ap (λ r. r ++ z ∷ []) (reverse_onto ys y [])

at_push : {X : Type 0} (xs : List X) (x : X) → slice_get (xs ++ x ∷ []) (length xs) ≡ Some x
at_push [] x = refl
at_push (y ∷ ys) x = at_push ys x

last_segment : (l : List Point) (z y : Point) (ys : List Point) → reverse l ≡ z ∷ y ∷ ys → (j : ℕ) × ((j + 1 ≡ length (segments_of l)) × (slice_get (segments_of l) j ≡ Some (segment y z)))
last_segment l z y ys e =
    let front = segments_of (reverse ys ++ y ∷ []) in
    let is : segments_of l ≡ front ++ segment y z ∷ [] = ap segments_of (turned_back l z y ys e) ∙ segments_push (reverse ys) y z in
    let long = ap length is ∙ length-append front (segment y z ∷ []) in
    (length front, (omega (arith, long), ap (λ ss. slice_get ss (length front)) is ∙ at_push front (segment y z)))

minus_self : (x : ℤ) → x -ℤ x ≡ pos 0
minus_self x = omega (arith, signed)

zero_clash : (p a : Point) → p ≡ a → IsNotZero (direction_to p a) → ⊥
zero_clash p a same some = let own = subst (λ z. IsNotZero (direction_to p z)) (sym same) some in own (minus_self p.x) (minus_self p.y)

closed_line : (p a : Point) (more : List Point) (y : Point) (ys : List Point) → IsSimpleLine (segments_of (p ∷ a ∷ more)) → reverse (p ∷ a ∷ more) ≡ p ∷ y ∷ ys
    → IsNotZero (direction_to p a) → IsNotZero (direction_to p y) → OneDirection (direction_to p a) (direction_to p y) → ⊥
closed_line p a [] y ys simple e ha hy one = zero_clash p a (sym (ap first_vertex e) ∙ first-reverse (p ∷ a ∷ [])) ha
closed_line p a (b ∷ bs) y ys simple e ha hy one =
    let r = have_inner p a y ha hy one in
    let last = last_segment (p ∷ a ∷ b ∷ bs) p y ys e in
    let count = last.1.0 in
    later_clash p a b bs r.0 simple r.1.0 r.1.2 r.1.3 last.0 (segment y p) (omega arith) last.1.1 (on_round (segment p y) r.0 r.1.1)

closed_edge : (nodes : List NodeRow) (edges : List Edge) → ArePlain nodes edges → NodesDiffer nodes → (e : Edge) → Contains edges e → e.start_node ≡ e.end_node
    → IsNotZero (first_direction e.geom) → IsNotZero (first_direction (reverse e.geom)) → OneDirection (first_direction e.geom) (first_direction (reverse e.geom)) → ⊥
closed_edge nodes edges plain differ e c node some back one =
    let x = two_vertices e.geom some in
    let y = two_vertices (reverse e.geom) back in
    let fit = plain.fit e c in
    let is : e.geom ≡ x.0 ∷ x.1.0 ∷ x.1.1.0 = x.1.1.1 in
    let same : y.0 ≡ x.0 = sym (ap first_vertex y.1.1.1) ∙ first-reverse e.geom ∙ sym (one_point nodes e.end_node (first_vertex e.geom) (last_vertex e.geom) differ (subst (λ n. HasPoint nodes n (first_vertex e.geom)) node fit.starts) fit.ends) ∙ ap first_vertex is in
    let turned : reverse e.geom ≡ x.0 ∷ y.1.0 ∷ y.1.1.0 = y.1.1.1 ∙ ap (λ z. z ∷ y.1.0 ∷ y.1.1.0) same in
    let dir : first_direction e.geom ≡ direction_to x.0 x.1.0 = ap first_direction is in
    let dir_back : first_direction (reverse e.geom) ≡ direction_to x.0 y.1.0 = ap first_direction turned in
    closed_line x.0 x.1.0 x.1.1.0 y.1.0 y.1.1.0 (subst (λ l. IsSimpleLine (segments_of l)) is (plain.simple e c)) (sym (ap reverse is) ∙ turned)
    (subst IsNotZero dir some) (subst IsNotZero dir_back back) (subst (OneDirection (direction_to x.0 x.1.0)) dir_back (subst (λ u. OneDirection u (first_direction (reverse e.geom))) dir one))

-- ---- any two half-edges that leave a node
same_of_one : (h k : HalfEdge) → h ≡ k → same_half_edge h k ≡ true
same_of_one h k e = subst (λ (z : HalfEdge). same_half_edge h z ≡ true) e (same_self h)

apart : (nodes : List NodeRow) (edges : List Edge) → ArePlain nodes edges → NodesDiffer nodes → IdsDiffer edges → (h k : HalfEdge) → Contains (flat_map both_ways edges) h → Contains (flat_map both_ways edges) k
    → same_half_edge h k ≡ false → h.from_node ≡ k.from_node → IsNotZero (leaving h) → IsNotZero (leaving k) → OneDirection (leaving h) (leaving k) → ⊥
apart nodes edges plain nodes_differ ids h k ch ck other node some_h some_k one =
    let x = in_half_edges h edges ch in
    let y = in_half_edges k edges ck in
    ⊎_elim
    (λ (e : x.0.edge_id ≡ y.0.edge_id).
    let same = one_edge edges x.0 y.0 ids x.1.0 y.1.0 e in
    one_of_both x.0 x.1.0 x.1.1 (subst (λ z. IsHalfOf z k) (sym same) y.1.1))
    (λ (e : x.0.edge_id ≡ y.0.edge_id → ⊥). different_edges nodes edges plain nodes_differ x.0 y.0 x.1.0 y.1.0 e h k x.1.1 y.1.1 node some_h some_k one)
    (cases_eq x.0.edge_id y.0.edge_id)
  where
    clash : h ≡ k → ⊥
    clash e = both_true (same_half_edge h k) other (same_of_one h k e)

    closed : (e : Edge) → Contains edges e → (f g : HalfEdge) → f ≡ forward_of e → g ≡ backward_of e → f.from_node ≡ g.from_node → IsNotZero (leaving f) → IsNotZero (leaving g) → OneDirection (leaving f) (leaving g) → ⊥
    closed e c f g ef eg at some_f some_g dir =
        let start : e.start_node ≡ e.end_node = ap (λ (z : HalfEdge). z.from_node) (sym ef) ∙ at ∙ ap (λ (z : HalfEdge). z.from_node) eg in
        closed_edge nodes edges plain nodes_differ e c start (subst (λ (z : HalfEdge). IsNotZero (leaving z)) ef some_f) (subst (λ (z : HalfEdge). IsNotZero (leaving z)) eg some_g)
        (subst (λ (z : HalfEdge). OneDirection (leaving (forward_of e)) (leaving z)) eg (subst (λ (z : HalfEdge). OneDirection (leaving z) (leaving g)) ef dir))

    one_of_both : (e : Edge) → Contains edges e → IsHalfOf e h → IsHalfOf e k → ⊥
    one_of_both e c hh hk =
        ⊎_elim
        (λ (f : h ≡ forward_of e). ⊎_elim (λ (g : k ≡ forward_of e). clash (f ∙ sym g)) (λ (g : k ≡ backward_of e). closed e c h k f g node some_h some_k one) hk)
        (λ (f : h ≡ backward_of e).
        ⊎_elim
        (λ (g : k ≡ forward_of e). closed e c k h g f (sym node) some_k some_h (one_turned (leaving h) (leaving k) one))
        (λ (g : k ≡ backward_of e). clash (f ∙ sym g))
        hk)
        hh

-- ---- a list of half-edges has none twice
other_id : (h k : HalfEdge) → h.edge_id ≢ k.edge_id → same_half_edge h k ≡ false
other_id h k differ = ap (λ b. b && same_way h.is_forward k.is_forward) (ne_eqb h.edge_id k.edge_id differ)

none_twice : (edges : List Edge) → IdsDiffer edges → Pairwise (λ h k. same_half_edge h k ≡ false) (flat_map both_ways edges)
none_twice [] ids = tt
none_twice (e ∷ edges) ids =
    let rest : (h : HalfEdge) → h.edge_id ≡ e.edge_id → (k : HalfEdge) → Contains (flat_map both_ways edges) k → same_half_edge h k ≡ false =
    λ h is k c. let x = in_half_edges k edges c in other_id h k (λ same. ids.0 x.0 x.1.0 (sym is ∙ same ∙ half_id x.0 k x.1.1)) in (
      λ k c.
          ⊎_elim
          (λ (f : backward_of e ≡ k). subst (λ z. same_half_edge (forward_of e) z ≡ false) f (two_ways (eqb e.edge_id e.edge_id)))
          (λ (d : Contains (flat_map both_ways edges) k). rest (forward_of e) refl k d)
          (contains_cases k (backward_of e) (flat_map both_ways edges) c),
      (λ k c. rest (backward_of e) refl k c, none_twice edges ids.1),
    )
  where
    two_ways : (b : Bool) → (b && false) ≡ false
    two_ways true = refl
    two_ways false = refl

pairs_with : {X : Type 0} (R Q : X → X → Type 0) (xs : List X) → ((x y : X) → Contains xs x → Contains xs y → R x y → Q x y) → Pairwise R xs → Pairwise Q xs
pairs_with R Q [] keeps h = tt
pairs_with R Q (x ∷ xs) keeps h = (λ y c. keeps x y (contains_here x xs) (contains_there y x xs c) (h.0 y c), pairs_with R Q xs (λ a b ca cb. keeps a b (contains_there a x xs ca) (contains_there b x xs cb)) h.1)

-- what is known of a drawing about one of its nodes
pub record IsPlainAt (nodes : List NodeRow) (edges : List Edge) (n : ℕ) : Type 0 where
  pub plain : ArePlain nodes edges
  pub nodes_differ : NodesDiffer nodes
  pub ids : IdsDiffer edges
  pub some : (h : HalfEdge) → Contains (flat_map both_ways edges) h → IsTrue (leaves n h) → IsNotZero (leaving h)

pub about_ordered : (nodes : List NodeRow) (edges : List Edge) (n : ℕ) → IsPlainAt nodes edges n → Pairwise AreOrdered (filter (leaves n) (flat_map both_ways edges))
about_ordered nodes edges n ok =
    let hs = flat_map both_ways edges in
    pairs_with (λ h k. same_half_edge h k ≡ false) AreOrdered (filter (leaves n) hs)
    (λ h k ch ck other.
    let x = contains-filtered (leaves n) h hs ch in
    let y = contains-filtered (leaves n) k hs ck in
    let some_h = ok.some h x.0 x.1 in
    let some_k = ok.some k y.0 y.1 in
    ordered_of h k some_h some_k (apart nodes edges ok.plain ok.nodes_differ ok.ids h k x.0 y.0 other (eqb-true h.from_node n x.1 ∙ sym (eqb-true k.from_node n y.1)) some_h some_k))
    (pairwise-filter (λ h k. same_half_edge h k ≡ false) (leaves n) hs (none_twice edges ok.ids))

pub star_of : (nodes : List NodeRow) (edges : List Edge) (n : ℕ) → IsPlainAt nodes edges n → IsStar edges n
star_of nodes edges n ok = record {
  ids = ok.ids;
  some = λ h c. let x = of_star edges n h c in ok.some h x.0 x.1;
  sorted = clockwise_sorted (filter (leaves n) (flat_map both_ways edges)) (about_ordered nodes edges n ok);
}
