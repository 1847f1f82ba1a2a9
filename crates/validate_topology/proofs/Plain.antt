-- Tables without lines on points and lines stand for a plain drawing.
use Rattle.std.proofs.Common.{◌≡◌, ◌≢◌, ◌∙◌, ◌⊎◌, inl, inr, ⊎_elim, ℕ, ◌<◌, ◌≤◌, Bool, true, false, not, ◌&&◌, ◌||◌, ◌==◌, cond, IsTrue, List, [], ◌∷◌, ◌++◌, map, flat_map, Some, refl, sym, ap, subst, arith}
use Rattle.std.specs.Prelude.{Contains, nat_lt}
use Rattle.std.specs.List.{list_all, list_any}
use Rattle.std.proofs.lemmas.Bool.{and_parts, and_from, cases_lt, eq-eqb, eqb-true, false≢true, or_left, or_right, ltb-true}
use Rattle.topo_base.specs.Point.{Point, same_point}
use Rattle.topo_base.specs.RationalPoint.{RationalPoint, rational, IsAt}
use Rattle.topo_base.specs.declared.meeting.Meeting.TheVariants.{Inside}
use Rattle.topo_base.specs.declared.rows.NodeRow.{NodeRow}
use Rattle.topo_base.specs.declared.rows.EdgeRow.{EdgeRow}
use Rattle.plane.specs.Line.{segments_of, first_vertex, last_vertex, is_proper, is_simple, are_simple}
use Rattle.plane.specs.LinePoints.{IsAtLineEnd, Meets}
use Rattle.plane.specs.Relation.{SameCoordinates}
use Rattle.plane.specs.RationalTests.{IsOnLine}
use Rattle.plane.specs.SimpleLine.{IsSimpleLine}
use Rattle.plane.proofs.Collinear.{at_point}
use Rattle.plane.proofs.ListTests.{contains_here, contains_there, contains_cases, contains_none}
use Rattle.plane.proofs.Middle.{at_or_not}
use Rattle.plane.proofs.PointTests.{Decides-same_point}
use Rattle.plane.proofs.Relations.{same_end}
use Rattle.plane.proofs.SimpleTests.{Decides-simple}
use Rattle.drawing.specs.Drawing.{Edge, is_end_of, node_id_of}
use Rattle.drawing.specs.Plain.{IsPlain, has_point as draws_point, is_between_nodes, nodes_differ}
use Rattle.drawing.specs.Rows.{row_at}
use Rattle.drawing.specs.Tables.{Tables, drawn, drawn_edge}
use Rattle.drawing.proofs.Members.{contains-mapped}
use Rattle.grid_lines.proofs.Links.{at_moved}
use Rattle.validate_topology.specs.Ascending.{numbers_ascend}
use Rattle.validate_topology.specs.Conflicts.{AreCrossing, IsNodeInside}
use Rattle.validate_topology.specs.OnlyIf.{only_if}
use Rattle.validate_topology.specs.PlainLines.{HasPlainLines, coincident, crossed_edge, crossed_node, ends_mismatched, has_point, is_at, not_simple, starts_mismatched}
use Rattle.validate_topology.specs.declared.pairs.IdPair.{IdPair}
use Rattle.validate_topology.specs.declared.lines.ReportLine.TheVariants.{EdgeStartMismatch, EdgeEndMismatch, EdgeNotSimple}
use Rattle.validate_topology.proofs.Sweeping.{same_turned}

-- ---- no lines
no_cons : {A : Type 0} (x : A) (xs : List A) → [] ≡ x ∷ xs → ⊥
no_cons x xs e = absurd cc

pub first_none : {A : Type 0} (xs ys : List A) → [] ≡ xs ++ ys → xs ≡ []
first_none [] ys e = refl
first_none (x ∷ xs) ys e = absurd (no_cons x (xs ++ ys) e)

pub second_none : {A : Type 0} (xs ys : List A) → [] ≡ xs ++ ys → [] ≡ ys
second_none [] ys e = e
second_none (x ∷ xs) ys e = absurd (no_cons x (xs ++ ys) e)

map_none : {A B : Type 0} (f : A → B) (xs : List A) → map f xs ≡ [] → xs ≡ []
map_none f [] e = refl
map_none f (x ∷ xs) e = absurd (no_cons (f x) (map f xs) (sym e))

one_false : {A : Type 0} (b : Bool) (line : A) → only_if (not b) line ≡ [] → b ≡ true
one_false true line e = refl
one_false false line e = absurd (no_cons line [] (sym e))

each_true : {X A : Type 0} (test : X → Bool) (line : X → A) (xs : List X) → flat_map (λ (x : X). only_if (not (test x)) (line x)) xs ≡ [] → (x : X) → Contains xs x → test x ≡ true
each_true test line [] e x c = absurd (contains_none x c)
each_true test line (y ∷ xs) e x c =
    ⊎_elim
    (λ (same : y ≡ x). subst (λ z. test z ≡ true) same (one_false (test y) (line y) (first_none (only_if (not (test y)) (line y)) _ (sym e))))
    (λ (there : Contains xs x). each_true test line xs (sym (second_none (only_if (not (test y)) (line y)) _ (sym e))) x there)
    (contains_cases x y xs c)

-- ---- tests over lists
all_by : {X : Type 0} (p : X → Bool) (xs : List X) → ((x : X) → Contains xs x → p x ≡ true) → list_all p xs ≡ true
all_by p [] h = refl
all_by p (x ∷ xs) h = and_from (p x) (list_all p xs) (h x (contains_here x xs)) (all_by p xs (λ y c. h y (contains_there y x xs c)))

any_by : {X : Type 0} (p : X → Bool) (xs : List X) (x : X) → Contains xs x → p x ≡ true → list_any p xs ≡ true
any_by p [] x c h = absurd (contains_none x c)
any_by p (y ∷ xs) x c h =
    ⊎_elim
    (λ (e : y ≡ x). or_left (p y) (list_any p xs) (subst (λ z. p z ≡ true) (sym e) h))
    (λ (k : Contains xs x). or_right (p y) (list_any p xs) (any_by p xs x k h))
    (contains_cases x y xs c)

not_any : {X : Type 0} (p : X → Bool) (xs : List X) → ((x : X) → Contains xs x → p x ≡ true → ⊥) → not (list_any p xs) ≡ true
not_any p [] h = refl
not_any {X} p (x ∷ xs) h = pick (not_any p xs (λ y c. h y (contains_there y x xs c))) (p x) refl
  where
    pick : not (list_any p xs) ≡ true → (b : Bool) → p x ≡ b → not (list_any p (x ∷ xs)) ≡ true
    pick behind true e = absurd (h x (contains_here x xs) e)
    pick behind false e = ap (λ b. not (b || list_any p xs)) e ∙ behind

-- ---- nodes
listed_above : (low : ℕ) (nodes : List NodeRow) (m : NodeRow) → IsTrue (numbers_ascend node_id_of low nodes) → Contains nodes m → low < m.node_id
listed_above low [] m up c = absurd (contains_none m c)
listed_above low (n ∷ nodes) m up c =
    let parts = and_parts (nat_lt low n.node_id) (numbers_ascend node_id_of n.node_id nodes) up in
    let first = less low n.node_id parts.0 in
    ⊎_elim
    (λ (e : n ≡ m). subst (λ (x : NodeRow). low < x.node_id) e first)
    (λ (k : Contains nodes m). let more = listed_above n.node_id nodes m parts.1 k in omega arith)
    (contains_cases m n nodes c)
  where
    less : (a b : ℕ) → nat_lt a b ≡ true → a < b
    less a b h = ltb-true a b h

abbrev NoneCoincide : List NodeRow → Type 0
NoneCoincide nodes = (a b : NodeRow) → Contains nodes a → Contains nodes b → a.node_id < b.node_id → IsTrue (same_point a.geom b.geom) → ⊥

nodes_apart : (low : ℕ) (nodes : List NodeRow) → IsTrue (numbers_ascend node_id_of low nodes) → NoneCoincide nodes → nodes_differ nodes ≡ true
nodes_apart low [] up none = refl
nodes_apart low (n ∷ nodes) up none =
    let rest = (and_parts (nat_lt low n.node_id) (numbers_ascend node_id_of n.node_id nodes) up).1 in
    and_from (not (list_any (λ (m : NodeRow). same_point m.geom n.geom) nodes)) (nodes_differ nodes)
    (not_any (λ (m : NodeRow). same_point m.geom n.geom) nodes
    (λ m c h. none n m (contains_here n nodes) (contains_there m n nodes c) (listed_above n.node_id nodes m rest c) (same_turned m.geom n.geom h)))
    (nodes_apart n.node_id nodes rest (λ a b ca cb. none a b (contains_there a n nodes ca) (contains_there b n nodes cb)))

-- nodes with one point have one id
one_node : (nodes : List NodeRow) (a b : NodeRow) (q : RationalPoint) → NoneCoincide nodes → Contains nodes a → Contains nodes b → IsAt a.geom q → IsAt b.geom q → a.node_id ≡ b.node_id
one_node nodes a b q none ca cb at also =
    let e = same_end q a.geom b.geom at also in
    ⊎_elim
    (λ (l : a.node_id < b.node_id). absurd (none a b ca cb l ((Decides-same_point a.geom b.geom).1 e)))
    (λ (l : b.node_id ≤ a.node_id).
    ⊎_elim
    (λ (m : b.node_id < a.node_id). absurd (none b a cb ca m ((Decides-same_point b.geom a.geom).1 (sym e.0, sym e.1))))
    (λ (m : a.node_id ≤ b.node_id). omega arith)
    (cases_lt b.node_id a.node_id))
    (cases_lt a.node_id b.node_id)

-- the node of an id
record IsNodeOf (nodes : List NodeRow) (n : ℕ) (p : Point) : Type 0 where
  pub node : NodeRow
  pub listed : Contains nodes node
  pub id : node.node_id ≡ n
  pub there : SameCoordinates node.geom p

node_of : (nodes : List NodeRow) (n : ℕ) (p : Point) → has_point nodes n p ≡ true → IsNodeOf nodes n p
node_of [] n p h = absurd (false≢true h)
node_of (x ∷ nodes) n p h = pick (node_of nodes n p) (x.node_id == n) refl h
  where
    more : IsNodeOf nodes n p → IsNodeOf (x ∷ nodes) n p
    more k = record { node = k.node; listed = contains_there k.node x nodes k.listed; id = k.id; there = k.there }

    pick : (has_point nodes n p ≡ true → IsNodeOf nodes n p) → (b : Bool) → (x.node_id == n) ≡ b → is_at p (cond b (Some x) (row_at node_id_of nodes n)) ≡ true → IsNodeOf (x ∷ nodes) n p
    pick behind true e k = record { node = x; listed = contains_here x nodes; id = eqb-true x.node_id n e; there = (Decides-same_point x.geom p).0 k }
    pick behind false e k = more (behind k)

drawn_point : (nodes : List NodeRow) (n : ℕ) (p : Point) → has_point nodes n p ≡ true → list_any (λ (row : NodeRow). row.node_id == n && same_point row.geom p) nodes ≡ true
drawn_point nodes n p h =
    let k = node_of nodes n p h in
    any_by (λ (row : NodeRow). row.node_id == n && same_point row.geom p) nodes k.node k.listed
    (and_from (k.node.node_id == n) (same_point k.node.geom p) (eq-eqb k.node.node_id n k.id) ((Decides-same_point k.node.geom p).1 k.there))

-- ---- edges
record AreSound (t : Tables) : Type 0 where
  pub nodes : NoneCoincide t.nodes
  pub starts : (e : EdgeRow) → Contains t.edges e → has_point t.nodes e.start_node (first_vertex e.geom) ≡ true
  pub ends : (e : EdgeRow) → Contains t.edges e → has_point t.nodes e.end_node (last_vertex e.geom) ≡ true
  pub simple : (e : EdgeRow) → Contains t.edges e → is_simple e.geom ≡ true
  pub inside : (p : IdPair) → IsNodeInside t.nodes t.edges p → ⊥
  pub crossing : (p : IdPair) → AreCrossing t.edges p → ⊥

-- the node at an end of an edge
record IsEndNode (t : Tables) (e : EdgeRow) (q : RationalPoint) : Type 0 where
  pub node : NodeRow
  pub listed : Contains t.nodes node
  pub at : IsAt node.geom q
  pub end : is_end_of node.node_id (drawn_edge e) ≡ true

end_node : (t : Tables) (e : EdgeRow) (q : RationalPoint) → AreSound t → Contains t.edges e → IsAtLineEnd q e.geom → IsEndNode t e q
end_node t e q sound c =
    ⊎_elim
    (λ (h : IsAt (first_vertex e.geom) q).
    let k = node_of t.nodes e.start_node (first_vertex e.geom) (sound.starts e c) in
    record { node = k.node; listed = k.listed; at = at_moved k.node.geom (first_vertex e.geom) q k.there h; end = or_left (e.start_node == k.node.node_id) (e.end_node == k.node.node_id) (eq-eqb e.start_node k.node.node_id (sym k.id)) })
    (λ (h : IsAt (last_vertex e.geom) q).
    let k = node_of t.nodes e.end_node (last_vertex e.geom) (sound.ends e c) in
    record { node = k.node; listed = k.listed; at = at_moved k.node.geom (last_vertex e.geom) q k.there h; end = or_right (e.start_node == k.node.node_id) (e.end_node == k.node.node_id) (eq-eqb e.end_node k.node.node_id (sym k.id)) })

at_end_or_not : (q : RationalPoint) (e : EdgeRow) → IsAtLineEnd q e.geom ⊎ (IsAtLineEnd q e.geom → ⊥)
at_end_or_not q e =
    ⊎_elim
    (λ (h : IsAt (first_vertex e.geom) q). inl (inl h))
    (λ (n : IsAt (first_vertex e.geom) q → ⊥).
    ⊎_elim (λ (k : IsAt (last_vertex e.geom) q). inl (inr k)) (λ (m : IsAt (last_vertex e.geom) q → ⊥). inr (⊎_elim n m)) (at_or_not (last_vertex e.geom) q))
    (at_or_not (first_vertex e.geom) q)

both_ends : (a b : EdgeRow) (q : RationalPoint) → (Meets Inside a.geom b.geom → ⊥) → IsOnLine q a.geom → IsOnLine q b.geom → IsAtLineEnd q a.geom × IsAtLineEnd q b.geom
both_ends a b q none on also =
    ⊎_elim
    (λ (h : IsAtLineEnd q a.geom).
    ⊎_elim
    (λ (k : IsAtLineEnd q b.geom). (h, k))
    (λ (k : IsAtLineEnd q b.geom → ⊥). absurd (none (q, ((on, also), λ both. k both.1))))
    (at_end_or_not q b))
    (λ (h : IsAtLineEnd q a.geom → ⊥). absurd (none (q, ((on, also), λ both. h both.0))))
    (at_end_or_not q a)

apart_ends : (t : Tables) (a b : EdgeRow) (q : RationalPoint) → AreSound t → Contains t.edges a → Contains t.edges b → a.edge_id ≢ b.edge_id → IsOnLine q a.geom → IsOnLine q b.geom
    → IsAtLineEnd q a.geom × IsAtLineEnd q b.geom
apart_ends t a b q sound ca cb ne on also =
    ⊎_elim
    (λ (l : a.edge_id < b.edge_id). both_ends a b q (λ m. sound.crossing (record { first = a.edge_id; second = b.edge_id })
    (record { one = a; other = b; one_listed = ca; other_listed = cb; ids = refl; ordered = l; crossing = m })) on also)
    (λ (l : b.edge_id ≤ a.edge_id).
    let less = strictly a.edge_id b.edge_id l ne in
    let k = both_ends b a q (λ m. sound.crossing (record { first = b.edge_id; second = a.edge_id })
    (record { one = b; other = a; one_listed = cb; other_listed = ca; ids = refl; ordered = less; crossing = m })) also on in (k.1, k.0))
    (cases_lt a.edge_id b.edge_id)
  where
    strictly : (m n : ℕ) → n ≤ m → m ≢ n → n < m
    strictly m n l d = omega arith

record IsJoint (t : Tables) (e f : Edge) (q : RationalPoint) : Type 0 where
  pub node : NodeRow
  pub listed : Contains t.nodes node
  pub at : IsAt node.geom q
  pub ends : IsTrue (is_end_of node.node_id e && is_end_of node.node_id f)

joint : (t : Tables) (a b : EdgeRow) (q : RationalPoint) → AreSound t → Contains t.edges a → Contains t.edges b → a.edge_id ≢ b.edge_id → IsOnLine q a.geom → IsOnLine q b.geom
    → IsJoint t (drawn_edge a) (drawn_edge b) q
joint t a b q sound ca cb ne on also =
    let both = apart_ends t a b q sound ca cb ne on also in
    let n = end_node t a q sound ca both.0 in
    let m = end_node t b q sound cb both.1 in
    let same = one_node t.nodes m.node n.node q sound.nodes m.listed n.listed m.at n.at in
    record {
      node = n.node;
      listed = n.listed;
      at = n.at;
      ends = and_from (is_end_of n.node.node_id (drawn_edge a)) (is_end_of n.node.node_id (drawn_edge b)) n.end (subst (λ i. is_end_of i (drawn_edge b) ≡ true) same m.end);
    }

off_edge : (t : Tables) (n : NodeRow) (e : EdgeRow) → AreSound t → Contains t.nodes n → Contains t.edges e → IsOnLine (rational n.geom) e.geom → is_end_of n.node_id (drawn_edge e) ≡ true
off_edge t n e sound cn ce on =
    ⊎_elim
    (λ (h : IsAtLineEnd (rational n.geom) e.geom).
    let m = end_node t e (rational n.geom) sound ce h in
    subst (λ i. is_end_of i (drawn_edge e) ≡ true) (one_node t.nodes m.node n (rational n.geom) sound.nodes m.listed cn m.at (at_point n.geom)) m.end)
    (λ (h : IsAtLineEnd (rational n.geom) e.geom → ⊥).
    absurd (sound.inside (record { first = e.edge_id; second = n.node_id })
    (record { edge = e; node = n; edge_listed = ce; node_listed = cn; ids = refl; inside = (on, (λ k. h (inl k)), (λ k. h (inr k))) })))
    (at_end_or_not (rational n.geom) e)

fits : (t : Tables) (e : EdgeRow) → AreSound t → Contains t.edges e → is_between_nodes (drawn t) (drawn_edge e) ≡ true
fits t e sound c =
    let proper = list_all is_proper (segments_of e.geom) in
    let parts = and_parts proper (are_simple (first_vertex e.geom) (segments_of e.geom)) (sound.simple e c) in
    let start = draws_point (drawn t) e.start_node (first_vertex e.geom) in
    let end = draws_point (drawn t) e.end_node (last_vertex e.geom) in
    and_from (proper && start) end
    (and_from proper start parts.0 (drawn_point t.nodes e.start_node (first_vertex e.geom) (sound.starts e c)))
    (drawn_point t.nodes e.end_node (last_vertex e.geom) (sound.ends e c))

-- ---- the drawing
of_row : (t : Tables) (P : Edge → Type 0) → ((e : EdgeRow) → Contains t.edges e → P (drawn_edge e)) → (e : Edge) → Contains ((drawn t).edges) e → P e
of_row t P h e c = let r = contains-mapped drawn_edge e t.edges c in subst P r.1.1 (h r.0 r.1.0)

plain_of : (t : Tables) → IsTrue (numbers_ascend node_id_of 0 t.nodes) → AreSound t → IsPlain (drawn t)
plain_of t up sound = record {
  nodes_apart = nodes_apart 0 t.nodes up sound.nodes;
  lines_fit = all_by (is_between_nodes (drawn t)) ((drawn t).edges) (of_row t (λ (e : Edge). is_between_nodes (drawn t) e ≡ true) (λ e c. fits t e sound c));
  lines_simple = of_row t (λ (e : Edge). IsSimpleLine (segments_of e.geom)) (λ e c. ((Decides-simple e.geom).0 (sound.simple e c)).1);
  edges_meet_at_nodes = λ e f q ce cf ne on also.
      let a = contains-mapped drawn_edge e t.edges ce in
      let b = contains-mapped drawn_edge f t.edges cf in
      let apart : a.0.edge_id ≢ b.0.edge_id = λ k. ne (ap (λ (x : Edge). x.edge_id) (sym a.1.1) ∙ k ∙ ap (λ (x : Edge). x.edge_id) b.1.1) in
      let k = joint t a.0 b.0 q sound a.1.0 b.1.0 apart (subst (λ (x : Edge). IsOnLine q x.geom) (sym a.1.1) on) (subst (λ (x : Edge). IsOnLine q x.geom) (sym b.1.1) also) in
      let k' = subst (λ (x : Edge). IsJoint t x f q) a.1.1 (subst (λ (x : Edge). IsJoint t (drawn_edge a.0) x q) b.1.1 k) in (k'.node, (k'.listed, k'.at, k'.ends));
  nodes_off_edges = λ n e cn ce. of_row t (λ (x : Edge). IsOnLine (rational n.geom) x.geom → is_end_of n.node_id x ≡ true) (λ r c on. off_edge t n r sound cn c on) e ce;
}

none_in : (xs : List IdPair) (p : IdPair) → xs ≡ [] → Contains xs p → ⊥
none_in xs p e c = contains_none p (subst (λ (ys : List IdPair). Contains ys p) e c)

sound_of : (t : Tables) → HasPlainLines t [] → AreSound t
sound_of t h =
    let starts = starts_mismatched t.nodes t.edges in
    let ends = ends_mismatched t.nodes t.edges in
    let simple = not_simple t.edges in
    let middle = starts ++ ends ++ simple in
    let first = map coincident h.nodes in
    let third = map crossed_node h.inside in
    let fourth = map crossed_edge h.edges in
    let upto_third = first_none (first ++ middle ++ third) fourth h.all in
    let no_edges = map_none crossed_edge h.edges (sym (second_none (first ++ middle ++ third) fourth h.all)) in
    let upto_middle = first_none (first ++ middle) third (sym upto_third) in
    let no_inside = map_none crossed_node h.inside (sym (second_none (first ++ middle) third (sym upto_third))) in
    let no_nodes = map_none coincident h.nodes (first_none first middle (sym upto_middle)) in
    let no_middle = second_none first middle (sym upto_middle) in
    let upto_ends = first_none (starts ++ ends) simple no_middle in
    let no_simple = sym (second_none (starts ++ ends) simple no_middle) in
    let no_starts = first_none starts ends (sym upto_ends) in
    let no_ends = sym (second_none starts ends (sym upto_ends)) in
    record {
      nodes = λ a b ca cb l same.
          none_in h.nodes (record { first = a.node_id; second = b.node_id }) no_nodes
          (h.nodes_are.all (record { first = a.node_id; second = b.node_id }) (record { one = a; other = b; one_listed = ca; other_listed = cb; ids = refl; ordered = l; same = same }));
      starts = each_true (λ (e : EdgeRow). has_point t.nodes e.start_node (first_vertex e.geom)) (λ (e : EdgeRow). EdgeStartMismatch e.edge_id e.start_node) t.edges no_starts;
      ends = each_true (λ (e : EdgeRow). has_point t.nodes e.end_node (last_vertex e.geom)) (λ (e : EdgeRow). EdgeEndMismatch e.edge_id e.end_node) t.edges no_ends;
      simple = each_true (λ (e : EdgeRow). is_simple e.geom) (λ (e : EdgeRow). EdgeNotSimple e.edge_id) t.edges no_simple;
      inside = λ p k. none_in h.inside p no_inside (h.inside_are.all p k);
      crossing = λ p k. none_in h.edges p no_edges (h.edges_are.all p k);
    }

pub plain_drawing : (t : Tables) → IsTrue (numbers_ascend node_id_of 0 t.nodes) → HasPlainLines t [] → IsPlain (drawn t)
plain_drawing t up h = plain_of t up (sound_of t h)
