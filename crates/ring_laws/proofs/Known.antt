-- Faces that are listed, and nodes that have a containing face exactly where they have no edge.
use Rattle.std.proofs.Common.{◌≡◌, ℕ, refl, sym, ◌∙◌, ap, subst, ◌⊎◌, inl, inr, ⊎_elim, Bool, true, false, not, cond, ◌&&◌, ◌==◌, List, [], ◌∷◌, ◌++◌, Option, Some, None, unwrap_or}
use Rattle.std.specs.Prelude.{filter}
use Rattle.std.specs.List.{Contains, find, list_all, list_any}
use Rattle.std.proofs.lemmas.Bool.{and_parts, and_from, or_left, or_right, eqb-true, eq-eqb, false≢true, false_from_ne_true}
use Rattle.std.proofs.lemmas.List.Elements.{All-contains}
use Rattle.std.proofs.lemmas.List.Folds.{list_any-append}
use Rattle.topo_base.specs.declared.rows.NodeRow.{NodeRow}
use Rattle.plane.specs.Direction.{Direction}
use Rattle.drawing.specs.Drawing.{Drawing, Edge, node_id_of, has_node, has_face, is_end_of, is_isolated}
use Rattle.drawing.specs.Faces.{face_after, wedge_face}
use Rattle.drawing.specs.HalfEdge.{HalfEdge, forward_of, backward_of, half_edges, leaves}
use Rattle.drawing.specs.IsoEdits.{put_in_face}
use Rattle.drawing.specs.Star.{last_clockwise}
use Rattle.drawing.specs.Subdivision.{is_edge_known, is_face_known, is_node_known}
use Rattle.plane.proofs.LineTests.{all_from}
use Rattle.plane.proofs.ListTests.{Some_of, Decides-any, Decides-all}
use Rattle.drawing.proofs.Members.{contains-mapped, contains-filter, contains-filtered, contains-found}
use Rattle.edit_changes.proofs.PlainStaying.{alone}
use Rattle.face_rings.proofs.HalfLines.{HasPlainLines}
use Rattle.face_rings.proofs.HalvesApart.{half_of}
use Rattle.ring_laws.proofs.Inserting.{NoneLeaves, farthest_is}
use Rattle.ring_laws.proofs.Turning.{same_test}
use Rattle.ring_laws.proofs.WithEdge.{IsLoneIfContained}
use Rattle.ring_laws.proofs.WithoutEdge.{leaves_end}

-- ---- tests over lists
pub any_in : {X : Type 0} (p : X → Bool) (xs : List X) (x : X) → Contains xs x → p x ≡ true → list_any p xs ≡ true
any_in p xs x c t = (Decides-any p (λ y. p y ≡ true) (λ y. (λ u. u, λ u. u)) xs).1 (x, (c, t))

pub any_out : {X : Type 0} (p : X → Bool) (xs : List X) → list_any p xs ≡ true → Some_of (λ y. p y ≡ true) xs
any_out p xs t = (Decides-any p (λ y. p y ≡ true) (λ y. (λ u. u, λ u. u)) xs).0 t

pub any_more : {X : Type 0} (p : X → Bool) (xs ys : List X) → list_any p xs ≡ true → list_any p (xs ++ ys) ≡ true
any_more p xs ys h = list_any-append p xs ys ∙ or_left (list_any p xs) (list_any p ys) h

pub any_behind : {X : Type 0} (p : X → Bool) (xs ys : List X) → list_any p ys ≡ true → list_any p (xs ++ ys) ≡ true
any_behind p xs ys h = list_any-append p xs ys ∙ or_right (list_any p xs) (list_any p ys) h

pub any_filtered : {X : Type 0} (p q : X → Bool) (xs : List X) → ((x : X) → p x ≡ true → q x ≡ true) → list_any p xs ≡ true → list_any p (filter q xs) ≡ true
any_filtered p q xs each h = let s = any_out p xs h in any_in p (filter q xs) s.0 (contains-filter q s.0 xs s.1.0 (each s.0 s.1.1)) s.1.1

pub all_in : {X : Type 0} (p : X → Bool) (xs : List X) → ((x : X) → Contains xs x → p x ≡ true) → list_all p xs ≡ true
all_in p xs each = (Decides-all p (λ y. p y ≡ true) (λ y. (λ u. u, λ u. u)) xs).1 (all_from (λ y. p y ≡ true) xs each)

pub all_out : {X : Type 0} (p : X → Bool) (xs : List X) (x : X) → list_all p xs ≡ true → Contains xs x → p x ≡ true
all_out p xs x t c = All-contains (λ y. p y ≡ true) xs x ((Decides-all p (λ y. p y ≡ true) (λ y. (λ u. u, λ u. u)) xs).0 t) c

pub any_same : {X Y : Type 0} (p : X → Bool) (q : Y → Bool) (xs : List X) (ys : List Y) → ((x : X) → Contains xs x → p x ≡ true → list_any q ys ≡ true) → ((y : Y) → Contains ys y → q y ≡ true → list_any p xs ≡ true) → list_any p xs ≡ list_any q ys
any_same p q xs ys on back =
    same_test (list_any p xs) (list_any q ys) (λ t. let s = any_out p xs t in on s.0 s.1.0 s.1.1) (λ t. let s = any_out q ys t in back s.0 s.1.0 s.1.1)

-- ---- what is known of a drawing
pub record IsKnown (T : Drawing) : Type 0 where
  pub universe : has_face T 0 ≡ true
  pub sides : (e : Edge) → Contains T.edges e → (has_face T e.left_face ≡ true) × (has_face T e.right_face ≡ true)
  pub nodes : (n : NodeRow) → Contains T.nodes n → is_node_known T n ≡ true

pub known_of : (T : Drawing) → has_face T 0 ≡ true → list_all (is_edge_known T) T.edges ≡ true → list_all (is_node_known T) T.nodes ≡ true → IsKnown T
known_of T zero edges nodes = record {
  universe = zero;
  sides = λ e c.
      let all = and_parts (has_node T e.start_node && has_node T e.end_node && has_face T e.left_face) (has_face T e.right_face) (all_out (is_edge_known T) T.edges e edges c) in
      let front = and_parts (has_node T e.start_node && has_node T e.end_node) (has_face T e.left_face) all.0 in
      (front.1, all.1);
  nodes = λ n c. all_out (is_node_known T) T.nodes n nodes c;
}

node_there : (T : Drawing) (n : ℕ) → Some_of (λ (row : NodeRow). row.node_id ≡ n) T.nodes → has_node T n ≡ true
node_there T n (row, (c, is)) = any_in (λ (r : NodeRow). node_id_of r == n) T.nodes row c (eq-eqb (node_id_of row) n is)

pub edges_known : (T : Drawing) → HasPlainLines T → IsKnown T → list_all (is_edge_known T) T.edges ≡ true
edges_known T good known = all_in (is_edge_known T) T.edges (λ e c.
    let fit = good.plain.fit e c in
    let (row, (cr, (is, at))) = fit.starts in
    let (end, (ce, (ends, there))) = fit.ends in
    let faces = known.sides e c in
    and_from (has_node T e.start_node && has_node T e.end_node && has_face T e.left_face) (has_face T e.right_face)
    (and_from (has_node T e.start_node && has_node T e.end_node) (has_face T e.left_face)
    (and_from (has_node T e.start_node) (has_node T e.end_node) (node_there T e.start_node (row, (cr, is))) (node_there T e.end_node (end, (ce, ends)))) faces.0) faces.1)

pub nodes_known : (T : Drawing) → IsKnown T → list_all (is_node_known T) T.nodes ≡ true
nodes_known T known = all_in (is_node_known T) T.nodes known.nodes

-- ---- isolated nodes
pub isolated_if : (T : Drawing) (n : ℕ) → ((e : Edge) → Contains T.edges e → is_end_of n e ≡ true → ⊥) → is_isolated T n ≡ true
isolated_if T n none = ap not (false_from_ne_true (list_any (is_end_of n) T.edges) (λ t. let s = any_out (is_end_of n) T.edges t in none s.0 s.1.0 s.1.1))

pub not_isolated : (T : Drawing) (n : ℕ) (e : Edge) → Contains T.edges e → is_end_of n e ≡ true → is_isolated T n ≡ false
not_isolated T n e c t = ap not (any_in (is_end_of n) T.edges e c t)

pub none_ends : (T : Drawing) (n : ℕ) → is_isolated T n ≡ true → (e : Edge) → Contains T.edges e → is_end_of n e ≡ true → ⊥
none_ends T n lone e c t = alone T n lone e c t

pub none_leaves : (T : Drawing) (n : ℕ) → is_isolated T n ≡ true → NoneLeaves (half_edges T) n
none_leaves T n lone k c from =
    let r = half_of T.edges k c in
    none_ends T n lone r.edge r.there (subst (λ m. is_end_of m r.edge ≡ true) from (leaves_end T.edges k r))

-- ---- containing faces
pub known_kept : (S T : Drawing) (c : Option ℕ) (i j : Bool) → i ≡ j → ((f : ℕ) → has_face S f ≡ true → has_face T f ≡ true) → is_face_known S c i ≡ true → is_face_known T c j ≡ true
known_kept S T None i j e keeps h = ap not (sym e) ∙ h
known_kept S T (Some f) i j e keeps h = let both = and_parts i (has_face S f) h in and_from j (has_face T f) (sym e ∙ both.0) (keeps f both.1)

lone_by : (S : Drawing) (n : ℕ) (c : Option ℕ) → is_face_known S c (is_isolated S n) ≡ true → (c ≡ None) ⊎ NoneLeaves (half_edges S) n
lone_by S n None h = inl refl
lone_by S n (Some f) h = inr (none_leaves S n (and_parts (is_isolated S n) (has_face S f) h).0)

pub lone_of : (S : Drawing) (n : NodeRow) → IsKnown S → Contains S.nodes n → IsLoneIfContained S n
lone_of S n known c = lone_by S n.node_id n.containing_face (known.nodes n c)

contained_by : (S : Drawing) (c : Option ℕ) (i : Bool) (other : ℕ) → is_face_known S c i ≡ true → has_face S other ≡ true → has_face S (unwrap_or c other) ≡ true
contained_by S None i other h k = k
contained_by S (Some f) i other h k = (and_parts i (has_face S f) h).1

pub contained : (S : Drawing) (n : NodeRow) (other : ℕ) → IsKnown S → Contains S.nodes n → has_face S other ≡ true → has_face S (unwrap_or n.containing_face other) ≡ true
contained S n other known c h = contained_by S n.containing_face (is_isolated S n.node_id) other (known.nodes n c) h

-- the face of a line at a node is listed
right_listed : (S : Drawing) (h : HalfEdge) → IsKnown S → Contains (half_edges S) h → has_face S h.on_right ≡ true
right_listed S h known c =
    let r = half_of S.edges h c in
    let faces = known.sides r.edge r.there in
    ⊎_elim (λ (p : forward_of r.edge ≡ h). subst (λ (x : HalfEdge). has_face S x.on_right ≡ true) p faces.1) (λ (p : backward_of r.edge ≡ h). subst (λ (x : HalfEdge). has_face S x.on_right ≡ true) p faces.0) r.way

after_listed : (S : Drawing) (r : Direction) (ks : List HalfEdge) → IsKnown S → ((k : HalfEdge) → Contains ks k → Contains (half_edges S) k) → has_face S (face_after (last_clockwise r ks)) ≡ true
after_listed S r [] known into = known.universe
after_listed S r (k ∷ ks) known into = right_listed S _ known (into _ (farthest_is r k ks).there)

pub wedge_listed : (S : Drawing) (n : NodeRow) (r : Direction) → IsKnown S → Contains S.nodes n → has_face S (wedge_face S n r) ≡ true
wedge_listed S n r known c =
    contained S n (face_after (last_clockwise r (filter (leaves n.node_id) (half_edges S)))) known c
    (after_listed S r (filter (leaves n.node_id) (half_edges S)) known (λ k d. (contains-filtered (leaves n.node_id) k (half_edges S) d).0))

-- the face that was found is listed
found_by : (q : ℕ → Bool) (faces : List ℕ) (o : Option ℕ) → find q faces ≡ o → list_any (λ g. g == 0) faces ≡ true → list_any (λ g. g == unwrap_or o 0) faces ≡ true
found_by q faces None e zero = zero
found_by q faces (Some f) e zero = any_in (λ g. g == f) faces f (contains-found q f faces e).0 (eq-eqb f f refl)

pub found_listed : (q : ℕ → Bool) (faces : List ℕ) → list_any (λ g. g == 0) faces ≡ true → list_any (λ g. g == unwrap_or (find q faces) 0) faces ≡ true
found_listed q faces zero = found_by q faces (find q faces) refl zero

-- ---- nodes whose containing face was set
record IsPut (face : Option ℕ) (m : ℕ) (nodes : List NodeRow) (n : NodeRow) : Type 0 where
  row : NodeRow
  there : Contains nodes row
  is : ((n.containing_face ≡ face) × (n.node_id ≡ m)) ⊎ ((n ≡ row) × (n.node_id ≡ m → ⊥))

put_is : (face : Option ℕ) (m : ℕ) (nodes : List NodeRow) (n : NodeRow) → Contains (put_in_face face m nodes) n → IsPut face m nodes n
put_is face m nodes n c =
    let (r, (d, p)) = contains-mapped (λ (r : NodeRow). cond (node_id_of r == m) (record r { containing_face = face }) r) n nodes c in
    by_test r d (node_id_of r == m) refl p
  where
    by_test : (r : NodeRow) → Contains nodes r → (t : Bool) → (node_id_of r == m) ≡ t → cond t (record r { containing_face = face }) r ≡ n → IsPut face m nodes n
    by_test r d true e p = record { row = r; there = d; is = inl (ap (λ (x : NodeRow). x.containing_face) (sym p), ap (λ (x : NodeRow). x.node_id) (sym p) ∙ eqb-true r.node_id m e) }
    by_test r d false e p = record { row = r; there = d; is = inr (sym p, λ same. false≢true (sym e ∙ eq-eqb r.node_id m (ap (λ (x : NodeRow). x.node_id) p ∙ same))) }

pub record IsPutTwice (face : Option ℕ) (a b : ℕ) (nodes : List NodeRow) (n : NodeRow) : Type 0 where
  pub row : NodeRow
  pub there : Contains nodes row
  pub is : ((n.containing_face ≡ face) × ((n.node_id ≡ a) ⊎ (n.node_id ≡ b))) ⊎ ((n ≡ row) × (n.node_id ≡ a → ⊥) × (n.node_id ≡ b → ⊥))

pub put_twice : (face : Option ℕ) (a b : ℕ) (nodes : List NodeRow) (n : NodeRow) → Contains (put_in_face face a (put_in_face face b nodes)) n → IsPutTwice face a b nodes n
put_twice face a b nodes n c = by_outer (put_is face a (put_in_face face b nodes) n c)
  where
    by_inner : (row : NodeRow) → n ≡ row → (n.node_id ≡ a → ⊥) → IsPut face b nodes row → IsPutTwice face a b nodes n
    by_inner row same far i =
        ⊎_elim
        (λ (p : (row.containing_face ≡ face) × (row.node_id ≡ b)). record { row = i.row; there = i.there; is = inl (ap (λ (x : NodeRow). x.containing_face) same ∙ p.0, inr (ap (λ (x : NodeRow). x.node_id) same ∙ p.1)) })
        (λ (p : (row ≡ i.row) × (row.node_id ≡ b → ⊥)). record { row = i.row; there = i.there; is = inr (same ∙ p.0, far, λ e. p.1 (ap (λ (x : NodeRow). x.node_id) (sym same) ∙ e)) })
        i.is

    by_outer : IsPut face a (put_in_face face b nodes) n → IsPutTwice face a b nodes n
    by_outer o =
        let i = put_is face b nodes o.row o.there in
        ⊎_elim
        (λ (p : (n.containing_face ≡ face) × (n.node_id ≡ a)). record { row = i.row; there = i.there; is = inl (p.0, inl p.1) })
        (λ (p : (n ≡ o.row) × (n.node_id ≡ a → ⊥)). by_inner o.row p.0 p.1 i)
        o.is
