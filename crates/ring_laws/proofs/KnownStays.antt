-- Faces and nodes stay known where nodes and edges come and go, and where a face is divided.
use Rattle.std.proofs.Common.{◌≡◌, ◌≢◌, ℕ, ◌+◌, refl, sym, ◌∙◌, ap, subst, arith, ne_eqb, ◌⊎◌, inl, inr, ⊎_elim, Bool, true, false, not, cond, ◌&&◌, ◌==◌, nat_eq, List, [], ◌∷◌, ◌++◌, filter, Option, Some, None}
use Rattle.std.specs.Option.{option_eq}
use Rattle.std.specs.List.{Contains, list_any}
use Rattle.std.proofs.lemmas.Bool.{and_parts, and_from, cond_both, or_cases, or_left, or_right, eqb-true, eq-eqb, false≢true}
use Rattle.std.proofs.lemmas.List.Elements.{Contains-push_cases, Contains-push, Contains-append_left}
use Rattle.topo_base.specs.Point.{Point}
use Rattle.topo_base.specs.declared.rows.NodeRow.{NodeRow}
use Rattle.drawing.specs.AddEdge.{Division, coming, part_at, divided_side, divided_edge, divided_node, divided, keeps_left, one_new, two_new}
use Rattle.drawing.specs.Drawing.{Drawing, Edge, node_id_of, edge_id_of, has_face, is_end_of, is_isolated}
use Rattle.drawing.specs.Faces.{face_at, is_in_face}
use Rattle.drawing.specs.HalfEdge.{HalfEdge, forward_of, backward_of, half_edges}
use Rattle.drawing.specs.IsoEdits.{with_node, with_edge, put_in_face, put_at}
use Rattle.drawing.specs.PlainInOrder.{IsPlainInOrder}
use Rattle.drawing.specs.Ring.{ring_of, contains_half_edge, least_vertex}
use Rattle.drawing.specs.Rows.{without_row}
use Rattle.drawing.specs.Subdivision.{is_face_known, is_node_known}
use Rattle.drawing.proofs.Members.{contains-map, contains-mapped, contains-filtered, ids_within}
use Rattle.face_rings.proofs.HalfLines.{HasPlainLines}
use Rattle.face_rings.proofs.HalvesApart.{one_edge}
use Rattle.face_rings.proofs.Ranks.{by_bool}
use Rattle.ring_laws.proofs.Known.{any_in, any_more, any_behind, any_filtered, any_same, IsKnown, isolated_if, not_isolated, known_kept, found_listed, IsPutTwice, put_twice}
use Rattle.ring_laws.proofs.WithoutEdge.{IsAlone, kept_edge, was_edge}

-- ---- nodes
pub end_is : (n : ℕ) (e : Edge) → is_end_of n e ≡ true → (e.start_node ≡ n) ⊎ (e.end_node ≡ n)
end_is n e t = ⊎_elim (λ (p : (e.start_node == n) ≡ true). inl (eqb-true e.start_node n p)) (λ (p : (e.end_node == n) ≡ true). inr (eqb-true e.end_node n p)) (or_cases (e.start_node == n) (e.end_node == n) t)

-- no edge has an end at a node that comes
pub new_isolated : (S : Drawing) → IsPlainInOrder S → HasPlainLines S → is_isolated S S.next_ids.node ≡ true
new_isolated S ordered good = isolated_if S S.next_ids.node none
  where
    old : (n : ℕ) (row : NodeRow) → Contains S.nodes row → row.node_id ≡ n → n ≡ S.next_ids.node → ⊥
    old n row c is new = let below = (ids_within node_id_of 0 S.next_ids.node S.nodes row (record { test = ordered.node_ids }) c).1 in omega arith

    none : (e : Edge) → Contains S.edges e → is_end_of S.next_ids.node e ≡ true → ⊥
    none e c t =
        let fit = good.plain.fit e c in
        let (row, (cr, (is, at))) = fit.starts in
        let (end, (ce, (ends, there))) = fit.ends in
        ⊎_elim (λ (p : e.start_node ≡ S.next_ids.node). old e.start_node row cr is p) (λ (p : e.end_node ≡ S.next_ids.node). old e.end_node end ce ends p) (end_is S.next_ids.node e t)

pub node_comes : (S : Drawing) (face : ℕ) (p : Point) → face_at S p ≡ face → IsPlainInOrder S → HasPlainLines S → IsKnown S → IsKnown (with_node S (Some face) p)
node_comes S face p lies ordered good known =
    let T = with_node S (Some face) p in
    let new : NodeRow = record { node_id = S.next_ids.node; containing_face = Some face; geom = p } in
    let listed = subst (λ f. has_face S f ≡ true) lies (found_listed (λ f. not (f == 0) && is_in_face S f p) S.faces known.universe) in
    record {
      universe = known.universe;
      sides = known.sides;
      nodes = λ n c. ⊎_elim
          (λ (d : Contains S.nodes n). known_kept S T n.containing_face (is_isolated S n.node_id) (is_isolated T n.node_id) refl (λ f t. t) (known.nodes n d))
          (λ (e : new ≡ n). subst (λ (x : NodeRow). is_node_known T x ≡ true) e (and_from (is_isolated S S.next_ids.node) (has_face S face) (new_isolated S ordered good) listed))
          (Contains-push_cases S.nodes new n c);
    }

pub node_moves : (S : Drawing) (m : ℕ) (p : Point) → IsKnown S → IsKnown (record S { nodes = put_at p m S.nodes })
node_moves S m p known =
    let T = record S { nodes = put_at p m S.nodes } in
    record {
      universe = known.universe;
      sides = known.sides;
      nodes = λ n c.
          let (r, (d, is)) = contains-mapped (λ (r : NodeRow). cond (node_id_of r == m) (record r { geom = p }) r) n S.nodes c in
          subst (λ (x : NodeRow). is_node_known T x ≡ true) is (by_test r (node_id_of r == m) (known.nodes r d));
    }
  where
    by_test : (r : NodeRow) (t : Bool) → is_node_known S r ≡ true → is_node_known (record S { nodes = put_at p m S.nodes }) (cond t (record r { geom = p }) r) ≡ true
    by_test r true h = known_kept S (record S { nodes = put_at p m S.nodes }) r.containing_face (is_isolated S r.node_id) (is_isolated S r.node_id) refl (λ f t. t) h
    by_test r false h = known_kept S (record S { nodes = put_at p m S.nodes }) r.containing_face (is_isolated S r.node_id) (is_isolated S r.node_id) refl (λ f t. t) h

pub node_goes : (S : Drawing) (m : ℕ) → IsKnown S → IsKnown (record S { nodes = without_row node_id_of S.nodes m })
node_goes S m known =
    let T = record S { nodes = without_row node_id_of S.nodes m } in
    record {
      universe = known.universe;
      sides = known.sides;
      nodes = λ n c. known_kept S T n.containing_face (is_isolated S n.node_id) (is_isolated S n.node_id) refl (λ f t. t)
          (known.nodes n (contains-filtered (λ (r : NodeRow). not (node_id_of r == m)) n S.nodes c).0);
    }

-- ---- an edge comes
pub edge_comes : (S : Drawing) (a b : NodeRow) (line : List Point) (f : ℕ) → IsKnown S → has_face S f ≡ true → IsKnown (with_edge S a b line f)
edge_comes S a b line f known listed = record {
  universe = known.universe;
  sides = λ e c. ⊎_elim (λ (d : Contains S.edges e). known.sides e d) (λ (p : coming S a b line f ≡ e). subst (λ (x : Edge). (has_face S x.left_face ≡ true) × (has_face S x.right_face ≡ true)) p (listed, listed)) (Contains-push_cases S.edges (coming S a b line f) e c);
  nodes = λ n c. by_put n (put_twice None a.node_id b.node_id S.nodes n c);
}
  where
    own : Contains ((with_edge S a b line f).edges) (coming S a b line f)
    own = Contains-push S.edges (coming S a b line f)

    no_end : (n : ℕ) → (n ≡ a.node_id → ⊥) → (n ≡ b.node_id → ⊥) → is_end_of n (coming S a b line f) ≡ true → ⊥
    no_end n far_a far_b t = ⊎_elim (λ (p : a.node_id ≡ n). far_a (sym p)) (λ (p : b.node_id ≡ n). far_b (sym p)) (end_is n (coming S a b line f) t)

    as_before : (n : ℕ) → (n ≡ a.node_id → ⊥) → (n ≡ b.node_id → ⊥) → is_isolated S n ≡ is_isolated (with_edge S a b line f) n
    as_before n far_a far_b = ap not (any_same (is_end_of n) (is_end_of n) S.edges ((with_edge S a b line f).edges)
        (λ e c t. any_in (is_end_of n) ((with_edge S a b line f).edges) e (Contains-append_left S.edges (coming S a b line f ∷ []) e c) t)
        (λ e c t. ⊎_elim (λ (d : Contains S.edges e). any_in (is_end_of n) S.edges e d t) (λ (p : coming S a b line f ≡ e). absurd (no_end n far_a far_b (subst (λ (x : Edge). is_end_of n x ≡ true) (sym p) t))) (Contains-push_cases S.edges (coming S a b line f) e c)))

    at_end : (n : ℕ) → (n ≡ a.node_id) ⊎ (n ≡ b.node_id) → is_end_of n (coming S a b line f) ≡ true
    at_end n ends = ⊎_elim (λ (p : n ≡ a.node_id). or_left (a.node_id == n) (b.node_id == n) (eq-eqb a.node_id n (sym p))) (λ (p : n ≡ b.node_id). or_right (a.node_id == n) (b.node_id == n) (eq-eqb b.node_id n (sym p))) ends

    by_put : (n : NodeRow) → IsPutTwice None a.node_id b.node_id S.nodes n → is_node_known (with_edge S a b line f) n ≡ true
    by_put n put =
        let T = with_edge S a b line f in
        ⊎_elim
        (λ (p : (n.containing_face ≡ None) × ((n.node_id ≡ a.node_id) ⊎ (n.node_id ≡ b.node_id))).
        ap (λ c. is_face_known T c (is_isolated T n.node_id)) p.0 ∙ ap not (not_isolated T n.node_id (coming S a b line f) own (at_end n.node_id p.1)))
        (λ (p : (n ≡ put.row) × (n.node_id ≡ a.node_id → ⊥) × (n.node_id ≡ b.node_id → ⊥)).
        known_kept S T n.containing_face (is_isolated S n.node_id) (is_isolated T n.node_id) (as_before n.node_id p.1 p.2) (λ g t. t)
        (subst (λ (x : NodeRow). is_node_known S x ≡ true) (sym p.0) (known.nodes put.row put.there)))
        put.is

-- ---- an isolated edge goes
abbrev pub without_edge : Drawing → Edge → Drawing
without_edge S e =
    record S {
      nodes = put_in_face (Some e.left_face) e.start_node (put_in_face (Some e.left_face) e.end_node S.nodes);
      edges = without_row edge_id_of S.edges e.edge_id;
    }

pub edge_goes : (S : Drawing) (e : Edge) → HasPlainLines S → Contains S.edges e → IsAlone S e → IsKnown S → IsKnown (without_edge S e)
edge_goes S e good ce alone known = record {
  universe = known.universe;
  sides = λ x c. known.sides x (was_edge S.edges e x c).0;
  nodes = λ n c. by_put n (put_twice (Some e.left_face) e.start_node e.end_node S.nodes n c);
}
  where
    lone : (n : ℕ) → (n ≡ e.start_node) ⊎ (n ≡ e.end_node) → is_isolated (without_edge S e) n ≡ true
    lone n ends = isolated_if (without_edge S e) n (λ x c t.
        let was = was_edge S.edges e x c in
        ⊎_elim (λ (p : n ≡ e.start_node). alone.at_start x was.0 was.1 (subst (λ m. is_end_of m x ≡ true) p t)) (λ (p : n ≡ e.end_node). alone.at_end x was.0 was.1 (subst (λ m. is_end_of m x ≡ true) p t)) ends)

    no_end : (n : ℕ) → (n ≡ e.start_node → ⊥) → (n ≡ e.end_node → ⊥) → is_end_of n e ≡ true → ⊥
    no_end n far_start far_end t = ⊎_elim (λ (p : e.start_node ≡ n). far_start (sym p)) (λ (p : e.end_node ≡ n). far_end (sym p)) (end_is n e t)

    as_before : (n : ℕ) → (n ≡ e.start_node → ⊥) → (n ≡ e.end_node → ⊥) → is_isolated S n ≡ is_isolated (without_edge S e) n
    as_before n far_start far_end = ap not (any_same (is_end_of n) (is_end_of n) S.edges ((without_edge S e).edges)
        (λ x c t. ⊎_elim
        (λ (p : (x.edge_id == e.edge_id) ≡ true). absurd (no_end n far_start far_end (subst (λ (y : Edge). is_end_of n y ≡ true) (one_edge S x e good c ce (eqb-true x.edge_id e.edge_id p)) t)))
        (λ (p : (x.edge_id == e.edge_id) ≡ false). any_in (is_end_of n) ((without_edge S e).edges) x (kept_edge S.edges e x c (λ q. false≢true (sym p ∙ eq-eqb x.edge_id e.edge_id q))) t)
        (by_bool (x.edge_id == e.edge_id)))
        (λ x c t. any_in (is_end_of n) S.edges x (was_edge S.edges e x c).0 t))

    by_put : (n : NodeRow) → IsPutTwice (Some e.left_face) e.start_node e.end_node S.nodes n → is_node_known (without_edge S e) n ≡ true
    by_put n put =
        let T = without_edge S e in
        ⊎_elim
        (λ (p : (n.containing_face ≡ Some e.left_face) × ((n.node_id ≡ e.start_node) ⊎ (n.node_id ≡ e.end_node))).
        ap (λ c. is_face_known T c (is_isolated T n.node_id)) p.0 ∙ and_from (is_isolated T n.node_id) (has_face T e.left_face) (lone n.node_id p.1) (known.sides e ce).0)
        (λ (p : (n ≡ put.row) × (n.node_id ≡ e.start_node → ⊥) × (n.node_id ≡ e.end_node → ⊥)).
        known_kept S T n.containing_face (is_isolated S n.node_id) (is_isolated T n.node_id) (as_before n.node_id p.1 p.2) (λ g t. t)
        (subst (λ (x : NodeRow). is_node_known S x ≡ true) (sym p.0) (known.nodes put.row put.there)))
        put.is

-- ---- a face is divided
abbrev pub is_listed : List ℕ → ℕ → Bool
is_listed faces f = list_any (λ g. g == f) faces

-- the other faces stay listed, and the parts and face 0 are listed
pub record AreParts (T : Drawing) (d : Division) (faces : List ℕ) : Type 0 where
  pub zero : is_listed faces 0 ≡ true
  pub others : (g : ℕ) → has_face T g ≡ true → (g == d.face) ≡ false → is_listed faces g ≡ true
  pub left : is_listed faces d.left_part ≡ true
  pub right : is_listed faces d.right_part ≡ true

part_listed : (d : Division) (faces : List ℕ) (p : Point) → is_listed faces d.left_part ≡ true → is_listed faces d.right_part ≡ true → (t : Bool) → is_listed faces (cond t d.left_part d.right_part) ≡ true
part_listed d faces p l r true = l
part_listed d faces p l r false = r

side_listed : (T : Drawing) (d : Division) (faces : List ℕ) (g : ℕ) (h : HalfEdge) → AreParts T d faces → has_face T g ≡ true → is_listed faces (divided_side d (half_edges T) g h) ≡ true
side_listed T d faces g h parts there = by_test (g == d.face) refl (contains_half_edge d.left_ring h) (contains_half_edge d.right_ring h)
  where
    at : (p : Point) → is_listed faces (part_at d p) ≡ true
    at p = part_listed d faces p parts.left parts.right _

    by_test : (t : Bool) → (g == d.face) ≡ t → (l r : Bool) → is_listed faces (cond t (cond l d.left_part (cond r d.right_part (part_at d (least_vertex (ring_of (half_edges T) h))))) g) ≡ true
    by_test true e true r = parts.left
    by_test true e false true = parts.right
    by_test true e false false = at (least_vertex (ring_of (half_edges T) h))
    by_test false e l r = parts.others g there e

-- a node keeps its containing face, where that isn't the divided one
contained_lone : (T : Drawing) (c : Option ℕ) (f : ℕ) (i : Bool) → option_eq nat_eq c (Some f) ≡ true → is_face_known T c i ≡ true → i ≡ true
contained_lone T None f i e h = absurd (false≢true e)
contained_lone T (Some g) f i e h = (and_parts i (has_face T g) h).0

other_kept : (T U : Drawing) (c : Option ℕ) (f : ℕ) (i j : Bool) → i ≡ j → ((g : ℕ) → has_face T g ≡ true → (g == f) ≡ false → has_face U g ≡ true) → option_eq nat_eq c (Some f) ≡ false → is_face_known T c i ≡ true → is_face_known U c j ≡ true
other_kept T U None f i j same keeps e h = ap not (sym same) ∙ h
other_kept T U (Some g) f i j same keeps e h = let both = and_parts i (has_face T g) h in and_from j (has_face U g) (sym same ∙ both.0) (keeps g both.1 e)

pub face_divides : (T : Drawing) (d : Division) (faces : List ℕ) (new : ℕ) → AreParts T d faces → IsKnown T → IsKnown (divided T d faces new)
face_divides T d faces new parts known = record {
  universe = parts.zero;
  sides = λ x c.
      let (e, (ce, is)) = contains-mapped (divided_edge d (half_edges T)) x T.edges c in
      let was = known.sides e ce in
      subst (λ (y : Edge). (is_listed faces y.left_face ≡ true) × (is_listed faces y.right_face ≡ true)) is
      (side_listed T d faces e.left_face (forward_of e) parts was.0, side_listed T d faces e.right_face (backward_of e) parts was.1);
  nodes = λ n c.
      let (r, (cr, is)) = contains-mapped (divided_node d) n T.nodes c in
      subst (λ (x : NodeRow). is_node_known (divided T d faces new) x ≡ true) is (by_test r (option_eq nat_eq r.containing_face (Some d.face)) refl (known.nodes r cr));
}
  where
    as_before : (n : ℕ) → is_isolated T n ≡ is_isolated (divided T d faces new) n
    as_before n = ap not (any_same (is_end_of n) (is_end_of n) T.edges ((divided T d faces new).edges)
        (λ e c t. any_in (is_end_of n) ((divided T d faces new).edges) (divided_edge d (half_edges T) e) (contains-map (divided_edge d (half_edges T)) e T.edges c) t)
        (λ x c t. let (e, (ce, is)) = contains-mapped (divided_edge d (half_edges T)) x T.edges c in any_in (is_end_of n) T.edges e ce (subst (λ (y : Edge). is_end_of n y ≡ true) (sym is) t)))

    by_test : (r : NodeRow) (t : Bool) → option_eq nat_eq r.containing_face (Some d.face) ≡ t → is_node_known T r ≡ true → is_node_known (divided T d faces new) (cond t (record r { containing_face = Some (part_at d r.geom) }) r) ≡ true
    by_test r true e h =
        and_from (is_isolated (divided T d faces new) r.node_id) (is_listed faces (part_at d r.geom)) (sym (as_before r.node_id) ∙ contained_lone T r.containing_face d.face (is_isolated T r.node_id) e h)
        (part_listed d faces r.geom parts.left parts.right _)
    by_test r false e h = other_kept T (divided T d faces new) r.containing_face d.face (is_isolated T r.node_id) (is_isolated (divided T d faces new) r.node_id) (as_before r.node_id) parts.others e h

-- with one new face, and with two
pub one_listed : (T : Drawing) (f : ℕ) (left right : List HalfEdge) → has_face T 0 ≡ true → has_face T f ≡ true → AreParts T (one_new T f left right) (T.faces ++ T.next_ids.face ∷ [])
one_listed T f left right zero there = record {
  zero = stays 0 zero;
  others = λ g t e. stays g t;
  left = cond_both (keeps_left f left) f T.next_ids.face (λ g. is_listed (T.faces ++ T.next_ids.face ∷ []) g ≡ true) (λ _. stays f there) (λ _. new);
  right = cond_both (keeps_left f left) T.next_ids.face f (λ g. is_listed (T.faces ++ T.next_ids.face ∷ []) g ≡ true) (λ _. new) (λ _. stays f there);
}
  where
    stays : (g : ℕ) → has_face T g ≡ true → is_listed (T.faces ++ T.next_ids.face ∷ []) g ≡ true
    stays g t = any_more (λ x. x == g) T.faces (T.next_ids.face ∷ []) t

    new : is_listed (T.faces ++ T.next_ids.face ∷ []) T.next_ids.face ≡ true
    new = any_behind (λ x. x == T.next_ids.face) T.faces (T.next_ids.face ∷ []) (or_left (T.next_ids.face == T.next_ids.face) false (eq-eqb T.next_ids.face T.next_ids.face refl))

pub two_listed : (T : Drawing) (f : ℕ) (left right : List HalfEdge) → has_face T 0 ≡ true → f ≢ 0 → AreParts T (two_new T f left right) (filter (λ g. not (g == f)) T.faces ++ T.next_ids.face ∷ (T.next_ids.face + 1) ∷ [])
two_listed T f left right zero some = record {
  zero = kept 0 zero (ne_eqb 0 f (λ e. some (sym e)));
  others = λ g t e. kept g t e;
  left = new T.next_ids.face (or_left (T.next_ids.face == T.next_ids.face) _ (eq-eqb T.next_ids.face T.next_ids.face refl));
  right = new (T.next_ids.face + 1) (or_right (T.next_ids.face == T.next_ids.face + 1) _ (or_left (T.next_ids.face + 1 == T.next_ids.face + 1) false (eq-eqb (T.next_ids.face + 1) (T.next_ids.face + 1) refl)));
}
  where
    new : (g : ℕ) → is_listed (T.next_ids.face ∷ (T.next_ids.face + 1) ∷ []) g ≡ true → is_listed (filter (λ x. not (x == f)) T.faces ++ T.next_ids.face ∷ (T.next_ids.face + 1) ∷ []) g ≡ true
    new g h = any_behind (λ x. x == g) (filter (λ x. not (x == f)) T.faces) (T.next_ids.face ∷ (T.next_ids.face + 1) ∷ []) h

    kept : (g : ℕ) → has_face T g ≡ true → (g == f) ≡ false → is_listed (filter (λ x. not (x == f)) T.faces ++ T.next_ids.face ∷ (T.next_ids.face + 1) ∷ []) g ≡ true
    kept g t e =
        any_more (λ x. x == g) (filter (λ x. not (x == f)) T.faces) (T.next_ids.face ∷ (T.next_ids.face + 1) ∷ [])
        (any_filtered (λ x. x == g) (λ x. not (x == f)) T.faces (λ x is. ap not (ap (λ y. y == f) (eqb-true x g is) ∙ e)) t)
