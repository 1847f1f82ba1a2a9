-- Nodes that come, move and go, edges that come, and faces that are divided keep relation rows known.
use Rattle.std.proofs.Common.{◌≡◌, ◌≢◌, ◌∙◌, ℕ, ◌+◌, arith, refl, sym, subst, ◌⊎◌, inl, inr, ⊎_elim, true, false, not, ◌==◌, eqb, eqb-true, ne_eqb, List, [], ◌∷◌, ◌++◌, filter, Option, Some, None}
use Rattle.std.specs.List.{Contains}
use Rattle.std.proofs.lemmas.Bool.{cond_both, eqb-false, false≢true, or_cases, or_parts}
use Rattle.std.proofs.lemmas.Bool.Decides.{nat_tests}
use Rattle.topo_base.specs.Kinds.{kind_number}
use Rattle.topo_base.specs.Point.{Point}
use Rattle.topo_base.specs.declared.kind.Kind.{Kind}
use Rattle.topo_base.specs.declared.kind.Kind.TheVariants.{Puntal, Lineal, Areal}
use Rattle.topo_base.specs.declared.rows.NodeRow.{NodeRow}
use Rattle.topo_base.specs.declared.rows.RelationRow.{RelationRow}
use Rattle.drawing.specs.AddEdge.{Division, divided, divided_edge, divided_node, keeps_left, one_new, two_new}
use Rattle.drawing.specs.Drawing.{Drawing, Edge, edge_id_of, has_edge, has_face, has_node, node_id_of}
use Rattle.drawing.specs.HalfEdge.{half_edges}
use Rattle.drawing.specs.IsoEdits.{is_in_feature, put_at, with_edge, with_node}
use Rattle.drawing.specs.Relations.{edge_type, face_type, is_among, lists_element, node_type}
use Rattle.drawing.specs.Rows.{without_row}
use Rattle.plane.proofs.ListTests.{contains_cases, contains_none}
use Rattle.edit_changes.specs.Evidence.{EdgeMayCome, left_ring, right_ring}
use Rattle.edit_changes.proofs.IdsOrdering.{either_id}
use Rattle.ring_laws.proofs.EdgesCome.{one_division, two_division}
use Rattle.ring_laws.proofs.Known.{any_more}
use Rattle.ring_laws.proofs.KnownStays.{AreParts, without_edge}
use Rattle.reference_laws.proofs.Elements.{areal_from, areal_kept, has_same, has_without, is_free, nodes_put, some_face}
use Rattle.reference_laws.proofs.Followed.{rows_follow, rows_stay}
use Rattle.reference_laws.proofs.KnownRows.{IsTold, HasKnownRows, has_of}
use Rattle.topo_tables.proofs.RowChanges.{has_changed}

-- each element that is listed stays so
pub record HasMore (S T : Drawing) : Type 0 where
  pub nodes : (n : ℕ) → has_node S n ≡ true → has_node T n ≡ true
  pub edges : (n : ℕ) → has_edge S n ≡ true → has_edge T n ≡ true
  pub faces : (n : ℕ) → has_face S n ≡ true → has_face T n ≡ true

pub more_of : (S T : Drawing) → HasMore S T → (kind : Kind) (id : ℕ) → has_of S kind id ≡ true → has_of T kind id ≡ true
more_of S T more Puntal id h = more.nodes id h
more_of S T more Lineal id h = more.edges id h
more_of S T more Areal id h = areal_kept S T id (more.faces id) h

rows_more : (S T : Drawing) → T.features ≡ S.features → T.layers ≡ S.layers → T.relations ≡ S.relations → HasMore S T → HasKnownRows S → HasKnownRows T
rows_more S T features layers relations more knows = rows_stay S T features layers relations (λ r kind c lists has. more_of S T more kind r.element_id has) knows

-- ---- isolated nodes
pub node_came : (S : Drawing) (face : Option ℕ) (p : Point) → HasKnownRows S → HasKnownRows (with_node S face p)
node_came S face p knows =
    rows_more S (with_node S face p) refl refl refl (record { nodes = λ n h. any_more (λ r. node_id_of r == n) S.nodes _ h; edges = λ n h. h; faces = λ n h. h }) knows

pub node_moved : (S : Drawing) (n : ℕ) (p : Point) → HasKnownRows S → HasKnownRows (record S { nodes = put_at p n S.nodes })
node_moved S n p knows =
    rows_more S (record S { nodes = put_at p n S.nodes }) refl refl refl
    (record { nodes = λ m h. has_changed node_id_of S.nodes n m (λ (r : NodeRow). record r { geom = p }) (λ r. refl) ∙ h; edges = λ m h. h; faces = λ m h. h }) knows

pub node_gone : (S : Drawing) (n : ℕ) → is_in_feature S node_type n ≡ false → HasKnownRows S → HasKnownRows (record S { nodes = without_row node_id_of S.nodes n })
node_gone S n free knows = rows_stay S T refl refl refl stays knows
  where
    T : Drawing
    T = record S { nodes = without_row node_id_of S.nodes n }

    stays : (r : RelationRow) (kind : Kind) → Contains S.relations r → lists_element S (kind_number kind) r.element_id r ≡ true → has_of S kind r.element_id ≡ true → has_of T kind r.element_id ≡ true
    stays r Puntal c lists has = has_without node_id_of S.nodes n r.element_id (is_free S node_type n free r c lists) has
    stays r Lineal c lists has = has
    stays r Areal c lists has = has

-- ---- edges that divide no face
pub edge_came : (S : Drawing) (a b : NodeRow) (line : List Point) (f : ℕ) → HasKnownRows S → HasKnownRows (with_edge S a b line f)
edge_came S a b line f knows =
    rows_more S (with_edge S a b line f) refl refl refl
    (record { nodes = λ n h. nodes_put None a.node_id b.node_id S.nodes n ∙ h; edges = λ n h. any_more (λ x. edge_id_of x == n) S.edges _ h; faces = λ n h. h }) knows

pub lone_gone : (S : Drawing) (e : Edge) → is_in_feature S edge_type e.edge_id ≡ false → HasKnownRows S → HasKnownRows (without_edge S e)
lone_gone S e free knows = rows_stay S (without_edge S e) refl refl refl stays knows
  where
    stays : (r : RelationRow) (kind : Kind) → Contains S.relations r → lists_element S (kind_number kind) r.element_id r ≡ true → has_of S kind r.element_id ≡ true → has_of (without_edge S e) kind r.element_id ≡ true
    stays r Puntal c lists has = nodes_put (Some e.left_face) e.start_node e.end_node S.nodes r.element_id ∙ has
    stays r Lineal c lists has = has_without edge_id_of S.edges e.edge_id r.element_id (is_free S edge_type e.edge_id free r c lists) has
    stays r Areal c lists has = has

-- ---- an edge that divides a face
-- a part is face 0 only where the divided face is
pub record AreSome (T : Drawing) (d : Division) : Type 0 where
  pub left : has_of T Areal d.face ≡ true → eqb d.left_part 0 ≡ false
  pub right : has_of T Areal d.face ≡ true → eqb d.right_part 0 ≡ false

pub only_one : (a n : ℕ) → is_among n (a ∷ []) ≡ true → n ≡ a
only_one a n h = ⊎_elim (λ (e : (a == n) ≡ true). sym (eqb-true a n e)) (λ (e : false ≡ true). absurd (false≢true e)) (or_cases (a == n) false h)

pub not_one : (a n : ℕ) → is_among n (a ∷ []) ≡ false → eqb n a ≡ false
not_one a n h = ne_eqb n a (λ e. eqb-false a n (or_parts (a == n) false h).0 (sym e))

pub one_of_two : (a b n : ℕ) → Contains (a ∷ b ∷ []) n → (a ≡ n) ⊎ (b ≡ n)
one_of_two a b n c = ⊎_elim (λ (e : a ≡ n). inl e) (λ (d : Contains (b ∷ []) n). ⊎_elim (λ (e : b ≡ n). inr e) (λ (k : Contains [] n). absurd (contains_none n k)) (contains_cases n b [] d)) (contains_cases n a (b ∷ []) c)

face_divides : (T : Drawing) (d : Division) (faces : List ℕ) (new : ℕ) → AreParts T d faces → AreSome T d → HasKnownRows T → HasKnownRows (divided T d faces new)
face_divides T d faces new parts some knows =
    rows_follow T U face_type (d.face ∷ []) (d.left_part ∷ d.right_part ∷ []) refl refl refl (record { kept = λ r kind c lists old has. kept r.element_id kind old has; made = λ r kind id c is lists old has d. made r.element_id id kind is old has d }) knows
  where
    U : Drawing
    U = divided T d faces new

    kept : (id : ℕ) (kind : Kind) → (kind_number kind ≡ face_type → is_among id (d.face ∷ []) ≡ false) → has_of T kind id ≡ true → has_of U kind id ≡ true
    kept id Puntal old has = has_same node_id_of (divided_node d) T.nodes id (λ n. either_id node_id_of _ _ n (node_id_of n) refl refl) ∙ has
    kept id Lineal old has = has_same edge_id_of (divided_edge d (half_edges T)) T.edges id (λ x. refl) ∙ has
    kept id Areal old has = areal_kept T U id (λ h. parts.others id h (not_one d.face id (old refl))) has

    part : (id : ℕ) → ((d.left_part ≡ id) ⊎ (d.right_part ≡ id)) → has_of T Areal d.face ≡ true → has_of U Areal id ≡ true
    part id which has =
        ⊎_elim (λ (e : d.left_part ≡ id). subst (λ n. has_of U Areal n ≡ true) e (areal_from U d.left_part (some.left has) parts.left))
        (λ (e : d.right_part ≡ id). subst (λ n. has_of U Areal n ≡ true) e (areal_from U d.right_part (some.right has) parts.right)) which

    made : (o id : ℕ) (kind : Kind) → kind_number kind ≡ face_type → is_among o (d.face ∷ []) ≡ true → has_of T kind o ≡ true → Contains (d.left_part ∷ d.right_part ∷ []) id → has_of U kind id ≡ true
    made o id Puntal is old has c = absurd cc
    made o id Lineal is old has c = absurd cc
    made o id Areal is old has c = part id (one_of_two d.left_part d.right_part id c) (subst (λ n. has_of T Areal n ≡ true) (only_one d.face o old) has)

-- with one new face, and with two
pub face_divided : (S : Drawing) (a b : NodeRow) (line : List Point) (d : Division) → EdgeMayCome S a b line d.face → d ≡ one_new (with_edge S a b line d.face) d.face (left_ring S a b line d.face) (right_ring S a b line d.face) → IsTold S
    → HasKnownRows (divided (with_edge S a b line d.face) d (S.faces ++ S.next_ids.face ∷ []) 1)
face_divided S a b line d k is h = face_divides T d _ 1 (one_division S a b line d k is h.rings.ringed.known) (subst (AreSome T) (sym is) some) (edge_came S a b line d.face h.rows)
  where
    T : Drawing
    T = with_edge S a b line d.face

    some : AreSome T (one_new T d.face (left_ring S a b line d.face) (right_ring S a b line d.face))
    some = record {
      left = λ has. cond_both (keeps_left d.face (left_ring S a b line d.face)) d.face S.next_ids.face (λ n. eqb n 0 ≡ false) (λ _. some_face T d.face has) (λ _. h.next_some);
      right = λ has. cond_both (keeps_left d.face (left_ring S a b line d.face)) S.next_ids.face d.face (λ n. eqb n 0 ≡ false) (λ _. h.next_some) (λ _. some_face T d.face has);
    }

pub face_divided_anew : (S : Drawing) (a b : NodeRow) (line : List Point) (d : Division) → d.face ≢ 0 → d ≡ two_new (with_edge S a b line d.face) d.face (left_ring S a b line d.face) (right_ring S a b line d.face) → IsTold S
    → HasKnownRows (divided (with_edge S a b line d.face) d (filter (λ g. not (g == d.face)) S.faces ++ S.next_ids.face ∷ (S.next_ids.face + 1) ∷ []) 2)
face_divided_anew S a b line d some is h = face_divides T d _ 2 (two_division S a b line d some is h.rings.ringed.known) (subst (AreSome T) (sym is) (record { left = λ has. h.next_some; right = λ has. next_some S.next_ids.face })) (edge_came S a b line d.face h.rows)
  where
    T : Drawing
    T = with_edge S a b line d.face

    next_some : (n : ℕ) → eqb (n + 1) 0 ≡ false
    next_some n = grind (arith, nat_tests)
