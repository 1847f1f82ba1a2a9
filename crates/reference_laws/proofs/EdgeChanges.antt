-- Edges that go, are cut or are joined keep relation rows known.
use Rattle.std.proofs.Common.{◌≡◌, ◌≢◌, ◌∙◌, ℕ, ◌+◌, refl, sym, ap, subst, ⊎_elim, true, false, not, ◌&&◌, ◌||◌, ◌==◌, eqb, eqb-true, eq-eqb, ne_eqb, List, [], ◌∷◌, ◌++◌}
use Rattle.std.specs.List.{Contains, list_any}
use Rattle.std.specs.Str.{bytes_eq}
use Rattle.std.proofs.lemmas.Bool.{false≢true, or_parts, eqb-false}
use Rattle.topo_base.specs.Kinds.{kind_number}
use Rattle.topo_base.specs.Point.{Point}
use Rattle.topo_base.specs.declared.kind.Kind.{Kind}
use Rattle.topo_base.specs.declared.kind.Kind.TheVariants.{Puntal, Lineal, Areal}
use Rattle.topo_base.specs.declared.rows.Counters.{Counters}
use Rattle.topo_base.specs.declared.rows.NodeRow.{NodeRow}
use Rattle.topo_base.specs.declared.rows.RelationRow.{RelationRow}
use Rattle.drawing.specs.Drawing.{Drawing, Edge, edge_id_of, has_edge, has_node, node_id_of}
use Rattle.drawing.specs.HealEdges.{joined_edge}
use Rattle.drawing.specs.IsoEdits.{is_in_feature}
use Rattle.drawing.specs.Relations.{edge_type, face_type, features_of, follow, is_among, lists_element, node_type}
use Rattle.drawing.specs.RemoveEdge.{have_same_features, renamed_edge, renamed_node, without_edge, without_faces}
use Rattle.drawing.specs.Rows.{without_row}
use Rattle.drawing.specs.SplitEdge.{first_part, second_part}
use Rattle.plane.proofs.ListTests.{contains_cases, contains_none}
use Rattle.edit_changes.specs.Evidence.{AreSides, EdgeMayGo, FacesMayJoin}
use Rattle.edit_changes.proofs.IdsOrdering.{either_id, joined_id}
use Rattle.ring_laws.proofs.EdgesGo.{beside}
use Rattle.ring_laws.proofs.HealedSides.{healed_with}
use Rattle.ring_laws.proofs.Known.{any_in, any_more, any_out}
use Rattle.ring_laws.proofs.MergedSides.{AreMerged, none_merged, one_merged, both_merged}
use Rattle.ring_laws.proofs.SplitSides.{IsSplitInto, split_with}
use Rattle.reference_laws.proofs.DrawingChanges.{not_one, one_of_two, only_one}
use Rattle.reference_laws.proofs.Elements.{areal_from, areal_kept, has_same, has_without, is_free, none_as_same, none_in, same_as_none, universe_unlisted}
use Rattle.reference_laws.proofs.Followed.{each_row, rows_follow}
use Rattle.reference_laws.proofs.KnownRows.{IsTold, HasKnownRows, has_of}
use Rattle.ring_laws.proofs.Joint.{IsHealed}

-- ---- an edge goes
-- where a row lists a face that goes, the one that is kept is another than face 0
abbrev MayList : Drawing → List ℕ → ℕ → Type 0
MayList S gone kept = (r : RelationRow) → Contains S.relations r → lists_element S face_type r.element_id r ≡ true → is_among r.element_id gone ≡ true → eqb kept 0 ≡ false

merged : (S : Drawing) (e : Edge) (gone : List ℕ) (kept : ℕ) (faces : List ℕ) (next : ℕ) → is_in_feature S edge_type e.edge_id ≡ false → AreMerged S gone kept faces → MayList S gone kept → HasKnownRows S
    → HasKnownRows (record (without_edge S e gone kept faces) { next_ids = record (S.next_ids) { face = next } })
merged S e gone kept faces next free made may knows =
    rows_follow S U face_type gone (kept ∷ []) refl refl refl (record { kept = λ r kind c lists old has. stays r kind c lists old has; made = λ r kind id c is lists old has d. comes r kind id c is lists old d }) knows
  where
    T : Drawing
    T = record S { edges = without_row edge_id_of S.edges e.edge_id }

    U : Drawing
    U = record (without_edge S e gone kept faces) { next_ids = record (S.next_ids) { face = next } }

    renamed_kept : (n : NodeRow) → node_id_of (renamed_node T e gone kept n) ≡ node_id_of n
    renamed_kept n = either_id node_id_of _ _ _ (node_id_of n) refl refl

    stays : (r : RelationRow) (kind : Kind) → Contains S.relations r → lists_element S (kind_number kind) r.element_id r ≡ true → (kind_number kind ≡ face_type → is_among r.element_id gone ≡ false) → has_of S kind r.element_id ≡ true
        → has_of U kind r.element_id ≡ true
    stays r Puntal c lists old has = has_same node_id_of (renamed_node T e gone kept) S.nodes r.element_id renamed_kept ∙ has
    stays r Lineal c lists old has =
        has_same edge_id_of (renamed_edge gone kept) (without_row edge_id_of S.edges e.edge_id) r.element_id (λ x. refl)
        ∙ has_without edge_id_of S.edges e.edge_id r.element_id (is_free S edge_type e.edge_id free r c lists) has
    stays r Areal c lists old has = areal_kept S U r.element_id (λ h. made.others r.element_id h (old refl)) has

    comes : (r : RelationRow) (kind : Kind) (id : ℕ) → Contains S.relations r → kind_number kind ≡ face_type → lists_element S face_type r.element_id r ≡ true → is_among r.element_id gone ≡ true → Contains (kept ∷ []) id → has_of U kind id ≡ true
    comes r Puntal id c is lists old d = absurd cc
    comes r Lineal id c is lists old d = absurd cc
    comes r Areal id c is lists old d =
        ⊎_elim (λ (q : kept ≡ id). subst (λ n. has_of U Areal n ≡ true) q (areal_from U kept (may r c lists old) made.stays)) (λ (k : Contains [] id). absurd (contains_none id k)) (contains_cases id kept [] d)

pub edge_gone : (S : Drawing) (e : Edge) → EdgeMayGo S e → IsTold S → HasKnownRows (without_edge S e [] e.left_face S.faces)
edge_gone S e k h =
    merged S e [] e.left_face S.faces S.next_ids.face k.unlisted (none_merged S e.left_face h.rings.ringed.known.universe (h.rings.ringed.known.sides e k.there).0) (λ r c lists old. absurd (false≢true old)) h.rows

-- a face that goes into face 0 is listed by no row, as face 0 is
goes_unlisted : (S : Drawing) (e : Edge) (kept goes : ℕ) → FacesMayJoin S e → AreSides e kept goes → HasKnownRows S → kept ≡ 0 → features_of S face_type goes ≡ []
goes_unlisted S e kept goes k sides knows zero =
    let none : features_of S face_type kept ≡ [] = ap (features_of S face_type) zero ∙ universe_unlisted S (each_row S knows) in
    ⊎_elim
    (λ (p : (kept ≡ e.left_face) × (goes ≡ e.right_face)).
    let alike = subst (λ l. have_same_features S face_type l goes ≡ true) (sym p.0) (subst (λ r. have_same_features S face_type e.left_face r ≡ true) (sym p.1) k.alike) in
    same_as_none (features_of S face_type goes) (subst (λ ns. bytes_eq ns (features_of S face_type goes) ≡ true) none alike))
    (λ (p : (kept ≡ e.right_face) × (goes ≡ e.left_face)).
    let alike = subst (λ l. have_same_features S face_type l kept ≡ true) (sym p.1) (subst (λ r. have_same_features S face_type e.left_face r ≡ true) (sym p.0) k.alike) in
    none_as_same (features_of S face_type goes) (subst (λ ns. bytes_eq (features_of S face_type goes) ns ≡ true) none alike))
    sides

pub faces_joined : (S : Drawing) (e : Edge) (kept goes : ℕ) → FacesMayJoin S e → AreSides e kept goes → goes ≢ 0 → IsTold S → HasKnownRows (without_edge S e (goes ∷ []) kept (without_faces S (goes ∷ [])))
faces_joined S e kept goes k sides some h =
    let b = beside S e kept goes k sides h.rings.ringed.known in
    merged S e (goes ∷ []) kept (without_faces S (goes ∷ [])) S.next_ids.face k.edge.unlisted (one_merged S goes kept h.rings.ringed.known.universe b.listed some b.differ) may h.rows
  where
    may : MayList S (goes ∷ []) kept
    may r c lists old = ne_eqb kept 0 (λ zero. none_in S face_type goes (goes_unlisted S e kept goes k sides h.rows zero) r c (subst (λ n. lists_element S face_type n r ≡ true) (only_one goes r.element_id old) lists))

pub faces_joined_anew : (S : Drawing) (e : Edge) → EdgeMayGo S e → e.left_face ≢ 0 → e.right_face ≢ 0 → IsTold S
    → HasKnownRows (record (without_edge S e (e.left_face ∷ e.right_face ∷ []) S.next_ids.face (without_faces S (e.left_face ∷ e.right_face ∷ []) ++ S.next_ids.face ∷ [])) { next_ids = record (S.next_ids) { face = S.next_ids.face + 1 } })
faces_joined_anew S e k left right h =
    let new = S.next_ids.face in
    merged S e (e.left_face ∷ e.right_face ∷ []) new _ (new + 1) k.unlisted (both_merged S e.left_face e.right_face new h.rings.ringed.known.universe left right) (λ r c lists old. h.next_some) h.rows

-- ---- edges in whose place others come
record EdgesFollow (S T : Drawing) (old new : List ℕ) : Type 0 where
  nodes : (r : RelationRow) → Contains S.relations r → lists_element S node_type r.element_id r ≡ true → has_node S r.element_id ≡ true → has_node T r.element_id ≡ true
  kept : (x : Edge) → Contains S.edges x → is_among x.edge_id old ≡ false → Contains T.edges x
  made : (id : ℕ) → Contains new id → has_edge T id ≡ true
  faces : T.faces ≡ S.faces

edges_follow : (S T : Drawing) (old new : List ℕ) → T.features ≡ S.features → T.layers ≡ S.layers → T.relations ≡ follow S edge_type old new → EdgesFollow S T old new → HasKnownRows S → HasKnownRows T
edges_follow S T old new features layers relations h knows =
    rows_follow S T edge_type old new features layers relations (record { kept = λ r kind c lists off has. stays r kind c lists off has; made = λ r kind id c is lists among has d. comes kind id is d }) knows
  where
    stays : (r : RelationRow) (kind : Kind) → Contains S.relations r → lists_element S (kind_number kind) r.element_id r ≡ true → (kind_number kind ≡ edge_type → is_among r.element_id old ≡ false) → has_of S kind r.element_id ≡ true
        → has_of T kind r.element_id ≡ true
    stays r Puntal c lists off has = h.nodes r c lists has
    stays r Lineal c lists off has =
        let s = any_out (λ (x : Edge). edge_id_of x == r.element_id) S.edges has in
        let same = eqb-true s.0.edge_id r.element_id s.1.1 in
        any_in (λ (x : Edge). edge_id_of x == r.element_id) T.edges s.0 (h.kept s.0 s.1.0 (ap (λ k. is_among k old) same ∙ off refl)) s.1.1
    stays r Areal c lists off has = ap (λ (fs : List ℕ). not (r.element_id == 0) && list_any (λ g. g == r.element_id) fs) h.faces ∙ has

    comes : (kind : Kind) (id : ℕ) → kind_number kind ≡ edge_type → Contains new id → has_of T kind id ≡ true
    comes Puntal id is d = absurd cc
    comes Areal id is d = absurd cc
    comes Lineal id is d = h.made id d

edge_there : (T : Drawing) (x : Edge) (id : ℕ) → Contains T.edges x → x.edge_id ≡ id → has_edge T id ≡ true
edge_there T x id c is = any_in (λ (y : Edge). edge_id_of y == id) T.edges x c (eq-eqb x.edge_id id is)

-- both parts are in the place of the edge that is cut
pub edge_cut : (S : Drawing) (e : Edge) (p : Point) (id id' : ℕ) (fs : List Edge) (ids : Counters) → IsSplitInto S e p id id' fs → HasKnownRows S → HasKnownRows (split_with S p fs (follow S edge_type (e.edge_id ∷ []) (id ∷ id' ∷ [])) ids)
edge_cut S e p id id' fs ids split knows = edges_follow S T (e.edge_id ∷ []) (id ∷ id' ∷ []) refl refl refl (record {
  nodes = λ r c lists has. any_more (λ (m : NodeRow). node_id_of m == r.element_id) S.nodes _ has;
  kept = λ x c off. split.old x c (λ same. eqb-false x.edge_id e.edge_id (not_one e.edge_id x.edge_id off) same);
  made = λ m c. ⊎_elim (λ (q : id ≡ m). edge_there T (first_part e S.next_ids.node p id) m split.first q) (λ (q : id' ≡ m). edge_there T (second_part e S.next_ids.node p id') m split.second q) (one_of_two id id' m c);
  faces = refl;
}) knows
  where
    T : Drawing
    T = split_with S p fs (follow S edge_type (e.edge_id ∷ []) (id ∷ id' ∷ [])) ids

-- the joined edge is in the place of the two
pub edges_joined : (S : Drawing) (n : ℕ) (e f : Edge) (id : ℕ) (fs : List Edge) (ids : Counters) → is_in_feature S node_type n ≡ false → IsHealed S n e f id fs → HasKnownRows S
    → HasKnownRows (healed_with S n fs (follow S edge_type (e.edge_id ∷ f.edge_id ∷ []) (id ∷ [])) ids)
edges_joined S n e f id fs ids free healed knows = edges_follow S T (e.edge_id ∷ f.edge_id ∷ []) (id ∷ []) refl refl refl (record {
  nodes = λ r c lists has. has_without node_id_of S.nodes n r.element_id (is_free S node_type n free r c lists) has;
  kept = λ x c off.
      let far = or_parts (e.edge_id == x.edge_id) (f.edge_id == x.edge_id || false) off in
      healed.old x c (λ same. eqb-false e.edge_id x.edge_id far.0 (sym same)) (λ same. eqb-false x.edge_id f.edge_id (not_one f.edge_id x.edge_id far.1) same);
  made = λ m c. ⊎_elim (λ (q : id ≡ m). edge_there T (joined_edge n e f id) m healed.made (joined_id n e f id ∙ q)) (λ (k : Contains [] m). absurd (contains_none m k)) (contains_cases m id [] c);
  faces = refl;
}) knows
  where
    T : Drawing
    T = healed_with S n fs (follow S edge_type (e.edge_id ∷ f.edge_id ∷ []) (id ∷ [])) ids
