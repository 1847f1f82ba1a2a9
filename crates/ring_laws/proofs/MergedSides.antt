-- A removed edge: the rings at its two sides become rings of one face, and faces and nodes stay known.
use Rattle.std.proofs.Common.{◌≡◌, ◌≢◌, ℕ, ne_eqb, refl, sym, ◌∙◌, ap, subst, ⊎_elim, Bool, true, false, not, cond, ◌&&◌, ◌||◌, List, [], ◌∷◌, ◌++◌, map, option_map, Option, Some, None}
use Rattle.std.specs.Prelude.{flat_map, ◌==◌}
use Rattle.std.specs.List.{Contains, list_any}
use Rattle.std.proofs.lemmas.Bool.{and_parts, and_from, or_from, or_left, eqb-true, eq-eqb, false≢true, not-true, not-false}
use Rattle.topo_base.specs.declared.rows.NodeRow.{NodeRow}
use Rattle.topo_base.specs.declared.rows.Counters.{Counters}
use Rattle.drawing.specs.Drawing.{Drawing, Edge, edge_id_of, has_face, is_end_of, is_isolated}
use Rattle.drawing.specs.HalfEdge.{HalfEdge, forward_of, backward_of, both_ways, half_edges, twin, dart_of}
use Rattle.drawing.specs.Relations.{is_among}
use Rattle.drawing.specs.RemoveEdge.{renamed, renamed_edge, renamed_node, without_edge, without_faces}
use Rattle.drawing.specs.Rows.{without_row}
use Rattle.drawing.specs.Star.{next_of}
use Rattle.drawing.specs.Subdivision.{is_face_known, is_node_known, rings_have_one_face}
use Rattle.drawing.proofs.Members.{contains-map, contains-mapped}
use Rattle.face_rings.proofs.FaceBorders.{half_by_dart}
use Rattle.face_rings.proofs.HalfLines.{HasPlainLines}
use Rattle.face_rings.proofs.HalvesApart.{half_of, forward_there, backward_there, one_edge}
use Rattle.face_rings.proofs.NextApart.{next_there}
use Rattle.face_rings.proofs.Ranks.{by_bool}
use Rattle.ring_laws.proofs.Faceless.{faceless, next_faceless}
use Rattle.ring_laws.proofs.DividedSides.{dart_faceless}
use Rattle.ring_laws.proofs.Known.{any_in, any_out, any_more, any_behind, any_filtered, any_same, IsKnown, isolated_if, not_isolated, none_ends}
use Rattle.ring_laws.proofs.KnownStays.{is_listed}
use Rattle.ring_laws.proofs.Removing.{joined_without}
use Rattle.ring_laws.proofs.Turning.{FacesAgree, next_turns, lefts_stay}
use Rattle.ring_laws.proofs.WithoutEdge.{kept_edge, was_edge}

-- the drawing without the edge, and that with the faces that are one
abbrev pub lessened : Drawing → Edge → Drawing
lessened S e = record S { edges = without_row edge_id_of S.edges e.edge_id }

abbrev pub merged_with : Drawing → Edge → List ℕ → ℕ → List ℕ → Counters → Drawing
merged_with S e gone kept faces ids = record (without_edge S e gone kept faces) { next_ids = ids }

-- ---- the rings
sides_faceless : (gone : List ℕ) (kept : ℕ) (edges : List Edge) → map faceless (flat_map both_ways (map (renamed_edge gone kept) edges)) ≡ map faceless (flat_map both_ways edges)
sides_faceless gone kept [] = refl
sides_faceless gone kept (e ∷ edges) = ap (λ (hs : List HalfEdge). faceless (forward_of e) ∷ faceless (backward_of e) ∷ hs) (sides_faceless gone kept edges)

record IsRenamed (gone : List ℕ) (kept : ℕ) (edges : List Edge) (h : HalfEdge) : Type 0 where
  half : HalfEdge
  there : Contains (flat_map both_ways edges) half
  same : faceless h ≡ faceless half
  left : h.on_left ≡ renamed gone kept half.on_left

renamed_half : (gone : List ℕ) (kept : ℕ) (edges : List Edge) (h : HalfEdge) → Contains (flat_map both_ways (map (renamed_edge gone kept) edges)) h → IsRenamed gone kept edges h
renamed_half gone kept edges h c =
    let r = half_of (map (renamed_edge gone kept) edges) h c in
    let (e, (ce, is)) = contains-mapped (renamed_edge gone kept) r.edge edges r.there in
    ⊎_elim
    (λ (p : forward_of r.edge ≡ h). subst (IsRenamed gone kept edges) (ap forward_of is ∙ p) (record { half = forward_of e; there = forward_there edges e ce; same = refl; left = refl }))
    (λ (p : backward_of r.edge ≡ h). subst (IsRenamed gone kept edges) (ap backward_of is ∙ p) (record { half = backward_of e; there = backward_there edges e ce; same = refl; left = refl }))
    r.way

pub merged_rings : (S : Drawing) (e : Edge) (gone : List ℕ) (kept : ℕ) (faces : List ℕ) (ids : Counters) → HasPlainLines S → HasPlainLines (lessened S e) → Contains S.edges e → renamed gone kept e.left_face ≡ renamed gone kept e.right_face
    → FacesAgree (half_edges S) → HasPlainLines (merged_with S e gone kept faces ids) → rings_have_one_face (merged_with S e gone kept faces ids) ≡ true
merged_rings S e gone kept faces ids good less ce same joined more = lefts_stay (merged_with S e gone kept faces ids) each
  where
    each : (h : HalfEdge) → Contains (half_edges (merged_with S e gone kept faces ids)) h → h.on_left ≡ (next_of (half_edges (merged_with S e gone kept faces ids)) h).on_left
    each h c =
        let U = merged_with S e gone kept faces ids in
        let W = lessened S e in
        let ks = half_edges U in
        let a = renamed_half gone kept W.edges h c in
        let b = renamed_half gone kept W.edges (next_of ks h) (next_there U h more c) in
        let lists = sides_faceless gone kept W.edges in
        let halves = a.same in
        let darts : dart_of (next_of ks h) ≡ dart_of (next_of (half_edges W) a.half) =
        sym (next_faceless ks h) ∙ (λ i. dart_of (next_of (lists i) (halves i))) ∙ next_faceless (half_edges W) a.half in
        let one = half_by_dart W b.half (next_of (half_edges W) a.half) less b.there (next_there W a.half less a.there) (sym (dart_faceless (next_of ks h) b.half b.same) ∙ darts) in
        let on = joined_without S e (renamed gone kept) good ce same joined (twin a.half) (next_of (half_edges W) a.half) (next_turns W a.half less a.there) in
        a.left ∙ on ∙ ap (λ (x : HalfEdge). renamed gone kept x.on_left) (sym one) ∙ sym b.left

-- ---- the faces
-- face 0, the face that stays and all but those that go are listed
pub record AreMerged (S : Drawing) (gone : List ℕ) (kept : ℕ) (faces : List ℕ) : Type 0 where
  pub zero : is_listed faces 0 ≡ true
  pub stays : is_listed faces kept ≡ true
  pub others : (g : ℕ) → has_face S g ≡ true → is_among g gone ≡ false → is_listed faces g ≡ true

renamed_listed : (S : Drawing) (gone : List ℕ) (kept : ℕ) (faces : List ℕ) (g : ℕ) → AreMerged S gone kept faces → has_face S g ≡ true → is_listed faces (renamed gone kept g) ≡ true
renamed_listed S gone kept faces g m there = by_test (is_among g gone) refl
  where
    by_test : (t : Bool) → is_among g gone ≡ t → is_listed faces (cond t kept g) ≡ true
    by_test true e = m.stays
    by_test false e = m.others g there e

renamed_known : (S U : Drawing) (gone : List ℕ) (kept : ℕ) (c : Option ℕ) (i j : Bool) → ((g : ℕ) → has_face S g ≡ true → has_face U (renamed gone kept g) ≡ true) → (i ≡ true → j ≡ true) → (i ≡ false → j ≡ false)
    → is_face_known S c i ≡ true → is_face_known U (option_map (renamed gone kept) c) j ≡ true
renamed_known S U gone kept None i j listed on off h = ap not (off (not-true i h))
renamed_known S U gone kept (Some f) i j listed on off h = let both = and_parts i (has_face S f) h in and_from j (has_face U (renamed gone kept f)) (on both.0) (listed f both.1)

pub merged_known : (S : Drawing) (e : Edge) (gone : List ℕ) (kept : ℕ) (faces : List ℕ) (ids : Counters) → HasPlainLines S → Contains S.edges e → AreMerged S gone kept faces → IsKnown S → IsKnown (merged_with S e gone kept faces ids)
merged_known S e gone kept faces ids good ce m known = record {
  universe = m.zero;
  sides = λ x c.
      let (y, (cy, is)) = contains-mapped (renamed_edge gone kept) x (without_row edge_id_of S.edges e.edge_id) c in
      let was = known.sides y (was_edge S.edges e y cy).0 in
      subst (λ (z : Edge). (is_listed faces z.left_face ≡ true) × (is_listed faces z.right_face ≡ true)) is
      (renamed_listed S gone kept faces y.left_face m was.0, renamed_listed S gone kept faces y.right_face m was.1);
  nodes = λ n c.
      let (r, (cr, is)) = contains-mapped (renamed_node (lessened S e) e gone kept) n S.nodes c in
      subst (λ (x : NodeRow). is_node_known (merged_with S e gone kept faces ids) x ≡ true) is (by_test r (is_end_of r.node_id e && is_isolated (lessened S e) r.node_id) refl (known.nodes r cr));
}
  where
    sides_aside : (n : ℕ) → is_isolated (lessened S e) n ≡ is_isolated (merged_with S e gone kept faces ids) n
    sides_aside n = ap not (any_same (is_end_of n) (is_end_of n) ((lessened S e).edges) ((merged_with S e gone kept faces ids).edges)
        (λ x c t. any_in (is_end_of n) ((merged_with S e gone kept faces ids).edges) (renamed_edge gone kept x) (contains-map (renamed_edge gone kept) x ((lessened S e).edges) c) t)
        (λ x c t. let (y, (cy, is)) = contains-mapped (renamed_edge gone kept) x ((lessened S e).edges) c in any_in (is_end_of n) ((lessened S e).edges) y cy (subst (λ (z : Edge). is_end_of n z ≡ true) (sym is) t)))

    still_lone : (n : ℕ) → is_isolated S n ≡ true → is_isolated (lessened S e) n ≡ true
    still_lone n lone = isolated_if (lessened S e) n (λ x c t. none_ends S n lone x (was_edge S.edges e x c).0 t)

    still_joined : (n : ℕ) → (is_end_of n e && is_isolated (lessened S e) n) ≡ false → is_isolated S n ≡ false → is_isolated (lessened S e) n ≡ false
    still_joined n off some =
        let (x, (c, t)) = any_out (is_end_of n) S.edges (not-false (list_any (is_end_of n) S.edges) some) in
        ⊎_elim
        (λ (p : (x.edge_id == e.edge_id) ≡ true).
        ap (λ b. b && is_isolated (lessened S e) n) (sym (subst (λ (y : Edge). is_end_of n y ≡ true) (one_edge S x e good c ce (eqb-true x.edge_id e.edge_id p)) t)) ∙ off)
        (λ (p : (x.edge_id == e.edge_id) ≡ false). not_isolated (lessened S e) n x (kept_edge S.edges e x c (λ q. false≢true (sym p ∙ eq-eqb x.edge_id e.edge_id q))) t)
        (by_bool (x.edge_id == e.edge_id))

    by_test : (r : NodeRow) (t : Bool) → (is_end_of r.node_id e && is_isolated (lessened S e) r.node_id) ≡ t → is_node_known S r ≡ true
        → is_node_known (merged_with S e gone kept faces ids) (cond t (record r { containing_face = Some kept }) (record r { containing_face = option_map (renamed gone kept) r.containing_face })) ≡ true
    by_test r true t h =
        and_from (is_isolated (merged_with S e gone kept faces ids) r.node_id) (is_listed faces kept)
        (sym (sides_aside r.node_id) ∙ (and_parts (is_end_of r.node_id e) (is_isolated (lessened S e) r.node_id) t).1) m.stays
    by_test r false t h =
        renamed_known S (merged_with S e gone kept faces ids) gone kept r.containing_face (is_isolated S r.node_id) (is_isolated (merged_with S e gone kept faces ids) r.node_id)
        (λ g there. renamed_listed S gone kept faces g m there)
        (λ lone. sym (sides_aside r.node_id) ∙ still_lone r.node_id lone)
        (λ some. sym (sides_aside r.node_id) ∙ still_joined r.node_id t some) h

-- ---- which faces go
listed_less : (S : Drawing) (gone : List ℕ) (g : ℕ) → has_face S g ≡ true → is_among g gone ≡ false → is_listed (without_faces S gone) g ≡ true
listed_less S gone g there off = any_filtered (λ x. x == g) (λ f. not (is_among f gone)) S.faces (λ x t. ap not (ap (λ f. is_among f gone) (eqb-true x g t) ∙ off)) there

pub none_merged : (S : Drawing) (f : ℕ) → has_face S 0 ≡ true → has_face S f ≡ true → AreMerged S [] f S.faces
none_merged S f zero there = record { zero = zero; stays = there; others = λ g t e. t }

-- not among those that go
off_one : (g goes : ℕ) → goes ≢ g → is_among g (goes ∷ []) ≡ false
off_one g goes e = or_from (goes == g) false (ne_eqb goes g e) refl

pub one_merged : (S : Drawing) (goes kept : ℕ) → has_face S 0 ≡ true → has_face S kept ≡ true → goes ≢ 0 → goes ≢ kept → AreMerged S (goes ∷ []) kept (without_faces S (goes ∷ []))
one_merged S goes kept zero there some differ = record {
  zero = listed_less S (goes ∷ []) 0 zero (off_one 0 goes some);
  stays = listed_less S (goes ∷ []) kept there (off_one kept goes differ);
  others = λ g t e. listed_less S (goes ∷ []) g t e;
}

pub both_merged : (S : Drawing) (l r new : ℕ) → has_face S 0 ≡ true → l ≢ 0 → r ≢ 0 → AreMerged S (l ∷ r ∷ []) new (without_faces S (l ∷ r ∷ []) ++ new ∷ [])
both_merged S l r new zero some other = record {
  zero = left 0 zero (or_from (l == 0) (r == 0 || false) (ne_eqb l 0 some) (off_one 0 r other));
  stays = any_behind (λ x. x == new) (without_faces S (l ∷ r ∷ [])) (new ∷ []) (or_left (new == new) false (eq-eqb new new refl));
  others = λ g t e. left g t e;
}
  where
    left : (g : ℕ) → has_face S g ≡ true → is_among g (l ∷ r ∷ []) ≡ false → is_listed (without_faces S (l ∷ r ∷ []) ++ new ∷ []) g ≡ true
    left g t e = any_more (λ x. x == g) (without_faces S (l ∷ r ∷ [])) (new ∷ []) (listed_less S (l ∷ r ∷ []) g t e)

-- the two sides are one then
pub one_renamed : (goes kept : ℕ) → renamed (goes ∷ []) kept kept ≡ renamed (goes ∷ []) kept goes
one_renamed goes kept = either_way (is_among kept (goes ∷ [])) ∙ sym (ap (λ t. cond t kept goes) (ap (λ t. t || false) (eq-eqb goes goes refl)))
  where
    either_way : (t : Bool) → cond t kept kept ≡ kept
    either_way true = refl
    either_way false = refl

pub both_renamed : (l r new : ℕ) → renamed (l ∷ r ∷ []) new l ≡ renamed (l ∷ r ∷ []) new r
both_renamed l r new =
    ap (λ t. cond (t || ((r == l) || false)) new l) (eq-eqb l l refl)
    ∙ sym (either_way (l == r))
  where
    either_way : (t : Bool) → cond (t || ((r == r) || false)) new r ≡ new
    either_way true = refl
    either_way false = ap (λ t. cond (t || false) new r) (eq-eqb r r refl)
