-- Edges that go leave the points of features.
use Rattle.std.proofs.Common.{◌≡◌, ◌≢◌, ◌∙◌, ℕ, zero, ◌+◌, arith, refl, sym, ap, subst, ◌⊎◌, inl, inr, ⊎_elim, Bool, true, false, cond, not, ◌&&◌, ◌||◌, ◌==◌, List, [], ◌∷◌, ◌++◌, map, eqb, eqb-true, Some}
use Rattle.std.specs.Prelude.{◌↔◌, IsTrue, option_map}
use Rattle.std.specs.List.{Contains}
use Rattle.std.proofs.lemmas.Bool.{and_parts, both_ways, eq-eqb, false≢true, false_from_ne_true, ne_eqb, or_cases}
use Rattle.std.proofs.lemmas.List.Elements.{Contains-append_left, Contains-push}
use Rattle.topo_base.specs.RationalPoint.{RationalPoint}
use Rattle.topo_base.specs.declared.kind.Kind.TheVariants.{Areal, Lineal, Puntal}
use Rattle.topo_base.specs.declared.rows.Counters.{Counters}
use Rattle.topo_base.specs.declared.rows.NodeRow.{NodeRow}
use Rattle.plane.specs.Line.{segments_of}
use Rattle.plane.specs.Parity.{xor}
use Rattle.plane.specs.RationalTests.{is_odd_over_at}
use Rattle.plane.specs.Segment.{Segment}
use Rattle.plane.proofs.ListTests.{contains_cases, contains_here, contains_none, contains_there}
use Rattle.drawing.specs.Descent.{listed_by}
use Rattle.drawing.specs.DrawnPoints.{IsOffEdges, IsOnEdge, is_in_face_at}
use Rattle.drawing.specs.FeaturePoints.{OnSides}
use Rattle.drawing.specs.Drawing.{Drawing, Edge, edge_id_of, has_face, is_end_of, is_isolated, node_id_of}
use Rattle.drawing.specs.Faced.{is_in}
use Rattle.drawing.specs.IsoEdits.{is_in_feature, put_in_face}
use Rattle.drawing.specs.Relations.{edge_type, face_type, is_among}
use Rattle.drawing.specs.RemoveEdge.{renamed, renamed_edge, renamed_node, without_faces}
use Rattle.drawing.specs.Rows.{without_row}
use Rattle.drawing.proofs.Members.{contains-filter, contains-map, contains-mapped, ids_differ}
use Rattle.edit_changes.specs.Evidence.{AreSides, EdgeMayGo, FacesMayJoin, LoneEdgeMayGo}
use Rattle.face_rings.proofs.FaceBorders.{has_plain_lines}
use Rattle.face_rings.proofs.HalfLines.{begins}
use Rattle.ring_laws.proofs.Known.{any_in, any_out}
use Rattle.ring_laws.proofs.KnownStays.{without_edge}
use Rattle.ring_laws.proofs.MergedSides.{lessened, merged_with}
use Rattle.ring_laws.proofs.WithoutEdge.{alone_of, kept_edge, was_edge}
use Rattle.parity_laws.proofs.JoinedFaces.{JoinedNumber}
use Rattle.parity_laws.proofs.Sums.{summing, xor_none}
use Rattle.face_laws.proofs.Covering.{known}
use Rattle.reference_laws.proofs.Elements.{is_free}
use Rattle.subdivision_laws.specs.Subdivided.{IsSubdivided}
use Rattle.subdivision_laws.proofs.CutEdges.{edge_or_not}
use Rattle.subdivision_laws.proofs.EdgesGone.{faces_joined, faces_joined_anew, one_side, sides_join, sides_join_anew}
use Rattle.subdivision_laws.proofs.GoneFaces.{TwoSides, two_settled}
use Rattle.subdivision_laws.proofs.GoneNodes.{put_row}
use Rattle.subdivision_laws.proofs.GoneSteps.{Takes}
use Rattle.subdivision_laws.proofs.LoneEdgeGone.{alone_sides, lone_settled}
use Rattle.subdivision_laws.proofs.RingAdded.{FacesBelow, faces_below, faces_in_order}
use Rattle.point_laws.specs.PointsStay.{KeepsPoints}
use Rattle.point_laws.proofs.CutParity.{border_total, no_weight, total, total_without, weight}
use Rattle.point_laws.proofs.EdgeGone.{IsBeside, IsWithout, on_gone}
use Rattle.point_laws.proofs.EdgePoints.{ListsAlike, edge_less, map_same, put_twice_same}
use Rattle.point_laws.proofs.EdgesCome.{same_lists}
use Rattle.point_laws.proofs.Follow.{above_same_rows, listed_anew, other_same_rows}
use Rattle.point_laws.proofs.JoinedParity.{HasHalves, IsJoined, Pairs, in_halves, pairs_from, total_joined, total_other}
use Rattle.point_laws.proofs.Levels.{HasLevel}
use Rattle.point_laws.proofs.OneMore.{HasOneMore, IsRenamed, same_in}
use Rattle.point_laws.proofs.Primitive.{among_in, among_out, listed_alike, listing, rows_list, turned_alike}
use Rattle.point_laws.proofs.Told.{IsTold}

-- ---- no feature lists the edge
unlisted : (S : Drawing) (e u : ℕ) → IsTold S → is_in_feature S edge_type e ≡ false → HasLevel S Lineal zero u → is_among e (listed_by S u) ≡ true → ⊥
unlisted S e u h free k among =
    let l = listing S Lineal u e h.rows k (among_out e (listed_by S u) among) in
    both_ways (eqb l.row.element_id e) (is_free S edge_type e free l.row l.there l.lists) (eq-eqb l.row.element_id e l.element)

-- ---- an edge whose sides become one face
record Goes (S : Drawing) (e : Edge) (gone : List ℕ) (kept : ℕ) (fs : List ℕ) (ids : Counters) : Type 0 where
  told : IsTold S
  may : EdgeMayGo S e
  numbers : (g : ℕ) → has_face S g ≡ true → JoinedNumber e.left_face e.right_face kept g (renamed gone kept g)
  -- those that go are its sides, and a side that doesn't go is kept
  gone_sides : (g : ℕ) → is_among g gone ≡ true → (g ≡ e.left_face) ⊎ (g ≡ e.right_face)
  sides_go : (g : ℕ) → (g ≡ e.left_face) ⊎ (g ≡ e.right_face) → is_among g gone ≡ false → g ≡ kept
  old_kept : has_face S kept ≡ true → (kept ≡ e.left_face) ⊎ (kept ≡ e.right_face)
  -- the same features list both
  alike : (u g k : ℕ) → HasLevel S Areal zero u → (g ≡ e.left_face) ⊎ (g ≡ e.right_face) → (k ≡ e.left_face) ⊎ (k ≡ e.right_face) → Contains (listed_by S u) g → Contains (listed_by S u) k
  later : IsSubdivided (merged_with S e gone kept fs ids)
  inside : (g : ℕ) (q : RationalPoint) → has_face S g ≡ true → IsTrue (is_in S g q) → IsTrue (is_in (merged_with S e gone kept fs ids) (renamed gone kept g) q)
  beside : (first : Segment) (rest : List Segment) → Takes S (merged_with S e gone kept fs ids) e first rest (renamed gone kept) → IsBeside (merged_with S e gone kept fs ids) first kept

rows_same : (S : Drawing) (e : Edge) (gone : List ℕ) (kept : ℕ) (n : NodeRow) → (node_id_of (renamed_node (lessened S e) e gone kept n) ≡ n.node_id) × ((renamed_node (lessened S e) e gone kept n).geom ≡ n.geom)
rows_same S e gone kept n = by (is_end_of n.node_id e && is_isolated (lessened S e) n.node_id)
  where
    by : (t : Bool) → (node_id_of (cond t (record n { containing_face = Some kept }) (record n { containing_face = option_map (renamed gone kept) n.containing_face })) ≡ n.node_id)
        × ((cond t (record n { containing_face = Some kept }) (record n { containing_face = option_map (renamed gone kept) n.containing_face })).geom ≡ n.geom)
    by true = (refl, refl)
    by false = (refl, refl)

is_less : (S : Drawing) (e : Edge) (gone : List ℕ) (kept : ℕ) (fs : List ℕ) (ids : Counters) → Contains S.edges e → IsWithout S (merged_with S e gone kept fs ids) e
is_less S e gone kept fs ids there = record {
  there = there;
  row = λ n c. (change n, (contains-map change n S.nodes c, rows_same S e gone kept n));
  was_row = λ m c.
      let (n, (i, is)) = contains-mapped change m S.nodes c in
      (n, (i, subst (λ (r : NodeRow). (r.node_id ≡ n.node_id) × (r.geom ≡ n.geom)) is (rows_same S e gone kept n)));
  was_edge = λ y c.
      let (x, (i, is)) = contains-mapped (renamed_edge gone kept) y (without_row edge_id_of S.edges e.edge_id) c in
      let was = was_edge S.edges e x i in
      (x, (was.0, (was.1, sym (ap (λ (z : Edge). z.geom) is))));
}
  where
    change : NodeRow → NodeRow
    change = renamed_node (lessened S e) e gone kept

one_more : (S : Drawing) (e : Edge) (gone : List ℕ) (kept : ℕ) (fs : List ℕ) (ids : Counters) → Goes S e gone kept fs ids → HasOneMore (merged_with S e gone kept fs ids) S e (renamed gone kept) kept
one_more S e gone kept fs ids h = record {
  more = λ x c.
      let (y, (i, is)) = contains-mapped (renamed_edge gone kept) x (without_row edge_id_of S.edges e.edge_id) c in
      (y, ((was_edge S.edges e y i).0, subst (λ (z : Edge). IsRenamed (renamed gone kept) z y) is (renames y)));
  from = λ y c.
      ⊎_elim
      (λ (is : y ≡ e). inr (sym is))
      (λ (far : y.edge_id ≡ e.edge_id → ⊥). inl (renamed_edge gone kept y, (contains-map (renamed_edge gone kept) y (without_row edge_id_of S.edges e.edge_id) (kept_edge S.edges e y c far), renames y)))
      (edge_or_not S e y (has_plain_lines S h.told.before.covered.ringed.rings) h.may.there c);
  there = h.may.there;
  left = (h.numbers e.left_face sides.0).joined (inl refl);
  right = (h.numbers e.right_face sides.1).joined (inr refl);
  inside = h.inside;
  on = λ q on. by_line q on;
}
  where
    T : Drawing
    T = merged_with S e gone kept fs ids

    sides : (has_face S e.left_face ≡ true) × (has_face S e.right_face ≡ true)
    sides = (known S h.told.before.covered.ringed).sides e h.may.there

    renames : (y : Edge) → IsRenamed (renamed gone kept) (renamed_edge gone kept y) y
    renames y = record { id = refl; geom = refl; left = refl; right = refl }

    by_line : (q : RationalPoint) → IsOnEdge q e → (IsOffEdges T q × IsTrue (is_in T kept q)) ⊎ OnSides T (kept ∷ []) q
    by_line q on =
        let b = begins e.geom ((has_plain_lines S h.told.before.covered.ringed.rings).long e h.may.there) in
        let first : Segment = record { a = b.first; b = b.second } in
        let rest = segments_of (b.second ∷ b.rest) in
        on_gone S T e first rest kept q h.told.before h.later (is_less S e gone kept fs ids h.may.there) (ap segments_of b.is)
        (h.beside first rest (record { before = h.told.before.covered; after = h.later.covered.ringed; there = h.may.there; line = ap segments_of b.is; edges = refl })) on

lists : (S : Drawing) (e : Edge) (gone : List ℕ) (kept : ℕ) (fs : List ℕ) (ids : Counters) → Goes S e gone kept fs ids → ListsAlike S (merged_with S e gone kept fs ids) (merged_with S e gone kept fs ids) S (renamed gone kept)
lists S e gone kept fs ids h = record {
  features = refl;
  layers = refl;
  above = λ kind n u k w. above_same_rows S face_type gone (kept ∷ []) kind n u w h.told.rows k;
  puntal = λ u k w. other_same_rows S face_type gone (kept ∷ []) Puntal u w h.told.rows refl k;
  lineal = λ u k w. other_same_rows S face_type gone (kept ∷ []) Lineal u w h.told.rows refl k;
  areal = λ u k g there. (to u k g there, from u k g there);
}
  where
    T : Drawing
    T = merged_with S e gone kept fs ids

    name : ℕ → ℕ
    name = renamed gone kept

    anew : (u w : ℕ) → HasLevel S Areal zero u → Contains (listed_by T u) w ↔ ((Contains (listed_by S u) w × (is_among w gone ≡ false)) ⊎ (Contains (kept ∷ []) w × ((o : ℕ) × (Contains (listed_by S u) o × (is_among o gone ≡ true)))))
    anew u w k = listed_anew S face_type gone (kept ∷ []) u w (rows_list S Areal u h.told.rows k)

    only : (w : ℕ) → Contains (kept ∷ []) w → kept ≡ w
    only w c = ⊎_elim (λ (p : kept ≡ w). p) (λ (n : Contains [] w). absurd (contains_none w n)) (contains_cases w kept [] c)

    face_there : (u w : ℕ) → HasLevel S Areal zero u → Contains (listed_by S u) w → has_face S w ≡ true
    face_there u w k c = (and_parts (not (w == 0)) (has_face S w) (listing S Areal u w h.told.rows k c).known).1

    -- either a side, which becomes the face that is kept, or another face
    which : (g : ℕ) → has_face S g ≡ true → (((g ≡ e.left_face) ⊎ (g ≡ e.right_face)) × (name g ≡ kept)) ⊎ ((name g ≡ g) × (g ≢ kept) × (is_among g gone ≡ false))
    which g there = by (eqb g e.left_face) (eqb g e.right_face) refl refl
      where
        number : JoinedNumber e.left_face e.right_face kept g (name g)
        number = h.numbers g there

        by : (x y : Bool) → eqb g e.left_face ≡ x → eqb g e.right_face ≡ y → (((g ≡ e.left_face) ⊎ (g ≡ e.right_face)) × (name g ≡ kept)) ⊎ ((name g ≡ g) × (g ≢ kept) × (is_among g gone ≡ false))
        by true y p q = let is = eqb-true g e.left_face p in inl (inl is, number.joined (inl is))
        by false true p q = let is = eqb-true g e.right_face q in inl (inr is, number.joined (inr is))
        by false false p q =
            let nl : g ≢ e.left_face = (λ z. both_ways (eqb g e.left_face) p (eq-eqb g e.left_face z)) in
            let nr : g ≢ e.right_face = (λ z. both_ways (eqb g e.right_face) q (eq-eqb g e.right_face z)) in
            inr (
              number.others nl nr,
              (λ z. ⊎_elim (λ (r : kept ≡ e.left_face). nl (z ∙ r)) (λ (r : (kept ≡ e.right_face) ⊎ (g ≢ kept)). ⊎_elim (λ (s : kept ≡ e.right_face). nr (z ∙ s)) (λ (n : g ≢ kept). n z) r) number.fresh),
              false_from_ne_true (is_among g gone) (λ t. ⊎_elim (λ (r : g ≡ e.left_face). nl r) (λ (r : g ≡ e.right_face). nr r) (h.gone_sides g t)),
            )

    to : (u : ℕ) → HasLevel S Areal zero u → (g : ℕ) → has_face S g ≡ true → is_among (name g) (listed_by T u) ≡ true → is_among g (listed_by S u) ≡ true
    to u k g there among = among_in g (listed_by S u) (⊎_elim side other (which g there))
      where
        was : (w : ℕ) → Contains (listed_by T u) w → (Contains (listed_by S u) w × (is_among w gone ≡ false)) ⊎ (Contains (kept ∷ []) w × ((o : ℕ) × (Contains (listed_by S u) o × (is_among o gone ≡ true))))
        was w c = (anew u w k).0 c

        side : ((g ≡ e.left_face) ⊎ (g ≡ e.right_face)) × (name g ≡ kept) → Contains (listed_by S u) g
        side p =
            ⊎_elim
            (λ (r : Contains (listed_by S u) kept × (is_among kept gone ≡ false)). h.alike u kept g k (h.old_kept (face_there u kept k r.0)) p.0 r.0)
            (λ (r : Contains (kept ∷ []) kept × ((o : ℕ) × (Contains (listed_by S u) o × (is_among o gone ≡ true)))). h.alike u r.1.0 g k (h.gone_sides r.1.0 r.1.1.1) p.0 r.1.1.0)
            (was kept (subst (Contains (listed_by T u)) p.1 (among_out (name g) (listed_by T u) among)))

        other : (name g ≡ g) × (g ≢ kept) × (is_among g gone ≡ false) → Contains (listed_by S u) g
        other p =
            ⊎_elim
            (λ (r : Contains (listed_by S u) g × (is_among g gone ≡ false)). r.0)
            (λ (r : Contains (kept ∷ []) g × ((o : ℕ) × (Contains (listed_by S u) o × (is_among o gone ≡ true)))). absurd (p.1 (sym (only g r.0))))
            (was g (subst (Contains (listed_by T u)) p.0 (among_out (name g) (listed_by T u) among)))

    from : (u : ℕ) → HasLevel S Areal zero u → (g : ℕ) → has_face S g ≡ true → is_among g (listed_by S u) ≡ true → is_among (name g) (listed_by T u) ≡ true
    from u k g there among = among_in (name g) (listed_by T u) (⊎_elim side other (which g there))
      where
        c : Contains (listed_by S u) g
        c = among_out g (listed_by S u) among

        side : ((g ≡ e.left_face) ⊎ (g ≡ e.right_face)) × (name g ≡ kept) → Contains (listed_by T u) (name g)
        side p = subst (Contains (listed_by T u)) (sym p.1) (by (is_among g gone) refl)
          where
            by : (t : Bool) → is_among g gone ≡ t → Contains (listed_by T u) kept
            by true t = (anew u kept k).1 (inr (contains_here kept [], (g, (c, t))))
            by false t = let is = h.sides_go g p.0 t in (anew u kept k).1 (inl (subst (Contains (listed_by S u)) is c, subst (λ m. is_among m gone ≡ false) is t))

        other : (name g ≡ g) × (g ≢ kept) × (is_among g gone ≡ false) → Contains (listed_by T u) (name g)
        other p = subst (Contains (listed_by T u)) (sym p.0) ((anew u g k).1 (inl (c, p.2)))

goes : (S : Drawing) (e : Edge) (gone : List ℕ) (kept : ℕ) (fs : List ℕ) (ids : Counters) → Goes S e gone kept fs ids → KeepsPoints S (merged_with S e gone kept fs ids)
goes S e gone kept fs ids h =
    edge_less (merged_with S e gone kept fs ids) S e (renamed gone kept) kept h.told h.later (one_more S e gone kept fs ids h) (lists S e gone kept fs ids h)
    (map_same (renamed_node (lessened S e) e gone kept) S.nodes (rows_same S e gone kept)) (λ u k among. unlisted S e.edge_id u h.told h.may.unlisted k among)

-- ---- the parities over a point
same_edges : (g : ℕ) (q : RationalPoint) (ys : List Edge) (kept : ℕ) → total g q (map (renamed_edge [] kept) ys) ≡ total g q ys
unfolding total weight
same_edges g q [] kept = refl
same_edges g q (y ∷ ys) kept = ap (xor (weight g q y)) (same_edges g q ys kept)

sides_weigh : (q : RationalPoint) (e : Edge) → e.left_face ≢ e.right_face → weight e.left_face q e ≡ weight e.right_face q e
unfolding weight
sides_weigh q e differ =
    (λ i. cond (xor (eq-eqb e.left_face e.left_face refl i) (ne_eqb e.right_face e.left_face (λ z. differ (sym z)) i)) (is_odd_over_at q (segments_of e.geom)) false)
    ∙ sym (λ i. cond (xor (ne_eqb e.left_face e.right_face differ i) (eq-eqb e.right_face e.right_face refl i)) (is_odd_over_at q (segments_of e.geom)) false)

off_weigh : (g : ℕ) (q : RationalPoint) (e : Edge) → g ≢ e.left_face → g ≢ e.right_face → weight g q e ≡ false
unfolding weight
off_weigh g q e nl nr = (λ i. cond (xor (ne_eqb e.left_face g (λ z. nl (sym z)) i) (ne_eqb e.right_face g (λ z. nr (sym z)) i)) (is_odd_over_at q (segments_of e.geom)) false)

-- two faces that become one
halves : (S : Drawing) (e : Edge) (gone : List ℕ) (kept : ℕ) (fs : List ℕ) (ids : Counters) (first : Segment) (rest : List Segment) → IsTold S → TwoSides S (merged_with S e gone kept fs ids) e first rest (renamed gone kept) kept
    → has_face (merged_with S e gone kept fs ids) kept ≡ true → ((g : ℕ) → has_face S g ≡ true → g ≢ e.left_face → g ≢ e.right_face → has_face (merged_with S e gone kept fs ids) g ≡ true)
    → HasHalves (merged_with S e gone kept fs ids) S e.left_face e.right_face kept (renamed gone kept)
halves S e gone kept fs ids first rest told h listed stays = record {
  differ = h.differ;
  inner = h.outer.inner;
  numbers = h.numbers;
  kept = listed;
  stays = stays;
  gone = λ g there n. let was = h.others g there n in (was.1, was.2);
  both = λ q.
      border_total kept q T.edges ∙ total_joined e.left_face e.right_face kept q T.edges ys h.differ pairs
      ∙ (λ i. xor (less e.left_face q i) (less e.right_face q i))
      ∙ ap (λ w. xor (xor (total e.left_face q S.edges) (weight e.left_face q e)) (xor (total e.right_face q S.edges) w)) (sym (sides_weigh q e h.differ))
      ∙ cancels (total e.left_face q S.edges) (total e.right_face q S.edges) (weight e.left_face q e)
      ∙ (λ i. xor (sym (border_total e.left_face q S.edges) i) (sym (border_total e.right_face q S.edges) i));
  other = λ g q nk nl nr.
      border_total g q T.edges ∙ total_other e.left_face e.right_face kept g q T.edges ys pairs nk nl nr ∙ less g q
      ∙ ap (xor (total g q S.edges)) (off_weigh g q e nl nr) ∙ xor_none (total g q S.edges) ∙ sym (border_total g q S.edges);
}
  where
    T : Drawing
    T = merged_with S e gone kept fs ids

    ys : List Edge
    ys = without_row edge_id_of S.edges e.edge_id

    less : (g : ℕ) (q : RationalPoint) → total g q ys ≡ xor (total g q S.edges) (weight g q e)
    less g q = total_without g q S.edges e (ids_differ edge_id_of 1 S.next_ids.edge S.edges told.order.edges) h.takes.there

    pairs : Pairs (IsJoined e.left_face e.right_face kept) T.edges ys
    pairs = pairs_from (IsJoined e.left_face e.right_face kept) (renamed_edge gone kept) ys (λ y c.
        let sides = (known S told.before.covered.ringed).sides y (was_edge S.edges e y c).0 in
        record { geom = refl; left = h.numbers y.left_face sides.0; right = h.numbers y.right_face sides.1 })

    cancels : (a b w : Bool) → xor (xor a w) (xor b w) ≡ xor a b
    cancels a b w = simp summing

-- ---- one face on both sides
pub edge_goes : (S : Drawing) (e : Edge) → EdgeMayGo S e → e.left_face ≡ e.right_face → IsTold S → IsSubdivided (merged_with S e [] e.left_face S.faces S.next_ids) → KeepsPoints S (merged_with S e [] e.left_face S.faces S.next_ids)
edge_goes S e may same told later = goes S e [] e.left_face S.faces S.next_ids (record {
  told = told;
  may = may;
  numbers = λ g _. record { joined = λ at. ⊎_elim (λ (p : g ≡ e.left_face). p) (λ (p : g ≡ e.right_face). p ∙ sym same) at; others = λ _ _. refl; fresh = inl refl };
  gone_sides = λ g t. absurd (false≢true t);
  sides_go = λ g at _. ⊎_elim (λ (p : g ≡ e.left_face). p) (λ (p : g ≡ e.right_face). p ∙ sym same) at;
  old_kept = λ _. inl refl;
  alike = λ u g k _ one two c. subst (Contains (listed_by S u)) (left_is g one ∙ sym (left_is k two)) c;
  later = later;
  inside = λ g q there inside. same_in S (merged_with S e [] e.left_face S.faces S.next_ids) g q told.before refl (λ m. parity m q) inside;
  beside = λ first rest takes. (one_side S e first rest same takes).beside;
})
  where
    left_is : (g : ℕ) → (g ≡ e.left_face) ⊎ (g ≡ e.right_face) → g ≡ e.left_face
    left_is g (inl p) = p
    left_is g (inr p) = p ∙ sym same

    ys : List Edge
    ys = without_row edge_id_of S.edges e.edge_id

    parity : (m : ℕ) (q : RationalPoint) → is_in_face_at (merged_with S e [] e.left_face S.faces S.next_ids) m q ≡ is_in_face_at S m q
    parity m q =
        border_total m q (map (renamed_edge [] e.left_face) ys) ∙ same_edges m q ys e.left_face
        ∙ total_without m q S.edges e (ids_differ edge_id_of 1 S.next_ids.edge S.edges told.order.edges) may.there
        ∙ ap (xor (total m q S.edges)) (no_weight m q e same) ∙ xor_none (total m q S.edges) ∙ sym (border_total m q S.edges)

-- ---- two faces join
-- a face that isn't one of these stays listed
face_stays : (S : Drawing) (gone : List ℕ) (g : ℕ) → has_face S g ≡ true → is_among g gone ≡ false → (x : ℕ) × (Contains (without_faces S gone) x × (x ≡ g))
face_stays S gone g there off =
    let (x, (c, t)) = any_out (λ x. x == g) S.faces there in
    let is = eqb-true x g t in
    (x, (contains-filter (λ f. not (is_among f gone)) x S.faces c (ap not (subst (λ m. is_among m gone ≡ false) (sym is) off)), is))

sides_of : (e : Edge) (kept goes : ℕ) → AreSides e kept goes → ((kept ≡ e.left_face) ⊎ (kept ≡ e.right_face)) × ((goes ≡ e.left_face) ⊎ (goes ≡ e.right_face)) × ((g : ℕ) → (g ≡ e.left_face) ⊎ (g ≡ e.right_face) → (g ≡ goes) ⊎ (g ≡ kept))
sides_of e kept gone (inl s) = (inl s.0, inr s.1, λ g at. ⊎_elim (λ (p : g ≡ e.left_face). inr (p ∙ sym s.0)) (λ (p : g ≡ e.right_face). inl (p ∙ sym s.1)) at)
sides_of e kept gone (inr s) = (inr s.0, inl s.1, λ g at. ⊎_elim (λ (p : g ≡ e.left_face). inl (p ∙ sym s.1)) (λ (p : g ≡ e.right_face). inr (p ∙ sym s.0)) at)

-- the same features list the two sides
sides_alike : (S : Drawing) (e : Edge) (u g k : ℕ) → IsTold S → FacesMayJoin S e → HasLevel S Areal zero u → (g ≡ e.left_face) ⊎ (g ≡ e.right_face) → (k ≡ e.left_face) ⊎ (k ≡ e.right_face) → Contains (listed_by S u) g → Contains (listed_by S u) k
sides_alike S e u g k told may level (inl p) (inl r) c = subst (Contains (listed_by S u)) (p ∙ sym r) c
sides_alike S e u g k told may level (inl p) (inr r) c = subst (Contains (listed_by S u)) (sym r) (listed_alike S Areal e.left_face e.right_face u told.rows level may.alike (subst (Contains (listed_by S u)) p c))
sides_alike S e u g k told may level (inr p) (inl r) c = subst (Contains (listed_by S u)) (sym r) (listed_alike S Areal e.right_face e.left_face u told.rows level (turned_alike S face_type e.left_face e.right_face may.alike) (subst (Contains (listed_by S u)) p c))
sides_alike S e u g k told may level (inr p) (inr r) c = subst (Contains (listed_by S u)) (p ∙ sym r) c

pub of_one : (g n : ℕ) → is_among g (n ∷ []) ≡ true → g ≡ n
of_one g n h = ⊎_elim (λ (e : (n == g) ≡ true). sym (eqb-true n g e)) (λ (e : false ≡ true). absurd cc) (or_cases (n == g) false h)

of_two : (g n m : ℕ) → is_among g (n ∷ m ∷ []) ≡ true → (g ≡ n) ⊎ (g ≡ m)
of_two g n m h = ⊎_elim (λ (e : (n == g) ≡ true). inl (sym (eqb-true n g e))) (λ (e : ((m == g) || false) ≡ true). inr (of_one g m e)) (or_cases (n == g) ((m == g) || false) h)

pub faces_join : (S : Drawing) (e : Edge) (kept goes : ℕ) → FacesMayJoin S e → AreSides e kept goes → goes ≢ 0 → IsTold S → IsSubdivided (faces_joined S e kept goes) → KeepsPoints S (faces_joined S e kept goes)
faces_join S e kept go may sides some told later =
    let b = begins e.geom ((has_plain_lines S told.before.covered.ringed.rings).long e may.edge.there) in
    let first : Segment = record { a = b.first; b = b.second } in
    let rest = segments_of (b.second ∷ b.rest) in
    let two = sides_join S e kept go first rest may sides some (record { before = told.before.covered; after = later.covered.ringed; there = may.edge.there; line = ap segments_of b.is; edges = refl }) in
    let which = sides_of e kept go sides in
    let T = faces_joined S e kept go in
    let half = halves S e (go ∷ []) kept (without_faces S (go ∷ [])) S.next_ids first rest told two listed stays in
    goes S e (go ∷ []) kept (without_faces S (go ∷ [])) S.next_ids (record {
      told = told;
      may = may.edge;
      numbers = two.numbers;
      gone_sides = λ g t. let is = of_one g go t in ⊎_elim (λ (p : go ≡ e.left_face). inl (is ∙ p)) (λ (p : go ≡ e.right_face). inr (is ∙ p)) which.1;
      sides_go = λ g at off. ⊎_elim (λ (p : g ≡ go). absurd (both_ways (is_among g (go ∷ [])) off (among_in g (go ∷ []) (subst (Contains (go ∷ [])) (sym p) (contains_here go []))))) (λ (p : g ≡ kept). p) (which.2 g at);
      old_kept = λ _. which.0;
      alike = λ u g k level one other c. sides_alike S e u g k told may level one other c;
      later = later;
      inside = λ g q there inside. in_halves T S e.left_face e.right_face kept (renamed (go ∷ []) kept) g q later told.before half there inside;
      beside = λ f r takes. (two_settled S T e f r (renamed (go ∷ []) kept) kept (sides_join S e kept go f r may sides some takes)).beside;
    })
  where
    faces : (has_face S e.left_face ≡ true) × (has_face S e.right_face ≡ true)
    faces = (known S told.before.covered.ringed).sides e may.edge.there

    listed_in_T : (g : ℕ) → has_face S g ≡ true → is_among g (go ∷ []) ≡ false → has_face (faces_joined S e kept go) g ≡ true
    listed_in_T g there off = let (x, (c, is)) = face_stays S (go ∷ []) g there off in any_in (λ x. x == g) (without_faces S (go ∷ [])) x c (eq-eqb x g is)

    differ : go ≢ kept
    differ z = ⊎_elim (λ (s : (kept ≡ e.left_face) × (go ≡ e.right_face)). may.differ (sym s.0 ∙ sym z ∙ s.1)) (λ (s : (kept ≡ e.right_face) × (go ≡ e.left_face)). may.differ (sym s.1 ∙ z ∙ s.0)) sides

    listed : has_face (faces_joined S e kept go) kept ≡ true
    listed = listed_in_T kept (⊎_elim (λ (p : kept ≡ e.left_face). subst (λ m. has_face S m ≡ true) (sym p) faces.0) (λ (p : kept ≡ e.right_face). subst (λ m. has_face S m ≡ true) (sym p) faces.1) (sides_of e kept go sides).0)
        (false_from_ne_true (is_among kept (go ∷ [])) (λ t. differ (sym (of_one kept go t))))

    stays : (g : ℕ) → has_face S g ≡ true → g ≢ e.left_face → g ≢ e.right_face → has_face (faces_joined S e kept go) g ≡ true
    stays g there nl nr = listed_in_T g there (false_from_ne_true (is_among g (go ∷ [])) (λ t.
        let is = of_one g go t in ⊎_elim (λ (p : go ≡ e.left_face). nl (is ∙ p)) (λ (p : go ≡ e.right_face). nr (is ∙ p)) (sides_of e kept go sides).1))

pub faces_join_anew : (S : Drawing) (e : Edge) → FacesMayJoin S e → e.left_face ≢ 0 → e.right_face ≢ 0 → IsTold S → IsSubdivided (faces_joined_anew S e) → KeepsPoints S (faces_joined_anew S e)
faces_join_anew S e may some other told later =
    let b = begins e.geom ((has_plain_lines S told.before.covered.ringed.rings).long e may.edge.there) in
    let first : Segment = record { a = b.first; b = b.second } in
    let rest = segments_of (b.second ∷ b.rest) in
    let two = sides_join_anew S e first rest may some other below (record { before = told.before.covered; after = later.covered.ringed; there = may.edge.there; line = ap segments_of b.is; edges = refl }) in
    let T = faces_joined_anew S e in
    let half = halves S e gone new fs (record (S.next_ids) { face = new + 1 }) first rest told two listed stays in
    goes S e gone new fs (record (S.next_ids) { face = new + 1 }) (record {
      told = told;
      may = may.edge;
      numbers = two.numbers;
      gone_sides = λ g t. of_two g e.left_face e.right_face t;
      sides_go = λ g at off. absurd (both_ways (is_among g gone) off (in_gone g at));
      old_kept = λ there. absurd (not_new new there refl);
      alike = λ u g k level one two c. sides_alike S e u g k told may level one two c;
      later = later;
      inside = λ g q there inside. in_halves T S e.left_face e.right_face new (renamed gone new) g q later told.before half there inside;
      beside = λ f r takes. (two_settled S T e f r (renamed gone new) new (sides_join_anew S e f r may some other below takes)).beside;
    })
  where
    new : ℕ
    new = S.next_ids.face

    gone : List ℕ
    gone = e.left_face ∷ e.right_face ∷ []

    fs : List ℕ
    fs = without_faces S gone ++ new ∷ []

    below : FacesBelow S
    below = faces_below S (faces_in_order S told.before.referenced.ids)

    not_new : (g : ℕ) → has_face S g ≡ true → g ≢ new
    not_new g there z = let k = below g there in omega (arith, k, z)

    in_gone : (g : ℕ) → (g ≡ e.left_face) ⊎ (g ≡ e.right_face) → is_among g gone ≡ true
    in_gone g (inl p) = among_in g gone (subst (Contains gone) (sym p) (contains_here e.left_face (e.right_face ∷ [])))
    in_gone g (inr p) = among_in g gone (subst (Contains gone) (sym p) (contains_there e.right_face e.left_face (e.right_face ∷ []) (contains_here e.right_face [])))

    listed : has_face (faces_joined_anew S e) new ≡ true
    listed = any_in (λ x. x == new) fs new (Contains-push (without_faces S gone) new) (eq-eqb new new refl)

    stays : (g : ℕ) → has_face S g ≡ true → g ≢ e.left_face → g ≢ e.right_face → has_face (faces_joined_anew S e) g ≡ true
    stays g there nl nr =
        let off = false_from_ne_true (is_among g gone) (λ t. ⊎_elim (λ (p : g ≡ e.left_face). nl p) (λ (p : g ≡ e.right_face). nr p) (of_two g e.left_face e.right_face t)) in
        let (x, (c, is)) = face_stays S gone g there off in
        any_in (λ x. x == g) fs x (Contains-append_left (without_faces S gone) (new ∷ []) x c) (eq-eqb x g is)

-- ---- an edge that stands alone
pub lone_edge_goes : (S : Drawing) (e : Edge) → LoneEdgeMayGo S e → IsTold S → IsSubdivided (without_edge S e) → KeepsPoints S (without_edge S e)
lone_edge_goes S e may told later =
    edge_less (without_edge S e) S e (λ m. m) e.left_face told later one (same_lists S (without_edge S e) (without_edge S e) S refl refl refl refl)
    (put_twice_same (Some e.left_face) e.start_node e.end_node S.nodes) (λ u k among. unlisted S e.edge_id u told may.unlisted k among)
  where
    T : Drawing
    T = without_edge S e

    ys : List Edge
    ys = without_row edge_id_of S.edges e.edge_id

    same : e.left_face ≡ e.right_face
    same = alone_sides S e told.before.covered may.there (alone_of S e may.lone)

    parity : (m : ℕ) (q : RationalPoint) → is_in_face_at T m q ≡ is_in_face_at S m q
    parity m q =
        border_total m q ys
        ∙ total_without m q S.edges e (ids_differ edge_id_of 1 S.next_ids.edge S.edges told.order.edges) may.there
        ∙ ap (xor (total m q S.edges)) (no_weight m q e same) ∙ xor_none (total m q S.edges) ∙ sym (border_total m q S.edges)

    renames : (y : Edge) → IsRenamed (λ m. m) y y
    renames y = record { id = refl; geom = refl; left = refl; right = refl }

    less : IsWithout S T e
    less = record {
      there = may.there;
      row = λ n c. put_forth n c;
      was_row = λ m c.
          let p = put_row (Some e.left_face) e.start_node (put_in_face (Some e.left_face) e.end_node S.nodes) m c in
          let r = put_row (Some e.left_face) e.end_node S.nodes p.0 p.1.0 in
          (r.0, (r.1.0, (p.1.1.0 ∙ r.1.1.0, p.1.1.1 ∙ r.1.1.1)));
      was_edge = λ y c. let was = was_edge S.edges e y c in (y, (was.0, (was.1, refl)));
    }
      where
        one_put : (m : ℕ) (nodes : List NodeRow) (n : NodeRow) → Contains nodes n → (k : NodeRow) × (Contains (put_in_face (Some e.left_face) m nodes) k × ((k.node_id ≡ n.node_id) × (k.geom ≡ n.geom)))
        one_put m nodes n c = (change n, (contains-map change n nodes c, by (node_id_of n == m)))
          where
            change : NodeRow → NodeRow
            change r = cond (node_id_of r == m) (record r { containing_face = Some e.left_face }) r

            by : (t : Bool) → ((cond t (record n { containing_face = Some e.left_face }) n).node_id ≡ n.node_id) × ((cond t (record n { containing_face = Some e.left_face }) n).geom ≡ n.geom)
            by true = (refl, refl)
            by false = (refl, refl)

        put_forth : (n : NodeRow) → Contains S.nodes n → (k : NodeRow) × (Contains T.nodes k × ((k.node_id ≡ n.node_id) × (k.geom ≡ n.geom)))
        put_forth n c =
            let (m, (i, one)) = one_put e.end_node S.nodes n c in
            let (k, (j, two)) = one_put e.start_node (put_in_face (Some e.left_face) e.end_node S.nodes) m i in
            (k, (j, (two.0 ∙ one.0, two.1 ∙ one.1)))

    by_line : (q : RationalPoint) → IsOnEdge q e → (IsOffEdges T q × IsTrue (is_in T e.left_face q)) ⊎ OnSides T (e.left_face ∷ []) q
    by_line q on =
        let b = begins e.geom ((has_plain_lines S told.before.covered.ringed.rings).long e may.there) in
        let first : Segment = record { a = b.first; b = b.second } in
        let rest = segments_of (b.second ∷ b.rest) in
        on_gone S T e first rest e.left_face q told.before later less (ap segments_of b.is) (lone_settled S e first rest may told.before.covered later.covered.ringed (ap segments_of b.is)).beside on

    one : HasOneMore T S e (λ m. m) e.left_face
    one = record {
      more = λ x c. (x, ((was_edge S.edges e x c).0, renames x));
      from = λ y c.
          ⊎_elim (λ (is : y ≡ e). inr (sym is)) (λ (far : y.edge_id ≡ e.edge_id → ⊥). inl (y, (kept_edge S.edges e y c far, renames y)))
          (edge_or_not S e y (has_plain_lines S told.before.covered.ringed.rings) may.there c);
      there = may.there;
      left = refl;
      right = sym same;
      inside = λ g q there inside. same_in S T g q told.before refl (λ m. parity m q) inside;
      on = by_line;
    }
