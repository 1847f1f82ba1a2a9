-- Edges that are split leave the points of features.
use Rattle.std.proofs.Common.{◌≡◌, ◌≢◌, ◌∙◌, ℕ, zero, ◌+◌, arith, refl, sym, ap, subst, ◌⊎◌, inl, inr, ⊎_elim, true, false, ◌||◌, ◌==◌, eq-eqb, eqb-true, List, [], ◌∷◌, ◌++◌}
use Rattle.std.specs.Prelude.{◌↔◌, IsTrue}
use Rattle.std.specs.List.{Contains, list_all}
use Rattle.std.proofs.lemmas.Bool.{false≢true, ne_eqb, or_left}
use Rattle.std.proofs.lemmas.List.Elements.{Contains-append_left, Contains-append_right}
use Rattle.topo_base.specs.Kinds.{kind_number}
use Rattle.topo_base.specs.Point.{Point}
use Rattle.topo_base.specs.RationalPoint.{RationalPoint}
use Rattle.topo_base.specs.declared.kind.Kind.{Kind}
use Rattle.topo_base.specs.declared.kind.Kind.TheVariants.{Puntal, Lineal, Areal}
use Rattle.topo_base.specs.declared.rows.Counters.{Counters}
use Rattle.topo_base.specs.declared.rows.RelationRow.{RelationRow}
use Rattle.drawing.specs.Descent.{listed_by}
use Rattle.drawing.specs.Drawing.{Drawing, Edge, edge_id_of}
use Rattle.drawing.specs.FeaturePoints.{AtNodes, OnEdges, IsPointOfElements}
use Rattle.plane.specs.Line.{is_proper, line_from, line_up_to, segments_of}
use Rattle.plane.specs.RationalTests.{IsOn, IsOnLine}
use Rattle.drawing.specs.DrawnPoints.{IsOnEdge, is_in_face_at}
use Rattle.plane.specs.Relation.{IsProper, SameCoordinates}
use Rattle.drawing.specs.Relations.{edge_type, follow, is_among}
use Rattle.drawing.specs.Rows.{with_change, without_row}
use Rattle.plane.specs.Segment.{Segment}
use Rattle.drawing.specs.SplitEdge.{first_part, second_part}
use Rattle.plane.proofs.LineCuts.{from_on, up_to_on}
use Rattle.plane.proofs.LineParts.{Cut, cut}
use Rattle.plane.proofs.ListTests.{contains_cases, contains_here, contains_there}
use Rattle.drawing.proofs.Members.{ids_differ, ids_within}
use Rattle.drawing.proofs.Ordering.{InOrder}
use Rattle.drawing.proofs.PlainSplits.{new_node, one_point}
use Rattle.plane.proofs.SegmentParts.{segment}
use Rattle.plane.proofs.SimpleTests.{Decides-proper}
use Rattle.face_rings.proofs.FaceBorders.{has_plain_lines}
use Rattle.face_rings.proofs.HalfLines.{HasPlainLines}
use Rattle.grid_lines.proofs.Dividing.{part_on}
use Rattle.reference_laws.proofs.KnownRows.{HasKnownRows}
use Rattle.reference_laws.proofs.DrawingChanges.{one_of_two}
use Rattle.ring_laws.proofs.Known.{all_out, any_out}
use Rattle.ring_laws.proofs.SplitSides.{IsSplitInto, split_with}
use Rattle.subdivision_laws.proofs.CutEdges.{edge_or_not}
use Rattle.ring_laws.proofs.EdgesCut.{both_new, one_changed}
use Rattle.ring_laws.proofs.RingedDrawings.{before_of}
use Rattle.subdivision_laws.specs.Subdivided.{IsSubdivided}
use Rattle.edit_changes.specs.Evidence.{EdgeMayBeCut}
use Rattle.drawing.specs.SplitEdge.{split_mod_done, split_new_done}
use Rattle.point_laws.specs.PointsStay.{KeepsPoints}
use Rattle.point_laws.proofs.Told.{IsTold}
use Rattle.point_laws.proofs.CutParity.{both_same, changed_same}
use Rattle.point_laws.proofs.SameArea.{IsSameArea, LieOn, has_side, same_area}
use Rattle.point_laws.proofs.Follow.{above_same_rows, listed_anew, other_same_rows}
use Rattle.point_laws.proofs.Levels.{HasLevel, points_kept}
use Rattle.point_laws.proofs.NodeEdits.{comes_at}
use Rattle.point_laws.proofs.Primitive.{among_in, among_out, among_same, listing, rows_list}
use Rattle.point_laws.proofs.EdgesGo.{of_one}

-- ---- a point of a line is on one of its parts
either_list : {X : Type 0} (x : X) (xs ys : List X) → Contains (xs ++ ys) x → Contains xs x ⊎ Contains ys x
either_list x [] ys c = inr c
either_list x (z ∷ xs) ys c =
    ⊎_elim (λ (e : z ≡ x). inl (subst (Contains (z ∷ xs)) e (contains_here z xs)))
    (λ (k : Contains (xs ++ ys) x). ⊎_elim (λ (l : Contains xs x). inl (contains_there x z xs l)) (λ (r : Contains ys x). inr r) (either_list x xs ys k))
    (contains_cases x z (xs ++ ys) c)

pub on_parts : (p : Point) (line : List Point) (q : RationalPoint) → Cut p line → list_all is_proper (segments_of line) ≡ true → IsOnLine q line → IsOnLine q (line_up_to p line) ⊎ IsOnLine q (line_from p line)
on_parts p line q c proper (s, (i, on)) = ⊎_elim before onward (either_list s c.pre (c.here ∷ c.post) (subst (λ (ss : List Segment). Contains ss s) c.whole i))
  where
    before : Contains c.pre s → IsOnLine q (line_up_to p line) ⊎ IsOnLine q (line_from p line)
    before d = inl (s, (subst (λ (ss : List Segment). Contains ss s) (sym c.first) (Contains-append_left c.pre (segment c.here.a p ∷ []) s d), on))

    in_last : (t : Segment) → t ≡ segment c.here.a p → IsOn q t → IsOnLine q (line_up_to p line)
    in_last t e k = (segment c.here.a p, (subst (λ (ss : List Segment). Contains ss (segment c.here.a p)) (sym c.first) (Contains-append_right c.pre (segment c.here.a p ∷ []) (segment c.here.a p) (contains_here (segment c.here.a p) [])), subst (IsOn q) e k))

    in_rest : (t : Segment) → Contains c.post t → IsOn q t → IsOnLine q (line_from p line)
    in_rest t d k =
        ⊎_elim
        (λ (e : (c.skipped ≡ 0) × (segments_of (line_from p line) ≡ segment p c.here.b ∷ c.post) × (SameCoordinates p c.here.b → ⊥)). (t, (subst (λ (ss : List Segment). Contains ss t) (sym e.1) (contains_there t (segment p c.here.b) c.post d), k)))
        (λ (e : (c.skipped ≡ 1) × (segments_of (line_from p line) ≡ c.post) × SameCoordinates p c.here.b). (t, (subst (λ (ss : List Segment). Contains ss t) (sym e.1) d, k)))
        c.second.is

    proper_here : IsProper c.here
    proper_here = (Decides-proper c.here).0 (all_out is_proper (segments_of line) c.here proper (subst (λ (ss : List Segment). Contains ss c.here) (sym c.whole) (Contains-append_right c.pre (c.here ∷ c.post) c.here (contains_here c.here c.post))))

    here : IsOn q c.here → IsOnLine q (line_up_to p line) ⊎ IsOnLine q (line_from p line)
    here k =
        ⊎_elim
        (λ (e : (c.skipped ≡ 0) × (segments_of (line_from p line) ≡ segment p c.here.b ∷ c.post) × (SameCoordinates p c.here.b → ⊥)).
        ⊎_elim
        (λ (l : IsOn q (segment c.here.a p)). inl (in_last (segment c.here.a p) refl l))
        (λ (r : IsOn q (segment p c.here.b)). inr (segment p c.here.b, (subst (λ (ss : List Segment). Contains ss (segment p c.here.b)) (sym e.1) (contains_here (segment p c.here.b) c.post), r)))
        (part_on c.here.a c.here.b p q proper_here c.on k))
        (λ (e : (c.skipped ≡ 1) × (segments_of (line_from p line) ≡ c.post) × SameCoordinates p c.here.b).
        inl (in_last c.here (λ j. record { a = c.here.a; b = one_point c.here.b p (sym e.2.0, sym e.2.1) j }) k))
        c.second.is

    onward : Contains (c.here ∷ c.post) s → IsOnLine q (line_up_to p line) ⊎ IsOnLine q (line_from p line)
    onward d =
        ⊎_elim (λ (e : c.here ≡ s). here (subst (IsOn q) (sym e) on)) (λ (k : Contains c.post s). inr (in_rest s k on)) (contains_cases s c.here c.post d)

-- ---- features of edges
-- an old edge with the id of a part is the edge itself
pub record AreNewIds (S : Drawing) (e : Edge) (id id' : ℕ) : Type 0 where
  pub first : (x : Edge) → Contains S.edges x → x.edge_id ≡ id → x.edge_id ≡ e.edge_id
  pub second : (x : Edge) → Contains S.edges x → x.edge_id ≡ id' → x.edge_id ≡ e.edge_id

not_old : (w n : ℕ) → (w ≡ n → ⊥) → is_among w (n ∷ []) ≡ false
not_old w n far = ap (λ b. b || false) (ne_eqb n w (λ e. far (sym e)))

split_lineal : (S : Drawing) (e : Edge) (p : Point) (id id' : ℕ) (fs : List Edge) (ids : Counters) (u : ℕ) (q : RationalPoint) → HasKnownRows S → HasPlainLines S → IsSplitInto S e p id id' fs → AreNewIds S e id id' → HasLevel S Lineal zero u
    → OnEdges S (listed_by S u) q
    ↔ OnEdges (split_with S p fs (follow S edge_type (e.edge_id ∷ []) (id ∷ id' ∷ [])) ids) (listed_by (split_with S p fs (follow S edge_type (e.edge_id ∷ []) (id ∷ id' ∷ [])) ids) u) q
split_lineal S e p id id' fs ids u q knows good split new k = (to, from)
  where
    T : Drawing
    T = split_with S p fs (follow S edge_type (e.edge_id ∷ []) (id ∷ id' ∷ [])) ids

    c : Cut p e.geom
    c = cut p e.geom split.on

    lists : (w : ℕ) → Contains (listed_by T u) w ↔ ((Contains (listed_by S u) w × (is_among w (e.edge_id ∷ []) ≡ false)) ⊎ (Contains (id ∷ id' ∷ []) w × ((o : ℕ) × (Contains (listed_by S u) o × (is_among o (e.edge_id ∷ []) ≡ true)))))
    lists w = listed_anew S edge_type (e.edge_id ∷ []) (id ∷ id' ∷ []) u w (rows_list S Lineal u knows k)

    own : Contains (listed_by S u) e.edge_id → (w : ℕ) → Contains (id ∷ id' ∷ []) w → IsTrue (is_among w (listed_by T u))
    own d w i = among_in w (listed_by T u) ((lists w).1 (inr (i, (e.edge_id, (d, or_left (e.edge_id == e.edge_id) false (eq-eqb e.edge_id e.edge_id refl))))))

    to : OnEdges S (listed_by S u) q → OnEdges T (listed_by T u) q
    to (x, (cx, among, on)) =
        ⊎_elim
        (λ (is : x ≡ e).
        let d = subst (λ (y : Edge). Contains (listed_by S u) y.edge_id) is (among_out x.edge_id (listed_by S u) among) in
        ⊎_elim
        (λ (l : IsOnLine q (line_up_to p e.geom)). (first_part e S.next_ids.node p id, (split.first, own d id (contains_here id (id' ∷ [])), l)))
        (λ (r : IsOnLine q (line_from p e.geom)). (second_part e S.next_ids.node p id', (split.second, own d id' (contains_there id' id (id' ∷ []) (contains_here id' [])), r)))
        (on_parts p e.geom q c (good.plain.fit e split.there).proper (subst (IsOnEdge q) is on)))
        (λ (far : x.edge_id ≡ e.edge_id → ⊥).
        (x, (split.old x cx far, among_in x.edge_id (listed_by T u) ((lists x.edge_id).1 (inl (among_out x.edge_id (listed_by S u) among, not_old x.edge_id e.edge_id far))), on)))
        (edge_or_not S e x good split.there cx)

    -- an element that is listed after it, and is no old edge but this one, is listed in its place
    replaced : (w : ℕ) → ((x : Edge) → Contains S.edges x → x.edge_id ≡ w → x.edge_id ≡ e.edge_id) → IsTrue (is_among w (listed_by T u)) → Contains (listed_by S u) e.edge_id
    replaced w only among =
        ⊎_elim
        (λ (l : Contains (listed_by S u) w × (is_among w (e.edge_id ∷ []) ≡ false)).
        let there = any_out (λ (y : Edge). edge_id_of y == w) S.edges (listing S Lineal u w knows k l.0).known in
        let same : there.0.edge_id ≡ w = eqb-true there.0.edge_id w there.1.1 in
        absurd (false≢true (sym l.1 ∙ or_left (e.edge_id == w) false (eq-eqb e.edge_id w (sym (only there.0 there.1.0 same) ∙ same)))))
        (λ (r : Contains (id ∷ id' ∷ []) w × ((o : ℕ) × (Contains (listed_by S u) o × (is_among o (e.edge_id ∷ []) ≡ true)))).
        subst (Contains (listed_by S u)) (of_one r.1.0 e.edge_id r.1.1.1) r.1.1.0)
        ((lists w).0 (among_out w (listed_by T u) among))

    from : OnEdges T (listed_by T u) q → OnEdges S (listed_by S u) q
    from (x, (cx, among, on)) = ⊎_elim old parts (split.from x cx)
      where
        old : Contains S.edges x × (x.edge_id ≡ e.edge_id → ⊥) → OnEdges S (listed_by S u) q
        old (d, far) =
            ⊎_elim
            (λ (l : Contains (listed_by S u) x.edge_id × (is_among x.edge_id (e.edge_id ∷ []) ≡ false)). (x, (d, among_in x.edge_id (listed_by S u) l.0, on)))
            (λ (r : Contains (id ∷ id' ∷ []) x.edge_id × ((o : ℕ) × (Contains (listed_by S u) o × (is_among o (e.edge_id ∷ []) ≡ true)))).
            absurd (far (⊎_elim (λ (f : id ≡ x.edge_id). new.first x d (sym f)) (λ (f : id' ≡ x.edge_id). new.second x d (sym f)) (one_of_two id id' x.edge_id r.0))))
            ((lists x.edge_id).0 (among_out x.edge_id (listed_by T u) among))

        whole : IsOnEdge q e → Contains (listed_by S u) e.edge_id → OnEdges S (listed_by S u) q
        whole k d = (e, (split.there, among_in e.edge_id (listed_by S u) d, k))

        parts : (first_part e S.next_ids.node p id ≡ x) ⊎ (second_part e S.next_ids.node p id' ≡ x) → OnEdges S (listed_by S u) q
        parts way =
            ⊎_elim
            (λ (is : first_part e S.next_ids.node p id ≡ x).
            whole (up_to_on p e.geom c q (subst (IsOnEdge q) (sym is) on)) (replaced id new.first (subst (λ (y : Edge). IsTrue (is_among y.edge_id (listed_by T u))) (sym is) among)))
            (λ (is : second_part e S.next_ids.node p id' ≡ x).
            whole (from_on p e.geom c q (subst (IsOnEdge q) (sym is) on)) (replaced id' new.second (subst (λ (y : Edge). IsTrue (is_among y.edge_id (listed_by T u))) (sym is) among)))
            way

-- ---- features of faces
split_area : (S : Drawing) (e : Edge) (p : Point) (id id' : ℕ) (fs : List Edge) (rows : List RelationRow) (next : Counters) → HasPlainLines S → IsSplitInto S e p id id' fs
    → ((g : ℕ) (q : RationalPoint) → is_in_face_at (split_with S p fs rows next) g q ≡ is_in_face_at S g q) → IsSameArea S (split_with S p fs rows next)
split_area S e p id id' fs rows next good split same = record { forth = forth; back = λ x q cx on. back x q on (split.from x cx); faces = refl; parity = same }
  where
    c : Cut p e.geom
    c = cut p e.geom split.on

    forth : LieOn S (split_with S p fs rows next)
    forth x q cx on =
        ⊎_elim
        (λ (is : x ≡ e).
        ⊎_elim
        (λ (l : IsOnLine q (line_up_to p e.geom)). (first_part e S.next_ids.node p id, (split.first, l, λ ids. ap (λ z. has_side z ids) is)))
        (λ (r : IsOnLine q (line_from p e.geom)). (second_part e S.next_ids.node p id', (split.second, r, λ ids. ap (λ z. has_side z ids) is)))
        (on_parts p e.geom q c (good.plain.fit e split.there).proper (subst (IsOnEdge q) is on)))
        (λ (far : x.edge_id ≡ e.edge_id → ⊥). (x, (split.old x cx far, on, λ ids. refl)))
        (edge_or_not S e x good split.there cx)

    back : (x : Edge) (q : RationalPoint) → IsOnEdge q x → (Contains S.edges x × (x.edge_id ≢ e.edge_id)) ⊎ ((first_part e S.next_ids.node p id ≡ x) ⊎ (second_part e S.next_ids.node p id' ≡ x))
        → (y : Edge) × (Contains S.edges y × IsOnEdge q y × ((ids : List ℕ) → has_side x ids ≡ has_side y ids))
    back x q on (inl old) = (x, (old.0, on, λ ids. refl))
    back x q on (inr (inl is)) = (e, (split.there, up_to_on p e.geom c q (subst (IsOnEdge q) (sym is) on), λ ids. ap (λ z. has_side z ids) (sym is)))
    back x q on (inr (inr is)) = (e, (split.there, from_on p e.geom c q (subst (IsOnEdge q) (sym is) on), λ ids. ap (λ z. has_side z ids) (sym is)))

-- ---- both kinds of split
parts_keep : (S : Drawing) (e : Edge) (p : Point) (id id' : ℕ) (fs : List Edge) (next : Counters) → IsTold S → IsSplitInto S e p id id' fs → AreNewIds S e id id'
    → ((g : ℕ) (q : RationalPoint) → is_in_face_at (split_with S p fs (follow S edge_type (e.edge_id ∷ []) (id ∷ id' ∷ [])) next) g q ≡ is_in_face_at S g q)
    → IsSubdivided (split_with S p fs (follow S edge_type (e.edge_id ∷ []) (id ∷ id' ∷ [])) next)
    → KeepsPoints S (split_with S p fs (follow S edge_type (e.edge_id ∷ []) (id ∷ id' ∷ [])) next)
parts_keep S e p id id' fs next h split new same later t before still =
    points_kept S T (λ n u. Unit {0}) t h.rows
    (record {
      features = λ u row f _. f;
      layers = λ n row f. f;
      down = λ kind n u v k own c. tt;
      rows = λ kind n u v k own. above_same_rows S edge_type (e.edge_id ∷ []) (id ∷ id' ∷ []) kind n u v h.rows k;
      base = λ kind u q k own. by kind u q k;
    })
    (λ n. tt) before still
  where
    T : Drawing
    T = split_with S p fs (follow S edge_type (e.edge_id ∷ []) (id ∷ id' ∷ [])) next

    good : HasPlainLines S
    good = has_plain_lines S h.before.covered.ringed.rings

    unfollowed : (kind : Kind) (u : ℕ) → HasLevel S kind zero u → (kind_number kind == edge_type) ≡ false → (v : ℕ) → Contains (listed_by S u) v ↔ Contains (listed_by T u) v
    unfollowed kind u k differ v = other_same_rows S edge_type (e.edge_id ∷ []) (id ∷ id' ∷ []) kind u v h.rows differ k

    nodes : (u : ℕ) (q : RationalPoint) → HasLevel S Puntal zero u → AtNodes S (listed_by S u) q ↔ AtNodes T (listed_by T u) q
    nodes u q k =
        let come = comes_at S u q (new_node S.next_ids.node p) S.next_ids h.rows h.order.nodes refl k in
        let lists = unfollowed Puntal u k refl in (
          λ r. let m = come.0 r in (m.0, (m.1.0, among_same m.0.node_id (listed_by S u) (listed_by T u) (λ v. (lists v).0) m.1.1, m.1.2)),
          λ r. come.1 (r.0, (r.1.0, among_same r.0.node_id (listed_by T u) (listed_by S u) (λ v. (lists v).1) r.1.1, r.1.2)),
        )

    by : (kind : Kind) (u : ℕ) (q : RationalPoint) → HasLevel S kind zero u → IsPointOfElements S kind (listed_by S u) q ↔ IsPointOfElements T kind (listed_by T u) q
    by Puntal u q k = nodes u q k
    by Lineal u q k = split_lineal S e p id id' fs next u q h.rows good split new k
    by Areal u q k =
        same_area S T (listed_by S u) (listed_by T u) q h.before later (split_area S e p id id' fs (follow S edge_type (e.edge_id ∷ []) (id ∷ id' ∷ [])) next good split same) (unfollowed Areal u k refl)

-- the next ids are no old edge's
fresh_id : (S : Drawing) (e : Edge) (k : ℕ) → InOrder edge_id_of 1 S.next_ids.edge S.edges → (x : Edge) → Contains S.edges x → x.edge_id ≡ S.next_ids.edge + k → x.edge_id ≡ e.edge_id
fresh_id S e k ascend x c is = let below = (ids_within edge_id_of 1 S.next_ids.edge S.edges x ascend c).1 in absurd (omega arith)

-- the edge becomes its first part
pub edge_cut : (S : Drawing) (e : Edge) (p : Point) → EdgeMayBeCut S e p → IsTold S → IsSubdivided ((split_mod_done S e p).drawing) → KeepsPoints S ((split_mod_done S e p).drawing)
edge_cut S e p may h later =
    let split = one_changed S e p may (before_of S h.before.covered.ringed) in
    parts_keep S e p e.edge_id S.next_ids.edge (with_change edge_id_of S.edges e.edge_id (λ x. first_part x S.next_ids.node p x.edge_id) ++ second_part e S.next_ids.node p S.next_ids.edge ∷ [])
    (record (S.next_ids) { node = S.next_ids.node + 1; edge = S.next_ids.edge + 1 }) h split
    (record { first = λ x d is. is; second = λ x d is. fresh_id S e 0 h.order.edges x d (omega arith) })
    (λ g q. changed_same g q S.edges e p S.next_ids.node S.next_ids.edge (ids_differ edge_id_of 1 S.next_ids.edge S.edges h.order.edges) may.there (cut p e.geom split.on)) later

-- both parts are new
pub edge_cut_anew : (S : Drawing) (e : Edge) (p : Point) → EdgeMayBeCut S e p → IsTold S → IsSubdivided ((split_new_done S e p).drawing) → KeepsPoints S ((split_new_done S e p).drawing)
edge_cut_anew S e p may h later =
    let split = both_new S e p may (before_of S h.before.covered.ringed) in
    parts_keep S e p S.next_ids.edge (S.next_ids.edge + 1) (without_row edge_id_of S.edges e.edge_id ++ first_part e S.next_ids.node p S.next_ids.edge ∷ second_part e S.next_ids.node p (S.next_ids.edge + 1) ∷ [])
    (record (S.next_ids) { node = S.next_ids.node + 1; edge = S.next_ids.edge + 2 }) h split
    (record { first = λ x d is. fresh_id S e 0 h.order.edges x d (omega arith); second = fresh_id S e 1 h.order.edges })
    (λ g q. both_same g q S.edges e p S.next_ids.node S.next_ids.edge (S.next_ids.edge + 1) (ids_differ edge_id_of 1 S.next_ids.edge S.edges h.order.edges) may.there (cut p e.geom split.on)) later
