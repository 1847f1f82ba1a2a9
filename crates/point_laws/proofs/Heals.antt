-- Two edges that are joined leave the points of features.
use Rattle.std.proofs.Common.{◌≡◌, ◌∙◌, ℕ, zero, ◌+◌, arith, refl, sym, ap, subst, ◌⊎◌, inl, inr, ⊎_elim, true, false, ◌||◌, ◌==◌, List, [], ◌∷◌, eqb-true}
use Rattle.std.specs.Prelude.{◌↔◌, reverse}
use Rattle.std.specs.List.{Contains}
use Rattle.std.proofs.lemmas.Bool.{both_ways, false≢true, ne_eqb, or_cases}
use Rattle.std.proofs.lemmas.List.{reverse-reverse}
use Rattle.std.proofs.Math.Bool.{or_comm}
use Rattle.topo_base.specs.RationalPoint.{RationalPoint}
use Rattle.topo_base.specs.declared.kind.Kind.{Kind}
use Rattle.topo_base.specs.declared.kind.Kind.TheVariants.{Areal, Lineal, Puntal}
use Rattle.topo_base.specs.declared.rows.Counters.{Counters}
use Rattle.plane.specs.Line.{segments_of}
use Rattle.plane.specs.RationalTests.{IsOnLine}
use Rattle.plane.proofs.LineTurns.{reverse_on}
use Rattle.plane.proofs.ListTests.{contains_cases, contains_here, contains_none, contains_there}
use Rattle.drawing.specs.Descent.{listed_by}
use Rattle.drawing.specs.DrawnPoints.{IsOnEdge, is_in_face_at}
use Rattle.drawing.specs.Drawing.{Drawing, Edge, edge_id_of}
use Rattle.drawing.specs.FeaturePoints.{OnEdges, IsPointOfElements}
use Rattle.drawing.specs.HalfEdge.{HalfEdge, half_edges, twin}
use Rattle.drawing.specs.HealEdges.{heal_mod_done, heal_new_done, joined_edge}
use Rattle.drawing.specs.Relations.{edge_type, follow, is_among}
use Rattle.drawing.proofs.Members.{ids_within}
use Rattle.edit_changes.specs.Evidence.{EdgesMayBeJoined}
use Rattle.edit_changes.proofs.IdsOrdering.{joined_id}
use Rattle.parity_laws.specs.Rings.{In}
use Rattle.face_rings.proofs.FaceBorders.{has_plain_lines}
use Rattle.face_rings.proofs.HalfLines.{HasPlainLines}
use Rattle.face_rings.proofs.HalvesApart.{half_of, line_of}
use Rattle.ring_laws.proofs.EdgesJoin.{joined_anew, joined_changed}
use Rattle.ring_laws.proofs.HealedSides.{healed_with}
use Rattle.ring_laws.proofs.Joint.{AreBoth, IsHealed, Joint, edge_cases, first_there, joint_sides, make_joint}
use Rattle.ring_laws.proofs.Known.{any_out}
use Rattle.ring_laws.proofs.RingedDrawings.{before_of}
use Rattle.ring_laws.proofs.Turning.{joined_of}
use Rattle.face_laws.specs.Covered.{face_of}
use Rattle.face_laws.specs.Walked.{steps_along}
use Rattle.face_laws.proofs.Covering.{faces_given}
use Rattle.face_laws.proofs.FaceParity.{in_face_at_is}
use Rattle.face_laws.proofs.Lists.{contains_in, in_contains}
use Rattle.subdivision_laws.specs.Subdivided.{IsSubdivided}
use Rattle.subdivision_laws.proofs.HealsStay.{IsAlong, healed_along, joint_along}
use Rattle.subdivision_laws.proofs.SameSteps.{same_over}
use Rattle.point_laws.specs.PointsStay.{KeepsPoints}
use Rattle.point_laws.proofs.Follow.{above_same_rows, listed_anew, other_same_rows}
use Rattle.point_laws.proofs.Levels.{HasLevel, points_kept}
use Rattle.point_laws.proofs.NodeEdits.{goes_at}
use Rattle.point_laws.proofs.SameArea.{IsSameArea, LieOn, has_side, same_area}
use Rattle.point_laws.proofs.Primitive.{among_in, among_out, among_same, listed_alike, listing, rows_list, turned_alike}
use Rattle.point_laws.proofs.Told.{IsTold}

-- ---- one of the two half-edges of an edge
-- it has the edge's line
on_half : (x : Edge) (h k : HalfEdge) (q : RationalPoint) → AreBoth x h k → IsOnEdge q x ↔ IsOnLine q h.points
on_half x h k q (inl b) = (λ on. subst (λ (z : HalfEdge). IsOnLine q z.points) b.0 on, λ on. subst (λ (z : HalfEdge). IsOnLine q z.points) (sym b.0) on)
on_half x h k q (inr b) = (
  λ on. subst (λ (z : HalfEdge). IsOnLine q z.points) b.0 (reverse_on (reverse x.geom) q (subst (IsOnLine q) (sym (reverse-reverse x.geom)) on)),
  λ on. reverse_on x.geom q (subst (λ (z : HalfEdge). IsOnLine q z.points) (sym b.0) on),
)

-- and its sides
sides_of_half : (x : Edge) (h k : HalfEdge) (ids : List ℕ) → AreBoth x h k → has_side x ids ≡ (is_among h.on_left ids || is_among h.on_right ids)
sides_of_half x h k ids (inl b) = ap (λ (z : HalfEdge). is_among z.on_left ids || is_among z.on_right ids) b.0
sides_of_half x h k ids (inr b) = or_comm (is_among x.left_face ids) (is_among x.right_face ids) ∙ ap (λ (z : HalfEdge). is_among z.on_left ids || is_among z.on_right ids) b.0

-- ---- the joined edge
-- it has the points of the two, and the faces of each beside it
record IsOneOf (e f J : Edge) : Type 0 where
  on : (q : RationalPoint) → IsOnEdge q J → IsOnEdge q e ⊎ IsOnEdge q f
  first : (q : RationalPoint) → IsOnEdge q e → IsOnEdge q J
  second : (q : RationalPoint) → IsOnEdge q f → IsOnEdge q J
  first_sides : (ids : List ℕ) → has_side e ids ≡ has_side J ids
  second_sides : (ids : List ℕ) → has_side f ids ≡ has_side J ids

one_of : (S : Drawing) (n : ℕ) (e f : Edge) (id : ℕ) (fs : List Edge) → IsSubdivided S → IsHealed S n e f id fs → IsOneOf e f (joined_edge n e f id)
one_of S n e f id fs s h = record {
  on = λ q on.
      let (t, (c, at)) = (on_half J j.start j.end q j.of_joined).0 on in
      ⊎_elim
      (λ (i : In t (steps_along j.up)). inl ((on_half e j.up (twin j.up) q j.of_e).1 (t, (in_contains t (segments_of j.up.points) i, at))))
      (λ (i : In t (steps_along j.on)). inr ((on_half f j.on (twin j.on) q j.of_f).1 (t, (in_contains t (segments_of j.on.points) i, at))))
      (both.steps t (contains_in t (segments_of j.start.points) c));
  first = λ q on.
      let (t, (c, at)) = (on_half e j.up (twin j.up) q j.of_e).0 on in
      (on_half J j.start j.end q j.of_joined).1 (t, (in_contains t (segments_of j.start.points) (both.of_first t (contains_in t (segments_of j.up.points) c)), at));
  second = λ q on.
      let (t, (c, at)) = (on_half f j.on (twin j.on) q j.of_f).0 on in
      (on_half J j.start j.end q j.of_joined).1 (t, (in_contains t (segments_of j.start.points) (both.of_second t (contains_in t (segments_of j.on.points) c)), at));
  first_sides = λ ids.
      sides_of_half e j.up (twin j.up) ids j.of_e ∙ (λ i. is_among (j.start_left i) ids || is_among (j.start_right i) ids) ∙ sym (sides_of_half J j.start j.end ids j.of_joined);
  second_sides = λ ids.
      sides_of_half f j.on (twin j.on) ids j.of_f ∙ (λ i. is_among (sym sides.0 i) ids || is_among (sides.1 i) ids)
      ∙ (λ i. is_among (j.start_left i) ids || is_among (j.start_right i) ids) ∙ sym (sides_of_half J j.start j.end ids j.of_joined);
}
  where
    J : Edge
    J = joined_edge n e f id

    good : HasPlainLines S
    good = has_plain_lines S s.covered.ringed.rings

    j : Joint S n e f id (joined_edge n e f id)
    j = make_joint S n e f id fs good h

    sides : (j.up.on_left ≡ j.on.on_left) × (j.on.on_right ≡ j.up.on_right)
    sides = joint_sides S n e f id fs good (joined_of S good s.covered.ringed.rings.one_face) h j

    up_there : Contains (half_edges S) j.up
    up_there = first_there S.edges e j.up (twin j.up) h.e_there j.of_e

    on_there : Contains (half_edges S) j.on
    on_there = first_there S.edges f j.on (twin j.on) h.f_there j.of_f

    both : IsAlong j.start j.up j.on
    both = joint_along S n e f id (joined_edge n e f id) j (line_of S j.up good (half_of S.edges j.up up_there)).long (line_of S j.on good (half_of S.edges j.on on_there)).long

-- ---- the drawing after it
abbrev healed : Drawing → ℕ → Edge → Edge → ℕ → List Edge → Counters → Drawing
healed S n e f id fs ids = healed_with S n fs (follow S edge_type (e.edge_id ∷ f.edge_id ∷ []) (id ∷ [])) ids

record Heals (S : Drawing) (n : ℕ) (e f : Edge) (id : ℕ) (fs : List Edge) (ids : Counters) : Type 0 where
  told : IsTold S
  may : EdgesMayBeJoined S e f n
  edges : IsHealed S n e f id fs
  -- an edge with the id of the joined one is the first
  fresh : (x : Edge) → Contains S.edges x → x.edge_id ≡ id → x.edge_id ≡ e.edge_id
  later : IsSubdivided (healed S n e f id fs ids)

one_edge : (S : Drawing) (n : ℕ) (e f : Edge) (id : ℕ) (fs : List Edge) (ids : Counters) → Heals S n e f id fs ids → IsOneOf e f (joined_edge n e f id)
one_edge S n e f id fs ids h = one_of S n e f id fs h.told.before h.edges

parity : (S : Drawing) (n : ℕ) (e f : Edge) (id : ℕ) (fs : List Edge) (ids : Counters) → Heals S n e f id fs ids → (g : ℕ) (q : RationalPoint) → is_in_face_at (healed S n e f id fs ids) g q ≡ is_in_face_at S g q
parity S n e f id fs ids h g q =
    let T = healed S n e f id fs ids in
    let rings = h.told.before.covered.ringed.rings in
    let good = has_plain_lines S rings in
    let more = has_plain_lines T h.later.covered.ringed.rings in
    let both = healed_along S n e f id fs (follow S edge_type (e.edge_id ∷ f.edge_id ∷ []) (id ∷ [])) ids rings h.edges in
    sym (in_face_at_is (face_of T) T g q (faces_given T more)) ∙ same_over S T g q good more both.0 both.1 ∙ in_face_at_is (face_of S) S g q (faces_given S good)

-- ---- features of faces
healed_area : (S : Drawing) (n : ℕ) (e f : Edge) (id : ℕ) (fs : List Edge) (ids : Counters) → Heals S n e f id fs ids → IsSameArea S (healed S n e f id fs ids)
healed_area S n e f id fs ids h = record { forth = forth; back = λ x q cx on. back x q on (h.edges.from x cx); faces = refl; parity = parity S n e f id fs ids h }
  where
    J : Edge
    J = joined_edge n e f id

    one : IsOneOf e f (joined_edge n e f id)
    one = one_edge S n e f id fs ids h

    forth : LieOn S (healed S n e f id fs ids)
    forth x q cx on =
        ⊎_elim
        (λ (is : x ≡ e). (J, (h.edges.made, one.first q (subst (IsOnEdge q) is on), λ xs. ap (λ z. has_side z xs) is ∙ one.first_sides xs)))
        (λ (o : (x ≡ f) ⊎ ((x.edge_id ≡ e.edge_id → ⊥) × (x.edge_id ≡ f.edge_id → ⊥))).
        ⊎_elim
        (λ (is : x ≡ f). (J, (h.edges.made, one.second q (subst (IsOnEdge q) is on), λ xs. ap (λ z. has_side z xs) is ∙ one.second_sides xs)))
        (λ (far : (x.edge_id ≡ e.edge_id → ⊥) × (x.edge_id ≡ f.edge_id → ⊥)). (x, (h.edges.old x cx far.0 far.1, on, λ xs. refl)))
        o)
        (edge_cases S n e f id fs x (has_plain_lines S h.told.before.covered.ringed.rings) h.edges cx)

    back : (x : Edge) (q : RationalPoint) → IsOnEdge q x → (Contains S.edges x × (x.edge_id ≡ e.edge_id → ⊥) × (x.edge_id ≡ f.edge_id → ⊥)) ⊎ (joined_edge n e f id ≡ x)
        → (y : Edge) × (Contains S.edges y × IsOnEdge q y × ((xs : List ℕ) → has_side x xs ≡ has_side y xs))
    back x q on (inl old) = (x, (old.0, on, λ xs. refl))
    back x q on (inr is) =
        ⊎_elim
        (λ (a : IsOnEdge q e). (e, (h.edges.e_there, a, λ xs. ap (λ z. has_side z xs) (sym is) ∙ sym (one.first_sides xs))))
        (λ (b : IsOnEdge q f). (f, (h.edges.f_there, b, λ xs. ap (λ z. has_side z xs) (sym is) ∙ sym (one.second_sides xs))))
        (one.on q (subst (IsOnEdge q) (sym is) on))

-- ---- features of edges
pair_of : (a b w : ℕ) → is_among w (a ∷ b ∷ []) ≡ true → (w ≡ a) ⊎ (w ≡ b)
pair_of a b w h =
    ⊎_elim (λ (p : (a == w) ≡ true). inl (sym (eqb-true a w p))) (λ (p : ((b == w) || false) ≡ true). ⊎_elim (λ (r : (b == w) ≡ true). inr (sym (eqb-true b w r))) (λ (r : false ≡ true). absurd (false≢true r)) (or_cases (b == w) false p))
    (or_cases (a == w) ((b == w) || false) h)

edges_healed : (S : Drawing) (n : ℕ) (e f : Edge) (id : ℕ) (fs : List Edge) (ids : Counters) (u : ℕ) (q : RationalPoint) → Heals S n e f id fs ids → HasLevel S Lineal zero u
    → OnEdges S (listed_by S u) q ↔ OnEdges (healed S n e f id fs ids) (listed_by (healed S n e f id fs ids) u) q
edges_healed S n e f id fs ids u q h k = (to, from)
  where
    T : Drawing
    T = healed S n e f id fs ids

    J : Edge
    J = joined_edge n e f id

    old : List ℕ
    old = e.edge_id ∷ f.edge_id ∷ []

    one : IsOneOf e f (joined_edge n e f id)
    one = one_edge S n e f id fs ids h

    lists : (w : ℕ) → Contains (listed_by T u) w ↔ ((Contains (listed_by S u) w × (is_among w old ≡ false)) ⊎ (Contains (id ∷ []) w × ((o : ℕ) × (Contains (listed_by S u) o × (is_among o old ≡ true)))))
    lists w = listed_anew S edge_type old (id ∷ []) u w (rows_list S Lineal u h.told.rows k)

    first_old : is_among e.edge_id old ≡ true
    first_old = among_in e.edge_id old (contains_here e.edge_id (f.edge_id ∷ []))

    second_old : is_among f.edge_id old ≡ true
    second_old = among_in f.edge_id old (contains_there f.edge_id e.edge_id (f.edge_id ∷ []) (contains_here f.edge_id []))

    not_old : (w : ℕ) → (w ≡ e.edge_id → ⊥) → (w ≡ f.edge_id → ⊥) → is_among w old ≡ false
    not_old w far away = λ i. ne_eqb e.edge_id w (λ z. far (sym z)) i || (ne_eqb f.edge_id w (λ z. away (sym z)) i || false)

    made : (o : ℕ) → Contains (listed_by S u) o → is_among o old ≡ true → IsOnEdge q J → OnEdges T (listed_by T u) q
    made o c t on = (J, (h.edges.made, subst (λ m. is_among m (listed_by T u) ≡ true) (sym (joined_id n e f id)) (among_in id (listed_by T u) ((lists id).1 (inr (contains_here id [], (o, (c, t)))))), on))

    to : OnEdges S (listed_by S u) q → OnEdges T (listed_by T u) q
    to (x, (cx, among, on)) =
        let c = among_out x.edge_id (listed_by S u) among in
        ⊎_elim
        (λ (is : x ≡ e). made x.edge_id c (subst (λ (z : Edge). is_among z.edge_id old ≡ true) (sym is) first_old) (one.first q (subst (IsOnEdge q) is on)))
        (λ (o : (x ≡ f) ⊎ ((x.edge_id ≡ e.edge_id → ⊥) × (x.edge_id ≡ f.edge_id → ⊥))).
        ⊎_elim
        (λ (is : x ≡ f). made x.edge_id c (subst (λ (z : Edge). is_among z.edge_id old ≡ true) (sym is) second_old) (one.second q (subst (IsOnEdge q) is on)))
        (λ (far : (x.edge_id ≡ e.edge_id → ⊥) × (x.edge_id ≡ f.edge_id → ⊥)).
        (x, (h.edges.old x cx far.0 far.1, among_in x.edge_id (listed_by T u) ((lists x.edge_id).1 (inl (c, not_old x.edge_id far.0 far.1))), on)))
        o)
        (edge_cases S n e f id fs x (has_plain_lines S h.told.before.covered.ringed.rings) h.edges cx)

    -- the feature that lists the joined edge listed both
    had_both : Contains (listed_by T u) id → Contains (listed_by S u) e.edge_id × Contains (listed_by S u) f.edge_id
    had_both c =
        ⊎_elim
        (λ (r : Contains (listed_by S u) id × (is_among id old ≡ false)).
        let there = any_out (λ (x : Edge). edge_id_of x == id) S.edges (listing S Lineal u id h.told.rows k r.0).known in
        let is : there.0.edge_id ≡ id = eqb-true there.0.edge_id id there.1.1 in
        absurd (both_ways (is_among id old) r.1 (subst (λ m. is_among m old ≡ true) (sym (h.fresh there.0 there.1.0 is) ∙ is) first_old)))
        (λ (r : Contains (id ∷ []) id × ((o : ℕ) × (Contains (listed_by S u) o × (is_among o old ≡ true)))).
        ⊎_elim
        (λ (p : r.1.0 ≡ e.edge_id). let c = subst (Contains (listed_by S u)) p r.1.1.0 in (c, listed_alike S Lineal e.edge_id f.edge_id u h.told.rows k h.may.alike c))
        (λ (p : r.1.0 ≡ f.edge_id). let c = subst (Contains (listed_by S u)) p r.1.1.0 in (listed_alike S Lineal f.edge_id e.edge_id u h.told.rows k (turned_alike S edge_type e.edge_id f.edge_id h.may.alike) c, c))
        (pair_of e.edge_id f.edge_id r.1.0 r.1.1.1))
        ((lists id).0 c)

    from : OnEdges T (listed_by T u) q → OnEdges S (listed_by S u) q
    from (x, (cx, among, on)) =
        ⊎_elim
        (λ (o : Contains S.edges x × (x.edge_id ≡ e.edge_id → ⊥) × (x.edge_id ≡ f.edge_id → ⊥)).
        ⊎_elim
        (λ (r : Contains (listed_by S u) x.edge_id × (is_among x.edge_id old ≡ false)). (x, (o.0, among_in x.edge_id (listed_by S u) r.0, on)))
        (λ (r : Contains (id ∷ []) x.edge_id × ((k : ℕ) × (Contains (listed_by S u) k × (is_among k old ≡ true)))).
        absurd (o.1 (h.fresh x o.0 (sym (⊎_elim (λ (p : id ≡ x.edge_id). p) (λ (p : Contains [] x.edge_id). absurd (contains_none x.edge_id p)) (contains_cases x.edge_id id [] r.0))))))
        ((lists x.edge_id).0 (among_out x.edge_id (listed_by T u) among)))
        (λ (is : J ≡ x).
        let had = had_both (subst (Contains (listed_by T u)) (ap (λ (z : Edge). z.edge_id) (sym is) ∙ joined_id n e f id) (among_out x.edge_id (listed_by T u) among)) in
        ⊎_elim
        (λ (a : IsOnEdge q e). (e, (h.edges.e_there, among_in e.edge_id (listed_by S u) had.0, a)))
        (λ (b : IsOnEdge q f). (f, (h.edges.f_there, among_in f.edge_id (listed_by S u) had.1, b)))
        (one.on q (subst (IsOnEdge q) (sym is) on)))
        (h.edges.from x cx)

-- ---- the points of features
heals : (S : Drawing) (n : ℕ) (e f : Edge) (id : ℕ) (fs : List Edge) (ids : Counters) → Heals S n e f id fs ids → KeepsPoints S (healed S n e f id fs ids)
heals S n e f id fs ids h t before still =
    points_kept S T (λ n u. Unit {0}) t h.told.rows
    (record {
      features = λ u row f _. f;
      layers = λ n row f. f;
      down = λ kind n u v k own c. tt;
      rows = λ kind m u v k own. above_same_rows S edge_type old (id ∷ []) kind m u v h.told.rows k;
      base = λ kind u q k own. by kind u q k;
    })
    (λ n. tt) before still
  where
    T : Drawing
    T = healed S n e f id fs ids

    old : List ℕ
    old = e.edge_id ∷ f.edge_id ∷ []

    by : (kind : Kind) (u : ℕ) (q : RationalPoint) → HasLevel S kind zero u → IsPointOfElements S kind (listed_by S u) q ↔ IsPointOfElements T kind (listed_by T u) q
    by Puntal u q k =
        let goes = goes_at S u n q h.told.rows h.may.unlisted k in
        let same : (w : ℕ) → Contains (listed_by S u) w ↔ Contains (listed_by T u) w = λ w. other_same_rows S edge_type old (id ∷ []) Puntal u w h.told.rows refl k in (
          λ p. let m = goes.0 p in (m.0, (m.1.0, among_same m.0.node_id (listed_by S u) (listed_by T u) (λ w. (same w).0) m.1.1, m.1.2)),
          λ p. goes.1 (p.0, (p.1.0, among_same p.0.node_id (listed_by T u) (listed_by S u) (λ w. (same w).1) p.1.1, p.1.2)),
        )
    by Lineal u q k = edges_healed S n e f id fs ids u q h k
    by Areal u q k =
        same_area S T (listed_by S u) (listed_by T u) q h.told.before h.later (healed_area S n e f id fs ids h) (λ w. other_same_rows S edge_type old (id ∷ []) Areal u w h.told.rows refl k)

-- the first edge is what they become
pub edges_joined : (S : Drawing) (e f : Edge) (n : ℕ) → EdgesMayBeJoined S e f n → IsTold S → IsSubdivided ((heal_mod_done S e f n).drawing) → KeepsPoints S ((heal_mod_done S e f n).drawing)
edges_joined S e f n may told later =
    heals S n e f e.edge_id _ S.next_ids (record { told = told; may = may; edges = joined_changed S n e f may (before_of S told.before.covered.ringed); fresh = λ x c is. is; later = later })

-- it is new
pub edges_joined_anew : (S : Drawing) (e f : Edge) (n : ℕ) → EdgesMayBeJoined S e f n → IsTold S → IsSubdivided ((heal_new_done S e f n).drawing) → KeepsPoints S ((heal_new_done S e f n).drawing)
edges_joined_anew S e f n may told later =
    heals S n e f S.next_ids.edge _ (record (S.next_ids) { edge = S.next_ids.edge + 1 })
    (record { told = told; may = may; edges = joined_anew S n e f may; fresh = λ x c is. let below = (ids_within edge_id_of 1 S.next_ids.edge S.edges x told.order.edges c).1 in absurd (omega arith); later = later })
