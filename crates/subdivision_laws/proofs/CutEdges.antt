-- An edge split at a point inside one of its segments: the list of steps is cut there, and the faces stay.
use Rattle.std.proofs.Common.{◌≡◌, ℕ, eqb, refl, sym, ◌∙◌, ap, subst, ◌⊎◌, inl, inr, ⊎_elim, Bool, true, false, cond, List, [], ◌∷◌, ◌++◌}
use Rattle.std.specs.List.{Contains}
use Rattle.std.proofs.lemmas.Bool.{false≢true, false_from_ne_true, cases_eq}
use Rattle.std.proofs.lemmas.List.Elements.{Contains-push}
use Rattle.topo_base.specs.Point.{Point}
use Rattle.topo_base.specs.RationalPoint.{rational, IsAt}
use Rattle.topo_base.specs.declared.rows.NodeRow.{NodeRow}
use Rattle.topo_base.specs.declared.rows.RelationRow.{RelationRow}
use Rattle.topo_base.specs.declared.rows.Counters.{Counters}
use Rattle.drawing.specs.Drawing.{Drawing, Edge}
use Rattle.drawing.specs.HalfEdge.{HalfEdge, forward_of, backward_of, half_edges}
use Rattle.plane.specs.Line.{segments_of, line_up_to, line_from}
use Rattle.plane.specs.RationalTests.{IsOn}
use Rattle.plane.specs.Relation.{IsEnd}
use Rattle.plane.specs.Segment.{Segment}
use Rattle.drawing.specs.SplitEdge.{first_part, second_part}
use Rattle.plane.proofs.LineTests.{from_at}
use Rattle.plane.proofs.Collinear.{at_point, on_round}
use Rattle.plane.specs.Crossings.{back}
use Rattle.drawing.proofs.PlainSplits.{new_node, one_point}
use Rattle.plane.proofs.SegmentParts.{segment}
use Rattle.face_rings.specs.FaceBorder.{HasRings}
use Rattle.face_rings.proofs.FaceBorders.{has_plain_lines}
use Rattle.face_rings.proofs.HalfLines.{HasPlainLines}
use Rattle.face_rings.proofs.HalvesApart.{forward_there, one_edge}
use Rattle.ring_laws.proofs.SplitSides.{IsSplitInto, split_with}
use Rattle.parity_laws.specs.Cuts.{Inner, cut}
use Rattle.parity_laws.specs.Rings.{In, Within, Plain, of_face}
use Rattle.parity_laws.proofs.CutList.{IsCutTo, is_cut, sided_split, above_split, one_shell_split, no_shell_split}
use Rattle.parity_laws.proofs.Tests.{exact_is, exact_self}
use Rattle.parity_laws.proofs.Whole.{IsStepCut, exact, whole, begin_of, end_of, begin_there, end_there, part_is, other_there, no_vertex, Wholes, wholes_of}
use Rattle.face_laws.specs.Walked.{steps_along, steps_of}
use Rattle.face_laws.specs.Covered.{face_of}
use Rattle.face_laws.proofs.FaceOnLeft.{left_is}
use Rattle.face_laws.proofs.Lists.{in_contains}
use Rattle.face_laws.proofs.PlainSteps.{node_ends, IsStepOf, step_of, steps_plain, steps_once, step_there, half_with}
use Rattle.face_laws.proofs.RingLabels.{face_ringwise}
use Rattle.subdivision_laws.proofs.SameSteps.{CarriesOver, StepBetween, turned_between, own_steps, along_halves}
use Rattle.parity_laws.proofs.Lists.{in_left, in_right, in_cases}

-- ---- a node on a step is an end of it
node_on_step : (T : Drawing) (n : NodeRow) (u : Segment) → HasPlainLines T → Contains T.nodes n → In u (steps_of T) → IsOn (rational n.geom) u → IsEnd (rational n.geom) u
node_on_step T n u good cn i on =
    let (h, (c, j)) = half_with T u i in
    by_step h (step_of T h u c j)
  where
    of_segment : (e : Edge) (s : Segment) → Contains T.edges e → In s (segments_of e.geom) → IsOn (rational n.geom) s → IsEnd (rational n.geom) s
    of_segment e s ce k on_s = node_ends T e n (rational n.geom) s good ce cn (good.plain.off n e cn ce (s, (in_contains s (segments_of e.geom) k, on_s))) (at_point n.geom) k on_s

    by_step : (h : HalfEdge) → IsStepOf T h u → IsEnd (rational n.geom) u
    by_step h r =
        ⊎_elim
        (λ (w : (forward_of r.edge ≡ h) × (u ≡ r.segment)). subst (IsEnd (rational n.geom)) (sym w.1) (of_segment r.edge r.segment r.there r.on (subst (IsOn (rational n.geom)) w.1 on)))
        (λ (w : (backward_of r.edge ≡ h) × (u ≡ back r.segment)).
        subst (IsEnd (rational n.geom)) (sym w.1) (round_end r.segment (of_segment r.edge r.segment r.there r.on (on_round (back r.segment) (rational n.geom) (subst (IsOn (rational n.geom)) w.1 on)))))
        r.way
      where
        round_end : (s : Segment) → IsEnd (rational n.geom) s → IsEnd (rational n.geom) (back s)
        round_end s = ⊎_elim (λ (a : IsAt s.a (rational n.geom)). inr a) (λ (b : IsAt s.b (rational n.geom)). inl b)

-- ---- an edge is e or another
pub edge_or_not : (S : Drawing) (e x : Edge) → HasPlainLines S → Contains S.edges e → Contains S.edges x → (x ≡ e) ⊎ (x.edge_id ≡ e.edge_id → ⊥)
edge_or_not S e x good ce cx = ⊎_elim (λ (q : x.edge_id ≡ e.edge_id). inl (one_edge S x e good cx ce q)) (λ (far : x.edge_id ≡ e.edge_id → ⊥). inr far) (cases_eq x.edge_id e.edge_id)

-- ---- the point is inside a segment d
pub record InsideSegment (e : Edge) (p : Point) (d : Segment) : Type 0 where
  pub pre : List Segment
  pub post : List Segment
  pub whole : segments_of e.geom ≡ pre ++ d ∷ post
  pub first : segments_of (line_up_to p e.geom) ≡ pre ++ segment d.a p ∷ []
  pub second : segments_of (line_from p e.geom) ≡ segment p d.b ∷ post
  pub inner : Inner p d
  pub on : IsOn (rational p) d

-- u is a part of d, or of d walked back, which has these faces beside it
record PartBetween (S : Drawing) (d : Segment) (p : Point) (u : Segment) (l r : ℕ) : Type 0 where
  step : Segment
  is : (step ≡ d) ⊎ (step ≡ back d)
  part : (u ≡ segment step.a p) ⊎ (u ≡ segment p step.b)
  between : StepBetween S step l r

turned_part : (S : Drawing) (d : Segment) (p : Point) (u : Segment) (l r : ℕ) → StepBetween S u l r ⊎ PartBetween S d p u l r → StepBetween S (back u) r l ⊎ PartBetween S d p (back u) r l
turned_part S d p u l r =
    ⊎_elim
    (λ (b : StepBetween S u l r). inl (turned_between S u l r b))
    (λ (q : PartBetween S d p u l r). inr (record {
      step = back q.step;
      is = ⊎_elim (λ (e : q.step ≡ d). inr (ap back e)) (λ (e : q.step ≡ back d). inl (ap back e)) q.is;
      part = ⊎_elim (λ (e : u ≡ segment q.step.a p). inr (ap back e)) (λ (e : u ≡ segment p q.step.b). inl (ap back e)) q.part;
      between = turned_between S q.step l r q.between;
    }))

-- both parts of d and of d walked back
both_parts : (P : Segment → Segment → Type 0) (d : Segment) (p : Point) → P d (segment d.a p) × P d (segment p d.b) × P (back d) (segment d.b p) × P (back d) (segment p d.a)
    → (t u : Segment) → (t ≡ d) ⊎ (t ≡ back d) → (u ≡ segment t.a p) ⊎ (u ≡ segment p t.b) → P t u
both_parts P d p h t u is part =
    let both : P t (segment t.a p) × P t (segment p t.b) =
    ⊎_elim
    (λ (e : t ≡ d). subst (λ z. P z (segment z.a p) × P z (segment p z.b)) (sym e) (h.0, h.1))
    (λ (e : t ≡ back d). subst (λ z. P z (segment z.a p) × P z (segment p z.b)) (sym e) (h.2, h.3))
    is in
    ⊎_elim (λ (e : u ≡ segment t.a p). subst (P t) (sym e) both.0) (λ (e : u ≡ segment p t.b). subst (P t) (sym e) both.1) part

pub inside_segment : (S : Drawing) (e : Edge) (p : Point) (id id' : ℕ) (fs : List Edge) (rows : List RelationRow) (ids : Counters) → HasRings S → IsSplitInto S e p id id' fs → HasPlainLines (split_with S p fs rows ids)
    → (d : Segment) → InsideSegment e p d → CarriesOver S (split_with S p fs rows ids)
inside_segment S e p id id' fs rows ids rings split more d v = record {
  sided = λ sided f some. sided_split (steps_of S) d p (steps_of T) is_cut_to (of_face (face_of S) f) (of_face (face_of T) f) (λ u i. ap (λ g. eqb g f) (faces u i)) (face_ringwise S f rings) (sided f some);
  shells = λ f one. one_shell_split (steps_of S) d p (steps_of T) is_cut_to (face_of S) (face_of T) f faces one;
  outer = λ none. no_shell_split (steps_of S) d p (steps_of T) is_cut_to (face_of S) (face_of T) 0 faces none;
  placed = λ q f lies g some. above_split (steps_of S) d p (steps_of T) is_cut_to (of_face (face_of S) g) (of_face (face_of T) g) (λ u i. ap (λ k. eqb k g) (faces u i)) q ∙ lies g some;
}
  where
    T : Drawing
    T = split_with S p fs rows ids

    good : HasPlainLines S
    good = has_plain_lines S rings

    one : Edge
    one = first_part e S.next_ids.node p id

    two : Edge
    two = second_part e S.next_ids.node p id'

    old_plain : Plain (steps_of S)
    old_plain = steps_plain S good

    new_plain : Plain (steps_of T)
    new_plain = steps_plain T more

    on_edge : In d (segments_of e.geom)
    on_edge = subst (In d) (sym v.whole) (in_right d v.pre (d ∷ v.post) (inl refl))

    there : In d (steps_of S)
    there = step_there S (forward_of e) d (forward_there S.edges e split.there) on_edge

    -- d is no step any more, since the node lies inside it
    gone : In d (steps_of T) → ⊥
    gone i =
        ⊎_elim
        (λ (k : IsAt d.a (rational p)). v.inner.not_start (one_point p d.a (from_at p d.a k)))
        (λ (k : IsAt d.b (rational p)). v.inner.not_end (one_point p d.b (from_at p d.b k)))
        (node_on_step T (new_node S.next_ids.node p) d more (Contains-push S.nodes (new_node S.next_ids.node p)) i v.on)

    gone_back : In (back d) (steps_of T) → ⊥
    gone_back i = gone (new_plain.both (back d) i)

    -- ---- the parts are steps of T
    of_one : (s : Segment) → In s (segments_of (line_up_to p e.geom)) → In s (steps_of T)
    of_one s i = step_there T (forward_of one) s (forward_there fs one split.first) i

    of_two : (s : Segment) → In s (segments_of (line_from p e.geom)) → In s (steps_of T)
    of_two s i = step_there T (forward_of two) s (forward_there fs two split.second) i

    front_there : In (segment d.a p) (steps_of T)
    front_there = of_one (segment d.a p) (subst (In (segment d.a p)) (sym v.first) (in_right (segment d.a p) v.pre (segment d.a p ∷ []) (inl refl)))

    rest_there : In (segment p d.b) (steps_of T)
    rest_there = of_two (segment p d.b) (subst (In (segment p d.b)) (sym v.second) (inl refl))

    -- ---- another step of S is one of T
    kept_on : (x : Edge) → Contains S.edges x → (s : Segment) → In s (segments_of x.geom) → (s ≡ d) ⊎ In s (steps_of T)
    kept_on x c s i =
        ⊎_elim
        (λ (q : x ≡ e).
        ⊎_elim
        (λ (k : In s v.pre). inr (of_one s (subst (In s) (sym v.first) (in_left s v.pre (segment d.a p ∷ []) k))))
        (λ (k : In s (d ∷ v.post)).
        ⊎_elim
        (λ (q' : s ≡ d). inl q')
        (λ (m : In s v.post). inr (of_two s (subst (In s) (sym v.second) (inr m))))
        k)
        (in_cases s v.pre (d ∷ v.post) (subst (In s) v.whole (subst (λ (y : Edge). In s (segments_of y.geom)) q i))))
        (λ (far : x.edge_id ≡ e.edge_id → ⊥). inr (step_there T (forward_of x) s (forward_there fs x (split.old x c far)) i))
        (edge_or_not S e x good split.there c)

    kept : (t : Segment) → In t (steps_of S) → (t ≡ d → ⊥) → (t ≡ back d → ⊥) → In t (steps_of T)
    kept t i n k =
        let (h, (c, j)) = half_with S t i in
        along_halves S (λ s l r. (s ≡ d → ⊥) → (s ≡ back d → ⊥) → In s (steps_of T)) (λ s l r f n k. new_plain.both s (f (λ q. k (ap back q)) (λ q. n (ap back q))))
        (λ x cx s is n k. ⊎_elim (λ (q : s ≡ d). absurd (n q)) (λ (m : In s (steps_of T)). m) (kept_on x cx s is))
        h c t j n k

    -- ---- each step of T is one of S, or a part of d
    parted : (x : Edge) → Contains T.edges x → (s : Segment) → In s (segments_of x.geom) → StepBetween S s x.left_face x.right_face ⊎ PartBetween S d p s x.left_face x.right_face
    parted x c =
        ⊎_elim
        (λ (old : Contains S.edges x × (x.edge_id ≡ e.edge_id → ⊥)). λ s i. inl (own_steps S x old.0 s i))
        (λ (part : (one ≡ x) ⊎ (two ≡ x)).
        ⊎_elim
        (λ (is : one ≡ x).
        subst (λ (y : Edge). (s : Segment) → In s (segments_of y.geom) → StepBetween S s y.left_face y.right_face ⊎ PartBetween S d p s y.left_face y.right_face) is
        (λ s i.
        ⊎_elim
        (λ (k : In s v.pre). inl (own_steps S e split.there s (subst (In s) (sym v.whole) (in_left s v.pre (d ∷ v.post) k))))
        (λ (k : In s (segment d.a p ∷ [])).
        inr (record { step = d; is = inl refl; part = inl (⊎_elim (λ (q : s ≡ segment d.a p). q) (λ (m : In s []). absurd m) k); between = own_steps S e split.there d on_edge }))
        (in_cases s v.pre (segment d.a p ∷ []) (subst (In s) v.first i))))
        (λ (is : two ≡ x).
        subst (λ (y : Edge). (s : Segment) → In s (segments_of y.geom) → StepBetween S s y.left_face y.right_face ⊎ PartBetween S d p s y.left_face y.right_face) is
        (λ s i.
        ⊎_elim
        (λ (k : s ≡ segment p d.b). inr (record { step = d; is = inl refl; part = inr k; between = own_steps S e split.there d on_edge }))
        (λ (k : In s v.post). inl (own_steps S e split.there s (subst (In s) (sym v.whole) (in_right s v.pre (d ∷ v.post) (inr k)))))
        (subst (In s) v.second i)))
        part)
        (split.from x c)

    step_or_part : (h : HalfEdge) → Contains (half_edges T) h → (u : Segment) → In u (steps_along h) → StepBetween S u h.on_left h.on_right ⊎ PartBetween S d p u h.on_left h.on_right
    step_or_part = along_halves T (λ u l r. StepBetween S u l r ⊎ PartBetween S d p u l r) (turned_part S d p) parted

    old_there : (u : Segment) (l r : ℕ) → StepBetween S u l r → In u (steps_of S)
    old_there u l r b = step_there S b.half u b.there b.on

    -- ---- the list is cut
    other_way : exact d (back d) ≡ false
    other_way = false_from_ne_true (exact d (back d)) (λ t. old_plain.proper d there (ap (λ (s : Segment). s.a) (exact_is d (back d) t)))

    not_exact : (s t : Segment) → exact s t ≡ false → t ≡ s → ⊥
    not_exact s t off q = false≢true (sym off ∙ subst (λ z. exact s z ≡ true) (sym q) (exact_self s))

    begins_there : (t : Segment) → In t (steps_of S) → In (begin_of d p t) (steps_of T)
    begins_there t i = by_tests (exact d t) (exact (back d) t) (λ n k. kept t i (not_exact d t n) (not_exact (back d) t k))
      where
        by_tests : (b c : Bool) → (b ≡ false → c ≡ false → In t (steps_of T)) → In (cond b (segment d.a p) (cond c (segment d.b p) t)) (steps_of T)
        by_tests true c f = front_there
        by_tests false true f = new_plain.both (segment p d.b) rest_there
        by_tests false false f = f refl refl

    ends_there : (t : Segment) → In t (steps_of S) → In (end_of d p t) (steps_of T)
    ends_there t i = by_tests (exact d t) (exact (back d) t) (λ n k. kept t i (not_exact d t n) (not_exact (back d) t k))
      where
        by_tests : (b c : Bool) → (b ≡ false → c ≡ false → In t (steps_of T)) → In (cond b (segment p d.b) (cond c (segment p d.a) t)) (steps_of T)
        by_tests true c f = rest_there
        by_tests false true f = new_plain.both (segment d.a p) front_there
        by_tests false false f = f refl refl

    back_there : In (back d) (steps_of S)
    back_there = old_plain.both d there

    begin_is : begin_of d p d ≡ segment d.a p
    begin_is = rw (exact_self d) refl

    end_is : end_of d p d ≡ segment p d.b
    end_is = rw (exact_self d) refl

    begin_back : begin_of d p (back d) ≡ segment d.b p
    begin_back = rw (other_way, exact_self (back d)) refl

    end_back : end_of d p (back d) ≡ segment p d.a
    end_back = rw (other_way, exact_self (back d)) refl

    in_cut : (t u : Segment) → (t ≡ d) ⊎ (t ≡ back d) → (u ≡ segment t.a p) ⊎ (u ≡ segment p t.b) → In u (cut d p (steps_of S))
    in_cut = both_parts (λ t u. In u (cut d p (steps_of S))) d p (
      subst (λ z. In z (cut d p (steps_of S))) begin_is (begin_there d p (steps_of S) d there),
      subst (λ z. In z (cut d p (steps_of S))) end_is (end_there d p (steps_of S) d there),
      subst (λ z. In z (cut d p (steps_of S))) begin_back (begin_there d p (steps_of S) (back d) back_there),
      subst (λ z. In z (cut d p (steps_of S))) end_back (end_there d p (steps_of S) (back d) back_there),
    )

    no_more : Within (steps_of T) (cut d p (steps_of S))
    no_more u i =
        let (h, (c, j)) = half_with T u i in
        ⊎_elim
        (λ (b : StepBetween S u h.on_left h.on_right).
        other_there d p (steps_of S) u (old_there u h.on_left h.on_right b) (λ q. gone (subst (λ z. In z (steps_of T)) q i)) (λ q. gone_back (subst (λ z. In z (steps_of T)) q i)))
        (λ (q : PartBetween S d p u h.on_left h.on_right). in_cut q.step u q.is q.part)
        (step_or_part h c u j)

    is_cut_to : IsCutTo (steps_of S) d p (steps_of T)
    is_cut_to = record {
      plain = old_plain;
      once = steps_once S good;
      there = there;
      inner = v.inner;
      new_plain = new_plain;
      new_once = steps_once T more;
      parts_there = part_is (λ u. In u (steps_of T)) d p (steps_of S) begins_there ends_there;
      no_more = no_more;
    }

    -- ---- the faces
    old_cut : IsStepCut (steps_of S) d p
    old_cut = is_cut (steps_of S) d p (steps_of T) is_cut_to

    wholes : Wholes d p
    wholes = wholes_of (steps_of S) d p old_cut

    whole_is : (t u : Segment) → (t ≡ d) ⊎ (t ≡ back d) → (u ≡ segment t.a p) ⊎ (u ≡ segment p t.b) → whole d p u ≡ t
    whole_is = both_parts (λ t u. whole d p u ≡ t) d p (wholes.first, wholes.last, wholes.back_first, wholes.back_last)

    face_at : (t : Segment) (l r : ℕ) → StepBetween S t l r → face_of S t ≡ l
    face_at t l r b = left_is S b.half t good b.there b.on ∙ b.left

    faces : (u : Segment) → In u (steps_of T) → face_of S (whole d p u) ≡ face_of T u
    faces u i =
        let (h, (c, j)) = half_with T u i in
        ⊎_elim
        (λ (b : StepBetween S u h.on_left h.on_right).
        ap (face_of S) (wholes.other u (no_vertex (steps_of S) d p old_cut u (old_there u h.on_left h.on_right b))) ∙ face_at u h.on_left h.on_right b)
        (λ (q : PartBetween S d p u h.on_left h.on_right).
        ap (face_of S) (whole_is q.step u q.is q.part) ∙ face_at q.step h.on_left h.on_right q.between)
        (step_or_part h c u j)
        ∙ sym (left_is T h u more c j)
