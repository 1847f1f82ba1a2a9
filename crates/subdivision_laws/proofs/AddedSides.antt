-- With an edge more, left of each step is its face, and isolated nodes are in theirs.
use Rattle.std.proofs.Common.{◌≡◌, ◌≢◌, ℕ, ◌-◌, ◌<◌, refl, sym, ◌∙◌, ap, subst, arith, ◌⊎◌, inl, inr, ⊎_elim, Bool, true, false, cond, ◌&&◌, List, [], ◌∷◌, ◌++◌, length, get_or, eqb, Option, Some, None}
use Rattle.std.specs.Prelude.{◌||◌}
use Rattle.std.specs.List.{Contains}
use Rattle.std.proofs.lemmas.Bool.{both_ways}
use Rattle.std.proofs.lemmas.Option.{slice_get-get_or}
use Rattle.topo_base.specs.Point.{Point, same_point}
use Rattle.topo_base.specs.declared.rows.NodeRow.{NodeRow}
use Rattle.drawing.specs.Drawing.{Drawing, Edge, is_isolated, is_end_of}
use Rattle.drawing.specs.HalfEdge.{forward_of, backward_of, half_edges}
use Rattle.plane.specs.Line.{segments_of, first_vertex, last_vertex}
use Rattle.plane.specs.Relation.{SameCoordinates}
use Rattle.plane.specs.Segment.{Segment}
use Rattle.drawing.specs.Subdivision.{is_face_known}
use Rattle.plane.specs.Crossings.{over, back, crosses}
use Rattle.plane.proofs.LineCuts.{last_ends}
use Rattle.drawing.proofs.PlainSplits.{one_point}
use Rattle.plane.proofs.SimpleTests.{first_begins}
use Rattle.face_rings.proofs.HalfLines.{HasPlainLines, forward_line}
use Rattle.face_rings.proofs.HalvesApart.{forward_there, backward_there}
use Rattle.ring_laws.proofs.Known.{isolated_if, put_twice}
use Rattle.parity_laws.specs.Steps.{direction, before, above, left}
use Rattle.parity_laws.specs.Ways.{Apart, inside, Outside}
use Rattle.parity_laws.specs.Rings.{In, Next, Plain, Sided, those, of_face}
use Rattle.parity_laws.proofs.Gap.{before_self}
use Rattle.parity_laws.proofs.Labels.{those_same}
use Rattle.parity_laws.proofs.Lists.{those_append, all_those}
use Rattle.parity_laws.proofs.Ringwise.{each_in, in_each}
use Rattle.parity_laws.proofs.Star.{same_start, those_within}
use Rattle.parity_laws.proofs.Sums.{xor_comm}
use Rattle.parity_laws.proofs.Tests.{same_is, same_self}
use Rattle.face_laws.specs.Walked.{steps_of}
use Rattle.face_laws.specs.Covered.{face_of, IsSided, IsInFaceOf}
use Rattle.face_laws.proofs.Covering.{known}
use Rattle.face_laws.proofs.Following.{has_steps}
use Rattle.face_laws.proofs.Lists.{in_place}
use Rattle.face_laws.proofs.PlainSteps.{step_there, step_back}
use Rattle.parity_laws.specs.Coming.{both_ways_of, with_line, LineComes, Enters, FaceComes}
use Rattle.parity_laws.proofs.LineFaces.{left_at_alone}
use Rattle.parity_laws.proofs.LineShells.{entry_parity, faces_sided}
use Rattle.parity_laws.proofs.OldRings.{those_front, odd_both_ways}
use Rattle.parity_laws.proofs.OnLine.{old_in, way_in, forth_in, back_in, last_in, old_or_way, not_both, way_turned, enters_line}
use Rattle.parity_laws.proofs.Wedges.{before_it, side_outside, wedges_joined}
use Rattle.subdivision_laws.proofs.AddedSteps.{first_of, rest_of, last_of, added, Adds, lines_before, line_comes, face_comes, old_face, line_face, steps_added}

-- ---- where the line begins
starts_or_none : (X : List Segment) (v : Point) → ((t : Segment) × (In t X × (t.a ≡ v))) ⊎ ((t : Segment) → In t X → t.a ≢ v)
starts_or_none [] v = inr (λ t i e. i)
starts_or_none (s ∷ X) v = by_test (same_point s.a v) refl (starts_or_none X v)
  where
    by_test : (x : Bool) → same_point s.a v ≡ x → ((t : Segment) × (In t X × (t.a ≡ v))) ⊎ ((t : Segment) → In t X → t.a ≢ v) →
        ((t : Segment) × (In t (s ∷ X) × (t.a ≡ v))) ⊎ ((t : Segment) → In t (s ∷ X) → t.a ≢ v)
    by_test true e rest = inl (s, (inl refl, same_is s.a v e))
    by_test false e (inl m) = inl (m.0, (inr m.1.0, m.1.1))
    by_test false e (inr none) =
        inr (λ t i m.
        ⊎_elim
        (λ (k : t ≡ s). both_ways (same_point s.a v) e (subst (λ z. same_point s.a z ≡ true) (ap (λ (r : Segment). r.a) (sym k) ∙ m) (same_self s.a)))
        (λ (k : In t X). none t k m)
        i)

-- no direction but its own is outside the whole turn from a step
not_alone : (T : List Segment) (n t : Segment) → Plain T → In n T → In t T → t.a ≡ n.a → (t ≡ n → ⊥) → inside (direction n) (direction n) (direction t) ≡ false → ⊥
not_alone T n t plain i j e other out =
    ⊎_elim
    (λ (k : t ≡ n). other k)
    (λ (k : Apart (direction t) (direction n)). by_tests (before (direction n) (direction n)) (before (direction n) (direction t)) (before (direction t) (direction n)) (before_self (direction n)) out k)
    (same_start T n t plain i j e)
  where
    by_tests : (x y z : Bool) → x ≡ false → cond x (y && z) (y || z) ≡ false → (z ≡ true) ⊎ (y ≡ true) → ⊥
    by_tests true y z h out k = both_ways true h refl
    by_tests false true z h out k = both_ways true out refl
    by_tests false false true h out k = both_ways true out refl
    by_tests false false false h out (inl k) = both_ways false refl k
    by_tests false false false h out (inr k) = both_ways false refl k

-- an old step leads to the line, or none begins where it begins
pub entered_or_alone : (T : List Segment) (first : Segment) (rest : List Segment) (last : Segment) → LineComes T first rest last →
    ((d : Segment) × (In d T × Enters (with_line T (first ∷ rest)) first last d)) ⊎ ((t : Segment) → In t T → t.a ≢ first.a)
entered_or_alone T first rest last c =
    ⊎_elim (λ (t : (t : Segment) × (In t T × (t.a ≡ first.a))). inl (entered t.0 t.1.0 t.1.1)) (λ (none : (t : Segment) → In t T → t.a ≢ first.a). inr none) (starts_or_none T first.a)
  where
    first_way : In first (both_ways_of (first ∷ rest))
    first_way = forth_in (first ∷ rest) first (inl refl)

    last_way : In (back last) (both_ways_of (first ∷ rest))
    last_way = back_in (first ∷ rest) last (last_in T first rest last c)

    entered : (t : Segment) → In t T → t.a ≡ first.a → (d : Segment) × (In d T × Enters (with_line T (first ∷ rest)) first last d)
    entered t i e = by_first (before_it (with_line T (first ∷ rest)) first c.new.plain (way_in T (first ∷ rest) first first_way))
      where
        there : In t (with_line T (first ∷ rest))
        there = old_in T (first ∷ rest) t i

        not_way : (n : Segment) → In n (both_ways_of (first ∷ rest)) → t ≡ n → ⊥
        not_way n j k = not_both T first rest last c t i (subst (λ z. In z (both_ways_of (first ∷ rest))) (sym k) j)

        -- a step of the line that begins there
        end_of : (n : Segment) → In n (both_ways_of (first ∷ rest)) → n.a ≡ first.a → (n ≡ first) ⊎ (n ≡ back last)
        end_of n j k = enters_line T first rest last c (back t) n (c.old.plain.both t i) j (k ∙ sym e)

        -- one that follows itself walked back is alone
        alone : (n : Segment) → In n (both_ways_of (first ∷ rest)) → n.a ≡ first.a → Next (with_line T (first ∷ rest)) (back n) n → ⊥
        alone n j k next =
            not_alone (with_line T (first ∷ rest)) n t c.new.plain (way_in T (first ∷ rest) n j) there (e ∙ sym k) (not_way n j)
            ((each_in (Outside (back n) (direction n)) (with_line T (first ∷ rest)) next.first t there).start (e ∙ sym k))

        both : Next (with_line T (first ∷ rest)) last first → Next (with_line T (first ∷ rest)) (back first) (back last) → ⊥
        both round on =
            not_alone (with_line T (first ∷ rest)) first t c.new.plain (way_in T (first ∷ rest) first first_way) there e (not_way first first_way)
            (wedges_joined (direction first) (direction (back last)) (direction first) (direction t)
            ((each_in (Outside (back first) (direction (back last))) (with_line T (first ∷ rest)) on.first t there).start e)
            ((each_in (Outside last (direction first)) (with_line T (first ∷ rest)) round.first t there).start (e ∙ round.meets))
            (side_outside (direction first) (direction (back last))).0 (side_outside (direction (back last)) (direction first)).1
            (⊎_elim (λ (k : t ≡ back last). absurd (not_way (back last) last_way k)) (λ (k : Apart (direction t) (direction (back last))). k)
            (same_start (with_line T (first ∷ rest)) (back last) t c.new.plain (way_in T (first ∷ rest) (back last) last_way) there (e ∙ round.meets))))

        by_last : Next (with_line T (first ∷ rest)) last first → (m : Segment) × (In m (with_line T (first ∷ rest)) × Next (with_line T (first ∷ rest)) m (back last)) →
            (d : Segment) × (In d T × Enters (with_line T (first ∷ rest)) first last d)
        by_last round m =
            ⊎_elim
            (λ (j : In m.0 T). (m.0, (j, inr m.1.1)))
            (λ (j : In m.0 (both_ways_of (first ∷ rest))).
            ⊎_elim
            (λ (k : back m.0 ≡ first). absurd (both round (subst (λ z. Next (with_line T (first ∷ rest)) z (back last)) (ap back k) m.1.1)))
            (λ (k : back m.0 ≡ back last). absurd (alone (back last) last_way (sym round.meets) (subst (λ z. Next (with_line T (first ∷ rest)) z (back last)) (ap back k) m.1.1)))
            (end_of (back m.0) (way_turned (first ∷ rest) m.0 j) (sym m.1.1.meets ∙ sym round.meets)))
            (old_or_way T (first ∷ rest) m.0 m.1.0)

        by_first : (m : Segment) × (In m (with_line T (first ∷ rest)) × Next (with_line T (first ∷ rest)) m first) → (d : Segment) × (In d T × Enters (with_line T (first ∷ rest)) first last d)
        by_first m =
            ⊎_elim
            (λ (j : In m.0 T). (m.0, (j, inl m.1.1)))
            (λ (j : In m.0 (both_ways_of (first ∷ rest))).
            ⊎_elim
            (λ (k : back m.0 ≡ first). absurd (alone first first_way refl (subst (λ z. Next (with_line T (first ∷ rest)) z first) (ap back k) m.1.1)))
            (λ (k : back m.0 ≡ back last).
            by_last (subst (λ z. Next (with_line T (first ∷ rest)) z first) (ap back k) m.1.1)
            (before_it (with_line T (first ∷ rest)) (back last) c.new.plain (way_in T (first ∷ rest) (back last) last_way)))
            (end_of (back m.0) (way_turned (first ∷ rest) m.0 j) (sym m.1.1.meets)))
            (old_or_way T (first ∷ rest) m.0 m.1.0)

-- ---- an isolated node
-- a node where no step begins has no edge
pub isolated_node : (S : Drawing) (n : NodeRow) → HasPlainLines S → Contains S.nodes n → ((t : Segment) → In t (steps_of S) → t.a ≢ n.geom) → is_isolated S n.node_id ≡ true
isolated_node S n good c none = isolated_if S n.node_id no_end
  where
    no_end : (e : Edge) → Contains S.edges e → is_end_of n.node_id e ≡ true → ⊥
    no_end e ce is =
        ⊎_elim
        (λ (k : SameCoordinates n.geom (first_vertex e.geom)).
        let g = slice_get-get_or (segments_of e.geom) 0 some (omega (arith, long)) in
        none (get_or (segments_of e.geom) 0 some) (step_there S (forward_of e) (get_or (segments_of e.geom) 0 some) forth (in_place (get_or (segments_of e.geom) 0 some) (segments_of e.geom) 0 g))
        (sym (one_point n.geom (first_vertex e.geom) k ∙ first_begins e.geom (get_or (segments_of e.geom) 0 some) g)))
        (λ (k : SameCoordinates n.geom (last_vertex e.geom)).
        let m = length (segments_of e.geom) - 1 in
        let r = get_or (segments_of e.geom) m some in
        let g = slice_get-get_or (segments_of e.geom) m some (omega (arith, long)) in
        none (back r) (step_there S (backward_of e) (back r) (backward_there S.edges e ce) (step_back (forward_of e) r (in_place r (segments_of e.geom) m g)))
        (sym (one_point n.geom (last_vertex e.geom) k ∙ last_ends e.geom m r g (omega (arith, long)))))
        ((forward_line S e good ce).ends n c is)
      where
        forth : Contains (half_edges S) (forward_of e)
        forth = forward_there S.edges e ce

        long : 0 < length (segments_of e.geom)
        long = has_steps S (forward_of e) good forth

        some : Segment
        some = record { a = n.geom; b = n.geom }

pub face_known : (S : Drawing) (c : Option ℕ) (i : Bool) → is_face_known S c i ≡ true → i ≡ true → (f : ℕ) × (c ≡ Some f)
face_known S None true k e = absurd (both_ways false refl k)
face_known S None false k e = absurd (both_ways false refl e)
face_known S (Some f) i k e = (f, refl)

-- ---- along the line
-- the parity of each face says whether it is the one in which the line lies
pub line_parity : (S : Drawing) (a b : NodeRow) (p q : Point) (vs : List Point) (f : ℕ) → Adds S a b p q vs f → (g : ℕ) → g ≢ 0 →
    left (those (of_face (face_of S) g) (steps_of S)) (first_of p q) ≡ eqb f g
line_parity S a b p q vs f h g n =
    ⊎_elim
    (λ (d : (d : Segment) × (In d (steps_of S) × Enters (with_line (steps_of S) (segments_of (p ∷ q ∷ vs))) (first_of p q) (last_of p q vs) d)).
    entry_parity (steps_of S) (first_of p q) (rest_of q vs) (last_of p q vs) (face_of S) g d.0 comes (faces.rings g) (h.before.sided g n) d.1.0 d.1.1
    ∙ ap (λ k. eqb k g) (faces.entry d.0 d.1.0 d.1.1))
    (λ (none : (t : Segment) → In t (steps_of S) → t.a ≢ p).
    left_at_alone (steps_of S) (first_of p q) (rest_of q vs) (last_of p q vs) (those (of_face (face_of S) g) (steps_of S)) (first_of p q) comes (those_within (of_face (face_of S) g) (steps_of S)) none
    ∙ at_node none)
    (entered_or_alone (steps_of S) (first_of p q) (rest_of q vs) (last_of p q vs) comes)
  where
    comes : LineComes (steps_of S) (first_of p q) (rest_of q vs) (last_of p q vs)
    comes = line_comes S a b p q vs f h

    faces : FaceComes (steps_of S) (first_of p q) (rest_of q vs) (last_of p q vs) (face_of S) (face_of (added S a b p q vs f)) f
    faces = face_comes S a b p q vs f h

    at_node : ((t : Segment) → In t (steps_of S) → t.a ≢ p) → above (those (of_face (face_of S) g) (steps_of S)) p ≡ eqb f g
    at_node none =
        let lone = isolated_node S a (lines_before S a b p q vs f h) h.node (λ t i e. none t i (e ∙ sym h.begins)) in
        let c = face_known S a.containing_face (is_isolated S a.node_id) ((known S h.before.ringed).nodes a h.node) lone in
        ap (above (those (of_face (face_of S) g) (steps_of S))) h.begins ∙ h.before.placed a c.0 h.node c.1 g n ∙ ap (λ k. eqb k g) (h.face c.0 c.1)

pub added_sided : (S : Drawing) (a b : NodeRow) (p q : Point) (vs : List Point) (f : ℕ) → Adds S a b p q vs f → IsSided (added S a b p q vs f)
added_sided S a b p q vs f h g n =
    subst (λ T. Sided T (of_face (face_of (added S a b p q vs f)) g)) (sym (steps_added S a b (p ∷ q ∷ vs) f))
    (faces_sided (steps_of S) (first_of p q) (rest_of q vs) (last_of p q vs) (face_of S) (face_of (added S a b p q vs f)) f (line_comes S a b p q vs f h) (face_comes S a b p q vs f h) g
    (h.before.sided g n) (line_parity S a b p q vs f h g n))

-- ---- points
-- steps with the line, or without it, have the same parity above a point
pub above_with_line : (T L : List Segment) (p : Segment → Bool) (v : Bool) → ((s : Segment) → In s (both_ways_of L) → p s ≡ v) → (r : Point) → above (those p (with_line T L)) r ≡ above (those p T) r
above_with_line T L p true line r =
    ap (λ X. above X r) (those_append p T (both_ways_of L) ∙ ap (λ Y. those p T ++ Y) (all_those p (both_ways_of L) (in_each (λ s. p s ≡ true) (both_ways_of L) line)))
    ∙ odd_both_ways (λ s. crosses s r) (those p T) L (λ s. xor_comm (over (back s) r) (over s r))
above_with_line T L p false line r = ap (λ X. above X r) (those_front p T (both_ways_of L) (in_each (λ s. p s ≡ false) (both_ways_of L) line))

pub point_stays : (S : Drawing) (a b : NodeRow) (p q : Point) (vs : List Point) (f : ℕ) (r : Point) (c : ℕ) → Adds S a b p q vs f → IsInFaceOf S r c → IsInFaceOf (added S a b p q vs f) r c
point_stays S a b p q vs f r c h placed g n =
    ap (λ T. above (those (of_face (face_of (added S a b p q vs f)) g) T) r) (steps_added S a b (p ∷ q ∷ vs) f)
    ∙ above_with_line (steps_of S) (segments_of (p ∷ q ∷ vs)) (of_face (face_of (added S a b p q vs f)) g) (eqb f g) (λ s i. ap (λ k. eqb k g) (line_face S a b p q vs f h s i)) r
    ∙ ap (λ X. above X r)
    (those_same (of_face (face_of (added S a b p q vs f)) g) (of_face (face_of S) g) (steps_of S) (λ s i. ap (λ k. eqb k g) (old_face S a b p q vs f h s i)))
    ∙ placed g n

pub added_placed : (S : Drawing) (a b : NodeRow) (p q : Point) (vs : List Point) (f : ℕ) → Adds S a b p q vs f → (n : NodeRow) (c : ℕ) → Contains (added S a b p q vs f).nodes n → n.containing_face ≡ Some c →
    IsInFaceOf (added S a b p q vs f) n.geom c
added_placed S a b p q vs f h n c i e =
    let k = put_twice None a.node_id b.node_id S.nodes n i in
    ⊎_elim
    (λ (m : (n.containing_face ≡ None) × ((n.node_id ≡ a.node_id) ⊎ (n.node_id ≡ b.node_id))). absurd (no_face (sym m.0 ∙ e)))
    (λ (m : (n ≡ k.row) × (n.node_id ≡ a.node_id → ⊥) × (n.node_id ≡ b.node_id → ⊥)).
    point_stays S a b p q vs f n.geom c h
    (subst (λ (r : Point). IsInFaceOf S r c) (ap (λ (x : NodeRow). x.geom) (sym m.0)) (h.before.placed k.row c k.there (ap (λ (x : NodeRow). x.containing_face) (sym m.0) ∙ e))))
    k.is
  where
    no_face : None ≡ Some c → ⊥
    no_face e = cc
