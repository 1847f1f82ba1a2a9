-- A divided drawing: its steps are those it had, and each has the face that the parities of the left ring say.
use Rattle.std.proofs.Common.{◌≡◌, ◌≢◌, ℕ, refl, sym, ◌∙◌, ap, subst, ◌⊎◌, ⊎_elim, Bool, true, false, not, cond, List, [], ◌∷◌, ◌++◌, map, fold, ◌==◌}
use Rattle.std.specs.Prelude.{flat_map, reverse}
use Rattle.std.specs.List.{Contains}
use Rattle.std.proofs.lemmas.Bool.{both_ways, eqb-true, eqb-false, false_from_ne_true}
use Rattle.topo_base.specs.Point.{Point}
use Rattle.drawing.specs.AddEdge.{Division, is_on_left, part_at, part_beside, divided_side, divided_edge, divided}
use Rattle.drawing.specs.Drawing.{Drawing, Edge}
use Rattle.plane.specs.Parity.{xor}
use Rattle.drawing.specs.HalfEdge.{HalfEdge, forward_of, backward_of, both_ways as both_halves, half_edges, comes_before}
use Rattle.plane.specs.Line.{segments_of, first_vertex}
use Rattle.drawing.specs.Ring.{ring_of, contains_half_edge, earlier_of, least_vertex}
use Rattle.plane.specs.Segment.{Segment}
use Rattle.plane.specs.Crossings.{back}
use Rattle.plane.proofs.ListTests.{contains_here, contains_there, contains_cases, contains_none}
use Rattle.drawing.proofs.Members.{contains-map}
use Rattle.plane.proofs.SimpleTests.{first_begins}
use Rattle.face_rings.proofs.FaceBorders.{has_plain_lines}
use Rattle.face_rings.proofs.HalfLines.{HasPlainLines}
use Rattle.face_rings.proofs.HalvesApart.{half_of, forward_there, backward_there}
use Rattle.ring_laws.specs.Parts.{IsDividedBy}
use Rattle.ring_laws.specs.Ringed.{IsRinged}
use Rattle.parity_laws.specs.Steps.{above, left}
use Rattle.parity_laws.specs.Rings.{In, Drawn, those}
use Rattle.parity_laws.specs.Shelling.{IsRingLabel}
use Rattle.parity_laws.proofs.BesideParts.{parts_have_once, outer_parts_have_once, ring_in_first, ring_in_second}
use Rattle.parity_laws.proofs.Dividing.{Divides, parted, parted_away, parted_first, parted_second, IsOuterPart, first_part, second_part}
use Rattle.parity_laws.proofs.DividedShells.{NoOtherShell, RestOfFace}
use Rattle.parity_laws.proofs.FaceShells.{IsRingAt, HasOnce}
use Rattle.parity_laws.proofs.Labels.{rings_same}
use Rattle.face_laws.specs.Walked.{steps_along, steps_of, is_of}
use Rattle.face_laws.specs.Covered.{face_of, IsSided}
use Rattle.face_laws.proofs.FaceOnLeft.{left_is, has_one}
use Rattle.face_laws.proofs.Lists.{in_place}
use Rattle.face_laws.proofs.PlainSteps.{half_with, step_there, step_back}
use Rattle.face_laws.proofs.RingLabels.{face_ringwise, ring_steps, step_of_ring, own_steps, in_own_ring, first_step, first_there}
use Rattle.parity_laws.proofs.RingAt.{rings_there}
use Rattle.face_laws.proofs.RingSums.{ring_over}
use Rattle.face_laws.proofs.ShellTests.{shell_is, ring_of_label}
use Rattle.subdivision_laws.proofs.AddedSteps.{drawn_of}
use Rattle.parity_laws.proofs.ClosingShells.{IsTurned}

-- ---- the division of a face of T by its edge e
abbrev pub left_label : Drawing → Edge → Segment → Bool
left_label T e = is_of (ring_of (half_edges T) (forward_of e))

abbrev pub right_label : Drawing → Edge → Segment → Bool
right_label T e = is_of (ring_of (half_edges T) (backward_of e))

abbrev pub start : Edge → Segment
start e = first_step (forward_of e)

-- a face other than 0 is divided
abbrev pub IsInner : Drawing → Edge → Division → Type 0
IsInner T e d = (d.face ≢ 0) × (d.left_part ≢ 0) × (d.right_part ≢ 0) × RestOfFace (steps_of T) (face_of T) d.face (start e) (left_label T e) (right_label T e)

-- face 0 is divided
abbrev pub IsOuter : Drawing → Edge → Division → Type 0
IsOuter T e d =
    (d.face ≡ 0) × IsOuterPart (steps_of T) (left_label T e) (start e) d.left_part d.right_part × IsTurned (steps_of T) (start e) (left_label T e) (right_label T e)
    × NoOtherShell (steps_of T) (face_of T) d.face (start e) (back (start e))

pub record IsParted (T : Drawing) (e : Edge) (d : Division) : Type 0 where
  pub before : IsRinged T
  pub sided : IsSided T
  pub by : IsDividedBy T e d
  pub cut : contains_half_edge (ring_of (half_edges T) (forward_of e)) (backward_of e) ≡ false
  pub differ : d.left_part ≢ d.right_part
  pub new_left : (d.left_part ≡ d.face) ⊎ ((t : Segment) → In t (steps_of T) → face_of T t ≢ d.left_part)
  pub new_right : (d.right_part ≡ d.face) ⊎ ((t : Segment) → In t (steps_of T) → face_of T t ≢ d.right_part)
  pub kind : IsInner T e d ⊎ IsOuter T e d

pub start_on : (T : Drawing) (h : HalfEdge) → HasPlainLines T → Contains (half_edges T) h → In (first_step h) (steps_along h)
start_on T h good c = in_place (first_step h) (segments_of h.points) 0 (first_there T h good c)

pub good_of : (T : Drawing) (e : Edge) (d : Division) → IsParted T e d → HasPlainLines T
good_of T e d h = has_plain_lines T h.before.rings

pub forth_in : (T : Drawing) (e : Edge) (d : Division) → IsParted T e d → Contains (half_edges T) (forward_of e)
forth_in T e d h = forward_there T.edges e h.by.there

pub back_in : (T : Drawing) (e : Edge) (d : Division) → IsParted T e d → Contains (half_edges T) (backward_of e)
back_in T e d h = backward_there T.edges e h.by.there

pub start_in : (T : Drawing) (e : Edge) (d : Division) → IsParted T e d → In (start e) (steps_along (forward_of e))
start_in T e d h = start_on T (forward_of e) (good_of T e d h) (forth_in T e d h)

pub start_back : (T : Drawing) (e : Edge) (d : Division) → IsParted T e d → In (back (start e)) (steps_along (backward_of e))
start_back T e d h = step_back (forward_of e) (start e) (start_in T e d h)

-- faces G that are told apart by the left ring's parity
pub divides_by : (T : Drawing) (e : Edge) (d : Division) (G : Segment → ℕ) → IsParted T e d →
    ((t : Segment) → In t (steps_of T) → G t ≡ parted (steps_of T) (face_of T) d.face d.left_part d.right_part (start e) (left_label T e) t) →
    Divides (steps_of T) (face_of T) G d.face d.left_part d.right_part (start e) (left_label T e) (right_label T e)
divides_by T e d G h same = record {
  faces = λ g. face_ringwise T g h.before.rings;
  sided = h.sided;
  there = step_there T (forward_of e) (start e) (forth_in T e d h) (start_in T e d h);
  first = ring_of_label T (forward_of e) h.before.rings (forth_in T e d h);
  first_on = own_steps T (forward_of e) (start e) (start_in T e d h);
  second = ring_of_label T (backward_of e) h.before.rings (back_in T e d h);
  second_on = own_steps T (backward_of e) (back (start e)) (start_back T e d h);
  other = step_of_ring T (forward_of e) (backward_of e) (back (start e)) h.before.rings (forth_in T e d h) (back_in T e d h) (start_back T e d h) ∙ h.cut;
  face = left_is T (forward_of e) (start e) (good_of T e d h) (forth_in T e d h) (start_in T e d h) ∙ h.by.left;
  face_back = left_is T (backward_of e) (back (start e)) (good_of T e d h) (back_in T e d h) (start_back T e d h) ∙ h.by.right;
  differ = h.differ;
  new_a = h.new_left;
  new_b = h.new_right;
  away = λ t i n. same t i ∙ parted_away (steps_of T) (face_of T) d.face d.left_part d.right_part (start e) (left_label T e) t n;
  part_a = λ t i k m. same t i ∙ parted_first (steps_of T) (face_of T) d.face d.left_part d.right_part (start e) (left_label T e) t k m;
  part_b = λ t i k m. same t i ∙ parted_second (steps_of T) (face_of T) d.face d.left_part d.right_part (start e) (left_label T e) t k m;
}

abbrev pub Parted : Drawing → Edge → Division → Segment → ℕ
Parted T e d = parted (steps_of T) (face_of T) d.face d.left_part d.right_part (start e) (left_label T e)

-- each part has a shell, or none
pub parts_once : (T : Drawing) (e : Edge) (d : Division) → IsParted T e d → HasOnce (steps_of T) (Parted T e d) d.left_part × HasOnce (steps_of T) (Parted T e d) d.right_part
parts_once T e d h =
    ⊎_elim
    (λ (k : IsInner T e d).
    parts_have_once (steps_of T) (face_of T) (Parted T e d) d.face d.left_part d.right_part (start e) (left_label T e) (right_label T e) drawn (rings_there (steps_of T) drawn) divides k.0 k.1 k.2 k.3)
    (λ (k : IsOuter T e d).
    outer_parts_have_once (steps_of T) (face_of T) (Parted T e d) d.face d.left_part d.right_part (start e) (left_label T e) (right_label T e) drawn divides k.0 k.1 k.2 k.3)
    h.kind
  where
    drawn : Drawn (steps_of T)
    drawn = drawn_of T (good_of T e d h)

    divides : Divides (steps_of T) (face_of T) (Parted T e d) d.face d.left_part d.right_part (start e) (left_label T e) (right_label T e)
    divides = divides_by T e d (Parted T e d) h (λ t i. refl)

-- ---- the part of a point
-- the test of the program is the parity of the left ring
pub part_by : (T : Drawing) (e : Edge) (d : Division) (P : ℕ → Type 0) (v : Point) → IsParted T e d →
    (above (those (left_label T e) (steps_of T)) v ≡ left (those (left_label T e) (steps_of T)) (start e) → P d.left_part) →
    (above (those (left_label T e) (steps_of T)) v ≡ not (left (those (left_label T e) (steps_of T)) (start e)) → P d.right_part) → P (part_at d v)
part_by T e d P v h on_left on_right =
    by_test (is_on_left d.left_ring v) (above (those (left_label T e) (steps_of T)) v) (left (those (left_label T e) (steps_of T)) (start e)) is on_left on_right
  where
    is : is_on_left d.left_ring v ≡ not (xor (above (those (left_label T e) (steps_of T)) v) (left (those (left_label T e) (steps_of T)) (start e)))
    is =
        ap (λ ring. is_on_left ring v) h.by.left_ring
        ∙ (λ i. not (xor (ring_over T (forward_of e) v h.before.rings (forth_in T e d h) i) (shell_is T (forward_of e) (start e) h.before.rings (forth_in T e d h) (start_in T e d h) i)))

    by_test : (x y z : Bool) → x ≡ not (xor y z) → (y ≡ z → P d.left_part) → (y ≡ not z → P d.right_part) → P (cond x d.left_part d.right_part)
    by_test true true true k on_left on_right = on_left refl
    by_test true false false k on_left on_right = on_left refl
    by_test false true false k on_left on_right = on_right refl
    by_test false false true k on_left on_right = on_right refl
    by_test true true false k on_left on_right = absurd (both_ways true k refl)
    by_test true false true k on_left on_right = absurd (both_ways true k refl)
    by_test false true true k on_left on_right = absurd (both_ways false refl k)
    by_test false false false k on_left on_right = absurd (both_ways false refl k)

-- ---- the least half-edge of a ring
-- as least_of in ring_laws/proofs/RingParts
least_there : (h : HalfEdge) (ring : List HalfEdge) → Contains (h ∷ ring) (fold earlier_of h ring)
least_there h [] = contains_here h []
least_there h (k ∷ ring) = by_test (comes_before k h) (least_there k ring) (least_there h ring)
  where
    by_test : (t : Bool) → Contains (k ∷ ring) (fold earlier_of k ring) → Contains (h ∷ ring) (fold earlier_of h ring) → Contains (h ∷ k ∷ ring) (fold earlier_of (cond t k h) ring)
    by_test true on off = contains_there (fold earlier_of k ring) h (k ∷ ring) on
    by_test false on off =
        ⊎_elim
        (λ (p : h ≡ fold earlier_of h ring). subst (Contains (h ∷ k ∷ ring)) p (contains_here h (k ∷ ring)))
        (λ (c : Contains ring (fold earlier_of h ring)). contains_there (fold earlier_of h ring) h (k ∷ ring) (contains_there (fold earlier_of h ring) k ring c))
        (contains_cases (fold earlier_of h ring) h ring off)

pub least_half : (ring : List HalfEdge) (h : HalfEdge) → Contains ring h → (m : HalfEdge) × (Contains ring m × (least_vertex ring ≡ first_vertex m.points))
least_half [] h c = absurd (contains_none h c)
least_half (k ∷ ring) h c = (fold earlier_of k ring, (least_there k ring, refl))

-- ---- the faces of the steps
pub steps_divided : (T : Drawing) (d : Division) (faces : List ℕ) (new : ℕ) → steps_of (divided T d faces new) ≡ steps_of T
steps_divided T d faces new = each T.edges
  where
    each : (edges : List Edge) → flat_map steps_along (flat_map both_halves (map (divided_edge d (half_edges T)) edges)) ≡ flat_map steps_along (flat_map both_halves edges)
    each [] = refl
    each (e ∷ edges) = ap (λ X. segments_of e.geom ++ (segments_of (reverse e.geom) ++ X)) (each edges)

-- a half-edge of the divided drawing, with its part on its left
record HasSide (T : Drawing) (d : Division) (faces : List ℕ) (new : ℕ) (h : HalfEdge) : Type 0 where
  half : HalfEdge
  there : Contains (half_edges (divided T d faces new)) half
  side : half.on_left ≡ divided_side d (half_edges T) h.on_left h
  points : half.points ≡ h.points

side_of : (T : Drawing) (d : Division) (faces : List ℕ) (new : ℕ) (h : HalfEdge) → Contains (half_edges T) h → HasSide T d faces new h
side_of T d faces new h c =
    let r = half_of T.edges h c in
    let there = contains-map (divided_edge d (half_edges T)) r.edge T.edges r.there in
    ⊎_elim
    (λ (k : forward_of r.edge ≡ h).
    subst (HasSide T d faces new) k
    (record { half = forward_of (divided_edge d (half_edges T) r.edge); there = forward_there (map (divided_edge d (half_edges T)) T.edges) (divided_edge d (half_edges T) r.edge) there; side = refl; points = refl }))
    (λ (k : backward_of r.edge ≡ h).
    subst (HasSide T d faces new) k
    (record { half = backward_of (divided_edge d (half_edges T) r.edge); there = backward_there (map (divided_edge d (half_edges T)) T.edges) (divided_edge d (half_edges T) r.edge) there; side = refl; points = refl }))
    r.way

face_side : (T : Drawing) (d : Division) (faces : List ℕ) (new : ℕ) (h : HalfEdge) (t : Segment) → HasPlainLines (divided T d faces new) → Contains (half_edges T) h → In t (steps_along h) →
    face_of (divided T d faces new) t ≡ divided_side d (half_edges T) h.on_left h
face_side T d faces new h t good c i =
    let k = side_of T d faces new h c in
    left_is (divided T d faces new) k.half t good k.there (subst (λ l. In t (segments_of l)) (sym k.points) i) ∙ k.side

-- each step has the part that the parities say
pub face_parted : (T : Drawing) (e : Edge) (d : Division) (faces : List ℕ) (new : ℕ) → IsParted T e d → HasPlainLines (divided T d faces new) → (t : Segment) → In t (steps_of T) →
    face_of (divided T d faces new) t ≡ parted (steps_of T) (face_of T) d.face d.left_part d.right_part (start e) (left_label T e) t
face_parted T e d faces new h good t i = of_half (half_with T t i)
  where
    drawn : Drawn (steps_of T)
    drawn = drawn_of T (good_of T e d h)

    divides : Divides (steps_of T) (face_of T) (Parted T e d) d.face d.left_part d.right_part (start e) (left_label T e) (right_label T e)
    divides = divides_by T e d (Parted T e d) h (λ t i. refl)

    of_half : (k : HalfEdge) × (Contains (half_edges T) k × In t (steps_along k)) → face_of (divided T d faces new) t ≡ Parted T e d t
    of_half (k, (c, on)) = face_side T d faces new k t good c on ∙ by_face (k.on_left == d.face) refl
      where
        face : face_of T t ≡ k.on_left
        face = left_is T k t (good_of T e d h) c on

        own : is_of (ring_of (half_edges T) k) t ≡ true
        own = own_steps T k t on

        -- the ring of k, where that has no step of the edge
        other : k.on_left ≡ d.face → left_label T e t ≡ false → right_label T e t ≡ false → part_at d (least_vertex (ring_of (half_edges T) k)) ≡ Parted T e d t
        other at not_left not_right = of_least (least_half (ring_of (half_edges T) k) k in_own)
          where
            in_own : Contains (ring_of (half_edges T) k) k
            in_own = in_own_ring T k

            ring : IsRingLabel (steps_of T) (is_of (ring_of (half_edges T) k))
            ring = ring_of_label T k h.before.rings c

            off : is_of (ring_of (half_edges T) k) (start e) ≡ false
            off =
                false_from_ne_true (is_of (ring_of (half_edges T) k) (start e)) (λ m.
                both_ways (left_label T e t) not_left
                (sym (rings_same (steps_of T) (is_of (ring_of (half_edges T) k)) (left_label T e) (start e) ring.ringwise ring.one divides.first.ringwise divides.first.one divides.there m divides.first_on t i) ∙ own))

            off_back : is_of (ring_of (half_edges T) k) (back (start e)) ≡ false
            off_back =
                false_from_ne_true (is_of (ring_of (half_edges T) k) (back (start e))) (λ m.
                both_ways (right_label T e t) not_right
                (sym (rings_same (steps_of T) (is_of (ring_of (half_edges T) k)) (right_label T e) (back (start e)) ring.ringwise ring.one divides.second.ringwise divides.second.one (drawn.plain.both (start e) divides.there) m divides.second_on t i) ∙ own))

            of_least : (m : HalfEdge) × (Contains (ring_of (half_edges T) k) m × (least_vertex (ring_of (half_edges T) k) ≡ first_vertex m.points)) → part_at d (least_vertex (ring_of (half_edges T) k)) ≡ Parted T e d t
            of_least (m, (w, vertex)) =
                subst (λ v. part_at d v ≡ Parted T e d t) (sym (vertex ∙ first_begins m.points (first_step m) (first_there T m (good_of T e d h) there)))
                (part_by T e d (λ z. z ≡ Parted T e d t) (first_step m).a h
                (λ g. sym (ring_in_first (steps_of T) (face_of T) (Parted T e d) d.face d.left_part d.right_part (start e) (left_label T e) (right_label T e) (is_of (ring_of (half_edges T) k)) (first_step m) drawn
                (rings_there (steps_of T) drawn) divides once.0 once.1 at_least off off_back g t i own))
                (λ g. sym (ring_in_second (steps_of T) (face_of T) (Parted T e d) d.face d.left_part d.right_part (start e) (left_label T e) (right_label T e) (is_of (ring_of (half_edges T) k)) (first_step m) drawn
                (rings_there (steps_of T) drawn) divides once.0 once.1 at_least off off_back g t i own)))
              where
                there : Contains (half_edges T) m
                there = (ring_steps T k m h.before.rings c w).there

                once : HasOnce (steps_of T) (Parted T e d) d.left_part × HasOnce (steps_of T) (Parted T e d) d.right_part
                once = parts_once T e d h

                at_least : IsRingAt (steps_of T) (face_of T) d.face (is_of (ring_of (half_edges T) k)) (first_step m)
                at_least = record {
                  ring = ring;
                  there = step_there T m (first_step m) there (start_on T m (good_of T e d h) there);
                  mine = has_one (ring_of (half_edges T) k) (first_step m) m w (start_on T m (good_of T e d h) there);
                  face = left_is T m (first_step m) (good_of T e d h) there (start_on T m (good_of T e d h) there) ∙ (ring_steps T k m h.before.rings c w).left ∙ at;
                }

        by_rings : k.on_left ≡ d.face → (x y : Bool) → contains_half_edge d.left_ring k ≡ x → contains_half_edge d.right_ring k ≡ y →
            cond x d.left_part (cond y d.right_part (part_at d (least_vertex (ring_of (half_edges T) k)))) ≡ Parted T e d t
        by_rings at true y p q =
            sym (first_part (steps_of T) (face_of T) (Parted T e d) d.face d.left_part d.right_part (start e) (left_label T e) (right_label T e) drawn divides t i
            (step_of_ring T (forward_of e) k t h.before.rings (forth_in T e d h) c on ∙ sym (ap (λ ring. contains_half_edge ring k) h.by.left_ring) ∙ p))
        by_rings at false true p q =
            sym (second_part (steps_of T) (face_of T) (Parted T e d) d.face d.left_part d.right_part (start e) (left_label T e) (right_label T e) drawn divides t i
            (step_of_ring T (backward_of e) k t h.before.rings (back_in T e d h) c on ∙ sym (ap (λ ring. contains_half_edge ring k) h.by.right_ring) ∙ q))
        by_rings at false false p q =
            other at (step_of_ring T (forward_of e) k t h.before.rings (forth_in T e d h) c on ∙ sym (ap (λ ring. contains_half_edge ring k) h.by.left_ring) ∙ p)
            (step_of_ring T (backward_of e) k t h.before.rings (back_in T e d h) c on ∙ sym (ap (λ ring. contains_half_edge ring k) h.by.right_ring) ∙ q)

        by_face : (x : Bool) → (k.on_left == d.face) ≡ x → cond x (part_beside d (half_edges T) k) k.on_left ≡ Parted T e d t
        by_face true m = by_rings (eqb-true k.on_left d.face m) (contains_half_edge d.left_ring k) (contains_half_edge d.right_ring k) refl refl
        by_face false m = sym (parted_away (steps_of T) (face_of T) d.face d.left_part d.right_part (start e) (left_label T e) t (λ z. eqb-false k.on_left d.face m (sym face ∙ z)) ∙ face)
