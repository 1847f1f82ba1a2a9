-- Where the vertices of the other rings of a divided face lie, and those of the right ring.
use Rattle.std.proofs.Common.{◌≡◌, ◌≢◌, ◌≤◌, refl, sym, ◌∙◌, ap, subst, arith, ◌⊎◌, inl, inr, ⊎_elim, Bool, true, false, not, List, [], ◌∷◌, length}
use Rattle.std.specs.List.{Contains}
use Rattle.std.proofs.lemmas.Bool.{both_ways, false_from_ne_true}
use Rattle.topo_base.specs.Point.{Point}
use Rattle.topo_base.specs.declared.rows.Box4.{Box4}
use Rattle.drawing.specs.AddEdge.{Division}
use Rattle.drawing.specs.Drawing.{Drawing, Edge}
use Rattle.plane.specs.Parity.{xor}
use Rattle.drawing.specs.HalfEdge.{HalfEdge, forward_of, backward_of, half_edges}
use Rattle.plane.specs.Line.{segments_of}
use Rattle.drawing.specs.Ring.{ring_of, contains_half_edge}
use Rattle.plane.specs.Segment.{Segment}
use Rattle.plane.specs.Crossings.{back}
use Rattle.plane.proofs.ListTests.{contains_here, contains_there, contains_cases, contains_none}
use Rattle.face_rings.specs.FaceBorder.{HasRings}
use Rattle.face_rings.proofs.FaceBorders.{has_plain_lines}
use Rattle.face_rings.proofs.HalvesApart.{half_of, line_of}
use Rattle.parity_laws.specs.Steps.{above, left}
use Rattle.parity_laws.specs.Rings.{In, Drawn, Ringwise, those}
use Rattle.parity_laws.specs.Shelling.{IsRingLabel, OneShell, NoShell}
use Rattle.parity_laws.proofs.BesideParts.{beside_vertex, off_first_ring}
use Rattle.parity_laws.proofs.Dividing.{Divides, Place, in_a, in_b, elsewhere, place, side_ringwise, second_part, divided_sides, outer_divided_sides}
use Rattle.parity_laws.proofs.DividedShells.{divided_shells, outer_divided_shells, one_is_shell}
use Rattle.parity_laws.proofs.FaceShells.{IsRingAt}
use Rattle.parity_laws.proofs.Labels.{rings_same}
use Rattle.parity_laws.proofs.Orbits.{label_even}
use Rattle.parity_laws.proofs.RingAt.{rings_there}
use Rattle.parity_laws.proofs.Ringwise.{in_each}
use Rattle.parity_laws.proofs.Splitting.{has_next}
use Rattle.parity_laws.proofs.Star.{those_in}
use Rattle.face_laws.specs.Walked.{steps_along, steps_of, is_of}
use Rattle.face_laws.specs.Covered.{face_of, IsInFaceOf}
use Rattle.face_laws.proofs.FaceOnLeft.{left_is, has_one, one_has}
use Rattle.face_laws.proofs.PlainSteps.{step_there}
use Rattle.face_laws.proofs.RingLabels.{ring_steps, step_of_ring, own_steps, first_step, ring_ringwise}
use Rattle.face_laws.proofs.ShellTests.{ring_of_label}
use Rattle.subdivision_laws.proofs.AddedSteps.{drawn_of}
use Rattle.subdivision_laws.proofs.DividedFaces.{left_label, right_label, start, IsInner, IsOuter, IsParted, good_of, forth_in, back_in, start_on, divides_by, Parted, parts_once}
use Rattle.local_laws.specs.Parts.{IsVertex}
use Rattle.local_laws.specs.Boxes.{IsInBox, HasAll}
use Rattle.local_laws.proofs.Bounds.{IsStepIn, above_in_box}
use Rattle.local_laws.proofs.TwoRings.{HasItsShell, HasParts, step_of_one, point_of_one, off_second_ring}

-- ---- vertices of a ring, as starts of its steps
-- each vertex of a line is an end of a step of it
end_of_step : (v : Point) (line : List Point) → 2 ≤ length line → Contains line v → (s : Segment) × (In s (segments_of line) × ((s.a ≡ v) ⊎ (s.b ≡ v)))
end_of_step v [] long c = absurd (contains_none v c)
end_of_step v (p ∷ []) long c = absurd (omega (arith, long))
end_of_step v (p ∷ q ∷ []) long c = (
  record { a = p; b = q },
  (
    inl refl,
    ⊎_elim (λ (e : p ≡ v). inl e) (λ (d : Contains (q ∷ []) v). inr (⊎_elim (λ (e : q ≡ v). e) (λ (n : Contains [] v). absurd (contains_none v n)) (contains_cases v q [] d))) (contains_cases v p (q ∷ []) c),
  ),
)
end_of_step v (p ∷ q ∷ r ∷ line) long c =
    ⊎_elim
    (λ (e : p ≡ v). (record { a = p; b = q }, (inl refl, inl e)))
    (λ (d : Contains (q ∷ r ∷ line) v). let s = end_of_step v (q ∷ r ∷ line) (omega arith) d in (s.0, (inr s.1.0, s.1.1)))
    (contains_cases v p (q ∷ r ∷ line) c)

-- and each step begins at a vertex
pub start_is_vertex : (s : Segment) (line : List Point) → In s (segments_of line) → Contains line s.a
start_is_vertex s [] i = absurd i
start_is_vertex s (p ∷ []) i = absurd i
start_is_vertex s (p ∷ q ∷ line) i =
    ⊎_elim
    (λ (e : s ≡ record { a = p; b = q }). subst (Contains (p ∷ q ∷ line)) (sym (ap (λ (t : Segment). t.a) e)) (contains_here p (q ∷ line)))
    (λ (j : In s (segments_of (q ∷ line))). contains_there s.a p (q ∷ line) (start_is_vertex s (q ∷ line) j))
    i

pub end_is_vertex : (s : Segment) (line : List Point) → In s (segments_of line) → Contains line s.b
end_is_vertex s [] i = absurd i
end_is_vertex s (p ∷ []) i = absurd i
end_is_vertex s (p ∷ q ∷ line) i =
    ⊎_elim
    (λ (e : s ≡ record { a = p; b = q }). subst (Contains (p ∷ q ∷ line)) (sym (ap (λ (t : Segment). t.b) e)) (contains_there q p (q ∷ line) (contains_here q line)))
    (λ (j : In s (segments_of (q ∷ line))). contains_there s.b p (q ∷ line) (end_is_vertex s (q ∷ line) j))
    i

-- a step with the label that begins at v
record StartsAt (T : List Segment) (label : Segment → Bool) (v : Point) : Type 0 where
  step : Segment
  there : In step T
  mine : label step ≡ true
  at : step.a ≡ v

starts_at : (T : Drawing) (h : HalfEdge) (v : Point) → HasRings T → Contains (half_edges T) h → IsVertex (ring_of (half_edges T) h) v → StartsAt (steps_of T) (is_of (ring_of (half_edges T) h)) v
starts_at T h v has ch (k, (ck, cv)) =
    let there = (ring_steps T h k has ch ck).there in
    let s = end_of_step v k.points (line_of T k (has_plain_lines T has) (half_of T.edges k there)).long cv in
    let on = has_one (ring_of (half_edges T) h) s.0 k ck s.1.0 in
    let i = step_there T k s.0 there s.1.0 in
    ⊎_elim
    (λ (e : s.0.a ≡ v). record { step = s.0; there = i; mine = on; at = e })
    (λ (e : s.0.b ≡ v).
    let n = has_next (steps_of T) s.0 (drawn_of T (has_plain_lines T has)) i in
    record { step = n.0; there = n.1.0; mine = sym (ring_ringwise T h has ch s.0 n.0 i n.1.0 n.1.1) ∙ on; at = n.1.1.meets ∙ e })
    s.1.1

-- ---- another ring of the divided face
pub record IsOther (T : Drawing) (e : Edge) (d : Division) (h : HalfEdge) : Type 0 where
  pub there : Contains (half_edges T) h
  pub face : h.on_left ≡ d.face
  pub not_left : contains_half_edge (ring_of (half_edges T) (forward_of e)) h ≡ false
  pub not_right : contains_half_edge (ring_of (half_edges T) (backward_of e)) h ≡ false

abbrev own_label : Drawing → HalfEdge → Segment → Bool
own_label T h = is_of (ring_of (half_edges T) h)

abbrev left_steps : Drawing → Edge → List Segment
left_steps T e = those (left_label T e) (steps_of T)

abbrev right_steps : Drawing → Edge → List Segment
right_steps T e = those (right_label T e) (steps_of T)

divides : (T : Drawing) (e : Edge) (d : Division) → IsParted T e d → Divides (steps_of T) (face_of T) (Parted T e d) d.face d.left_part d.right_part (start e) (left_label T e) (right_label T e)
divides T e d h = divides_by T e d (Parted T e d) h (λ t i. refl)

-- a step of it, as a ring that has no step of the edge
record IsAside (T : Drawing) (e : Edge) (d : Division) (h : HalfEdge) (r : Segment) : Type 0 where
  at : IsRingAt (steps_of T) (face_of T) d.face (own_label T h) r
  off : own_label T h (start e) ≡ false
  off_back : own_label T h (back (start e)) ≡ false

aside : (T : Drawing) (e : Edge) (d : Division) (h : HalfEdge) (r : Segment) → IsParted T e d → IsOther T e d h → In r (steps_of T) → own_label T h r ≡ true → IsAside T e d h r
aside T e d h r parted o i mine = record {
  at = record { ring = ring; there = i; mine = mine; face = face };
  off = false_from_ne_true (own_label T h (start e)) (λ m.
      both_ways (left_label T e (first_step h)) (step_of_ring T (forward_of e) h (first_step h) parted.before.rings (forth_in T e d parted) o.there on_it ∙ o.not_left)
      (sym (rings_same (steps_of T) (own_label T h) (left_label T e) (start e) ring.ringwise ring.one by.first.ringwise by.first.one by.there m by.first_on (first_step h) first_in) ∙ own));
  off_back = false_from_ne_true (own_label T h (back (start e))) (λ m.
      both_ways (right_label T e (first_step h)) (step_of_ring T (backward_of e) h (first_step h) parted.before.rings (back_in T e d parted) o.there on_it ∙ o.not_right)
      (sym (rings_same (steps_of T) (own_label T h) (right_label T e) (back (start e)) ring.ringwise ring.one by.second.ringwise by.second.one ((drawn_of T (good_of T e d parted)).plain.both (start e) by.there) m by.second_on (first_step h) first_in) ∙ own));
}
  where
    by : Divides (steps_of T) (face_of T) (Parted T e d) d.face d.left_part d.right_part (start e) (left_label T e) (right_label T e)
    by = divides T e d parted

    ring : IsRingLabel (steps_of T) (own_label T h)
    ring = ring_of_label T h parted.before.rings o.there

    on_it : In (first_step h) (steps_along h)
    on_it = start_on T h (good_of T e d parted) o.there

    first_in : In (first_step h) (steps_of T)
    first_in = step_there T h (first_step h) o.there on_it

    own : own_label T h (first_step h) ≡ true
    own = own_steps T h (first_step h) on_it

    face : face_of T r ≡ d.face
    face =
        let (k, (c, j)) = one_has (ring_of (half_edges T) h) r mine in
        let s = ring_steps T h k parted.before.rings o.there c in
        left_is T k r (good_of T e d parted) s.there j ∙ s.left ∙ o.face

-- it is at no vertex of the left ring, nor of the right one
off_left : (T : Drawing) (e : Edge) (d : Division) (h : HalfEdge) (r : Segment) → IsParted T e d → IsOther T e d h → In r (steps_of T) → own_label T h r ≡ true →
    (t : Segment) → In t (steps_of T) → left_label T e t ≡ true → t.a ≢ r.a
off_left T e d h r parted o i mine =
    let drawn = drawn_of T (good_of T e d parted) in
    let k = aside T e d h r parted o i mine in
    off_first_ring (steps_of T) (face_of T) (Parted T e d) d.face d.left_part d.right_part (start e) (left_label T e) (right_label T e) (own_label T h) r drawn (rings_there (steps_of T) drawn) (divides T e d parted)
    (parts_once T e d parted).0 (parts_once T e d parted).1 k.at k.off k.off_back

off_right : (T : Drawing) (e : Edge) (d : Division) (h : HalfEdge) (r : Segment) → IsParted T e d → IsOther T e d h → In r (steps_of T) → own_label T h r ≡ true →
    (t : Segment) → In t (steps_of T) → right_label T e t ≡ true → t.a ≢ r.a
off_right T e d h r parted o i mine =
    let drawn = drawn_of T (good_of T e d parted) in
    let k = aside T e d h r parted o i mine in
    off_second_ring (steps_of T) (face_of T) (Parted T e d) d.face d.left_part d.right_part (start e) (left_label T e) (right_label T e) (own_label T h) r drawn (rings_there (steps_of T) drawn) (divides T e d parted)
    (parts_once T e d parted).0 (parts_once T e d parted).1 k.at k.off k.off_back

-- a vertex of a ring is the start of a step with its label
pub other_apart : (T : Drawing) (e : Edge) (d : Division) (h : HalfEdge) (v : Point) → IsParted T e d → IsOther T e d h → IsVertex (ring_of (half_edges T) h) v →
    IsVertex (ring_of (half_edges T) (forward_of e)) v → ⊥
other_apart T e d h v parted o own of_left =
    let r = starts_at T h v parted.before.rings o.there own in
    let t = starts_at T (forward_of e) v parted.before.rings (forth_in T e d parted) of_left in
    off_left T e d h r.step parted o r.there r.mine t.step t.there t.mine (t.at ∙ sym r.at)

pub other_apart_right : (T : Drawing) (e : Edge) (d : Division) (h : HalfEdge) (v : Point) → IsParted T e d → IsOther T e d h → IsVertex (ring_of (half_edges T) h) v →
    IsVertex (ring_of (half_edges T) (backward_of e)) v → ⊥
other_apart_right T e d h v parted o own of_right =
    let r = starts_at T h v parted.before.rings o.there own in
    let t = starts_at T (backward_of e) v parted.before.rings (back_in T e d parted) of_right in
    off_right T e d h r.step parted o r.there r.mine t.step t.there t.mine (t.at ∙ sym r.at)

-- all have above them what the ring has on its left
ring_above : (T : Drawing) (h : HalfEdge) (v : Point) (label : Segment → Bool) → HasRings T → Contains (half_edges T) h → Ringwise (steps_of T) label →
    ((r : Segment) → In r (steps_of T) → own_label T h r ≡ true → (t : Segment) → In t (steps_of T) → label t ≡ true → t.a ≢ r.a) → IsVertex (ring_of (half_edges T) h) v →
    above (those label (steps_of T)) v ≡ left (those label (steps_of T)) (first_step h)
ring_above T h v label has c rings off own = of_start (starts_at T h v has c own)
  where
    drawn : Drawn (steps_of T)
    drawn = drawn_of T (has_plain_lines T has)

    first_on : In (first_step h) (steps_along h)
    first_on = start_on T h (has_plain_lines T has) c

    of_start : StartsAt (steps_of T) (own_label T h) v → above (those label (steps_of T)) v ≡ left (those label (steps_of T)) (first_step h)
    of_start r =
        ap (above (those label (steps_of T))) (sym r.at)
        ∙ beside_vertex (steps_of T) label r.step drawn rings (off r.step r.there r.mine)
        ∙ (ring_of_label T h has c).one (λ s. left (those label (steps_of T)) s) (side_ringwise (steps_of T) label drawn rings)
        r.step (first_step h) r.there (step_there T h (first_step h) c first_on) r.mine (own_steps T h (first_step h) first_on)

pub other_above : (T : Drawing) (e : Edge) (d : Division) (h : HalfEdge) (v : Point) → IsParted T e d → IsOther T e d h → IsVertex (ring_of (half_edges T) h) v →
    above (left_steps T e) v ≡ left (left_steps T e) (first_step h)
other_above T e d h v parted o own = ring_above T h v (left_label T e) parted.before.rings o.there (divides T e d parted).first.ringwise (λ r i mine. off_left T e d h r parted o i mine) own

pub other_above_right : (T : Drawing) (e : Edge) (d : Division) (h : HalfEdge) (v : Point) → IsParted T e d → IsOther T e d h → IsVertex (ring_of (half_edges T) h) v →
    above (right_steps T e) v ≡ left (right_steps T e) (first_step h)
other_above_right T e d h v parted o own = ring_above T h v (right_label T e) parted.before.rings o.there (divides T e d parted).second.ringwise (λ r i mine. off_right T e d h r parted o i mine) own

-- ---- the right ring
-- left of it the left ring's parity is the other one
right_left : (T : Drawing) (e : Edge) (d : Division) (r : Segment) → IsParted T e d → In r (steps_of T) → right_label T e r ≡ true → left (left_steps T e) r ≡ not (left (left_steps T e) (start e))
right_left T e d r parted i mine = by_place (place (steps_of T) (face_of T) (Parted T e d) d.face d.left_part d.right_part (start e) (left_label T e) (right_label T e) by r i)
  where
    by : Divides (steps_of T) (face_of T) (Parted T e d) d.face d.left_part d.right_part (start e) (left_label T e) (right_label T e)
    by = divides T e d parted

    on_right : Parted T e d r ≡ d.right_part
    on_right = second_part (steps_of T) (face_of T) (Parted T e d) d.face d.left_part d.right_part (start e) (left_label T e) (right_label T e) (drawn_of T (good_of T e d parted)) by r i mine

    face : face_of T r ≡ d.face
    face = let (k, (c, j)) = one_has (ring_of (half_edges T) (backward_of e)) r mine in
        let s = ring_steps T (backward_of e) k parted.before.rings (back_in T e d parted) c in
        left_is T k r (good_of T e d parted) s.there j ∙ s.left ∙ parted.by.right

    by_place : Place (steps_of T) (face_of T) (Parted T e d) d.face d.left_part d.right_part (start e) (left_label T e) r → left (left_steps T e) r ≡ not (left (left_steps T e) (start e))
    by_place (in_a h k g) = absurd (parted.differ (sym g ∙ on_right))
    by_place (in_b h k g) = k
    by_place (elsewhere n g) = absurd (n face)

-- a vertex of it that isn't one of the left ring's has that parity above it
pub right_above : (T : Drawing) (e : Edge) (d : Division) (v : Point) → IsParted T e d → IsVertex (ring_of (half_edges T) (backward_of e)) v → (IsVertex (ring_of (half_edges T) (forward_of e)) v → ⊥) →
    above (left_steps T e) v ≡ not (left (left_steps T e) (start e))
right_above T e d v parted own away = of_start (starts_at T (backward_of e) v parted.before.rings (back_in T e d parted) own)
  where
    of_start : StartsAt (steps_of T) (right_label T e) v → above (left_steps T e) v ≡ not (left (left_steps T e) (start e))
    of_start r =
        ap (above (left_steps T e)) (sym r.at)
        ∙ beside_vertex (steps_of T) (left_label T e) r.step (drawn_of T (good_of T e d parted)) (divides T e d parted).first.ringwise
        (λ t i m meet.
        let (k, (c, j)) = one_has (ring_of (half_edges T) (forward_of e)) t m in
        away (k, (c, subst (Contains k.points) (meet ∙ r.at) (start_is_vertex t k.points j))))
        ∙ right_left T e d r.step parted r.there r.mine

-- ---- both rings
-- each part has one shell, or is face 0 and has none
parted_shells : (T : Drawing) (e : Edge) (d : Division) → IsParted T e d → HasItsShell (steps_of T) (Parted T e d) d.left_part × HasItsShell (steps_of T) (Parted T e d) d.right_part
parted_shells T e d h =
    ⊎_elim
    (λ (k : IsInner T e d).
    let both = divided_shells (steps_of T) (face_of T) (Parted T e d) d.face d.left_part d.right_part (start e) (left_label T e) (right_label T e) drawn (rings_there (steps_of T) drawn) (divides T e d h) k.0 k.1 k.2 k.3 in
    (inl (k.1, both.0), inl (k.2, both.1)))
    (λ (k : IsOuter T e d).
    ⊎_elim
    (λ (m : OneShell (steps_of T) (Parted T e d) d.left_part × (d.right_part ≡ 0) × NoShell (steps_of T) (Parted T e d) d.right_part). (inl ((λ z. h.differ (z ∙ sym m.1)), m.0), inr (m.1, m.2)))
    (λ (m : OneShell (steps_of T) (Parted T e d) d.right_part × (d.left_part ≡ 0) × NoShell (steps_of T) (Parted T e d) d.left_part). (inr (m.1, m.2), inl ((λ z. h.differ (m.1 ∙ sym z)), m.0)))
    (outer_divided_shells (steps_of T) (face_of T) (Parted T e d) d.face d.left_part d.right_part (start e) (left_label T e) (right_label T e) drawn (divides T e d h) k.1 k.2 k.3))
    h.kind
  where
    drawn : Drawn (steps_of T)
    drawn = drawn_of T (good_of T e d h)

has_parts : (T : Drawing) (e : Edge) (d : Division) → IsParted T e d → HasParts (steps_of T) (face_of T) (Parted T e d) d.face d.left_part d.right_part (start e) (left_label T e) (right_label T e)
has_parts T e d h = record {
  drawn = drawn;
  by = divides T e d h;
  sides = ⊎_elim
      (λ (k : IsInner T e d). divided_sides (steps_of T) (face_of T) (Parted T e d) d.face d.left_part d.right_part (start e) (left_label T e) (right_label T e) drawn (divides T e d h) k.0)
      (λ (k : IsOuter T e d). outer_divided_sides (steps_of T) (face_of T) (Parted T e d) d.face d.left_part d.right_part (start e) (left_label T e) (right_label T e) drawn (divides T e d h) k.0 k.1)
      h.kind;
  shell_a = (parted_shells T e d h).0;
  shell_b = (parted_shells T e d h).1;
}
  where
    drawn : Drawn (steps_of T)
    drawn = drawn_of T (good_of T e d h)

-- where the left ring is a hole the right one is a shell
pub right_shell : (T : Drawing) (e : Edge) (d : Division) → IsParted T e d → left (left_steps T e) (start e) ≡ false → left (right_steps T e) (back (start e)) ≡ true
right_shell T e d h hole =
    ⊎_elim
    (λ (k : IsInner T e d).
    let both = divided_shells (steps_of T) (face_of T) (Parted T e d) d.face d.left_part d.right_part (start e) (left_label T e) (right_label T e) drawn (rings_there (steps_of T) drawn) (divides T e d h) k.0 k.1 k.2 k.3 in
    one_is_shell (steps_of T) (face_of T) (Parted T e d) d.face d.left_part d.right_part (start e) (left_label T e) (right_label T e) drawn (divides T e d h) both.0 both.1 k.3 hole)
    (λ (k : IsOuter T e d). k.2 ∙ ap not hole)
    h.kind
  where
    drawn : Drawn (steps_of T)
    drawn = drawn_of T (good_of T e d h)

pub other_of_one : (T : Drawing) (e : Edge) (d : Division) (h : HalfEdge) (v : Point) → IsParted T e d → IsOther T e d h → IsVertex (ring_of (half_edges T) h) v →
    xor (above (right_steps T e) v) (left (right_steps T e) (back (start e))) ≡ not (xor (above (left_steps T e) v) (left (left_steps T e) (start e)))
other_of_one T e d h v parted o own =
    ap (λ x. xor x (left (right_steps T e) (back (start e)))) (other_above_right T e d h v parted o own)
    ∙ step_of_one (steps_of T) (face_of T) (Parted T e d) d.face d.left_part d.right_part (start e) (left_label T e) (right_label T e) (first_step h) (has_parts T e d parted)
    (step_there T h (first_step h) o.there on_it) (left_is T h (first_step h) (good_of T e d parted) o.there on_it ∙ o.face)
    ∙ ap (λ x. not (xor x (left (left_steps T e) (start e)))) (sym (other_above T e d h v parted o own))
  where
    on_it : In (first_step h) (steps_along h)
    on_it = start_on T h (good_of T e d parted) o.there

pub point_of_face : (T : Drawing) (e : Edge) (d : Division) (v : Point) → IsParted T e d → IsInFaceOf T v d.face →
    xor (above (right_steps T e) v) (left (right_steps T e) (back (start e))) ≡ not (xor (above (left_steps T e) v) (left (left_steps T e) (start e)))
point_of_face T e d v parted placed =
    point_of_one (steps_of T) (face_of T) (Parted T e d) d.face d.left_part d.right_part (start e) (left_label T e) (right_label T e) v (has_parts T e d parted)
    (⊎_elim (λ (k : IsInner T e d). inl k.0) (λ (k : IsOuter T e d). inr k.2) parted.kind) placed

-- ---- the box of a ring
pub over_in_box : (T : Drawing) (h : HalfEdge) (v : Point) (box : Box4) → HasRings T → Contains (half_edges T) h → HasAll box (ring_of (half_edges T) h) →
    above (those (is_of (ring_of (half_edges T) h)) (steps_of T)) v ≡ true → IsInBox v box
over_in_box T h v box has c all over =
    above_in_box (those (own_label T h) (steps_of T)) v box (label_even (steps_of T) drawn.plain drawn.once (own_label T h) (ring_ringwise T h has c))
    (in_each (IsStepIn box) (those (own_label T h) (steps_of T)) (λ t i.
    let m = those_in (own_label T h) (steps_of T) t i in
    let (k, (ck, j)) = one_has (ring_of (half_edges T) h) t m.1 in
    (all t.a (k, (ck, start_is_vertex t k.points j)), all t.b (k, (ck, end_is_vertex t k.points j))))) over
  where
    drawn : Drawn (steps_of T)
    drawn = drawn_of T (has_plain_lines T has)
