-- The laws of a divided face, from those of the rings on the two sides of its edge.
use Rattle.std.proofs.Common.{◌≡◌, refl, sym, ◌∙◌, ap, subst, ⊎_elim, Bool, true, false, not, cond, Some, IsTrue, ◌||◌, ◌≤◌, List, length}
use Rattle.std.specs.List.{Contains}
use Rattle.std.proofs.lemmas.Bool.{false_from_ne_true}
use Rattle.topo_base.specs.Point.{Point}
use Rattle.topo_base.specs.declared.rows.Box4.{Box4}
use Rattle.topo_base.specs.declared.rows.NodeRow.{NodeRow}
use Rattle.plane.specs.Crossings.{back}
use Rattle.plane.specs.Line.{first_vertex}
use Rattle.plane.specs.Parity.{xor, is_odd_over}
use Rattle.plane.proofs.SimpleTests.{first_begins}
use Rattle.drawing.specs.AddEdge.{Division, is_on_left, part_at, part_beside}
use Rattle.drawing.specs.Drawing.{Drawing, Edge}
use Rattle.drawing.specs.HalfEdge.{HalfEdge, forward_of, backward_of, half_edges}
use Rattle.drawing.specs.Ring.{ring_of, ring_segments, contains_half_edge, least_vertex, is_shell}
use Rattle.drawing.specs.IsoEdits.{with_edge}
use Rattle.face_rings.specs.FaceBorder.{HasRings}
use Rattle.parity_laws.specs.Rings.{those}
use Rattle.parity_laws.specs.Steps.{above, left}
use Rattle.face_laws.specs.Walked.{steps_of}
use Rattle.face_laws.proofs.RingLabels.{first_step, first_there, has_half, ring_steps, in_own_ring}
use Rattle.face_laws.proofs.RingSums.{ring_over}
use Rattle.face_laws.proofs.ShellTests.{shell_is}
use Rattle.subdivision_laws.proofs.DividedFaces.{IsParted, left_label, right_label, start, good_of, forth_in, back_in, start_on, start_in, start_back, least_half}
use Rattle.subdivision_laws.specs.Subdivided.{IsSubdivided}
use Rattle.local_laws.specs.Boxes.{IsInBox, HasAll, IsOfFace, PartsLieInBoxes}
use Rattle.local_laws.specs.Parts.{IsToDivide, IsOfOther, IsVertex, DivisionIsLocal}
use Rattle.local_laws.proofs.Dividing.{edge_of, one_part, parted, node_placed}
use Rattle.local_laws.proofs.OtherRings.{IsOther, other_apart, other_apart_right, other_above, right_above, right_shell, start_is_vertex, other_of_one, point_of_face, over_in_box}
use Rattle.edit_changes.specs.Evidence.{FaceMayBeDivided, left_ring, right_ring}

-- ---- a drawing whose edge e divides a face
-- the test at a vertex of another ring
other_over : (T : Drawing) (e : Edge) (d : Division) (h : HalfEdge) (v : Point) → IsParted T e d → IsOther T e d h → IsVertex (ring_of (half_edges T) h) v →
    is_odd_over v (ring_segments (ring_of (half_edges T) (forward_of e))) ≡ left (those (left_label T e) (steps_of T)) (first_step h)
other_over T e d h v p o own = ring_over T (forward_of e) v p.before.rings (forth_in T e d p) ∙ other_above T e d h v p o own

-- the vertex by which the ring is told is one of it
least_is_vertex : (T : Drawing) (e : Edge) (d : Division) (h : HalfEdge) → IsParted T e d → IsOther T e d h → IsVertex (ring_of (half_edges T) h) (least_vertex (ring_of (half_edges T) h))
least_is_vertex T e d h p o = of_half (least_half (ring_of (half_edges T) h) h (in_own_ring T h))
  where
    of_half : (m : HalfEdge) × (Contains (ring_of (half_edges T) h) m × (least_vertex (ring_of (half_edges T) h) ≡ first_vertex m.points)) → IsVertex (ring_of (half_edges T) h) (least_vertex (ring_of (half_edges T) h))
    of_half (m, (w, at)) =
        let there = (ring_steps T h m p.before.rings o.there w).there in
        let good = good_of T e d p in
        (m, (w, subst (Contains m.points) (sym (at ∙ first_begins m.points (first_step m) (first_there T m good there))) (start_is_vertex (first_step m) m.points (start_on T m good there))))

-- a vertex of the right ring that isn't one of the left ring's
right_over : (T : Drawing) (e : Edge) (d : Division) (v : Point) → IsParted T e d → IsVertex (ring_of (half_edges T) (backward_of e)) v → (IsVertex (ring_of (half_edges T) (forward_of e)) v → ⊥) →
    is_odd_over v (ring_segments (ring_of (half_edges T) (forward_of e))) ≡ not (is_shell (ring_of (half_edges T) (forward_of e)))
right_over T e d v p own away =
    ring_over T (forward_of e) v p.before.rings (forth_in T e d p) ∙ right_above T e d v p own away
    ∙ ap not (sym (shell_is T (forward_of e) (start e) p.before.rings (forth_in T e d p) (start_in T e d p)))

-- exactly one of the two rings has it on its left
both_sides : (T : Drawing) (e : Edge) (d : Division) (v : Point) → IsParted T e d →
    xor (above (those (right_label T e) (steps_of T)) v) (left (those (right_label T e) (steps_of T)) (back (start e))) ≡ not (xor (above (those (left_label T e) (steps_of T)) v) (left (those (left_label T e) (steps_of T)) (start e))) →
    is_on_left (ring_of (half_edges T) (backward_of e)) v ≡ not (is_on_left (ring_of (half_edges T) (forward_of e)) v)
both_sides T e d v p same =
    (λ i. not (xor (ring_over T (backward_of e) v p.before.rings (back_in T e d p) i) (shell_is T (backward_of e) (back (start e)) p.before.rings (back_in T e d p) (start_back T e d p) i)))
    ∙ ap not same
    ∙ sym (λ i. not (not (xor (ring_over T (forward_of e) v p.before.rings (forth_in T e d p) i) (shell_is T (forward_of e) (start e) p.before.rings (forth_in T e d p) (start_in T e d p) i))))

off_left_side : (x s : Bool) → x ≡ not s → not (xor x s) ≡ false
off_left_side true true e = cc
off_left_side true false e = refl
off_left_side false true e = refl
off_left_side false false e = cc

out_of_box : (T : Drawing) (h : HalfEdge) (v : Point) (box : Box4) → HasRings T → Contains (half_edges T) h → HasAll box (ring_of (half_edges T) h) → is_shell (ring_of (half_edges T) h) ≡ true → (IsInBox v box → ⊥) →
    is_on_left (ring_of (half_edges T) h) v ≡ false
out_of_box T h v box has c all shell out =
    off_left_side (is_odd_over v (ring_segments (ring_of (half_edges T) h))) (is_shell (ring_of (half_edges T) h))
    (false_from_ne_true (is_odd_over v (ring_segments (ring_of (half_edges T) h))) (λ m. out (over_in_box T h v box has c all (sym (ring_over T h v has c) ∙ m))) ∙ ap not (sym shell))

-- ---- the division
left_is_ring : (T : Drawing) (d : Division) (k : IsToDivide T d) → d.left_ring ≡ ring_of (half_edges T) (forward_of (edge_of T d k))
left_is_ring T d k = (parted T d k).by.left_ring

right_is_ring : (T : Drawing) (d : Division) (k : IsToDivide T d) → d.right_ring ≡ ring_of (half_edges T) (backward_of (edge_of T d k))
right_is_ring T d k = (parted T d k).by.right_ring

other_is : (T : Drawing) (d : Division) (h : HalfEdge) (k : IsToDivide T d) → IsOfOther T d h → IsOther T (edge_of T d k) (one_part T d) h
other_is T d h k o = record {
  there = o.there;
  face = o.face;
  not_left = ap (λ ring. contains_half_edge ring h) (sym (left_is_ring T d k)) ∙ o.not_left;
  not_right = ap (λ ring. contains_half_edge ring h) (sym (right_is_ring T d k)) ∙ o.not_right;
}

same_side : (T : Drawing) (d : Division) (h : HalfEdge) (v w : Point) → IsToDivide T d → IsOfOther T d h → IsVertex (ring_of (half_edges T) h) v → IsVertex (ring_of (half_edges T) h) w → is_on_left d.left_ring v ≡ is_on_left d.left_ring w
same_side T d h v w k o own own' =
    subst (λ ring. is_on_left ring v ≡ is_on_left ring w) (sym (left_is_ring T d k))
    (ap (λ x. not (xor x (is_shell (ring_of (half_edges T) (forward_of (edge_of T d k))))))
    (other_over T (edge_of T d k) (one_part T d) h v (parted T d k) (other_is T d h k o) own ∙ sym (other_over T (edge_of T d k) (one_part T d) h w (parted T d k) (other_is T d h k o) own')))

part_of_other : (T : Drawing) (d : Division) (h : HalfEdge) (v : Point) → IsToDivide T d → IsOfOther T d h → IsVertex (ring_of (half_edges T) h) v → part_beside d (half_edges T) h ≡ part_at d v
part_of_other T d h v k o own =
    by_rings (contains_half_edge d.left_ring h) (contains_half_edge d.right_ring h) o.not_left o.not_right
    ∙ ap (λ x. cond x d.left_part d.right_part) (same_side T d h (least_vertex (ring_of (half_edges T) h)) v k o (least_is_vertex T (edge_of T d k) (one_part T d) h (parted T d k) (other_is T d h k o)) own)
  where
    by_rings : (x y : Bool) → x ≡ false → y ≡ false → cond x d.left_part (cond y d.right_part (part_at d (least_vertex (ring_of (half_edges T) h)))) ≡ part_at d (least_vertex (ring_of (half_edges T) h))
    by_rings x y e f = rw (e, f)

right_off_left : (T : Drawing) (d : Division) (v : Point) → IsToDivide T d → IsVertex d.right_ring v → (IsVertex d.left_ring v → ⊥) → is_on_left d.left_ring v ≡ false
right_off_left T d v k own away =
    subst (λ ring. is_on_left ring v ≡ false) (sym (left_is_ring T d k))
    (off_left_side (is_odd_over v (ring_segments (ring_of (half_edges T) (forward_of (edge_of T d k))))) (is_shell (ring_of (half_edges T) (forward_of (edge_of T d k))))
    (right_over T (edge_of T d k) (one_part T d) v (parted T d k) (subst (λ ring. IsVertex ring v) (right_is_ring T d k) own) (λ on. away (subst (λ ring. IsVertex ring v) (sym (left_is_ring T d k)) on))))

-- h is of the right ring, or of another one
part_of_own : (T : Drawing) (d : Division) (h : HalfEdge) (v : Point) → IsToDivide T d → Contains (half_edges T) h → h.on_left ≡ d.face → contains_half_edge d.left_ring h ≡ false → Contains h.points v → (IsVertex d.left_ring v → ⊥)
    → part_beside d (half_edges T) h ≡ part_at d v
part_of_own T d h v k c face off own away = by_right (contains_half_edge d.right_ring h) refl
  where
    on_right : contains_half_edge d.right_ring h ≡ true → Contains d.right_ring h
    on_right m =
        let p = parted T d k in
        subst (λ ring. Contains ring h) (sym (right_is_ring T d k))
        (has_half T (backward_of (edge_of T d k)) h p.before.rings (back_in T (edge_of T d k) (one_part T d) p) c (ap (λ ring. contains_half_edge ring h) (sym (right_is_ring T d k)) ∙ m))

    by_rings : (x y z : Bool) → x ≡ false → y ≡ true → z ≡ false → cond x d.left_part (cond y d.right_part (part_at d (least_vertex (ring_of (half_edges T) h)))) ≡ cond z d.left_part d.right_part
    by_rings x y z e f g = rw (e, f, g) refl

    by_right : (y : Bool) → contains_half_edge d.right_ring h ≡ y → part_beside d (half_edges T) h ≡ part_at d v
    by_right true m = by_rings (contains_half_edge d.left_ring h) (contains_half_edge d.right_ring h) (is_on_left d.left_ring v) off m (right_off_left T d v k (h, (on_right m, own)) away)
    by_right false m = part_of_other T d h v k (record { there = c; face = face; not_left = off; not_right = m }) (h, (in_own_ring T h, own))

-- what Step decides is such a division
to_divide : (S : Drawing) (a b : NodeRow) (line : List Point) (d : Division) → IsSubdivided S → 2 ≤ length line → FaceMayBeDivided S a b line d.face → left_ring S a b line d.face ≡ d.left_ring → right_ring S a b line d.face ≡ d.right_ring
    → IsToDivide (with_edge S a b line d.face) d
to_divide S a b line d before long may on_left on_right = record {
  before = S;
  start_node = a;
  end_node = b;
  line = line;
  subdivided = before;
  long = long;
  may = may;
  comes = refl;
  on_left = on_left;
  on_right = on_right;
}

pub division_is_local : DivisionIsLocal
division_is_local = record {
  one_face_new = λ S a b line d before long h. to_divide S a b line d before long h.0 (sym (ap (λ (x : Division). x.left_ring) h.1)) (sym (ap (λ (x : Division). x.right_ring) h.1));
  both_faces_new = λ S a b line d before long h. to_divide S a b line d before long h.0 (sym (ap (λ (x : Division). x.left_ring) h.2)) (sym (ap (λ (x : Division). x.right_ring) h.2));
  apart = λ T d h v k o own on.
      let p = parted T d k in
      let other = other_is T d h k o in
      ⊎_elim
      (λ (m : IsVertex d.left_ring v). other_apart T (edge_of T d k) (one_part T d) h v p other own (subst (λ ring. IsVertex ring v) (left_is_ring T d k) m))
      (λ (m : IsVertex d.right_ring v). other_apart_right T (edge_of T d k) (one_part T d) h v p other own (subst (λ ring. IsVertex ring v) (right_is_ring T d k) m))
      on;
  one_side = same_side;
  one_part = part_of_other;
  right_is_right = right_off_left;
  own_vertex = part_of_own;
}

-- ---- boxes
one_shell : (T : Drawing) (d : Division) → IsToDivide T d → IsTrue (is_shell d.left_ring || is_shell d.right_ring)
one_shell T d k =
    subst (λ ring. IsTrue (is_shell ring || is_shell d.right_ring)) (sym (left_is_ring T d k))
    (subst (λ ring. IsTrue (is_shell (ring_of (half_edges T) (forward_of (edge_of T d k))) || is_shell ring)) (sym (right_is_ring T d k))
    (by_left (is_shell (ring_of (half_edges T) (forward_of (edge_of T d k)))) (is_shell (ring_of (half_edges T) (backward_of (edge_of T d k)))) (λ hole.
    shell_is T (backward_of (edge_of T d k)) (back (start (edge_of T d k))) p.before.rings (back_in T (edge_of T d k) (one_part T d) p) (start_back T (edge_of T d k) (one_part T d) p)
    ∙ right_shell T (edge_of T d k) (one_part T d) p (sym (shell_is T (forward_of (edge_of T d k)) (start (edge_of T d k)) p.before.rings (forth_in T (edge_of T d k) (one_part T d) p) (start_in T (edge_of T d k) (one_part T d) p)) ∙ hole))))
  where
    p : IsParted T (edge_of T d k) (one_part T d)
    p = parted T d k

    by_left : (x y : Bool) → (x ≡ false → y ≡ true) → IsTrue (x || y)
    by_left true y e = refl
    by_left false y e = e refl

of_one : (T : Drawing) (d : Division) (v : Point) → IsToDivide T d → IsOfFace T d v → is_on_left d.right_ring v ≡ not (is_on_left d.left_ring v)
of_one T d v k of_face =
    subst (λ ring. is_on_left d.right_ring v ≡ not (is_on_left ring v)) (sym (left_is_ring T d k))
    (subst (λ ring. is_on_left ring v ≡ not (is_on_left (ring_of (half_edges T) (forward_of (edge_of T d k))) v)) (sym (right_is_ring T d k))
    (both_sides T (edge_of T d k) (one_part T d) v (parted T d k)
    (⊎_elim
    (λ (r : (h : HalfEdge) × (IsOfOther T d h × IsVertex (ring_of (half_edges T) h) v)). other_of_one T (edge_of T d k) (one_part T d) r.0 v (parted T d k) (other_is T d r.0 k r.1.0) r.1.1)
    (λ (n : (n : NodeRow) × (Contains T.nodes n × (n.containing_face ≡ Some d.face) × (n.geom ≡ v))).
    subst (λ (w : Point). xor (above (those (right_label T (edge_of T d k)) (steps_of T)) w) (left (those (right_label T (edge_of T d k)) (steps_of T)) (back (start (edge_of T d k))))
    ≡ not (xor (above (those (left_label T (edge_of T d k)) (steps_of T)) w) (left (those (left_label T (edge_of T d k)) (steps_of T)) (start (edge_of T d k))))) n.1.2
    (point_of_face T (edge_of T d k) (one_part T d) n.0.geom (parted T d k) (node_placed T d n.0 k n.1.0 n.1.1)))
    of_face)))

off_left : (T : Drawing) (d : Division) (v : Point) (box : Box4) → IsToDivide T d → is_shell d.left_ring ≡ true → HasAll box d.left_ring → (IsInBox v box → ⊥) → is_on_left d.left_ring v ≡ false
off_left T d v box k =
    subst (λ ring. is_shell ring ≡ true → HasAll box ring → (IsInBox v box → ⊥) → is_on_left ring v ≡ false) (sym (left_is_ring T d k))
    (λ shell all out. out_of_box T (forward_of (edge_of T d k)) v box (parted T d k).before.rings (forth_in T (edge_of T d k) (one_part T d) (parted T d k)) all shell out)

off_right : (T : Drawing) (d : Division) (v : Point) (box : Box4) → IsToDivide T d → is_shell d.right_ring ≡ true → HasAll box d.right_ring → (IsInBox v box → ⊥) → is_on_left d.right_ring v ≡ false
off_right T d v box k =
    subst (λ ring. is_shell ring ≡ true → HasAll box ring → (IsInBox v box → ⊥) → is_on_left ring v ≡ false) (sym (right_is_ring T d k))
    (λ shell all out. out_of_box T (backward_of (edge_of T d k)) v box (parted T d k).before.rings (back_in T (edge_of T d k) (one_part T d) (parted T d k)) all shell out)

not_back : (x y : Bool) → x ≡ not y → x ≡ false → y ≡ true
not_back x true e f = refl
not_back x false e f = cc

pub parts_lie_in_boxes : PartsLieInBoxes
parts_lie_in_boxes = record {
  in_box = λ T h v box has c all odd. over_in_box T h v box has c all (sym (ring_over T h v has c) ∙ odd);
  one_shell = one_shell;
  one_ring = of_one;
  out_of_left = λ T d v box k shell all out. ap (λ x. cond x d.left_part d.right_part) (off_left T d v box k shell all out);
  out_of_right = λ T d v box k of_face shell all out.
      ap (λ x. cond x d.left_part d.right_part) (not_back (is_on_left d.right_ring v) (is_on_left d.left_ring v) (of_one T d v k of_face) (off_right T d v box k shell all out));
}
