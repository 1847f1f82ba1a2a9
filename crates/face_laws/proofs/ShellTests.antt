-- The test of a ring for a shell is the parity of its own steps on its left.
use Rattle.std.proofs.Common.{◌≡◌, refl, sym, ◌∙◌, subst, inl, true}
use Rattle.std.specs.List.{Contains}
use Rattle.drawing.specs.Drawing.{Drawing}
use Rattle.drawing.specs.HalfEdge.{HalfEdge, half_edges}
use Rattle.drawing.specs.Ring.{ring_of, ring_segments, is_shell}
use Rattle.plane.specs.Segment.{Segment}
use Rattle.face_rings.specs.FaceBorder.{HasRings}
use Rattle.face_rings.proofs.FaceBorders.{has_plain_lines}
use Rattle.parity_laws.specs.Steps.{left}
use Rattle.parity_laws.specs.Rings.{In, Ringwise, those}
use Rattle.parity_laws.specs.Shelling.{IsRingLabel, IsShellOf}
use Rattle.parity_laws.proofs.Orbits.{label_even}
use Rattle.parity_laws.proofs.Ringwise.{side_next}
use Rattle.parity_laws.proofs.Shells.{World}
use Rattle.parity_laws.proofs.Star.{those_within}
use Rattle.face_laws.specs.Walked.{steps_along, steps_of, is_of}
use Rattle.face_laws.specs.Covered.{face_of}
use Rattle.face_laws.proofs.FaceOnLeft.{left_is}
use Rattle.face_laws.proofs.PlainSteps.{step_there, steps_plain, steps_once}
use Rattle.face_laws.proofs.RingLabels.{first_step, ring_ringwise, ring_is_one, own_steps}
use Rattle.face_laws.proofs.RingSums.{ring_there, ring_labelled, labelled_in_ring}
use Rattle.face_laws.proofs.RingTurns.{ring_turns, steps_begin}
use Rattle.face_laws.proofs.TopTurns.{IsRingList, hole_left}

-- ---- the label of a ring
pub ring_world : (S : Drawing) (h : HalfEdge) → HasRings S → Contains (half_edges S) h → World (steps_of S) (is_of (ring_of (half_edges S) h))
ring_world S h has c =
    let good = has_plain_lines S has in
    record {
      plain = steps_plain S good;
      once = steps_once S good;
      rings = record {
        next = ring_ringwise S h has c;
        even = label_even (steps_of S) (steps_plain S good) (steps_once S good) (is_of (ring_of (half_edges S) h)) (ring_ringwise S h has c);
      };
    }

ring_list : (S : Drawing) (h : HalfEdge) → HasRings S → Contains (half_edges S) h → IsRingList (steps_of S) (is_of (ring_of (half_edges S) h)) (ring_segments (ring_of (half_edges S) h))
ring_list S h has c = record {
  world = ring_world S h has c;
  ring = ring_turns S h has c;
  there = ring_there S h has c;
  mine = ring_labelled S h;
  all = λ s i e. labelled_in_ring S h s e;
}

-- the parity of its own steps is one on all of the ring
left_ringwise : (S : Drawing) (h : HalfEdge) → HasRings S → Contains (half_edges S) h → Ringwise (steps_of S) (left (those (is_of (ring_of (half_edges S) h)) (steps_of S)))
left_ringwise S h has c d n i j next =
    let w = ring_world S h has c in
    side_next (steps_of S) (those (is_of (ring_of (half_edges S) h)) (steps_of S)) d n w.plain w.rings.even (those_within (is_of (ring_of (half_edges S) h)) (steps_of S)) i next

pub shell_at : (S : Drawing) (h : HalfEdge) (s : Segment) → HasRings S → Contains (half_edges S) h → In s (steps_of S) → is_of (ring_of (half_edges S) h) s ≡ true →
    is_shell (ring_of (half_edges S) h) ≡ left (those (is_of (ring_of (half_edges S) h)) (steps_of S)) s
shell_at S h s has c i e =
    let (r, (j, same)) = hole_left (steps_of S) (is_of (ring_of (half_edges S) h)) (ring_segments (ring_of (half_edges S) h)) (ring_list S h has c) in
    sym same
    ∙ ring_is_one S h has c (left (those (is_of (ring_of (half_edges S) h)) (steps_of S))) (left_ringwise S h has c) r s (ring_there S h has c r j) i (ring_labelled S h r j) e

pub shell_is : (S : Drawing) (h : HalfEdge) (s : Segment) → HasRings S → Contains (half_edges S) h → In s (steps_along h) →
    is_shell (ring_of (half_edges S) h) ≡ left (those (is_of (ring_of (half_edges S) h)) (steps_of S)) s
shell_is S h s has c i = shell_at S h s has c (step_there S h s c i) (own_steps S h s i)

-- ---- the ring of a half-edge as a ring of the steps
pub first_on : (S : Drawing) (h : HalfEdge) → HasRings S → Contains (half_edges S) h → In (first_step h) (steps_along h)
first_on S h has c = let (Y, e) = steps_begin S h (has_plain_lines S has) c in subst (In (first_step h)) (sym e) (inl refl)

abbrev pub ring_of_label : (S : Drawing) (h : HalfEdge) → HasRings S → Contains (half_edges S) h → IsRingLabel (steps_of S) (is_of (ring_of (half_edges S) h))
ring_of_label S h has c = record {
  ringwise = ring_ringwise S h has c;
  one = ring_is_one S h has c;
  step = first_step h;
  there = step_there S h (first_step h) c (first_on S h has c);
  mine = own_steps S h (first_step h) (first_on S h has c);
}

pub shell_of_ring : (S : Drawing) (h : HalfEdge) → HasRings S → Contains (half_edges S) h → is_shell (ring_of (half_edges S) h) ≡ true →
    IsShellOf (steps_of S) (face_of S) h.on_left (is_of (ring_of (half_edges S) h))
shell_of_ring S h has c e = record {
  ring = ring_of_label S h has c;
  face = left_is S h (first_step h) (has_plain_lines S has) c (first_on S h has c);
  is_left = sym (shell_is S h (first_step h) has c (first_on S h has c)) ∙ e;
}
