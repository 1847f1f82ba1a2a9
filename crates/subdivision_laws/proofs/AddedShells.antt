-- An edge more that closes no ring: each face has the shells that it had.
use Rattle.std.proofs.Common.{◌≡◌, ℕ, refl, sym, ◌∙◌, subst, inl, true, List, ◌∷◌}
use Rattle.topo_base.specs.Point.{Point}
use Rattle.topo_base.specs.declared.rows.NodeRow.{NodeRow}
use Rattle.drawing.specs.Drawing.{Drawing}
use Rattle.drawing.specs.HalfEdge.{forward_of, backward_of}
use Rattle.drawing.specs.Ring.{contains_half_edge}
use Rattle.edit_changes.specs.Evidence.{left_ring}
use Rattle.plane.specs.Crossings.{back}
use Rattle.parity_laws.specs.Shelling.{IsRingLabel, OneShell, NoShell}
use Rattle.face_laws.specs.Walked.{steps_of, is_of}
use Rattle.face_laws.specs.Covered.{face_of}
use Rattle.face_laws.proofs.PlainSteps.{step_back}
use Rattle.face_laws.proofs.RingLabels.{step_of_ring, own_steps}
use Rattle.parity_laws.proofs.LineShells.{OpenLine, one_shell_stays, no_shell_stays}
use Rattle.face_laws.proofs.ShellTests.{ring_of_label}
use Rattle.subdivision_laws.proofs.Covers.{Covers}
use Rattle.subdivision_laws.proofs.AddedSteps.{first_of, rest_of, last_of, added, edge_of, Adds, line_comes, face_comes, steps_added, forward_in, backward_in}
use Rattle.subdivision_laws.proofs.AddedSides.{added_sided, added_placed}

-- ---- no ring is closed
-- both directions of the edge are on one ring
abbrev pub IsOpen : Drawing → NodeRow → NodeRow → Point → Point → List Point → ℕ → Type 0
IsOpen S a b p q vs f = contains_half_edge (left_ring S a b (p ∷ q ∷ vs) f) (backward_of (edge_of S a b p q vs f)) ≡ true

pub open_line : (S : Drawing) (a b : NodeRow) (p q : Point) (vs : List Point) (f : ℕ) → Adds S a b p q vs f → IsOpen S a b p q vs f →
    OpenLine (steps_of S) (first_of p q) (rest_of q vs) (last_of p q vs) (face_of S) (face_of (added S a b p q vs f)) f
open_line S a b p q vs f h o = record {
  comes = line_comes S a b p q vs f h;
  faces = face_comes S a b p q vs f h;
  p = is_of (left_ring S a b (p ∷ q ∷ vs) f);
  ring = subst (λ T. IsRingLabel T (is_of (left_ring S a b (p ∷ q ∷ vs) f))) (steps_added S a b (p ∷ q ∷ vs) f)
      (ring_of_label (added S a b p q vs f) (forward_of (edge_of S a b p q vs f)) h.after.rings (forward_in S a b (p ∷ q ∷ vs) f));
  forth = own_steps (added S a b p q vs f) (forward_of (edge_of S a b p q vs f)) (first_of p q) (inl refl);
  walked =
      step_of_ring (added S a b p q vs f) (forward_of (edge_of S a b p q vs f)) (backward_of (edge_of S a b p q vs f)) (back (first_of p q)) h.after.rings (forward_in S a b (p ∷ q ∷ vs) f) (backward_in S a b (p ∷ q ∷ vs) f)
      (step_back (forward_of (edge_of S a b p q vs f)) (first_of p q) (inl refl))
      ∙ o;
}

pub open_covers : (S : Drawing) (a b : NodeRow) (p q : Point) (vs : List Point) (f : ℕ) → Adds S a b p q vs f → IsOpen S a b p q vs f → Covers (added S a b p q vs f)
open_covers S a b p q vs f h o = record {
  sided = added_sided S a b p q vs f h;
  shells = λ g is n.
      subst (λ T. OneShell T (face_of (added S a b p q vs f)) g) (sym (steps_added S a b (p ∷ q ∷ vs) f))
      (one_shell_stays (steps_of S) (first_of p q) (rest_of q vs) (last_of p q vs) (face_of S) (face_of (added S a b p q vs f)) f (open_line S a b p q vs f h o) g (h.before.shells g is n));
  outer =
      subst (λ T. NoShell T (face_of (added S a b p q vs f)) 0) (sym (steps_added S a b (p ∷ q ∷ vs) f))
      (no_shell_stays (steps_of S) (first_of p q) (rest_of q vs) (last_of p q vs) (face_of S) (face_of (added S a b p q vs f)) f (open_line S a b p q vs f h o) 0 h.before.outer);
  placed = added_placed S a b p q vs f h;
}
