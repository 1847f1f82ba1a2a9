-- What carries over from a drawing to another, and that it does where both have the same steps with the same faces beside them.
use Rattle.std.proofs.Common.{◌≡◌, ℕ, eqb, refl, sym, ◌∙◌, ap, subst, ◌⊎◌, ⊎_elim, Some, IsTrue}
use Rattle.std.specs.List.{Contains, list_any}
use Rattle.std.specs.Prelude.{◌==◌}
use Rattle.topo_base.specs.Point.{Point}
use Rattle.topo_base.specs.declared.rows.NodeRow.{NodeRow}
use Rattle.drawing.specs.Drawing.{Drawing, Edge}
use Rattle.drawing.specs.HalfEdge.{HalfEdge, forward_of, backward_of, half_edges, twin}
use Rattle.plane.specs.Line.{segments_of}
use Rattle.plane.specs.Segment.{Segment}
use Rattle.plane.specs.Crossings.{back}
use Rattle.face_rings.proofs.HalfLines.{HasPlainLines}
use Rattle.face_rings.proofs.HalvesApart.{half_of, forward_there, twin_there}
use Rattle.topo_base.specs.RationalPoint.{RationalPoint}
use Rattle.plane.specs.Crossings.{crosses_at}
use Rattle.parity_laws.specs.Steps.{above, above_at}
use Rattle.parity_laws.specs.Rings.{In, Within, of_face, those}
use Rattle.parity_laws.specs.Shelling.{OneShell, NoShell}
use Rattle.parity_laws.proofs.Labels.{those_same, sided_same, one_shell_faces, no_shell_faces}
use Rattle.parity_laws.proofs.Rearranging.{Rearranged, same_above, same_sided, same_one_shell, same_no_shell}
use Rattle.parity_laws.proofs.RearrangedOf.{rearranged_of}
use Rattle.face_laws.specs.Walked.{steps_along, steps_of}
use Rattle.face_laws.specs.Covered.{face_of, IsSided, IsInFaceOf, IsCovered}
use Rattle.face_laws.proofs.FaceOnLeft.{left_is}
use Rattle.face_laws.proofs.LineSteps.{in_reverse, from_reverse}
use Rattle.face_laws.proofs.PlainSteps.{steps_once, step_there, half_with, step_back}
use Rattle.subdivision_laws.proofs.Covers.{Covers}

-- ---- what carries over
pub record CarriesOver (S T : Drawing) : Type 0 where
  pub sided : IsSided S → IsSided T
  pub shells : (f : ℕ) → OneShell (steps_of S) (face_of S) f → OneShell (steps_of T) (face_of T) f
  pub outer : NoShell (steps_of S) (face_of S) 0 → NoShell (steps_of T) (face_of T) 0
  pub placed : (p : Point) (f : ℕ) → IsInFaceOf S p f → IsInFaceOf T p f

-- the drawing after it has the same faces, and each of its nodes with a face is one of those before
pub covers_after : (S T : Drawing) → IsCovered S → CarriesOver S T → T.faces ≡ S.faces → ((n : NodeRow) (f : ℕ) → Contains T.nodes n → n.containing_face ≡ Some f → Contains S.nodes n) → Covers T
covers_after S T c o faces nodes = record {
  sided = o.sided c.sided;
  shells = λ f there some. o.shells f (c.shells f (subst (λ fs. IsTrue (list_any (λ g. g == f) fs)) faces there) some);
  outer = o.outer c.outer;
  placed = λ n f i e. o.placed n.geom f (c.placed n f (nodes n f i e) e);
}

-- ---- steps between two faces
-- the step is one of S, between these faces
pub record StepBetween (S : Drawing) (s : Segment) (l r : ℕ) : Type 0 where
  pub half : HalfEdge
  pub there : Contains (half_edges S) half
  pub on : In s (steps_along half)
  pub left : half.on_left ≡ l
  pub right : half.on_right ≡ r

pub turned_between : (S : Drawing) (s : Segment) (l r : ℕ) → StepBetween S s l r → StepBetween S (back s) r l
turned_between S s l r b = record { half = twin b.half; there = twin_there S.edges b.half b.there; on = step_back b.half s b.on; left = b.right; right = b.left }

-- each step along the half-edge is one of S, between the same faces
abbrev pub AreStepsOf : Drawing → HalfEdge → Type 0
AreStepsOf S h = (s : Segment) → In s (steps_along h) → StepBetween S s h.on_left h.on_right

-- along an edge of S itself
pub own_steps : (S : Drawing) (e : Edge) → Contains S.edges e → AreStepsOf S (forward_of e)
own_steps S e c s i = record { half = forward_of e; there = forward_there S.edges e c; on = i; left = refl; right = refl }

-- it is enough to know this of one of the two half-edges of an edge
pub steps_forward : (S : Drawing) (e : Edge) (h : HalfEdge) → (forward_of e ≡ h) ⊎ (backward_of e ≡ h) → AreStepsOf S h → AreStepsOf S (forward_of e)
steps_forward S e h way each =
    ⊎_elim
    (λ (p : forward_of e ≡ h). subst (AreStepsOf S) (sym p) each)
    (λ (p : backward_of e ≡ h). by_back (subst (AreStepsOf S) (sym p) each))
    way
  where
    by_back : AreStepsOf S (backward_of e) → AreStepsOf S (forward_of e)
    by_back each s i = turned_between S (back s) e.right_face e.left_face (each (back s) (in_reverse s e.geom i))

-- each edge of T lies along S, with the same faces on its sides
abbrev pub LiesAlong : Drawing → Drawing → Type 0
LiesAlong S T = (x : Edge) → Contains T.edges x → AreStepsOf S (forward_of x)

-- what is so of each segment of the edges, and of it walked back with the sides exchanged, is so of each step
pub along_halves : (T : Drawing) (P : Segment → ℕ → ℕ → Type 0) → ((s : Segment) (l r : ℕ) → P s l r → P (back s) r l) → ((x : Edge) → Contains T.edges x → (s : Segment) → In s (segments_of x.geom) → P s x.left_face x.right_face)
    → (h : HalfEdge) → Contains (half_edges T) h → (s : Segment) → In s (steps_along h) → P s h.on_left h.on_right
along_halves T P turned each h c =
    let r = half_of T.edges h c in
    ⊎_elim
    (λ (p : forward_of r.edge ≡ h). subst (λ (k : HalfEdge). (s : Segment) → In s (steps_along k) → P s k.on_left k.on_right) p (each r.edge r.there))
    (λ (p : backward_of r.edge ≡ h).
    subst (λ (k : HalfEdge). (s : Segment) → In s (steps_along k) → P s k.on_left k.on_right) p
    (λ s i. turned (back s) r.edge.left_face r.edge.right_face (each r.edge r.there (back s) (from_reverse s r.edge.geom i))))
    r.way

half_along : (S T : Drawing) → LiesAlong S T → (h : HalfEdge) → Contains (half_edges T) h → AreStepsOf S h
half_along S T along = along_halves T (StepBetween S) (turned_between S) along

-- ---- two drawings, each of which lies along the other
within : (U V : Drawing) → LiesAlong U V → Within (steps_of V) (steps_of U)
within U V along s i =
    let (h, (c, j)) = half_with V s i in
    let b = half_along U V along h c s j in
    step_there U b.half s b.there b.on

same_order : (S T : Drawing) → HasPlainLines S → HasPlainLines T → LiesAlong S T → LiesAlong T S → Rearranged (steps_of S) (steps_of T)
same_order S T good more along back_along = rearranged_of (steps_of S) (steps_of T) (steps_once S good) (steps_once T more) (within T S back_along) (within S T along)

same_face : (S T : Drawing) → HasPlainLines S → HasPlainLines T → LiesAlong S T → (s : Segment) → In s (steps_of T) → face_of S s ≡ face_of T s
same_face S T good more along s i =
    let (h, (c, j)) = half_with T s i in
    let b = half_along S T along h c s j in
    left_is S b.half s good b.there b.on ∙ b.left ∙ sym (left_is T h s more c j)

pub same_steps : (S T : Drawing) → HasPlainLines S → HasPlainLines T → LiesAlong S T → LiesAlong T S → CarriesOver S T
same_steps S T good more along back_along = record {
  sided = λ sided f some. sided_same (steps_of T) (of_face (face_of S) f) (of_face (face_of T) f) (λ s i. ap (λ g. eqb g f) (faces s i)) (same_sided (steps_of S) (steps_of T) (of_face (face_of S) f) order (sided f some));
  shells = λ f one. one_shell_faces (steps_of T) (face_of S) (face_of T) f faces (same_one_shell (steps_of S) (steps_of T) (face_of S) f order one);
  outer = λ none. no_shell_faces (steps_of T) (face_of S) (face_of T) 0 faces (same_no_shell (steps_of S) (steps_of T) (face_of S) 0 order none);
  placed = λ p f lies g some.
      ap (λ X. above X p) (sym (those_same (of_face (face_of S) g) (of_face (face_of T) g) (steps_of T) (λ s i. ap (λ k. eqb k g) (faces s i))))
      ∙ sym (same_above (steps_of S) (steps_of T) (of_face (face_of S) g) p order)
      ∙ lies g some;
}
  where
    order : Rearranged (steps_of S) (steps_of T)
    order = same_order S T good more along back_along

    faces : (s : Segment) → In s (steps_of T) → face_of S s ≡ face_of T s
    faces = same_face S T good more along

-- the parities over a rational point are the same
pub same_over : (S T : Drawing) (g : ℕ) (q : RationalPoint) → HasPlainLines S → HasPlainLines T → LiesAlong S T → LiesAlong T S → above_at (those (of_face (face_of T) g) (steps_of T)) q ≡ above_at (those (of_face (face_of S) g) (steps_of S)) q
same_over S T g q good more along back_along =
    ap (λ X. above_at X q) (sym (those_same (of_face (face_of S) g) (of_face (face_of T) g) (steps_of T) (λ s i. ap (λ k. eqb k g) (same_face S T good more along s i))))
    ∙ sym ((same_order S T good more along back_along).sums (of_face (face_of S) g) (λ t. crosses_at t q))
