-- Where left of each step is its face, by parity, each point is in one face, and what sees an edge is in the face on that side.
use Rattle.std.proofs.Common.{◌≡◌, ◌≢◌, ℕ, zero, suc, refl, sym, ◌∙◌, subst, arith, ℤ, pos, ◌-ℤ◌, ◌*ℤ◌, ◌<ℤ◌, ⊎_elim, eqb}
use Rattle.std.specs.Prelude.{IsTrue, Some, neg_ℤ, reverse}
use Rattle.std.specs.List.{Contains}
use Rattle.std.proofs.lemmas.Bool.{eqb-true, eq-eqb}
use Rattle.topo_base.specs.RationalPoint.{RationalPoint}
use Rattle.topo_base.specs.declared.rows.NodeRow.{NodeRow}
use Rattle.plane.specs.Segment.{Segment}
use Rattle.plane.specs.Line.{segments_of}
use Rattle.drawing.specs.Drawing.{Drawing, Edge, has_face}
use Rattle.drawing.specs.HalfEdge.{half_edges}
use Rattle.drawing.specs.Faces.{face_at}
use Rattle.drawing.specs.Faced.{IsFaced, IsInside, Sees, is_in}
use Rattle.plane.specs.RationalTests.{IsLeftOf, IsRightOf, area_at}
use Rattle.plane.proofs.Collinear.{on_round}
use Rattle.plane.specs.Crossings.{back, crosses_at}
use Rattle.plane.proofs.Ring.{multiplied, signed}
use Rattle.parity_laws.specs.Steps.{above_at}
use Rattle.parity_laws.specs.Rings.{In, those, Drawn, Ringwise, of_face}
use Rattle.parity_laws.proofs.Larger.{one_face_at}
use Rattle.parity_laws.proofs.Nearer.{near_left_at}
use Rattle.parity_laws.proofs.Splitting.{world}
use Rattle.parity_laws.proofs.Star.{those_within}
use Rattle.face_laws.specs.Walked.{steps_of, face_on_left}
use Rattle.face_laws.specs.Covered.{IsSided}
use Rattle.face_laws.proofs.FaceParity.{GivesFaces, in_face_at_is}
use Rattle.face_laws.proofs.InFace.{IsOnlyIn, in_by, in_out}
use Rattle.face_laws.proofs.Seen.{sees_left}
use Rattle.face_laws.proofs.StepsOf.{forward_in, backward_in, step_edge, some_step}
use Rattle.face_laws.proofs.Lists.{in_contains, contains_in}
use Rattle.face_laws.proofs.LineSteps.{in_reverse}

-- a drawing whose steps are plain, each once, with their faces by parity, all listed
pub record HasSides (S : Drawing) : Type 0 where
  pub drawn : Drawn (steps_of S)
  pub faces : GivesFaces (face_on_left (half_edges S)) S.edges
  pub ringwise : (f : ℕ) → f ≢ 0 → Ringwise (steps_of S) (of_face (face_on_left (half_edges S)) f)
  pub sided : IsSided S
  pub universe : IsTrue (has_face S 0)
  pub listed : (e : Edge) → Contains S.edges e → IsTrue (has_face S e.left_face) × IsTrue (has_face S e.right_face)

-- the face on the left of a step is listed where the sides of edges are
pub left_listed : (S : Drawing) (s : Segment) → GivesFaces (face_on_left (half_edges S)) S.edges → ((e : Edge) → Contains S.edges e → IsTrue (has_face S e.left_face) × IsTrue (has_face S e.right_face)) →
    In s (steps_of S) → IsTrue (has_face S (face_on_left (half_edges S) s))
left_listed S s faces sides i =
    let e = step_edge S.edges s (in_contains s (steps_of S) i) in
    let listed = sides e.0 e.1.0 in
    ⊎_elim
    (λ (c : Contains (segments_of e.0.geom) s). subst (λ f. IsTrue (has_face S f)) (sym (faces.forward e.0 s e.1.0 c)) listed.0)
    (λ (c : Contains (segments_of (reverse e.0.geom)) s). subst (λ f. IsTrue (has_face S f)) (sym (faces.backward e.0 s e.1.0 c)) listed.1)
    e.1.1

pub step_listed : (S : Drawing) (s : Segment) → HasSides S → In s (steps_of S) → IsTrue (has_face S (face_on_left (half_edges S) s))
step_listed S s h i = left_listed S s h.faces h.listed i

-- the one face that has a point
some_face : (S : Drawing) (q : RationalPoint) → HasSides S → (g : ℕ) × (IsOnlyIn S q g × IsTrue (has_face S g))
some_face S q h =
    let r = one_face_at (steps_of S) F q h.drawn h.ringwise h.sided in
    (r.0, (λ f n. sym (in_face_at_is F S f q h.faces) ∙ r.1 f n, listed r.0 r.1))
  where
    F : Segment → ℕ
    F = face_on_left (half_edges S)

    listed : (g : ℕ) → ((f : ℕ) → f ≢ 0 → above_at (those (of_face F f) (steps_of S)) q ≡ eqb g f) → IsTrue (has_face S g)
    listed zero k = h.universe
    listed (suc g) k =
        let s = some_step (λ t. crosses_at t q) (of_face F (suc g)) (steps_of S) (k (suc g) (λ e. omega (arith, e)) ∙ eq-eqb (suc g) (suc g) refl) in
        subst (λ f. IsTrue (has_face S f)) (eqb-true (F s.0) (suc g) s.1.1) (step_listed S s.0 h s.1.0)

-- what sees a step from its left is in its face
sees_face : (S : Drawing) (d : Segment) (m q : RationalPoint) → HasSides S → In d (steps_of S) → IsInside m d → IsLeftOf q d → Sees S q m → IsTrue (is_in S (face_on_left (half_edges S) d) q)
sees_face S d m q h i inside left sees = in_by S q (face_on_left (half_edges S) d) only (step_listed S d h i)
  where
    F : Segment → ℕ
    F = face_on_left (half_edges S)

    only : IsOnlyIn S q (F d)
    only f n =
        sym (in_face_at_is F S f q h.faces)
        ∙ sym (near_left_at (steps_of S) (those (of_face F f) (steps_of S)) d m q h.drawn (sees_left S d m q h.drawn.plain i inside left sees) (world (steps_of S) (of_face F f) h.drawn (h.ringwise f n)).rings.even (those_within (of_face F f) (steps_of S)))
        ∙ h.sided f n d i

-- left of a segment is right of it walked back
pub area_back : (s : Segment) (q : RationalPoint) → area_at s.b s.a q ≡ neg_ℤ (area_at s.a s.b q)
area_back s q = turned s.b.x s.b.y s.a.x s.a.y q.x q.y q.d
  where
    turned : (bx by ax ay x y d : ℤ) → (ax -ℤ bx) *ℤ (y -ℤ by *ℤ d) -ℤ (ay -ℤ by) *ℤ (x -ℤ bx *ℤ d) ≡ neg_ℤ ((bx -ℤ ax) *ℤ (y -ℤ ay *ℤ d) -ℤ (by -ℤ ay) *ℤ (x -ℤ ax *ℤ d))
    turned bx by ax ay x y d = simp multiplied (omega (arith, signed))

right_back : (s : Segment) (q : RationalPoint) → IsRightOf q s → IsLeftOf q (back s)
right_back s q h = let e = area_back s q in let k : area_at s.a s.b q <ℤ pos 0 = h in omega (arith, signed)

pub is_faced : (S : Drawing) → HasSides S → ((n : NodeRow) (f : ℕ) → Contains S.nodes n → n.containing_face ≡ Some f → face_at S n.geom ≡ f) → IsFaced S
is_faced S h isolated = record {
  in_some = λ q off. let g = some_face S q h in (g.0, in_by S q g.0 g.1.0 g.1.1);
  in_one = λ q f g off a b. let r = some_face S q h in in_out S q f r.0 r.1.0 r.1.1 a ∙ sym (in_out S q g r.0 r.1.0 r.1.1 b);
  left = λ e s m q c i inside left sees.
      subst (λ f. IsTrue (is_in S f q)) (h.faces.forward e s c i) (sees_face S s m q h (contains_in s (steps_of S) (forward_in S.edges e s c i)) inside left sees);
  right = λ e s m q c i inside right sees.
      let j = in_contains (back s) (segments_of (reverse e.geom)) (in_reverse s e.geom (contains_in s (segments_of e.geom) i)) in
      subst (λ f. IsTrue (is_in S f q)) (h.faces.backward e (back s) c j)
      (sees_face S (back s) m q h (contains_in (back s) (steps_of S) (backward_in S.edges e (back s) c j)) (record { on = on_round s m inside.on; not_first = inside.not_last; not_last = inside.not_first }) (right_back s q right) sees);
  isolated = isolated;
}
