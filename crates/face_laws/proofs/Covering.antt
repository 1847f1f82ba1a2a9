-- A covered drawing: its faces are where their borders say, and the face of a point is told by the parities over it.
use Rattle.std.proofs.Common.{◌≡◌, ◌≢◌, ℕ, zero, suc, refl, sym, ◌∙◌, subst, arith, Bool, true, false, not, cond, ◌&&◌, ◌||◌, List, [], ◌∷◌, eqb, ◌==◌, Some, unwrap_or}
use Rattle.std.specs.Prelude.{IsTrue, find, reverse}
use Rattle.std.specs.List.{list_any}
use Rattle.std.proofs.lemmas.Bool.{both_ways, eqb-true, eq-eqb, ne_eqb}
use Rattle.topo_base.specs.Point.{Point}
use Rattle.plane.specs.Line.{segments_of}
use Rattle.drawing.specs.Drawing.{Drawing, has_face}
use Rattle.drawing.specs.HalfEdge.{forward_of, backward_of}
use Rattle.drawing.specs.Faces.{face_at, is_in_face}
use Rattle.drawing.specs.Faced.{IsFaced}
use Rattle.plane.specs.Crossings.{crosses}
use Rattle.face_rings.proofs.FaceBorders.{has_plain_lines}
use Rattle.face_rings.proofs.HalfLines.{HasPlainLines}
use Rattle.face_rings.proofs.HalvesApart.{forward_there, backward_there}
use Rattle.ring_laws.specs.Ringed.{IsRinged}
use Rattle.ring_laws.proofs.Known.{IsKnown, known_of, contained}
use Rattle.parity_laws.specs.Rings.{of_face}
use Rattle.parity_laws.proofs.Pointing.{one_face}
use Rattle.parity_laws.proofs.Splitting.{world}
use Rattle.face_laws.specs.Walked.{steps_of}
use Rattle.face_laws.specs.Covered.{face_of, IsInFaceOf, IsCovered}
use Rattle.face_laws.proofs.FaceOnLeft.{left_is}
use Rattle.face_laws.proofs.FaceParity.{GivesFaces, in_face_is}
use Rattle.face_laws.proofs.Facing.{HasSides, is_faced, step_listed}
use Rattle.face_laws.proofs.Lists.{contains_in}
use Rattle.face_laws.proofs.PlainSteps.{steps_plain, steps_once}
use Rattle.face_laws.proofs.RingLabels.{face_ringwise}
use Rattle.face_laws.proofs.StepsOf.{some_step}

pub faces_given : (S : Drawing) → HasPlainLines S → GivesFaces (face_of S) S.edges
faces_given S good = record {
  forward = λ e s c i. left_is S (forward_of e) s good (forward_there S.edges e c) (contains_in s (segments_of e.geom) i);
  backward = λ e s c i. left_is S (backward_of e) s good (backward_there S.edges e c) (contains_in s (segments_of (reverse e.geom)) i);
}

pub known : (S : Drawing) → IsRinged S → IsKnown S
known S r = known_of S r.universe r.edges r.nodes

pub sides_of : (S : Drawing) → IsCovered S → HasSides S
sides_of S c =
    let good = has_plain_lines S c.ringed.rings in
    record {
      drawn = record { plain = steps_plain S good; once = steps_once S good };
      faces = faces_given S good;
      ringwise = λ f n. face_ringwise S f c.ringed.rings;
      sided = c.sided;
      universe = c.ringed.universe;
      listed = (known S c.ringed).sides;
    }

-- ---- the face that a point is in
in_face_of : (S : Drawing) (p : Point) (f : ℕ) → GivesFaces (face_of S) S.edges → IsInFaceOf S p f → (g : ℕ) → g ≢ 0 → is_in_face S g p ≡ eqb f g
in_face_of S p f gives placed g n = sym (in_face_is (face_of S) S g p gives) ∙ placed g n

pub placed_at : (S : Drawing) (p : Point) (f : ℕ) → GivesFaces (face_of S) S.edges → IsTrue (has_face S f) → IsInFaceOf S p f → face_at S p ≡ f
placed_at S p f gives face placed = by_faces S.faces f (in_face_of S p f gives placed) (λ n. face)
  where
    not_zero : (k : ℕ) → suc k ≢ 0
    not_zero k e = omega (arith, e)

    test : ℕ → Bool
    test g = not (g == 0) && is_in_face S g p

    -- the test of each face is whether it is f
    tested : (f : ℕ) → ((g : ℕ) → g ≢ 0 → is_in_face S g p ≡ eqb f g) → (g : ℕ) → g ≢ 0 → test g ≡ eqb f g
    tested f h zero n = absurd (n refl)
    tested f h (suc k) n = rw (ne_eqb (suc k) 0 (not_zero k)) (h (suc k) n)

    -- a face that is listed and isn't the first one is listed behind it
    behind : (g f : ℕ) (fs : List ℕ) → eqb g f ≡ false → list_any (λ x. x == f) (g ∷ fs) ≡ true → list_any (λ x. x == f) fs ≡ true
    behind g f fs other e = subst (λ b. b || list_any (λ x. x == f) fs ≡ true) other e

    by_faces : (fs : List ℕ) (f : ℕ) → ((g : ℕ) → g ≢ 0 → is_in_face S g p ≡ eqb f g) → (f ≢ 0 → list_any (λ g. g == f) fs ≡ true) → unwrap_or (find test fs) 0 ≡ f
    by_faces [] zero h there = refl
    by_faces [] (suc k) h there = let e = there (not_zero k) in cc
    by_faces (zero ∷ fs) f h there = by_faces fs f h (λ n. behind 0 f fs (ne_eqb 0 f (λ e. n (sym e))) (there n))
    by_faces (suc k ∷ fs) f h there = by_test (test (suc k)) (tested f h (suc k) (not_zero k)) (λ rest. by_faces fs f h rest)
      where
        by_test : (b : Bool) → b ≡ eqb f (suc k) → ((f ≢ 0 → list_any (λ g. g == f) fs ≡ true) → unwrap_or (find test fs) 0 ≡ f) → unwrap_or (cond b (Some (suc k)) (find test fs)) 0 ≡ f
        by_test true e rest = sym (eqb-true f (suc k) (sym e))
        by_test false e rest = rest (λ n. behind (suc k) f fs (ne_eqb (suc k) f (λ i. both_ways (eqb f (suc k)) (sym e) (eq-eqb f (suc k) (sym i)))) (there n))

-- each point is in the face that the definition finds
pub point_placed : (S : Drawing) (p : Point) → HasSides S → IsInFaceOf S p (face_at S p)
point_placed S p h =
    subst (IsInFaceOf S p) (sym (placed_at S p r.0 h.faces (listed r.0 r.1) r.1)) r.1
  where
    r : (g : ℕ) × IsInFaceOf S p g
    r = one_face (steps_of S) (face_of S) p h.drawn (λ f n. (world (steps_of S) (of_face (face_of S) f) h.drawn (h.ringwise f n)).rings.even) h.sided

    listed : (g : ℕ) → IsInFaceOf S p g → IsTrue (has_face S g)
    listed zero k = h.universe
    listed (suc g) k =
        let s = some_step (λ t. crosses t p) (of_face (face_of S) (suc g)) (steps_of S) (k (suc g) (λ e. omega (arith, e)) ∙ eq-eqb (suc g) (suc g) refl) in
        subst (λ f. IsTrue (has_face S f)) (eqb-true (face_of S s.0) (suc g) s.1.1) (step_listed S s.0 h s.1.0)

pub covered_faced : (S : Drawing) → IsCovered S → IsFaced S
covered_faced S c =
    let h = sides_of S c in
    is_faced S h (λ n f i e. placed_at S n.geom f h.faces (subst (λ o. IsTrue (has_face S (unwrap_or o 0))) e (contained S n 0 (known S c.ringed) i c.ringed.universe)) (c.placed n f i e))
