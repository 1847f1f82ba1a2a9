-- Without an edge faces have themselves on their left and one shell each, and points are in the faces they were in, by their new names.
use Rattle.std.proofs.Common.{◌≡◌, ◌≢◌, ℕ, sym, ◌∙◌, ap, subst, ⊎_elim, List, eqb, IsTrue}
use Rattle.topo_base.specs.Point.{Point}
use Rattle.drawing.specs.Drawing.{Drawing, Edge, has_face}
use Rattle.plane.specs.Segment.{Segment}
use Rattle.parity_laws.specs.Steps.{above, left}
use Rattle.parity_laws.specs.Rings.{In, those, of_face}
use Rattle.parity_laws.proofs.Labels.{shell_faces, one_shell_faces, those_same, ringwise_same, sided_same}
use Rattle.parity_laws.proofs.OnLine.{last_step}
use Rattle.parity_laws.proofs.JoinedFaces.{JoinedNumber}
use Rattle.parity_laws.proofs.JoinedShells.{OuterJoins}
use Rattle.parity_laws.proofs.LineGone.{IsEndOf}
use Rattle.parity_laws.proofs.LineGoes.{FacesAreRight, FacesJoin, FaceStays, faces_join, points_join, left_joins, end_joins, faces_stay, points_stay, left_stays, end_stays}
use Rattle.face_laws.specs.Walked.{steps_of}
use Rattle.face_laws.specs.Covered.{face_of, IsInFaceOf}
use Rattle.face_laws.proofs.Covering.{known}
use Rattle.subdivision_laws.proofs.GoneSteps.{Takes, edge_goes, faces_before, face_forth, face_back, face_after}

abbrev pub IsFaceOf : Drawing → ℕ → Type 0
IsFaceOf S g = IsTrue (has_face S g)

-- T's faces are right; points stay in their faces, left of the line's first step is the face k, and an end of the line where no other step begins is in the face k
pub record Settled (S T : Drawing) (first : Segment) (rest : List Segment) (name : ℕ → ℕ) (k : ℕ) : Type 0 where
  pub right : FacesAreRight (steps_of T) (face_of T) (IsFaceOf T)
  pub points : (v : Point) (m : ℕ) → IsFaceOf S m → IsInFaceOf S v m → IsInFaceOf T v (name m)
  pub beside : (g : ℕ) → g ≢ 0 → left (those (of_face (face_of T) g) (steps_of T)) first ≡ eqb k g
  pub ends : (x : Segment) → IsEndOf first (last_step first rest) x → ((t : Segment) → In t (steps_of T) → t.a ≢ x.a) → IsInFaceOf T x.a k

-- the faces on an edge's sides are listed
sides_listed : (S T : Drawing) (e : Edge) (first : Segment) (rest : List Segment) (name : ℕ → ℕ) → Takes S T e first rest name → IsFaceOf S e.left_face × IsFaceOf S e.right_face
sides_listed S T e first rest name h = (known S h.before.ringed).sides e h.there

-- ---- two faces become one
pub record TwoSides (S T : Drawing) (e : Edge) (first : Segment) (rest : List Segment) (name : ℕ → ℕ) (k : ℕ) : Type 0 where
  pub takes : Takes S T e first rest name
  pub differ : e.left_face ≢ e.right_face
  pub numbers : (m : ℕ) → IsFaceOf S m → JoinedNumber e.left_face e.right_face k m (name m)
  pub outer : OuterJoins e.left_face e.right_face k
  pub others : (g : ℕ) → IsFaceOf T g → g ≢ k → IsFaceOf S g × (g ≢ e.left_face) × (g ≢ e.right_face)

joins : (S T : Drawing) (e : Edge) (first : Segment) (rest : List Segment) (name : ℕ → ℕ) (k : ℕ) → TwoSides S T e first rest name k →
    FacesJoin (steps_of S) (steps_of T) first rest (last_step first rest) (face_of S) (face_of T) (IsFaceOf S) (IsFaceOf T) e.left_face e.right_face k
joins S T e first rest name k h = record {
  goes = edge_goes S T e first rest name h.takes;
  right = faces_before S h.takes.before;
  forth = face_forth S T e first rest name h.takes;
  walked = face_back S T e first rest name h.takes;
  differ = h.differ;
  numbers = numbers;
  outer = h.outer;
  was_left = λ _. (sides_listed S T e first rest name h.takes).0;
  was_right = λ _. (sides_listed S T e first rest name h.takes).1;
  others = h.others;
}
  where
    numbers : (s : Segment) → In s (steps_of T) → JoinedNumber e.left_face e.right_face k (face_of S s) (face_of T s)
    numbers s i =
        let (x, (c, (side, renamed))) = face_after S T e first rest name h.takes s i in
        let sides = (known S h.takes.before.ringed).sides x c in
        let listed : IsFaceOf S (face_of S s) =
        ⊎_elim
        (λ (p : face_of S s ≡ x.left_face). subst (IsFaceOf S) (sym p) sides.0)
        (λ (p : face_of S s ≡ x.right_face). subst (IsFaceOf S) (sym p) sides.1)
        side in
        subst (JoinedNumber e.left_face e.right_face k (face_of S s)) (sym renamed) (h.numbers (face_of S s) listed)

pub two_settled : (S T : Drawing) (e : Edge) (first : Segment) (rest : List Segment) (name : ℕ → ℕ) (k : ℕ) → TwoSides S T e first rest name k → Settled S T first rest name k
two_settled S T e first rest name k h = record {
  right = faces_join (steps_of S) (steps_of T) first rest (last_step first rest) (face_of S) (face_of T) (IsFaceOf S) (IsFaceOf T) e.left_face e.right_face k (joins S T e first rest name k h);
  points = λ v m is placed g n.
      points_join (steps_of S) (steps_of T) first rest (last_step first rest) (face_of S) (face_of T) (IsFaceOf S) (IsFaceOf T) e.left_face e.right_face k m (name m) v (joins S T e first rest name k h)
      (h.numbers m is) placed g n;
  beside = λ g n. left_joins (steps_of S) (steps_of T) first rest (last_step first rest) (face_of S) (face_of T) (IsFaceOf S) (IsFaceOf T) e.left_face e.right_face k (joins S T e first rest name k h) g n;
  ends = λ x end none g n.
      end_joins (steps_of S) (steps_of T) first rest (last_step first rest) (face_of S) (face_of T) (IsFaceOf S) (IsFaceOf T) e.left_face e.right_face k x (joins S T e first rest name k h) end none g n;
}

-- ---- one face on both sides
-- numbers that are equal on all steps
label_alike : (T : List Segment) (F G : Segment → ℕ) → ((s : Segment) → In s T → F s ≡ G s) → (g : ℕ) (s : Segment) → In s T → of_face F g s ≡ of_face G g s
label_alike T F G e g s i = ap (λ z. eqb z g) (e s i)

pub faces_alike : (T : List Segment) (F G : Segment → ℕ) (I J : ℕ → Type 0) → ((s : Segment) → In s T → F s ≡ G s) → ((g : ℕ) → J g → I g) → FacesAreRight T F I → FacesAreRight T G J
faces_alike T F G I J e listed h = record {
  rings = λ g. ringwise_same T (of_face F g) (of_face G g) (label_alike T F G e g) (h.rings g);
  sided = λ g n. sided_same T (of_face F g) (of_face G g) (label_alike T F G e g) (h.sided g n);
  shells = λ g n j. one_shell_faces T F G g e (h.shells g n (listed g j));
  outer = λ p s. h.outer p (shell_faces T G F 0 p (λ t i. sym (e t i)) s);
}

pub record OneSide (S T : Drawing) (e : Edge) (first : Segment) (rest : List Segment) (name : ℕ → ℕ) : Type 0 where
  pub takes : Takes S T e first rest name
  pub one : e.left_face ≡ e.right_face
  pub stay : (m : ℕ) → name m ≡ m
  pub listed : (g : ℕ) → IsFaceOf T g → IsFaceOf S g

stays : (S T : Drawing) (e : Edge) (first : Segment) (rest : List Segment) (name : ℕ → ℕ) → OneSide S T e first rest name →
    FaceStays (steps_of S) (steps_of T) first rest (last_step first rest) (face_of S) (IsFaceOf S) e.left_face
stays S T e first rest name h = record {
  goes = edge_goes S T e first rest name h.takes;
  right = faces_before S h.takes.before;
  forth = face_forth S T e first rest name h.takes;
  walked = face_back S T e first rest name h.takes ∙ sym h.one;
  listed = λ _. (sides_listed S T e first rest name h.takes).0;
}

pub one_settled : (S T : Drawing) (e : Edge) (first : Segment) (rest : List Segment) (name : ℕ → ℕ) → OneSide S T e first rest name → Settled S T first rest name e.left_face
one_settled S T e first rest name h = record {
  right = faces_alike (steps_of T) (face_of S) (face_of T) (IsFaceOf S) (IsFaceOf T) same h.listed
      (faces_stay (steps_of S) (steps_of T) first rest (last_step first rest) (face_of S) (IsFaceOf S) e.left_face (stays S T e first rest name h));
  points = λ v m is placed g n.
      above_same v g
      ∙ points_stay (steps_of S) (steps_of T) first rest (last_step first rest) (face_of S) (IsFaceOf S) e.left_face (stays S T e first rest name h) g v
      ∙ placed g n ∙ ap (λ z. eqb z g) (sym (h.stay m));
  beside = λ g n.
      ap (λ X. left X first) (same_those g)
      ∙ left_stays (steps_of S) (steps_of T) first rest (last_step first rest) (face_of S) (IsFaceOf S) e.left_face (stays S T e first rest name h) g n;
  ends = λ x end none g n.
      above_same x.a g
      ∙ end_stays (steps_of S) (steps_of T) first rest (last_step first rest) (face_of S) (IsFaceOf S) e.left_face x (stays S T e first rest name h) end none g n;
}
  where
    same : (s : Segment) → In s (steps_of T) → face_of S s ≡ face_of T s
    same s i =
        let (x, (c, (side, renamed))) = face_after S T e first rest name h.takes s i in
        sym (renamed ∙ h.stay (face_of S s))

    same_those : (g : ℕ) → those (of_face (face_of T) g) (steps_of T) ≡ those (of_face (face_of S) g) (steps_of T)
    same_those g = those_same (of_face (face_of T) g) (of_face (face_of S) g) (steps_of T) (λ s i. sym (label_alike (steps_of T) (face_of S) (face_of T) same g s i))

    above_same : (v : Point) (g : ℕ) → above (those (of_face (face_of T) g) (steps_of T)) v ≡ above (those (of_face (face_of S) g) (steps_of T)) v
    above_same v g = ap (λ X. above X v) (same_those g)
