-- Two faces that are one in a drawing with an edge less: a point in either is in that one.
use Rattle.std.proofs.Common.{◌≡◌, ◌≢◌, ◌∙◌, ℕ, refl, sym, ap, subst, inl, inr, ⊎_elim, Bool, true, false, cond, List, [], ◌∷◌, map, eqb, eqb-true}
use Rattle.std.specs.Prelude.{IsTrue}
use Rattle.std.specs.List.{Contains}
use Rattle.std.proofs.lemmas.Bool.{both_ways, eq-eqb, ne_eqb}
use Rattle.topo_base.specs.RationalPoint.{RationalPoint}
use Rattle.plane.specs.Line.{segments_of}
use Rattle.plane.specs.Parity.{xor}
use Rattle.plane.specs.RationalTests.{is_odd_over_at}
use Rattle.plane.proofs.ListTests.{contains_here, contains_there}
use Rattle.drawing.specs.DrawnPoints.{is_in_face_at}
use Rattle.drawing.specs.Drawing.{Drawing, Edge, has_face}
use Rattle.drawing.specs.Faced.{is_in}
use Rattle.drawing.specs.Faces.{is_border}
use Rattle.parity_laws.proofs.JoinedFaces.{JoinedNumber, Kind, kind_of, number_gone, number_joined, number_other}
use Rattle.parity_laws.proofs.JoinedFaces.Kind.{Joined, Gone, Other}
use Rattle.parity_laws.proofs.Sums.{xor_four}
use Rattle.face_laws.proofs.InFace.{in_by, in_out}
use Rattle.subdivision_laws.specs.Subdivided.{IsSubdivided}
use Rattle.point_laws.proofs.CutParity.{total, weight}
use Rattle.point_laws.proofs.OneMore.{only_face}

-- ---- the edges of the two drawings, one by one
abbrev pub Pairs : (Edge → Edge → Type 0) → List Edge → List Edge → Type 0
Pairs P [] [] = Unit {0}
Pairs P [] (y ∷ ys) = ⊥
Pairs P (x ∷ xs) [] = ⊥
Pairs P (x ∷ xs) (y ∷ ys) = P x y × Pairs P xs ys

pub pairs_from : (P : Edge → Edge → Type 0) (change : Edge → Edge) (ys : List Edge) → ((y : Edge) → Contains ys y → P (change y) y) → Pairs P (map change ys) ys
pairs_from P change [] each = tt
pairs_from P change (y ∷ ys) each = (each y (contains_here y ys), pairs_from P change ys (λ z c. each z (contains_there z y ys c)))

pub pairs_to : (P : Edge → Edge → Type 0) (change : Edge → Edge) (xs : List Edge) → ((x : Edge) → Contains xs x → P x (change x)) → Pairs P xs (map change xs)
pairs_to P change [] each = tt
pairs_to P change (x ∷ xs) each = (each x (contains_here x xs), pairs_to P change xs (λ z c. each z (contains_there z x xs c)))

-- the faces l and r beside y are k beside x
pub record IsJoined (l r k : ℕ) (x y : Edge) : Type 0 where
  pub geom : x.geom ≡ y.geom
  pub left : JoinedNumber l r k y.left_face x.left_face
  pub right : JoinedNumber l r k y.right_face x.right_face

-- ---- their parities
in_two : (a b o : Bool) → cond (xor a b) o false ≡ xor (cond a o false) (cond b o false)
in_two true true o = by o
  where
    by : (o : Bool) → false ≡ xor o o
    by true = refl
    by false = refl
in_two true false o = by o
  where
    by : (o : Bool) → o ≡ xor o false
    by true = refl
    by false = refl
in_two false true o = refl
in_two false false o = refl

weight_joined : (l r k : ℕ) (q : RationalPoint) (x y : Edge) → l ≢ r → IsJoined l r k x y → weight k q x ≡ xor (weight l q y) (weight r q y)
unfolding weight
weight_joined l r k q x y differ h =
    (λ i. cond (border i) (is_odd_over_at q (segments_of (h.geom i))) false)
    ∙ in_two (is_border l y) (is_border r y) (is_odd_over_at q (segments_of y.geom))
  where
    border : is_border k x ≡ xor (is_border l y) (is_border r y)
    border =
        (λ i. xor (sym (number_joined l r k y.left_face x.left_face differ h.left) i) (sym (number_joined l r k y.right_face x.right_face differ h.right) i))
        ∙ xor_four (eqb y.left_face l) (eqb y.left_face r) (eqb y.right_face l) (eqb y.right_face r)

weight_other : (l r k g : ℕ) (q : RationalPoint) (x y : Edge) → IsJoined l r k x y → g ≢ k → g ≢ l → g ≢ r → weight g q x ≡ weight g q y
unfolding weight
weight_other l r k g q x y h nk nl nr =
    (λ i. cond (xor (sym (number_other l r k y.left_face x.left_face g h.left nk nl nr) i) (sym (number_other l r k y.right_face x.right_face g h.right nk nl nr) i)) (is_odd_over_at q (segments_of (h.geom i))) false)

pub total_joined : (l r k : ℕ) (q : RationalPoint) (xs ys : List Edge) → l ≢ r → Pairs (IsJoined l r k) xs ys → total k q xs ≡ xor (total l q ys) (total r q ys)
unfolding total
total_joined l r k q [] [] differ h = refl
total_joined l r k q [] (y ∷ ys) differ h = absurd h
total_joined l r k q (x ∷ xs) [] differ h = absurd h
total_joined l r k q (x ∷ xs) (y ∷ ys) differ h =
    (λ i. xor (weight_joined l r k q x y differ h.0 i) (total_joined l r k q xs ys differ h.1 i))
    ∙ xor_four (weight l q y) (weight r q y) (total l q ys) (total r q ys)

pub total_other : (l r k g : ℕ) (q : RationalPoint) (xs ys : List Edge) → Pairs (IsJoined l r k) xs ys → g ≢ k → g ≢ l → g ≢ r → total g q xs ≡ total g q ys
unfolding total
total_other l r k g q [] [] h nk nl nr = refl
total_other l r k g q [] (y ∷ ys) h nk nl nr = absurd h
total_other l r k g q (x ∷ xs) [] h nk nl nr = absurd h
total_other l r k g q (x ∷ xs) (y ∷ ys) h nk nl nr = (λ i. xor (weight_other l r k g q x y h.0 nk nl nr i) (total_other l r k g q xs ys h.1 nk nl nr i))

-- ---- the face of a point
-- the faces l and r of T are the face k of S, and the others are the same
pub record HasHalves (S T : Drawing) (l r k : ℕ) (name : ℕ → ℕ) : Type 0 where
  pub differ : l ≢ r
  pub inner : k ≢ 0 → (l ≢ 0) × (r ≢ 0)
  pub numbers : (g : ℕ) → IsTrue (has_face T g) → JoinedNumber l r k g (name g)
  pub kept : IsTrue (has_face S k)
  pub stays : (g : ℕ) → IsTrue (has_face T g) → g ≢ l → g ≢ r → IsTrue (has_face S g)
  pub gone : (g : ℕ) → IsTrue (has_face S g) → g ≢ k → (g ≢ l) × (g ≢ r)
  pub both : (q : RationalPoint) → is_in_face_at S k q ≡ xor (is_in_face_at T l q) (is_in_face_at T r q)
  pub other : (g : ℕ) (q : RationalPoint) → g ≢ k → g ≢ l → g ≢ r → is_in_face_at S g q ≡ is_in_face_at T g q

pub in_halves : (S T : Drawing) (l r k : ℕ) (name : ℕ → ℕ) (a : ℕ) (q : RationalPoint) → IsSubdivided S → IsSubdivided T → HasHalves S T l r k name → IsTrue (has_face T a) → IsTrue (is_in T a q) → IsTrue (is_in S (name a) q)
in_halves S T l r k name a q s t h listed inside = in_by S q (name a) parity there
  where
    only : (g : ℕ) → g ≢ 0 → is_in_face_at T g q ≡ eqb a g
    only g n =
        let (m, (each, face)) = only_face T q t in
        each g n ∙ ap (λ z. eqb z g) (sym (in_out T q a m each face inside))

    number : JoinedNumber l r k a (name a)
    number = h.numbers a listed

    there : IsTrue (has_face S (name a))
    there = by_tests (eqb a l) (eqb a r) refl refl
      where
        by_tests : (b c : Bool) → eqb a l ≡ b → eqb a r ≡ c → IsTrue (has_face S (name a))
        by_tests true c e f = subst (λ z. IsTrue (has_face S z)) (sym (number.joined (inl (eqb-true a l e)))) h.kept
        by_tests false true e f = subst (λ z. IsTrue (has_face S z)) (sym (number.joined (inr (eqb-true a r f)))) h.kept
        by_tests false false e f =
            let nl : a ≢ l = (λ z. both_ways (eqb a l) e (eq-eqb a l z)) in
            let nr : a ≢ r = (λ z. both_ways (eqb a r) f (eq-eqb a r z)) in
            subst (λ z. IsTrue (has_face S z)) (sym (number.others nl nr)) (h.stays a listed nl nr)

    unlisted : (g : ℕ) → g ≢ 0 → (IsTrue (has_face S g) → ⊥) → is_in_face_at S g q ≡ false
    unlisted g n none =
        let (m, (each, face)) = only_face S q s in
        each g n ∙ ne_eqb m g (λ e. none (subst (λ z. IsTrue (has_face S z)) e face))

    parity : (g : ℕ) → g ≢ 0 → is_in_face_at S g q ≡ eqb (name a) g
    parity g n = by_kind (kind_of l r k g)
      where
        by_kind : Kind l r k g → is_in_face_at S g q ≡ eqb (name a) g
        by_kind (Joined e) =
            let both = h.inner (λ z. n (e ∙ z)) in
            ap (λ z. is_in_face_at S z q) e ∙ h.both q
            ∙ (λ i. xor (only l both.0 i) (only r both.1 i))
            ∙ number_joined l r k a (name a) h.differ number ∙ ap (eqb (name a)) (sym e)
        by_kind (Gone nk was) =
            unlisted g n (λ there. let off = h.gone g there nk in ⊎_elim (λ (e : g ≡ l). off.0 e) (λ (e : g ≡ r). off.1 e) was)
            ∙ number_gone l r k a (name a) g number nk was
        by_kind (Other nk nl nr) = h.other g q nk nl nr ∙ only g n ∙ number_other l r k a (name a) g number nk nl nr
