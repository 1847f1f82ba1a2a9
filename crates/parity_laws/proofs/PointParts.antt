-- In which face a point is after a line has divided one.
use Rattle.std.proofs.Common.{◌≡◌, ◌≢◌, refl, sym, ◌∙◌, ap, ℕ, ◌⊎◌, inl, inr, ⊎_elim, Bool, true, false, not, List}
use lib.Dec.{eqb}
use Rattle.std.proofs.lemmas.Bool.{both_ways, eqb-true, eqb-false, eq-eqb, ne_eqb}
use Rattle.topo_base.specs.Point.{Point}
use Rattle.plane.specs.Segment.{Segment}
use Rattle.parity_laws.specs.Steps.{Even, above, left}
use Rattle.parity_laws.specs.Rings.{In, Within, those, Drawn, Ringwise, Sided, of_face, IsInFace}
use Rattle.parity_laws.proofs.Star.{those_within}
use Rattle.parity_laws.proofs.Splitting.{world}
use Rattle.parity_laws.proofs.Pointing.{point_view}
use Rattle.parity_laws.proofs.Dividing.{Divides, IsOuterPart, divided_rings}

-- nothing is above v, or a step of its face has on its left what v has above it
abbrev pub FaceView : List Segment → (Segment → ℕ) → ℕ → Point → Type 0
FaceView T F f v =
    ((X : List Segment) → Even X → Within X T → above X v ≡ false)
    ⊎ ((s : Segment) × (In s T × (F s ≡ f) × ((X : List Segment) → Even X → Within X T → left X s ≡ above X v)))

pub face_view : (T : List Segment) (F : Segment → ℕ) (f : ℕ) (v : Point) → Drawn T → ((g : ℕ) → Ringwise T (of_face F g)) → ((g : ℕ) → g ≢ 0 → Sided T (of_face F g)) → IsInFace T F f v → FaceView T F f v
face_view T F f v drawn faces sided h =
    ⊎_elim
    (λ (k : (X : List Segment) → Even X → Within X T → above X v ≡ false). inl k)
    (λ (k : (s : Segment) × (In s T × ((X : List Segment) → Even X → Within X T → left X s ≡ above X v))). inr (k.0, (k.1.0, is_face k.0 k.1.0 k.1.1, k.1.1)))
    (point_view T v drawn)
  where
    is_face : (s : Segment) → In s T → ((X : List Segment) → Even X → Within X T → left X s ≡ above X v) → F s ≡ f
    is_face s i sees = by_zero (eqb (F s) 0) (eqb f 0) refl refl
      where
        one : (g : ℕ) → g ≢ 0 → eqb f g ≡ eqb (F s) g
        one g n = sym (h g n) ∙ sym (sees (those (of_face F g) T) (world T (of_face F g) drawn (faces g)).rings.even (those_within (of_face F g) T)) ∙ sided g n s i

        by_zero : (x y : Bool) → eqb (F s) 0 ≡ x → eqb f 0 ≡ y → F s ≡ f
        by_zero true true e g = eqb-true (F s) 0 e ∙ sym (eqb-true f 0 g)
        by_zero false y e g = sym (eqb-true f (F s) (one (F s) (eqb-false (F s) 0 e) ∙ eq-eqb (F s) (F s) refl))
        by_zero true false e g = eqb-true (F s) f (sym (one f (eqb-false f 0 g)) ∙ eq-eqb f f refl)

-- a step that has on its left what v has above it is of the face of v
seen_face : (T : List Segment) (G : Segment → ℕ) (g : ℕ) (v : Point) (s : Segment) → Drawn T → ((g : ℕ) → Ringwise T (of_face G g)) → ((g : ℕ) → g ≢ 0 → Sided T (of_face G g)) → In s T → G s ≡ g →
    ((X : List Segment) → Even X → Within X T → left X s ≡ above X v) → IsInFace T G g v
seen_face T G g v s drawn faces sided i e sees k n =
    sym (sees (those (of_face G k) T) (world T (of_face G k) drawn (faces k)).rings.even (those_within (of_face G k) T)) ∙ sided k n s i ∙ ap (λ z. eqb z k) e

nothing_there : (T : List Segment) (G : Segment → ℕ) (g : ℕ) (v : Point) → Drawn T → ((g : ℕ) → Ringwise T (of_face G g)) → ((X : List Segment) → Even X → Within X T → above X v ≡ false) → g ≡ 0 → IsInFace T G g v
nothing_there T G g v drawn faces none e k n =
    none (those (of_face G k) T) (world T (of_face G k) drawn (faces k)).rings.even (those_within (of_face G k) T) ∙ sym (ne_eqb g k (λ z. n (sym z ∙ e)))

-- with nothing above it, it is in face 0
pub in_outer : (T : List Segment) (F : Segment → ℕ) (f : ℕ) (v : Point) → Drawn T → ((g : ℕ) → Ringwise T (of_face F g)) → IsInFace T F f v → ((X : List Segment) → Even X → Within X T → above X v ≡ false) → f ≡ 0
in_outer T F f v drawn faces h none = by_zero (eqb f 0) refl
  where
    by_zero : (x : Bool) → eqb f 0 ≡ x → f ≡ 0
    by_zero true e = eqb-true f 0 e
    by_zero false e =
        absurd (both_ways (eqb f f) (sym (h f (eqb-false f 0 e)) ∙ none (those (of_face F f) T) (world T (of_face F f) drawn (faces f)).rings.even (those_within (of_face F f) T)) (eq-eqb f f refl))

-- a point of the divided face: the parity of the first ring above it tells its part
pub point_in_first : (T : List Segment) (F G : Segment → ℕ) (f a b : ℕ) (e : Segment) (p q : Segment → Bool) (v : Point) → Drawn T → Divides T F G f a b e p q → ((g : ℕ) → g ≢ 0 → Sided T (of_face G g)) →
    (f ≢ 0) ⊎ IsOuterPart T p e a b → IsInFace T F f v → above (those p T) v ≡ left (those p T) e → IsInFace T G a v
point_in_first T F G f a b e p q v drawn d sided outer h m =
    ⊎_elim
    (λ (k : (X : List Segment) → Even X → Within X T → above X v ≡ false).
    nothing_there T G a v drawn rings k
    (⊎_elim
    (λ (n : f ≢ 0). absurd (n (in_outer T F f v drawn d.faces h k)))
    (λ (o : IsOuterPart T p e a b).
    ⊎_elim
    (λ (c : (left (those p T) e ≡ true) × (b ≡ 0)).
    absurd (both_ways (above (those p T) v) (k (those p T) (world T p drawn d.first.ringwise).rings.even (those_within p T)) (m ∙ c.0)))
    (λ (c : (left (those p T) e ≡ false) × (a ≡ 0)). c.1)
    o)
    outer))
    (λ (k : (s : Segment) × (In s T × (F s ≡ f) × ((X : List Segment) → Even X → Within X T → left X s ≡ above X v))).
    seen_face T G a v k.0 drawn rings sided k.1.0
    (d.part_a k.0 k.1.0 k.1.1 (k.1.2 (those p T) (world T p drawn d.first.ringwise).rings.even (those_within p T) ∙ m)) k.1.2)
    (face_view T F f v drawn d.faces d.sided h)
  where
    rings : (g : ℕ) → Ringwise T (of_face G g)
    rings = divided_rings T F G f a b e p q drawn d

pub point_in_second : (T : List Segment) (F G : Segment → ℕ) (f a b : ℕ) (e : Segment) (p q : Segment → Bool) (v : Point) → Drawn T → Divides T F G f a b e p q → ((g : ℕ) → g ≢ 0 → Sided T (of_face G g)) →
    (f ≢ 0) ⊎ IsOuterPart T p e a b → IsInFace T F f v → above (those p T) v ≡ not (left (those p T) e) → IsInFace T G b v
point_in_second T F G f a b e p q v drawn d sided outer h m =
    ⊎_elim
    (λ (k : (X : List Segment) → Even X → Within X T → above X v ≡ false).
    nothing_there T G b v drawn rings k
    (⊎_elim
    (λ (n : f ≢ 0). absurd (n (in_outer T F f v drawn d.faces h k)))
    (λ (o : IsOuterPart T p e a b).
    ⊎_elim
    (λ (c : (left (those p T) e ≡ true) × (b ≡ 0)). c.1)
    (λ (c : (left (those p T) e ≡ false) × (a ≡ 0)).
    absurd (both_ways (above (those p T) v) (k (those p T) (world T p drawn d.first.ringwise).rings.even (those_within p T)) (m ∙ ap not c.0)))
    o)
    outer))
    (λ (k : (s : Segment) × (In s T × (F s ≡ f) × ((X : List Segment) → Even X → Within X T → left X s ≡ above X v))).
    seen_face T G b v k.0 drawn rings sided k.1.0
    (d.part_b k.0 k.1.0 k.1.1 (k.1.2 (those p T) (world T p drawn d.first.ringwise).rings.even (those_within p T) ∙ m)) k.1.2)
    (face_view T F f v drawn d.faces d.sided h)
  where
    rings : (g : ℕ) → Ringwise T (of_face G g)
    rings = divided_rings T F G f a b e p q drawn d

-- a point of another face stays in it
pub point_stays : (T : List Segment) (F G : Segment → ℕ) (f a b : ℕ) (e : Segment) (p q : Segment → Bool) (v : Point) (g : ℕ) → Drawn T → Divides T F G f a b e p q → ((g : ℕ) → g ≢ 0 → Sided T (of_face G g)) →
    g ≢ f → IsInFace T F g v → IsInFace T G g v
point_stays T F G f a b e p q v g drawn d sided n h =
    ⊎_elim
    (λ (k : (X : List Segment) → Even X → Within X T → above X v ≡ false). nothing_there T G g v drawn rings k (in_outer T F g v drawn d.faces h k))
    (λ (k : (s : Segment) × (In s T × (F s ≡ g) × ((X : List Segment) → Even X → Within X T → left X s ≡ above X v))).
    seen_face T G g v k.0 drawn rings sided k.1.0 (d.away k.0 k.1.0 (λ z. n (sym k.1.1 ∙ z)) ∙ k.1.1) k.1.2)
    (face_view T F g v drawn d.faces d.sided h)
  where
    rings : (g : ℕ) → Ringwise T (of_face G g)
    rings = divided_rings T F G f a b e p q drawn d
