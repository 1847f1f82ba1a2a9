-- Each point, whole or not, has above it what some step has on its left.
use Rattle.std.proofs.Common.{◌≡◌, ◌≢◌, sym, ◌∙◌, arith, ℕ, ◌<ℤ◌, ◌≤ℤ◌, ◌⊎◌, inl, inr, ⊎_elim, false, List, eqb}
use Rattle.std.proofs.lemmas.Bool.{ne_eqb}
use Rattle.plane.proofs.Ring.{signed}
use Rattle.plane.proofs.Signs.{order}
use Rattle.topo_base.specs.Point.{Point}
use Rattle.plane.specs.Segment.{Segment}
use Rattle.plane.specs.Crossings.{over, back}
use Rattle.parity_laws.specs.Steps.{Even, above, left}
use Rattle.parity_laws.specs.Rings.{In, Within, those, Drawn, Sided, of_face}
use Rattle.parity_laws.proofs.Viewing.{Lowest, lowest, down, vertex_above, wedge_at}
use Rattle.parity_laws.proofs.Seeing.{nothing_over, foot_left}
use Rattle.parity_laws.proofs.Star.{those_within}

-- nothing is above v, or some step has on its left what v has above it
abbrev pub PointView : List Segment → Point → Type 0
PointView T v =
    ((X : List Segment) → Even X → Within X T → above X v ≡ false)
    ⊎ ((e : Segment) × (In e T × ((X : List Segment) → Even X → Within X T → left X e ≡ above X v)))

pub point_view : (T : List Segment) (v : Point) → Drawn T → PointView T v
point_view T v drawn =
    ⊎_elim
    (λ (h : (t : Segment) → In t T → over t v ≡ false). inl (λ X even w. nothing_over T v drawn.plain h X w))
    (λ (l : (d : Segment) × Lowest T v d). inr (some l.0 l.1))
    (lowest T v)
  where
    some : (d : Segment) → Lowest T v d → (e : Segment) × (In e T × ((X : List Segment) → Even X → Within X T → left X e ≡ above X v))
    some d low =
        ⊎_elim
        (λ (h : d.a.x <ℤ v.x). (back d, (drawn.plain.both d low.there, λ X even w. foot_left T X v d (record { plain = drawn.plain; low = low; inner = h }) even w)))
        (λ (h : v.x ≤ℤ d.a.x).
        let g = low.isover.from in
        let e : d.a.x ≡ v.x = omega (arith, signed) in
        let k = wedge_at T d down drawn low.there in
        (k.n, (k.there, λ X even w. k.sees X even w ∙ sym (vertex_above T X v d drawn.plain w low e))))
        (order d.a.x v.x)

-- by parity the point is in one face: f, or 0 where no other has it
pub one_face : (T : List Segment) (F : Segment → ℕ) (v : Point) → Drawn T → ((f : ℕ) → f ≢ 0 → Even (those (of_face F f) T)) → ((f : ℕ) → f ≢ 0 → Sided T (of_face F f)) →
    (g : ℕ) × ((f : ℕ) → f ≢ 0 → above (those (of_face F f) T) v ≡ eqb g f)
one_face T F v drawn even sided =
    ⊎_elim
    (λ (h : (X : List Segment) → Even X → Within X T → above X v ≡ false). (0, λ f n. h (those (of_face F f) T) (even f n) (those_within (of_face F f) T) ∙ sym (ne_eqb 0 f (λ e. n (sym e)))))
    (λ (h : (e : Segment) × (In e T × ((X : List Segment) → Even X → Within X T → left X e ≡ above X v))).
    (F h.0, λ f n. sym (h.1.1 (those (of_face F f) T) (even f n) (those_within (of_face F f) T)) ∙ sided f n h.0 h.1.0))
    (point_view T v drawn)
