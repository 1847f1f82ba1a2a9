-- The two rings of a line that divides a face: each step of that face, and each point of it, is left of exactly one of them.
use Rattle.std.proofs.Common.{◌≡◌, ◌≢◌, ℕ, refl, sym, ◌∙◌, ap, subst, ◌⊎◌, inl, inr, ⊎_elim, Bool, true, false, not, List}
use Rattle.std.proofs.lemmas.Bool.{both_ways, false_from_ne_true}
use Rattle.topo_base.specs.Point.{Point}
use Rattle.plane.specs.Parity.{xor}
use Rattle.plane.specs.Segment.{Segment}
use Rattle.plane.specs.Crossings.{back}
use Rattle.parity_laws.specs.Steps.{Even, above, left, times}
use Rattle.parity_laws.specs.Rings.{In, those, has, Drawn, Ringwise, Sided, of_face, IsInFace}
use Rattle.parity_laws.specs.Shelling.{OneShell, NoShell, HasRingLabels}
use Rattle.parity_laws.proofs.ClosingShells.{IsTurned}
use Rattle.parity_laws.proofs.Dividing.{Divides, Place, in_a, in_b, elsewhere, place, divided_rings, first_part, second_part}
use Rattle.parity_laws.proofs.FaceShells.{IsRingAt, HasOnce, linked_rings}
use Rattle.parity_laws.proofs.Neighbours.{Linked, linked_onward, vertex_linked, ring_linked, edge_linked}
use Rattle.parity_laws.proofs.Orbits.{label_even}
use Rattle.parity_laws.proofs.PointParts.{FaceView, face_view, in_outer}
use Rattle.parity_laws.proofs.RingAt.{rings_there}
use Rattle.parity_laws.proofs.Ringwise.{side_back}
use Rattle.parity_laws.proofs.Star.{has_label, times_has, those_within}
use Rattle.local_laws.proofs.OneValue.{one_value, outer_value}

-- a face with one shell, or face 0 with none
abbrev pub HasItsShell : List Segment → (Segment → ℕ) → ℕ → Type 0
HasItsShell T G g = ((g ≢ 0) × OneShell T G g) ⊎ ((g ≡ 0) × NoShell T G g)

part_value : (T : List Segment) (G : Segment → ℕ) (g : ℕ) (ring : Segment → Bool) (s t : Segment) → Drawn T → ((g : ℕ) → Ringwise T (of_face G g)) → ((g : ℕ) → g ≢ 0 → Sided T (of_face G g)) → HasItsShell T G g →
    Ringwise T ring → In s T → In t T → G s ≡ g → G t ≡ g → left (those ring T) s ≡ left (those ring T) t
part_value T G g ring s t drawn rings sides shell hr i j e f =
    ⊎_elim
    (λ (k : (g ≢ 0) × OneShell T G g). one_value T G g ring s t drawn (rings_there T drawn) (rings g) (sides g k.0) k.1 hr i j e f)
    (λ (k : (g ≡ 0) × NoShell T G g).
    let none = subst (λ z. NoShell T G z) k.0 k.1 in
    outer_value T G ring s drawn (rings_there T drawn) rings sides none hr i (e ∙ k.0)
    ∙ sym (outer_value T G ring t drawn (rings_there T drawn) rings sides none hr j (f ∙ k.0)))
    shell

-- the divided face, with what its parts are
pub record HasParts (T : List Segment) (F G : Segment → ℕ) (f a b : ℕ) (e : Segment) (p q : Segment → Bool) : Type 0 where
  pub drawn : Drawn T
  pub by : Divides T F G f a b e p q
  pub sides : (g : ℕ) → g ≢ 0 → Sided T (of_face G g)
  pub shell_a : HasItsShell T G a
  pub shell_b : HasItsShell T G b

second_across : (T : List Segment) (F G : Segment → ℕ) (f a b : ℕ) (e : Segment) (p q : Segment → Bool) → HasParts T F G f a b e p q → left (those q T) e ≡ not (left (those q T) (back e))
second_across T F G f a b e p q h =
    last (left (those q T) e) (left (those q T) (back e)) (times (those q T) e) (has (those q T) e) (has (those q T) (back e))
    (side_back T (those q T) e h.drawn.plain (label_even T h.drawn.plain h.drawn.once q h.by.second.ringwise) (those_within q T) h.by.there) (times_has (those q T) e)
    (has_label q T h.drawn.once e h.by.there ∙ not_on) (has_label q T h.drawn.once (back e) (h.drawn.plain.both e h.by.there) ∙ h.by.second_on)
  where
    not_on : q e ≡ false
    not_on = false_from_ne_true (q e) (λ m. h.by.differ (sym (first_part T F G f a b e p q h.drawn h.by e h.by.there h.by.first_on) ∙ second_part T F G f a b e p q h.drawn h.by e h.by.there m))

    last : (l k t x y : Bool) → l ≡ xor k t → t ≡ xor x y → x ≡ false → y ≡ true → l ≡ not k
    last l true t x y e f g i = rw (e, f, g, i) refl
    last l false t x y e f g i = rw (e, f, g, i) refl

-- ---- steps and points of the face
pub step_of_one : (T : List Segment) (F G : Segment → ℕ) (f a b : ℕ) (e : Segment) (p q : Segment → Bool) (s : Segment) → HasParts T F G f a b e p q → In s T → F s ≡ f →
    xor (left (those q T) s) (left (those q T) (back e)) ≡ not (xor (left (those p T) s) (left (those p T) e))
step_of_one T F G f a b e p q s h i at = by_place (place T F G f a b e p q h.by s i)
  where
    rings : (g : ℕ) → Ringwise T (of_face G g)
    rings = divided_rings T F G f a b e p q h.drawn h.by

    back_there : In (back e) T
    back_there = h.drawn.plain.both e h.by.there

    unlike : (x y l c : Bool) → l ≡ c → x ≡ not y → xor x y ≡ not (xor l c)
    unlike x true l true k m = rw (m, k) refl
    unlike x true l false k m = rw (m, k) refl
    unlike x false l true k m = rw (m, k) refl
    unlike x false l false k m = rw (m, k) refl

    alike : (x y l c : Bool) → l ≡ not c → x ≡ y → xor x y ≡ not (xor l c)
    alike x true l true k m = rw (m, k) refl
    alike x true l false k m = rw (m, k) refl
    alike x false l true k m = rw (m, k) refl
    alike x false l false k m = rw (m, k) refl

    by_place : Place T F G f a b e p s → xor (left (those q T) s) (left (those q T) (back e)) ≡ not (xor (left (those p T) s) (left (those p T) e))
    by_place (in_a n k g) =
        unlike (left (those q T) s) (left (those q T) (back e)) (left (those p T) s) (left (those p T) e) k
        (part_value T G a q s e h.drawn rings h.sides h.shell_a h.by.second.ringwise i h.by.there g (first_part T F G f a b e p q h.drawn h.by e h.by.there h.by.first_on) ∙ second_across T F G f a b e p q h)
    by_place (in_b n k g) =
        alike (left (those q T) s) (left (those q T) (back e)) (left (those p T) s) (left (those p T) e) k
        (part_value T G b q s (back e) h.drawn rings h.sides h.shell_b h.by.second.ringwise i back_there g (second_part T F G f a b e p q h.drawn h.by (back e) back_there h.by.second_on))
    by_place (elsewhere n g) = absurd (n at)

pub point_of_one : (T : List Segment) (F G : Segment → ℕ) (f a b : ℕ) (e : Segment) (p q : Segment → Bool) (v : Point) → HasParts T F G f a b e p q → (f ≢ 0) ⊎ IsTurned T e p q → IsInFace T F f v →
    xor (above (those q T) v) (left (those q T) (back e)) ≡ not (xor (above (those p T) v) (left (those p T) e))
point_of_one T F G f a b e p q v h outer in_it = by_view (face_view T F f v h.drawn h.by.faces h.by.sided in_it)
  where
    p_even : Even (those p T)
    p_even = label_even T h.drawn.plain h.drawn.once p h.by.first.ringwise

    q_even : Even (those q T)
    q_even = label_even T h.drawn.plain h.drawn.once q h.by.second.ringwise

    outside : (x y l c : Bool) → x ≡ false → l ≡ false → y ≡ not c → xor x y ≡ not (xor l c)
    outside x y l c m k n = rw (m, k) n

    by_view : FaceView T F f v → xor (above (those q T) v) (left (those q T) (back e)) ≡ not (xor (above (those p T) v) (left (those p T) e))
    by_view (inl none) =
        outside (above (those q T) v) (left (those q T) (back e)) (above (those p T) v) (left (those p T) e) (none (those q T) q_even (those_within q T)) (none (those p T) p_even (those_within p T))
        (⊎_elim (λ (n : f ≢ 0). absurd (n (in_outer T F f v h.drawn h.by.faces in_it none))) (λ (turn : IsTurned T e p q). turn) outer)
    by_view (inr (s, (i, at, sees))) =
        ap (λ x. xor x (left (those q T) (back e))) (sym (sees (those q T) q_even (those_within q T)))
        ∙ step_of_one T F G f a b e p q s h i at
        ∙ ap (λ x. not (xor x (left (those p T) e))) (sees (those p T) p_even (those_within p T))

-- ---- no vertex of another ring of the face is on the second ring, as off_first_ring in parity_laws/proofs/BesideParts
pub off_second_ring : (T : List Segment) (F G : Segment → ℕ) (f a b : ℕ) (e : Segment) (p q o : Segment → Bool) (r : Segment) → Drawn T → HasRingLabels T → Divides T F G f a b e p q → HasOnce T G a → HasOnce T G b →
    IsRingAt T F f o r → o e ≡ false → o (back e) ≡ false → (t : Segment) → In t T → q t ≡ true → t.a ≢ r.a
off_second_ring T F G f a b e p q o r drawn labels d once_a once_b ro off off_back t i m meet = by_place (place T F G f a b e p q d r ro.there)
  where
    back_there : In (back e) T
    back_there = drawn.plain.both e d.there

    link : Linked T t r
    link = vertex_linked T t r drawn.plain i ro.there meet

    at : (g : ℕ) → G r ≡ g → IsRingAt T G g o r
    at g h = record { ring = ro.ring; there = ro.there; mine = ro.mine; face = h }

    by_place : Place T F G f a b e p r → ⊥
    by_place (in_b h k g) =
        both_ways (o (back e)) off_back
        (sym (linked_rings T G b q o t r drawn labels once_b (record { ring = d.second; there = i; mine = m; face = second_part T F G f a b e p q drawn d t i m }) (at b g) link (back e) back_there) ∙ d.second_on)
    by_place (in_a h k g) =
        both_ways (o e) off
        (sym (linked_rings T G a p o e r drawn labels once_a
        (record { ring = d.first; there = d.there; mine = d.first_on; face = first_part T F G f a b e p q drawn d e d.there d.first_on }) (at a g)
        (linked_onward T e (back e) r (edge_linked T e d.there) (linked_onward T (back e) t r (ring_linked T q (back e) t d.second.one back_there i d.second_on m) link)) e d.there)
        ∙ d.first_on)
    by_place (elsewhere n g) = n ro.face
