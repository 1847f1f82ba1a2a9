-- Another ring of a divided face has no vertex on the two rings of the line, and one vertex of it tells which part it is in.
use Rattle.std.proofs.Common.{◌≡◌, ◌≢◌, sym, ◌∙◌, ap, ℕ, inl, inr, ⊎_elim, Bool, true, false, not, List}
use Rattle.std.proofs.lemmas.Bool.{both_ways, eqb-true, eq-eqb}
use Rattle.plane.specs.Segment.{Segment}
use Rattle.plane.specs.Parity.{xor}
use Rattle.plane.specs.Crossings.{back}
use Rattle.parity_laws.specs.Steps.{direction, above, turned, left}
use Rattle.parity_laws.specs.Walks.{NotAt}
use Rattle.parity_laws.specs.Rings.{In, those, Drawn, Ringwise, Sided, of_face}
use Rattle.parity_laws.proofs.Sums.{xor_none}
use Rattle.parity_laws.proofs.Ringwise.{in_each}
use Rattle.parity_laws.proofs.Walking.{not_turned}
use Rattle.parity_laws.proofs.Star.{those_in}
use Rattle.parity_laws.proofs.Splitting.{has_next}
use Rattle.parity_laws.specs.Shelling.{OneShell, NoShell, HasRingLabels}
use Rattle.parity_laws.proofs.Neighbours.{Linked, linked_onward, linked_turned, vertex_linked, ring_linked, edge_linked}
use Rattle.parity_laws.proofs.FaceShells.{IsRingAt, HasOnce, linked_rings}
use Rattle.parity_laws.proofs.Dividing.{Divides, Place, in_a, in_b, elsewhere, place, divided_rings, divided_sides, outer_divided_sides, IsOuterPart, first_part, second_part}
use Rattle.parity_laws.proofs.DividedShells.{NoOtherShell, RestOfFace, divided_shells, outer_divided_shells}

-- where p has no step at the start of r, what is above it is what is left of r
pub beside_vertex : (T : List Segment) (p : Segment → Bool) (r : Segment) → Drawn T → Ringwise T p → ((t : Segment) → In t T → p t ≡ true → t.a ≢ r.a) → above (those p T) r.a ≡ left (those p T) r
beside_vertex T p r drawn hp off = sym (ap (xor (above (those p T) r.a)) none ∙ xor_none (above (those p T) r.a))
  where
    none : turned (those p T) r.a (direction r) ≡ false
    none =
        not_turned (those p T) r.a (direction r)
        (in_each (NotAt r.a) (those p T) (λ t i.
        let m = those_in p T t i in
        let n = has_next T t drawn m.0 in
        (off t m.0 m.1, λ e. off n.0 n.1.0 (sym (hp t n.0 m.0 n.1.0 n.1.1) ∙ m.1) (n.1.1.meets ∙ e))))

-- both parts have at most one shell, the new ones of face 0 too
pub parts_have_once : (T : List Segment) (F G : Segment → ℕ) (f a b : ℕ) (e : Segment) (p q : Segment → Bool) → Drawn T → HasRingLabels T → Divides T F G f a b e p q → f ≢ 0 → a ≢ 0 → b ≢ 0 →
    RestOfFace T F f e p q → HasOnce T G a × HasOnce T G b
parts_have_once T F G f a b e p q drawn labels d nf na nb rest =
    let h = divided_shells T F G f a b e p q drawn labels d nf na nb rest in
    let rings = divided_rings T F G f a b e p q drawn d in
    let sides = divided_sides T F G f a b e p q drawn d nf in
    (inl (rings a, sides a na, h.0), inl (rings b, sides b nb, h.1))

pub outer_parts_have_once : (T : List Segment) (F G : Segment → ℕ) (f a b : ℕ) (e : Segment) (p q : Segment → Bool) → Drawn T → Divides T F G f a b e p q → f ≡ 0 → IsOuterPart T p e a b →
    left (those q T) (back e) ≡ not (left (those p T) e) → NoOtherShell T F f e (back e) → HasOnce T G a × HasOnce T G b
outer_parts_have_once T F G f a b e p q drawn d ef outer turn none =
    ⊎_elim
    (λ (h : OneShell T G a × (b ≡ 0) × NoShell T G b). (inl (rings a, sides a (λ k. d.differ (k ∙ sym h.1)), h.0), inr h.2))
    (λ (h : OneShell T G b × (a ≡ 0) × NoShell T G a). (inr h.2, inl (rings b, sides b (λ k. d.differ (h.1 ∙ sym k)), h.0)))
    (outer_divided_shells T F G f a b e p q drawn d outer turn none)
  where
    rings : (g : ℕ) → Ringwise T (of_face G g)
    rings = divided_rings T F G f a b e p q drawn d

    sides : (g : ℕ) → g ≢ 0 → Sided T (of_face G g)
    sides = outer_divided_sides T F G f a b e p q drawn d ef outer

-- no vertex of another ring of the face is on the first ring
pub off_first_ring : (T : List Segment) (F G : Segment → ℕ) (f a b : ℕ) (e : Segment) (p q o : Segment → Bool) (r : Segment) → Drawn T → HasRingLabels T → Divides T F G f a b e p q → HasOnce T G a → HasOnce T G b →
    IsRingAt T F f o r → o e ≡ false → o (back e) ≡ false → (t : Segment) → In t T → p t ≡ true → t.a ≢ r.a
off_first_ring T F G f a b e p q o r drawn labels d once_a once_b ro off off_back t i m meet = by_place (place T F G f a b e p q d r ro.there)
  where
    back_there : In (back e) T
    back_there = drawn.plain.both e d.there

    link : Linked T t r
    link = vertex_linked T t r drawn.plain i ro.there meet

    at : (g : ℕ) → G r ≡ g → IsRingAt T G g o r
    at g h = record { ring = ro.ring; there = ro.there; mine = ro.mine; face = h }

    by_place : Place T F G f a b e p r → ⊥
    by_place (in_a h k g) =
        both_ways (o e) off
        (sym (linked_rings T G a p o t r drawn labels once_a (record { ring = d.first; there = i; mine = m; face = first_part T F G f a b e p q drawn d t i m }) (at a g) link e d.there) ∙ d.first_on)
    by_place (in_b h k g) =
        both_ways (o (back e)) off_back
        (sym (linked_rings T G b q o (back e) r drawn labels once_b
        (record { ring = d.second; there = back_there; mine = d.second_on; face = second_part T F G f a b e p q drawn d (back e) back_there d.second_on }) (at b g)
        (linked_onward T (back e) e r (linked_turned T e (back e) (edge_linked T e d.there)) (linked_onward T e t r (ring_linked T p e t d.first.one d.there i d.first_on m) link)) (back e) back_there)
        ∙ d.second_on)
    by_place (elsewhere n g) = n ro.face

-- so the parity of the first ring above the start of r tells the part of all its steps
pub ring_in_first : (T : List Segment) (F G : Segment → ℕ) (f a b : ℕ) (e : Segment) (p q o : Segment → Bool) (r : Segment) → Drawn T → HasRingLabels T → Divides T F G f a b e p q → HasOnce T G a → HasOnce T G b →
    IsRingAt T F f o r → o e ≡ false → o (back e) ≡ false → above (those p T) r.a ≡ left (those p T) e → (s : Segment) → In s T → o s ≡ true → G s ≡ a
ring_in_first T F G f a b e p q o r drawn labels d once_a once_b ro off off_back h s i m =
    eqb-true (G s) a
    (ro.ring.one (of_face G a) (divided_rings T F G f a b e p q drawn d a) s r i ro.there m ro.mine
    ∙ eq-eqb (G r) a
    (d.part_a r ro.there ro.face (sym (beside_vertex T p r drawn d.first.ringwise (off_first_ring T F G f a b e p q o r drawn labels d once_a once_b ro off off_back)) ∙ h)))

pub ring_in_second : (T : List Segment) (F G : Segment → ℕ) (f a b : ℕ) (e : Segment) (p q o : Segment → Bool) (r : Segment) → Drawn T → HasRingLabels T → Divides T F G f a b e p q → HasOnce T G a → HasOnce T G b →
    IsRingAt T F f o r → o e ≡ false → o (back e) ≡ false → above (those p T) r.a ≡ not (left (those p T) e) → (s : Segment) → In s T → o s ≡ true → G s ≡ b
ring_in_second T F G f a b e p q o r drawn labels d once_a once_b ro off off_back h s i m =
    eqb-true (G s) b
    (ro.ring.one (of_face G b) (divided_rings T F G f a b e p q drawn d b) s r i ro.there m ro.mine
    ∙ eq-eqb (G r) b
    (d.part_b r ro.there ro.face (sym (beside_vertex T p r drawn d.first.ringwise (off_first_ring T F G f a b e p q o r drawn labels d once_a once_b ro off off_back)) ∙ h)))
