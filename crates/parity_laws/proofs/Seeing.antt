-- From each vertex straight up: nothing, or a step that begins higher and has on its left what the vertex has above it.
use Rattle.std.proofs.Common.{◌≡◌, sym, ◌∙◌, ap, subst, arith, ℤ, pos, ◌-ℤ◌, ◌*ℤ◌, ◌<ℤ◌, ◌≤ℤ◌, ◌⊎◌, inl, inr, ⊎_elim, Bool, false, not, ◌&&◌, List, map}
use Rattle.std.specs.Prelude.{int_lt}
use Rattle.std.proofs.lemmas.Bool.{both_ways}
use Rattle.plane.proofs.Ring.{signed}
use Rattle.plane.proofs.Signs.{order, mul_not_negative}
use Rattle.plane.proofs.Collinear.{area_start}
use Rattle.topo_base.specs.Point.{Point}
use Rattle.plane.specs.Segment.{Segment}
use Rattle.plane.specs.Orientation.{area}
use Rattle.plane.specs.Crossings.{over, back, crosses, larger_segment}
use Rattle.plane.specs.Parity.{xor}
use Rattle.parity_laws.specs.Steps.{Even, above, times, left}
use Rattle.parity_laws.specs.Rings.{In, Plain, Within, those, View, Drawn, Ringwise, Sided}
use Rattle.parity_laws.proofs.Sums.{odd_none, summing}
use Rattle.parity_laws.proofs.Walking.{under}
use Rattle.parity_laws.proofs.Ringwise.{in_each, side_next, side_back}
use Rattle.parity_laws.proofs.Viewing.{width, area_drop, Over, Lowest, lowest, down, vertex_above, wedge_at}
use Rattle.parity_laws.proofs.Footing.{Foot, foot, wide, foot_above}
use Rattle.parity_laws.proofs.Footway.{left_foot}
use Rattle.parity_laws.proofs.Splitting.{has_next, split_first, split_outer}
use Rattle.plane.proofs.Tests.{lt_yes, lt_no}

pub nothing_over : (T : List Segment) (v : Point) → Plain T → ((t : Segment) → In t T → over t v ≡ false) → (X : List Segment) → Within X T → above X v ≡ false
nothing_over T v plain h X w = odd_none (λ t. crosses t v) X (in_each (λ t. crosses t v ≡ false) X (λ t i. cc (h t (w t i), h (back t) (plain.both t (w t i)))))

-- one end of a step over v is higher than v
higher_end : (d : Segment) (v : Point) → Over d v → (v.y <ℤ d.b.y) ⊎ (v.y <ℤ d.a.y)
higher_end d v h =
    ⊎_elim
    (λ (b : v.y <ℤ d.b.y). inl b)
    (λ (b : d.b.y ≤ℤ v.y).
    ⊎_elim
    (λ (a : v.y <ℤ d.a.y). inr a)
    (λ (a : d.a.y ≤ℤ v.y). absurd (both_ways (int_lt (area d.a d.b v) (pos 0)) (under d v (a, b) (lt_no v.x d.a.x h.from) (lt_yes v.x d.b.x h.to)) (lt_yes (area d.a d.b v) (pos 0) h.under)))
    (order v.y d.a.y))
    (order v.y d.b.y)

higher_start : (d : Segment) (v : Point) → Over d v → d.a.x ≡ v.x → v.y <ℤ d.a.y
higher_start d v h e =
    let k = wide d v h in
    let f = area_drop d v d.a (sym e) in
    let z = area_start d.a d.b in
    let u = h.under in
    ⊎_elim
    (λ (a : v.y <ℤ d.a.y). a)
    (λ (a : d.a.y ≤ℤ v.y). let m = mul_not_negative (width d) (v.y -ℤ d.a.y) (omega (arith, signed)) (omega (arith, signed)) in absurd (by_parts (area d.a d.b v) (area d.a d.b d.a) (width d *ℤ (v.y -ℤ d.a.y)) f z u m))
    (order v.y d.a.y)
  where
    by_parts : (a b m : ℤ) → a -ℤ b ≡ m → b ≡ pos 0 → a <ℤ pos 0 → pos 0 ≤ℤ m → ⊥
    by_parts a b m e f g h = omega (arith, signed)

-- left of the lowest step, walked leftward, is what v has above it
pub foot_left : (T X : List Segment) (v : Point) (d : Segment) → Foot T v d → Even X → Within X T → left X (back d) ≡ above X v
foot_left T X v d f even w =
    last (left X d) (left X (back d)) (times X d) (above (map (larger_segment (width d)) X) (foot v d)) (above X v)
    (left_foot T X v d f even w) (side_back T X d f.plain even w f.low.there) (foot_above T X v d f w)
  where
    last : (l b t m a : Bool) → l ≡ m → l ≡ xor b t → a ≡ xor m t → b ≡ a
    last l b t m a e f g = sums b t ∙ sym (g ∙ ap (λ z. xor z t) (sym e ∙ f))
      where
        sums : (b t : Bool) → b ≡ xor (xor b t) t
        sums b t = simp summing

pub view : (T : List Segment) → Drawn T → View T
view T drawn n first =
    ⊎_elim
    (λ (h : (t : Segment) → In t T → over t n.a ≡ false). inl (λ X even w. nothing_over T n.a drawn.plain h X w))
    (λ (l : (d : Segment) × Lowest T n.a d). inr (some l.0 l.1))
    (lowest T n.a)
  where
    some : (d : Segment) → Lowest T n.a d → (e : Segment) × (In e T × (n.a.y <ℤ e.a.y) × ((X : List Segment) → Even X → Within X T → left X e ≡ above X n.a))
    some d low =
        ⊎_elim
        (λ (h : d.a.x <ℤ n.a.x). inside (record { plain = drawn.plain; low = low; inner = h }))
        (λ (h : n.a.x ≤ℤ d.a.x).
        let g = low.isover.from in
        let e : d.a.x ≡ n.a.x = omega (arith, signed) in
        let k = wedge_at T d down drawn low.there in
        (k.n, (k.there, subst (λ p. n.a.y <ℤ p.y) (sym k.start) (higher_start d n.a low.isover e), λ X even w. k.sees X even w ∙ sym (vertex_above T X n.a d drawn.plain w low e))))
        (order d.a.x n.a.x)
      where
        inside : Foot T n.a d → (e : Segment) × (In e T × (n.a.y <ℤ e.a.y) × ((X : List Segment) → Even X → Within X T → left X e ≡ above X n.a))
        inside f =
            let b = drawn.plain.both d low.there in
            ⊎_elim
            (λ (h : n.a.y <ℤ d.b.y). (back d, (b, h, λ X even w. foot_left T X n.a d f even w)))
            (λ (h : n.a.y <ℤ d.a.y).
            let m = has_next T (back d) drawn b in
            (m.0, (m.1.0, subst (λ p. n.a.y <ℤ p.y) (sym m.1.1.meets) h, λ X even w. sym (side_next T X (back d) m.0 drawn.plain even w b m.1.1) ∙ foot_left T X n.a d f even w)))
            (higher_end d n.a low.isover)

-- a face that a ring divides: both parts have themselves, and no other step, on their left
pub face_divided : (T : List Segment) (face ring : Segment → Bool) (c : Bool) → Drawn T → Ringwise T face → Ringwise T ring → Sided T face →
    Sided T (λ s. face s && not (xor (left (those ring T) s) c))
face_divided T face ring c drawn hf hr sided = split_first T face ring c drawn (view T drawn) hf hr sided

-- the same in the outer face, for the part where the ring's parity is 1
pub outer_divided : (T : List Segment) (face ring : Segment → Bool) → Drawn T → Ringwise T face → Ringwise T ring →
    ((s : Segment) → In s T → left (those face T) s ≡ not (face s)) → Sided T (λ s. face s && left (those ring T) s)
outer_divided T face ring drawn hf hr outer = split_outer T face ring drawn (view T drawn) hf hr outer
