-- Left of a ring the parity of an even list of steps is one constant.
use Rattle.std.proofs.Common.{◌≡◌, refl, sym, ◌∙◌, subst, inl, inr, ⊎_elim, List, [], ◌∷◌}
use Rattle.plane.specs.Segment.{Segment}
use Rattle.plane.specs.Parity.{xor}
use Rattle.plane.specs.Crossings.{back}
use Rattle.parity_laws.specs.Steps.{Each, Even, direction, left, times}
use Rattle.parity_laws.specs.Ways.{Tied, Outside}
use Rattle.parity_laws.specs.Walks.{Chained}
use Rattle.parity_laws.specs.Rings.{In, Next, Turns, IsRing, Plain, Within}
use Rattle.parity_laws.proofs.Corner.{across, next_left}
use Rattle.parity_laws.proofs.Walking.{ring_even}

pub each_in : (P : Segment → Type 0) (T : List Segment) → Each P T → (s : Segment) → In s T → P s
each_in P [] h s i = absurd i
each_in P (t ∷ T) h s i = ⊎_elim (λ (e : s ≡ t). subst P (sym e) h.0) (λ (j : In s T). each_in P T h.1 s j) i

pub in_each : (P : Segment → Type 0) (T : List Segment) → ((s : Segment) → In s T → P s) → Each P T
in_each P [] f = tt
in_each P (t ∷ T) f = (f t (inl refl), in_each P T (λ s i. f s (inr i)))

pub each_within : (P : Segment → Type 0) (X T : List Segment) → Within X T → Each P T → Each P X
each_within P X T w h = in_each P X (λ s i. each_in P T h s (w s i))

-- the two laws of a side
pub side_next : (T X : List Segment) (d n : Segment) → Plain T → Even X → Within X T → In d T → Next T d n → left X d ≡ left X n
side_next T X d n plain even w i next =
    next_left d n X even (each_within (Tied d) X T w (plain.tied d i)) (plain.proper d i) next.meets (each_within (Outside d (direction n)) X T w next.first)

pub side_back : (T X : List Segment) (d : Segment) → Plain T → Even X → Within X T → In d T → left X d ≡ xor (left X (back d)) (times X d)
side_back T X d plain even w i = across d X even (each_within (Tied d) X T w (plain.tied d i)) (plain.proper d i)

pub turns_side : (T X : List Segment) (d : Segment) (R : List Segment) (z : Segment) → Plain T → Even X → Within X T → In d T → Within R T → Turns T d R z →
    Each (λ t. left X t ≡ left X d) R
turns_side T X d [] z plain even w i k turns = tt
turns_side T X d (n ∷ R) z plain even w i k turns =
    let e = side_next T X d n plain even w i turns.0 in
    let f = turns_side T X n R z plain even w (k n (inl refl)) (λ s j. k s (inr j)) turns.1 in
    (sym e, along R f e)
  where
    along : (Y : List Segment) → Each (λ t. left X t ≡ left X n) Y → left X d ≡ left X n → Each (λ t. left X t ≡ left X d) Y
    along [] h e = tt
    along (t ∷ Y) h e = (h.0 ∙ sym e, along Y h.1 e)

-- the constant of the ring
pub ring_side : (T X : List Segment) (d : Segment) (R : List Segment) → Plain T → Even X → Within X T → Within (d ∷ R) T → IsRing T (d ∷ R) →
    Each (λ t. left X t ≡ left X d) (d ∷ R)
ring_side T X d R plain even w k ring = (refl, turns_side T X d R d plain even w (k d (inl refl)) (λ s j. k s (inr j)) ring)

turns_chained : (T : List Segment) (d : Segment) (R : List Segment) (z : Segment) → Turns T d R z → Chained d.b R z.a
turns_chained T d [] z h = sym h.meets
turns_chained T d (n ∷ R) z h = (h.0.meets, turns_chained T n R z h.1)

pub rings_are_even : (T R : List Segment) → IsRing T R → Even R
rings_are_even T [] h = absurd h
rings_are_even T (d ∷ R) h = ring_even d.a (d ∷ R) (refl, turns_chained T d R d h)
