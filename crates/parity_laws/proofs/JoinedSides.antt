-- The rings on the two sides of a line that goes between two faces: they become one ring, and it is not two holes that are joined.
use Rattle.std.proofs.Common.{◌≡◌, refl, sym, ◌∙◌, ℕ, ◌⊎◌, inl, inr, ⊎_elim, Bool, true, false, not, List, ◌∷◌, eq-eqb}
use Rattle.std.proofs.lemmas.Bool.{both_ways, eqb-true}
use Rattle.plane.specs.Segment.{Segment}
use Rattle.plane.specs.Parity.{xor}
use Rattle.plane.specs.Crossings.{back}
use Rattle.parity_laws.specs.Steps.{left}
use Rattle.parity_laws.specs.Rings.{In, Next, those, of_face}
use Rattle.parity_laws.proofs.Star.{those_within}
use Rattle.parity_laws.proofs.Following.{follows}
use Rattle.parity_laws.proofs.Orbits.{label_even}
use Rattle.parity_laws.proofs.Neighbours.{no_two_holes}
use Rattle.parity_laws.specs.Shelling.{IsRingLabel}
use Rattle.parity_laws.specs.Coming.{both_ways_of, with_line, LineComes, Enters}
use Rattle.parity_laws.proofs.RingAt.{rings_there}
use Rattle.parity_laws.proofs.OnLine.{old_in, way_in, forth_in, back_in, last_in, line_label}
use Rattle.parity_laws.proofs.JoinedRings.{left_at_entry}
use Rattle.parity_laws.proofs.Labels.{rings_same}
use Rattle.parity_laws.proofs.LineShells.{ring_face, ring_left}
use Rattle.parity_laws.proofs.CutRings.{LineRing, line_ring, Cut, parts_apart, parts_left}
use Rattle.parity_laws.proofs.LineGone.{first_there, back_there}
use Rattle.parity_laws.proofs.JoinedFaces.{TwoFaces}

-- ---- the two rings
-- a ring on one side of the line and a ring on the other side are two
pub two_rings : (T : List Segment) (first : Segment) (rest : List Segment) (last : Segment) (F' F : Segment → ℕ) (l r k : ℕ) (p q : Segment → Bool) → TwoFaces T first rest last F' F l r k →
    IsRingLabel (with_line T (first ∷ rest)) p → IsRingLabel (with_line T (first ∷ rest)) q → p first ≡ true → q (back first) ≡ true → Cut T first rest last p q
two_rings T first rest last F' F l r k p q h ring ring' e f = record {
  p_rings = ring.ringwise;
  p_one = ring.one;
  q_rings = ring'.ringwise;
  q_one = ring'.one;
  forth = e;
  not_walked = by_value (p (back first)) refl;
  walked = f;
}
  where
    by_value : (x : Bool) → p (back first) ≡ x → x ≡ false
    by_value false g = refl
    by_value true g =
        absurd (h.differ (sym h.forth ∙
        ring_face (with_line T (first ∷ rest)) F' p h.rings ring.one first (back first) (first_there T first rest) (back_there T first rest) e g
        ∙ h.walked))

-- the two rings, and the ring R of T that they become
pub record JoinsRings (T : List Segment) (first : Segment) (rest : List Segment) (last : Segment) (F' F : Segment → ℕ) (l r k : ℕ) (p q R : Segment → Bool) : Type 0 where
  pub faces : TwoFaces T first rest last F' F l r k
  pub cut : Cut T first rest last p q
  pub ring : LineRing T (with_line T (first ∷ rest)) first last R

pub joins_rings : (T : List Segment) (first : Segment) (rest : List Segment) (last : Segment) (F' F : Segment → ℕ) (l r k : ℕ) → TwoFaces T first rest last F' F l r k →
    (p : Segment → Bool) × ((q : Segment → Bool) × ((R : Segment → Bool) × JoinsRings T first rest last F' F l r k p q R))
joins_rings T first rest last F' F l r k h = by_rings (there first (forth_in (first ∷ rest) first (inl refl))) (there (back first) (back_in (first ∷ rest) first (inl refl)))
  where
    there : (s : Segment) → In s (both_ways_of (first ∷ rest)) → (p : Segment → Bool) × (IsRingLabel (with_line T (first ∷ rest)) p × (p s ≡ true))
    there s i = rings_there (with_line T (first ∷ rest)) h.comes.new s (way_in T (first ∷ rest) s i)

    by_rings : (p : Segment → Bool) × (IsRingLabel (with_line T (first ∷ rest)) p × (p first ≡ true)) → (q : Segment → Bool) × (IsRingLabel (with_line T (first ∷ rest)) q × (q (back first) ≡ true)) →
        (p : Segment → Bool) × ((q : Segment → Bool) × ((R : Segment → Bool) × JoinsRings T first rest last F' F l r k p q R))
    by_rings p q =
        let cut = two_rings T first rest last F' F l r k p.0 q.0 h p.1.0 q.1.0 p.1.1 q.1.1 in
        let ring = line_ring T first rest last p.0 h.comes cut.p_rings cut.forth cut.not_walked in
        (p.0, (q.0, (ring.0, record { faces = h; cut = cut; ring = ring.1 })))

-- ---- the ring that they become
-- its own parity is one on all of it: that along the line
pub line_ring_left : (T : List Segment) (first : Segment) (rest : List Segment) (last : Segment) (R : Segment → Bool) → LineComes T first rest last → LineRing T (with_line T (first ∷ rest)) first last R →
    (s : Segment) → In s T → R s ≡ true → left (those R T) s ≡ left (those R T) first
line_ring_left T first rest last R c ring s i e =
    ⊎_elim
    (λ (none : (t : Segment) → In t T → R t ≡ false). absurd (both_ways (R s) (none s i) e))
    (λ (d : (d : Segment) × (In d T × (Enters (with_line T (first ∷ rest)) first last d × (R d ≡ true)))).
    ring_left T R c.old ring.ringwise ring.one s d.0 i d.1.0 e d.1.1.1
    ∙ sym (left_at_entry T first rest last (those R T) d.0 c (label_even T c.old.plain c.old.once R ring.ringwise) (those_within R T) d.1.0 d.1.1.0))
    ring.near

-- it is the sum of the parities of the two rings, changed
pub joined_left : (T : List Segment) (first : Segment) (rest : List Segment) (last : Segment) (p q R : Segment → Bool) → LineComes T first rest last → Cut T first rest last p q → LineRing T (with_line T (first ∷ rest)) first last R →
    left (those R T) first ≡ not (xor (left (those p (with_line T (first ∷ rest))) first) (left (those q (with_line T (first ∷ rest))) (back first)))
joined_left T first rest last p q R c cut ring = turned_round _ _ (parts_left T first rest last p q R c cut ring)
  where
    turned_round : (x y : Bool) → x ≡ not y → y ≡ not x
    turned_round true true e = cc
    turned_round true false e = refl
    turned_round false true e = refl
    turned_round false false e = cc

-- an old ring is this one, or doesn't enter the line
pub is_or_off : (T : List Segment) (first : Segment) (rest : List Segment) (last : Segment) (R u : Segment → Bool) → LineRing T (with_line T (first ∷ rest)) first last R → IsRingLabel T u →
    ((t : Segment) → In t T → u t ≡ R t) ⊎ ((d : Segment) → In d T → u d ≡ true → Enters (with_line T (first ∷ rest)) first last d → ⊥)
is_or_off T first rest last R u ring h = by_value (R h.step) refl
  where
    by_value : (x : Bool) → R h.step ≡ x → ((t : Segment) → In t T → u t ≡ R t) ⊎ ((d : Segment) → In d T → u d ≡ true → Enters (with_line T (first ∷ rest)) first last d → ⊥)
    by_value true e = inl (rings_same T u R h.step h.ringwise h.one ring.ringwise ring.one h.there h.mine e)
    by_value false e = inr (λ d i f enters. both_ways (R d) (h.one R ring.ringwise d h.step i h.there f h.mine ∙ e) (ring.has d i enters))

-- ---- not both are holes
pub not_two_holes : (T : List Segment) (first : Segment) (rest : List Segment) (last : Segment) (p q : Segment → Bool) → LineComes T first rest last → Cut T first rest last p q →
    left (those p (with_line T (first ∷ rest))) first ≡ false → left (those q (with_line T (first ∷ rest))) (back first) ≡ false → ⊥
not_two_holes T first rest last p q c cut e f = by_next (follows (with_line T (first ∷ rest)) c.new.plain (back first) (back_there T first rest))
  where
    by_next : (n : Segment) × (In n (with_line T (first ∷ rest)) × Next (with_line T (first ∷ rest)) (back first) n) → ⊥
    by_next n =
        let qn : q n.0 ≡ true = sym (cut.q_rings (back first) n.0 (back_there T first rest) n.1.0 n.1.1) ∙ cut.walked in
        no_two_holes (with_line T (first ∷ rest)) p q first n.0 c.new cut.p_rings cut.q_rings cut.p_one cut.q_one (parts_apart T first rest last p q cut) (first_there T first rest) n.1.0 cut.forth qn (sym n.1.1.meets)
        e (ring_left (with_line T (first ∷ rest)) q c.new cut.q_rings cut.q_one n.0 (back first) n.1.0 (back_there T first rest) qn cut.walked ∙ f)

-- ---- the faces where the line is entered
pub entry_of_two : (T : List Segment) (first : Segment) (rest : List Segment) (last : Segment) (F' F : Segment → ℕ) (l r k : ℕ) → TwoFaces T first rest last F' F l r k → (d : Segment) → In d T →
    Enters (with_line T (first ∷ rest)) first last d → F d ≡ k
entry_of_two T first rest last F' F l r k h d i enters =
    (h.numbers d i).joined (⊎_elim
    (λ (next : Next (with_line T (first ∷ rest)) d first). inl (same d first (old_in T (first ∷ rest) d i) (first_there T first rest) next ∙ h.forth))
    (λ (next : Next (with_line T (first ∷ rest)) d (back last)). inr (same d (back last) (old_in T (first ∷ rest) d i) last_there next ∙ at_last ∙ h.walked))
    enters)
  where
    line_last : In last (first ∷ rest)
    line_last = last_in T first rest last h.comes

    last_there : In (back last) (with_line T (first ∷ rest))
    last_there = way_in T (first ∷ rest) (back last) (back_in (first ∷ rest) last line_last)

    same : (c n : Segment) → In c (with_line T (first ∷ rest)) → In n (with_line T (first ∷ rest)) → Next (with_line T (first ∷ rest)) c n → F' c ≡ F' n
    same c n j m next = eqb-true (F' c) (F' n) (h.rings (F' n) c n j m next ∙ eq-eqb (F' n) (F' n) refl)

    at_last : F' (back last) ≡ F' (back first)
    at_last = eqb-true (F' (back last)) (F' (back first)) ((line_label T first rest last (of_face F' (F' (back first))) h.comes (h.rings (F' (back first))) last line_last).1 ∙ eq-eqb (F' (back first)) (F' (back first)) refl)
