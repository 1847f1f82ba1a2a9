-- A line that goes and had one ring on both of its sides: what is left of the ring is the old rings at the line's two ends.
use Rattle.std.proofs.Common.{◌≡◌, refl, sym, ◌∙◌, ◌⊎◌, inl, inr, ⊎_elim, Bool, true, false, not, List, ◌∷◌}
use Rattle.std.specs.Prelude.{◌||◌}
use Rattle.std.proofs.lemmas.Bool.{both_ways, or_cases, or_left, or_right, false_from_ne_true}
use Rattle.plane.specs.Segment.{Segment}
use Rattle.plane.specs.Parity.{xor}
use Rattle.plane.specs.Crossings.{back}
use Rattle.parity_laws.specs.Steps.{left}
use Rattle.parity_laws.specs.Walks.{NoHigher}
use Rattle.parity_laws.specs.Rings.{In, Next, those, Ringwise, OneRing}
use Rattle.parity_laws.proofs.Walking.{nothing_above}
use Rattle.parity_laws.proofs.Ringwise.{in_each, each_in}
use Rattle.parity_laws.proofs.Star.{those_in, in_those, those_within}
use Rattle.parity_laws.proofs.Orbits.{label_even}
use Rattle.parity_laws.proofs.Shells.{first_left, shell_law}
use Rattle.parity_laws.proofs.Splitting.{world, Top, highest}
use Rattle.parity_laws.specs.Shelling.{IsRingLabel}
use Rattle.parity_laws.specs.Coming.{both_ways_of, with_line, LineComes, Enters}
use Rattle.parity_laws.proofs.OnLine.{old_in, forth_in, back_in, last_in, old_or_way}
use Rattle.parity_laws.proofs.LineFaces.{left_on_line}
use Rattle.parity_laws.proofs.JoinedRings.{EndRing, end_ring, joined_ring, left_at_entry, joined_apart}
use Rattle.parity_laws.proofs.Labels.{rings_same}
use Rattle.parity_laws.proofs.LineShells.{ring_left}
use Rattle.parity_laws.proofs.EndsOfOneRing.{ends_on_two}
use Rattle.parity_laws.proofs.LineGone.{first_there}
use Rattle.parity_laws.proofs.LineGoneShells.{OffLine}

-- p has the line both ways; a and b are the old rings at its two ends, or empty
pub record PartsRing (T : List Segment) (first : Segment) (rest : List Segment) (last : Segment) (p a b : Segment → Bool) : Type 0 where
  pub comes : LineComes T first rest last
  pub rings : Ringwise (with_line T (first ∷ rest)) p
  pub one : OneRing (with_line T (first ∷ rest)) p
  pub forth : p first ≡ true
  pub walked : p (back first) ≡ true
  pub at_first : EndRing T (with_line T (first ∷ rest)) first a
  pub at_last : EndRing T (with_line T (first ∷ rest)) (back last) b

pub parts_ring : (T : List Segment) (first : Segment) (rest : List Segment) (last : Segment) (p : Segment → Bool) → LineComes T first rest last → IsRingLabel (with_line T (first ∷ rest)) p → p first ≡ true → p (back first) ≡ true →
    (a : Segment → Bool) × ((b : Segment → Bool) × PartsRing T first rest last p a b)
parts_ring T first rest last p c ring e f =
    let a = end_ring T first rest last first c (forth_in (first ∷ rest) first (inl refl)) in
    let b = end_ring T first rest last (back last) c (back_in (first ∷ rest) last (last_in T first rest last c)) in
    (a.0, (b.0, record { comes = c; rings = ring.ringwise; one = ring.one; forth = e; walked = f; at_first = a.1; at_last = b.1 }))

-- ---- the two rings
-- without the line p is the two of them
pub parts_cover_ring : (T : List Segment) (first : Segment) (rest : List Segment) (last : Segment) (p a b : Segment → Bool) → PartsRing T first rest last p a b → (t : Segment) → In t T → p t ≡ (a t || b t)
parts_cover_ring T first rest last p a b h t i = joined_ring T first rest last p a b h.comes h.rings h.one h.forth h.walked h.at_first h.at_last t i

-- they have no common step
pub parts_no_common : (T : List Segment) (first : Segment) (rest : List Segment) (last : Segment) (p a b : Segment → Bool) → PartsRing T first rest last p a b → (t : Segment) → In t T → a t ≡ true → b t ≡ false
parts_no_common T first rest last p a b h t i e =
    false_from_ne_true (b t) (λ f.
    ⊎_elim
    (λ (none : (s : Segment) → In s T → a s ≡ false). both_ways (a t) (none t i) e)
    (λ (c : (c : Segment) × (In c T × (Next (with_line T (first ∷ rest)) c first × (a c ≡ true)))).
    ⊎_elim
    (λ (none : (s : Segment) → In s T → b s ≡ false). both_ways (b t) (none t i) f)
    (λ (d : (d : Segment) × (In d T × (Next (with_line T (first ∷ rest)) d (back last) × (b d ≡ true)))).
    both_ways (a d.0)
    (ends_on_two T first rest last p a c.0 d.0 h.comes h.one h.forth h.walked h.at_first.one c.1.0 d.1.0 c.1.1.0 d.1.1.0 c.1.1.1)
    (rings_same T a b t h.at_first.ringwise h.at_first.one h.at_last.ringwise h.at_last.one i e f d.0 d.1.0 ∙ d.1.1.1))
    h.at_last.near)
    h.at_first.near)

-- the parity of the ring is the sum of theirs
pub parts_sum : (T : List Segment) (first : Segment) (rest : List Segment) (last : Segment) (p a b : Segment → Bool) → PartsRing T first rest last p a b → (s : Segment) →
    left (those p (with_line T (first ∷ rest))) s ≡ xor (left (those a T) s) (left (those b T) s)
parts_sum T first rest last p a b h s =
    joined_apart T first rest last p a b h.comes h.rings h.forth h.walked (parts_cover_ring T first rest last p a b h) (parts_no_common T first rest last p a b h) s

-- the own parity of such a ring is that along the line
pub end_ring_left : (T : List Segment) (first : Segment) (rest : List Segment) (last : Segment) (e : Segment) (R : Segment → Bool) → LineComes T first rest last → EndRing T (with_line T (first ∷ rest)) e R →
    ((d : Segment) → Next (with_line T (first ∷ rest)) d e → Enters (with_line T (first ∷ rest)) first last d) → (s : Segment) → In s T → R s ≡ true → left (those R T) s ≡ left (those R T) first
end_ring_left T first rest last e R c r enters s i m =
    ⊎_elim
    (λ (none : (t : Segment) → In t T → R t ≡ false). absurd (both_ways (R s) (none s i) m))
    (λ (d : (d : Segment) × (In d T × (Next (with_line T (first ∷ rest)) d e × (R d ≡ true)))).
    ring_left T R c.old r.ringwise r.one s d.0 i d.1.0 m d.1.1.1
    ∙ sym (left_at_entry T first rest last (those R T) d.0 c (label_even T c.old.plain c.old.once R r.ringwise) (those_within R T) d.1.0 (enters d.0 d.1.1.0)))
    r.near

pub first_part_left : (T : List Segment) (first : Segment) (rest : List Segment) (last : Segment) (p a b : Segment → Bool) → PartsRing T first rest last p a b → (s : Segment) → In s T → a s ≡ true → left (those a T) s ≡ left (those a T) first
first_part_left T first rest last p a b h s i m = end_ring_left T first rest last first a h.comes h.at_first (λ d next. inl next) s i m

pub last_part_left : (T : List Segment) (first : Segment) (rest : List Segment) (last : Segment) (p a b : Segment → Bool) → PartsRing T first rest last p a b → (s : Segment) → In s T → b s ≡ true → left (those b T) s ≡ left (those b T) first
last_part_left T first rest last p a b h s i m = end_ring_left T first rest last (back last) b h.comes h.at_last (λ d next. inr next) s i m

-- an old ring is one of the two, or doesn't enter the line
pub is_part_or_off : (T : List Segment) (first : Segment) (rest : List Segment) (last : Segment) (p a b u : Segment → Bool) → PartsRing T first rest last p a b → (ring : IsRingLabel T u) →
    (a ring.step ≡ true) ⊎ ((b ring.step ≡ true) ⊎ OffLine T first rest last u)
is_part_or_off T first rest last p a b u h ring = by_values (a ring.step) (b ring.step) refl refl
  where
    by_values : (x y : Bool) → a ring.step ≡ x → b ring.step ≡ y → (a ring.step ≡ true) ⊎ ((b ring.step ≡ true) ⊎ OffLine T first rest last u)
    by_values true y e f = inl e
    by_values false true e f = inr (inl f)
    by_values false false e f = inr (inr (λ d i m enters.
        ⊎_elim
        (λ (next : Next (with_line T (first ∷ rest)) d first). both_ways (a d) (ring.one a h.at_first.ringwise d ring.step i ring.there m ring.mine ∙ e) (h.at_first.has d i next))
        (λ (next : Next (with_line T (first ∷ rest)) d (back last)). both_ways (b d) (ring.one b h.at_last.ringwise d ring.step i ring.there m ring.mine ∙ f) (h.at_last.has d i next))
        enters))

-- ---- of a hole both parts are holes
pub parts_of_hole : (T : List Segment) (first : Segment) (rest : List Segment) (last : Segment) (p a b : Segment → Bool) → PartsRing T first rest last p a b → left (those p (with_line T (first ∷ rest))) first ≡ false →
    (left (those a T) first ≡ false) × (left (those b T) first ≡ false)
parts_of_hole T first rest last p a b h hole = by_top (highest (with_line T (first ∷ rest)) p first h.comes.new h.rings (first_there T first rest) h.forth)
  where
    sums : xor (left (those a T) first) (left (those b T) first) ≡ false
    sums = sym (parts_sum T first rest last p a b h first) ∙ hole

    both : (left (those a T) first ≡ false) ⊎ (left (those b T) first ≡ false) → (left (those a T) first ≡ false) × (left (those b T) first ≡ false)
    both k = by_values (left (those a T) first) (left (those b T) first) sums k
      where
        by_values : (x y : Bool) → xor x y ≡ false → (x ≡ false) ⊎ (y ≡ false) → (x ≡ false) × (y ≡ false)
        by_values false false e f = (refl, refl)
        by_values false true e f = absurd (both_ways true e refl)
        by_values true false e f = absurd (both_ways true e refl)
        by_values true true e f = ⊎_elim (λ (z : true ≡ false). absurd (both_ways true z refl)) (λ (z : true ≡ false). absurd (both_ways true z refl)) f

    by_top : Top (with_line T (first ∷ rest)) p → (left (those a T) first ≡ false) × (left (those b T) first ≡ false)
    by_top t = both (⊎_elim on_old on_line (old_or_way T (first ∷ rest) t.n t.first.there))
      where
        -- nothing of a part is above the top, and nothing comes before its first step
        none : (R : Segment → Bool) → ((s : Segment) → In s T → R s ≡ true → p s ≡ true) → left (those R T) t.n ≡ false
        none R part =
            first_left (with_line T (first ∷ rest)) (those R T) t.n h.comes.new.plain (λ s i. old_in T (first ∷ rest) s (those_within R T s i)) t.first
            ∙ nothing_above (those R T) t.n.a (in_each (NoHigher t.n.a) (those R T) (λ s i.
            let m = those_in R T s i in
            each_in (NoHigher t.n.a) (those p (with_line T (first ∷ rest))) t.top s (in_those p (with_line T (first ∷ rest)) s (old_in T (first ∷ rest) s m.0) (part s m.0 m.1))))

        none_a : left (those a T) t.n ≡ false
        none_a = none a (λ s i e. parts_cover_ring T first rest last p a b h s i ∙ or_left (a s) (b s) e)

        none_b : left (those b T) t.n ≡ false
        none_b = none b (λ s i e. parts_cover_ring T first rest last p a b h s i ∙ or_right (a s) (b s) e)

        -- the ring is a hole, so it has this step
        mine : p t.n ≡ true
        mine =
            has_it (p t.n) (sym (ring_left (with_line T (first ∷ rest)) p h.comes.new h.rings h.one t.r first t.there (first_there T first rest) t.mine h.forth ∙ hole)
            ∙ shell_law (with_line T (first ∷ rest)) p (world (with_line T (first ∷ rest)) p h.comes.new h.rings) t.n t.r t.first t.there t.start t.mine t.top)
          where
            has_it : (x : Bool) → false ≡ not x → x ≡ true
            has_it true e = refl
            has_it false e = e

        on_old : In t.n T → (left (those a T) first ≡ false) ⊎ (left (those b T) first ≡ false)
        on_old i =
            ⊎_elim
            (λ (e : a t.n ≡ true). inl (sym (first_part_left T first rest last p a b h t.n i e) ∙ none_a))
            (λ (e : b t.n ≡ true). inr (sym (last_part_left T first rest last p a b h t.n i e) ∙ none_b))
            (or_cases (a t.n) (b t.n) (sym (parts_cover_ring T first rest last p a b h t.n i) ∙ mine))

        on_line : In t.n (both_ways_of (first ∷ rest)) → (left (those a T) first ≡ false) ⊎ (left (those b T) first ≡ false)
        on_line i = inl (sym (left_on_line T first rest last (those a T) h.comes (label_even T h.comes.old.plain h.comes.old.once a h.at_first.ringwise) (those_within a T) t.n i) ∙ none_a)
