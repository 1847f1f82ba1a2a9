-- The parity of face 0 is the other way round, where each other face has itself, and no other step, on its left.
use Rattle.std.proofs.Common.{◌≡◌, ◌≢◌, refl, sym, ◌∙◌, ap, ℕ, ◌<ℤ◌, ◌⊎◌, inl, inr, ⊎_elim, Bool, true, false, not, List}
use lib.Dec.{eqb}
use Rattle.std.proofs.lemmas.Bool.{both_ways, eqb-true, eqb-false, eq-eqb}
use Rattle.plane.specs.Segment.{Segment}
use Rattle.plane.specs.Parity.{xor}
use Rattle.parity_laws.specs.Steps.{Even, above, left}
use Rattle.parity_laws.specs.Rings.{In, Within, those, First, Drawn, Ringwise, Sided, of_face}
use Rattle.parity_laws.proofs.Star.{those_within}
use Rattle.parity_laws.proofs.Shells.{World, inside_out, io_star, first_left}
use Rattle.parity_laws.proofs.Climbing.{nowhere}
use Rattle.parity_laws.proofs.Splitting.{world}
use Rattle.parity_laws.proofs.Tests.{bool_same}
use Rattle.parity_laws.proofs.Seeing.{view}

pub outer_side : (T : List Segment) (F : Segment → ℕ) → Drawn T → ((g : ℕ) → Ringwise T (of_face F g)) → ((g : ℕ) → g ≢ 0 → Sided T (of_face F g)) →
    (s : Segment) → In s T → left (those (of_face F 0) T) s ≡ not (of_face F 0 s)
outer_side T F drawn faces sided s i =
    last (left (those (of_face F 0) T) s) (of_face F 0 s) (nowhere T (λ t. not (inside_out T (of_face F 0) t)) (λ n t f j e. ap not (io_star T (of_face F 0) (w 0) n t f j e)) climb s i)
  where
    last : (l k : Bool) → not (xor l k) ≡ false → l ≡ not k
    last true true e = cc
    last true false e = refl
    last false true e = refl
    last false false e = cc

    w : (g : ℕ) → World T (of_face F g)
    w g = world T (of_face F g) drawn (faces g)

    mine : (t : Segment) → In t T → F t ≢ 0 → left (those (of_face F (F t)) T) t ≡ true
    mine t j h = sided (F t) h t j ∙ eq-eqb (F t) (F t) refl

    by_zero : (t : Segment) → (F t ≢ 0 → ⊥) → of_face F 0 t ≡ true
    by_zero t h = by_test (eqb (F t) 0) refl
      where
        by_test : (b : Bool) → eqb (F t) 0 ≡ b → b ≡ true
        by_test true e = refl
        by_test false e = absurd (h (eqb-false (F t) 0 e))

    start : (n : Segment) → First T n → (g : ℕ) → left (those (of_face F g) T) n ≡ above (those (of_face F g) T) n.a
    start n f g = first_left T (those (of_face F g) T) n drawn.plain (those_within (of_face F g) T) f

    nothing : (n : Segment) → First T n → ((U : List Segment) → Even U → Within U T → above U n.a ≡ false) → not (inside_out T (of_face F 0) n) ≡ false
    nothing n f h =
        all (left (those (of_face F 0) T) n) (of_face F 0 n) (none 0)
        (by_zero n (λ k. both_ways (left (those (of_face F (F n)) T) n) (none (F n)) (mine n f.there k)))
      where
        none : (g : ℕ) → left (those (of_face F g) T) n ≡ false
        none g = start n f g ∙ h (those (of_face F g) T) (w g).rings.even (those_within (of_face F g) T)

        all : (l k : Bool) → l ≡ false → k ≡ true → not (xor l k) ≡ false
        all l k e f = rw (e, f)

    passed_on : (n d : Segment) → First T n → In d T → ((U : List Segment) → Even U → Within U T → left U d ≡ above U n.a) → not (inside_out T (of_face F 0) d) ≡ not (inside_out T (of_face F 0) n)
    passed_on n d f j h = cc (one_side 0, outer)
      where
        one_side : (g : ℕ) → left (those (of_face F g) T) d ≡ left (those (of_face F g) T) n
        one_side g = h (those (of_face F g) T) (w g).rings.even (those_within (of_face F g) T) ∙ sym (start n f g)

        outer : of_face F 0 d ≡ of_face F 0 n
        outer =
            bool_same (of_face F 0 d) (of_face F 0 n)
            (λ e. by_zero n (λ k. k (sym (eqb-true (F d) (F n) (sym (sided (F n) k d j) ∙ one_side (F n) ∙ mine n f.there k)) ∙ eqb-true (F d) 0 e)))
            (λ e. by_zero d (λ k. k (sym (eqb-true (F n) (F d) (sym (sided (F d) k n f.there) ∙ sym (one_side (F d)) ∙ mine d j k)) ∙ eqb-true (F n) 0 e)))

    climb : (n : Segment) → First T n →
        (not (inside_out T (of_face F 0) n) ≡ false) ⊎ ((d : Segment) × (In d T × (n.a.y <ℤ d.a.y) × (not (inside_out T (of_face F 0) d) ≡ not (inside_out T (of_face F 0) n))))
    climb n f =
        ⊎_elim
        (λ (h : (U : List Segment) → Even U → Within U T → above U n.a ≡ false). inl (nothing n f h))
        (λ (h : (d : Segment) × (In d T × (n.a.y <ℤ d.a.y) × ((U : List Segment) → Even U → Within U T → left U d ≡ above U n.a))).
        inr (h.0, (h.1.0, h.1.1, passed_on n h.0 f h.1.0 h.1.2)))
        (view T drawn n f)
