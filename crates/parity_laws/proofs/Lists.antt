-- Lists of steps joined, and the labelled steps of them.
use Rattle.std.proofs.Common.{◌≡◌, ap, ◌⊎◌, inl, inr, ⊎_elim, refl, Bool, true, false, cond, List, [], ◌∷◌, ◌++◌}
use Rattle.plane.specs.Segment.{Segment}
use Rattle.parity_laws.specs.Steps.{Each}
use Rattle.parity_laws.specs.Rings.{In, Once, those}

pub in_left : (s : Segment) (X Y : List Segment) → In s X → In s (X ++ Y)
in_left s [] Y i = absurd i
in_left s (t ∷ X) Y i = ⊎_elim (λ (e : s ≡ t). inl e) (λ (j : In s X). inr (in_left s X Y j)) i

pub in_right : (s : Segment) (X Y : List Segment) → In s Y → In s (X ++ Y)
in_right s [] Y i = i
in_right s (t ∷ X) Y i = inr (in_right s X Y i)

pub in_cases : (s : Segment) (X Y : List Segment) → In s (X ++ Y) → In s X ⊎ In s Y
in_cases s [] Y i = inr i
in_cases s (t ∷ X) Y i =
    ⊎_elim
    (λ (e : s ≡ t). inl (inl e))
    (λ (j : In s (X ++ Y)). ⊎_elim (λ (k : In s X). inl (inr k)) (λ (k : In s Y). inr k) (in_cases s X Y j))
    i

pub once_append : (X Y : List Segment) → Once X → Once Y → ((s : Segment) → In s X → In s Y → ⊥) → Once (X ++ Y)
once_append [] Y hx hy far = hy
once_append (t ∷ X) Y hx hy far = (λ i. ⊎_elim (λ (j : In t X). hx.0 j) (λ (j : In t Y). far t (inl refl) j) (in_cases t X Y i), once_append X Y hx.1 hy (λ s i j. far s (inr i) j))

pub those_append : (p : Segment → Bool) (X Y : List Segment) → those p (X ++ Y) ≡ those p X ++ those p Y
those_append p [] Y = refl
those_append p (t ∷ X) Y = by_test (p t) (those_append p X Y)
  where
    by_test : (b : Bool) → those p (X ++ Y) ≡ those p X ++ those p Y → cond b (t ∷ those p (X ++ Y)) (those p (X ++ Y)) ≡ cond b (t ∷ those p X) (those p X) ++ those p Y
    by_test true e = ap (λ z. t ∷ z) e
    by_test false e = e

pub all_those : (p : Segment → Bool) (X : List Segment) → Each (λ t. p t ≡ true) X → those p X ≡ X
all_those p [] h = refl
all_those p (t ∷ X) h = by_test (p t) h.0 (all_those p X h.1)
  where
    by_test : (b : Bool) → b ≡ true → those p X ≡ X → cond b (t ∷ those p X) (those p X) ≡ t ∷ X
    by_test true e f = ap (λ z. t ∷ z) f
    by_test false e f = cc

pub no_those : (p : Segment → Bool) (X : List Segment) → Each (λ t. p t ≡ false) X → those p X ≡ []
no_those p [] h = refl
no_those p (t ∷ X) h = by_test (p t) h.0 (no_those p X h.1)
  where
    by_test : (b : Bool) → b ≡ false → those p X ≡ [] → cond b (t ∷ those p X) (those p X) ≡ []
    by_test true e f = cc
    by_test false e f = f

pub each_append : (P : Segment → Type 0) (X Y : List Segment) → Each P X → Each P Y → Each P (X ++ Y)
each_append P [] Y h k = k
each_append P (t ∷ X) Y h k = (h.0, each_append P X Y h.1 k)
