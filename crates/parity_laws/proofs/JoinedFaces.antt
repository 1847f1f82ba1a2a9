-- Two faces that a line parts become one where it goes.
use Rattle.std.proofs.Common.{◌≡◌, ◌≢◌, refl, sym, ◌∙◌, ap, ℕ, ◌⊎◌, inl, inr, ⊎_elim, Bool, true, false, List, ◌∷◌, eqb, eq-eqb}
use Rattle.std.proofs.lemmas.Bool.{both_ways, eqb-true, ne_eqb}
use Rattle.topo_base.specs.Point.{Point}
use Rattle.plane.specs.Segment.{Segment}
use Rattle.plane.specs.Parity.{xor}
use Rattle.plane.specs.Crossings.{back, crosses}
use Rattle.parity_laws.specs.Steps.{above, left}
use Rattle.parity_laws.specs.Rings.{In, those, Ringwise, Sided, of_face}
use Rattle.parity_laws.proofs.Lists.{no_those}
use Rattle.parity_laws.proofs.Ringwise.{in_each}
use Rattle.parity_laws.proofs.Star.{those_within}
use Rattle.parity_laws.proofs.Orbits.{label_even}
use Rattle.parity_laws.proofs.Splitting.{join_faces, those_both}
use Rattle.parity_laws.proofs.Labels.{those_same, ringwise_same, sided_same}
use Rattle.parity_laws.specs.Coming.{with_line, LineComes}
use Rattle.parity_laws.proofs.LineCorners.{old_ringwise}
use Rattle.parity_laws.proofs.JoinedRings.{left_empty}
use Rattle.parity_laws.proofs.LineGone.{first_there, left_without_line, sided_without_line, above_without_line, IsEndOf, above_end}

-- m' is the number that m becomes where the faces l and r become k
pub record JoinedNumber (l r k m m' : ℕ) : Type 0 where
  pub joined : (m ≡ l) ⊎ (m ≡ r) → m' ≡ k
  pub others : m ≢ l → m ≢ r → m' ≡ m
  pub fresh : (k ≡ l) ⊎ ((k ≡ r) ⊎ (m ≢ k))

-- F' is the face of each step with the line, l on one side of it and r on the other; F, without it, is k where F' is l or r
pub record TwoFaces (T : List Segment) (first : Segment) (rest : List Segment) (last : Segment) (F' F : Segment → ℕ) (l r k : ℕ) : Type 0 where
  pub comes : LineComes T first rest last
  pub rings : (g : ℕ) → Ringwise (with_line T (first ∷ rest)) (of_face F' g)
  pub forth : F' first ≡ l
  pub walked : F' (back first) ≡ r
  pub differ : l ≢ r
  pub numbers : (s : Segment) → In s T → JoinedNumber l r k (F' s) (F s)

-- the steps of both faces
abbrev pub either_face : (Segment → ℕ) → ℕ → ℕ → Segment → Bool
either_face F l r s = xor (of_face F l s) (of_face F r s)

not_eqb : (m n : ℕ) → eqb m n ≡ false → m ≢ n
not_eqb m n e f = both_ways (eqb m n) e (eq-eqb m n f)

-- ---- numbers by their tests
pub number_joined : (l r k m m' : ℕ) → l ≢ r → JoinedNumber l r k m m' → xor (eqb m l) (eqb m r) ≡ eqb m' k
number_joined l r k m m' n h = by_tests (eqb m l) (eqb m r) refl refl
  where
    by_tests : (a b : Bool) → eqb m l ≡ a → eqb m r ≡ b → xor a b ≡ eqb m' k
    by_tests true true e f = absurd (n (sym (eqb-true m l e) ∙ eqb-true m r f))
    by_tests true false e f = sym (eq-eqb m' k (h.joined (inl (eqb-true m l e))))
    by_tests false true e f = sym (eq-eqb m' k (h.joined (inr (eqb-true m r f))))
    by_tests false false e f =
        sym (ap (λ z. eqb z k) (h.others (not_eqb m l e) (not_eqb m r f)) ∙
        ⊎_elim
        (λ (g : k ≡ l). ap (eqb m) g ∙ e)
        (λ (g : (k ≡ r) ⊎ (m ≢ k)). ⊎_elim (λ (q : k ≡ r). ap (eqb m) q ∙ f) (λ (q : m ≢ k). ne_eqb m k q) g)
        h.fresh)

pub number_other : (l r k m m' g : ℕ) → JoinedNumber l r k m m' → g ≢ k → g ≢ l → g ≢ r → eqb m g ≡ eqb m' g
number_other l r k m m' g h nk nl nr = by_tests (eqb m l) (eqb m r) refl refl
  where
    at_joined : (n : ℕ) → g ≢ n → m ≡ n → m' ≡ k → eqb m g ≡ eqb m' g
    at_joined n ne e f = ap (λ z. eqb z g) e ∙ ne_eqb n g (λ q. ne (sym q)) ∙ sym (ap (λ z. eqb z g) f ∙ ne_eqb k g (λ q. nk (sym q)))

    by_tests : (a b : Bool) → eqb m l ≡ a → eqb m r ≡ b → eqb m g ≡ eqb m' g
    by_tests true b e f = let q = eqb-true m l e in at_joined l nl q (h.joined (inl q))
    by_tests false true e f = let q = eqb-true m r f in at_joined r nr q (h.joined (inr q))
    by_tests false false e f = sym (ap (λ z. eqb z g) (h.others (not_eqb m l e) (not_eqb m r f)))

-- a face that goes is no number's
pub number_gone : (l r k m m' g : ℕ) → JoinedNumber l r k m m' → g ≢ k → (g ≡ l) ⊎ (g ≡ r) → false ≡ eqb m' g
number_gone l r k m m' g h nk was = by_tests (eqb m l) (eqb m r) refl refl
  where
    at_joined : m' ≡ k → false ≡ eqb m' g
    at_joined f = sym (ap (λ z. eqb z g) f ∙ ne_eqb k g (λ q. nk (sym q)))

    by_tests : (a b : Bool) → eqb m l ≡ a → eqb m r ≡ b → false ≡ eqb m' g
    by_tests true b e f = at_joined (h.joined (inl (eqb-true m l e)))
    by_tests false true e f = at_joined (h.joined (inr (eqb-true m r f)))
    by_tests false false e f =
        sym (ap (λ z. eqb z g) (h.others (not_eqb m l e) (not_eqb m r f)) ∙
        ⊎_elim (λ (q : g ≡ l). ap (eqb m) q ∙ e) (λ (q : g ≡ r). ap (eqb m) q ∙ f) was)

-- ---- which face g is
pub data Kind (l r k g : ℕ) : Type 0 where
  Joined : g ≡ k → Kind l r k g
  Gone : g ≢ k → (g ≡ l) ⊎ (g ≡ r) → Kind l r k g
  Other : g ≢ k → g ≢ l → g ≢ r → Kind l r k g

pub kind_of : (l r k g : ℕ) → Kind l r k g
kind_of l r k g = by_tests (eqb g k) (eqb g l) (eqb g r) refl refl refl
  where
    by_tests : (a b c : Bool) → eqb g k ≡ a → eqb g l ≡ b → eqb g r ≡ c → Kind l r k g
    by_tests true b c e f m = Joined (eqb-true g k e)
    by_tests false true c e f m = Gone (not_eqb g k e) (inl (eqb-true g l f))
    by_tests false false true e f m = Gone (not_eqb g k e) (inr (eqb-true g r m))
    by_tests false false false e f m = Other (not_eqb g k e) (not_eqb g l f) (not_eqb g r m)

-- ---- on the line
either_ringwise : (T : List Segment) (first : Segment) (rest : List Segment) (last : Segment) (F' F : Segment → ℕ) (l r k : ℕ) → TwoFaces T first rest last F' F l r k → Ringwise (with_line T (first ∷ rest)) (either_face F' l r)
either_ringwise T first rest last F' F l r k h d n i j next = cc (h.rings l d n i j next, h.rings r d n i j next)

either_line : (T : List Segment) (first : Segment) (rest : List Segment) (last : Segment) (F' F : Segment → ℕ) (l r k : ℕ) → TwoFaces T first rest last F' F l r k →
    (either_face F' l r first ≡ true) × (either_face F' l r (back first) ≡ true)
either_line T first rest last F' F l r k h = (
  sum_of true false (eqb (F' first) l) (eqb (F' first) r) (eq-eqb (F' first) l h.forth) (ap (λ z. eqb z r) h.forth ∙ ne_eqb l r h.differ),
  sum_of false true (eqb (F' (back first)) l) (eqb (F' (back first)) r) (ap (λ z. eqb z l) h.walked ∙ ne_eqb r l (λ e. h.differ (sym e))) (eq-eqb (F' (back first)) r h.walked),
)
  where
    sum_of : (x y a b : Bool) → a ≡ x → b ≡ y → xor a b ≡ xor x y
    sum_of x y a b e f = rw (e, f)

other_line : (T : List Segment) (first : Segment) (rest : List Segment) (last : Segment) (F' F : Segment → ℕ) (l r k g : ℕ) → TwoFaces T first rest last F' F l r k → g ≢ l → g ≢ r →
    (of_face F' g first ≡ false) × (of_face F' g (back first) ≡ false)
other_line T first rest last F' F l r k g h nl nr = (ap (λ z. eqb z g) h.forth ∙ ne_eqb l g (λ e. nl (sym e)), ap (λ z. eqb z g) h.walked ∙ ne_eqb r g (λ e. nr (sym e)))

-- ---- without the line each face is one for each ring, and has itself on its left
pub joined_ringwise : (T : List Segment) (first : Segment) (rest : List Segment) (last : Segment) (F' F : Segment → ℕ) (l r k : ℕ) → TwoFaces T first rest last F' F l r k → (g : ℕ) → Ringwise T (of_face F g)
joined_ringwise T first rest last F' F l r k h g = by_kind (kind_of l r k g)
  where
    by_kind : Kind l r k g → Ringwise T (of_face F g)
    by_kind (Joined e) =
        let on = either_line T first rest last F' F l r k h in
        ringwise_same T (either_face F' l r) (of_face F g) (λ s i. number_joined l r k (F' s) (F s) h.differ (h.numbers s i) ∙ ap (eqb (F s)) (sym e))
        (old_ringwise T first rest last (either_face F' l r) true h.comes (either_ringwise T first rest last F' F l r k h) on.0 on.1)
    by_kind (Gone n was) = ringwise_same T (λ s. false) (of_face F g) (λ s i. number_gone l r k (F' s) (F s) g (h.numbers s i) n was) (λ d m i j next. refl)
    by_kind (Other n nl nr) =
        let off = other_line T first rest last F' F l r k g h nl nr in
        ringwise_same T (of_face F' g) (of_face F g) (λ s i. number_other l r k (F' s) (F s) g (h.numbers s i) n nl nr) (old_ringwise T first rest last (of_face F' g) false h.comes (h.rings g) off.0 off.1)

pub joined_sided : (T : List Segment) (first : Segment) (rest : List Segment) (last : Segment) (F' F : Segment → ℕ) (l r k : ℕ) → TwoFaces T first rest last F' F l r k → (k ≢ 0 → (l ≢ 0) × (r ≢ 0)) →
    ((g : ℕ) → g ≢ 0 → Sided (with_line T (first ∷ rest)) (of_face F' g)) → (g : ℕ) → g ≢ 0 → Sided T (of_face F g)
joined_sided T first rest last F' F l r k h not_outer sided g n = by_kind (kind_of l r k g)
  where
    by_kind : Kind l r k g → Sided T (of_face F g)
    by_kind (Joined e) =
        let on = either_line T first rest last F' F l r k h in
        let both = not_outer (λ q. n (e ∙ q)) in
        sided_same T (either_face F' l r) (of_face F g) (λ s i. number_joined l r k (F' s) (F s) h.differ (h.numbers s i) ∙ ap (eqb (F s)) (sym e))
        (sided_without_line T first rest last (either_face F' l r) true h.comes (either_ringwise T first rest last F' F l r k h) on.0 on.1
        (join_faces (with_line T (first ∷ rest)) (of_face F' l) (of_face F' r) (sided l both.0) (sided r both.1)))
    by_kind (Gone m was) = sided_same T (λ s. false) (of_face F g) (λ s i. number_gone l r k (F' s) (F s) g (h.numbers s i) m was) (λ s i. left_none s)
      where
        left_none : (s : Segment) → left (those (λ t. false) T) s ≡ false
        left_none s = left_empty T (λ t. false) s (λ t i. refl)
    by_kind (Other m nl nr) =
        let off = other_line T first rest last F' F l r k g h nl nr in
        sided_same T (of_face F' g) (of_face F g) (λ s i. number_other l r k (F' s) (F s) g (h.numbers s i) m nl nr) (sided_without_line T first rest last (of_face F' g) false h.comes (h.rings g) off.0 off.1 (sided g n))

-- ---- points
-- a point in the face m, by the parities above it, is in the face that m becomes
pub joined_above : (T : List Segment) (first : Segment) (rest : List Segment) (last : Segment) (F' F : Segment → ℕ) (l r k m m' : ℕ) (v : Point) → TwoFaces T first rest last F' F l r k → (k ≢ 0 → (l ≢ 0) × (r ≢ 0)) → JoinedNumber l r k m m' →
    ((g : ℕ) → g ≢ 0 → above (those (of_face F' g) (with_line T (first ∷ rest))) v ≡ eqb m g) → (g : ℕ) → g ≢ 0 → above (those (of_face F g) T) v ≡ eqb m' g
joined_above T first rest last F' F l r k m m' v h not_outer number at g n = by_kind (kind_of l r k g)
  where
    same : (p q : Segment → Bool) → ((s : Segment) → In s T → p s ≡ q s) → above (those q T) v ≡ above (those p T) v
    same p q e = ap (λ X. above X v) (sym (those_same p q T e))

    sum_of : (a b x y : Bool) → a ≡ x → b ≡ y → xor a b ≡ xor x y
    sum_of a b x y e f = rw (e, f)

    by_kind : Kind l r k g → above (those (of_face F g) T) v ≡ eqb m' g
    by_kind (Joined e) =
        let on = either_line T first rest last F' F l r k h in
        let both = not_outer (λ q. n (e ∙ q)) in
        same (either_face F' l r) (of_face F g) (λ s i. number_joined l r k (F' s) (F s) h.differ (h.numbers s i) ∙ ap (eqb (F s)) (sym e))
        ∙ above_without_line T first rest last (either_face F' l r) true h.comes (either_ringwise T first rest last F' F l r k h) on.0 on.1 v
        ∙ those_both (λ t. crosses t v) (of_face F' l) (of_face F' r) (with_line T (first ∷ rest))
        ∙ sum_of (above (those (of_face F' l) (with_line T (first ∷ rest))) v) (above (those (of_face F' r) (with_line T (first ∷ rest))) v) (eqb m l) (eqb m r) (at l both.0) (at r both.1)
        ∙ number_joined l r k m m' h.differ number
        ∙ ap (eqb m') (sym e)
    by_kind (Gone q was) =
        same (λ s. false) (of_face F g) (λ s i. number_gone l r k (F' s) (F s) g (h.numbers s i) q was)
        ∙ ap (λ X. above X v) (no_those (λ s. false) T (in_each (λ t. false ≡ false) T (λ t i. refl)))
        ∙ number_gone l r k m m' g number q was
    by_kind (Other q nl nr) =
        let off = other_line T first rest last F' F l r k g h nl nr in
        same (of_face F' g) (of_face F g) (λ s i. number_other l r k (F' s) (F s) g (h.numbers s i) q nl nr)
        ∙ above_without_line T first rest last (of_face F' g) false h.comes (h.rings g) off.0 off.1 v
        ∙ at g n
        ∙ number_other l r k m m' g number q nl nr

-- the parities on the left of the line say the joined face
pub joined_left : (T : List Segment) (first : Segment) (rest : List Segment) (last : Segment) (F' F : Segment → ℕ) (l r k : ℕ) → TwoFaces T first rest last F' F l r k → (k ≢ 0 → (l ≢ 0) × (r ≢ 0)) →
    ((g : ℕ) → g ≢ 0 → Sided (with_line T (first ∷ rest)) (of_face F' g)) → (g : ℕ) → g ≢ 0 → left (those (of_face F g) T) first ≡ eqb k g
joined_left T first rest last F' F l r k h not_outer sided g n = by_kind (kind_of l r k g)
  where
    same : (p q : Segment → Bool) → ((s : Segment) → In s T → p s ≡ q s) → left (those q T) first ≡ left (those p T) first
    same p q f = ap (λ X. left X first) (sym (those_same p q T f))

    by_kind : Kind l r k g → left (those (of_face F g) T) first ≡ eqb k g
    by_kind (Joined f) =
        let on = either_line T first rest last F' F l r k h in
        let both = not_outer (λ q. n (f ∙ q)) in
        same (either_face F' l r) (of_face F g) (λ s i. number_joined l r k (F' s) (F s) h.differ (h.numbers s i) ∙ ap (eqb (F s)) (sym f))
        ∙ left_without_line T first rest last (either_face F' l r) true h.comes (either_ringwise T first rest last F' F l r k h) on.0 on.1 first
        ∙ join_faces (with_line T (first ∷ rest)) (of_face F' l) (of_face F' r) (sided l both.0) (sided r both.1) first (first_there T first rest)
        ∙ on.0 ∙ sym (eq-eqb k g (sym f))
    by_kind (Gone q was) =
        same (λ s. false) (of_face F g) (λ s i. number_gone l r k (F' s) (F s) g (h.numbers s i) q was)
        ∙ left_empty T (λ t. false) first (λ t i. refl) ∙ sym (ne_eqb k g (λ z. q (sym z)))
    by_kind (Other q nl nr) =
        let off = other_line T first rest last F' F l r k g h nl nr in
        same (of_face F' g) (of_face F g) (λ s i. number_other l r k (F' s) (F s) g (h.numbers s i) q nl nr)
        ∙ left_without_line T first rest last (of_face F' g) false h.comes (h.rings g) off.0 off.1 first
        ∙ sided g n first (first_there T first rest)
        ∙ off.0 ∙ sym (ne_eqb k g (λ z. q (sym z)))

-- an end of the line at which no other step begins is in the joined face
pub joined_above_end : (T : List Segment) (first : Segment) (rest : List Segment) (last : Segment) (F' F : Segment → ℕ) (l r k : ℕ) (e : Segment) → TwoFaces T first rest last F' F l r k → (k ≢ 0 → (l ≢ 0) × (r ≢ 0)) → IsEndOf first last e →
    ((t : Segment) → In t T → t.a ≢ e.a) → ((g : ℕ) → g ≢ 0 → Sided (with_line T (first ∷ rest)) (of_face F' g)) → (g : ℕ) → g ≢ 0 → above (those (of_face F g) T) e.a ≡ eqb k g
joined_above_end T first rest last F' F l r k e h not_outer end none sided g n =
    above_end T first rest last (those (of_face F g) T) e h.comes end none (label_even T h.comes.old.plain h.comes.old.once (of_face F g) (joined_ringwise T first rest last F' F l r k h g)) (those_within (of_face F g) T)
    ∙ joined_left T first rest last F' F l r k h not_outer sided g n
