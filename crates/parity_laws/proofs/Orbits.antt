-- Rings: a label that is one for each ring is even, and each step's ring is such a label.
use Rattle.std.proofs.Common.{◌≡◌, refl, sym, ◌∙◌, ap, subst, arith, ◌⊎◌, inl, inr, ⊎_elim, ℕ, zero, suc, Bool, true, false, cond, ◌&&◌, List, [], ◌∷◌, length}
use Rattle.std.specs.Prelude.{◌||◌}
use Rattle.std.proofs.lemmas.Bool.{both_ways, or_cases, or_left, or_right}
use Rattle.topo_base.specs.Point.{same_point}
use Rattle.plane.specs.Segment.{Segment}
use Rattle.plane.specs.Parity.{xor}
use Rattle.parity_laws.specs.Steps.{odd, Even}
use Rattle.parity_laws.specs.Rings.{In, Next, Plain, Within, Once, Ringwise, OneRing, those}
use Rattle.parity_laws.proofs.Sums.{xor_self, odd_both, equal, xor_left}
use Rattle.parity_laws.proofs.Star.{those_in, in_those}
use Rattle.parity_laws.proofs.Following.{follows, next_same, next_apart}
use Rattle.parity_laws.proofs.Tests.{exact_is, exact_self}

-- ---- a list with one of its steps taken out
pub record Taken (y : Segment) (Y : List Segment) : Type 0 where
  pub rest : List Segment
  pub shorter : length Y ≡ suc (length rest)
  pub sum : (q : Segment → Bool) → odd q Y ≡ xor (q y) (odd q rest)
  pub others : (z : Segment) → In z Y → (z ≡ y) ⊎ In z rest

pub taken : (y : Segment) (Y : List Segment) → In y Y → Taken y Y
taken y [] i = absurd i
taken y (z ∷ Y) i = ⊎_elim (λ (e : y ≡ z). first e) (λ (j : In y Y). later (taken y Y j)) i
  where
    first : y ≡ z → Taken y (z ∷ Y)
    first e = record {
      rest = Y;
      shorter = refl;
      sum = λ q. ap (λ k. xor (q k) (odd q Y)) (sym e);
      others = λ x j. ⊎_elim (λ (f : x ≡ z). inl (f ∙ sym e)) (λ (k : In x Y). inr k) j;
    }

    later : Taken y Y → Taken y (z ∷ Y)
    later t = record {
      rest = z ∷ t.rest;
      shorter = ap suc t.shorter;
      sum = λ q. ap (xor (q z)) (t.sum q) ∙ xor_left (q z) (q y) (odd q t.rest);
      others = λ x j. ⊎_elim (λ (f : x ≡ z). inr (inl f)) (λ (k : In x Y). ⊎_elim (λ (f : x ≡ y). inl f) (λ (l : In x t.rest). inr (inr l)) (t.others x k)) j;
    }

-- ---- R leads each step of X to one of Y, no two to one
pub record Matched (R : Segment → Segment → Type 0) (X Y : List Segment) : Type 0 where
  pub leads : (x : Segment) → In x X → (y : Segment) × (In y Y × R x y)
  pub apart : (x z y : Segment) → In x X → In z X → R x y → R z y → x ≡ z

-- sums over both are one where the lists are of one length and the test of x is that of y
pub matched_sum : (R : Segment → Segment → Type 0) (p q : Segment → Bool) (X Y : List Segment) → ((x y : Segment) → R x y → p x ≡ q y) → Once X → length X ≡ length Y → Matched R X Y → odd p X ≡ odd q Y
matched_sum R p q [] [] same once long m = refl
matched_sum R p q [] (y ∷ Y) same once long m = absurd (omega arith)
matched_sum R p q (x ∷ X) Y same once long m = by_first (m.leads x (inl refl)) (λ Y' l m'. matched_sum R p q X Y' same once.1 l m')
  where
    by_first : (f : (y : Segment) × (In y Y × R x y)) → ((Y' : List Segment) → length X ≡ length Y' → Matched R X Y' → odd p X ≡ odd q Y') → odd p (x ∷ X) ≡ odd q Y
    by_first f rest =
        let t = taken f.0 Y f.1.0 in
        sums (p x) (q f.0) (odd p X) (odd q t.rest) (same x f.0 f.1.1) (rest t.rest (shorter (long ∙ t.shorter)) (fewer t)) ∙ sym (t.sum q)
      where
        shorter : {a b : ℕ} → suc a ≡ suc b → a ≡ b
        shorter e = omega (arith, e)

        sums : (a b c d : Bool) → a ≡ b → c ≡ d → xor a c ≡ xor b d
        sums a b c d e f = rw (e, f)

        fewer : (t : Taken f.0 Y) → Matched R X t.rest
        fewer t = record {
          leads = λ z i. let g = m.leads z (inr i) in (g.0, (left_over t z i g.0 g.1.0 g.1.1, g.1.1));
          apart = λ z w y i j h k. m.apart z w y (inr i) (inr j) h k;
        }
          where
            left_over : (t : Taken f.0 Y) (z : Segment) → In z X → (y : Segment) → In y Y → R z y → In y t.rest
            left_over t z i y j h =
                ⊎_elim
                (λ (e : y ≡ f.0). absurd (once.0 (subst (λ k. In k X) (m.apart z x f.0 (inr i) (inl refl) (subst (R z) e h) f.1.1) i)))
                (λ (k : In y t.rest). k)
                (t.others y j)

pub once_those : (p : Segment → Bool) (T : List Segment) → Once T → Once (those p T)
once_those p [] once = tt
once_those p (t ∷ T) once = by_test (p t) (once_those p T once.1)
  where
    by_test : (b : Bool) → Once (those p T) → Once (cond b (t ∷ those p T) (those p T))
    by_test true h = (λ i. once.0 (those_in p T t i).0, h)
    by_test false h = h

-- a label that is one for each ring has as many steps that begin at a point as steps that end there
pub label_even : (T : List Segment) → Plain T → Once T → (label : Segment → Bool) → Ringwise T label → Even (those label T)
label_even T plain once label rings h = odd_both (λ t. h t.a) (λ t. h t.b) L ∙ ap (xor (odd (λ t. h t.a) L)) ends ∙ xor_self (odd (λ t. h t.a) L)
  where
    L : List Segment
    L = those label T

    ends : odd (λ t. h t.b) L ≡ odd (λ t. h t.a) L
    ends =
        matched_sum (Next T) (λ t. h t.b) (λ t. h t.a) L L (λ x y n. ap h (sym n.meets)) (once_those label T once) refl
        (record {
          leads = λ x i.
              let m = those_in label T x i in
              let n = follows T plain x m.0 in
              (n.0, (in_those label T n.0 n.1.0 (sym (rings x n.0 m.0 n.1.0 n.1.1) ∙ m.1), n.1.1));
          apart = λ x z y i j f g. next_apart T x z y plain (those_in label T x i).0 (those_in label T z j).0 f g;
        })

-- ---- the ring of a step: what next leads to, from it or back to it
-- a step that p has on one side of a corner alone
record Broken (T : List Segment) (p : Segment → Bool) : Type 0 where
  d : Segment
  n : Segment
  d_there : In d T
  n_there : In n T
  next : Next T d n
  differs : xor (p d) (p n) ≡ true

broken : (T : List Segment) → Plain T → (p : Segment → Bool) (Z : List Segment) → Within Z T →
    ((d n : Segment) → In d Z → In n T → Next T d n → p d ≡ p n) ⊎ Broken T p
broken T plain p [] w = inl (λ d n i. absurd i)
broken T plain p (d ∷ Z) w = by_test (xor (p d) (p n.0)) refl (broken T plain p Z (λ s i. w s (inr i)))
  where
    n : (n : Segment) × (In n T × Next T d n)
    n = follows T plain d (w d (inl refl))

    by_test : (b : Bool) → xor (p d) (p n.0) ≡ b → ((c m : Segment) → In c Z → In m T → Next T c m → p c ≡ p m) ⊎ Broken T p →
        ((c m : Segment) → In c (d ∷ Z) → In m T → Next T c m → p c ≡ p m) ⊎ Broken T p
    by_test true e rest = inr (record { d = d; n = n.0; d_there = w d (inl refl); n_there = n.1.0; next = n.1.1; differs = e })
    by_test false e rest =
        ⊎_elim
        (λ (f : (c m : Segment) → In c Z → In m T → Next T c m → p c ≡ p m). inl (λ c m i j k. ⊎_elim (λ (g : c ≡ d). here c m j k g) (λ (l : In c Z). f c m l j k) i))
        (λ (b : Broken T p). inr b)
        rest
      where
        here : (c m : Segment) → In m T → Next T c m → c ≡ d → p c ≡ p m
        here c m j k g = ap p g ∙ equal (p d) (p n.0) e ∙ ap p (next_same T d n.0 m plain n.1.0 j n.1.1 (subst (λ z. Next T z m) g k))

-- p has s, and steps of its ring alone; steps that it has not are in Y
record Grown (T : List Segment) (s : Segment) (p : Segment → Bool) (Y : List Segment) : Type 0 where
  mine : p s ≡ true
  there : (t : Segment) → p t ≡ true → In t T
  linked : (t : Segment) → p t ≡ true → (h : Segment → Bool) → Ringwise T h → h t ≡ h s
  others : (t : Segment) → In t T → (p t ≡ true) ⊎ In t Y

abbrev with_one : (Segment → Bool) → Segment → Segment → Bool
with_one p x t = p t || (same_point t.a x.a && same_point t.b x.b)

grown : (T : List Segment) (s : Segment) (p : Segment → Bool) (Y : List Segment) (x : Segment) → In x T → ((h : Segment → Bool) → Ringwise T h → h x ≡ h s) → (y : Taken x Y) → Grown T s p Y →
    Grown T s (with_one p x) y.rest
grown T s p Y x i link y g = record {
  mine = or_left (p s) (same_point s.a x.a && same_point s.b x.b) g.mine;
  there = λ t e. ⊎_elim (λ (f : p t ≡ true). g.there t f) (λ (f : same_point t.a x.a && same_point t.b x.b ≡ true). subst (λ z. In z T) (exact_is x t f) i) (or_cases (p t) (same_point t.a x.a && same_point t.b x.b) e);
  linked = λ t e h k. ⊎_elim (λ (f : p t ≡ true). g.linked t f h k) (λ (f : same_point t.a x.a && same_point t.b x.b ≡ true). subst (λ z. h z ≡ h s) (exact_is x t f) (link h k)) (or_cases (p t) (same_point t.a x.a && same_point t.b x.b) e);
  others = λ t j. ⊎_elim (λ (f : p t ≡ true). inl (or_left (p t) (same_point t.a x.a && same_point t.b x.b) f)) (λ (k : In t Y). ⊎_elim (λ (f : t ≡ x). inl (or_right (p t) (same_point t.a x.a && same_point t.b x.b) (subst (λ z. same_point z.a x.a && same_point z.b x.b ≡ true) (sym f) (exact_self x)))) (λ (l : In t y.rest). inr l) (y.others t k)) (g.others t j);
}

abbrev RingOf : List Segment → Segment → (Segment → Bool) → Type 0
RingOf T s p = Ringwise T p × OneRing T p × (p s ≡ true) × ((t : Segment) → p t ≡ true → In t T)

whole : (T : List Segment) (s : Segment) (p : Segment → Bool) (Y : List Segment) → Grown T s p Y → Ringwise T p → RingOf T s p
whole T s p Y g rings = (rings, λ h k t u i j e f. g.linked t e h k ∙ sym (g.linked u f h k), g.mine, g.there)

more : (T : List Segment) (s : Segment) (p : Segment → Bool) (Y : List Segment) → Grown T s p Y → Broken T p → (x : Segment) × ((y : Taken x Y) × Grown T s (with_one p x) y.rest)
more T s p Y g b = by_tests (p b.d) (p b.n) refl refl b.differs
  where
    add : (x : Segment) → In x T → p x ≡ false → ((h : Segment → Bool) → Ringwise T h → h x ≡ h s) → (x : Segment) × ((y : Taken x Y) × Grown T s (with_one p x) y.rest)
    add x i e link =
        ⊎_elim
        (λ (f : p x ≡ true). absurd (both_ways (p x) e f))
        (λ (j : In x Y). (x, (taken x Y j, grown T s p Y x i link (taken x Y j) g)))
        (g.others x i)

    by_tests : (c e : Bool) → p b.d ≡ c → p b.n ≡ e → xor c e ≡ true → (x : Segment) × ((y : Taken x Y) × Grown T s (with_one p x) y.rest)
    by_tests true true f k l = absurd (both_ways true (sym l) refl)
    by_tests true false f k l = add b.n b.n_there k (λ h r. sym (r b.d b.n b.d_there b.n_there b.next) ∙ g.linked b.d f h r)
    by_tests false true f k l = add b.d b.d_there f (λ h r. r b.d b.n b.d_there b.n_there b.next ∙ g.linked b.n k h r)
    by_tests false false f k l = absurd (both_ways true (sym l) refl)

grow : (T : List Segment) → Plain T → (s : Segment) (k : ℕ) (p : Segment → Bool) (Y : List Segment) → length Y ≡ k → Grown T s p Y → (q : Segment → Bool) × RingOf T s q
grow T plain s zero p Y long g = ⊎_elim (λ (f : Ringwise T p). (p, whole T s p Y g f)) (λ (b : Broken T p). absurd (let m = more T s p Y g b in let e = m.1.0.shorter in omega (arith, e, long))) (broken T plain p T (λ t i. i))
grow T plain s (suc k) p Y long g =
    ⊎_elim
    (λ (f : Ringwise T p). (p, whole T s p Y g f))
    (λ (b : Broken T p). let m = more T s p Y g b in let e = m.1.0.shorter in grow T plain s k (with_one p m.0) m.1.0.rest (omega (arith, e, long)) m.1.1)
    (broken T plain p T (λ t i. i))

pub ring_label : (T : List Segment) → Plain T → (s : Segment) → In s T →
    (p : Segment → Bool) × (Ringwise T p × OneRing T p × (p s ≡ true) × ((t : Segment) → p t ≡ true → In t T))
ring_label T plain s i =
    grow T plain s (length T) (λ t. same_point t.a s.a && same_point t.b s.b) T refl
    (record {
      mine = exact_self s;
      there = λ t e. subst (λ z. In z T) (exact_is s t e) i;
      linked = λ t e h k. ap h (sym (exact_is s t e));
      others = λ t j. inr j;
    })
