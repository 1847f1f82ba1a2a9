-- A face that a new line divides: both parts have themselves, and no other step, on their left.
use Rattle.std.proofs.Common.{◌≡◌, ◌≢◌, refl, sym, ◌∙◌, ap, subst, ℕ, ◌⊎◌, ⊎_elim, Bool, true, false, not, cond, ◌&&◌, List, [], ◌∷◌}
use lib.Dec.{eqb}
use Rattle.std.proofs.lemmas.Bool.{eqb-true, eqb-false, eq-eqb, ne_eqb}
use Rattle.plane.specs.Segment.{Segment}
use Rattle.plane.specs.Parity.{xor}
use Rattle.plane.specs.Crossings.{back}
use Rattle.parity_laws.specs.Steps.{left, times}
use Rattle.parity_laws.specs.Rings.{In, those, has, Drawn, Ringwise, Sided, of_face}
use Rattle.parity_laws.proofs.Ringwise.{side_next, side_back}
use Rattle.parity_laws.proofs.Star.{those_within, has_label, times_has}
use Rattle.parity_laws.proofs.Splitting.{world}
use Rattle.parity_laws.proofs.Seeing.{face_divided, outer_divided}
use Rattle.parity_laws.proofs.Sums.{xor_self}
use Rattle.parity_laws.proofs.Labels.{ringwise_same, sided_same}
use Rattle.parity_laws.specs.Shelling.{IsRingLabel}
use Rattle.parity_laws.proofs.OuterFace.{outer_side}

-- the step e is on the ring p, and e walked back on another ring q of the same face f; after it, G, the part of f
-- whose steps have of p on their left what e has is a, the other part is b, and one of them may be f
pub record Divides (T : List Segment) (F G : Segment → ℕ) (f a b : ℕ) (e : Segment) (p q : Segment → Bool) : Type 0 where
  pub faces : (g : ℕ) → Ringwise T (of_face F g)
  pub sided : (g : ℕ) → g ≢ 0 → Sided T (of_face F g)
  pub there : In e T
  pub first : IsRingLabel T p
  pub first_on : p e ≡ true
  pub second : IsRingLabel T q
  pub second_on : q (back e) ≡ true
  pub other : p (back e) ≡ false
  pub face : F e ≡ f
  pub face_back : F (back e) ≡ f
  pub differ : a ≢ b
  pub new_a : (a ≡ f) ⊎ ((t : Segment) → In t T → F t ≢ a)
  pub new_b : (b ≡ f) ⊎ ((t : Segment) → In t T → F t ≢ b)
  pub away : (t : Segment) → In t T → F t ≢ f → G t ≡ F t
  pub part_a : (t : Segment) → In t T → F t ≡ f → left (those p T) t ≡ left (those p T) e → G t ≡ a
  pub part_b : (t : Segment) → In t T → F t ≡ f → left (those p T) t ≡ not (left (those p T) e) → G t ≡ b

-- such faces: those of the parts are told apart, and the others stay
abbrev pub parted : List Segment → (Segment → ℕ) → ℕ → ℕ → ℕ → Segment → (Segment → Bool) → Segment → ℕ
parted T F f a b e p t = cond (eqb (F t) f) (cond (xor (left (those p T) t) (left (those p T) e)) b a) (F t)

pub parted_away : (T : List Segment) (F : Segment → ℕ) (f a b : ℕ) (e : Segment) (p : Segment → Bool) (t : Segment) → F t ≢ f → parted T F f a b e p t ≡ F t
parted_away T F f a b e p t n = rw (ne_eqb (F t) f n)

pub parted_first : (T : List Segment) (F : Segment → ℕ) (f a b : ℕ) (e : Segment) (p : Segment → Bool) (t : Segment) → F t ≡ f → left (those p T) t ≡ left (those p T) e → parted T F f a b e p t ≡ a
parted_first T F f a b e p t h k = rw (eq-eqb (F t) f h, k, xor_self (left (those p T) e))

pub parted_second : (T : List Segment) (F : Segment → ℕ) (f a b : ℕ) (e : Segment) (p : Segment → Bool) (t : Segment) → F t ≡ f → left (those p T) t ≡ not (left (those p T) e) → parted T F f a b e p t ≡ b
parted_second T F f a b e p t h k = by_parts (eqb (F t) f) (left (those p T) t) (left (those p T) e) (eq-eqb (F t) f h) k
  where
    by_parts : (x l c : Bool) → x ≡ true → l ≡ not c → cond x (cond (xor l c) b a) (F t) ≡ b
    by_parts true true true g k = cc
    by_parts true true false g k = refl
    by_parts true false true g k = refl
    by_parts true false false g k = cc
    by_parts false l c g k = cc

-- where a step is
pub data Place (T : List Segment) (F G : Segment → ℕ) (f a b : ℕ) (e : Segment) (p : Segment → Bool) (t : Segment) : Type 0 where
  in_a : F t ≡ f → left (those p T) t ≡ left (those p T) e → G t ≡ a → Place T F G f a b e p t
  in_b : F t ≡ f → left (those p T) t ≡ not (left (those p T) e) → G t ≡ b → Place T F G f a b e p t
  elsewhere : F t ≢ f → G t ≡ F t → Place T F G f a b e p t

pub place : (T : List Segment) (F G : Segment → ℕ) (f a b : ℕ) (e : Segment) (p q : Segment → Bool) → Divides T F G f a b e p q → (t : Segment) → In t T → Place T F G f a b e p t
place T F G f a b e p q d t i = by_face (eqb (F t) f) refl
  where
    by_side : F t ≡ f → (x y : Bool) → left (those p T) t ≡ x → left (those p T) e ≡ y → Place T F G f a b e p t
    by_side h true true l k = let m = l ∙ sym k in in_a h m (d.part_a t i h m)
    by_side h true false l k = let m = l ∙ sym (ap not k) in in_b h m (d.part_b t i h m)
    by_side h false true l k = let m = l ∙ sym (ap not k) in in_b h m (d.part_b t i h m)
    by_side h false false l k = let m = l ∙ sym k in in_a h m (d.part_a t i h m)

    by_face : (x : Bool) → eqb (F t) f ≡ x → Place T F G f a b e p t
    by_face true h = by_side (eqb-true (F t) f h) (left (those p T) t) (left (those p T) e) refl refl
    by_face false h = let n = eqb-false (F t) f h in elsewhere n (d.away t i n)

-- a step elsewhere has neither part's face
pub not_new : (T : List Segment) (F : Segment → ℕ) (f a : ℕ) (t : Segment) → (a ≡ f) ⊎ ((t : Segment) → In t T → F t ≢ a) → In t T → F t ≢ f → F t ≢ a
not_new T F f a t h i n e = ⊎_elim (λ (k : a ≡ f). n (e ∙ k)) (λ (k : (t : Segment) → In t T → F t ≢ a). k t i e) h

-- ---- the parts as labels
in_part : (x l c y : Bool) → x ≡ true → l ≡ c → y ≡ true → x && not (xor l c) ≡ y
in_part x l c y e f g = rw (e, f, g, xor_self c) refl

outside_it : (x l y : Bool) → x ≡ false → y ≡ false → x && l ≡ y
outside_it x l y e f = rw (e, f)

first_label : (T : List Segment) (F G : Segment → ℕ) (f a b : ℕ) (e : Segment) (p q : Segment → Bool) → Divides T F G f a b e p q → (t : Segment) → In t T →
    of_face F f t && not (xor (left (those p T) t) (left (those p T) e)) ≡ of_face G a t
first_label T F G f a b e p q d t i = by_place (place T F G f a b e p q d t i)
  where
    by_place : Place T F G f a b e p t → of_face F f t && not (xor (left (those p T) t) (left (those p T) e)) ≡ of_face G a t
    by_place (in_a h k g) = in_part (of_face F f t) (left (those p T) t) (left (those p T) e) (of_face G a t) (eq-eqb (F t) f h) k (eq-eqb (G t) a g)
    by_place (in_b h k g) = inner (of_face F f t) (left (those p T) t) (left (those p T) e) (of_face G a t) k (ne_eqb (G t) a (λ m. d.differ (sym m ∙ g)))
      where
        inner : (x l c y : Bool) → l ≡ not c → y ≡ false → x && not (xor l c) ≡ y
        inner true true true y e f = cc
        inner true true false y e f = sym f
        inner true false true y e f = sym f
        inner true false false y e f = cc
        inner false l c y e f = sym f
    by_place (elsewhere n g) =
        outside_it (of_face F f t) (not (xor (left (those p T) t) (left (those p T) e))) (of_face G a t) (ne_eqb (F t) f n) (ne_eqb (G t) a (λ m. not_new T F f a t d.new_a i n (sym g ∙ m)))

second_label : (T : List Segment) (F G : Segment → ℕ) (f a b : ℕ) (e : Segment) (p q : Segment → Bool) → Divides T F G f a b e p q → (t : Segment) → In t T →
    of_face F f t && not (xor (left (those p T) t) (not (left (those p T) e))) ≡ of_face G b t
second_label T F G f a b e p q d t i = by_place (place T F G f a b e p q d t i)
  where
    by_place : Place T F G f a b e p t → of_face F f t && not (xor (left (those p T) t) (not (left (those p T) e))) ≡ of_face G b t
    by_place (in_b h k g) = in_part (of_face F f t) (left (those p T) t) (not (left (those p T) e)) (of_face G b t) (eq-eqb (F t) f h) k (eq-eqb (G t) b g)
    by_place (in_a h k g) = inner (of_face F f t) (left (those p T) t) (left (those p T) e) (of_face G b t) k (ne_eqb (G t) b (λ m. d.differ (sym g ∙ m)))
      where
        inner : (x l c y : Bool) → l ≡ c → y ≡ false → x && not (xor l (not c)) ≡ y
        inner true true true y e f = sym f
        inner true true false y e f = cc
        inner true false true y e f = cc
        inner true false false y e f = sym f
        inner false l c y e f = sym f
    by_place (elsewhere n g) =
        outside_it (of_face F f t) (not (xor (left (those p T) t) (not (left (those p T) e)))) (of_face G b t) (ne_eqb (F t) f n) (ne_eqb (G t) b (λ m. not_new T F f b t d.new_b i n (sym g ∙ m)))

-- another face keeps its steps, and the old one has none
other_label : (T : List Segment) (F G : Segment → ℕ) (f a b : ℕ) (e : Segment) (p q : Segment → Bool) (g : ℕ) → Divides T F G f a b e p q → g ≢ a → g ≢ b → g ≢ f → (t : Segment) → In t T →
    of_face F g t ≡ of_face G g t
other_label T F G f a b e p q g d na nb nf t i = by_place (place T F G f a b e p q d t i)
  where
    by_place : Place T F G f a b e p t → of_face F g t ≡ of_face G g t
    by_place (in_a h k m) = ne_eqb (F t) g (λ z. nf (sym z ∙ h)) ∙ sym (ne_eqb (G t) g (λ z. na (sym z ∙ m)))
    by_place (in_b h k m) = ne_eqb (F t) g (λ z. nf (sym z ∙ h)) ∙ sym (ne_eqb (G t) g (λ z. nb (sym z ∙ m)))
    by_place (elsewhere n m) = ap (λ z. eqb z g) (sym m)

no_label : (T : List Segment) (F G : Segment → ℕ) (f a b : ℕ) (e : Segment) (p q : Segment → Bool) (g : ℕ) → Divides T F G f a b e p q → g ≢ a → g ≢ b → g ≡ f → (t : Segment) → In t T →
    false ≡ of_face G g t
no_label T F G f a b e p q g d na nb ef t i = by_place (place T F G f a b e p q d t i)
  where
    by_place : Place T F G f a b e p t → false ≡ of_face G g t
    by_place (in_a h k m) = sym (ne_eqb (G t) g (λ z. na (sym z ∙ m)))
    by_place (in_b h k m) = sym (ne_eqb (G t) g (λ z. nb (sym z ∙ m)))
    by_place (elsewhere n m) = sym (ne_eqb (G t) g (λ z. n (sym m ∙ z ∙ ef)))

none_sided : (T : List Segment) → Sided T (λ t. false)
none_sided T s i = ap (λ X. left X s) (none T)
  where
    none : (X : List Segment) → those (λ t. false) X ≡ []
    none [] = refl
    none (t ∷ X) = none X

-- each number is the first part, the second, the old face, or another
by_number : (P : ℕ → Type 0) (f a b g : ℕ) → P a → P b → (g ≢ a → g ≢ b → g ≡ f → P g) → (g ≢ a → g ≢ b → g ≢ f → P g) → P g
by_number P f a b g pa pb old other = by_first (eqb g a) refl
  where
    by_old : g ≢ a → g ≢ b → (x : Bool) → eqb g f ≡ x → P g
    by_old na nb true h = old na nb (eqb-true g f h)
    by_old na nb false h = other na nb (eqb-false g f h)

    by_second : g ≢ a → (x : Bool) → eqb g b ≡ x → P g
    by_second na true h = subst P (sym (eqb-true g b h)) pb
    by_second na false h = by_old na (eqb-false g b h) (eqb g f) refl

    by_first : (x : Bool) → eqb g a ≡ x → P g
    by_first true h = subst P (sym (eqb-true g a h)) pa
    by_first false h = by_second (eqb-false g a h) (eqb g b) refl

-- ---- what holds of the faces after it
pub side_ringwise : (T : List Segment) (p : Segment → Bool) → Drawn T → Ringwise T p → Ringwise T (λ t. left (those p T) t)
side_ringwise T p drawn hp c n i j next = side_next T (those p T) c n drawn.plain (world T p drawn hp).rings.even (those_within p T) i next

pub divided_rings : (T : List Segment) (F G : Segment → ℕ) (f a b : ℕ) (e : Segment) (p q : Segment → Bool) → Drawn T → Divides T F G f a b e p q → (g : ℕ) → Ringwise T (of_face G g)
divided_rings T F G f a b e p q drawn d g =
    by_number (λ z. Ringwise T (of_face G z)) f a b g
    (ringwise_same T (λ t. of_face F f t && not (xor (left (those p T) t) (left (those p T) e))) (of_face G a) (first_label T F G f a b e p q d) (part (left (those p T) e)))
    (ringwise_same T (λ t. of_face F f t && not (xor (left (those p T) t) (not (left (those p T) e)))) (of_face G b) (second_label T F G f a b e p q d) (part (not (left (those p T) e))))
    (λ na nb ef. ringwise_same T (λ t. false) (of_face G g) (no_label T F G f a b e p q g d na nb ef) (λ c n i j next. refl))
    (λ na nb nf. ringwise_same T (of_face F g) (of_face G g) (other_label T F G f a b e p q g d na nb nf) (d.faces g))
  where
    part : (c : Bool) → Ringwise T (λ t. of_face F f t && not (xor (left (those p T) t) c))
    part c k n i j next = cc (d.faces f k n i j next, side_ringwise T p drawn d.first.ringwise k n i j next)

pub divided_sides : (T : List Segment) (F G : Segment → ℕ) (f a b : ℕ) (e : Segment) (p q : Segment → Bool) → Drawn T → Divides T F G f a b e p q → f ≢ 0 →
    (g : ℕ) → g ≢ 0 → Sided T (of_face G g)
divided_sides T F G f a b e p q drawn d nf0 g =
    by_number (λ z. z ≢ 0 → Sided T (of_face G z)) f a b g
    (λ n. sided_same T (λ t. of_face F f t && not (xor (left (those p T) t) (left (those p T) e))) (of_face G a) (first_label T F G f a b e p q d) (part (left (those p T) e)))
    (λ n. sided_same T (λ t. of_face F f t && not (xor (left (those p T) t) (not (left (those p T) e)))) (of_face G b) (second_label T F G f a b e p q d) (part (not (left (those p T) e))))
    (λ na nb ef n. sided_same T (λ t. false) (of_face G g) (no_label T F G f a b e p q g d na nb ef) (none_sided T))
    (λ na nb nf n. sided_same T (of_face F g) (of_face G g) (other_label T F G f a b e p q g d na nb nf) (d.sided g n))
  where
    part : (c : Bool) → Sided T (λ t. of_face F f t && not (xor (left (those p T) t) c))
    part c = face_divided T (of_face F f) p c drawn (d.faces f) d.first.ringwise (d.sided f nf0)

-- of face 0 the part left of whose steps p's parity is 1 is the new face
abbrev pub IsOuterPart : List Segment → (Segment → Bool) → Segment → ℕ → ℕ → Type 0
IsOuterPart T p e a b = ((left (those p T) e ≡ true) × (b ≡ 0)) ⊎ ((left (those p T) e ≡ false) × (a ≡ 0))

pub outer_divided_sides : (T : List Segment) (F G : Segment → ℕ) (f a b : ℕ) (e : Segment) (p q : Segment → Bool) → Drawn T → Divides T F G f a b e p q → f ≡ 0 → IsOuterPart T p e a b →
    (g : ℕ) → g ≢ 0 → Sided T (of_face G g)
outer_divided_sides T F G f a b e p q drawn d ef0 outer g =
    by_number (λ z. z ≢ 0 → Sided T (of_face G z)) f a b g
    (λ n.
    ⊎_elim
    (λ (h : (left (those p T) e ≡ true) × (b ≡ 0)).
    sided_same T (λ t. of_face F f t && left (those p T) t) (of_face G a)
    (λ t i. inner (of_face F f t) (left (those p T) t) (left (those p T) e) h.0 ∙ first_label T F G f a b e p q d t i) part)
    (λ (h : (left (those p T) e ≡ false) × (a ≡ 0)). absurd (n h.1))
    outer)
    (λ n.
    ⊎_elim
    (λ (h : (left (those p T) e ≡ true) × (b ≡ 0)). absurd (n h.1))
    (λ (h : (left (those p T) e ≡ false) × (a ≡ 0)).
    sided_same T (λ t. of_face F f t && left (those p T) t) (of_face G b)
    (λ t i. inner (of_face F f t) (left (those p T) t) (not (left (those p T) e)) (ap not h.0) ∙ second_label T F G f a b e p q d t i) part)
    outer)
    (λ na nb ef n. absurd (n (ef ∙ ef0)))
    (λ na nb nf n. sided_same T (of_face F g) (of_face G g) (other_label T F G f a b e p q g d na nb nf) (d.sided g n))
  where
    inner : (x l c : Bool) → c ≡ true → x && l ≡ x && not (xor l c)
    inner x true c e = rw e
    inner x false c e = rw e

    part : Sided T (λ t. of_face F f t && left (those p T) t)
    part =
        outer_divided T (of_face F f) p drawn (d.faces f) d.first.ringwise
        (subst (λ z. (s : Segment) → In s T → left (those (of_face F z) T) s ≡ not (of_face F z s)) (sym ef0) (outer_side T F drawn d.faces d.sided))

-- ---- the two rings
pub first_part : (T : List Segment) (F G : Segment → ℕ) (f a b : ℕ) (e : Segment) (p q : Segment → Bool) → Drawn T → Divides T F G f a b e p q → (t : Segment) → In t T → p t ≡ true → G t ≡ a
first_part T F G f a b e p q drawn d t i m =
    d.part_a t i
    (eqb-true (F t) f (d.first.one (of_face F f) (d.faces f) t e i d.there m d.first_on ∙ eq-eqb (F e) f d.face))
    (d.first.one (λ s. left (those p T) s) (side_ringwise T p drawn d.first.ringwise) t e i d.there m d.first_on)

pub second_part : (T : List Segment) (F G : Segment → ℕ) (f a b : ℕ) (e : Segment) (p q : Segment → Bool) → Drawn T → Divides T F G f a b e p q → (t : Segment) → In t T → q t ≡ true → G t ≡ b
second_part T F G f a b e p q drawn d t i m =
    d.part_b t i
    (eqb-true (F t) f (d.second.one (of_face F f) (d.faces f) t (back e) i back_there m d.second_on ∙ eq-eqb (F (back e)) f d.face_back))
    (d.second.one (λ s. left (those p T) s) (side_ringwise T p drawn d.first.ringwise) t (back e) i back_there m d.second_on ∙ across)
  where
    back_there : In (back e) T
    back_there = drawn.plain.both e d.there

    across : left (those p T) (back e) ≡ not (left (those p T) e)
    across =
        last (left (those p T) e) (left (those p T) (back e)) (times (those p T) e) (has (those p T) e) (has (those p T) (back e))
        (side_back T (those p T) e drawn.plain (world T p drawn d.first.ringwise).rings.even (those_within p T) d.there) (times_has (those p T) e)
        (has_label p T drawn.once e d.there ∙ d.first_on) (has_label p T drawn.once (back e) back_there ∙ d.other)
      where
        last : (l k t h m : Bool) → l ≡ xor k t → t ≡ xor h m → h ≡ true → m ≡ false → k ≡ not l
        last l true t h m e f g i = rw (e, f, g, i) refl
        last l false t h m e f g i = rw (e, f, g, i) refl
