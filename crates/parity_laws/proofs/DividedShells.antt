-- The shells of the faces after a line has divided one of them.
use Rattle.std.proofs.Common.{◌≡◌, ◌≢◌, refl, sym, ◌∙◌, ap, subst, ℕ, ◌⊎◌, inl, inr, ⊎_elim, Bool, true, false, not, List}
use lib.Dec.{eqb}
use Rattle.std.proofs.lemmas.Bool.{both_ways, false_from_ne_true, eqb-true, eqb-false, eq-eqb}
use Rattle.plane.specs.Segment.{Segment}
use Rattle.plane.specs.Crossings.{back}
use Rattle.parity_laws.specs.Steps.{left}
use Rattle.parity_laws.specs.Rings.{In, those, Drawn, Ringwise, of_face}
use Rattle.parity_laws.proofs.Labels.{those_same, rings_same}
use Rattle.parity_laws.specs.Shelling.{IsRingLabel, IsShellOf, OneShell, NoShell, HasRingLabels}
use Rattle.parity_laws.proofs.FaceShells.{has_shell, shell_at}
use Rattle.parity_laws.proofs.Dividing.{Divides, Place, in_a, in_b, elsewhere, place, not_new, side_ringwise, divided_rings, divided_sides, IsOuterPart, first_part, second_part}

-- ---- all steps of a shell
pub shell_face : (T : List Segment) (F : Segment → ℕ) (f : ℕ) (x : Segment → Bool) → Ringwise T (of_face F f) → IsShellOf T F f x → (s : Segment) → In s T → x s ≡ true → F s ≡ f
shell_face T F f x hf h s i m = eqb-true (F s) f (h.ring.one (of_face F f) hf s h.ring.step i h.ring.there m h.ring.mine ∙ eq-eqb (F h.ring.step) f h.face)

pub shell_left : (T : List Segment) (F : Segment → ℕ) (f : ℕ) (x : Segment → Bool) → Drawn T → IsShellOf T F f x → (s : Segment) → In s T → x s ≡ true → left (those x T) s ≡ true
shell_left T F f x drawn h s i m = h.ring.one (λ t. left (those x T) t) (side_ringwise T x drawn h.ring.ringwise) s h.ring.step i h.ring.there m h.ring.mine ∙ h.is_left

-- a ring that has a step of a shell is that shell
pub is_that_shell : (T : List Segment) (F : Segment → ℕ) (f : ℕ) (x p : Segment → Bool) (s : Segment) → Drawn T → IsShellOf T F f x → IsRingLabel T p → In s T → x s ≡ true → p s ≡ true → left (those p T) s ≡ true
is_that_shell T F f x p s drawn h r i m n = ap (λ X. left X s) (sym (those_same x p T (rings_same T x p s h.ring.ringwise h.ring.one r.ringwise r.one i m n))) ∙ shell_left T F f x drawn h s i m

-- the steps with one face may have got another
pub shell_moved : (T : List Segment) (F G : Segment → ℕ) (f g : ℕ) (x : Segment → Bool) → ((t : Segment) → In t T → F t ≡ f → G t ≡ g) → IsShellOf T F f x → IsShellOf T G g x
shell_moved T F G f g x e h = record { ring = h.ring; face = e h.ring.step h.ring.there h.face; is_left = h.is_left }

-- ---- faces that the line does not touch
pub others_before : (T : List Segment) (F G : Segment → ℕ) (f a b : ℕ) (e : Segment) (p q : Segment → Bool) (g : ℕ) → Divides T F G f a b e p q → g ≢ a → g ≢ b → (t : Segment) → In t T → G t ≡ g → F t ≡ g
others_before T F G f a b e p q g d na nb t i h = by_place (place T F G f a b e p q d t i)
  where
    by_place : Place T F G f a b e p t → F t ≡ g
    by_place (in_a k l m) = absurd (na (sym h ∙ m))
    by_place (in_b k l m) = absurd (nb (sym h ∙ m))
    by_place (elsewhere n m) = sym m ∙ h

pub others_keep_shell : (T : List Segment) (F G : Segment → ℕ) (f a b : ℕ) (e : Segment) (p q : Segment → Bool) (g : ℕ) → Divides T F G f a b e p q → g ≢ f → g ≢ a → g ≢ b → OneShell T F g → OneShell T G g
others_keep_shell T F G f a b e p q g d nf na nb one = record {
  p = one.p;
  shell = shell_moved T F G g g one.p (λ t i h. d.away t i (λ k. nf (sym h ∙ k)) ∙ h) one.shell;
  only = λ x y hx hy. one.only x y (shell_moved T G F g g x (others_before T F G f a b e p q g d na nb) hx) (shell_moved T G F g g y (others_before T F G f a b e p q g d na nb) hy);
}

pub others_keep_none : (T : List Segment) (F G : Segment → ℕ) (f a b : ℕ) (e : Segment) (p q : Segment → Bool) (g : ℕ) → Divides T F G f a b e p q → g ≢ a → g ≢ b → NoShell T F g → NoShell T G g
others_keep_none T F G f a b e p q g d na nb none x hx = none x (shell_moved T G F g g x (others_before T F G f a b e p q g d na nb) hx)

-- each face but 0 that is one of the parts, or had one shell before, has one shell
pub each_has_shell : (T : List Segment) (F G : Segment → ℕ) (f a b : ℕ) (e : Segment) (p q : Segment → Bool) (g : ℕ) → Divides T F G f a b e p q → (a ≢ 0 → OneShell T G a) → (b ≢ 0 → OneShell T G b) → g ≢ 0 →
    (g ≢ a → g ≢ b → (g ≢ f) × OneShell T F g) → OneShell T G g
each_has_shell T F G f a b e p q g d one two n before = by_first (eqb g a) refl
  where
    by_second : g ≢ a → (x : Bool) → eqb g b ≡ x → OneShell T G g
    by_second na true h = subst (λ z. OneShell T G z) (sym (eqb-true g b h)) (two (λ k. n (eqb-true g b h ∙ k)))
    by_second na false h = let k = before na (eqb-false g b h) in others_keep_shell T F G f a b e p q g d k.0 na (eqb-false g b h) k.1

    by_first : (x : Bool) → eqb g a ≡ x → OneShell T G g
    by_first true h = subst (λ z. OneShell T G z) (sym (eqb-true g a h)) (one (λ k. n (eqb-true g a h ∙ k)))
    by_first false h = by_second (eqb-false g a h) (eqb g b) refl

-- ---- the two parts
-- r is a shell of the divided face with none of the two steps of the edge
pub record IsOtherShell (T : List Segment) (F : Segment → ℕ) (f : ℕ) (c d : Segment) (r : Segment → Bool) : Type 0 where
  pub shell : IsShellOf T F f r
  pub not_first : r c ≡ false
  pub not_second : r d ≡ false

abbrev pub NoOtherShell : List Segment → (Segment → ℕ) → ℕ → Segment → Segment → Type 0
NoOtherShell T F f c d = (r : Segment → Bool) → IsOtherShell T F f c d r → ⊥

-- no two
abbrev pub OneOtherShell : List Segment → (Segment → ℕ) → ℕ → Segment → Segment → Type 0
OneOtherShell T F f c d = (r s : Segment → Bool) → IsOtherShell T F f c d r → IsOtherShell T F f c d s → (t : Segment) → In t T → r t ≡ s t

-- a ring p with the step c, all of it in the part a
record IsPart (T : List Segment) (G : Segment → ℕ) (a : ℕ) (p : Segment → Bool) (c : Segment) : Type 0 where
  ring : IsRingLabel T p
  there : In c T
  mine : p c ≡ true
  part : (t : Segment) → In t T → p t ≡ true → G t ≡ a

keeps_off : (T : List Segment) (G : Segment → ℕ) (a b : ℕ) (q x : Segment → Bool) (d : Segment) → IsPart T G b q d → a ≢ b → IsShellOf T G a x → x d ≡ false
keeps_off T G a b q x d other n h =
    false_from_ne_true (x d) (λ m.
    n
    (sym h.face
    ∙ other.part h.ring.step h.ring.there (sym (rings_same T x q d h.ring.ringwise h.ring.one other.ring.ringwise other.ring.one other.there m other.mine h.ring.step h.ring.there) ∙ h.ring.mine)))

-- one part has no two shells, where z is a shell of the other
part_has_one : (T : List Segment) (F G : Segment → ℕ) (f a b : ℕ) (p q z : Segment → Bool) (c d : Segment) → Drawn T → Ringwise T (of_face G b) → IsPart T G a p c → IsPart T G b q d → a ≢ b →
    ((t : Segment) → In t T → (G t ≡ a) ⊎ (G t ≡ b) → F t ≡ f) →
    NoOtherShell T F f c d ⊎ (IsShellOf T G b z × (left (those p T) c ≡ true → left (those q T) d ≡ false) × OneOtherShell T F f c d) →
    (x y : Segment → Bool) → IsShellOf T G a x → IsShellOf T G a y → (t : Segment) → In t T → x t ≡ y t
part_has_one T F G f a b p q z c d drawn hb mine other differ old rest x y hx hy = by_first (x c) (y c) refl refl
  where
    others : (r : Segment → Bool) → IsShellOf T G a r → r c ≡ false → IsOtherShell T F f c d r
    others r h e = record {
      shell = shell_moved T G F a f r (λ t i g. old t i (inl g)) h;
      not_first = e;
      not_second = keeps_off T G a b q r d other differ h;
    }

    never : (r s : Segment → Bool) → IsShellOf T G a r → IsShellOf T G a s → r c ≡ true → s c ≡ false → ⊥
    never r s hr hs er es =
        ⊎_elim
        (λ (none : NoOtherShell T F f c d). none s (others s hs es))
        (λ (one : IsShellOf T G b z × (left (those p T) c ≡ true → left (those q T) d ≡ false) × OneOtherShell T F f c d).
        let hole = one.1 (is_that_shell T G a r p c drawn hr mine.ring mine.there er mine.mine) in
        let off : z d ≡ false = false_from_ne_true (z d) (λ m. both_ways (left (those q T) d) hole (is_that_shell T G b z q d drawn one.0 other.ring other.there m other.mine)) in
        let third : IsOtherShell T F f c d z = record {
          shell = shell_moved T G F b f z (λ t i g. old t i (inr g)) one.0;
          not_first = keeps_off T G b a p z c mine (λ k. differ (sym k)) one.0;
          not_second = off;
        } in
        let same = one.2 s z (others s hs es) third hs.ring.step hs.ring.there in
        differ (sym hs.face ∙ shell_face T G b z hb one.0 hs.ring.step hs.ring.there (sym same ∙ hs.ring.mine)))
        rest

    by_first : (u v : Bool) → x c ≡ u → y c ≡ v → (t : Segment) → In t T → x t ≡ y t
    by_first true true e g = rings_same T x y c hx.ring.ringwise hx.ring.one hy.ring.ringwise hy.ring.one mine.there e g
    by_first true false e g = absurd (never x y hx hy e g)
    by_first false true e g = absurd (never y x hy hx g e)
    by_first false false e g =
        ⊎_elim
        (λ (none : NoOtherShell T F f c d). absurd (none x (others x hx e)))
        (λ (one : IsShellOf T G b z × (left (those p T) c ≡ true → left (those q T) d ≡ false) × OneOtherShell T F f c d). one.2 x y (others x hx e) (others y hy g))
        rest

turned : (T : List Segment) (F : Segment → ℕ) (f : ℕ) (c d : Segment) (r : Segment → Bool) → IsOtherShell T F f c d r → IsOtherShell T F f d c r
turned T F f c d r h = record { shell = h.shell; not_first = h.not_second; not_second = h.not_first }

-- a step of a part had the divided face
pub part_before : (T : List Segment) (F G : Segment → ℕ) (f a b : ℕ) (e : Segment) (p q : Segment → Bool) → Divides T F G f a b e p q → (t : Segment) → In t T → (G t ≡ a) ⊎ (G t ≡ b) → F t ≡ f
part_before T F G f a b e p q d t i h = by_place (place T F G f a b e p q d t i)
  where
    by_place : Place T F G f a b e p t → F t ≡ f
    by_place (in_a k l m) = k
    by_place (in_b k l m) = k
    by_place (elsewhere n m) =
        ⊎_elim (λ (k : G t ≡ a). absurd (not_new T F f a t d.new_a i n (sym m ∙ k))) (λ (k : G t ≡ b). absurd (not_new T F f b t d.new_b i n (sym m ∙ k))) h

first_is_part : (T : List Segment) (F G : Segment → ℕ) (f a b : ℕ) (e : Segment) (p q : Segment → Bool) → Drawn T → Divides T F G f a b e p q → IsPart T G a p e
first_is_part T F G f a b e p q drawn d = record {
  ring = d.first;
  there = d.there;
  mine = d.first_on;
  part = first_part T F G f a b e p q drawn d;
}

second_is_part : (T : List Segment) (F G : Segment → ℕ) (f a b : ℕ) (e : Segment) (p q : Segment → Bool) → Drawn T → Divides T F G f a b e p q → IsPart T G b q (back e)
second_is_part T F G f a b e p q drawn d = record {
  ring = d.second;
  there = drawn.plain.both e d.there;
  mine = d.second_on;
  part = second_part T F G f a b e p q drawn d;
}

-- what the other rings of a divided face may be: none is a shell; or, where one of the two rings is a hole, no two are
abbrev pub RestOfFace : List Segment → (Segment → ℕ) → ℕ → Segment → (Segment → Bool) → (Segment → Bool) → Type 0
RestOfFace T F f e p q = NoOtherShell T F f e (back e) ⊎ ((left (those p T) e ≡ true → left (those q T) (back e) ≡ false) × OneOtherShell T F f e (back e))

-- a face other than 0 is divided: both parts have one shell
pub divided_shells : (T : List Segment) (F G : Segment → ℕ) (f a b : ℕ) (e : Segment) (p q : Segment → Bool) → Drawn T → HasRingLabels T → Divides T F G f a b e p q → f ≢ 0 → a ≢ 0 → b ≢ 0 →
    RestOfFace T F f e p q → OneShell T G a × OneShell T G b
divided_shells T F G f a b e p q drawn labels d nf na nb rest = (
  record { p = x.0; shell = x.1; only = part_has_one T F G f a b p q y.0 e (back e) drawn (rings b) one two d.differ old rest_a },
  record {
    p = y.0;
    shell = y.1;
    only = part_has_one T F G f b a q p x.0 (back e) e drawn (rings a) two one (λ k. d.differ (sym k)) (λ t i h. old t i (⊎_elim (λ (k : G t ≡ b). inr k) (λ (k : G t ≡ a). inl k) h)) rest_b;
  },
)
  where
    rings : (g : ℕ) → Ringwise T (of_face G g)
    rings = divided_rings T F G f a b e p q drawn d

    one : IsPart T G a p e
    one = first_is_part T F G f a b e p q drawn d

    two : IsPart T G b q (back e)
    two = second_is_part T F G f a b e p q drawn d

    old : (t : Segment) → In t T → (G t ≡ a) ⊎ (G t ≡ b) → F t ≡ f
    old = part_before T F G f a b e p q d

    x : (r : Segment → Bool) × IsShellOf T G a r
    x = has_shell T G a e drawn labels (rings a) (divided_sides T F G f a b e p q drawn d nf a na) one.there (one.part e one.there one.mine)

    y : (r : Segment → Bool) × IsShellOf T G b r
    y = has_shell T G b (back e) drawn labels (rings b) (divided_sides T F G f a b e p q drawn d nf b nb) two.there (two.part (back e) two.there two.mine)

    rest_a : NoOtherShell T F f e (back e) ⊎ (IsShellOf T G b y.0 × (left (those p T) e ≡ true → left (those q T) (back e) ≡ false) × OneOtherShell T F f e (back e))
    rest_a =
        ⊎_elim
        (λ (k : NoOtherShell T F f e (back e)). inl k)
        (λ (k : (left (those p T) e ≡ true → left (those q T) (back e) ≡ false) × OneOtherShell T F f e (back e)). inr (y.1, k.0, k.1))
        rest

    rest_b : NoOtherShell T F f (back e) e ⊎ (IsShellOf T G a x.0 × (left (those q T) (back e) ≡ true → left (those p T) e ≡ false) × OneOtherShell T F f (back e) e)
    rest_b =
        ⊎_elim
        (λ (k : NoOtherShell T F f e (back e)). inl (λ r h. k r (turned T F f (back e) e r h)))
        (λ (k : (left (those p T) e ≡ true → left (those q T) (back e) ≡ false) × OneOtherShell T F f e (back e)).
        inr (x.1, (λ m. false_from_ne_true (left (those p T) e) (λ n. both_ways (left (those q T) (back e)) (k.0 n) m)), λ r s h g. k.1 r s (turned T F f (back e) e r h) (turned T F f (back e) e s g)))
        rest

-- and its two rings aren't both holes
pub one_is_shell : (T : List Segment) (F G : Segment → ℕ) (f a b : ℕ) (e : Segment) (p q : Segment → Bool) → Drawn T → Divides T F G f a b e p q → OneShell T G a → OneShell T G b → RestOfFace T F f e p q →
    left (those p T) e ≡ false → left (those q T) (back e) ≡ true
one_is_shell T F G f a b e p q drawn d one_a one_b rest hole = by_value (left (those q T) (back e)) refl
  where
    first : IsPart T G a p e
    first = first_is_part T F G f a b e p q drawn d

    second : IsPart T G b q (back e)
    second = second_is_part T F G f a b e p q drawn d

    -- a shell of the first part is one that the face had, and so is one of the second
    other_a : IsOtherShell T F f e (back e) one_a.p
    other_a = record {
      shell = shell_moved T G F a f one_a.p (λ t i g. part_before T F G f a b e p q d t i (inl g)) one_a.shell;
      not_first = false_from_ne_true (one_a.p e) (λ m. both_ways (left (those p T) e) hole (is_that_shell T G a one_a.p p e drawn one_a.shell first.ring first.there m first.mine));
      not_second = keeps_off T G a b q one_a.p (back e) second d.differ one_a.shell;
    }

    other_b : left (those q T) (back e) ≡ false → IsOtherShell T F f e (back e) one_b.p
    other_b m = record {
      shell = shell_moved T G F b f one_b.p (λ t i g. part_before T F G f a b e p q d t i (inr g)) one_b.shell;
      not_first = keeps_off T G b a p one_b.p e first (λ k. d.differ (sym k)) one_b.shell;
      not_second = false_from_ne_true (one_b.p (back e)) (λ n. both_ways (left (those q T) (back e)) m (is_that_shell T G b one_b.p q (back e) drawn one_b.shell second.ring second.there n second.mine));
    }

    by_value : (x : Bool) → left (those q T) (back e) ≡ x → x ≡ true
    by_value true m = refl
    by_value false m =
        ⊎_elim
        (λ (none : NoOtherShell T F f e (back e)). absurd (none one_a.p other_a))
        (λ (k : (left (those p T) e ≡ true → left (those q T) (back e) ≡ false) × OneOtherShell T F f e (back e)).
        let s = one_a.shell.ring in
        absurd (d.differ (sym one_a.shell.face ∙ shell_face T G b one_b.p (divided_rings T F G f a b e p q drawn d b) one_b.shell s.step s.there (sym (k.1 one_a.p one_b.p other_a (other_b m) s.step s.there) ∙ s.mine))))
        rest

-- face 0 is divided: the new face has one shell, and face 0 none
pub outer_divided_shells : (T : List Segment) (F G : Segment → ℕ) (f a b : ℕ) (e : Segment) (p q : Segment → Bool) → Drawn T → Divides T F G f a b e p q → IsOuterPart T p e a b →
    left (those q T) (back e) ≡ not (left (those p T) e) → NoOtherShell T F f e (back e) →
    (OneShell T G a × (b ≡ 0) × NoShell T G b) ⊎ (OneShell T G b × (a ≡ 0) × NoShell T G a)
outer_divided_shells T F G f a b e p q drawn d outer turn none =
    ⊎_elim
    (λ (h : (left (those p T) e ≡ true) × (b ≡ 0)).
    inl (
      record {
        p = p;
        shell = shell_at T G a p e (record { ring = d.first; there = d.there; mine = d.first_on; face = one.part e d.there d.first_on }) h.0;
        only = part_has_one T F G f a b p q q e (back e) drawn (rings b) one two d.differ old (inl none);
      },
      h.1,
      λ x hx.
          none x (record {
            shell = shell_moved T G F b f x (λ t i g. old t i (inr g)) hx;
            not_first = keeps_off T G b a p x e one (λ k. d.differ (sym k)) hx;
            not_second = false_from_ne_true (x (back e)) (λ m. both_ways (left (those q T) (back e)) (turn ∙ ap not h.0) (is_that_shell T G b x q (back e) drawn hx d.second two.there m d.second_on));
          }),
    ))
    (λ (h : (left (those p T) e ≡ false) × (a ≡ 0)).
    inr (
      record {
        p = q;
        shell = shell_at T G b q (back e) (record { ring = d.second; there = two.there; mine = d.second_on; face = two.part (back e) two.there d.second_on }) (turn ∙ ap not h.0);
        only = part_has_one T F G f b a q p p (back e) e drawn (rings a) two one (λ k. d.differ (sym k)) (λ t i g. old t i (⊎_elim (λ (k : G t ≡ b). inr k) (λ (k : G t ≡ a). inl k) g)) (inl (λ r k. none r (turned T F f (back e) e r k)));
      },
      h.1,
      λ x hx.
          none x (record {
            shell = shell_moved T G F a f x (λ t i g. old t i (inl g)) hx;
            not_first = false_from_ne_true (x e) (λ m. both_ways (left (those p T) e) h.0 (is_that_shell T G a x p e drawn hx d.first d.there m d.first_on));
            not_second = keeps_off T G a b q x (back e) two d.differ hx;
          }),
    ))
    outer
  where
    rings : (g : ℕ) → Ringwise T (of_face G g)
    rings = divided_rings T F G f a b e p q drawn d

    one : IsPart T G a p e
    one = first_is_part T F G f a b e p q drawn d

    two : IsPart T G b q (back e)
    two = second_is_part T F G f a b e p q drawn d

    old : (t : Segment) → In t T → (G t ≡ a) ⊎ (G t ≡ b) → F t ≡ f
    old = part_before T F G f a b e p q d
