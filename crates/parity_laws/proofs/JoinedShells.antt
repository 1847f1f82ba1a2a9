-- Shells where a line goes between two faces: the face that they become has one, or none where one of them is the outer face.
use Rattle.std.proofs.Common.{◌≡◌, ◌≢◌, refl, sym, ◌∙◌, subst, ℕ, ◌⊎◌, inl, inr, ⊎_elim, Bool, true, false, not, List, ◌∷◌, eqb, eq-eqb}
use Rattle.std.proofs.lemmas.Bool.{both_ways, eqb-true, false_from_ne_true, true_from_ne_false}
use Rattle.plane.specs.Segment.{Segment}
use Rattle.plane.specs.Parity.{xor}
use Rattle.plane.specs.Crossings.{back}
use Rattle.parity_laws.specs.Steps.{left}
use Rattle.parity_laws.specs.Rings.{In, those}
use Rattle.parity_laws.specs.Shelling.{IsShellOf, OneShell, NoShell}
use Rattle.parity_laws.specs.Coming.{with_line, Enters}
use Rattle.parity_laws.proofs.OnLine.{forth_in, back_in}
use Rattle.parity_laws.proofs.JoinedRings.{left_empty}
use Rattle.parity_laws.proofs.LineShells.{ring_face}
use Rattle.parity_laws.proofs.LineGone.{first_there, back_there, with_value, value_on_line}
use Rattle.parity_laws.proofs.LineGoneShells.{OffLine, was_shell, Elsewhere, elsewhere_stays, elsewhere_none, shell_on, shell_off_hole, shell_off_face, shell_from, not_other}
use Rattle.parity_laws.proofs.JoinedFaces.{TwoFaces, number_joined, number_other, joined_ringwise}
use Rattle.parity_laws.proofs.JoinedSides.{JoinsRings, joins_rings, line_ring_left, joined_left, is_or_off, not_two_holes, entry_of_two}

-- the own parities of the two rings and of the ring that they become
abbrev pub forth_left : List Segment → Segment → List Segment → (Segment → Bool) → Bool
forth_left T first rest p = left (those p (with_line T (first ∷ rest))) first

abbrev pub walked_left : List Segment → Segment → List Segment → (Segment → Bool) → Bool
walked_left T first rest q = left (those q (with_line T (first ∷ rest))) (back first)

parity_of : (T : List Segment) (first : Segment) (rest : List Segment) (last : Segment) (F' F : Segment → ℕ) (l r k : ℕ) (p q R : Segment → Bool) → JoinsRings T first rest last F' F l r k p q R →
    (x y : Bool) → forth_left T first rest p ≡ x → walked_left T first rest q ≡ y → left (those R T) first ≡ not (xor x y)
parity_of T first rest last F' F l r k p q R j x y e f =
    joined_left T first rest last p q R j.faces.comes j.cut j.ring ∙ sum_of (forth_left T first rest p) (walked_left T first rest q) e f
  where
    sum_of : (a b : Bool) → a ≡ x → b ≡ y → not (xor a b) ≡ not (xor x y)
    sum_of a b e f = rw (e, f)

-- ---- shells of the joined face
-- one that is on the line's ring tells that ring's parity
on_ring : (T : List Segment) (first : Segment) (rest : List Segment) (last : Segment) (F' F : Segment → ℕ) (l r k g : ℕ) (p q R u : Segment → Bool) → JoinsRings T first rest last F' F l r k p q R → IsShellOf T F g u →
    ((t : Segment) → In t T → u t ≡ R t) → left (those R T) first ≡ true
on_ring T first rest last F' F l r k g p q R u j shell same =
    let s = shell.ring.step in
    let i = shell.ring.there in
    let e = sym (same s i) ∙ shell.ring.mine in
    sym (line_ring_left T first rest last R j.faces.comes j.ring s i e) ∙ shell_on T F g u R s j.faces.comes.old shell j.ring.ringwise j.ring.one i shell.ring.mine e

-- one that doesn't enter the line was a shell of one of the two faces
was_of_two : (T : List Segment) (first : Segment) (rest : List Segment) (last : Segment) (F' F : Segment → ℕ) (l r k : ℕ) (u : Segment → Bool) → TwoFaces T first rest last F' F l r k → IsShellOf T F k u → OffLine T first rest last u →
    IsShellOf (with_line T (first ∷ rest)) F' l (with_value (first ∷ rest) false u) ⊎ IsShellOf (with_line T (first ∷ rest)) F' r (with_value (first ∷ rest) false u)
was_of_two T first rest last F' F l r k u h shell off = by_face (eqb (F' s) l) (eqb (F' s) r) refl refl (number_joined l r k (F' s) (F s) h.differ (h.numbers s shell.ring.there) ∙ eq-eqb (F s) k shell.face)
  where
    s : Segment
    s = shell.ring.step

    by_face : (a b : Bool) → eqb (F' shell.ring.step) l ≡ a → eqb (F' shell.ring.step) r ≡ b → xor a b ≡ true →
        IsShellOf (with_line T (first ∷ rest)) F' l (with_value (first ∷ rest) false u) ⊎ IsShellOf (with_line T (first ∷ rest)) F' r (with_value (first ∷ rest) false u)
    by_face true b e f g = inl (was_shell T first rest last F' F l k u h.comes shell off (eqb-true (F' shell.ring.step) l e))
    by_face false true e f g = inr (was_shell T first rest last F' F r k u h.comes shell off (eqb-true (F' shell.ring.step) r f))
    by_face false false e f g = absurd (both_ways false refl g)

-- ---- the rings on the two sides
p_shell : (T : List Segment) (first : Segment) (rest : List Segment) (last : Segment) (F' F : Segment → ℕ) (l r k : ℕ) (p q R : Segment → Bool) → JoinsRings T first rest last F' F l r k p q R →
    forth_left T first rest p ≡ true → IsShellOf (with_line T (first ∷ rest)) F' l p
p_shell T first rest last F' F l r k p q R j e = shell_from (with_line T (first ∷ rest)) F' l p first j.cut.p_rings j.cut.p_one (first_there T first rest) j.cut.forth j.faces.forth e

q_shell : (T : List Segment) (first : Segment) (rest : List Segment) (last : Segment) (F' F : Segment → ℕ) (l r k : ℕ) (p q R : Segment → Bool) → JoinsRings T first rest last F' F l r k p q R →
    walked_left T first rest q ≡ true → IsShellOf (with_line T (first ∷ rest)) F' r q
q_shell T first rest last F' F l r k p q R j e = shell_from (with_line T (first ∷ rest)) F' r q (back first) j.cut.q_rings j.cut.q_one (back_there T first rest) j.cut.walked j.faces.walked e

no_left : (T : List Segment) (first : Segment) (rest : List Segment) (last : Segment) (F' F : Segment → ℕ) (l r k : ℕ) (p q R : Segment → Bool) → JoinsRings T first rest last F' F l r k p q R →
    OneShell (with_line T (first ∷ rest)) F' l → forth_left T first rest p ≡ true → (u : Segment → Bool) → IsShellOf (with_line T (first ∷ rest)) F' l (with_value (first ∷ rest) false u) → ⊥
no_left T first rest last F' F l r k p q R j one e u a =
    not_other (with_line T (first ∷ rest)) F' l (with_value (first ∷ rest) false u) p first one a (p_shell T first rest last F' F l r k p q R j e) (first_there T first rest)
    (value_on_line (first ∷ rest) false u first (forth_in (first ∷ rest) first (inl refl))) j.cut.forth

no_right : (T : List Segment) (first : Segment) (rest : List Segment) (last : Segment) (F' F : Segment → ℕ) (l r k : ℕ) (p q R : Segment → Bool) → JoinsRings T first rest last F' F l r k p q R →
    OneShell (with_line T (first ∷ rest)) F' r → walked_left T first rest q ≡ true → (u : Segment → Bool) → IsShellOf (with_line T (first ∷ rest)) F' r (with_value (first ∷ rest) false u) → ⊥
no_right T first rest last F' F l r k p q R j one e u a =
    not_other (with_line T (first ∷ rest)) F' r (with_value (first ∷ rest) false u) q (back first) one a (q_shell T first rest last F' F l r k p q R j e) (back_there T first rest)
    (value_on_line (first ∷ rest) false u (back first) (back_in (first ∷ rest) first (inl refl))) j.cut.walked

-- where they become a hole, the joined face's shells don't enter the line
off_hole : (T : List Segment) (first : Segment) (rest : List Segment) (last : Segment) (F' F : Segment → ℕ) (l r k : ℕ) (p q R : Segment → Bool) → JoinsRings T first rest last F' F l r k p q R →
    left (those R T) first ≡ false → (u : Segment → Bool) → IsShellOf T F k u → OffLine T first rest last u
off_hole T first rest last F' F l r k p q R j e u a =
    ⊎_elim
    (λ (g : (t : Segment) → In t T → u t ≡ R t). absurd (both_ways (left (those R T) first) e (on_ring T first rest last F' F l r k k p q R u j a g)))
    (λ (g : OffLine T first rest last u). g)
    (is_or_off T first rest last R u j.ring a.ring)

-- ---- by which of the two rings are shells
pub joined_one_shell : (T : List Segment) (first : Segment) (rest : List Segment) (last : Segment) (F' F : Segment → ℕ) (l r k : ℕ) (p q R : Segment → Bool) → JoinsRings T first rest last F' F l r k p q R →
    OneShell (with_line T (first ∷ rest)) F' l → OneShell (with_line T (first ∷ rest)) F' r → OneShell T F k
joined_one_shell T first rest last F' F l r k p q R j on_left on_right = by_parities (forth_left T first rest p) (walked_left T first rest q) refl refl
  where
    -- both are: so is what they become, and nothing else
    both : forth_left T first rest p ≡ true → walked_left T first rest q ≡ true → OneShell T F k
    both e f =
        ⊎_elim
        (λ (none : (t : Segment) → In t T → R t ≡ false). absurd (both_ways (left (those R T) first) (left_empty T R first none) is))
        (λ (d : (d : Segment) × (In d T × (Enters (with_line T (first ∷ rest)) first last d × (R d ≡ true)))).
        record {
          p = R;
          shell = shell_from T F k R d.0 j.ring.ringwise j.ring.one d.1.0 d.1.1.1 (entry_of_two T first rest last F' F l r k j.faces d.0 d.1.0 d.1.1.0)
              (line_ring_left T first rest last R j.faces.comes j.ring d.0 d.1.0 d.1.1.1 ∙ is);
          only = λ u v a b s i. ring_of u a s i ∙ sym (ring_of v b s i);
        })
        j.ring.near
      where
        is : left (those R T) first ≡ true
        is = parity_of T first rest last F' F l r k p q R j true true e f

        ring_of : (u : Segment → Bool) → IsShellOf T F k u → (t : Segment) → In t T → u t ≡ R t
        ring_of u a =
            ⊎_elim
            (λ (g : (t : Segment) → In t T → u t ≡ R t). g)
            (λ (g : OffLine T first rest last u). absurd (⊎_elim (no_left T first rest last F' F l r k p q R j on_left e u) (no_right T first rest last F' F l r k p q R j on_right f u) (was_of_two T first rest last F' F l r k u j.faces a g)))
            (is_or_off T first rest last R u j.ring a.ring)

    -- one is: what they become is a hole, and the other face's shell stays
    left_only : forth_left T first rest p ≡ true → walked_left T first rest q ≡ false → OneShell T F k
    left_only e f =
        elsewhere_stays T first rest last F' F r k
        (record {
          comes = j.faces.comes;
          same = λ s i m. (j.faces.numbers s i).joined (inr m);
          off = λ v a. (
            shell_off_face (with_line T (first ∷ rest)) F' r v first j.faces.rings a (first_there T first rest) (λ m. j.faces.differ (sym j.faces.forth ∙ m)),
            shell_off_hole (with_line T (first ∷ rest)) F' r v q (back first) j.faces.comes.new a j.cut.q_rings j.cut.q_one (back_there T first rest) j.cut.walked f,
          );
          was = λ u a. ⊎_elim (λ (b : IsShellOf (with_line T (first ∷ rest)) F' l (with_value (first ∷ rest) false u)). absurd (no_left T first rest last F' F l r k p q R j on_left e u b)) (λ (b : IsShellOf (with_line T (first ∷ rest)) F' r (with_value (first ∷ rest) false u)). b)
              (was_of_two T first rest last F' F l r k u j.faces a (off_hole T first rest last F' F l r k p q R j (parity_of T first rest last F' F l r k p q R j true false e f) u a));
        })
        on_right

    right_only : forth_left T first rest p ≡ false → walked_left T first rest q ≡ true → OneShell T F k
    right_only e f =
        elsewhere_stays T first rest last F' F l k
        (record {
          comes = j.faces.comes;
          same = λ s i m. (j.faces.numbers s i).joined (inl m);
          off = λ v a. (
            shell_off_hole (with_line T (first ∷ rest)) F' l v p first j.faces.comes.new a j.cut.p_rings j.cut.p_one (first_there T first rest) j.cut.forth e,
            shell_off_face (with_line T (first ∷ rest)) F' l v (back first) j.faces.rings a (back_there T first rest) (λ m. j.faces.differ (sym m ∙ j.faces.walked)),
          );
          was = λ u a. ⊎_elim (λ (b : IsShellOf (with_line T (first ∷ rest)) F' l (with_value (first ∷ rest) false u)). b) (λ (b : IsShellOf (with_line T (first ∷ rest)) F' r (with_value (first ∷ rest) false u)). absurd (no_right T first rest last F' F l r k p q R j on_right f u b))
              (was_of_two T first rest last F' F l r k u j.faces a (off_hole T first rest last F' F l r k p q R j (parity_of T first rest last F' F l r k p q R j false true e f) u a));
        })
        on_left

    by_parities : (x y : Bool) → forth_left T first rest p ≡ x → walked_left T first rest q ≡ y → OneShell T F k
    by_parities true true e f = both e f
    by_parities true false e f = left_only e f
    by_parities false true e f = right_only e f
    by_parities false false e f = absurd (not_two_holes T first rest last p q j.faces.comes j.cut e f)

-- where one of the two faces has no shell, the other one's goes with the line
pub joined_no_shell : (T : List Segment) (first : Segment) (rest : List Segment) (last : Segment) (F' F : Segment → ℕ) (l r k : ℕ) (p q R : Segment → Bool) → JoinsRings T first rest last F' F l r k p q R →
    (NoShell (with_line T (first ∷ rest)) F' l × OneShell (with_line T (first ∷ rest)) F' r) ⊎ (OneShell (with_line T (first ∷ rest)) F' l × NoShell (with_line T (first ∷ rest)) F' r) → NoShell T F k
joined_no_shell T first rest last F' F l r k p q R j shells u shell = ⊎_elim left_none right_none shells
  where
    left_none : NoShell (with_line T (first ∷ rest)) F' l × OneShell (with_line T (first ∷ rest)) F' r → ⊥
    left_none h =
        let e : forth_left T first rest p ≡ false = false_from_ne_true (forth_left T first rest p) (λ m. h.0 p (p_shell T first rest last F' F l r k p q R j m)) in
        let f : walked_left T first rest q ≡ true = true_from_ne_false (walked_left T first rest q) (λ m. not_two_holes T first rest last p q j.faces.comes j.cut e m) in
        ⊎_elim (h.0 (with_value (first ∷ rest) false u)) (no_right T first rest last F' F l r k p q R j h.1 f u)
        (was_of_two T first rest last F' F l r k u j.faces shell (off_hole T first rest last F' F l r k p q R j (parity_of T first rest last F' F l r k p q R j false true e f) u shell))

    right_none : OneShell (with_line T (first ∷ rest)) F' l × NoShell (with_line T (first ∷ rest)) F' r → ⊥
    right_none h =
        let f : walked_left T first rest q ≡ false = false_from_ne_true (walked_left T first rest q) (λ m. h.1 q (q_shell T first rest last F' F l r k p q R j m)) in
        let e : forth_left T first rest p ≡ true = true_from_ne_false (forth_left T first rest p) (λ m. not_two_holes T first rest last p q j.faces.comes j.cut m f) in
        ⊎_elim (no_left T first rest last F' F l r k p q R j h.0 e u) (h.1 (with_value (first ∷ rest) false u))
        (was_of_two T first rest last F' F l r k u j.faces shell (off_hole T first rest last F' F l r k p q R j (parity_of T first rest last F' F l r k p q R j true false e f) u shell))

-- ---- other faces
pub joined_elsewhere : (T : List Segment) (first : Segment) (rest : List Segment) (last : Segment) (F' F : Segment → ℕ) (l r k g : ℕ) → TwoFaces T first rest last F' F l r k → g ≢ k → g ≢ l → g ≢ r →
    Elsewhere T first rest last F' F g g
joined_elsewhere T first rest last F' F l r k g h nk nl nr = record {
  comes = h.comes;
  same = λ s i e. eqb-true (F s) g (sym (number_other l r k (F' s) (F s) g (h.numbers s i) nk nl nr) ∙ eq-eqb (F' s) g e);
  off = λ v a. (
    shell_off_face (with_line T (first ∷ rest)) F' g v first h.rings a (first_there T first rest) (λ e. nl (sym e ∙ h.forth)),
    shell_off_face (with_line T (first ∷ rest)) F' g v (back first) h.rings a (back_there T first rest) (λ e. nr (sym e ∙ h.walked)),
  );
  was = λ u a. was_shell T first rest last F' F g g u h.comes a
      (λ d i e enters. nk (sym a.face ∙ ring_face T F u (joined_ringwise T first rest last F' F l r k h) a.ring.one a.ring.step d a.ring.there i a.ring.mine e ∙ entry_of_two T first rest last F' F l r k h d i enters))
      (eqb-true (F' a.ring.step) g (number_other l r k (F' a.ring.step) (F a.ring.step) g (h.numbers a.ring.step a.ring.there) nk nl nr ∙ eq-eqb (F a.ring.step) g a.face));
}

-- ---- all faces
-- k is the outer face where one of the two is
pub record OuterJoins (l r k : ℕ) : Type 0 where
  pub outer : k ≡ 0 → (l ≡ 0) ⊎ (r ≡ 0)
  pub inner : k ≢ 0 → (l ≢ 0) × (r ≢ 0)

-- each face that had one shell has one, but the two that are joined; they have one as the face k, where k isn't the outer face
pub joined_shells : (T : List Segment) (first : Segment) (rest : List Segment) (last : Segment) (F' F : Segment → ℕ) (l r k : ℕ) → TwoFaces T first rest last F' F l r k → OuterJoins l r k →
    (l ≢ 0 → OneShell (with_line T (first ∷ rest)) F' l) → (r ≢ 0 → OneShell (with_line T (first ∷ rest)) F' r) → (k ≢ 0 → OneShell T F k) × ((g : ℕ) → g ≢ k → g ≢ l → g ≢ r → OneShell (with_line T (first ∷ rest)) F' g → OneShell T F g)
joined_shells T first rest last F' F l r k h outer at_l at_r = (
  (λ n. let j = joins_rings T first rest last F' F l r k h in let both = outer.inner n in joined_one_shell T first rest last F' F l r k j.0 j.1.0 j.1.1.0 j.1.1.1 (at_l both.0) (at_r both.1)),
  (λ g nk nl nr one. elsewhere_stays T first rest last F' F g g (joined_elsewhere T first rest last F' F l r k g h nk nl nr) one),
)

-- and the outer face has none
pub joined_outer : (T : List Segment) (first : Segment) (rest : List Segment) (last : Segment) (F' F : Segment → ℕ) (l r k : ℕ) → TwoFaces T first rest last F' F l r k → OuterJoins l r k →
    (l ≢ 0 → OneShell (with_line T (first ∷ rest)) F' l) → (r ≢ 0 → OneShell (with_line T (first ∷ rest)) F' r) → NoShell (with_line T (first ∷ rest)) F' 0 → NoShell T F 0
joined_outer T first rest last F' F l r k h outer at_l at_r none = by_number (eqb k 0) refl
  where
    by_number : (b : Bool) → eqb k 0 ≡ b → NoShell T F 0
    by_number true e =
        let zero : k ≡ 0 = eqb-true k 0 e in
        let j = joins_rings T first rest last F' F l r k h in
        subst (λ z. NoShell T F z) zero (joined_no_shell T first rest last F' F l r k j.0 j.1.0 j.1.1.0 j.1.1.1
        (⊎_elim
        (λ (m : l ≡ 0). inl (subst (λ z. NoShell (with_line T (first ∷ rest)) F' z) (sym m) none, at_r (λ n. h.differ (m ∙ sym n))))
        (λ (m : r ≡ 0). inr (at_l (λ n. h.differ (n ∙ sym m)), subst (λ z. NoShell (with_line T (first ∷ rest)) F' z) (sym m) none))
        (outer.outer zero)))
    by_number false e =
        let n : k ≢ 0 = (λ m. both_ways (eqb k 0) e (eq-eqb k 0 m)) in
        let both = outer.inner n in
        elsewhere_none T first rest last F' F 0 0 (joined_elsewhere T first rest last F' F l r k 0 h (λ m. n (sym m)) (λ m. both.0 (sym m)) (λ m. both.1 (sym m))) none
