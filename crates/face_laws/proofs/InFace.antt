-- The face that a point is in, from the parities of all faces over it.
use Rattle.std.proofs.Common.{◌≡◌, ◌≢◌, ℕ, zero, suc, refl, sym, ◌∙◌, ap, subst, arith, ⊎_elim, Bool, true, false, not, ◌&&◌, List, [], ◌∷◌, eqb, ◌==◌}
use Rattle.std.specs.Prelude.{IsTrue}
use Rattle.std.specs.List.{list_any}
use Rattle.std.proofs.lemmas.Bool.{and_parts, and_from, or_left, or_right, or_cases, eqb-true, eq-eqb, ne_eqb}
use Rattle.topo_base.specs.RationalPoint.{RationalPoint}
use Rattle.drawing.specs.Drawing.{Drawing, has_face}
use Rattle.drawing.specs.DrawnPoints.{is_in_face_at}
use Rattle.drawing.specs.Faced.{is_in_other, is_in}

-- g is the one face that has q
abbrev pub IsOnlyIn : Drawing → RationalPoint → ℕ → Type 0
IsOnlyIn S q g = (f : ℕ) → f ≢ 0 → is_in_face_at S f q ≡ eqb g f

none_of : (p : ℕ → Bool) (fs : List ℕ) → ((f : ℕ) → p f ≡ false) → list_any p fs ≡ false
none_of p [] h = refl
none_of p (f ∷ fs) h = rw (h f) (none_of p fs h)

not_zero : (k : ℕ) → suc k ≢ 0
not_zero k e = omega (arith, e)

other_than : (k : ℕ) (x y : Bool) → x ≡ y → not (suc k == 0) && x ≡ y
other_than k x y e = by_test (suc k == 0) (ne_eqb (suc k) 0 (not_zero k))
  where
    by_test : (b : Bool) → b ≡ false → not b && x ≡ y
    by_test true f = cc
    by_test false f = e

pub in_by : (S : Drawing) (q : RationalPoint) (g : ℕ) → IsOnlyIn S q g → IsTrue (has_face S g) → IsTrue (is_in S g q)
in_by S q zero h face = and_from (has_face S 0) (not (is_in_other S q)) face (ap not (none_of (λ f. not (f == 0) && is_in_face_at S f q) S.faces no))
  where
    no : (f : ℕ) → not (f == 0) && is_in_face_at S f q ≡ false
    no zero = refl
    no (suc k) = other_than k (is_in_face_at S (suc k) q) false (h (suc k) (not_zero k) ∙ ne_eqb 0 (suc k) (λ e. not_zero k (sym e)))
in_by S q (suc k) h face = rw (ne_eqb (suc k) 0 (not_zero k)) (and_from (has_face S (suc k)) (is_in_face_at S (suc k) q) face (h (suc k) (not_zero k) ∙ eq-eqb (suc k) (suc k) refl))

-- a point that is in a face by the definition is in that one
pub in_out : (S : Drawing) (q : RationalPoint) (f g : ℕ) → IsOnlyIn S q g → IsTrue (has_face S g) → IsTrue (is_in S f q) → f ≡ g
in_out S q zero zero h face i = refl
in_out S q zero (suc k) h face i =
    absurd (never (is_in_other S q) (listed S.faces face) (and_parts (has_face S 0) (not (is_in_other S q)) i).1)
  where
    own : is_in_face_at S (suc k) q ≡ true
    own = h (suc k) (not_zero k) ∙ eq-eqb (suc k) (suc k) refl

    at : (f : ℕ) → eqb f (suc k) ≡ true → not (f == 0) && is_in_face_at S f q ≡ true
    at f e = subst (λ n. not (n == 0) && is_in_face_at S n q ≡ true) (sym (eqb-true f (suc k) e)) (other_than k (is_in_face_at S (suc k) q) true own)

    listed : (fs : List ℕ) → list_any (λ g. g == suc k) fs ≡ true → list_any (λ f. not (f == 0) && is_in_face_at S f q) fs ≡ true
    listed [] e = e
    listed (f ∷ fs) e = ⊎_elim (λ (l : eqb f (suc k) ≡ true). or_left (not (f == 0) && is_in_face_at S f q) (list_any (λ f. not (f == 0) && is_in_face_at S f q) fs) (at f l)) (λ (r : list_any (λ g. g == suc k) fs ≡ true). or_right (not (f == 0) && is_in_face_at S f q) (list_any (λ f. not (f == 0) && is_in_face_at S f q) fs) (listed fs r)) (or_cases (eqb f (suc k)) (list_any (λ g. g == suc k) fs) e)

    never : (b : Bool) → b ≡ true → not b ≡ true → ⊥
    never true e f = cc
    never false e f = cc
in_out S q (suc f) g h face i = sym (eqb-true g (suc f) (sym (h (suc f) (not_zero f)) ∙ (and_parts (has_face S (suc f)) (is_in_face_at S (suc f) q) (rw (ne_eqb (suc f) 0 (not_zero f)) at i)).1))
