-- Where the list of rings has one shell of a face, or none, so it is by parity.
use Rattle.std.proofs.Common.{◌≡◌, ◌≢◌, ℕ, ◌≤◌, refl, sym, ◌∙◌, ap, subst, arith, ⊎_elim, Bool, true, false, List, [], ◌∷◌, ◌==◌, IsTrue}
use Rattle.std.specs.Prelude.{filter, count_by, if◌then◌else◌}
use Rattle.std.specs.List.{Contains}
use Rattle.std.proofs.lemmas.Bool.{eqb-true, ne_eqb, false_from_ne_true}
use Rattle.plane.specs.Segment.{Segment}
use Rattle.plane.proofs.ListTests.{contains_here, contains_there, contains_cases, contains_none}
use Rattle.drawing.specs.Drawing.{Drawing, has_face}
use Rattle.drawing.specs.HalfEdge.{half_edges}
use Rattle.drawing.specs.Ring.{ring_of}
use Rattle.drawing.specs.Subdivision.{begins_ring, rings, is_shell_of, faces_have_shells}
use Rattle.drawing.proofs.Members.{contains-map, contains-mapped}
use Rattle.face_rings.specs.FaceBorder.{HasRings}
use Rattle.ring_laws.proofs.Known.{all_out, any_out}
use Rattle.parity_laws.specs.Rings.{In}
use Rattle.parity_laws.specs.Shelling.{IsShellOf, OneShell, NoShell}
use Rattle.face_laws.specs.Walked.{steps_of, is_of}
use Rattle.face_laws.specs.Covered.{face_of}
use Rattle.face_laws.proofs.RingsListed.{listed, from_listed}
use Rattle.face_laws.proofs.ShellsListed.{IsListedShell, listed_is_shell, shell_is_listed, count_here}

-- ---- counts
abbrev IsOne : {A : Type 0} → (A → Bool) → List A → A → Type 0
IsOne p xs x = Contains xs x × (p x ≡ true)

at_least_one : {A : Type 0} (p : A → Bool) (xs : List A) (x : A) → IsOne p xs x → 1 ≤ count_by p xs
at_least_one p [] x h = absurd (contains_none x h.0)
at_least_one p (y ∷ xs) x h =
    ⊎_elim
    (λ (e : y ≡ x). let c = count_here p y xs true (subst (λ z. p z ≡ true) (sym e) h.1) in omega (arith, c))
    (λ (c : Contains xs x). by_test (p y) refl (at_least_one p xs x (c, h.1)))
    (contains_cases x y xs h.0)
  where
    by_test : (b : Bool) → p y ≡ b → 1 ≤ count_by p xs → 1 ≤ count_by p (y ∷ xs)
    by_test true e h = let c = count_here p y xs true e in omega (arith, c)
    by_test false e h = let c = count_here p y xs false e in omega (arith, c)

some_counted : {A : Type 0} (p : A → Bool) (xs : List A) → 1 ≤ count_by p xs → (x : A) × IsOne p xs x
some_counted p [] h = absurd (omega (arith, h))
some_counted {A = A} p (y ∷ xs) h = by_test (p y) refl (some_counted p xs)
  where
    by_test : (b : Bool) → p y ≡ b → (1 ≤ count_by p xs → (x : A) × IsOne p xs x) → (x : A) × IsOne p (y ∷ xs) x
    by_test true e rest = (y, (contains_here y xs, e))
    by_test false e rest = let c = count_here p y xs false e in let (x, (there, f)) = rest (omega (arith, c, h)) in (x, (contains_there x y xs there, f))

only_counted : {A : Type 0} (p : A → Bool) (xs : List A) (x y : A) → count_by p xs ≡ 1 → IsOne p xs x → IsOne p xs y → x ≡ y
only_counted p [] x y e h k = absurd (contains_none x h.0)
only_counted p (z ∷ xs) x y e h k =
    ⊎_elim
    (λ (f : z ≡ x). ⊎_elim
    (λ (g : z ≡ y). sym f ∙ g)
    (λ (d : Contains xs y). absurd (no_more (subst (λ w. p w ≡ true) (sym f) h.1) (at_least_one p xs y (d, k.1))))
    (contains_cases y z xs k.0))
    (λ (c : Contains xs x). ⊎_elim
    (λ (g : z ≡ y). absurd (no_more (subst (λ w. p w ≡ true) (sym g) k.1) (at_least_one p xs x (c, h.1))))
    (λ (d : Contains xs y). only_counted p xs x y (rest (at_least_one p xs x (c, h.1))) (c, h.1) (d, k.1))
    (contains_cases y z xs k.0))
    (contains_cases x z xs h.0)
  where
    no_more : p z ≡ true → 1 ≤ count_by p xs → ⊥
    no_more f some = let c = count_here p z xs true f in omega (arith, e, c, some)

    rest : 1 ≤ count_by p xs → count_by p xs ≡ 1
    rest some =
        let c = count_here p z xs false (false_from_ne_true (p z) (λ f. no_more f some)) in
        omega (arith, e, c)

-- ---- the list of rings
count_of : (S : Drawing) (f : ℕ) → IsTrue (faces_have_shells S) → IsTrue (has_face S f) → count_by (is_shell_of f) (rings (half_edges S)) ≡ (if f == 0 then 0 else 1)
count_of S f shells face =
    let (g, (c, e)) = any_out (λ g. g == f) S.faces face in
    let there = subst (Contains S.faces) (eqb-true g f e) c in
    eqb-true (count_by (is_shell_of f) (rings (half_edges S))) (if f == 0 then 0 else 1) (all_out (λ f. count_by (is_shell_of f) (rings (half_edges S)) == (if f == 0 then 0 else 1)) S.faces f shells there)

-- a shell by parity is a shell of the list
is_listed : (S : Drawing) (f : ℕ) (p : Segment → Bool) (l : IsListedShell S f p) → IsOne (is_shell_of f) (rings (half_edges S)) (ring_of (half_edges S) l.half)
is_listed S f p l = (contains-map (ring_of (half_edges S)) l.half (filter (begins_ring (half_edges S)) (half_edges S)) (listed S l.half l.begins), l.shell)

pub no_shell_counted : (S : Drawing) → HasRings S → IsTrue (has_face S 0) → IsTrue (faces_have_shells S) → NoShell (steps_of S) (face_of S) 0
no_shell_counted S has universe shells p shell =
    let l = shell_is_listed S 0 p has shell in
    let none = count_of S 0 shells universe in
    let some = at_least_one (is_shell_of 0) (rings (half_edges S)) (ring_of (half_edges S) l.half) (is_listed S 0 p l) in
    omega (arith, none, some)

pub one_shell_counted : (S : Drawing) (f : ℕ) → HasRings S → IsTrue (has_face S f) → f ≢ 0 → IsTrue (faces_have_shells S) → OneShell (steps_of S) (face_of S) f
one_shell_counted S f has face n shells = record { p = found.0; shell = found.1; only = only }
  where
    one : count_by (is_shell_of f) (rings (half_edges S)) ≡ 1
    one = subst (λ b. count_by (is_shell_of f) (rings (half_edges S)) ≡ (if b then 0 else 1)) (ne_eqb f 0 n) (count_of S f shells face)

    found : (p : Segment → Bool) × IsShellOf (steps_of S) (face_of S) f p
    found =
        let (r, (c, e)) = some_counted (is_shell_of f) (rings (half_edges S)) (omega (arith, one)) in
        let (k, (d, same)) = contains-mapped (ring_of (half_edges S)) r (filter (begins_ring (half_edges S)) (half_edges S)) c in
        (is_of (ring_of (half_edges S) k), listed_is_shell S f k has (from_listed S k d) (subst (λ ring. is_shell_of f ring ≡ true) (sym same) e))

    only : (q r : Segment → Bool) → IsShellOf (steps_of S) (face_of S) f q → IsShellOf (steps_of S) (face_of S) f r → (s : Segment) → In s (steps_of S) → q s ≡ r s
    only q r a b s i =
        let k = shell_is_listed S f q has a in
        let l = shell_is_listed S f r has b in
        k.same s i
        ∙ ap (λ ring. is_of ring s) (only_counted (is_shell_of f) (rings (half_edges S)) (ring_of (half_edges S) k.half) (ring_of (half_edges S) l.half) one (is_listed S f q k) (is_listed S f r l))
        ∙ sym (l.same s i)
