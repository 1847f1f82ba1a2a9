-- Where each listed face but 0 has one shell, and face 0 none, the list of rings has as many shells of each.
use Rattle.std.proofs.Common.{◌≡◌, ◌≢◌, ℕ, ◌+◌, refl, sym, ◌∙◌, ap, subst, arith, ⊎_elim, Bool, true, false, cond, List, [], ◌∷◌, ◌==◌, map, IsTrue}
use Rattle.std.specs.Prelude.{filter, count_by, if◌then◌else◌}
use Rattle.std.specs.List.{list_any, Contains}
use Rattle.std.proofs.lemmas.Bool.{and_parts, and_from, both_ways, false_from_ne_true, eqb-true, eq-eqb}
use Rattle.std.proofs.lemmas.List.Sums.{sum_by-cons}
use Rattle.drawing.specs.Drawing.{Drawing, edge_id_of, has_face}
use Rattle.drawing.specs.HalfEdge.{HalfEdge, half_edges}
use Rattle.drawing.specs.Ring.{ring_of, is_shell}
use Rattle.plane.specs.Segment.{Segment}
use Rattle.drawing.specs.Subdivision.{begins_ring, rings, is_shell_of, faces_have_shells}
use Rattle.plane.proofs.LineTests.{all_from}
use Rattle.plane.proofs.ListTests.{contains_here, contains_there, contains_cases, contains_none, Decides-any, Decides-all}
use Rattle.drawing.proofs.Members.{Pairwise, pairwise-filter, ids_differ}
use Rattle.face_rings.specs.FaceBorder.{HasRings}
use Rattle.face_rings.proofs.FaceBorders.{has_plain_lines}
use Rattle.parity_laws.specs.Rings.{In}
use Rattle.parity_laws.specs.Steps.{left}
use Rattle.parity_laws.specs.Shelling.{IsShellOf, OneShell, NoShell}
use Rattle.face_laws.specs.Walked.{steps_of, is_of}
use Rattle.face_laws.specs.Covered.{face_of}
use Rattle.face_laws.proofs.FaceOnLeft.{left_is, one_has, has_one}
use Rattle.face_laws.proofs.PlainSteps.{halves_differ, half_with, one_half, step_there}
use Rattle.face_laws.proofs.RingLabels.{first_step, ring_steps, ring_ringwise, ring_is_one, own_steps, in_own_ring}
use Rattle.parity_laws.proofs.Labels.{those_same, rings_same}
use Rattle.face_laws.proofs.RingsListed.{Begins, listed, from_listed, has_listed, begins_one}
use Rattle.face_laws.proofs.RingSums.{AreOther}
use Rattle.face_laws.proofs.ShellTests.{shell_at, shell_of_ring, first_on}

-- ---- counts
count_cons : {A : Type 0} (p : A → Bool) (x : A) (xs : List A) → count_by p (x ∷ xs) ≡ cond (p x) 1 0 + count_by p xs
count_cons {A = A} p x xs = sum_by-cons (λ (y : A). cond (p y) 1 0) x xs

pub count_here : {A : Type 0} (p : A → Bool) (x : A) (xs : List A) (b : Bool) → p x ≡ b → count_by p (x ∷ xs) ≡ cond b 1 0 + count_by p xs
count_here p x xs b e = count_cons p x xs ∙ ap (λ c. cond c 1 0 + count_by p xs) e

count_none : {A B : Type 0} (p : B → Bool) (f : A → B) (xs : List A) → ((x : A) → Contains xs x → p (f x) ≡ false) → count_by p (map f xs) ≡ 0
count_none p f [] none = refl
count_none p f (x ∷ xs) none =
    let e = count_here p (f x) (map f xs) false (none x (contains_here x xs)) in
    let g = count_none p f xs (λ y c. none y (contains_there y x xs c)) in
    omega (arith, e, g)

-- x is the one of these half-edges that passes
record IsOnly {B : Type 0} (p : B → Bool) (f : HalfEdge → B) (xs : List HalfEdge) (x : HalfEdge) : Type 0 where
  there : Contains xs x
  passes : p (f x) ≡ true
  only : (y : HalfEdge) → Contains xs y → p (f y) ≡ true → y ≡ x

count_one : {B : Type 0} (p : B → Bool) (f : HalfEdge → B) (xs : List HalfEdge) (x : HalfEdge) → Pairwise AreOther xs → IsOnly p f xs x → count_by p (map f xs) ≡ 1
count_one p f [] x others h = absurd (contains_none x h.there)
count_one p f (z ∷ xs) x others h =
    ⊎_elim
    (λ (e : z ≡ x).
    let first = count_here p (f z) (map f xs) true (subst (λ (y : HalfEdge). p (f y) ≡ true) (sym e) h.passes) in
    let rest = count_none p f xs (λ y c. false_from_ne_true (p (f y)) (λ g. others.0 y c (e ∙ sym (h.only y (contains_there y z xs c) g)))) in
    omega (arith, first, rest))
    (λ (c : Contains xs x).
    let first = count_here p (f z) (map f xs) false (false_from_ne_true (p (f z)) (λ g. others.0 x c (h.only z (contains_here z xs) g))) in
    let rest = count_one p f xs x others.1 (record { there = c; passes = h.passes; only = λ y d g. h.only y (contains_there y z xs d) g }) in
    omega (arith, first, rest))
    (contains_cases x z xs h.there)

-- ---- shells of the list and shells by parity
pub listed_is_shell : (S : Drawing) (f : ℕ) (k : HalfEdge) → HasRings S → Begins S k → is_shell_of f (ring_of (half_edges S) k) ≡ true → IsShellOf (steps_of S) (face_of S) f (is_of (ring_of (half_edges S) k))
listed_is_shell S f k has b e =
    let both = and_parts (list_any (λ (h : HalfEdge). h.on_left == f) (ring_of (half_edges S) k)) (is_shell (ring_of (half_edges S) k)) e in
    let (m, (c, g)) = (Decides-any (λ (h : HalfEdge). h.on_left == f) (λ h. (h.on_left == f) ≡ true) (λ h. (λ t. t, λ t. t)) (ring_of (half_edges S) k)).0 both.0 in
    subst (λ z. IsShellOf (steps_of S) (face_of S) z (is_of (ring_of (half_edges S) k))) (sym (ring_steps S k m has b.there c).left ∙ eqb-true m.on_left f g) (shell_of_ring S k has b.there both.1)

-- a shell by parity is the ring of a half-edge of the list
pub record IsListedShell (S : Drawing) (f : ℕ) (p : Segment → Bool) : Type 0 where
  pub half : HalfEdge
  pub begins : Begins S half
  pub same : (s : Segment) → In s (steps_of S) → p s ≡ is_of (ring_of (half_edges S) half) s
  pub shell : is_shell_of f (ring_of (half_edges S) half) ≡ true

pub shell_is_listed : (S : Drawing) (f : ℕ) (p : Segment → Bool) → HasRings S → IsShellOf (steps_of S) (face_of S) f p → IsListedShell S f p
shell_is_listed S f p has sh =
    let s = sh.ring.step in
    let (h, (c, i)) = half_with S s sh.ring.there in
    let l = has_listed S h has c in
    let k = l.least in
    let ring = ring_of (half_edges S) k in
    let mine = has_one ring s h l.mine i in
    let same = rings_same (steps_of S) p (is_of ring) s sh.ring.ringwise sh.ring.one (ring_ringwise S k has l.begins.there) (ring_is_one S k has l.begins.there) sh.ring.there sh.ring.mine mine in
    let left_too = shell_at S k s has l.begins.there sh.ring.there mine ∙ ap (λ X. left X s) (sym (those_same p (is_of ring) (steps_of S) same)) ∙ sh.is_left in
    record {
      half = k;
      begins = l.begins;
      same = same;
      shell = and_from (list_any (λ (x : HalfEdge). x.on_left == f) ring) (is_shell ring)
          ((Decides-any (λ (x : HalfEdge). x.on_left == f) (λ x. (x.on_left == f) ≡ true) (λ x. (λ t. t, λ t. t)) ring).1
          (h, (l.mine, eq-eqb h.on_left f (sym (left_is S h s (has_plain_lines S has) c i) ∙ sh.face))))
          left_too;
    }

-- two listed shells of a face with one shell are one
shells_one : (S : Drawing) (f : ℕ) (m k : HalfEdge) → HasRings S → OneShell (steps_of S) (face_of S) f → Begins S m → Begins S k →
    is_shell_of f (ring_of (half_edges S) m) ≡ true → is_shell_of f (ring_of (half_edges S) k) ≡ true → m ≡ k
shells_one S f m k has one bm bk em ek =
    let s = first_step m in
    let i = first_on S m has bm.there in
    let good = has_plain_lines S has in
    let same = one.only (is_of (ring_of (half_edges S) m)) (is_of (ring_of (half_edges S) k)) (listed_is_shell S f m has bm em) (listed_is_shell S f k has bk ek) s (step_there S m s bm.there i) in
    let (x, (c, j)) = one_has (ring_of (half_edges S) k) s (sym same ∙ own_steps S m s i) in
    let in_k = subst (Contains (ring_of (half_edges S) k)) (one_half S x m s good (ring_steps S k x has bk.there c).there bm.there j i) c in
    begins_one S m m k has bm bk bm.there (in_own_ring S m) in_k

-- ---- the counts of shells
no_shells : (S : Drawing) → HasRings S → NoShell (steps_of S) (face_of S) 0 → count_by (is_shell_of 0) (rings (half_edges S)) ≡ 0
no_shells S has none =
    count_none (is_shell_of 0) (ring_of (half_edges S)) (filter (begins_ring (half_edges S)) (half_edges S)) (λ k c.
    false_from_ne_true (is_shell_of 0 (ring_of (half_edges S) k)) (λ e. none (is_of (ring_of (half_edges S) k)) (listed_is_shell S 0 k has (from_listed S k c) e)))

one_shell : (S : Drawing) (f : ℕ) → HasRings S → OneShell (steps_of S) (face_of S) f → count_by (is_shell_of f) (rings (half_edges S)) ≡ 1
one_shell S f has one =
    let l = shell_is_listed S f one.p has one.shell in
    count_one (is_shell_of f) (ring_of (half_edges S)) (filter (begins_ring (half_edges S)) (half_edges S)) l.half
    (pairwise-filter AreOther (begins_ring (half_edges S)) (half_edges S) (halves_differ S.edges (ids_differ edge_id_of 0 S.next_ids.edge S.edges (has_plain_lines S has).edge_ids)))
    (record { there = listed S l.half l.begins; passes = l.shell; only = λ m c e. shells_one S f m l.half has one (from_listed S m c) l.begins e l.shell })

pub shells_listed : (S : Drawing) → HasRings S → ((f : ℕ) → IsTrue (has_face S f) → f ≢ 0 → OneShell (steps_of S) (face_of S) f) → NoShell (steps_of S) (face_of S) 0 → IsTrue (faces_have_shells S)
shells_listed S has one none =
    (Decides-all (λ f. count_by (is_shell_of f) (rings (half_edges S)) == (if f == 0 then 0 else 1)) (λ f. (count_by (is_shell_of f) (rings (half_edges S)) == (if f == 0 then 0 else 1)) ≡ true) (λ f. (λ t. t, λ t. t)) S.faces).1
    (all_from (λ f. (count_by (is_shell_of f) (rings (half_edges S)) == (if f == 0 then 0 else 1)) ≡ true) S.faces (λ f c. by_face f c (f == 0) refl))
  where
    by_face : (f : ℕ) → Contains S.faces f → (b : Bool) → (f == 0) ≡ b → (count_by (is_shell_of f) (rings (half_edges S)) == (if b then 0 else 1)) ≡ true
    by_face f c true e =
        eq-eqb (count_by (is_shell_of f) (rings (half_edges S))) 0 (subst (λ g. count_by (is_shell_of g) (rings (half_edges S)) ≡ 0) (sym (eqb-true f 0 e)) (no_shells S has none))
    by_face f c false e =
        eq-eqb (count_by (is_shell_of f) (rings (half_edges S))) 1
        (one_shell S f has (one f ((Decides-any (λ g. g == f) (λ g. (g == f) ≡ true) (λ g. (λ t. t, λ t. t)) S.faces).1 (f, (c, eq-eqb f f refl))) (λ z. both_ways (f == 0) e (eq-eqb f 0 z))))
