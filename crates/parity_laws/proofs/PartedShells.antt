-- Shells where a line goes that had one face on both of its sides: each face keeps one shell, or none.
use Rattle.std.proofs.Common.{◌≡◌, ◌≢◌, refl, sym, ◌∙◌, ap, subst, ℕ, ◌⊎◌, inl, inr, ⊎_elim, Bool, true, false, List, ◌∷◌, eqb, eq-eqb}
use Rattle.std.proofs.lemmas.Bool.{both_ways, eqb-true, false_from_ne_true}
use Rattle.plane.specs.Segment.{Segment}
use Rattle.plane.specs.Parity.{xor}
use Rattle.plane.specs.Crossings.{back}
use Rattle.parity_laws.specs.Steps.{left}
use Rattle.parity_laws.specs.Rings.{In, Next, those, Ringwise, OneRing}
use Rattle.parity_laws.specs.Shelling.{IsShellOf, OneShell, NoShell}
use Rattle.parity_laws.specs.Coming.{with_line, Enters}
use Rattle.parity_laws.proofs.OnLine.{forth_in}
use Rattle.parity_laws.proofs.Labels.{those_same, rings_same}
use Rattle.parity_laws.proofs.JoinedRings.{EndRing, left_empty}
use Rattle.parity_laws.proofs.LineShells.{ring_face, ring_left}
use Rattle.parity_laws.proofs.FaceShells.{HasOnce}
use Rattle.parity_laws.proofs.RingAt.{rings_there}
use Rattle.parity_laws.proofs.LineGone.{first_there, back_there, with_value, value_on_line}
use Rattle.parity_laws.proofs.LineGoneShells.{OffLine, was_shell, Elsewhere, elsewhere_stays, elsewhere_none, shell_off_hole, shell_off_face, shell_from, not_other}
use Rattle.parity_laws.proofs.OneFace.{OneFace, one_ringwise, one_ring, one_entry}
use Rattle.parity_laws.proofs.PartedRings.{PartsRing, parts_ring, parts_sum, first_part_left, last_part_left, is_part_or_off, parts_of_hole}

-- the face f is on both sides of the line, and p is the ring there
pub record PartsFace (T : List Segment) (first : Segment) (rest : List Segment) (last : Segment) (F : Segment → ℕ) (f : ℕ) (p a b : Segment → Bool) : Type 0 where
  pub faces : OneFace T first rest last F f
  pub ring : PartsRing T first rest last p a b

-- ---- a face that isn't on the line
parted_elsewhere : (T : List Segment) (first : Segment) (rest : List Segment) (last : Segment) (F : Segment → ℕ) (f g : ℕ) → OneFace T first rest last F f → g ≢ f → Elsewhere T first rest last F F g g
parted_elsewhere T first rest last F f g h n = record {
  comes = h.comes;
  same = λ s i e. e;
  off = λ v s. (
    shell_off_face (with_line T (first ∷ rest)) F g v first h.rings s (first_there T first rest) (λ e. n (sym e ∙ h.forth)),
    shell_off_face (with_line T (first ∷ rest)) F g v (back first) h.rings s (back_there T first rest) (λ e. n (sym e ∙ h.walked)),
  );
  was = λ u s. was_shell T first rest last F F g g u h.comes s
      (λ d i e enters. n (sym s.face ∙ ring_face T F u (one_ringwise T first rest last F f h) s.ring.one s.ring.step d s.ring.there i s.ring.mine e ∙ one_entry T first rest last F f h d i enters))
      s.face;
}

-- ---- a shell of a part
-- on a part whose own parity is 0 there is none
not_on : (T : List Segment) (F : Segment → ℕ) (g : ℕ) (u R : Segment → Bool) → (shell : IsShellOf T F g u) → Ringwise T R → OneRing T R → R shell.ring.step ≡ true → left (those R T) shell.ring.step ≡ left (those u T) shell.ring.step
not_on T F g u R shell rings one e = ap (λ X. left X shell.ring.step) (those_same R u T (rings_same T R u shell.ring.step rings one shell.ring.ringwise shell.ring.one shell.ring.there e shell.ring.mine))

-- ---- the face of the line, where its ring is a hole
hole_elsewhere : (T : List Segment) (first : Segment) (rest : List Segment) (last : Segment) (F : Segment → ℕ) (f : ℕ) (p a b : Segment → Bool) → PartsFace T first rest last F f p a b →
    left (those p (with_line T (first ∷ rest))) first ≡ false → Elsewhere T first rest last F F f f
hole_elsewhere T first rest last F f p a b h hole = record {
  comes = h.faces.comes;
  same = λ s i e. e;
  off = λ v s. (
    shell_off_hole (with_line T (first ∷ rest)) F f v p first h.faces.comes.new s h.ring.rings h.ring.one (first_there T first rest) h.ring.forth hole,
    shell_off_hole (with_line T (first ∷ rest)) F f v p (back first) h.faces.comes.new s h.ring.rings h.ring.one (back_there T first rest) h.ring.walked at_back,
  );
  was = λ u s. was_shell T first rest last F F f f u h.faces.comes s (off u s) s.face;
}
  where
    at_back : left (those p (with_line T (first ∷ rest))) (back first) ≡ false
    at_back = ring_left (with_line T (first ∷ rest)) p h.faces.comes.new h.ring.rings h.ring.one (back first) first (back_there T first rest) (first_there T first rest) h.ring.walked h.ring.forth ∙ hole

    parts : (left (those a T) first ≡ false) × (left (those b T) first ≡ false)
    parts = parts_of_hole T first rest last p a b h.ring hole

    off : (u : Segment → Bool) → IsShellOf T F f u → OffLine T first rest last u
    off u s =
        ⊎_elim
        (λ (e : a s.ring.step ≡ true). absurd (both_ways (left (those a T) first) parts.0 (sym (first_part_left T first rest last p a b h.ring s.ring.step s.ring.there e) ∙ not_on T F f u a s h.ring.at_first.ringwise h.ring.at_first.one e ∙ s.is_left)))
        (λ (k : (b s.ring.step ≡ true) ⊎ OffLine T first rest last u).
        ⊎_elim
        (λ (e : b s.ring.step ≡ true). absurd (both_ways (left (those b T) first) parts.1 (sym (last_part_left T first rest last p a b h.ring s.ring.step s.ring.there e) ∙ not_on T F f u b s h.ring.at_last.ringwise h.ring.at_last.one e ∙ s.is_left)))
        (λ (g : OffLine T first rest last u). g)
        k)
        (is_part_or_off T first rest last p a b u h.ring s.ring)

-- ---- and where it is the shell: one of the two parts is the shell
part_shell : (T : List Segment) (first : Segment) (rest : List Segment) (last : Segment) (F : Segment → ℕ) (f : ℕ) (e : Segment) (R : Segment → Bool) → OneFace T first rest last F f → EndRing T (with_line T (first ∷ rest)) e R →
    ((d : Segment) → Next (with_line T (first ∷ rest)) d e → Enters (with_line T (first ∷ rest)) first last d) → ((s : Segment) → In s T → R s ≡ true → left (those R T) s ≡ left (those R T) first) →
    left (those R T) first ≡ true → IsShellOf T F f R
part_shell T first rest last F f e R h r enters value is =
    ⊎_elim
    (λ (none : (t : Segment) → In t T → R t ≡ false). absurd (both_ways (left (those R T) first) (left_empty T R first none) is))
    (λ (d : (d : Segment) × (In d T × (Next (with_line T (first ∷ rest)) d e × (R d ≡ true)))).
    shell_from T F f R d.0 r.ringwise r.one d.1.0 d.1.1.1 (one_entry T first rest last F f h d.0 d.1.0 (enters d.0 d.1.1.0)) (value d.0 d.1.0 d.1.1.1 ∙ is))
    r.near

shell_parted : (T : List Segment) (first : Segment) (rest : List Segment) (last : Segment) (F : Segment → ℕ) (f : ℕ) (p a b : Segment → Bool) → PartsFace T first rest last F f p a b →
    left (those p (with_line T (first ∷ rest))) first ≡ true → OneShell (with_line T (first ∷ rest)) F f → OneShell T F f
shell_parted T first rest last F f p a b h is one = by_parities (left (those a T) first) (left (those b T) first) refl refl (sym (parts_sum T first rest last p a b h.ring first) ∙ is)
  where
    not_off : (u : Segment → Bool) → IsShellOf T F f u → OffLine T first rest last u → ⊥
    not_off u s off =
        not_other (with_line T (first ∷ rest)) F f (with_value (first ∷ rest) false u) p first one (was_shell T first rest last F F f f u h.faces.comes s off s.face)
        (shell_from (with_line T (first ∷ rest)) F f p first h.ring.rings h.ring.one (first_there T first rest) h.ring.forth h.faces.forth is) (first_there T first rest)
        (value_on_line (first ∷ rest) false u first (forth_in (first ∷ rest) first (inl refl))) h.ring.forth

    on_first : (u : Segment → Bool) → (s : IsShellOf T F f u) → a s.ring.step ≡ true → left (those a T) first ≡ true
    on_first u s e = sym (first_part_left T first rest last p a b h.ring s.ring.step s.ring.there e) ∙ not_on T F f u a s h.ring.at_first.ringwise h.ring.at_first.one e ∙ s.is_left

    on_last : (u : Segment → Bool) → (s : IsShellOf T F f u) → b s.ring.step ≡ true → left (those b T) first ≡ true
    on_last u s e = sym (last_part_left T first rest last p a b h.ring s.ring.step s.ring.there e) ∙ not_on T F f u b s h.ring.at_last.ringwise h.ring.at_last.one e ∙ s.is_left

    at_first : left (those a T) first ≡ true → left (those b T) first ≡ false → OneShell T F f
    at_first e m = record {
      p = a;
      shell = part_shell T first rest last F f first a h.faces h.ring.at_first (λ d next. inl next) (first_part_left T first rest last p a b h.ring) e;
      only = λ u v s t i j. is_first u s i j ∙ sym (is_first v t i j);
    }
      where
        is_first : (u : Segment → Bool) → IsShellOf T F f u → (i : Segment) → In i T → u i ≡ a i
        is_first u s i j =
            ⊎_elim
            (λ (k : a s.ring.step ≡ true). rings_same T u a s.ring.step s.ring.ringwise s.ring.one h.ring.at_first.ringwise h.ring.at_first.one s.ring.there s.ring.mine k i j)
            (λ (k : (b s.ring.step ≡ true) ⊎ OffLine T first rest last u).
            absurd (⊎_elim (λ (l : b s.ring.step ≡ true). both_ways (left (those b T) first) m (on_last u s l)) (not_off u s) k))
            (is_part_or_off T first rest last p a b u h.ring s.ring)

    at_last : left (those a T) first ≡ false → left (those b T) first ≡ true → OneShell T F f
    at_last m e = record {
      p = b;
      shell = part_shell T first rest last F f (back last) b h.faces h.ring.at_last (λ d next. inr next) (last_part_left T first rest last p a b h.ring) e;
      only = λ u v s t i j. is_last u s i j ∙ sym (is_last v t i j);
    }
      where
        is_last : (u : Segment → Bool) → IsShellOf T F f u → (i : Segment) → In i T → u i ≡ b i
        is_last u s i j =
            ⊎_elim
            (λ (k : a s.ring.step ≡ true). absurd (both_ways (left (those a T) first) m (on_first u s k)))
            (λ (k : (b s.ring.step ≡ true) ⊎ OffLine T first rest last u).
            ⊎_elim
            (λ (l : b s.ring.step ≡ true). rings_same T u b s.ring.step s.ring.ringwise s.ring.one h.ring.at_last.ringwise h.ring.at_last.one s.ring.there s.ring.mine l i j)
            (λ (l : OffLine T first rest last u). absurd (not_off u s l))
            k)
            (is_part_or_off T first rest last p a b u h.ring s.ring)

    by_parities : (x y : Bool) → left (those a T) first ≡ x → left (those b T) first ≡ y → xor x y ≡ true → OneShell T F f
    by_parities true false e m k = at_first e m
    by_parities false true e m k = at_last e m
    by_parities true true e m k = absurd (both_ways false refl k)
    by_parities false false e m k = absurd (both_ways false refl k)

-- ---- all faces
pub parted_one_shell : (T : List Segment) (first : Segment) (rest : List Segment) (last : Segment) (F : Segment → ℕ) (f : ℕ) (p a b : Segment → Bool) → PartsFace T first rest last F f p a b → (g : ℕ) →
    OneShell (with_line T (first ∷ rest)) F g → OneShell T F g
parted_one_shell T first rest last F f p a b h g one = by_face (eqb g f) (left (those p (with_line T (first ∷ rest))) first) refl refl
  where
    by_face : (x y : Bool) → eqb g f ≡ x → left (those p (with_line T (first ∷ rest))) first ≡ y → OneShell T F g
    by_face true true e m = let k = eqb-true g f e in subst (λ z. OneShell T F z) (sym k) (shell_parted T first rest last F f p a b h m (subst (λ z. OneShell (with_line T (first ∷ rest)) F z) k one))
    by_face true false e m = let k = eqb-true g f e in subst (λ z. OneShell T F z) (sym k) (elsewhere_stays T first rest last F F f f (hole_elsewhere T first rest last F f p a b h m) (subst (λ z. OneShell (with_line T (first ∷ rest)) F z) k one))
    by_face false y e m = elsewhere_stays T first rest last F F g g (parted_elsewhere T first rest last F f g h.faces (λ k. both_ways (eqb g f) e (eq-eqb g f k))) one

pub parted_no_shell : (T : List Segment) (first : Segment) (rest : List Segment) (last : Segment) (F : Segment → ℕ) (f : ℕ) (p a b : Segment → Bool) → PartsFace T first rest last F f p a b → (g : ℕ) →
    NoShell (with_line T (first ∷ rest)) F g → NoShell T F g
parted_no_shell T first rest last F f p a b h g none = by_face (eqb g f) refl
  where
    by_face : (x : Bool) → eqb g f ≡ x → NoShell T F g
    by_face true e =
        let k = eqb-true g f e in
        let hole : left (those p (with_line T (first ∷ rest))) first ≡ false =
        false_from_ne_true (left (those p (with_line T (first ∷ rest))) first) (λ m. none p (shell_from (with_line T (first ∷ rest)) F g p first h.ring.rings h.ring.one (first_there T first rest) h.ring.forth (h.faces.forth ∙ sym k) m))
        in
        subst (λ z. NoShell T F z) (sym k) (elsewhere_none T first rest last F F f f (hole_elsewhere T first rest last F f p a b h hole) (subst (λ z. NoShell (with_line T (first ∷ rest)) F z) k none))
    by_face false e = elsewhere_none T first rest last F F g g (parted_elsewhere T first rest last F f g h.faces (λ k. both_ways (eqb g f) e (eq-eqb g f k))) none

-- where the line's face has at most one shell
pub parts_face : (T : List Segment) (first : Segment) (rest : List Segment) (last : Segment) (F : Segment → ℕ) (f : ℕ) → OneFace T first rest last F f → HasOnce (with_line T (first ∷ rest)) F f →
    (p : Segment → Bool) × ((a : Segment → Bool) × ((b : Segment → Bool) × PartsFace T first rest last F f p a b))
parts_face T first rest last F f h once =
    let p = rings_there (with_line T (first ∷ rest)) h.comes.new first (first_there T first rest) in
    let r = parts_ring T first rest last p.0 h.comes p.1.0 p.1.1 (one_ring T first rest last F f p.0 h once p.1.0 p.1.1) in
    (p.0, (r.0, (r.1.0, record { faces = h; ring = r.1.1 })))
