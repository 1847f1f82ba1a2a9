-- Left of the steps of one face the parity of any ring is one value, since the face has one shell, or none.
use Rattle.std.proofs.Common.{◌≡◌, ◌≢◌, ℕ, suc, refl, sym, ◌∙◌, arith, Bool, true, false, not, cond, ◌&&◌, List}
use lib.Dec.{eqb}
use Rattle.std.proofs.lemmas.Bool.{and_parts, both_ways, eqb-true, eq-eqb, ne_eqb}
use Rattle.plane.specs.Segment.{Segment}
use Rattle.plane.specs.Parity.{xor}
use Rattle.parity_laws.specs.Steps.{left}
use Rattle.parity_laws.specs.Rings.{In, those, Drawn, Ringwise, Sided, of_face}
use Rattle.parity_laws.specs.Shelling.{IsShellOf, OneShell, NoShell, HasRingLabels}
use Rattle.parity_laws.proofs.Dividing.{side_ringwise}
use Rattle.parity_laws.proofs.FaceShells.{has_shell}
use Rattle.parity_laws.proofs.Labels.{ringwise_same, sided_same}
use Rattle.parity_laws.proofs.OuterFace.{outer_side}
use Rattle.parity_laws.proofs.Seeing.{face_divided, outer_divided}
use Rattle.parity_laws.proofs.Sums.{xor_self}

-- the steps with the label as a face f of their own
as_face : ℕ → (Segment → Bool) → Segment → ℕ
as_face f label t = cond (label t) f (suc f)

as_face_is : (f : ℕ) (label : Segment → Bool) (t : Segment) → label t ≡ of_face (as_face f label) f t
unfolding as_face
as_face_is f label t = by_value (label t)
  where
    by_value : (x : Bool) → x ≡ eqb (cond x f (suc f)) f
    by_value true = sym (eq-eqb f f refl)
    by_value false = sym (ne_eqb (suc f) f (λ e. omega (arith, e)))

-- a shell among the steps with a label that have themselves on their left
record HasShell (T : List Segment) (f : ℕ) (label : Segment → Bool) : Type 0 where
  p : Segment → Bool
  shell : IsShellOf T (as_face f label) f p
  mine : label shell.ring.step ≡ true

label_shell : (T : List Segment) (f : ℕ) (label : Segment → Bool) (s : Segment) → Drawn T → HasRingLabels T → Ringwise T label → Sided T label → In s T → label s ≡ true → HasShell T f label
label_shell T f label s drawn labels rings sided i m =
    let h = has_shell T (as_face f label) f s drawn labels (ringwise_same T label (of_face (as_face f label) f) (λ t j. as_face_is f label t) rings) (sided_same T label (of_face (as_face f label) f) (λ t j. as_face_is f label t) sided) i
    (eqb-true (as_face f label s) f (sym (as_face_is f label s) ∙ m)) in
    record { p = h.0; shell = h.1; mine = as_face_is f label h.1.ring.step ∙ eq-eqb (as_face f label h.1.ring.step) f h.1.face }

-- ---- a face with one shell
-- in the part of f where the ring's parity is c there is a shell of f
record PartShell (T : List Segment) (F : Segment → ℕ) (f : ℕ) (ring : Segment → Bool) (c : Bool) : Type 0 where
  p : Segment → Bool
  shell : IsShellOf T F f p
  value : left (those ring T) shell.ring.step ≡ c

part_shell : (T : List Segment) (F : Segment → ℕ) (f : ℕ) (ring : Segment → Bool) (c : Bool) (s : Segment) → Drawn T → HasRingLabels T → Ringwise T (of_face F f) → Sided T (of_face F f) → Ringwise T ring → In s T → F s ≡ f →
    left (those ring T) s ≡ c → PartShell T F f ring c
part_shell T F f ring c s drawn labels hf sided hr i e m = of_label (label_shell T f part s drawn labels rings (face_divided T (of_face F f) ring c drawn hf hr sided) i (in_it (of_face F f s) (left (those ring T) s) (eq-eqb (F s) f e) m))
  where
    part : Segment → Bool
    part t = of_face F f t && not (xor (left (those ring T) t) c)

    rings : Ringwise T (λ t. of_face F f t && not (xor (left (those ring T) t) c))
    rings k n i j next = cc (hf k n i j next, side_ringwise T ring drawn hr k n i j next)

    in_it : (x l : Bool) → x ≡ true → l ≡ c → x && not (xor l c) ≡ true
    in_it x l e f = rw (e, f, xor_self c) refl

    same_value : (x y : Bool) → not (xor x y) ≡ true → x ≡ y
    same_value true true e = refl
    same_value false false e = refl
    same_value true false e = absurd (both_ways false refl e)
    same_value false true e = absurd (both_ways false refl e)

    of_label : HasShell T f (λ t. of_face F f t && not (xor (left (those ring T) t) c)) → PartShell T F f ring c
    of_label h =
        let both = and_parts (of_face F f h.shell.ring.step) (not (xor (left (those ring T) h.shell.ring.step) c)) h.mine in
        record {
          p = h.p;
          shell = record { ring = h.shell.ring; face = eqb-true (F h.shell.ring.step) f both.0; is_left = h.shell.is_left };
          value = same_value (left (those ring T) h.shell.ring.step) c both.1;
        }

pub one_value : (T : List Segment) (F : Segment → ℕ) (f : ℕ) (ring : Segment → Bool) (s t : Segment) → Drawn T → HasRingLabels T → Ringwise T (of_face F f) → Sided T (of_face F f) → OneShell T F f → Ringwise T ring →
    In s T → In t T → F s ≡ f → F t ≡ f → left (those ring T) s ≡ left (those ring T) t
one_value T F f ring s t drawn labels hf sided one hr i j e g =
    let a = part_shell T F f ring (left (those ring T) s) s drawn labels hf sided hr i e refl in
    let b = part_shell T F f ring (left (those ring T) t) t drawn labels hf sided hr j g refl in
    sym a.value
    ∙ a.shell.ring.one (λ u. left (those ring T) u) (side_ringwise T ring drawn hr) a.shell.ring.step b.shell.ring.step a.shell.ring.there b.shell.ring.there a.shell.ring.mine
    (one.only a.p b.p a.shell b.shell b.shell.ring.step b.shell.ring.there ∙ b.shell.ring.mine)
    ∙ b.value

-- ---- face 0 without a shell
pub outer_value : (T : List Segment) (F : Segment → ℕ) (ring : Segment → Bool) (s : Segment) → Drawn T → HasRingLabels T → ((g : ℕ) → Ringwise T (of_face F g)) → ((g : ℕ) → g ≢ 0 → Sided T (of_face F g)) → NoShell T F 0 →
    Ringwise T ring → In s T → F s ≡ 0 → left (those ring T) s ≡ false
outer_value T F ring s drawn labels faces sided none hr i e = by_value (left (those ring T) s) refl
  where
    rings : Ringwise T (λ t. of_face F 0 t && left (those ring T) t)
    rings k n i j next = cc (faces 0 k n i j next, side_ringwise T ring drawn hr k n i j next)

    of_label : HasShell T 0 (λ t. of_face F 0 t && left (those ring T) t) → ⊥
    of_label h =
        none h.p (record { ring = h.shell.ring; face = eqb-true (F h.shell.ring.step) 0 (and_parts (of_face F 0 h.shell.ring.step) (left (those ring T) h.shell.ring.step) h.mine).0; is_left = h.shell.is_left })

    in_it : (x l : Bool) → x ≡ true → l ≡ true → x && l ≡ true
    in_it x l e f = rw (e, f)

    by_value : (x : Bool) → left (those ring T) s ≡ x → x ≡ false
    by_value false m = refl
    by_value true m =
        absurd (of_label (label_shell T 0 (λ t. of_face F 0 t && left (those ring T) t) s drawn labels rings (outer_divided T (of_face F 0) ring drawn (faces 0) hr (outer_side T F drawn faces sided)) i
        (in_it (of_face F 0 s) (left (those ring T) s) (eq-eqb (F s) 0 e) m)))
