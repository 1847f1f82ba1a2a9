-- What the other rings of a divided face may be, from the drawing before the line.
use Rattle.std.proofs.Common.{◌≡◌, refl, ◌∙◌, ℕ, inl, inr, Bool, true, false, not, List}
use Rattle.std.proofs.lemmas.Bool.{both_ways}
use Rattle.plane.specs.Segment.{Segment}
use Rattle.plane.specs.Crossings.{back}
use Rattle.parity_laws.specs.Steps.{left}
use Rattle.parity_laws.specs.Rings.{In, Within, those}
use Rattle.parity_laws.proofs.Labels.{rings_same}
use Rattle.parity_laws.specs.Shelling.{IsShellOf, OneShell, NoShell}
use Rattle.parity_laws.proofs.DividedShells.{IsOtherShell, NoOtherShell, OneOtherShell, RestOfFace}

-- each shell of the face that is not on the line was a shell of it before
abbrev pub WereShells : List Segment → List Segment → (Segment → ℕ) → (Segment → ℕ) → ℕ → Segment → Type 0
WereShells T T' E F f e = (r : Segment → Bool) → IsOtherShell T' F f e (back e) r → IsShellOf T E f r

-- the line cut the shell of the face
pub rest_of_shell : (T T' : List Segment) (E F : Segment → ℕ) (f : ℕ) (e : Segment) (p q R : Segment → Bool) (s : Segment) → OneShell T E f → WereShells T T' E F f e → IsShellOf T E f R → In s T → R s ≡ true →
    ((r : Segment → Bool) → IsOtherShell T' F f e (back e) r → r s ≡ false) → RestOfFace T' F f e p q
rest_of_shell T T' E F f e p q R s one were shell i m off = inl (λ r h. both_ways (r s) (off r h) (one.only r R (were r h) shell s i ∙ m))

-- it cut a hole: of the two rings one is a hole
pub rest_of_hole : (T T' : List Segment) (E F : Segment → ℕ) (f : ℕ) (e : Segment) (p q : Segment → Bool) → Within T T' → OneShell T E f → WereShells T T' E F f e →
    left (those q T') (back e) ≡ not (left (those p T') e) → RestOfFace T' F f e p q
rest_of_hole T T' E F f e p q within one were turn = inr (λ h. turn ∙ other (left (those p T') e) h, only)
  where
    other : (c : Bool) → c ≡ true → not c ≡ false
    other true h = refl
    other false h = cc

    only : OneOtherShell T' F f e (back e)
    only r s hr hs =
        let k = were r hr in
        rings_same T' r s k.ring.step hr.shell.ring.ringwise hr.shell.ring.one hs.shell.ring.ringwise hs.shell.ring.one (within k.ring.step k.ring.there) k.ring.mine
        (one.only s r (were s hs) k k.ring.step k.ring.there ∙ k.ring.mine)

-- it cut a hole of face 0
pub rest_of_outer : (T T' : List Segment) (E F : Segment → ℕ) (f : ℕ) (e : Segment) → NoShell T E f → WereShells T T' E F f e → NoOtherShell T' F f e (back e)
rest_of_outer T T' E F f e none were r h = none r (were r h)
