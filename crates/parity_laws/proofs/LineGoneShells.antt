-- Shells that the line is not on are shells with the line and without it.
use Rattle.std.proofs.Common.{◌≡◌, ◌≢◌, refl, sym, ◌∙◌, ap, ℕ, Bool, true, false, List, ◌∷◌}
use Rattle.std.proofs.lemmas.Bool.{both_ways, false_from_ne_true}
use Rattle.plane.specs.Segment.{Segment}
use Rattle.plane.specs.Crossings.{back}
use Rattle.parity_laws.specs.Steps.{left}
use Rattle.parity_laws.specs.Rings.{In, those, Drawn, Ringwise, OneRing, of_face}
use Rattle.parity_laws.specs.Shelling.{IsShellOf, OneShell, NoShell}
use Rattle.parity_laws.specs.Coming.{with_line, LineComes, Enters}
use Rattle.parity_laws.proofs.OnLine.{old_in}
use Rattle.parity_laws.proofs.Labels.{those_same, rings_same}
use Rattle.parity_laws.proofs.LineShells.{ring_face, ring_left, shell_off_line, shell_stays}
use Rattle.parity_laws.proofs.LineGone.{with_value, value_old, value_on_line}

-- u doesn't lead into the line
abbrev pub OffLine : List Segment → Segment → List Segment → Segment → (Segment → Bool) → Type 0
OffLine T first rest last u = (d : Segment) → In d T → u d ≡ true → Enters (with_line T (first ∷ rest)) first last d → ⊥

-- a shell without the line was one with it
pub was_shell : (T : List Segment) (first : Segment) (rest : List Segment) (last : Segment) (F' F : Segment → ℕ) (y g : ℕ) (u : Segment → Bool) → LineComes T first rest last → (shell : IsShellOf T F g u) → OffLine T first rest last u →
    F' shell.ring.step ≡ y → IsShellOf (with_line T (first ∷ rest)) F' y (with_value (first ∷ rest) false u)
was_shell T first rest last F' F y g u c shell off face =
    shell_stays T first rest last F' F' y u (with_value (first ∷ rest) false u) c (λ s i. refl) (record { ring = shell.ring; face = face; is_left = shell.is_left })
    (value_old T first rest last false u c) (value_on_line (first ∷ rest) false u) off

-- a shell with the line, which is not on it, stays one
pub stays_shell : (T : List Segment) (first : Segment) (rest : List Segment) (last : Segment) (F' F : Segment → ℕ) (y g : ℕ) (v : Segment → Bool) → LineComes T first rest last → IsShellOf (with_line T (first ∷ rest)) F' y v →
    v first ≡ false → v (back first) ≡ false → ((s : Segment) → In s T → F' s ≡ y → F s ≡ g) → IsShellOf T F g v
stays_shell T first rest last F' F y g v c shell e f face =
    let w = shell_off_line T first rest last F' F' y v c (λ s i. refl) shell e f in
    record { ring = w.ring; face = face w.ring.step w.ring.there w.face; is_left = w.is_left }

-- two old rings that were one with the line
pub were_same : (T : List Segment) (first : Segment) (rest : List Segment) (last : Segment) (u v : Segment → Bool) → LineComes T first rest last →
    ((s : Segment) → In s (with_line T (first ∷ rest)) → with_value (first ∷ rest) false u s ≡ with_value (first ∷ rest) false v s) → (s : Segment) → In s T → u s ≡ v s
were_same T first rest last u v c same s i = sym (value_old T first rest last false u c s i) ∙ same s (old_in T (first ∷ rest) s i) ∙ value_old T first rest last false v c s i

-- ---- a face whose shells the line is not on
-- the shells of the face y with the line are those of the face g without it
pub record Elsewhere (T : List Segment) (first : Segment) (rest : List Segment) (last : Segment) (F' F : Segment → ℕ) (y g : ℕ) : Type 0 where
  pub comes : LineComes T first rest last
  pub same : (s : Segment) → In s T → F' s ≡ y → F s ≡ g
  pub off : (v : Segment → Bool) → IsShellOf (with_line T (first ∷ rest)) F' y v → (v first ≡ false) × (v (back first) ≡ false)
  pub was : (u : Segment → Bool) → IsShellOf T F g u → IsShellOf (with_line T (first ∷ rest)) F' y (with_value (first ∷ rest) false u)

pub elsewhere_stays : (T : List Segment) (first : Segment) (rest : List Segment) (last : Segment) (F' F : Segment → ℕ) (y g : ℕ) → Elsewhere T first rest last F' F y g → OneShell (with_line T (first ∷ rest)) F' y → OneShell T F g
elsewhere_stays T first rest last F' F y g h one =
    let off = h.off one.p one.shell in
    record {
      p = one.p;
      shell = stays_shell T first rest last F' F y g one.p h.comes one.shell off.0 off.1 h.same;
      only = λ u v a b. were_same T first rest last u v h.comes (one.only (with_value (first ∷ rest) false u) (with_value (first ∷ rest) false v) (h.was u a) (h.was v b));
    }

pub elsewhere_none : (T : List Segment) (first : Segment) (rest : List Segment) (last : Segment) (F' F : Segment → ℕ) (y g : ℕ) → Elsewhere T first rest last F' F y g → NoShell (with_line T (first ∷ rest)) F' y → NoShell T F g
elsewhere_none T first rest last F' F y g h none u shell = none (with_value (first ∷ rest) false u) (h.was u shell)

-- ---- shells and single steps
-- a ring that has a step of a shell has 1 on its left there
pub shell_on : (T : List Segment) (F : Segment → ℕ) (g : ℕ) (v p : Segment → Bool) (s : Segment) → Drawn T → IsShellOf T F g v → Ringwise T p → OneRing T p → In s T → v s ≡ true → p s ≡ true → left (those p T) s ≡ true
shell_on T F g v p s drawn shell rings one i e f =
    ap (λ X. left X s) (those_same p v T (rings_same T p v s rings one shell.ring.ringwise shell.ring.one i f e))
    ∙ ring_left T v drawn shell.ring.ringwise shell.ring.one s shell.ring.step i shell.ring.there e shell.ring.mine
    ∙ shell.is_left

-- so a hole has no step of a shell
pub shell_off_hole : (T : List Segment) (F : Segment → ℕ) (g : ℕ) (v p : Segment → Bool) (s : Segment) → Drawn T → IsShellOf T F g v → Ringwise T p → OneRing T p → In s T → p s ≡ true → left (those p T) s ≡ false → v s ≡ false
shell_off_hole T F g v p s drawn shell rings one i e f = false_from_ne_true (v s) (λ k. both_ways (left (those p T) s) f (shell_on T F g v p s drawn shell rings one i k e))

-- nor a step of another face
pub shell_off_face : (T : List Segment) (F : Segment → ℕ) (g : ℕ) (v : Segment → Bool) (s : Segment) → ((m : ℕ) → Ringwise T (of_face F m)) → IsShellOf T F g v → In s T → F s ≢ g → v s ≡ false
shell_off_face T F g v s rings shell i n = false_from_ne_true (v s) (λ k. n (ring_face T F v rings shell.ring.one s shell.ring.step i shell.ring.there k shell.ring.mine ∙ shell.face))

-- a ring of a face with 1 on its left is a shell
pub shell_from : (T : List Segment) (F : Segment → ℕ) (g : ℕ) (p : Segment → Bool) (s : Segment) → Ringwise T p → OneRing T p → In s T → p s ≡ true → F s ≡ g → left (those p T) s ≡ true → IsShellOf T F g p
shell_from T F g p s rings one i e face is = record { ring = record { ringwise = rings; one = one; step = s; there = i; mine = e }; face = face; is_left = is }

-- where p is the shell of its face, a ring that hasn't a step of p isn't
pub not_other : (T : List Segment) (F : Segment → ℕ) (g : ℕ) (u p : Segment → Bool) (s : Segment) → OneShell T F g → IsShellOf T F g u → IsShellOf T F g p → In s T → u s ≡ false → p s ≡ true → ⊥
not_other T F g u p s one a b i e f = both_ways (u s) e (one.only u p a b s i ∙ f)
