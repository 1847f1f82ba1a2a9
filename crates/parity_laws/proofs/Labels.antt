-- Labels that are equal on all steps.
use Rattle.std.proofs.Common.{◌≡◌, refl, sym, ◌∙◌, ap, inl, inr, Bool, true, false, List, [], ◌∷◌, ℕ}
use Rattle.plane.specs.Segment.{Segment}
use Rattle.parity_laws.specs.Steps.{left}
use Rattle.parity_laws.specs.Rings.{In, those, Ringwise, Sided, OneRing}
use Rattle.parity_laws.proofs.Tests.{bool_same}
use Rattle.parity_laws.specs.Shelling.{IsShellOf, OneShell, NoShell}

pub those_same : (p q : Segment → Bool) (X : List Segment) → ((s : Segment) → In s X → p s ≡ q s) → those p X ≡ those q X
those_same p q [] f = refl
those_same p q (t ∷ X) f = cc (f t (inl refl), those_same p q X (λ s i. f s (inr i)))

pub ringwise_same : (T : List Segment) (p q : Segment → Bool) → ((t : Segment) → In t T → p t ≡ q t) → Ringwise T p → Ringwise T q
ringwise_same T p q e h d n i j next = sym (e d i) ∙ h d n i j next ∙ e n j

pub sided_same : (T : List Segment) (p q : Segment → Bool) → ((t : Segment) → In t T → p t ≡ q t) → Sided T p → Sided T q
sided_same T p q e h s i = ap (λ X. left X s) (sym (those_same p q T e)) ∙ h s i ∙ e s i

-- two rings with a common step are one
pub rings_same : (T : List Segment) (p q : Segment → Bool) (s : Segment) → Ringwise T p → OneRing T p → Ringwise T q → OneRing T q → In s T → p s ≡ true → q s ≡ true → (t : Segment) → In t T → p t ≡ q t
rings_same T p q s hp op hq oq i e f t j = bool_same (p t) (q t) (λ g. op q hq t s j i g e ∙ f) (λ g. oq p hp t s j i g f ∙ e)

-- and with a step that only one has they have none in common
pub rings_apart : (T : List Segment) (p q : Segment → Bool) (s : Segment) → OneRing T p → Ringwise T q → In s T → p s ≡ true → q s ≡ false → (t : Segment) → In t T → p t ≡ true → q t ≡ false
rings_apart T p q s op hq i ps qs t j pt = op q hq t s j i pt ps ∙ qs

-- two labels by faces that agree on the steps
pub shell_faces : (U : List Segment) (F G : Segment → ℕ) (f : ℕ) (p : Segment → Bool) → ((u : Segment) → In u U → F u ≡ G u) → IsShellOf U F f p → IsShellOf U G f p
shell_faces U F G f p same s = record { ring = s.ring; face = sym (same s.ring.step s.ring.there) ∙ s.face; is_left = s.is_left }

pub one_shell_faces : (U : List Segment) (F G : Segment → ℕ) (f : ℕ) → ((u : Segment) → In u U → F u ≡ G u) → OneShell U F f → OneShell U G f
one_shell_faces U F G f same h = record {
  p = h.p;
  shell = shell_faces U F G f h.p same h.shell;
  only = λ q r a b. h.only q r (shell_faces U G F f q (λ u i. sym (same u i)) a) (shell_faces U G F f r (λ u i. sym (same u i)) b);
}

pub no_shell_faces : (U : List Segment) (F G : Segment → ℕ) (f : ℕ) → ((u : Segment) → In u U → F u ≡ G u) → NoShell U F f → NoShell U G f
no_shell_faces U F G f same none p h = none p (shell_faces U G F f p (λ u i. sym (same u i)) h)
