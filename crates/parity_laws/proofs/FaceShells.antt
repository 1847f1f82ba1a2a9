-- A face other than 0 that has a step has a shell, and two rings of a face with at most one shell are not linked.
use Rattle.std.proofs.Common.{◌≡◌, refl, ◌∙◌, ℕ, ◌⊎◌, ⊎_elim, Bool, true, false, List}
use Rattle.std.proofs.lemmas.Bool.{both_ways, false_from_ne_true, eqb-true, eq-eqb}
use Rattle.plane.specs.Segment.{Segment}
use Rattle.parity_laws.specs.Steps.{left}
use Rattle.parity_laws.specs.Rings.{In, those, Drawn, Ringwise, Sided, of_face}
use Rattle.parity_laws.proofs.Splitting.{Top, highest, highest_is_shell}
use Rattle.parity_laws.proofs.Labels.{rings_same, rings_apart}
use Rattle.parity_laws.specs.Shelling.{IsRingLabel, IsShellOf, OneShell, NoShell, HasRingLabels}
use Rattle.parity_laws.proofs.Neighbours.{Linked, linked_turned, vertex_linked, no_linked_holes, no_hole_linked_to_shell}

-- the ring at a highest vertex of a face
record TopShell (T : List Segment) (F : Segment → ℕ) (f : ℕ) : Type 0 where
  top : Top T (of_face F f)
  p : Segment → Bool
  shell : IsShellOf T F f p
  mine : p top.r ≡ true

top_shell : (T : List Segment) (F : Segment → ℕ) (f : ℕ) (s : Segment) → Drawn T → HasRingLabels T → Ringwise T (of_face F f) → Sided T (of_face F f) → In s T → F s ≡ f → TopShell T F f
top_shell T F f s drawn labels hf sided i e =
    let t = highest T (of_face F f) s drawn hf i (eq-eqb (F s) f e) in
    let p = labels t.r t.there in
    record {
      top = t;
      p = p.0;
      shell = record {
        ring = record {
          ringwise = p.1.0.ringwise;
          one = p.1.0.one;
          step = t.r;
          there = t.there;
          mine = p.1.1;
        };
        face = eqb-true (F t.r) f t.mine;
        is_left = highest_is_shell T (of_face F f) p.0 drawn hf p.1.0.ringwise sided (λ u j m. p.1.0.one (of_face F f) hf u t.r j t.there m p.1.1 ∙ t.mine) t p.1.1;
      };
      mine = p.1.1;
    }

-- a face whose sides are right, and that has a step, has a shell
pub has_shell : (T : List Segment) (F : Segment → ℕ) (f : ℕ) (s : Segment) → Drawn T → HasRingLabels T → Ringwise T (of_face F f) → Sided T (of_face F f) → In s T → F s ≡ f →
    (p : Segment → Bool) × IsShellOf T F f p
has_shell T F f s drawn labels hf sided i e = let t = top_shell T F f s drawn labels hf sided i e in (t.p, t.shell)

-- p is a ring with the step s of the face f
pub record IsRingAt (T : List Segment) (F : Segment → ℕ) (f : ℕ) (p : Segment → Bool) (s : Segment) : Type 0 where
  pub ring : IsRingLabel T p
  pub there : In s T
  pub mine : p s ≡ true
  pub face : F s ≡ f

pub shell_at : (T : List Segment) (F : Segment → ℕ) (f : ℕ) (p : Segment → Bool) (s : Segment) → IsRingAt T F f p s → left (those p T) s ≡ true → IsShellOf T F f p
shell_at T F f p s r l = record {
  ring = record {
    ringwise = r.ring.ringwise;
    one = r.ring.one;
    step = s;
    there = r.there;
    mine = r.mine;
  };
  face = r.face;
  is_left = l;
}

-- its sides are right and it has one shell, or it has no shell
abbrev pub HasOnce : List Segment → (Segment → ℕ) → ℕ → Type 0
HasOnce T F f = (Ringwise T (of_face F f) × Sided T (of_face F f) × OneShell T F f) ⊎ NoShell T F f

-- rings of one face that differ have no common step
parted : (T : List Segment) (p q : Segment → Bool) (b : Segment) → IsRingLabel T p → IsRingLabel T q → In b T → q b ≡ true → p b ≡ false → (t : Segment) → In t T → p t ≡ true → q t ≡ false
parted T p q b rp rq j qb e t k m = false_from_ne_true (q t) (λ g. both_ways (p t) (rings_apart T q p b rq.one rp.ringwise j qb e t k g) m)

-- with one shell, linked rings are not a hole and a shell
mixed : (T : List Segment) (F : Segment → ℕ) (f : ℕ) (p q : Segment → Bool) (a b : Segment) → Drawn T → HasRingLabels T → Ringwise T (of_face F f) → Sided T (of_face F f) → OneShell T F f →
    IsRingAt T F f p a → IsRingAt T F f q b → Linked T a b → left (those p T) a ≡ false → left (those q T) b ≡ true → ⊥
mixed T F f p q a b drawn labels hf sided shells rp rq link lp lq =
    let t = top_shell T F f a drawn labels hf sided rp.there rp.face in
    no_hole_linked_to_shell T (of_face F f) p q a b drawn hf rp.ring.ringwise rq.ring.one sided
    (λ s j m. rp.ring.one (of_face F f) hf s a j rp.there m rp.mine ∙ eq-eqb (F a) f rp.face) t.top
    (shells.only q t.p (shell_at T F f q b rq lq) t.shell t.top.r t.top.there ∙ t.mine)
    rp.there rq.there rp.mine rq.mine link lp

-- two linked rings of such a face are one
pub linked_rings : (T : List Segment) (F : Segment → ℕ) (f : ℕ) (p q : Segment → Bool) (a b : Segment) → Drawn T → HasRingLabels T → HasOnce T F f →
    IsRingAt T F f p a → IsRingAt T F f q b → Linked T a b → (t : Segment) → In t T → p t ≡ q t
linked_rings T F f p q a b drawn labels has rp rq link = by_common (p b) refl
  where
    holes : p b ≡ false → left (those p T) a ≡ false → left (those q T) b ≡ false → ⊥
    holes e g k =
        no_linked_holes T p q a b drawn rp.ring.ringwise rq.ring.ringwise rp.ring.one rq.ring.one (parted T p q b rp.ring rq.ring rq.there rq.mine e)
        rp.there rq.there rp.mine rq.mine link g k

    with_shell : p b ≡ false → Ringwise T (of_face F f) → Sided T (of_face F f) → OneShell T F f → ⊥
    with_shell e hf sided shells = by_sides (left (those p T) a) (left (those q T) b) refl refl
      where
        by_sides : (x y : Bool) → left (those p T) a ≡ x → left (those q T) b ≡ y → ⊥
        by_sides false false g k = holes e g k
        by_sides false true g k = mixed T F f p q a b drawn labels hf sided shells rp rq link g k
        by_sides true false g k = mixed T F f q p b a drawn labels hf sided shells rq rp (linked_turned T a b link) k g
        by_sides true true g k = both_ways (p b) e (shells.only p q (shell_at T F f p a rp g) (shell_at T F f q b rq k) b rq.there ∙ rq.mine)

    by_common : (c : Bool) → p b ≡ c → (t : Segment) → In t T → p t ≡ q t
    by_common true e = rings_same T p q b rp.ring.ringwise rp.ring.one rq.ring.ringwise rq.ring.one rq.there e rq.mine
    by_common false e =
        absurd
        (⊎_elim
        (λ (h : Ringwise T (of_face F f) × Sided T (of_face F f) × OneShell T F f). with_shell e h.0 h.1 h.2)
        (λ (none : NoShell T F f).
        holes e
        (false_from_ne_true (left (those p T) a) (λ g. none p (shell_at T F f p a rp g))) (false_from_ne_true (left (those q T) b) (λ g. none q (shell_at T F f q b rq g))))
        has)

-- and so are two that have a common vertex
pub rings_meet_once : (T : List Segment) (F : Segment → ℕ) (f : ℕ) (p q : Segment → Bool) (a b : Segment) → Drawn T → HasRingLabels T → HasOnce T F f →
    IsRingAt T F f p a → IsRingAt T F f q b → a.a ≡ b.a → (t : Segment) → In t T → p t ≡ q t
rings_meet_once T F f p q a b drawn labels has rp rq e = linked_rings T F f p q a b drawn labels has rp rq (vertex_linked T a b drawn.plain rp.there rq.there e)
