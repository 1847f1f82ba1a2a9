-- A line that closes a ring in a face: what the other rings of the face are, and that the shells of the other faces stay.
use Rattle.std.proofs.Common.{◌≡◌, ◌≢◌, ℕ, refl, sym, ◌∙◌, ap, inl, ⊎_elim, Bool, true, false, not, List, ◌∷◌}
use Rattle.std.proofs.lemmas.Bool.{both_ways, false_from_ne_true}
use Rattle.plane.specs.Segment.{Segment}
use Rattle.plane.specs.Parity.{xor}
use Rattle.plane.specs.Crossings.{back}
use Rattle.parity_laws.specs.Steps.{left}
use Rattle.parity_laws.specs.Rings.{In, those}
use Rattle.parity_laws.specs.Shelling.{IsRingLabel, IsShellOf, OneShell, NoShell}
use Rattle.parity_laws.proofs.DividedShells.{NoOtherShell, RestOfFace}
use Rattle.parity_laws.proofs.Labels.{those_same, rings_same}
use Rattle.parity_laws.proofs.Orbits.{label_even}
use Rattle.parity_laws.proofs.OtherShells.{WereShells, rest_of_shell, rest_of_hole, rest_of_outer}
use Rattle.parity_laws.proofs.Star.{those_within}
use Rattle.parity_laws.specs.Coming.{both_ways_of, with_line, LineComes, Enters, FaceComes}
use Rattle.parity_laws.proofs.CutRings.{LineRing, line_ring, Cut, parts_left}
use Rattle.parity_laws.proofs.JoinedRings.{left_at_entry, left_empty}
use Rattle.parity_laws.proofs.LineCorners.{entry_label}
use Rattle.parity_laws.proofs.LineShells.{ring_face, new_faces, shell_off_line}
use Rattle.parity_laws.proofs.OldRings.{left_with_line, ring_off_line}
use Rattle.parity_laws.proofs.OnLine.{old_in, way_in, forth_in, back_in, way_label}
use Rattle.parity_laws.proofs.RingAt.{rings_there}

-- the line has p on its one side, and another ring q on the other
pub record Closes (T : List Segment) (first : Segment) (rest : List Segment) (last : Segment) (F F' : Segment → ℕ) (f : ℕ) (p q : Segment → Bool) : Type 0 where
  pub comes : LineComes T first rest last
  pub faces : FaceComes T first rest last F F' f
  pub cut : Cut T first rest last p q

-- one of the two rings has its own steps' parity 1 on its left, and the other has 0
abbrev pub IsTurned : List Segment → Segment → (Segment → Bool) → (Segment → Bool) → Type 0
IsTurned T e p q = left (those q T) (back e) ≡ not (left (those p T) e)

-- ---- the face in which it closes a ring
were_shells : (T : List Segment) (first : Segment) (rest : List Segment) (last : Segment) (F F' : Segment → ℕ) (f : ℕ) (p q : Segment → Bool) → Closes T first rest last F F' f p q →
    WereShells T (with_line T (first ∷ rest)) F F' f first
were_shells T first rest last F F' f p q c r h = shell_off_line T first rest last F F' f r c.comes c.faces.same h.shell h.not_first h.not_second

-- the ring that it cuts is a shell, or one of the two rings is a hole
data CutKind (T : List Segment) (first : Segment) (rest : List Segment) (last : Segment) (F : Segment → ℕ) (f : ℕ) (p q : Segment → Bool) : Type 0 where
  of_shell : (R : Segment → Bool) (d : Segment) → IsShellOf T F f R → In d T → R d ≡ true → Enters (with_line T (first ∷ rest)) first last d → CutKind T first rest last F f p q
  of_hole : IsTurned (with_line T (first ∷ rest)) first p q → CutKind T first rest last F f p q

cut_kind : (T : List Segment) (first : Segment) (rest : List Segment) (last : Segment) (F F' : Segment → ℕ) (f : ℕ) (p q : Segment → Bool) → Closes T first rest last F F' f p q → CutKind T first rest last F f p q
cut_kind T first rest last F F' f p q c = by_ring (line_ring T first rest last p c.comes c.cut.p_rings c.cut.forth c.cut.not_walked)
  where
    turned : (x y l : Bool) → xor x y ≡ not l → l ≡ false → y ≡ not x
    turned true y l e k = un_not y (e ∙ ap not k)
      where
        un_not : (y : Bool) → not y ≡ true → y ≡ false
        un_not true e = absurd (both_ways false refl e)
        un_not false e = refl
    turned false y l e k = e ∙ ap not k

    by_ring : (R : Segment → Bool) × LineRing T (with_line T (first ∷ rest)) first last R → CutKind T first rest last F f p q
    by_ring r = by_value (left (those r.0 T) first) refl
      where
        by_value : (x : Bool) → left (those r.0 T) first ≡ x → CutKind T first rest last F f p q
        by_value false e = of_hole (turned (left (those p (with_line T (first ∷ rest))) first) (left (those q (with_line T (first ∷ rest))) (back first)) (left (those r.0 T) first) (parts_left T first rest last p q r.0 c.comes c.cut r.1) e)
        by_value true e =
            ⊎_elim
            (λ (none : (t : Segment) → In t T → r.0 t ≡ false). absurd (both_ways (left (those r.0 T) first) (left_empty T r.0 first none) e))
            (λ (d : (d : Segment) × (In d T × (Enters (with_line T (first ∷ rest)) first last d × (r.0 d ≡ true)))).
            of_shell r.0 d.0 (record {
              ring = record { ringwise = r.1.ringwise; one = r.1.one; step = d.0; there = d.1.0; mine = d.1.1.1 };
              face = c.faces.entry d.0 d.1.0 d.1.1.0;
              is_left = sym (left_at_entry T first rest last (those r.0 T) d.0 c.comes (label_even T c.comes.old.plain c.comes.old.once r.0 r.1.ringwise) (those_within r.0 T) d.1.0 d.1.1.0) ∙ e;
            }) d.1.0 d.1.1.1 d.1.1.0)
            r.1.near

pub rest_of_face : (T : List Segment) (first : Segment) (rest : List Segment) (last : Segment) (F F' : Segment → ℕ) (f : ℕ) (p q : Segment → Bool) → Closes T first rest last F F' f p q → OneShell T F f →
    RestOfFace (with_line T (first ∷ rest)) F' f first p q
rest_of_face T first rest last F F' f p q c one = by_kind (cut_kind T first rest last F F' f p q c)
  where
    by_kind : CutKind T first rest last F f p q → RestOfFace (with_line T (first ∷ rest)) F' f first p q
    by_kind (of_shell R d shell i m enters) =
        rest_of_shell T (with_line T (first ∷ rest)) F F' f first p q R d one (were_shells T first rest last F F' f p q c) shell i m
        (λ r h. entry_label T first rest last r false c.comes h.shell.ring.ringwise h.not_first h.not_second d i enters)
    by_kind (of_hole turn) = rest_of_hole T (with_line T (first ∷ rest)) F F' f first p q (old_in T (first ∷ rest)) one (were_shells T first rest last F F' f p q c) turn

pub rest_of_outer_face : (T : List Segment) (first : Segment) (rest : List Segment) (last : Segment) (F F' : Segment → ℕ) (f : ℕ) (p q : Segment → Bool) → Closes T first rest last F F' f p q → NoShell T F f →
    IsTurned (with_line T (first ∷ rest)) first p q × NoOtherShell (with_line T (first ∷ rest)) F' f first (back first)
rest_of_outer_face T first rest last F F' f p q c none =
    (by_kind (cut_kind T first rest last F F' f p q c), rest_of_outer T (with_line T (first ∷ rest)) F F' f first none (were_shells T first rest last F F' f p q c))
  where
    by_kind : CutKind T first rest last F f p q → IsTurned (with_line T (first ∷ rest)) first p q
    by_kind (of_shell R d shell i m enters) = absurd (none R shell)
    by_kind (of_hole turn) = turn

-- ---- other faces
-- a ring of another face is off the line
off_by_face : (T : List Segment) (first : Segment) (rest : List Segment) (last : Segment) (F F' : Segment → ℕ) (f : ℕ) (p q : Segment → Bool) (r : Segment → Bool) (s : Segment) → Closes T first rest last F F' f p q →
    IsRingLabel (with_line T (first ∷ rest)) r → In s (with_line T (first ∷ rest)) → r s ≡ true → F' s ≢ f → (r first ≡ false) × (r (back first) ≡ false)
off_by_face T first rest last F F' f p q r s c ring i m n = (off first (forth_in (first ∷ rest) first (inl refl)), off (back first) (back_in (first ∷ rest) first (inl refl)))
  where
    off : (t : Segment) → In t (both_ways_of (first ∷ rest)) → r t ≡ false
    off t j =
        false_from_ne_true (r t) (λ k.
        n (ring_face (with_line T (first ∷ rest)) F' r (new_faces T first rest last F F' f c.comes c.faces) ring.one s t i (way_in T (first ∷ rest) t j) m k ∙ c.faces.line t j))

-- a shell of another face was one
was_shell : (T : List Segment) (first : Segment) (rest : List Segment) (last : Segment) (F F' : Segment → ℕ) (f : ℕ) (p q : Segment → Bool) (g : ℕ) (r : Segment → Bool) → Closes T first rest last F F' f p q → g ≢ f →
    IsShellOf (with_line T (first ∷ rest)) F' g r → IsShellOf T F g r
was_shell T first rest last F F' f p q g r c n h =
    let off = off_by_face T first rest last F F' f p q r h.ring.step c h.ring h.ring.there h.ring.mine (λ e. n (sym h.face ∙ e)) in
    shell_off_line T first rest last F F' g r c.comes c.faces.same h off.0 off.1

pub other_none : (T : List Segment) (first : Segment) (rest : List Segment) (last : Segment) (F F' : Segment → ℕ) (f : ℕ) (p q : Segment → Bool) (g : ℕ) → Closes T first rest last F F' f p q → g ≢ f → NoShell T F g →
    NoShell (with_line T (first ∷ rest)) F' g
other_none T first rest last F F' f p q g c n none r h = none r (was_shell T first rest last F F' f p q g r c n h)

pub other_one : (T : List Segment) (first : Segment) (rest : List Segment) (last : Segment) (F F' : Segment → ℕ) (f : ℕ) (p q : Segment → Bool) (g : ℕ) → Closes T first rest last F F' f p q → g ≢ f → OneShell T F g →
    OneShell (with_line T (first ∷ rest)) F' g
other_one T first rest last F F' f p q g c n h = record {
  p = u.0;
  shell = record {
    ring = record { ringwise = u.1.0.ringwise; one = u.1.0.one; step = s; there = there; mine = u.1.1 };
    face = face;
    is_left = left_with_line T (first ∷ rest) u.0 false (way_label T first rest last u.0 false c.comes u.1.0.ringwise off.0 off.1) s ∙ ap (λ X. left X s) (those_same u.0 h.p T same) ∙ h.shell.is_left;
  };
  only = λ x y hx hy t i.
      let k = was_shell T first rest last F F' f p q g x c n hx in
      let m = was_shell T first rest last F F' f p q g y c n hy in
      rings_same (with_line T (first ∷ rest)) x y k.ring.step hx.ring.ringwise hx.ring.one hy.ring.ringwise hy.ring.one (old_in T (first ∷ rest) k.ring.step k.ring.there) k.ring.mine
      (sym (h.only x y k m k.ring.step k.ring.there) ∙ k.ring.mine) t i;
}
  where
    s : Segment
    s = h.shell.ring.step

    there : In h.shell.ring.step (with_line T (first ∷ rest))
    there = old_in T (first ∷ rest) h.shell.ring.step h.shell.ring.there

    u : (r : Segment → Bool) × (IsRingLabel (with_line T (first ∷ rest)) r × (r h.shell.ring.step ≡ true))
    u = rings_there (with_line T (first ∷ rest)) c.comes.new h.shell.ring.step (old_in T (first ∷ rest) h.shell.ring.step h.shell.ring.there)

    face : F' h.shell.ring.step ≡ g
    face = c.faces.same h.shell.ring.step h.shell.ring.there ∙ h.shell.face

    off : (u.0 first ≡ false) × (u.0 (back first) ≡ false)
    off = off_by_face T first rest last F F' f p q u.0 h.shell.ring.step c u.1.0 (old_in T (first ∷ rest) h.shell.ring.step h.shell.ring.there) u.1.1 (λ e. n (sym face ∙ e))

    same : (t : Segment) → In t T → u.0 t ≡ h.p t
    same =
        let old = ring_off_line T first rest last u.0 c.comes u.1.0 off.0 off.1 in
        rings_same T u.0 h.p h.shell.ring.step old.ringwise old.one h.shell.ring.ringwise h.shell.ring.one h.shell.ring.there u.1.1 h.shell.ring.mine
