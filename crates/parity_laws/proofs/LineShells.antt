-- The faces of a drawing where a line comes, and their shells where it closes no ring.
use Rattle.std.proofs.Common.{◌≡◌, refl, sym, ◌∙◌, ap, subst, ℕ, ◌⊎◌, inl, inr, ⊎_elim, Bool, true, false, List, ◌∷◌, eqb, eq-eqb}
use Rattle.std.proofs.lemmas.Bool.{both_ways, eqb-true, or_cases, or_left, or_right}
use Rattle.plane.specs.Segment.{Segment}
use Rattle.plane.specs.Parity.{xor}
use Rattle.plane.specs.Crossings.{back}
use Rattle.parity_laws.specs.Steps.{left}
use Rattle.parity_laws.specs.Rings.{In, Next, those, Drawn, Ringwise, OneRing, Sided, of_face}
use Rattle.parity_laws.proofs.Sums.{xor_comm}
use Rattle.parity_laws.proofs.Star.{those_within}
use Rattle.parity_laws.proofs.Orbits.{label_even}
use Rattle.parity_laws.specs.Coming.{both_ways_of, with_line, LineComes, Enters, FaceComes}
use Rattle.parity_laws.specs.Shelling.{IsRingLabel, IsShellOf, OneShell, NoShell}
use Rattle.parity_laws.proofs.RingAt.{rings_there}
use Rattle.parity_laws.proofs.OnLine.{old_in, way_in, forth_in, back_in, last_in, old_or_way, way_label, left_ringwise}
use Rattle.parity_laws.proofs.LineFaces.{line_sided}
use Rattle.parity_laws.proofs.LineCorners.{new_ringwise}
use Rattle.parity_laws.proofs.Labels.{those_same, rings_same}
use Rattle.parity_laws.proofs.OldRings.{left_with_line, ring_off_line, ring_stays}
use Rattle.parity_laws.proofs.JoinedRings.{EndRing, end_ring, ends_one_or_apart, joined_ring, left_at_entry, joined_apart, joined_one, left_empty}

-- ---- faces of steps

-- along a line that is entered from a step the parity of each face says whether it is that step's
pub entry_parity : (T : List Segment) (first : Segment) (rest : List Segment) (last : Segment) (F : Segment → ℕ) (g : ℕ) (d : Segment) → LineComes T first rest last → Ringwise T (of_face F g) → Sided T (of_face F g) →
    In d T → Enters (with_line T (first ∷ rest)) first last d → left (those (of_face F g) T) first ≡ eqb (F d) g
entry_parity T first rest last F g d c rings sided i enters = left_at_entry T first rest last (those (of_face F g) T) d c (label_even T c.old.plain c.old.once (of_face F g) rings) (those_within (of_face F g) T) i enters ∙ sided d i

-- the sides of all steps stay right
pub faces_sided : (T : List Segment) (first : Segment) (rest : List Segment) (last : Segment) (F F' : Segment → ℕ) (f : ℕ) → LineComes T first rest last → FaceComes T first rest last F F' f → (g : ℕ) →
    Sided T (of_face F g) → left (those (of_face F g) T) first ≡ eqb f g → Sided (with_line T (first ∷ rest)) (of_face F' g)
faces_sided T first rest last F F' f c h g sided at =
    (line_sided T first rest last (of_face F g) (of_face F' g) (eqb f g) c (h.rings g) sided (λ s i. ap (λ k. eqb k g) (h.same s i)) (λ s i. ap (λ k. eqb k g) (h.line s i)) at).1

-- the steps of a ring have one face
pub ring_face : (T : List Segment) (F : Segment → ℕ) (p : Segment → Bool) → ((g : ℕ) → Ringwise T (of_face F g)) → OneRing T p → (s t : Segment) → In s T → In t T → p s ≡ true → p t ≡ true → F s ≡ F t
ring_face T F p rings one s t i j e f = eqb-true (F s) (F t) (one (of_face F (F t)) (rings (F t)) s t i j e f ∙ eq-eqb (F t) (F t) refl)

-- and one value of its own parity
pub ring_left : (T : List Segment) (p : Segment → Bool) → Drawn T → Ringwise T p → OneRing T p → (s t : Segment) → In s T → In t T → p s ≡ true → p t ≡ true → left (those p T) s ≡ left (those p T) t
ring_left T p drawn rings one s t i j e f = one (left (those p T)) (left_ringwise T (those p T) drawn.plain (label_even T drawn.plain drawn.once p rings) (those_within p T)) s t i j e f

-- the new faces are one for each new ring
pub new_faces : (T : List Segment) (first : Segment) (rest : List Segment) (last : Segment) (F F' : Segment → ℕ) (f : ℕ) → LineComes T first rest last → FaceComes T first rest last F F' f →
    (g : ℕ) → Ringwise (with_line T (first ∷ rest)) (of_face F' g)
new_faces T first rest last F F' f c h g =
    new_ringwise T first rest last (of_face F' g) (eqb f g) c
    (λ d n i j next. ap (λ k. eqb k g) (h.same d i) ∙ h.rings g d n i j next ∙ sym (ap (λ k. eqb k g) (h.same n j)))
    (λ s i. ap (λ k. eqb k g) (h.line s i))
    (λ d i enters. ap (λ k. eqb k g) (h.same d i ∙ h.entry d i enters))

-- ---- shells
-- a new shell that isn't on the line was one before
pub shell_off_line : (T : List Segment) (first : Segment) (rest : List Segment) (last : Segment) (F F' : Segment → ℕ) (g : ℕ) (q : Segment → Bool) → LineComes T first rest last → ((s : Segment) → In s T → F' s ≡ F s) →
    IsShellOf (with_line T (first ∷ rest)) F' g q → q first ≡ false → q (back first) ≡ false → IsShellOf T F g q
shell_off_line T first rest last F F' g q c same shell e f = record {
  ring = record { ringwise = old.ringwise; one = old.one; step = shell.ring.step; there = there; mine = shell.ring.mine };
  face = sym (same shell.ring.step there) ∙ shell.face;
  is_left = sym (left_with_line T (first ∷ rest) q false off shell.ring.step) ∙ shell.is_left;
}
  where
    old : IsRingLabel T q
    old = ring_off_line T first rest last q c shell.ring e f

    off : (s : Segment) → In s (both_ways_of (first ∷ rest)) → q s ≡ false
    off s i = way_label T first rest last q false c shell.ring.ringwise e f s i

    there : In shell.ring.step T
    there =
        ⊎_elim
        (λ (j : In shell.ring.step T). j)
        (λ (j : In shell.ring.step (both_ways_of (first ∷ rest))). absurd (both_ways (q shell.ring.step) (off shell.ring.step j) shell.ring.mine))
        (old_or_way T (first ∷ rest) shell.ring.step shell.ring.there)

-- an old shell none of whose steps enters the line is one still
pub shell_stays : (T : List Segment) (first : Segment) (rest : List Segment) (last : Segment) (F F' : Segment → ℕ) (g : ℕ) (p p' : Segment → Bool) → LineComes T first rest last → ((s : Segment) → In s T → F' s ≡ F s) →
    IsShellOf T F g p → ((s : Segment) → In s T → p' s ≡ p s) → ((s : Segment) → In s (both_ways_of (first ∷ rest)) → p' s ≡ false) →
    ((d : Segment) → In d T → p d ≡ true → Enters (with_line T (first ∷ rest)) first last d → ⊥) → IsShellOf (with_line T (first ∷ rest)) F' g p'
shell_stays T first rest last F F' g p p' c same shell is line off = record {
  ring = record { ringwise = new.ringwise; one = new.one; step = shell.ring.step; there = old_in T (first ∷ rest) shell.ring.step shell.ring.there; mine = is shell.ring.step shell.ring.there ∙ shell.ring.mine };
  face = same shell.ring.step shell.ring.there ∙ shell.face;
  is_left = left_with_line T (first ∷ rest) p' false line shell.ring.step ∙ ap (λ X. left X shell.ring.step) (those_same p' p T is) ∙ shell.is_left;
}
  where
    new : IsRingLabel (with_line T (first ∷ rest)) p'
    new = ring_stays T first rest last p p' c shell.ring is line off

-- a line that comes in a face and has one ring on both of its sides
pub record OpenLine (T : List Segment) (first : Segment) (rest : List Segment) (last : Segment) (F F' : Segment → ℕ) (f : ℕ) : Type 0 where
  pub comes : LineComes T first rest last
  pub faces : FaceComes T first rest last F F' f
  pub p : Segment → Bool
  pub ring : IsRingLabel (with_line T (first ∷ rest)) p
  pub forth : p first ≡ true
  pub walked : p (back first) ≡ true

-- the ring at an end, where its own parity along the line is 1
end_shell : (T : List Segment) (first : Segment) (rest : List Segment) (last : Segment) (F F' : Segment → ℕ) (f : ℕ) (e : Segment) (R : Segment → Bool) → LineComes T first rest last → FaceComes T first rest last F F' f →
    EndRing T (with_line T (first ∷ rest)) e R → ((d : Segment) → Next (with_line T (first ∷ rest)) d e → Enters (with_line T (first ∷ rest)) first last d) → left (those R T) first ≡ true → IsShellOf T F f R
end_shell T first rest last F F' f e R c h r at is =
    ⊎_elim
    (λ (none : (t : Segment) → In t T → R t ≡ false). absurd (both_ways (left (those R T) first) (left_empty T R first none) is))
    (λ (d : (d : Segment) × (In d T × (Next (with_line T (first ∷ rest)) d e × (R d ≡ true)))).
    record {
      ring = record { ringwise = r.ringwise; one = r.one; step = d.0; there = d.1.0; mine = d.1.1.1 };
      face = h.entry d.0 d.1.0 (at d.0 d.1.1.0);
      is_left = sym (left_at_entry T first rest last (those R T) d.0 c (label_even T c.old.plain c.old.once R r.ringwise) (those_within R T) d.1.0 (at d.0 d.1.1.0)) ∙ is;
    })
    r.near

-- a ring of the new drawing is off the line, or has both directions of it
off_or_on : (T : List Segment) (first : Segment) (rest : List Segment) (last : Segment) (F F' : Segment → ℕ) (f : ℕ) (q : Segment → Bool) → OpenLine T first rest last F F' f → IsRingLabel (with_line T (first ∷ rest)) q →
    ((q first ≡ false) × (q (back first) ≡ false)) ⊎ ((q first ≡ true) × (q (back first) ≡ true))
off_or_on T first rest last F F' f q o r = by_values (q first) (q (back first)) same
  where
    same : q first ≡ q (back first)
    same =
        o.ring.one q r.ringwise first (back first) (way_in T (first ∷ rest) first (forth_in (first ∷ rest) first (inl refl))) (way_in T (first ∷ rest) (back first) (back_in (first ∷ rest) first (inl refl))) o.forth o.walked

    by_values : (a b : Bool) → a ≡ b → ((a ≡ false) × (b ≡ false)) ⊎ ((a ≡ true) × (b ≡ true))
    by_values true b e = inr (refl, sym e)
    by_values false b e = inl (refl, sym e)

-- each new shell has an old one within it
old_shell : (T : List Segment) (first : Segment) (rest : List Segment) (last : Segment) (F F' : Segment → ℕ) (f : ℕ) → OpenLine T first rest last F F' f →
    (g : ℕ) (q : Segment → Bool) → IsShellOf (with_line T (first ∷ rest)) F' g q → (r : Segment → Bool) × (IsShellOf T F g r × ((t : Segment) → In t T → r t ≡ true → q t ≡ true))
old_shell T first rest last F F' f o g q shell = ⊎_elim off on (off_or_on T first rest last F F' f q o shell.ring)
  where
    off : (q first ≡ false) × (q (back first) ≡ false) → (r : Segment → Bool) × (IsShellOf T F g r × ((t : Segment) → In t T → r t ≡ true → q t ≡ true))
    off e = (q, (shell_off_line T first rest last F F' g q o.comes o.faces.same shell e.0 e.1, λ t i k. k))

    on : (q first ≡ true) × (q (back first) ≡ true) → (r : Segment → Bool) × (IsShellOf T F g r × ((t : Segment) → In t T → r t ≡ true → q t ≡ true))
    on e =
        let c = o.comes in
        let first_way = forth_in (first ∷ rest) first (inl refl) in
        let first_there = way_in T (first ∷ rest) first first_way in
        let a = end_ring T first rest last first c first_way in
        let b = end_ring T first rest last (back last) c (back_in (first ∷ rest) last (last_in T first rest last c)) in
        let is = joined_ring T first rest last q a.0 b.0 c shell.ring.ringwise shell.ring.one e.0 e.1 a.1 b.1 in
        let face : f ≡ g = sym (o.faces.line first first_way) ∙ ring_face (with_line T (first ∷ rest)) F' q (new_faces T first rest last F F' f c o.faces) shell.ring.one first shell.ring.step first_there shell.ring.there e.0 shell.ring.mine ∙ shell.face in
        let value : left (those q (with_line T (first ∷ rest))) first ≡ true = ring_left (with_line T (first ∷ rest)) q c.new shell.ring.ringwise shell.ring.one first shell.ring.step first_there shell.ring.there e.0 shell.ring.mine ∙ shell.is_left in
        let at_first : left (those a.0 T) first ≡ true → (r : Segment → Bool) × (IsShellOf T F g r × ((t : Segment) → In t T → r t ≡ true → q t ≡ true)) =
        λ k. (a.0, (subst (λ z. IsShellOf T F z a.0) face (end_shell T first rest last F F' f first a.0 c o.faces a.1 (λ d next. inl next) k), λ t i m. is t i ∙ or_left (a.0 t) (b.0 t) m))
        in
        let at_last : left (those b.0 T) first ≡ true → (r : Segment → Bool) × (IsShellOf T F g r × ((t : Segment) → In t T → r t ≡ true → q t ≡ true)) =
        λ k. (b.0, (subst (λ z. IsShellOf T F z b.0) face (end_shell T first rest last F F' f (back last) b.0 c o.faces b.1 (λ d next. inr next) k), λ t i m. is t i ∙ or_right (a.0 t) (b.0 t) m))
        in
        ⊎_elim
        (λ (same : (t : Segment) → In t T → a.0 t ≡ b.0 t). at_first (sym (joined_one T first rest last q a.0 b.0 c shell.ring.ringwise e.0 e.1 is same first) ∙ value))
        (λ (apart : (t : Segment) → In t T → a.0 t ≡ true → b.0 t ≡ false).
        ⊎_elim at_first at_last (one_of (left (those a.0 T) first) (left (those b.0 T) first) (sym (joined_apart T first rest last q a.0 b.0 c shell.ring.ringwise e.0 e.1 is apart first) ∙ value)))
        (ends_one_or_apart T (with_line T (first ∷ rest)) first (back last) a.0 b.0 a.1 b.1)
      where
        one_of : (x y : Bool) → xor x y ≡ true → (x ≡ true) ⊎ (y ≡ true)
        one_of true y e = inl refl
        one_of false y e = inr e

-- how the ring on both sides of the line has its parity from the ring a, and another one, b
abbrev pub FromEnds : List Segment → List Segment → (Segment → Bool) → (Segment → Bool) → (Segment → Bool) → Segment → Segment → Type 0
FromEnds T T' q a b first s =
    (left (those q T') first ≡ left (those a T) first)
    ⊎ ((b s ≡ false) × (left (those q T') first ≡ xor (left (those a T) first) (left (those b T) first)))

-- the ring that has the line is a shell where one of the two rings that it joins is the only shell
joined_shell : (T : List Segment) (first : Segment) (rest : List Segment) (last : Segment) (F F' : Segment → ℕ) (f : ℕ) → OpenLine T first rest last F F' f → (g : ℕ) (r : Segment → Bool) → (shell : IsShellOf T F g r) →
    ((u v : Segment → Bool) → IsShellOf T F g u → IsShellOf T F g v → (s : Segment) → In s T → u s ≡ v s) →
    (q a b : Segment → Bool) (e e' : Segment) → IsRingLabel (with_line T (first ∷ rest)) q → q first ≡ true → EndRing T (with_line T (first ∷ rest)) e a → EndRing T (with_line T (first ∷ rest)) e' b →
    ((d : Segment) → Next (with_line T (first ∷ rest)) d e → Enters (with_line T (first ∷ rest)) first last d) → ((d : Segment) → Next (with_line T (first ∷ rest)) d e' → Enters (with_line T (first ∷ rest)) first last d) →
    a shell.ring.step ≡ true → FromEnds T (with_line T (first ∷ rest)) q a b first shell.ring.step → IsShellOf (with_line T (first ∷ rest)) F' g q
joined_shell T first rest last F F' f o g r shell only q a b e e' ring on ra rb to to' mine from =
    ⊎_elim
    (λ (none : (t : Segment) → In t T → a t ≡ false). absurd (both_ways (a shell.ring.step) (none shell.ring.step shell.ring.there) mine))
    (λ (d : (d : Segment) × (In d T × (Next (with_line T (first ∷ rest)) d e × (a d ≡ true)))). by_entry d.0 d.1.0 (to d.0 d.1.1.0) d.1.1.1)
    ra.near
  where
    same : (t : Segment) → In t T → a t ≡ r t
    same t i = rings_same T a r shell.ring.step ra.ringwise ra.one shell.ring.ringwise shell.ring.one shell.ring.there mine shell.ring.mine t i

    by_entry : (d : Segment) → In d T → Enters (with_line T (first ∷ rest)) first last d → a d ≡ true → IsShellOf (with_line T (first ∷ rest)) F' g q
    by_entry d i enters at = record {
      ring = record { ringwise = ring.ringwise; one = ring.one; step = first; there = way_in T (first ∷ rest) first (forth_in (first ∷ rest) first (inl refl)); mine = on };
      face = o.faces.line first (forth_in (first ∷ rest) first (inl refl)) ∙ face;
      is_left = value;
    }
      where
        rd : r d ≡ true
        rd = sym (same d i) ∙ at

        face : f ≡ g
        face = sym (o.faces.entry d i enters) ∙ ring_face T F r o.faces.rings shell.ring.one d shell.ring.step i shell.ring.there rd shell.ring.mine ∙ shell.face

        own : left (those a T) first ≡ true
        own =
            ap (λ X. left X first) (those_same a r T same)
            ∙ left_at_entry T first rest last (those r T) d o.comes (label_even T o.comes.old.plain o.comes.old.once r shell.ring.ringwise) (those_within r T) i enters
            ∙ ring_left T r o.comes.old shell.ring.ringwise shell.ring.one d shell.ring.step i shell.ring.there rd shell.ring.mine ∙ shell.is_left

        other : b shell.ring.step ≡ false → (x : Bool) → left (those b T) first ≡ x → x ≡ false
        other k false m = refl
        other k true m =
            let second = subst (λ z. IsShellOf T F z b) face (end_shell T first rest last F F' f e' b o.comes o.faces rb to' m) in
            absurd (both_ways (b shell.ring.step) k (sym (only r b shell second shell.ring.step shell.ring.there) ∙ shell.ring.mine))

        sum_of : (x y z : Bool) → x ≡ xor y z → y ≡ true → z ≡ false → x ≡ true
        sum_of x y z k l m = rw (k, l, m)

        value : left (those q (with_line T (first ∷ rest))) first ≡ true
        value =
            ⊎_elim
            (λ (k : left (those q (with_line T (first ∷ rest))) first ≡ left (those a T) first). k ∙ own)
            (λ (k : (b shell.ring.step ≡ false) × (left (those q (with_line T (first ∷ rest))) first ≡ xor (left (those a T) first) (left (those b T) first))).
            sum_of (left (those q (with_line T (first ∷ rest))) first) (left (those a T) first) (left (those b T) first) k.1 own (other k.0 (left (those b T) first) refl))
            from

-- where the face has one shell, it has one still
new_shell : (T : List Segment) (first : Segment) (rest : List Segment) (last : Segment) (F F' : Segment → ℕ) (f : ℕ) → OpenLine T first rest last F F' f → (g : ℕ) → OneShell T F g →
    (q : Segment → Bool) × IsShellOf (with_line T (first ∷ rest)) F' g q
new_shell T first rest last F F' f o g h = (q.0, ⊎_elim off on (off_or_on T first rest last F F' f q.0 o q.1.0))
  where
    s : Segment
    s = h.shell.ring.step

    q : (p : Segment → Bool) × (IsRingLabel (with_line T (first ∷ rest)) p × (p h.shell.ring.step ≡ true))
    q = rings_there (with_line T (first ∷ rest)) o.comes.new h.shell.ring.step (old_in T (first ∷ rest) h.shell.ring.step h.shell.ring.there)

    off : (q.0 first ≡ false) × (q.0 (back first) ≡ false) → IsShellOf (with_line T (first ∷ rest)) F' g q.0
    off e =
        let old = ring_off_line T first rest last q.0 o.comes q.1.0 e.0 e.1 in
        let same = rings_same T q.0 h.p s old.ringwise old.one h.shell.ring.ringwise h.shell.ring.one h.shell.ring.there q.1.1 h.shell.ring.mine in
        record {
          ring = record { ringwise = q.1.0.ringwise; one = q.1.0.one; step = h.shell.ring.step; there = old_in T (first ∷ rest) h.shell.ring.step h.shell.ring.there; mine = q.1.1 };
          face = o.faces.same h.shell.ring.step h.shell.ring.there ∙ h.shell.face;
          is_left = left_with_line T (first ∷ rest) q.0 false (way_label T first rest last q.0 false o.comes q.1.0.ringwise e.0 e.1) h.shell.ring.step ∙ ap (λ X. left X h.shell.ring.step) (those_same q.0 h.p T same) ∙ h.shell.is_left;
        }

    on : (q.0 first ≡ true) × (q.0 (back first) ≡ true) → IsShellOf (with_line T (first ∷ rest)) F' g q.0
    on e =
        let c = o.comes in
        let a = end_ring T first rest last first c (forth_in (first ∷ rest) first (inl refl)) in
        let b = end_ring T first rest last (back last) c (back_in (first ∷ rest) last (last_in T first rest last c)) in
        let is = joined_ring T first rest last q.0 a.0 b.0 c q.1.0.ringwise q.1.0.one e.0 e.1 a.1 b.1 in
        let kind = ends_one_or_apart T (with_line T (first ∷ rest)) first (back last) a.0 b.0 a.1 b.1 in
        let sum = joined_apart T first rest last q.0 a.0 b.0 c q.1.0.ringwise e.0 e.1 is in
        let single = joined_one T first rest last q.0 a.0 b.0 c q.1.0.ringwise e.0 e.1 is in
        ⊎_elim
        (λ (k : a.0 h.shell.ring.step ≡ true).
        joined_shell T first rest last F F' f o g h.p h.shell h.only q.0 a.0 b.0 first (back last) q.1.0 e.0 a.1 b.1 (λ d next. inl next) (λ d next. inr next) k
        (⊎_elim
        (λ (m : (t : Segment) → In t T → a.0 t ≡ b.0 t). inl (single m first))
        (λ (m : (t : Segment) → In t T → a.0 t ≡ true → b.0 t ≡ false). inr (m h.shell.ring.step h.shell.ring.there k, sum m first))
        kind))
        (λ (k : b.0 h.shell.ring.step ≡ true).
        joined_shell T first rest last F F' f o g h.p h.shell h.only q.0 b.0 a.0 (back last) first q.1.0 e.0 b.1 a.1 (λ d next. inr next) (λ d next. inl next) k
        (⊎_elim
        (λ (m : (t : Segment) → In t T → a.0 t ≡ b.0 t). inl (single m first ∙ ap (λ X. left X first) (those_same a.0 b.0 T m)))
        (λ (m : (t : Segment) → In t T → a.0 t ≡ true → b.0 t ≡ false). inr (turned_apart (a.0 h.shell.ring.step) (b.0 h.shell.ring.step) (m h.shell.ring.step h.shell.ring.there) k, sum m first ∙ xor_comm (left (those a.0 T) first) (left (those b.0 T) first)))
        kind))
        (or_cases (a.0 h.shell.ring.step) (b.0 h.shell.ring.step) (sym (is h.shell.ring.step h.shell.ring.there) ∙ q.1.1))
      where
        turned_apart : (x y : Bool) → (x ≡ true → y ≡ false) → y ≡ true → x ≡ false
        turned_apart true y f k = absurd (both_ways y (f refl) k)
        turned_apart false y f k = refl

-- a face with exactly one shell has exactly one still
pub one_shell_stays : (T : List Segment) (first : Segment) (rest : List Segment) (last : Segment) (F F' : Segment → ℕ) (f : ℕ) → OpenLine T first rest last F F' f → (g : ℕ) → OneShell T F g →
    OneShell (with_line T (first ∷ rest)) F' g
one_shell_stays T first rest last F F' f o g h =
    let made = new_shell T first rest last F F' f o g h in
    record {
      p = made.0;
      shell = made.1;
      only = λ q r hq hr s i.
          let oq = old_shell T first rest last F F' f o g q hq in
          let or = old_shell T first rest last F F' f o g r hr in
          let t = oq.1.0.ring.step in
          let k = oq.1.0.ring.there in
          let m = oq.1.0.ring.mine in
          rings_same (with_line T (first ∷ rest)) q r t hq.ring.ringwise hq.ring.one hr.ring.ringwise hr.ring.one (old_in T (first ∷ rest) t k) (oq.1.1 t k m) (or.1.1 t k (sym (h.only oq.0 or.0 oq.1.0 or.1.0 t k) ∙ m)) s i;
    }

-- and one without a shell has none
pub no_shell_stays : (T : List Segment) (first : Segment) (rest : List Segment) (last : Segment) (F F' : Segment → ℕ) (f : ℕ) → OpenLine T first rest last F F' f → (g : ℕ) → NoShell T F g →
    NoShell (with_line T (first ∷ rest)) F' g
no_shell_stays T first rest last F F' f o g none q shell = let old = old_shell T first rest last F F' f o g q shell in none old.0 old.1.0
