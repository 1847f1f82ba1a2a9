-- A line that goes and had one face on both of its sides.
use Rattle.std.proofs.Common.{◌≡◌, ◌≢◌, sym, ◌∙◌, ap, ℕ, Bool, true, List, ◌∷◌, eqb, eq-eqb}
use Rattle.std.proofs.lemmas.Bool.{eqb-true}
use Rattle.topo_base.specs.Point.{Point}
use Rattle.plane.specs.Segment.{Segment}
use Rattle.plane.specs.Crossings.{back}
use Rattle.parity_laws.specs.Steps.{above, left}
use Rattle.parity_laws.specs.Rings.{In, Next, those, Ringwise, Sided, of_face}
use Rattle.parity_laws.proofs.Star.{those_within}
use Rattle.parity_laws.proofs.Following.{follows}
use Rattle.parity_laws.proofs.Orbits.{label_even}
use Rattle.parity_laws.specs.Shelling.{IsRingLabel}
use Rattle.parity_laws.proofs.FaceShells.{HasOnce, rings_meet_once}
use Rattle.parity_laws.specs.Coming.{with_line, LineComes, Enters}
use Rattle.parity_laws.proofs.RingAt.{rings_there}
use Rattle.parity_laws.proofs.LineCorners.{old_ringwise, entry_label}
use Rattle.parity_laws.proofs.LineGone.{first_there, back_there, left_without_line, above_without_line, sided_without_line, IsEndOf, above_end}

-- F is the face of each step, f on both sides of the line
pub record OneFace (T : List Segment) (first : Segment) (rest : List Segment) (last : Segment) (F : Segment → ℕ) (f : ℕ) : Type 0 where
  pub comes : LineComes T first rest last
  pub rings : (g : ℕ) → Ringwise (with_line T (first ∷ rest)) (of_face F g)
  pub forth : F first ≡ f
  pub walked : F (back first) ≡ f

pub one_ringwise : (T : List Segment) (first : Segment) (rest : List Segment) (last : Segment) (F : Segment → ℕ) (f : ℕ) → OneFace T first rest last F f → (g : ℕ) → Ringwise T (of_face F g)
one_ringwise T first rest last F f h g = old_ringwise T first rest last (of_face F g) (eqb f g) h.comes (h.rings g) (ap (λ z. eqb z g) h.forth) (ap (λ z. eqb z g) h.walked)

pub one_sided : (T : List Segment) (first : Segment) (rest : List Segment) (last : Segment) (F : Segment → ℕ) (f : ℕ) → OneFace T first rest last F f → (g : ℕ) →
    Sided (with_line T (first ∷ rest)) (of_face F g) → Sided T (of_face F g)
one_sided T first rest last F f h g sided = sided_without_line T first rest last (of_face F g) (eqb f g) h.comes (h.rings g) (ap (λ z. eqb z g) h.forth) (ap (λ z. eqb z g) h.walked) sided

-- the parities above a point stay
pub one_above : (T : List Segment) (first : Segment) (rest : List Segment) (last : Segment) (F : Segment → ℕ) (f : ℕ) → OneFace T first rest last F f → (g : ℕ) (v : Point) →
    above (those (of_face F g) T) v ≡ above (those (of_face F g) (with_line T (first ∷ rest))) v
one_above T first rest last F f h g v = above_without_line T first rest last (of_face F g) (eqb f g) h.comes (h.rings g) (ap (λ z. eqb z g) h.forth) (ap (λ z. eqb z g) h.walked) v

-- the parities on the left of the line say its face
pub one_left : (T : List Segment) (first : Segment) (rest : List Segment) (last : Segment) (F : Segment → ℕ) (f : ℕ) → OneFace T first rest last F f → (g : ℕ) →
    Sided (with_line T (first ∷ rest)) (of_face F g) → left (those (of_face F g) T) first ≡ eqb f g
one_left T first rest last F f h g sided =
    left_without_line T first rest last (of_face F g) (eqb f g) h.comes (h.rings g) (ap (λ z. eqb z g) h.forth) (ap (λ z. eqb z g) h.walked) first
    ∙ sided first (first_there T first rest)
    ∙ ap (λ z. eqb z g) h.forth

-- ---- an end at which no other step begins
-- without the line it lies in the line's face
pub face_above_end : (T : List Segment) (first : Segment) (rest : List Segment) (last : Segment) (F : Segment → ℕ) (f : ℕ) (e : Segment) → OneFace T first rest last F f → IsEndOf first last e →
    ((t : Segment) → In t T → t.a ≢ e.a) → (g : ℕ) → Sided (with_line T (first ∷ rest)) (of_face F g) → above (those (of_face F g) T) e.a ≡ eqb f g
face_above_end T first rest last F f e h end none g sided =
    above_end T first rest last (those (of_face F g) T) e h.comes end none (label_even T h.comes.old.plain h.comes.old.once (of_face F g) (one_ringwise T first rest last F f h g)) (those_within (of_face F g) T)
    ∙ one_left T first rest last F f h g sided

-- ---- the ring of the line has it both ways
pub one_ring : (T : List Segment) (first : Segment) (rest : List Segment) (last : Segment) (F : Segment → ℕ) (f : ℕ) (p : Segment → Bool) → OneFace T first rest last F f → HasOnce (with_line T (first ∷ rest)) F f →
    IsRingLabel (with_line T (first ∷ rest)) p → p first ≡ true → p (back first) ≡ true
one_ring T first rest last F f p h once ring e = by_ring (rings_there (with_line T (first ∷ rest)) h.comes.new (back first) (back_there T first rest)) (follows (with_line T (first ∷ rest)) h.comes.new.plain (back first) (back_there T first rest))
  where
    by_ring : (q : Segment → Bool) × (IsRingLabel (with_line T (first ∷ rest)) q × (q (back first) ≡ true)) → (n : Segment) × (In n (with_line T (first ∷ rest)) × Next (with_line T (first ∷ rest)) (back first) n) → p (back first) ≡ true
    by_ring q n =
        rings_meet_once (with_line T (first ∷ rest)) F f p q.0 first n.0 h.comes.new (rings_there (with_line T (first ∷ rest)) h.comes.new) once
        (record { ring = ring; there = first_there T first rest; mine = e; face = h.forth })
        (record { ring = q.1.0; there = n.1.0; mine = sym (q.1.0.ringwise (back first) n.0 (back_there T first rest) n.1.0 n.1.1) ∙ q.1.1; face = face })
        (sym n.1.1.meets) (back first) (back_there T first rest)
        ∙ q.1.1
      where
        face : F n.0 ≡ f
        face = eqb-true (F n.0) f (sym (h.rings f (back first) n.0 (back_there T first rest) n.1.0 n.1.1) ∙ eq-eqb (F (back first)) f h.walked)

-- ---- the old steps that lead to the line
pub one_entry : (T : List Segment) (first : Segment) (rest : List Segment) (last : Segment) (F : Segment → ℕ) (f : ℕ) → OneFace T first rest last F f → (d : Segment) → In d T → Enters (with_line T (first ∷ rest)) first last d → F d ≡ f
one_entry T first rest last F f h d i enters =
    eqb-true (F d) f (entry_label T first rest last (of_face F f) true h.comes (h.rings f) (eq-eqb (F first) f h.forth) (eq-eqb (F (back first)) f h.walked) d i enters)
