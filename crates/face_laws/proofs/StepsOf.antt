-- The steps of a drawing are those of its edges, walked both ways.
use Rattle.std.proofs.Common.{◌≡◌, refl, sym, subst, ◌⊎◌, inl, inr, ⊎_elim, Bool, true, false, cond, List, [], ◌∷◌, ◌++◌}
use Rattle.std.specs.Prelude.{reverse}
use Rattle.std.specs.List.{Contains}
use Rattle.std.proofs.lemmas.List.Elements.{Contains-append_left, Contains-append_right, Contains-append_cases}
use Rattle.plane.specs.Segment.{Segment}
use Rattle.plane.specs.Line.{segments_of}
use Rattle.drawing.specs.Drawing.{Edge}
use Rattle.plane.proofs.ListTests.{contains_here, contains_there, contains_cases, contains_none}
use Rattle.parity_laws.specs.Steps.{odd}
use Rattle.parity_laws.specs.Rings.{In, those}
use Rattle.face_laws.proofs.FaceParity.{walked}

-- ---- the edge of a step
abbrev pub IsOfEdge : Edge → Segment → Type 0
IsOfEdge e s = Contains (segments_of e.geom) s ⊎ Contains (segments_of (reverse e.geom)) s

pub forward_in : (edges : List Edge) (e : Edge) (s : Segment) → Contains edges e → Contains (segments_of e.geom) s → Contains (walked edges) s
forward_in [] e s c i = absurd (contains_none e c)
forward_in (d ∷ edges) e s c i =
    ⊎_elim
    (λ (k : d ≡ e). Contains-append_left (segments_of d.geom) (segments_of (reverse d.geom) ++ walked edges) s (subst (λ z. Contains (segments_of z.geom) s) (sym k) i))
    (λ (k : Contains edges e).
    Contains-append_right (segments_of d.geom) (segments_of (reverse d.geom) ++ walked edges) s
    (Contains-append_right (segments_of (reverse d.geom)) (walked edges) s (forward_in edges e s k i)))
    (contains_cases e d edges c)

pub backward_in : (edges : List Edge) (e : Edge) (s : Segment) → Contains edges e → Contains (segments_of (reverse e.geom)) s → Contains (walked edges) s
backward_in [] e s c i = absurd (contains_none e c)
backward_in (d ∷ edges) e s c i =
    ⊎_elim
    (λ (k : d ≡ e).
    Contains-append_right (segments_of d.geom) (segments_of (reverse d.geom) ++ walked edges) s
    (Contains-append_left (segments_of (reverse d.geom)) (walked edges) s (subst (λ z. Contains (segments_of (reverse z.geom)) s) (sym k) i)))
    (λ (k : Contains edges e).
    Contains-append_right (segments_of d.geom) (segments_of (reverse d.geom) ++ walked edges) s
    (Contains-append_right (segments_of (reverse d.geom)) (walked edges) s (backward_in edges e s k i)))
    (contains_cases e d edges c)

pub step_edge : (edges : List Edge) (s : Segment) → Contains (walked edges) s → (e : Edge) × (Contains edges e × IsOfEdge e s)
step_edge [] s c = absurd (contains_none s c)
step_edge (d ∷ edges) s c =
    ⊎_elim
    (λ (i : Contains (segments_of d.geom) s). (d, (contains_here d edges, inl i)))
    (λ (k : Contains (segments_of (reverse d.geom) ++ walked edges) s).
    ⊎_elim
    (λ (i : Contains (segments_of (reverse d.geom)) s). (d, (contains_here d edges, inr i)))
    (λ (m : Contains (walked edges) s). let r = step_edge edges s m in (r.0, (contains_there r.0 d edges r.1.0, r.1.1)))
    (Contains-append_cases (segments_of (reverse d.geom)) (walked edges) s k))
    (Contains-append_cases (segments_of d.geom) (segments_of (reverse d.geom) ++ walked edges) s c)

-- ---- an odd number of steps with a label is some
pub some_step : (g label : Segment → Bool) (X : List Segment) → odd g (those label X) ≡ true → (s : Segment) × (In s X × (label s ≡ true))
some_step g label [] e = cc
some_step g label (t ∷ X) e = by_test (label t) refl e (λ f. some_step g label X f)
  where
    by_test : (b : Bool) → label t ≡ b → odd g (cond b (t ∷ those label X) (those label X)) ≡ true → (odd g (those label X) ≡ true → (s : Segment) × (In s X × (label s ≡ true))) → (s : Segment) × (In s (t ∷ X) × (label s ≡ true))
    by_test true l e rest = (t, (inl refl, l))
    by_test false l e rest = let r = rest e in (r.0, (inr r.1.0, r.1.1))
