-- Rings of a list of steps.
use Rattle.std.specs.Prelude.{◌≡◌, ◌≢◌, ℕ, pos, ◌*ℤ◌, ◌<ℤ◌, Bool, true, false, cond, ◌&&◌, List, [], ◌∷◌, ◌⊎◌}
use lib.Dec.{eqb}
use Rattle.topo_base.specs.Point.{Point, same_point}
use Rattle.plane.specs.Segment.{Segment}
use Rattle.topo_base.specs.RationalPoint.{RationalPoint, SamePoint, rational}
use Rattle.plane.specs.RationalTests.{IsOn, IsLeftOf}
use Rattle.plane.specs.Relation.{AreApart}
use Rattle.plane.specs.Orientation.{area}
use Rattle.plane.specs.Crossings.{back, larger_spot, way}
use Rattle.parity_laws.specs.Steps.{Each, Even, direction, before, odd, above, left}
use Rattle.parity_laws.specs.Ways.{Tied, Outside}
use Rattle.parity_laws.specs.Walks.{NotAt}
use Rattle.parity_laws.specs.Cuts.{Inner}

abbrev pub In : Segment → List Segment → Type 0
In s [] = ⊥
In s (t ∷ T) = (s ≡ t) ⊎ In s T

-- n is the first step clockwise from d, reversed, where d ends
pub record Next (T : List Segment) (d n : Segment) : Type 0 where
  pub meets : n.a ≡ d.b
  pub first : Each (Outside d (direction n)) T

-- each step is next after the one before it, from d through X to z
abbrev pub Turns : List Segment → Segment → List Segment → Segment → Type 0
Turns T d [] z = Next T d z
Turns T d (n ∷ X) z = Next T d n × Turns T n X z

abbrev pub IsRing : List Segment → List Segment → Type 0
IsRing T [] = ⊥
IsRing T (d ∷ X) = Turns T d X d

-- all steps of a plain drawing, each in both directions
pub record Plain (T : List Segment) : Type 0 where
  pub proper : (s : Segment) → In s T → s.a ≢ s.b
  pub tied : (s : Segment) → In s T → Each (Tied s) T
  pub both : (s : Segment) → In s T → In (back s) T

abbrev pub Within : List Segment → List Segment → Type 0
Within X T = (s : Segment) → In s X → In s T

abbrev pub those : (Segment → Bool) → List Segment → List Segment
those p [] = []
those p (t ∷ T) = cond (p t) (t ∷ those p T) (those p T)

-- whether an odd number of the list are s, in this direction
abbrev pub has : List Segment → Segment → Bool
has X s = odd (λ t. same_point t.a s.a && same_point t.b s.b) X

abbrev pub Once : List Segment → Type 0
Once [] = Unit {0}
Once (t ∷ T) = (In t T → ⊥) × Once T

-- the steps with the label are whole rings
pub record Labelled (T : List Segment) (label : Segment → Bool) : Type 0 where
  pub next : (d n : Segment) → In d T → In n T → Next T d n → label d ≡ label n
  pub even : Even (those label T)

-- n is the first step at its start, clockwise from straight up
pub record First (T : List Segment) (n : Segment) : Type 0 where
  pub there : In n T
  pub none : (t : Segment) → In t T → t.a ≡ n.a → before (direction t) (direction n) ≡ false

-- what is straight above the start of n: nothing, or a step that begins higher, and on whose left the parities are those at n's start
abbrev pub Above : List Segment → Segment → Type 0
Above T n =
    ((X : List Segment) → Even X → Within X T → above X n.a ≡ false)
    ⊎ ((d : Segment) × (In d T × (n.a.y <ℤ d.a.y) × ((X : List Segment) → Even X → Within X T → left X d ≡ above X n.a)))

abbrev pub View : List Segment → Type 0
View T = (n : Segment) → First T n → Above T n

-- the label is one for each ring
abbrev pub Ringwise : List Segment → (Segment → Bool) → Type 0
Ringwise T label = (d n : Segment) → In d T → In n T → Next T d n → label d ≡ label n

-- a plain drawing's steps, each once
pub record Drawn (T : List Segment) : Type 0 where
  pub plain : Plain T
  pub once : Once T

-- the steps with the label have themselves on their left, and no other step has
abbrev pub Sided : List Segment → (Segment → Bool) → Type 0
Sided T label = (s : Segment) → In s T → left (those label T) s ≡ label s

-- the label of a step is the face on its left: whether it is f
abbrev pub of_face : (Segment → ℕ) → ℕ → Segment → Bool
of_face F f s = eqb (F s) f

-- by parity v is in the face f: its parity is 1 alone; in face 0 none is
abbrev pub IsInFace : List Segment → (Segment → ℕ) → ℕ → Point → Type 0
IsInFace T F f v = (g : ℕ) → g ≢ 0 → above (those (of_face F g) T) v ≡ eqb f g

-- p is one ring: whatever is one for each ring is one on it
abbrev pub OneRing : List Segment → (Segment → Bool) → Type 0
OneRing T p = (h : Segment → Bool) → Ringwise T h → (s t : Segment) → In s T → In t T → p s ≡ true → p t ≡ true → h s ≡ h t

-- what q sees: m, inside d, from the left, with nothing between
pub record SeesLeft (T : List Segment) (d : Segment) (m q : Point) : Type 0 where
  pub plain : Plain T
  pub there : In d T
  pub inner : Inner m d
  pub alone : (t : Segment) → In t T → IsOn (rational m) t → (t ≡ d) ⊎ (t ≡ back d)
  pub clear : (t : Segment) → In t T → t ≢ d → t ≢ back d → AreApart t (record { a = m; b = q })
  pub off : (t : Segment) → In t T → NotAt q t
  pub is_left : pos 0 <ℤ area d.a d.b q

-- m is inside d and on no other step, q is off all steps and left of d, and the way between meets steps at m alone
pub record SeesLeftAt (T : List Segment) (d : Segment) (m q : RationalPoint) : Type 0 where
  pub there : In d T
  pub inside : IsOn m d
  pub not_start : SamePoint m (rational d.a) → ⊥
  pub not_end : SamePoint m (rational d.b) → ⊥
  pub alone : (t : Segment) → In t T → IsOn m t → (t ≡ d) ⊎ (t ≡ back d)
  pub sees : (t : Segment) → In t T → (r : RationalPoint) → IsOn r t → IsOn (larger_spot (m.d *ℤ q.d) r) (way m q) → SamePoint r m
  pub off : (t : Segment) → In t T → IsOn q t → ⊥
  pub is_left : IsLeftOf q d

-- at a corner of T where d is followed by n, T' has the new step e after d, and n after e walked back
pub record Corner (T' : List Segment) (d n e : Segment) : Type 0 where
  pub enters : Next T' d e
  pub leaves : Next T' (back e) n
