-- Drawings in which edges cover the same points with the same faces beside them: faces have the same points.
use Rattle.std.proofs.Common.{◌≡◌, ◌∙◌, ℕ, sym, ⊎_elim, inl, inr, Bool, true, ◌||◌, List}
use Rattle.std.specs.Prelude.{◌↔◌}
use Rattle.std.specs.List.{Contains}
use Rattle.std.proofs.lemmas.Bool.{or_cases, or_left, or_right}
use Rattle.topo_base.specs.RationalPoint.{RationalPoint}
use Rattle.topo_base.specs.declared.kind.Kind.TheVariants.{Areal}
use Rattle.drawing.specs.DrawnPoints.{IsOnEdge, is_in_face_at}
use Rattle.drawing.specs.Drawing.{Drawing, Edge}
use Rattle.drawing.specs.FeaturePoints.{IsPointOfElements}
use Rattle.drawing.specs.Relations.{is_among}
use Rattle.subdivision_laws.specs.Subdivided.{IsSubdivided}
use Rattle.point_laws.proofs.Areal.{InArea, area_from, area_to}
use Rattle.point_laws.proofs.OneMore.{same_in}
use Rattle.point_laws.proofs.Primitive.{among_same}

-- one of the faces beside the edge is among these
abbrev pub has_side : Edge → List ℕ → Bool
has_side x ids = is_among x.left_face ids || is_among x.right_face ids

side_same : (x : Edge) (xs ys : List ℕ) → ((w : ℕ) → Contains xs w → Contains ys w) → has_side x xs ≡ true → has_side x ys ≡ true
side_same x xs ys lists h =
    ⊎_elim
    (λ (k : is_among x.left_face xs ≡ true). or_left (is_among x.left_face ys) (is_among x.right_face ys) (among_same x.left_face xs ys lists k))
    (λ (k : is_among x.right_face xs ≡ true). or_right (is_among x.left_face ys) (is_among x.right_face ys) (among_same x.right_face xs ys lists k))
    (or_cases (is_among x.left_face xs) (is_among x.right_face xs) h)

-- each point of an edge of S is on an edge of T with the same faces beside it
abbrev pub LieOn : Drawing → Drawing → Type 0
LieOn S T = (x : Edge) (q : RationalPoint) → Contains S.edges x → IsOnEdge q x → (y : Edge) × (Contains T.edges y × IsOnEdge q y × ((ids : List ℕ) → has_side x ids ≡ has_side y ids))

pub record IsSameArea (S T : Drawing) : Type 0 where
  pub forth : LieOn S T
  pub back : LieOn T S
  pub faces : T.faces ≡ S.faces
  pub parity : (g : ℕ) (q : RationalPoint) → is_in_face_at T g q ≡ is_in_face_at S g q

turned : (S T : Drawing) → IsSameArea S T → IsSameArea T S
turned S T h = record { forth = h.back; back = h.forth; faces = sym h.faces; parity = λ g q. sym (h.parity g q) }

area_over : (S T : Drawing) (xs ys : List ℕ) (q : RationalPoint) → IsSubdivided S → IsSameArea S T → ((w : ℕ) → Contains xs w → Contains ys w) → InArea S xs q → InArea T ys q
area_over S T xs ys q s h lists (inl (off, (g, (among, inside)))) =
    inl (λ y cy on. let (x, (cx, here, same)) = h.back y q cy on in off x cx here, (g, (among_same g xs ys lists among, same_in S T g q s h.faces (λ k. h.parity k q) inside)))
area_over S T xs ys q s h lists (inr (x, (cx, sides, on))) =
    let (y, (cy, here, same)) = h.forth x q cx on in
    inr (y, (cy, side_same y xs ys lists (sym (same xs) ∙ sides), here))

pub same_area : (S T : Drawing) (xs ys : List ℕ) (q : RationalPoint) → IsSubdivided S → IsSubdivided T → IsSameArea S T → ((w : ℕ) → Contains xs w ↔ Contains ys w) → IsPointOfElements S Areal xs q ↔ IsPointOfElements T Areal ys q
same_area S T xs ys q s t h lists =
    (λ p. area_to T ys q t (area_over S T xs ys q s h (λ w. (lists w).0) (area_from S xs q s p)), λ p. area_to S xs q s (area_over T S ys xs q t (turned S T h) (λ w. (lists w).1) (area_from T ys q t p)))
