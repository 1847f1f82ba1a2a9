-- The parity of a face's border over a point is that of the steps with the face on their left.
use Rattle.std.proofs.Common.{◌≡◌, ℕ, refl, sym, ◌∙◌, ap, Bool, true, false, cond, List, [], ◌∷◌, ◌++◌, eqb}
use Rattle.std.specs.Prelude.{flat_map, filter, reverse}
use Rattle.std.specs.List.{Contains}
use Rattle.plane.proofs.ListTests.{contains_here, contains_there}
use Rattle.topo_base.specs.Point.{Point}
use Rattle.topo_base.specs.RationalPoint.{RationalPoint}
use Rattle.plane.specs.Segment.{Segment}
use Rattle.plane.specs.Line.{segments_of}
use Rattle.drawing.specs.Drawing.{Drawing, Edge}
use Rattle.drawing.specs.HalfEdge.{HalfEdge, both_ways}
use Rattle.plane.specs.RationalTests.{is_odd_over_at}
use Rattle.drawing.specs.DrawnPoints.{is_in_face_at}
use Rattle.plane.specs.Parity.{xor, is_odd_over}
use Rattle.drawing.specs.Faces.{is_border, is_in_face}
use Rattle.plane.specs.Crossings.{back, over, over_at, crosses, crosses_at}
use Rattle.plane.proofs.ParityStaying.{over_is, over_point_is}
use Rattle.parity_laws.specs.Steps.{odd, above, above_at}
use Rattle.parity_laws.specs.Rings.{those, of_face}
use Rattle.parity_laws.proofs.Sums.{odd_append, xor_comm, summing, xor_assoc, xor_pair}
use Rattle.face_laws.specs.Walked.{steps_of}
use Rattle.face_laws.proofs.LineSteps.{segments-reverse}
use Rattle.parity_laws.specs.Coming.{walked_back}

-- ---- a line that is walked back
odd_walked : (g : Segment → Bool) (X : List Segment) → odd g (walked_back X) ≡ odd (λ s. g (back s)) X
odd_walked g [] = refl
odd_walked g (s ∷ X) =
    odd_append g (walked_back X) (back s ∷ []) ∙ ap (λ b. xor b (odd g (back s ∷ []))) (odd_walked g X) ∙ last (odd (λ t. g (back t)) X) (g (back s))
  where
    last : (x y : Bool) → xor x (xor y false) ≡ xor y x
    last x y = simp summing

odd_reverse : (g : Segment → Bool) (l : List Point) → odd g (segments_of (reverse l)) ≡ odd (λ s. g (back s)) (segments_of l)
odd_reverse g l = ap (odd g) (segments-reverse l) ∙ odd_walked g (segments_of l)

-- ---- steps of one face
pub those_same : (label : Segment → Bool) (b : Bool) (g : Segment → Bool) (X : List Segment) → ((s : Segment) → Contains X s → label s ≡ b) → odd g (those label X) ≡ cond b (odd g X) false
those_same label true g [] h = refl
those_same label false g [] h = refl
those_same label b g (s ∷ X) h = by_test (label s) (h s (contains_here s X)) (those_same label b g X (λ t c. h t (contains_there t s X c)))
  where
    by_test : (l : Bool) → l ≡ b → odd g (those label X) ≡ cond b (odd g X) false → odd g (cond l (s ∷ those label X) (those label X)) ≡ cond b (xor (g s) (odd g X)) false
    by_test true e f = by_value b e f
      where
        by_value : (b : Bool) → true ≡ b → odd g (those label X) ≡ cond b (odd g X) false → xor (g s) (odd g (those label X)) ≡ cond b (xor (g s) (odd g X)) false
        by_value true e f = ap (xor (g s)) f
        by_value false e f = cc
    by_test false e f = by_value b e f
      where
        by_value : (b : Bool) → false ≡ b → odd g (those label X) ≡ cond b (odd g X) false → odd g (those label X) ≡ cond b (xor (g s) (odd g X)) false
        by_value true e f = cc
        by_value false e f = f

those_append : (label : Segment → Bool) (g : Segment → Bool) (X Y : List Segment) → odd g (those label (X ++ Y)) ≡ xor (odd g (those label X)) (odd g (those label Y))
those_append label g [] Y = refl
those_append label g (s ∷ X) Y = by_test (label s) (those_append label g X Y)
  where
    by_test : (l : Bool) → odd g (those label (X ++ Y)) ≡ xor (odd g (those label X)) (odd g (those label Y)) → odd g (cond l (s ∷ those label (X ++ Y)) (those label (X ++ Y))) ≡ xor (odd g (cond l (s ∷ those label X) (those label X))) (odd g (those label Y))
    by_test true e = ap (xor (g s)) e ∙ sym (xor_assoc (g s) (odd g (those label X)) (odd g (those label Y)))
    by_test false e = e

-- ---- an edge's steps both ways, and the border
-- a test of segments that doesn't ask which way they are walked
abbrev IsEitherWay : (Segment → Bool) → Type 0
IsEitherWay g = (s : Segment) → g (back s) ≡ g s

odd_back : (g : Segment → Bool) (X : List Segment) → IsEitherWay g → odd (λ s. g (back s)) X ≡ odd g X
odd_back g [] either = refl
odd_back g (s ∷ X) either = ap (λ b. xor b (odd (λ t. g (back t)) X)) (either s) ∙ ap (xor (g s)) (odd_back g X either)

-- F gives each step the face on its left
pub record GivesFaces (F : Segment → ℕ) (edges : List Edge) : Type 0 where
  pub forward : (e : Edge) (s : Segment) → Contains edges e → Contains (segments_of e.geom) s → F s ≡ e.left_face
  pub backward : (e : Edge) (s : Segment) → Contains edges e → Contains (segments_of (reverse e.geom)) s → F s ≡ e.right_face

abbrev pub walked : List Edge → List Segment
walked edges = flat_map (λ (h : HalfEdge). segments_of h.points) (flat_map both_ways edges)

abbrev borders : ℕ → List Edge → List Segment
borders f edges = flat_map (λ (e : Edge). segments_of e.geom) (filter (is_border f) edges)

border_odd : (F : Segment → ℕ) (f : ℕ) (g : Segment → Bool) (edges : List Edge) → GivesFaces F edges → IsEitherWay g → odd g (those (of_face F f) (walked edges)) ≡ odd g (borders f edges)
border_odd F f g [] gives either = refl
border_odd F f g (e ∷ edges) gives either =
    those_append label g (segments_of e.geom) (segments_of (reverse e.geom) ++ walked edges)
    ∙ ap (xor (odd g (those label (segments_of e.geom)))) (those_append label g (segments_of (reverse e.geom)) (walked edges))
    ∙ ap (λ b. xor b (xor (odd g (those label (segments_of (reverse e.geom)))) rest)) (those_same label (eqb e.left_face f) g (segments_of e.geom) (λ s c. ap (λ k. eqb k f) (gives.forward e s (contains_here e edges) c)))
    ∙ ap (λ b. xor (cond (eqb e.left_face f) own false) (xor b rest)) (those_same label (eqb e.right_face f) g (segments_of (reverse e.geom)) (λ s c. ap (λ k. eqb k f) (gives.backward e s (contains_here e edges) c)))
    ∙ ap (λ b. xor (cond (eqb e.left_face f) own false) (xor (cond (eqb e.right_face f) b false) rest)) (odd_reverse g e.geom ∙ odd_back g (segments_of e.geom) either)
    ∙ by_sides (eqb e.left_face f) (eqb e.right_face f) (border_odd F f g edges (record { forward = λ d s c i. gives.forward d s (contains_there d e edges c) i; backward = λ d s c i. gives.backward d s (contains_there d e edges c) i }) either)
  where
    label : Segment → Bool
    label = of_face F f

    own : Bool
    own = odd g (segments_of e.geom)

    rest : Bool
    rest = odd g (those label (walked edges))

    others : List Edge
    others = filter (is_border f) edges

    over_others : Bool
    over_others = odd g (borders f edges)

    by_sides : (l r : Bool) → rest ≡ over_others → xor (cond l own false) (xor (cond r own false) rest) ≡ odd g (flat_map (λ (e : Edge). segments_of e.geom) (cond (xor l r) (e ∷ others) others))
    by_sides true true h = xor_pair own rest ∙ h
    by_sides true false h = ap (xor own) h ∙ sym (odd_append g (segments_of e.geom) (borders f edges))
    by_sides false true h = ap (xor own) h ∙ sym (odd_append g (segments_of e.geom) (borders f edges))
    by_sides false false h = h

-- ---- the tests of the definitions
crossed_at : (q : RationalPoint) (X : List Segment) → odd (λ s. crosses_at s q) X ≡ is_odd_over_at q X
crossed_at q [] = refl
crossed_at q (s ∷ X) = ap (xor (crosses_at s q)) (crossed_at q X) ∙ ap (λ b. xor b (is_odd_over_at q X)) (over_is s q)

pub in_face_at_is : (F : Segment → ℕ) (S : Drawing) (f : ℕ) (q : RationalPoint) → GivesFaces F S.edges → above_at (those (of_face F f) (steps_of S)) q ≡ is_in_face_at S f q
in_face_at_is F S f q gives = border_odd F f (λ s. crosses_at s q) S.edges gives (λ s. xor_comm (over_at (back s) q) (over_at s q)) ∙ crossed_at q (borders f S.edges)

pub crossed : (q : Point) (X : List Segment) → odd (λ s. crosses s q) X ≡ is_odd_over q X
crossed q [] = refl
crossed q (s ∷ X) = ap (xor (crosses s q)) (crossed q X) ∙ ap (λ b. xor b (is_odd_over q X)) (over_point_is s q)

pub in_face_is : (F : Segment → ℕ) (S : Drawing) (f : ℕ) (q : Point) → GivesFaces F S.edges → above (those (of_face F f) (steps_of S)) q ≡ is_in_face S f q
in_face_is F S f q gives = border_odd F f (λ s. crosses s q) S.edges gives (λ s. xor_comm (over (back s) q) (over s q)) ∙ crossed q (borders f S.edges)
