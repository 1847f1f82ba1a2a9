-- The face of a point is told by what is first above it.
use Rattle.std.proofs.Common.{◌≡◌, ℕ, refl, sym, ◌∙◌, ap, subst, arith, ℤ, pos, ◌<ℤ◌, ◌≤ℤ◌, ◌⊎◌, inl, inr, ⊎_elim, Bool, true, false, List, Option, Some, None, eqb}
use Rattle.std.specs.Prelude.{IsTrue, int_lt, neg_ℤ, reverse, if◌then◌else◌}
use Rattle.std.specs.List.{Contains}
use Rattle.std.proofs.lemmas.Bool.{both_ways, false_from_ne_true, ne_eqb}
use Rattle.topo_base.specs.Point.{Point}
use Rattle.topo_base.specs.declared.ids.Dart.{Dart}
use Rattle.plane.specs.Crossings.{back, over}
use Rattle.plane.specs.Orientation.{area, is_left}
use Rattle.plane.specs.Parity.{xor, is_over}
use Rattle.plane.specs.Segment.{Segment}
use Rattle.plane.specs.Line.{segments_of}
use Rattle.plane.proofs.ParityStaying.{over_point_is}
use Rattle.plane.proofs.Ring.{signed}
use Rattle.plane.proofs.Signs.{order}
use Rattle.plane.proofs.Tests.{lt_yes, lt_no}
use Rattle.drawing.specs.Drawing.{Drawing, Edge, has_face}
use Rattle.drawing.specs.Faces.{face_at}
use Rattle.drawing.specs.HalfEdge.{forward_of, backward_of}
use Rattle.face_rings.proofs.HalvesApart.{forward_there, backward_there}
use Rattle.parity_laws.specs.Rings.{In, Within, Drawn, those, of_face}
use Rattle.parity_laws.specs.Steps.{Even, above, left}
use Rattle.parity_laws.proofs.Seeing.{nothing_over}
use Rattle.parity_laws.proofs.Splitting.{world}
use Rattle.parity_laws.proofs.Star.{those_within}
use Rattle.parity_laws.proofs.Tests.{area_back}
use Rattle.parity_laws.proofs.Walking.{under}
use Rattle.parity_laws.proofs.Viewing.{Over, over_out, over_in}
use Rattle.face_laws.specs.Covered.{face_of, IsInFaceOf, IsCovered}
use Rattle.face_laws.specs.Walked.{steps_of}
use Rattle.face_laws.proofs.Covering.{sides_of, placed_at}
use Rattle.face_laws.proofs.FaceParity.{GivesFaces}
use Rattle.face_laws.proofs.Facing.{HasSides}
use Rattle.face_laws.proofs.LineSteps.{in_reverse, from_reverse}
use Rattle.face_laws.proofs.Lists.{in_contains, contains_in}
use Rattle.face_laws.proofs.StepsOf.{forward_in, step_edge}
use Rattle.slab_index.specs.declared.piece.Piece.{Piece}
use Rattle.slab_index.specs.Above.{segment_of, rightward, is_lower_rightward, dart_beside, IsDartAbove}
use Rattle.slab_index.specs.Pieces.{piece_of}
use Rattle.above_laws.specs.FirstAbove.{IsSegmentOf, NoneIsOver, IsFirstOver, face_beside, IsFaceAbove, none_over, first_over, AreSegmentsOf, IsInFaceLeftOf, FacesAreToldAbove}
use Rattle.above_laws.proofs.FirstLeft.{FirstAt, first_left}
use Rattle.above_laws.proofs.FirstOver.{first_at}
use Rattle.above_laws.proofs.SomeFirst.{some_face}

-- ---- segments over a point, from left to right
is_rightward : (s : Segment) → s.a.x <ℤ s.b.x → rightward s ≡ s
is_rightward s h = ap (λ b. if b then s else back s) (lt_yes s.a.x s.b.x h)

is_leftward : (s : Segment) → s.b.x <ℤ s.a.x → rightward s ≡ back s
is_leftward s h = ap (λ b. if b then s else back s) (lt_no s.a.x s.b.x (omega (arith, signed)))

goes_right : (p : Point) (s : Segment) → Over s p → s.a.x <ℤ s.b.x
goes_right p s h = let from = h.from in let to = h.to in omega (arith, signed)

not_back : (p : Point) (s : Segment) → Over s p → over (back s) p ≡ false
not_back p s h = false_from_ne_true (over (back s) p) (λ e. let k = over_out (back s) p e in let from = h.from in let to = h.to in let bf = k.from in let bt = k.to in omega (arith, signed))

is_over_it : (p : Point) (s : Segment) → Over s p → is_over p s ≡ true
is_over_it p s h = sym (over_point_is s p) ∙ yes (over s p) (over (back s) p) (over_in s p h) (not_back p s h)
  where
    yes : (a b : Bool) → a ≡ true → b ≡ false → xor a b ≡ true
    yes a b e f = rw (e, f) refl

is_over_back : (p : Point) (s : Segment) → Over s p → is_over p (back s) ≡ true
is_over_back p s h = sym (over_point_is (back s) p) ∙ yes (over (back s) p) (over s p) (not_back p s h) (over_in s p h)
  where
    yes : (a b : Bool) → a ≡ false → b ≡ true → xor a b ≡ true
    yes a b e f = rw (e, f) refl

one_way : (p : Point) (s : Segment) → is_over p s ≡ true → Over s p ⊎ Over (back s) p
one_way p s e = by_value (over s p) (over (back s) p) refl refl (over_point_is s p ∙ e)
  where
    by_value : (a b : Bool) → over s p ≡ a → over (back s) p ≡ b → xor a b ≡ true → Over s p ⊎ Over (back s) p
    by_value true b f g h = inl (over_out s p f)
    by_value false true f g h = inr (over_out (back s) p g)
    by_value false false f g h = cc

-- ---- a step of the drawing that is over a point is a segment of an edge, in one of its directions
of_step : (S : Drawing) (s : Segment) → In s (steps_of S) → (e : Edge) × (IsSegmentOf S.edges e s ⊎ IsSegmentOf S.edges e (back s))
of_step S s i =
    let r = step_edge S.edges s (in_contains s (steps_of S) i) in (
      r.0,
      ⊎_elim
          (λ (c : Contains (segments_of r.0.geom) s). inl (record { edge = r.1.0; segment = c }))
          (λ (c : Contains (segments_of (reverse r.0.geom)) s).
          inr (record { edge = r.1.0; segment = in_contains (back s) (segments_of r.0.geom) (from_reverse s r.0.geom (contains_in s (segments_of (reverse r.0.geom)) c)) }))
          r.1.1,
    )

-- d is t from left to right
first_step : (S : Drawing) (p : Point) (e : Edge) (t d : Segment) → IsFirstOver S.edges p e t → In d (steps_of S) → Over d p → rightward t ≡ d → FirstAt (steps_of S) p d
first_step S p e t d f i h same = first_at (steps_of S) p d i h (λ s j o.
    let r = of_step S s j in
    ⊎_elim
    (λ (c : IsSegmentOf S.edges r.0 s). lower s s (is_rightward s (goes_right p s o)) (f.first r.0 s c (is_over_it p s o)))
    (λ (c : IsSegmentOf S.edges r.0 (back s)). lower (back s) s (is_leftward (back s) (goes_right p s o)) (f.first r.0 (back s) c (is_over_back p s o)))
    r.1)
  where
    lower : (u s : Segment) → rightward u ≡ s → is_lower_rightward p (rightward u) (rightward t) ≡ false → is_lower_rightward p s d ≡ false
    lower u s k z = subst (λ x. is_lower_rightward p x d ≡ false) k (subst (λ x. is_lower_rightward p (rightward u) x ≡ false) same z)

-- ---- a step that sees what is above a point
-- the step has the face k on its left, sees there what is above p, and has an end that is higher than p
pub record Beside (S : Drawing) (p : Point) (k : ℕ) : Type 0 where
  pub step : Segment
  pub there : In step (steps_of S)
  pub sees : (X : List Segment) → Even X → Within X (steps_of S) → left X step ≡ above X p
  pub face : face_of S step ≡ k
  pub high : (p.y <ℤ step.a.y) ⊎ (p.y <ℤ step.b.y)

higher_end : (t : Segment) (p : Point) → Over t p → (p.y <ℤ t.b.y) ⊎ (p.y <ℤ t.a.y)
higher_end t p h =
    ⊎_elim
    (λ (b : p.y <ℤ t.b.y). inl b)
    (λ (b : t.b.y ≤ℤ p.y).
    ⊎_elim
    (λ (a : p.y <ℤ t.a.y). inr a)
    (λ (a : t.a.y ≤ℤ p.y). absurd (both_ways (int_lt (area t.a t.b p) (pos 0)) (under t p (a, b) (lt_no p.x t.a.x h.from) (lt_yes p.x t.b.x h.to)) (lt_yes (area t.a t.b p) (pos 0) h.under)))
    (order p.y t.a.y))
    (order p.y t.b.y)

beside_by : (S : Drawing) (p : Point) (d : Segment) (k : ℕ) → Drawn (steps_of S) → FirstAt (steps_of S) p d → face_of S (back d) ≡ k → Beside S p k
beside_by S p d k drawn f e = record {
  step = back d;
  there = drawn.plain.both d f.low.there;
  sees = λ X even w. first_left (steps_of S) X p d drawn f even w;
  face = e;
  high = higher_end d p f.low.isover;
}

forth : (S : Drawing) (e : Edge) (t : Segment) → IsSegmentOf S.edges e t → In t (steps_of S)
forth S e t o = contains_in t (steps_of S) (forward_in S.edges e t o.edge o.segment)

pub beside_first : (S : Drawing) (p : Point) (e : Edge) (t : Segment) → Drawn (steps_of S) → GivesFaces (face_of S) S.edges → IsFirstOver S.edges p e t → Beside S p (face_beside p e t)
beside_first S p e t drawn gives f =
    ⊎_elim
    (λ (o : Over t p).
    beside_by S p t (face_beside p e t) drawn (first_step S p e t t f (forth S e t f.own) o (is_rightward t (goes_right p t o)))
    (gives.backward e (back t) f.own.edge (in_contains (back t) (segments_of (reverse e.geom)) (in_reverse t e.geom (contains_in t (segments_of e.geom) f.own.segment)))
    ∙ sym (ap (λ b. if b then e.left_face else e.right_face) (lt_no (pos 0) (area t.a t.b p) (let u = o.under in omega (arith, signed))))))
    (λ (o : Over (back t) p).
    beside_by S p (back t) (face_beside p e t) drawn (first_step S p e t (back t) f (drawn.plain.both t (forth S e t f.own)) o (is_leftward t (goes_right p (back t) o)))
    (gives.forward e t f.own.edge f.own.segment
    ∙ sym (ap (λ b. if b then e.left_face else e.right_face) (lt_yes (pos 0) (area t.a t.b p) (turned (area t.a t.b p) (area t.b t.a p) (area_back t.a t.b p) o.under)))))
    (one_way p t f.over)
  where
    turned : (a b : ℤ) → b ≡ neg_ℤ a → b <ℤ pos 0 → pos 0 <ℤ a
    turned a b e h = omega (arith, signed)

pub none_above : (S : Drawing) (p : Point) → Drawn (steps_of S) → NoneIsOver S.edges p → (X : List Segment) → Within X (steps_of S) → above X p ≡ false
none_above S p drawn none = nothing_over (steps_of S) p drawn.plain nothing
  where
    nothing : (t : Segment) → In t (steps_of S) → over t p ≡ false
    nothing t i = false_from_ne_true (over t p) (λ e.
        let r = of_step S t i in
        ⊎_elim
        (λ (o : IsSegmentOf S.edges r.0 t). both_ways (is_over p t) (none r.0 t o) (is_over_it p t (over_out t p e)))
        (λ (o : IsSegmentOf S.edges r.0 (back t)). both_ways (is_over p (back t)) (none r.0 (back t) o) (is_over_back p t (over_out t p e)))
        r.1)

-- ---- the face
in_beside : (S : Drawing) (p : Point) (k : ℕ) → HasSides S → Beside S p k → IsInFaceOf S p k
in_beside S p k h b g n =
    sym (b.sees (those (of_face (face_of S) g) (steps_of S)) (world (steps_of S) (of_face (face_of S) g) h.drawn (h.ringwise g n)).rings.even (those_within (of_face (face_of S) g) (steps_of S)))
    ∙ h.sided g n b.step b.there
    ∙ ap (λ z. eqb z g) b.face

pub in_first : (S : Drawing) (p : Point) (e : Edge) (t : Segment) → HasSides S → IsFirstOver S.edges p e t → IsInFaceOf S p (face_beside p e t)
in_first S p e t h f = in_beside S p (face_beside p e t) h (beside_first S p e t h.drawn h.faces f)

pub in_none : (S : Drawing) (p : Point) → HasSides S → NoneIsOver S.edges p → IsInFaceOf S p 0
in_none S p h none g n =
    none_above S p h.drawn none (those (of_face (face_of S) g) (steps_of S)) (those_within (of_face (face_of S) g) (steps_of S))
    ∙ sym (ne_eqb 0 g (λ e. n (sym e)))

pub told_first : (S : Drawing) (p : Point) (e : Edge) (t : Segment) → IsCovered S → IsFirstOver S.edges p e t → face_at S p ≡ face_beside p e t
told_first S p e t c f = placed_at S p (face_beside p e t) sides.faces (side_listed (is_left t.a t.b p)) (in_first S p e t sides f)
  where
    sides : HasSides S
    sides = sides_of S c

    side_listed : (b : Bool) → IsTrue (has_face S (if b then e.left_face else e.right_face))
    side_listed true = (sides.listed e f.own.edge).0
    side_listed false = (sides.listed e f.own.edge).1

pub told_none : (S : Drawing) (p : Point) → IsCovered S → NoneIsOver S.edges p → face_at S p ≡ 0
told_none S p c none = let sides = sides_of S c in placed_at S p 0 sides.faces sides.universe (in_none S p sides none)

told_face : (S : Drawing) (p : Point) (f : ℕ) → IsCovered S → IsFaceAbove S.edges p f → face_at S p ≡ f
told_face S p f c (none_over over e) = told_none S p c over ∙ sym e
told_face S p f c (first_over d t over e) = told_first S p d t c over ∙ sym e

-- ---- the dart
told_dart : (S : Drawing) (p : Point) (pieces : List Piece) (found : Option Dart) → IsCovered S → AreSegmentsOf S.edges pieces → IsDartAbove p pieces found → IsInFaceLeftOf S p found
told_dart S p pieces None c are none = told_none S p c (λ e s o. none (piece_of e.edge_id s) (are.all e s o))
told_dart S p pieces (Some d) c are (x, (f, same)) =
    let r = are.own x f.kept in
    subst (λ z. IsInFaceLeftOf S p (Some z)) (sym same) (beside r.0 r.1.0 r.1.1
    (told_first S p r.0 (segment_of x) c (record { own = r.1.1; over = f.over; first = λ e s o. f.first (piece_of e.edge_id s) (are.all e s o) })))
  where
    beside : (e : Edge) → e.edge_id ≡ x.edge → IsSegmentOf S.edges e (segment_of x) → face_at S p ≡ face_beside p e (segment_of x) → IsInFaceLeftOf S p (Some (dart_beside p x))
    beside e id o told = by_side (is_left x.start x.end p) told
      where
        by_side : (b : Bool) → face_at S p ≡ (if b then e.left_face else e.right_face) → IsInFaceLeftOf S p (Some (record { edge = x.edge; forward = b }))
        by_side true h = (forward_of e, (forward_there S.edges e o.edge, ap (λ n. record { edge = n; forward = true }) id, h))
        by_side false h = (backward_of e, (backward_there S.edges e o.edge, ap (λ n. record { edge = n; forward = false }) id, h))

pub faces_are_told_above : FacesAreToldAbove
faces_are_told_above = record { some = some_face; face = told_face; dart = told_dart }
