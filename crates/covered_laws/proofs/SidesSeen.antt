-- Where what sees an edge is in the face on that side, and in no other, left of each step is its face, by parity.
use Rattle.std.proofs.Common.{◌≡◌, ◌≢◌, ℕ, refl, sym, ◌∙◌, subst, arith, pos, ◌<ℤ◌, ⊎_elim, Bool, true, false, eqb}
use Rattle.std.specs.Prelude.{IsTrue, reverse}
use Rattle.std.specs.List.{Contains}
use Rattle.std.proofs.lemmas.Bool.{and_parts, and_from, both_ways, eqb-true, eq-eqb, ne_eqb, false_from_ne_true}
use Rattle.topo_base.specs.RationalPoint.{RationalPoint}
use Rattle.plane.specs.Crossings.{back, crosses_at}
use Rattle.plane.specs.Line.{segments_of}
use Rattle.plane.specs.RationalTests.{IsLeftOf, IsRightOf, area_at}
use Rattle.plane.specs.Segment.{Segment}
use Rattle.plane.proofs.Collinear.{on_round}
use Rattle.plane.proofs.Ring.{signed}
use Rattle.drawing.specs.Drawing.{Drawing, Edge, has_face}
use Rattle.drawing.specs.DrawnPoints.{IsOffEdges, is_in_face_at}
use Rattle.drawing.specs.Faced.{IsFaced, is_in}
use Rattle.face_rings.specs.FaceBorder.{HasRings}
use Rattle.face_rings.proofs.FaceBorders.{has_plain_lines}
use Rattle.parity_laws.specs.Rings.{In, Drawn, SeesLeftAt, those, of_face}
use Rattle.parity_laws.proofs.Nearer.{near_left_at}
use Rattle.parity_laws.proofs.Splitting.{world}
use Rattle.parity_laws.proofs.Star.{those_within}
use Rattle.face_laws.specs.Walked.{steps_of}
use Rattle.face_laws.specs.Covered.{face_of, IsSided}
use Rattle.face_laws.proofs.Covering.{faces_given}
use Rattle.face_laws.proofs.FaceParity.{GivesFaces, in_face_at_is}
use Rattle.face_laws.proofs.Facing.{area_back, left_listed}
use Rattle.face_laws.proofs.LineSteps.{from_reverse}
use Rattle.face_laws.proofs.Lists.{in_contains, contains_in}
use Rattle.face_laws.proofs.PlainSteps.{steps_plain, steps_once}
use Rattle.face_laws.proofs.RingLabels.{face_ringwise}
use Rattle.face_laws.proofs.Seen.{sees_left}
use Rattle.face_laws.proofs.StepsOf.{forward_in, step_edge, some_step}
use Rattle.covered_laws.proofs.Views.{HasView, has_view}

-- the sides of edges are listed
abbrev pub AreListed : Drawing → Type 0
AreListed S = (e : Edge) → Contains S.edges e → IsTrue (has_face S e.left_face) × IsTrue (has_face S e.right_face)

left_back : (s : Segment) (q : RationalPoint) → IsLeftOf q s → IsRightOf q (back s)
left_back s q h = let e = area_back s q in let k : pos 0 <ℤ area_at s.a s.b q = h in omega (arith, signed)

-- what sees a step from its left is in its face
in_own_face : (S : Drawing) (s : Segment) (v : HasView S s) → GivesFaces (face_of S) S.edges → IsFaced S → In s (steps_of S) → IsTrue (is_in S (face_of S s) v.from)
in_own_face S s v gives faced i =
    let (e, (there, side)) = step_edge S.edges s (in_contains s (steps_of S) i) in
    ⊎_elim
    (λ (c : Contains (segments_of e.geom) s). subst (λ f. IsTrue (is_in S f v.from)) (sym (gives.forward e s there c)) (faced.left e s v.seen v.from there c v.inside v.is_left v.sees))
    (λ (c : Contains (segments_of (reverse e.geom)) s).
    subst (λ f. IsTrue (is_in S f v.from)) (sym (gives.backward e s there c))
    (faced.right e (back s) v.seen v.from there (in_contains (back s) (segments_of e.geom) (from_reverse s e.geom (contains_in s (segments_of (reverse e.geom)) c)))
    (record { on = on_round s v.seen v.inside.on; not_first = v.inside.not_last; not_last = v.inside.not_first })
    (left_back s v.from v.is_left) v.sees))
    side

-- a face other than 0 by parity is a face by the definition
in_by_parity : (S : Drawing) (q : RationalPoint) (f : ℕ) → f ≢ 0 → IsTrue (has_face S f) → is_in_face_at S f q ≡ true → IsTrue (is_in S f q)
in_by_parity S q f n face e = rw (ne_eqb f 0 n) (and_from (has_face S f) (is_in_face_at S f q) face e)

parity_of : (S : Drawing) (q : RationalPoint) (f : ℕ) → f ≢ 0 → IsTrue (is_in S f q) → is_in_face_at S f q ≡ true
parity_of S q f n i = (and_parts (has_face S f) (is_in_face_at S f q) (rw (ne_eqb f 0 n) at i)).1

face_there : (S : Drawing) (q : RationalPoint) (f : ℕ) → GivesFaces (face_of S) S.edges → AreListed S → is_in_face_at S f q ≡ true → IsTrue (has_face S f)
face_there S q f gives listed e =
    let (t, (j, same)) = some_step (λ t. crosses_at t q) (of_face (face_of S) f) (steps_of S) (in_face_at_is (face_of S) S f q gives ∙ e) in
    subst (λ g. IsTrue (has_face S g)) (eqb-true (face_of S t) f same) (left_listed S t gives listed j)

-- so its own face is the one with an odd parity
told : (S : Drawing) (g : ℕ) (q : RationalPoint) (f : ℕ) → f ≢ 0 → GivesFaces (face_of S) S.edges → IsFaced S → AreListed S → IsOffEdges S q → IsTrue (is_in S g q) → is_in_face_at S f q ≡ eqb g f
told S g q f n gives faced listed off own = by_test (eqb g f) refl
  where
    by_test : (b : Bool) → eqb g f ≡ b → is_in_face_at S f q ≡ b
    by_test true e = parity_of S q f n (subst (λ h. IsTrue (is_in S h q)) (eqb-true g f e) own)
    by_test false e =
        false_from_ne_true (is_in_face_at S f q) (λ odd.
        both_ways (eqb g f) e (eq-eqb g f (faced.in_one q g f off own (in_by_parity S q f n (face_there S q f gives listed odd) odd))))

pub sides_seen : (S : Drawing) → HasRings S → IsFaced S → AreListed S → IsSided S
sides_seen S has faced listed f n s i =
    near_left_at (steps_of S) (those (of_face (face_of S) f) (steps_of S)) s view.seen view.from drawn seen (world (steps_of S) (of_face (face_of S) f) drawn (face_ringwise S f has)).rings.even (those_within (of_face (face_of S) f) (steps_of S))
    ∙ in_face_at_is (face_of S) S f view.from gives
    ∙ told S (face_of S s) view.from f n gives faced listed (λ e there on. seen.off on.0 (contains_in on.0 (steps_of S) (forward_in S.edges e on.0 there on.1.0)) on.1.1) (in_own_face S s view gives faced i)
  where
    gives : GivesFaces (face_of S) S.edges
    gives = faces_given S (has_plain_lines S has)

    drawn : Drawn (steps_of S)
    drawn = record { plain = steps_plain S (has_plain_lines S has); once = steps_once S (has_plain_lines S has) }

    view : HasView S s
    view = has_view S s drawn.plain i

    seen : SeesLeftAt (steps_of S) s view.seen view.from
    seen = sees_left S s view.seen view.from drawn.plain i view.inside view.is_left view.sees
