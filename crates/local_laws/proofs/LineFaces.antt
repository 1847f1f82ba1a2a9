-- The face in which an added line lies: it is one at both ends, and each point between them is in it.
use Rattle.std.proofs.Common.{◌≡◌, ◌≢◌, ℕ, zero, suc, refl, sym, ◌∙◌, ap, subst, arith, ⊎_elim, Bool, true, false, List, [], ◌∷◌, eqb}
use Rattle.std.specs.Prelude.{reverse, IsTrue}
use Rattle.std.proofs.lemmas.Bool.{and_parts, both_ways, eqb-true, eq-eqb, ne_eqb}
use Rattle.topo_base.specs.Point.{Point, same_point}
use Rattle.topo_base.specs.RationalPoint.{RationalPoint, rational, IsAt, SamePoint}
use Rattle.topo_base.specs.declared.rows.NodeRow.{NodeRow}
use Rattle.drawing.specs.AddEdge.{coming, face_at_start, face_at_end}
use Rattle.plane.specs.Direction.{first_direction}
use Rattle.drawing.specs.Blocked.{is_line_blocked}
use Rattle.drawing.specs.Drawing.{Drawing}
use Rattle.drawing.specs.Faced.{is_in}
use Rattle.drawing.specs.HalfEdge.{HalfEdge, forward_of, backward_of}
use Rattle.drawing.specs.IsoEdits.{with_edge}
use Rattle.plane.specs.Line.{segments_of, first_vertex, last_vertex}
use Rattle.plane.specs.RationalTests.{IsOn, IsOnLine}
use Rattle.plane.specs.Segment.{Segment}
use Rattle.plane.specs.Crossings.{back}
use Rattle.plane.proofs.LineTurns.{first-reverse}
use Rattle.edit_changes.proofs.LongLines.{push_long}
use Rattle.edit_changes.proofs.PlainStaying.{HasPlain, has_plain, edge_more}
use Rattle.plane.proofs.SimpleTests.{first_begins}
use Rattle.face_rings.proofs.FaceBorders.{has_plain_lines}
use Rattle.face_rings.proofs.HalfLines.{HasPlainLines}
use Rattle.ring_laws.proofs.Known.{wedge_listed}
use Rattle.ring_laws.proofs.RingedDrawings.{plain_lines}
use Rattle.ring_laws.proofs.WithEdge.{no_old}
use Rattle.parity_laws.specs.Coming.{walked_back, both_ways_of, with_line, LineComes}
use Rattle.parity_laws.specs.Rings.{In, Within, those, of_face}
use Rattle.parity_laws.specs.Steps.{Even, above_at, left}
use Rattle.parity_laws.proofs.LineFaces.{left_on_line, left_at_alone}
use Rattle.parity_laws.proofs.Lists.{in_right}
use Rattle.parity_laws.proofs.OnLine.{LineJoint, joint_before, joint_after, old_in, way_in, forth_in, back_in, not_both}
use Rattle.parity_laws.proofs.Orbits.{label_even}
use Rattle.parity_laws.proofs.Star.{those_within}
use Rattle.parity_laws.proofs.Tests.{same_is}
use Rattle.face_laws.specs.Walked.{steps_of}
use Rattle.face_laws.specs.Covered.{face_of, IsCovered}
use Rattle.face_laws.proofs.Covering.{known, faces_given}
use Rattle.face_laws.proofs.FaceParity.{in_face_at_is}
use Rattle.face_laws.proofs.InFace.{in_by}
use Rattle.face_laws.proofs.Lists.{contains_in}
use Rattle.face_laws.proofs.LineSteps.{segments-reverse}
use Rattle.face_laws.proofs.RingLabels.{face_ringwise, first_step, first_there}
use Rattle.face_laws.proofs.Seen.{is_at}
use Rattle.subdivision_laws.proofs.AddedSteps.{first_of, rest_of, last_of, added, plain_line_comes, drawn_of, forward_in, backward_in, half_stays}
use Rattle.subdivision_laws.proofs.DividedFaces.{start_on}
use Rattle.local_laws.specs.Lines.{IsLineBetween}
use Rattle.local_laws.proofs.Inside.{inside_left, above_same}
use Rattle.local_laws.proofs.WedgeFaces.{Comes, LeavesInto, wedge_parity}

-- ---- the drawing with the line
-- a line between two nodes that isn't blocked
pub record IsFree (S : Drawing) (a b : NodeRow) (line : List Point) : Type 0 where
  pub between : IsLineBetween S a b line
  pub free : is_line_blocked S line ≡ false

pub plain_with : (S : Drawing) (a b : NodeRow) (line : List Point) (f : ℕ) → IsCovered S → IsFree S a b line → HasPlain (with_edge S a b line f)
plain_with S a b line f c h = edge_more S a b line f (has_plain S c.ringed.rings.plain) h.between.start_there h.between.end_there h.between.ends h.between.simple h.free

pub lines_with : (S : Drawing) (a b : NodeRow) (line : List Point) (f : ℕ) → IsCovered S → IsFree S a b line → HasPlainLines (with_edge S a b line f)
lines_with S a b line f c h =
    plain_lines (with_edge S a b line f) (plain_with S a b line f c h) (push_long S.edges (coming S a b line f) (record { each = (has_plain_lines S c.ringed.rings).long }) h.between.long).each

forth_comes : (S : Drawing) (a b : NodeRow) (line : List Point) (f : ℕ) → IsCovered S → IsFree S a b line → Comes S (with_edge S a b line f) (forward_of (coming S a b line f))
forth_comes S a b line f c h = record {
  lines = has_plain_lines S c.ringed.rings;
  more = lines_with S a b line f c h;
  stays = half_stays S a b line f;
  there = forward_in S a b line f;
  fresh = no_old S (forward_of (coming S a b line f)) (has_plain_lines S c.ringed.rings) refl;
}

back_comes : (S : Drawing) (a b : NodeRow) (line : List Point) (f : ℕ) → IsCovered S → IsFree S a b line → Comes S (with_edge S a b line f) (backward_of (coming S a b line f))
back_comes S a b line f c h = record {
  lines = has_plain_lines S c.ringed.rings;
  more = lines_with S a b line f c h;
  stays = half_stays S a b line f;
  there = backward_in S a b line f;
  fresh = no_old S (backward_of (coming S a b line f)) (has_plain_lines S c.ringed.rings) refl;
}

leaves_start : (S : Drawing) (a b : NodeRow) (line : List Point) (f : ℕ) → IsCovered S → IsFree S a b line →
    LeavesInto S (with_edge S a b line f) a (forward_of (coming S a b line f)) (face_at_start S a line)
leaves_start S a b line f c h =
    let x = forward_of (coming S a b line f) in
    let comes = forth_comes S a b line f c h in
    record {
      before = c;
      comes = comes;
      node = h.between.start_there;
      from = refl;
      begins = sym (first_begins line (first_step x) (first_there (with_edge S a b line f) x comes.more comes.there))
          ∙ same_is (first_vertex line) a.geom (and_parts (same_point (first_vertex line) a.geom) (same_point (last_vertex line) b.geom) h.between.ends).0;
      face = refl;
    }

leaves_end : (S : Drawing) (a b : NodeRow) (line : List Point) (f : ℕ) → IsCovered S → IsFree S a b line →
    LeavesInto S (with_edge S a b line f) b (backward_of (coming S a b line f)) (face_at_end S b line)
leaves_end S a b line f c h =
    let x = backward_of (coming S a b line f) in
    let comes = back_comes S a b line f c h in
    record {
      before = c;
      comes = comes;
      node = h.between.end_there;
      from = refl;
      begins = sym (first_begins (reverse line) (first_step x) (first_there (with_edge S a b line f) x comes.more comes.there)) ∙ first-reverse line
          ∙ same_is (last_vertex line) b.geom (and_parts (same_point (first_vertex line) a.geom) (same_point (last_vertex line) b.geom) h.between.ends).1;
      face = refl;
    }

-- ---- one face
pub same_face : (f k : ℕ) → ((g : ℕ) → g ≢ 0 → eqb f g ≡ eqb k g) → k ≡ f
same_face zero zero h = refl
same_face zero (suc k) h = absurd (both_ways (eqb 0 (suc k)) (ne_eqb 0 (suc k) (λ e. omega (arith, e))) (h (suc k) (λ e. omega (arith, e)) ∙ eq-eqb (suc k) (suc k) refl))
same_face (suc f) k h = eqb-true k (suc f) (sym (h (suc f) (λ e. omega (arith, e))) ∙ eq-eqb (suc f) (suc f) refl)

-- the steps with the face g on their left
abbrev border : Drawing → ℕ → List Segment
border S g = those (of_face (face_of S) g) (steps_of S)

border_even : (S : Drawing) (g : ℕ) → IsCovered S → Even (border S g)
border_even S g c = let drawn = drawn_of S (has_plain_lines S c.ringed.rings) in label_even (steps_of S) drawn.plain drawn.once (of_face (face_of S) g) (face_ringwise S g c.ringed.rings)

border_in : (S : Drawing) (g : ℕ) → Within (border S g) (steps_of S)
border_in S g = those_within (of_face (face_of S) g) (steps_of S)

comes_by : (S : Drawing) (a b : NodeRow) (p q : Point) (vs : List Point) → IsCovered S → IsFree S a b (p ∷ q ∷ vs) → LineComes (steps_of S) (first_of p q) (rest_of q vs) (last_of p q vs)
comes_by S a b p q vs c h = plain_line_comes S a b p q vs 0 (has_plain_lines S c.ringed.rings) (lines_with S a b (p ∷ q ∷ vs) 0 c h)

-- on both sides of each step of the line the parities say the face at its start
pub line_parity : (S : Drawing) (a b : NodeRow) (p q : Point) (vs : List Point) → IsCovered S → IsFree S a b (p ∷ q ∷ vs) → (g : ℕ) → g ≢ 0 → (t : Segment) → In t (both_ways_of (segments_of (p ∷ q ∷ vs))) →
    left (border S g) t ≡ eqb (face_at_start S a (p ∷ q ∷ vs)) g
line_parity S a b p q vs c h g n t i =
    left_on_line (steps_of S) (first_of p q) (rest_of q vs) (last_of p q vs) (border S g) (comes_by S a b p q vs c h) (border_even S g c) (border_in S g) t i
    ∙ wedge_parity S (added S a b p q vs 0) a (forward_of (coming S a b (p ∷ q ∷ vs) 0)) (face_at_start S a (p ∷ q ∷ vs)) (leaves_start S a b (p ∷ q ∷ vs) 0 c h) g n

pub one_face_by : (S : Drawing) (a b : NodeRow) (p q : Point) (vs : List Point) → IsCovered S → IsFree S a b (p ∷ q ∷ vs) → face_at_end S b (p ∷ q ∷ vs) ≡ face_at_start S a (p ∷ q ∷ vs)
one_face_by S a b p q vs c h = same_face (face_at_start S a line) (face_at_end S b line) (λ g n.
    sym (line_parity S a b p q vs c h g n (first_step x) (in_right (first_step x) (segments_of line) (walked_back (segments_of line)) (subst (In (first_step x)) (segments-reverse line) (start_on (added S a b p q vs 0) x comes.more comes.there))))
    ∙ wedge_parity S (added S a b p q vs 0) b x (face_at_end S b line) (leaves_end S a b line 0 c h) g n)
  where
    line : List Point
    line = p ∷ q ∷ vs

    x : HalfEdge
    x = backward_of (coming S a b (p ∷ q ∷ vs) 0)

    comes : Comes S (added S a b p q vs 0) (backward_of (coming S a b (p ∷ q ∷ vs) 0))
    comes = back_comes S a b (p ∷ q ∷ vs) 0 c h

-- ---- the points of the line
last_ends_line : (p q : Point) (vs : List Point) → (last_of p q vs).b ≡ last_vertex (p ∷ q ∷ vs)
last_ends_line p q [] = refl
last_ends_line p q (v ∷ vs) = last_ends_line q v vs

stable : (x y : Bool) → ((x ≡ y → ⊥) → ⊥) → x ≡ y
stable true true n = refl
stable true false n = absurd (n (λ e. both_ways true e refl))
stable false true n = absurd (n (λ e. both_ways false refl e))
stable false false n = refl

point_parity : (S : Drawing) (a b : NodeRow) (p q : Point) (vs : List Point) (r : RationalPoint) (s : Segment) → IsCovered S → IsFree S a b (p ∷ q ∷ vs) → In s (segments_of (p ∷ q ∷ vs)) → IsOn r s →
    (IsAt p r → ⊥) → (IsAt (last_vertex (p ∷ q ∷ vs)) r → ⊥) → (g : ℕ) → g ≢ 0 → above_at (border S g) r ≡ eqb (face_at_start S a (p ∷ q ∷ vs)) g
point_parity S a b p q vs r s c h i on not_first not_last g n =
    stable (above_at (border S g) r) (eqb (face_at_start S a (p ∷ q ∷ vs)) g) (λ other. other
    (inside_left (with_line (steps_of S) (first_of p q ∷ rest_of q vs)) (border S g) s r comes.new (way_in (steps_of S) (first_of p q ∷ rest_of q vs) s forth) on
    (λ at. other (at_start at)) (λ at. other (at_end at)) (border_even S g c) (λ t j. old_in (steps_of S) (first_of p q ∷ rest_of q vs) t (border_in S g t j))
    (λ j. not_both (steps_of S) (first_of p q) (rest_of q vs) (last_of p q vs) comes s (border_in S g s j) forth)
    (λ j. not_both (steps_of S) (first_of p q) (rest_of q vs) (last_of p q vs) comes (back s) (border_in S g (back s) j) walked)
    ∙ line_parity S a b p q vs c h g n s forth))
  where
    comes : LineComes (steps_of S) (first_of p q) (rest_of q vs) (last_of p q vs)
    comes = comes_by S a b p q vs c h

    forth : In s (both_ways_of (first_of p q ∷ rest_of q vs))
    forth = forth_in (first_of p q ∷ rest_of q vs) s i

    walked : In (back s) (both_ways_of (first_of p q ∷ rest_of q vs))
    walked = back_in (first_of p q ∷ rest_of q vs) s i

    -- a vertex where the line goes on is at no old step
    not_old : (m k : Segment) → In m (first_of p q ∷ rest_of q vs) → In k (first_of p q ∷ rest_of q vs) → LineJoint (with_line (steps_of S) (first_of p q ∷ rest_of q vs)) m k → (t : Segment) → In t (steps_of S) → t.a ≢ m.b
    not_old m k im ik joint t j e =
        ⊎_elim
        (λ (f : t ≡ k). not_both (steps_of S) (first_of p q) (rest_of q vs) (last_of p q vs) comes t j (subst (λ z. In z (both_ways_of (first_of p q ∷ rest_of q vs))) (sym f) (forth_in (first_of p q ∷ rest_of q vs) k ik)))
        (λ (f : t ≡ back m). not_both (steps_of S) (first_of p q) (rest_of q vs) (last_of p q vs) comes t j (subst (λ z. In z (both_ways_of (first_of p q ∷ rest_of q vs))) (sym f) (back_in (first_of p q ∷ rest_of q vs) m im)))
        (joint.alone t (old_in (steps_of S) (first_of p q ∷ rest_of q vs) t j) e)

    at_vertex : (t : Segment) → In t (both_ways_of (first_of p q ∷ rest_of q vs)) → SamePoint r (rational t.a) → ((u : Segment) → In u (steps_of S) → u.a ≢ t.a) → above_at (border S g) r ≡ eqb (face_at_start S a (p ∷ q ∷ vs)) g
    at_vertex t j at none =
        above_same (border S g) t.a r at
        ∙ sym (left_at_alone (steps_of S) (first_of p q) (rest_of q vs) (last_of p q vs) (border S g) t comes (border_in S g) none)
        ∙ line_parity S a b p q vs c h g n t j

    at_start : SamePoint r (rational s.a) → above_at (border S g) r ≡ eqb (face_at_start S a (p ∷ q ∷ vs)) g
    at_start at =
        ⊎_elim
        (λ (e : s ≡ first_of p q). absurd (not_first (is_at p r (subst (λ (z : Segment). SamePoint r (rational z.a)) e at))))
        (λ (m : (m : Segment) × (In m (first_of p q ∷ rest_of q vs) × LineJoint (with_line (steps_of S) (first_of p q ∷ rest_of q vs)) m s)).
        at_vertex s forth at (λ u j e. not_old m.0 s m.1.0 i m.1.1 u j (e ∙ m.1.1.meets)))
        (joint_before (with_line (steps_of S) (first_of p q ∷ rest_of q vs)) (first_of p q) (rest_of q vs) (last_of p q vs) s comes.strung i)

    at_end : SamePoint r (rational s.b) → above_at (border S g) r ≡ eqb (face_at_start S a (p ∷ q ∷ vs)) g
    at_end at =
        ⊎_elim
        (λ (e : s ≡ last_of p q vs).
        absurd (not_last (is_at (last_vertex (p ∷ q ∷ vs)) r (subst (λ (v : Point). SamePoint r (rational v)) (ap (λ (z : Segment). z.b) e ∙ last_ends_line p q vs) at))))
        (λ (k : (k : Segment) × (In k (first_of p q ∷ rest_of q vs) × LineJoint (with_line (steps_of S) (first_of p q ∷ rest_of q vs)) s k)).
        at_vertex (back s) walked at (λ u j e. not_old s k.0 i k.1.0 k.1.1 u j e))
        (joint_after (with_line (steps_of S) (first_of p q ∷ rest_of q vs)) (first_of p q) (rest_of q vs) (last_of p q vs) s comes.strung i)

pub in_face_by : (S : Drawing) (a b : NodeRow) (p q : Point) (vs : List Point) (r : RationalPoint) → IsCovered S → IsFree S a b (p ∷ q ∷ vs) → IsOnLine r (p ∷ q ∷ vs) →
    (IsAt p r → ⊥) → (IsAt (last_vertex (p ∷ q ∷ vs)) r → ⊥) → IsTrue (is_in S (face_at_start S a (p ∷ q ∷ vs)) r)
in_face_by S a b p q vs r c h (s, (cs, on)) not_first not_last =
    in_by S r (face_at_start S a (p ∷ q ∷ vs))
    (λ g n. sym (in_face_at_is (face_of S) S g r (faces_given S (has_plain_lines S c.ringed.rings)))
    ∙ point_parity S a b p q vs r s c h (contains_in s (segments_of (p ∷ q ∷ vs)) cs) on not_first not_last g n)
    (wedge_listed S a (first_direction (p ∷ q ∷ vs)) (known S c.ringed) h.between.start_there)
