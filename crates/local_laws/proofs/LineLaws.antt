-- The law of the lines of added edges, from that of lines with two vertices or more.
use Rattle.std.proofs.Common.{◌≡◌, refl, ap, subst, arith, Bool, true, false, not, cond, List, [], ◌∷◌, IsTrue, Err, ◌||◌, ◌==◌, eq-eqb}
use Rattle.topo_base.specs.Point.{Point}
use Rattle.topo_base.specs.RationalPoint.{RationalPoint, IsAt}
use Rattle.topo_base.specs.declared.rows.NodeRow.{NodeRow}
use Rattle.topo_base.specs.declared.rule.Rule.TheVariants.{LineEnds, LineNotSimple, LineBlocked}
use Rattle.plane.specs.Line.{is_simple, first_vertex, last_vertex}
use Rattle.plane.specs.RationalTests.{IsOnLine}
use Rattle.drawing.specs.AddEdge.{face_at_start, face_at_end}
use Rattle.drawing.specs.Blocked.{is_line_blocked, goes_between}
use Rattle.drawing.specs.Apply.{Decision}
use Rattle.drawing.specs.Decide.{edge_in_face}
use Rattle.drawing.specs.Drawing.{Drawing}
use Rattle.drawing.specs.Faced.{is_in}
use Rattle.drawing.specs.Replay.{replay}
use Rattle.subdivision_laws.specs.Subdivided.{IsSubdivided}
use Rattle.subdivision_laws.proofs.SubdivisionsStaying.{subdivisions_stay}
use Rattle.local_laws.specs.Lines.{IsLineBetween, LinesLieInFaces}
use Rattle.local_laws.proofs.LineFaces.{IsFree, one_face_by, in_face_by}

one : (S : Drawing) (a b : NodeRow) (line : List Point) → IsSubdivided S → IsLineBetween S a b line → is_line_blocked S line ≡ false → face_at_end S b line ≡ face_at_start S a line
one S a b [] h between free = absurd (let long = between.long in omega (arith, long))
one S a b (p ∷ []) h between free = absurd (let long = between.long in omega (arith, long))
one S a b (p ∷ q ∷ vs) h between free = one_face_by S a b p q vs h.covered (record { between = between; free = free })

inside : (S : Drawing) (a b : NodeRow) (line : List Point) (q : RationalPoint) → IsSubdivided S → IsFree S a b line → IsOnLine q line → (IsAt (first_vertex line) q → ⊥) → (IsAt (last_vertex line) q → ⊥)
    → IsTrue (is_in S (face_at_start S a line) q)
inside S a b [] q h free = absurd (let long = free.between.long in omega (arith, long))
inside S a b (p ∷ []) q h free = absurd (let long = free.between.long in omega (arith, long))
inside S a b (p ∷ r ∷ vs) q h free = in_face_by S a b p r vs q h.covered free

-- the second test is never the first to refuse
or_same : (x y : Bool) → (x ≡ false → y ≡ false) → (x || y) ≡ x
or_same true y e = refl
or_same false y e = e refl

only : (S : Drawing) (a b : NodeRow) (line : List Point) → IsSubdivided S → IsLineBetween S a b line → (is_line_blocked S line || not (face_at_end S b line == face_at_start S a line)) ≡ is_line_blocked S line
only S a b line h between =
    or_same (is_line_blocked S line) (not (face_at_end S b line == face_at_start S a line)) (λ free. ap not (eq-eqb (face_at_end S b line) (face_at_start S a line) (one S a b line h between free)))

-- the rules on a line, in the order in which they are asked
asked : (ends simple clear blocked : Bool) (o : Decision) → ends ≡ true → simple ≡ true → clear ≡ blocked → cond (not ends) (Err LineEnds) (cond (not simple) (Err LineNotSimple) (cond clear (Err LineBlocked) o)) ≡ cond blocked (Err LineBlocked) o
asked ends simple clear blocked o e f g = rw (e, f, g) refl

pub lines_lie_in_faces : LinesLieInFaces
lines_lie_in_faces = record {
  one_face = one;
  may_come = λ S a b line h between free. record {
    start_there = between.start_there;
    end_there = between.end_there;
    ends = between.ends;
    simple = between.simple;
    free = free;
    starts_in = refl;
    ends_in = one S a b line h between free;
  };
  only_blocked = only;
  each_history = λ max_id history a b line accepted between. only (replay history) a b line (subdivisions_stay.each_history max_id history accepted) between;
  decided = λ both S a b line h between.
      asked (goes_between a b line) (is_simple line) (is_line_blocked S line || not (face_at_end S b line == face_at_start S a line)) (is_line_blocked S line) (edge_in_face both S a b line (face_at_start S a line)) between.ends between.simple
      (only S a b line h between);
  in_face = λ S a b line face q h long k on not_first not_last.
      let between : IsLineBetween S a b line = record { start_there = k.start_there; end_there = k.end_there; long = long; ends = k.ends; simple = k.simple } in
      subst (λ f. IsTrue (is_in S f q)) k.starts_in (inside S a b line q h (record { between = between; free = k.free }) on not_first not_last);
}
