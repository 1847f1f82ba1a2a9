-- What two pieces have in common, and how far they reach.
use Rattle.std.proofs.Common.{◌≡◌, ◌∙◌, inl, inr, ⊎_elim, ◌↔◌, ◌≤ℤ◌, Bool, true, false, not, ◌&&◌, IsTrue, [], ◌∷◌, refl, sym, ap, subst}
use Rattle.std.specs.Int.{int_min, int_max}
use Rattle.std.specs.Prelude.{int_le}
use Rattle.std.specs.Bool.{Decides}
use Rattle.std.proofs.lemmas.Bool.{and_parts, false≢true}
use Rattle.std.proofs.lemmas.Bool.Decides.{Decides-and, Decides-or, Decides-not, Decides-like, same_from_decides}
use Rattle.topo_base.specs.Point.{Point, same_point}
use Rattle.topo_base.specs.RationalPoint.{RationalPoint, rational, IsAt}
use Rattle.topo_base.specs.declared.meeting.Meeting.TheVariants.{Inside}
use Rattle.plane.specs.Segment.{Segment, on_segment, is_beside, intervals_meet}
use Rattle.plane.specs.Line.{is_line_end}
use Rattle.plane.specs.Relation.{IsOnlyShared, AreApart, HaveMore, HaveOne, SameCoordinates}
use Rattle.plane.specs.RationalTests.{IsOn}
use Rattle.plane.proofs.Collinear.{at_point}
use Rattle.plane.proofs.Relations.{same_end, on_end, joined}
use Rattle.plane.proofs.PointTests.{Decides-int_le, Decides-on_segment, Decides-same_point}
use Rattle.plane.proofs.Middle.{on_at}
use Rattle.plane.proofs.TouchTests.{Decides-touches, at_point_segment}
use Rattle.grid_lines.specs.Parts.{PartsMeet, share_line_end}
use Rattle.grid_lines.proofs.Links.{at_moved}
use Rattle.grid_lines.proofs.LinesMeeting.{on_one, one_on, overlap_meet, ends_meet, inside_meet}
use Rattle.validate_topology.specs.Pieces.{line_of, IsAtEnd, IsInside, CrossAt, Cross}
use Rattle.validate_topology.specs.declared.pieces.Ends.{Ends}

-- ---- segments
cross_from : (a b : Ends) (s t : Segment) → PartsMeet Inside (line_of a) (line_of b) (s ∷ []) (t ∷ []) → Cross a b s t
cross_from a b s t (q, (both, none)) = (q, (on_one q s both.0, on_one q t both.1, none))

pub overlap_cross : (a b : Ends) (s t : Segment) → HaveMore s t → Cross a b s t
overlap_cross a b s t more = cross_from a b s t (overlap_meet (line_of a) (line_of b) s t more)

pub apart_cross : (a b : Ends) (s t : Segment) → AreApart s t → Cross a b s t → ⊥
apart_cross a b s t apart (q, (on, also, none)) = apart q (on, also)

pub once : (a b : Ends) (s t : Segment) (share : Bool) → ((q : RationalPoint) × IsOnlyShared s t q) → share_line_end (line_of a) (line_of b) s t ≡ share → IsTrue (not share) ↔ Cross a b s t
once a b s t true one e = (λ h. absurd (false≢true h), λ (q, (on, also, none)). absurd (none ((ends_meet (line_of a) (line_of b) s t one e).1 q (one_on q s on, one_on q t also))))
once a b s t false one e = (λ h. cross_from a b s t (inside_meet (line_of a) (line_of b) s t one e), λ h. refl)

-- ---- points
pub at_end_test : (p : Point) (ends : Ends) → Decides (is_line_end p (line_of ends)) (IsAtEnd (rational p) ends)
at_end_test p ends =
    Decides-or (same_point p ends.first) (same_point p ends.last) (at_test p ends.first) (at_test p ends.last)
  where
    at_test : (p r : Point) → Decides (same_point p r) (IsAt r (rational p))
    at_test p r =
        Decides-like (same_point p r)
        (λ (h : SameCoordinates p r). at_moved r p (rational p) (sym h.0, sym h.1) (at_point p))
        (λ (h : IsAt r (rational p)). same_end (rational p) p r (at_point p) h)
        (Decides-same_point p r)

pub inside_test : (p : Point) (ends : Ends) (s : Segment) → Decides (on_segment p s && not (is_line_end p (line_of ends))) (IsInside p ends s)
inside_test p ends s =
    Decides-and (on_segment p s) (not (is_line_end p (line_of ends))) (Decides-on_segment p s) (Decides-not (is_line_end p (line_of ends)) (at_end_test p ends))

pub cross_test : (p : Point) (a b : Ends) (s : Segment) → Decides (on_segment p s && not (is_line_end p (line_of a) && is_line_end p (line_of b))) (CrossAt p a b s)
cross_test p a b s =
    Decides-and (on_segment p s) (not (is_line_end p (line_of a) && is_line_end p (line_of b))) (Decides-on_segment p s)
    (Decides-not (is_line_end p (line_of a) && is_line_end p (line_of b))
    (Decides-and (is_line_end p (line_of a)) (is_line_end p (line_of b)) (at_end_test p a) (at_end_test p b)))

-- the same from the answers of two calls, where the second is asked only if the first says so
pub inside_then : (p : Point) (ends : Ends) (s : Segment) (on end : Bool) → on ≡ on_segment p s → end ≡ is_line_end p (line_of ends) → on ≡ true → Decides (not end) (IsInside p ends s)
inside_then p ends s on end e f h =
    subst (λ b. Decides b (IsInside p ends s)) (λ i. (sym e ∙ h) i && not (sym f i)) (inside_test p ends s)

pub inside_else : (p : Point) (ends : Ends) (s : Segment) (on : Bool) → on ≡ on_segment p s → on ≡ false → Decides on (IsInside p ends s)
inside_else p ends s on e h =
    subst (λ b. Decides b (IsInside p ends s)) (ap (λ b. b && not (is_line_end p (line_of ends))) (sym e ∙ h) ∙ sym h) (inside_test p ends s)

pub cross_then : (p : Point) (a b : Ends) (s : Segment) (on end : Bool) → on ≡ on_segment p s → end ≡ (is_line_end p (line_of a) && is_line_end p (line_of b)) → on ≡ true → Decides (not end) (CrossAt p a b s)
cross_then p a b s on end e f h =
    subst (λ x. Decides x (CrossAt p a b s)) (λ i. (sym e ∙ h) i && not (sym f i)) (cross_test p a b s)

pub cross_else : (p : Point) (a b : Ends) (s : Segment) (on : Bool) → on ≡ on_segment p s → on ≡ false → Decides on (CrossAt p a b s)
cross_else p a b s on e h =
    subst (λ x. Decides x (CrossAt p a b s)) (ap (λ x. x && not (is_line_end p (line_of a) && is_line_end p (line_of b))) (sym e ∙ h) ∙ sym h) (cross_test p a b s)

-- a segment whose ends are one point has this one alone
on_point : (p : Point) (q : RationalPoint) (s : Segment) → s.a ≡ p → s.b ≡ p → IsOn q s → IsAt p q
on_point p q s e f on = subst (λ r. IsAt r q) e (at_point_segment s q (ap (λ (r : Point). r.x) (e ∙ sym f), ap (λ (r : Point). r.y) (e ∙ sym f)) on)

end_moved : (p : Point) (q : RationalPoint) (a : Ends) → IsAt p q → IsAtEnd q a → IsAtEnd (rational p) a
end_moved p q a at =
    ⊎_elim
    (λ (h : IsAt a.first q). inl (let k = same_end q p a.first at h in at_moved a.first p (rational p) (sym k.0, sym k.1) (at_point p)))
    (λ (h : IsAt a.last q). inr (let k = same_end q p a.last at h in at_moved a.last p (rational p) (sym k.0, sym k.1) (at_point p)))

point_end : (p : Point) (q : RationalPoint) (a : Ends) → IsAt p q → IsAtEnd (rational p) a → IsAtEnd q a
point_end p q a at =
    ⊎_elim
    (λ (h : IsAt a.first (rational p)). inl (let k = same_end (rational p) p a.first (at_point p) h in at_moved a.first p q (sym k.0, sym k.1) at))
    (λ (h : IsAt a.last (rational p)). inr (let k = same_end (rational p) p a.last (at_point p) h in at_moved a.last p q (sym k.0, sym k.1) at))

pub first_point : (a b : Ends) (s t : Segment) (r : Bool) → s.a ≡ s.b → IsTrue r ↔ CrossAt s.a a b t → IsTrue r ↔ Cross a b s t
first_point a b s t r e test = (
  λ h. let c = test.0 h in (rational s.a, (on_end s s.a (inl (joined s.a)), c.0, c.1)),
  λ (q, (on, also, none)).
      let at = on_point s.a q s refl (sym e) on in
      test.1 (on_at s.a q t at also, λ ends. none (point_end s.a q a at ends.0, point_end s.a q b at ends.1)),
)

pub second_point : (a b : Ends) (s t : Segment) (r : Bool) → t.a ≡ t.b → IsTrue r ↔ CrossAt t.a a b s → IsTrue r ↔ Cross a b s t
second_point a b s t r e test = (
  λ h. let c = test.0 h in (rational t.a, (c.0, on_end t t.a (inl (joined t.a)), c.1)),
  λ (q, (on, also, none)).
      let at = on_point t.a q t refl (sym e) also in
      test.1 (on_at t.a q s at on, λ ends. none (point_end t.a q a at ends.0, point_end t.a q b at ends.1)),
)

-- a segment whose ends are one point: the test of points is that of segments
pub point_test : (p r : Point) (s : Segment) → s.a ≡ r → s.b ≡ r → same_point p r ≡ on_segment p s
point_test p r s e f =
    same_from_decides (same_point p r) (on_segment p s) (Decides-same_point p r)
    (Decides-like (on_segment p s)
    (λ (h : IsOn (rational p) s). same_end (rational p) p r (at_point p) (on_point r (rational p) s e f h))
    (λ (h : SameCoordinates p r). on_end s p (inl (subst (λ o. SameCoordinates p o) (sym e) h)))
    (Decides-on_segment p s))

-- ---- segments with a common point reach a common height, and one begins before the other ends
pub record Reach (s t : Segment) : Type 0 where
  pub across : int_min t.a.x t.b.x ≤ℤ int_max s.a.x s.b.x
  pub above : int_min t.a.y t.b.y ≤ℤ int_max s.a.y s.b.y
  pub below : int_min s.a.y s.b.y ≤ℤ int_max t.a.y t.b.y

pub reach_of : (s t : Segment) → HaveOne s t → Reach s t
reach_of s t h =
    let apart = not (is_beside s t) && not (is_beside t s) in
    let across = intervals_meet s.a.x s.b.x t.a.x t.b.x in
    let upward = intervals_meet s.a.y s.b.y t.a.y t.b.y in
    let both = and_parts (apart && across) upward ((Decides-touches s t).1 h) in
    let x = and_parts (int_le (int_min t.a.x t.b.x) (int_max s.a.x s.b.x)) (int_le (int_min s.a.x s.b.x) (int_max t.a.x t.b.x)) (and_parts apart across both.0).1 in
    let y = and_parts (int_le (int_min t.a.y t.b.y) (int_max s.a.y s.b.y)) (int_le (int_min s.a.y s.b.y) (int_max t.a.y t.b.y)) both.1 in
    record {
      across = (Decides-int_le (int_min t.a.x t.b.x) (int_max s.a.x s.b.x)).0 x.0;
      above = (Decides-int_le (int_min t.a.y t.b.y) (int_max s.a.y s.b.y)).0 y.0;
      below = (Decides-int_le (int_min s.a.y s.b.y) (int_max t.a.y t.b.y)).0 y.1;
    }
