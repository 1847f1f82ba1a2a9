-- The tests that a point lies on a line, or inside one, and that lines meet at ends, say what their names say.
use Rattle.std.proofs.Common.{sym, ◌∙◌, inl, inr, ⊎_elim, not, List, slice_index_or}
use Rattle.std.specs.List.{list_all, All, Contains}
use Rattle.std.specs.Bool.{Decides}
use Rattle.std.proofs.lemmas.List.Elements.{Contains-get_or, All-contains}
use Rattle.std.proofs.lemmas.Bool.Decides.{Decides-and, Decides-or, Decides-not, Decides-like}
use Rattle.topo_base.specs.Point.{Point, same_point}
use Rattle.topo_base.specs.RationalPoint.{rational, IsAt}
use Rattle.plane.specs.Segment.{Segment, on_segment, meets_only_at}
use Rattle.plane.specs.Line.{first_vertex, last_vertex, segments_of, on_line, is_line_end, is_inside_line, meets_at_own_ends}
use Rattle.plane.specs.RationalTests.{IsOn, IsOnLine}
use Rattle.plane.specs.Relation.{MeetOnlyAt, SameCoordinates}
use Rattle.plane.specs.LinePoints.{IsInsideLine, MeetsAtOwnEnds}
use Rattle.plane.proofs.Signs.{times_one}
use Rattle.plane.proofs.PointTests.{Decides-on_segment, Decides-same_point}
use Rattle.plane.proofs.ListTests.{Decides-any, Decides-all}
use Rattle.plane.proofs.MeetTests.{Decides-meets_only_at}

-- ---- points
pub at_from : (p r : Point) → SameCoordinates p r → IsAt r (rational p)
at_from p r h = (h.0 ∙ sym (times_one r.x), h.1 ∙ sym (times_one r.y))

pub from_at : (p r : Point) → IsAt r (rational p) → SameCoordinates p r
from_at p r h = (h.0 ∙ times_one r.x, h.1 ∙ times_one r.y)

-- the test that a point is this one
pub Decides-at : (p r : Point) → Decides (same_point p r) (IsAt r (rational p))
Decides-at p r = Decides-like (same_point p r) (at_from p r) (from_at p r) (Decides-same_point p r)

-- the same with the two changed
other_at : (p r : Point) → IsAt r (rational p) → IsAt p (rational r)
other_at p r h = let k = from_at p r h in at_from r p (sym k.0, sym k.1)

pub Decides-at_other : (p r : Point) → Decides (same_point p r) (IsAt p (rational r))
Decides-at_other p r = Decides-like (same_point p r) (other_at p r) (other_at r p) (Decides-at p r)

pub Decides-on_line : (p : Point) (line : List Point) → Decides (on_line p line) (IsOnLine (rational p) line)
Decides-on_line p line = Decides-any (on_segment p) (IsOn (rational p)) (Decides-on_segment p) (segments_of line)

pub Decides-inside_line : (p : Point) (line : List Point) → Decides (is_inside_line p line) (IsInsideLine (rational p) line)
Decides-inside_line p line =
    let first = same_point p (first_vertex line) in
    let last = same_point p (last_vertex line) in
    let ends = Decides-or first last (Decides-at p (first_vertex line)) (Decides-at p (last_vertex line)) in
    let all = Decides-and (on_line p line) (not (is_line_end p line)) (Decides-on_line p line) (Decides-not (is_line_end p line) ends) in (
      λ h. let k = all.0 h in (k.0, λ a. k.1 (inl a), λ a. k.1 (inr a)),
      λ (k : IsInsideLine (rational p) line). all.1 (k.0, λ e. ⊎_elim k.1 k.2 e),
    )

-- ---- lines
-- all elements meet P, where each that the list contains does
pub all_from : {X : Type 0} (P : X → Type 0) (xs : List X) → ((x : X) → Contains xs x → P x) → All P xs
all_from P xs f k d within = f (slice_index_or xs k d) (Contains-get_or xs k d within)

pub Decides-own_ends : (line other : List Point) → Decides (meets_at_own_ends line other) (MeetsAtOwnEnds line other)
Decides-own_ends line other =
    let first = first_vertex line in
    let last = last_vertex line in
    let inner = λ (s : Segment). Decides-all (meets_only_at first last s) (MeetOnlyAt first last s) (Decides-meets_only_at first last s) (segments_of other) in
    let outer = Decides-all (λ (s : Segment). list_all (meets_only_at first last s) (segments_of other)) (λ (s : Segment). All (MeetOnlyAt first last s) (segments_of other)) inner (segments_of line) in
    Decides-like (meets_at_own_ends line other)
    (λ (f : All (λ (s : Segment). All (MeetOnlyAt first last s) (segments_of other)) (segments_of line)).
    λ q (s, (cs, hs)) (t, (ct, ht)).
    All-contains (MeetOnlyAt first last s) (segments_of other) t
    (All-contains (λ (s : Segment). All (MeetOnlyAt first last s) (segments_of other)) (segments_of line) s f cs) ct q (hs, ht))
    (λ (f : MeetsAtOwnEnds line other).
    all_from (λ (s : Segment). All (MeetOnlyAt first last s) (segments_of other)) (segments_of line)
    (λ s cs. all_from (MeetOnlyAt first last s) (segments_of other) (λ t ct. λ q on. f q (s, (cs, on.0)) (t, (ct, on.1)))))
    outer
