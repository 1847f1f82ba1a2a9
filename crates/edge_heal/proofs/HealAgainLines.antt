-- The line of an edge that is split and healed again.
use Rattle.std.proofs.Common.{◌≡◌, ◌↔◌, ℕ, ◌+◌, ◌<◌, suc, refl, sym, ◌∙◌, ap, arith, inl, inr, ⊎_elim, Bool, true, false, not, cond, ◌||◌, List, [], ◌∷◌, ◌++◌, length, slice_get, Some}
use Rattle.std.specs.List.{list_all, Contains}
use Rattle.std.proofs.lemmas.Bool.{and_parts, false≢true}
use Rattle.std.proofs.lemmas.Bool.Decides.{not_from_Decides}
use Rattle.topo_base.specs.Point.{Point, same_point}
use Rattle.topo_base.specs.RationalPoint.{RationalPoint, IsAt, rational}
use Rattle.plane.specs.Line.{first_vertex, is_inside_line, is_line_end, is_proper, last_vertex, line_from, line_up_to, on_line, segments_of, without_first}
use Rattle.plane.specs.SimpleLine.{IsSimpleLine}
use Rattle.plane.specs.RationalTests.{IsOn, IsOnLine}
use Rattle.plane.specs.Relation.{SameCoordinates}
use Rattle.plane.specs.Segment.{Segment, on_segment}
use Rattle.plane.proofs.LineTests.{from_at}
use Rattle.plane.proofs.LineParts.{cut}
use Rattle.plane.proofs.ListTests.{contains_cases, contains_none}
use Rattle.plane.proofs.PointTests.{Decides-on_segment, Decides-same_point}
use Rattle.plane.proofs.Relations.{on_end}
use Rattle.grid_lines.proofs.Joining.{join_points_of}
use Rattle.grid_lines.proofs.Splitting.{not_first, same_points, split_points}
use Rattle.edge_heal.specs.HealLaw.{with_vertex}

-- ---- the points of the line
up_long : (p : Point) (line : List Point) → on_line p line ≡ true → 0 < length (line_up_to p line)
up_long p [] h = absurd (false≢true h)
up_long p (a ∷ []) h = absurd (false≢true h)
up_long p (a ∷ b ∷ rest) h = by (on_segment p (record { a = a; b = b }))
  where
    by : (t : Bool) → 0 < length (cond t (a ∷ p ∷ []) (a ∷ line_up_to p (b ∷ rest)))
    by true = omega arith
    by false = omega arith

from_long : (p : Point) (line : List Point) → on_line p line ≡ true → 0 < length (line_from p line)
from_long p [] h = absurd (false≢true h)
from_long p (a ∷ []) h = absurd (false≢true h)
from_long p (a ∷ b ∷ rest) h = by (on_segment p (record { a = a; b = b })) (same_point p b) h (from_long p (b ∷ rest))
  where
    by : (t v : Bool) → (t || on_line p (b ∷ rest)) ≡ true → (on_line p (b ∷ rest) ≡ true → 0 < length (line_from p (b ∷ rest)))
        → 0 < length (cond t (cond v (b ∷ rest) (p ∷ b ∷ rest)) (line_from p (b ∷ rest)))
    by true true on ih = omega arith
    by true false on ih = omega arith
    by false v on ih = ih on

pub vertex_points : (p : Point) (line : List Point) (q : RationalPoint) → list_all is_proper (segments_of line) ≡ true → is_inside_line p line ≡ true → IsOnLine q (with_vertex p line) ↔ IsOnLine q line
vertex_points p line q proper inside =
    let both = and_parts (on_line p line) _ inside in
    let c = cut p line both.0 in
    let ends : last_vertex (line_up_to p line) ≡ first_vertex (line_from p line) = c.up_last ∙ same_points p (first_vertex (line_from p line)) c.from_first in
    let whole = join_points_of q (with_vertex p line) (line_up_to p line) (line_from p line) refl (up_long p line both.0) (from_long p line both.0) ends in
    let parts = split_points p line q proper both.0 (not_first p line (not_end (is_line_end p line) both.1)) in
    (λ o. parts.1 (whole.0 o), λ o. whole.1 (parts.0 o))
  where
    not_end : (b : Bool) → not b ≡ true → b ≡ false
    not_end true h = absurd (false≢true h)
    not_end false h = refl

-- ---- the point is a vertex of it
-- a vertex but the first is the end of a segment
ends_one : (p a : Point) (rest : List Point) → Contains rest p → (k : ℕ) × ((s : Segment) × ((slice_get (segments_of (a ∷ rest)) k ≡ Some s) × (s.b ≡ p)))
ends_one p a [] c = absurd (contains_none p c)
ends_one p a (b ∷ rest) c =
    ⊎_elim
    (λ (e : b ≡ p). (0, (record { a = a; b = b }, (refl, e))))
    (λ (d : Contains rest p). let r = ends_one p b rest d in (suc r.0, r.1))
    (contains_cases p b rest c)

simple_rest : (s : Segment) (ss : List Segment) → IsSimpleLine (s ∷ ss) → IsSimpleLine ss
simple_rest s ss simple i j t u q below e f on_t on_u =
    ⊎_elim
    (λ (h : (suc j ≡ suc i + 1) × IsAt t.b q). inl (omega (arith, h.0), h.1))
    (λ (h : (suc i ≡ 0) × (suc j + 1 ≡ length (s ∷ ss)) × IsAt t.a q × IsAt u.b q). absurd (omega (arith, h.0)))
    (simple (suc i) (suc j) t u q (omega arith) e f on_t on_u)

-- a point on the first segment that is a later vertex is where the segment ends
on_first : (p a b : Point) (rest : List Point) → IsSimpleLine (segments_of (a ∷ b ∷ rest)) → IsOn (rational p) (record { a = a; b = b }) → (SameCoordinates p a → ⊥) → (SameCoordinates p b → ⊥) → Contains rest p → ⊥
on_first p a b rest simple on not_a not_b c =
    let s : Segment = record { a = a; b = b } in
    let r = ends_one p b rest c in
    let t = r.1.0 in
    let at : SameCoordinates t.b p = (ap (λ (v : Point). v.x) r.1.1.1, ap (λ (v : Point). v.y) r.1.1.1) in
    ⊎_elim
    (λ (h : (suc r.0 ≡ 0 + 1) × IsAt b (rational p)). not_b (from_at p b h.1))
    (λ (h : (0 ≡ 0) × (suc r.0 + 1 ≡ length (segments_of (a ∷ b ∷ rest))) × IsAt a (rational p) × IsAt t.b (rational p)). not_a (from_at p a h.2))
    (simple 0 (suc r.0) s t (rational p) (omega arith) refl r.1.1.0 on (on_end t p (inr (sym at.0, sym at.1))))

pub vertex_stays : (p : Point) (line : List Point) → IsSimpleLine (segments_of line) → on_line p line ≡ true → same_point p (first_vertex line) ≡ false → Contains line p → with_vertex p line ≡ line
vertex_stays p [] simple on first c = absurd (false≢true on)
vertex_stays p (a ∷ []) simple on first c = absurd (false≢true on)
vertex_stays p (a ∷ b ∷ rest) simple on first c =
    let not_a = not_from_Decides (same_point p a) (Decides-same_point p a) first in
    by (on_segment p (record { a = a; b = b })) (same_point p b) refl refl on (behind not_a) (vertex_stays p (b ∷ rest) (simple_rest (record { a = a; b = b }) (segments_of (b ∷ rest)) simple))
  where
    itself : {u v : Point} → u ≡ v → SameCoordinates v u
    itself e = (ap (λ (w : Point). w.x) (sym e), ap (λ (w : Point). w.y) (sym e))

    behind : (SameCoordinates p a → ⊥) → Contains (b ∷ rest) p
    behind not_a = ⊎_elim (λ (e : a ≡ p). absurd (not_a (itself e))) (λ (d : Contains (b ∷ rest) p). d) (contains_cases p a (b ∷ rest) c)

    by : (t v : Bool) → on_segment p (record { a = a; b = b }) ≡ t → same_point p b ≡ v → (t || on_line p (b ∷ rest)) ≡ true → Contains (b ∷ rest) p
        → (on_line p (b ∷ rest) ≡ true → same_point p b ≡ false → Contains (b ∷ rest) p → with_vertex p (b ∷ rest) ≡ b ∷ rest)
        → cond t (a ∷ p ∷ []) (a ∷ line_up_to p (b ∷ rest)) ++ without_first (cond t (cond v (b ∷ rest) (p ∷ b ∷ rest)) (line_from p (b ∷ rest))) ≡ a ∷ b ∷ rest
    by true true h g o d ih = ap (λ z. a ∷ z ∷ rest) (same_points p b ((Decides-same_point p b).0 g))
    by true false h g o d ih =
        let not_a = not_from_Decides (same_point p a) (Decides-same_point p a) first in
        let not_b = not_from_Decides (same_point p b) (Decides-same_point p b) g in
        ⊎_elim
        (λ (e : b ≡ p). absurd (not_b (itself e)))
        (λ (k : Contains rest p). absurd (on_first p a b rest simple ((Decides-on_segment p (record { a = a; b = b })).0 h) not_a not_b k))
        (contains_cases p b rest d)
    by false true h g o d ih = absurd (false≢true (sym h ∙ (Decides-on_segment p (record { a = a; b = b })).1 (on_end (record { a = a; b = b }) p (inr ((Decides-same_point p b).0 g)))))
    by false false h g o d ih = ap (λ l. a ∷ l) (ih o g d)
