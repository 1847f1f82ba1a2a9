use Rattle.std.proofs.Common.{◌≡◌, ◌+◌, ◌↔◌, ◌⊎◌, sym, ◌∙◌, subst, List, true, false}
use Rattle.std.proofs.lemmas.Bool.{and_parts}
use Rattle.topo_base.specs.Point.{Point}
use Rattle.topo_base.specs.RationalPoint.{RationalPoint}
use Rattle.plane.specs.Line.{on_line, is_line_end, line_up_to, line_from, is_simple, are_simple, first_vertex, segments_of}
use Rattle.plane.specs.LinePoints.{has_proper_segments}
use Rattle.plane.specs.RationalTests.{IsOnLine}
use Rattle.grid_lines.proofs.Splitting.{two_left, not_first, split_points}
use Rattle.grid_lines.proofs.splits.split_at.Goals as goal

-- the points of two parts that are those of the line at p
parts_points : (p : Point) (vs line A B : List Point) (q : RationalPoint) → vs ≡ line → A ≡ line_up_to p vs → B ≡ line_from p vs → is_simple line ≡ true → on_line p vs ≡ true
    → is_line_end p line ≡ false → IsOnLine q line ↔ (IsOnLine q A ⊎ IsOnLine q B)
parts_points p vs line A B q is e f simple on inner =
    let proper = (and_parts (has_proper_segments line) (are_simple (first_vertex line) (segments_of line)) simple).0 in
    let k = split_points p line q proper (subst (λ l. on_line p l ≡ true) is on) (not_first p line inner) in
    let a : A ≡ line_up_to p line = subst (λ l. A ≡ line_up_to p l) is e in
    let b : B ≡ line_from p line = subst (λ l. B ≡ line_from p l) is f in
    subst (λ l. IsOnLine q line ↔ (IsOnLine q l ⊎ IsOnLine q B)) (sym a) (subst (λ l. IsOnLine q line ↔ (IsOnLine q (line_up_to p line) ⊎ IsOnLine q l)) (sym b) k)

pub part_from-requires-clause-second : goal.part_from-requires-clause-second
part_from-requires-clause-second c =
    let vs = c.vertices-vertices.result.now in
    let is = c.vertices-vertices.ensures.vertices in
    let inner : is_line_end c.args.p vs ≡ false = rw is (sym c.is_line_end.ensures ∙ c.if-is_line_end.false) in
    rw c.split_at.ensures.back (two_left c.args.p vs (c.in-Some.i + 1) inner c.in-Some.ensures.within)

pub returns-clause-points : goal.returns-clause-points
returns-clause-points c =
    let vs = c.vertices-vertices.result.now in
    let inner : is_line_end c.args.p c.args.line.now ≡ false = sym c.is_line_end.ensures ∙ c.if-is_line_end.false in
    let second = rw c.split_at.ensures.back at c.in_ok-second.ensures in
    λ q. parts_points c.args.p vs c.args.line.now c.in_ok-first.first c.in_ok-second.second q c.vertices-vertices.ensures.vertices
    (c.in_ok-first.ensures ∙ sym c.in-Some.ensures.up_to) (second ∙ sym c.in-Some.ensures.from) c.requires c.in-Some.ensures.on inner
