use Rattle.std.proofs.Common.{◌≡◌, ◌∙◌, sym, ap, arith}
use Rattle.plane.specs.LinePoints.{has_proper_segments}
use Rattle.grid_lines.proofs.Vertices.{proper_end, proper_on, not_proper_at}
use Rattle.grid_lines.proofs.proper.is_proper.Goals as goal

pub returns : goal.returns
returns c =
    let vs = c.vertices-vertices.result.now in
    let is : vs ≡ c.args.line.now = c.vertices-vertices.ensures.vertices in
    sym (ap has_proper_segments (sym is) ∙ c.loop-i.invariant ∙ proper_end vs c.loop-i.i (omega arith))

pub returns-then-is_same_point : goal.returns-then-is_same_point
returns-then-is_same_point c =
    let vs = c.vertices-vertices.result.now in
    let is : vs ≡ c.args.line.now = c.vertices-vertices.ensures.vertices in
    let same = sym c.is_same_point.ensures ∙ c.if-is_same_point.true in
    sym (ap has_proper_segments (sym is) ∙ c.loop-i.invariant ∙ not_proper_at vs c.loop-i.i _ _ (omega arith) c.index-vertices-i.is c.index-vertices-i-in-loop-i.is same)

pub loop-i-preserved : goal.loop-i-preserved
loop-i-preserved c =
    let vs = c.vertices-vertices.result.now in
    let other = sym c.is_same_point.ensures ∙ c.if-is_same_point.false in
    c.loop-i.invariant ∙ proper_on vs c.loop-i.i _ _ (omega arith) c.index-vertices-i.is c.index-vertices-i-in-loop-i.is other
