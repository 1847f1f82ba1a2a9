use Rattle.std.proofs.Common.{◌≡◌, sym, ◌∙◌, arith, true}
use Rattle.topo_base.specs.Point.{Point}
use Rattle.plane.specs.Line.{are_simple, first_vertex, segments_of}
use Rattle.std.proofs.Common.{List}
use Rattle.grid_lines.proofs.Vertices.{simple_end}
use Rattle.grid_lines.proofs.simple.are_simple.Goals as goal

-- of the vertices that were read
moved : (vs line : List Point) (p : Point) → vs ≡ line → p ≡ first_vertex line → are_simple p (segments_of vs) ≡ true → true ≡ are_simple (first_vertex line) (segments_of line)
moved vs line p e f h = rw (← f, ← e) (sym h)

pub returns-clause-test : goal.returns-clause-test
returns-clause-test g c =
    let vs = c.vertices-vertices.result.now in
    let p = c.first_of-first.result in
    moved vs c.args.line.now p c.vertices-vertices.ensures.vertices c.first_of-first.ensures (c.loop-i.invariant.test ∙ simple_end p vs c.loop-i.i (omega arith))
