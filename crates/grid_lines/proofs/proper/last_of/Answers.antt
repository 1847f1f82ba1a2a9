use Rattle.std.proofs.Common.{◌≡◌, subst, arith}
use Rattle.plane.specs.Line.{last_vertex}
use Rattle.grid_lines.proofs.Vertices.{vertex_last}
use Rattle.grid_lines.proofs.proper.last_of.Goals as goal

pub returns : goal.returns
returns c =
    let vs = c.vertices-vertices.result.now in
    let r = c.index-vertices-vertices.result in
    let is : vs ≡ c.args.line.now = c.vertices-vertices.ensures.vertices in
    let some = rw (← is) at c.vertices-vertices.ensures.some in
    subst (λ l. r ≡ last_vertex l) is (vertex_last vs _ r (omega arith) c.index-vertices-vertices.is)
