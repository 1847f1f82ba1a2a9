use Rattle.std.proofs.Common.{◌≤◌, ◌+◌, ap, arith, length, List}
use Rattle.std.specs.Prelude.{map, count_by}
use Rattle.topo_base.specs.Point.{Point}
use Rattle.plane.specs.Line.{segments_of}
use Rattle.plane.proofs.Walks.{no_segments}
use Rattle.slab_index.specs.Pieces.{piece_of}
use Rattle.slab_index.proofs.index.stage_edge.Goals as goal

pub returns-clause-ok : goal.returns-clause-ok
returns-clause-ok c = λ f.
    let vs = c.vertices-vertices.result.now in
    let k = c.loop-i-test.false in
    let ended : length vs ≤ c.loop-i.i + 1 = omega arith in
    let none = ap (λ l. count_by f (map (piece_of c.args.row.now.edge_id) l)) (no_segments vs c.loop-i.i ended) in
    let whole = ap (λ (l : List Point). count_by f (map (piece_of c.args.row.now.edge_id) (segments_of l))) c.vertices-vertices.ensures.vertices in
    let h = c.loop-i.invariant.coming f in
    omega (arith, none, whole, h)
