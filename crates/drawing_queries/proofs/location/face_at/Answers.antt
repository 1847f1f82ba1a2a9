use Rattle.std.proofs.Common.{◌+◌, ◌*◌, ap, arith}
use Rattle.std.specs.List.{sum_by}
use Rattle.std.proofs.Math.Nat.{add-mul}
use Rattle.topo_base.specs.declared.rows.Counters.{Counters}
use Rattle.drawing_queries.specs.Counted.{point_steps}
use Rattle.drawing_queries.proofs.Locating.{none_odd, none_yet, found_now, face_none, odd_rows}
use Rattle.drawing_queries.proofs.location.face_at.Goals as goal

pub count_edges-requires : goal.count_edges-requires
count_edges-requires g c = none_odd 4096

pub returns-in-Some-clause-face : goal.returns-in-Some-clause-face
returns-in-Some-clause-face g c =
    let t = c.args.tables.now.rows in
    let first = c.loop-walk.walk * 4096 in
    let odd = odd_rows c.args.point first t.edges c.count_edges.new.odd c.edges.ensures c.count_edges.ensures.odd in
    found_now t c.args.point first t.next_ids.face c.count_edges.new.odd c.in-Some.face (record { test = c.requires }) odd c.in-Some.ensures.least c.loop-walk.invariant.none

pub loop-walk-preserved : goal.loop-walk-preserved
loop-walk-preserved g c =
    let t = c.args.tables.now.rows in
    let walk = c.loop-walk.walk in
    let first = walk * 4096 in
    let odd = odd_rows c.args.point first t.edges c.count_edges.new.odd c.edges.ensures c.count_edges.ensures.odd in
    let len = c.count_edges.ensures.len in
    record {
      none = none_yet t c.args.point first c.count_edges.new.odd ((walk + 1) * 4096) (record { test = c.requires }) odd c.in_default.ensures.least (omega arith) c.loop-walk.invariant.none;
      counted =
          (let rows = ap (sum_by point_steps) c.edges.ensures in
          let more = add-mul walk 1 (sum_by point_steps t.edges + 4096) in
          let far = c.loop-walk.invariant.counted in
          let walked = c.count_edges.ensures.counted in
          let looked = c.least_odd.ensures.counted in
          omega arith);
    }

pub returns-clause-face : goal.returns-clause-face
returns-clause-face g c =
    let t = c.args.tables.now.rows in
    let next = ap (λ (n : Counters). n.face) c.counters-next.ensures in
    let all = c.loop-walk-test.false in
    face_none t c.args.point (c.loop-walk.walk * 4096) (record { test = c.requires }) (omega arith) c.loop-walk.invariant.none
