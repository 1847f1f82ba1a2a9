use Rattle.std.proofs.Common.{◌≡◌, ◌∙◌, ◌-◌, false, get_or, subst, sym, arith}
use Rattle.std.proofs.lemmas.List.Elements.{All-get_or}
use Rattle.validate_topology.specs.PlaceLines.{hole_line}
use Rattle.validate_topology.specs.Walks.{IsWalk}
use Rattle.validate_topology.proofs.HoleLines.{back_pushed}
use Rattle.validate_topology.proofs.place_lines.backward_holes.Goals as goal

pub hole_line-requires-clause-walk : goal.hole_line-requires-clause-walk
hole_line-requires-clause-walk g c =
    let left = c.loop-left.left in
    let some = c.loop-left-test.true in
    let within = c.loop-left.invariant.within in
    subst IsWalk (sym c.index-walks-left.is) (All-get_or IsWalk c.args.walks.now (left - 1) c.index-walks-left.result (omega arith) c.requires.walks)

pub loop-left-preserved : goal.loop-left-preserved
loop-left-preserved g c =
    let left = c.loop-left.left in
    let some = c.loop-left-test.true in
    let within = c.loop-left.invariant.within in
    record {
      within = omega arith;
      lines = λ above tells.
          back_pushed (hole_line above false) c.args.walks.now left c.index-walks-left.result c.args.report.now c.loop-left.report c.hole_line.new.report (omega arith) within c.index-walks-left.is
          (c.loop-left.invariant.lines above tells) (c.in_ok-hole_line.ensures above tells);
    }
