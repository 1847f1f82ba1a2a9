use Rattle.std.proofs.Common.{rules, IsTrue, true, false}
use Rattle.plane.specs.Relation.{IsProper}
use Rattle.plane.proofs.Swap.{collinear_right, collinear_up}
use Rattle.grid_segments.proofs.relations.relate_in_line.Goals as goal

untrue : IsTrue false → ⊥
untrue h = cc

truth : IsTrue true
truth = search rules

pub returns-then-is_upright : goal.returns-then-is_upright
returns-then-is_upright c =
    let ps : IsProper c.args.s.now = c.from.ensures.proper in
    let pt : IsProper c.args.t.now = c.from-2.ensures.proper in
    let e = c.if-is_upright.ensures in
    collinear_up c.face_upward.result c.args.s.now c.args.t.now c.requires ps pt (e.0 truth) c.face_upward.ensures

pub returns-else-is_upright : goal.returns-else-is_upright
returns-else-is_upright c =
    let pt : IsProper c.args.t.now = c.from-2.ensures.proper in
    let e = c.if-is_upright.ensures in
    collinear_right c.face_across.result c.args.s.now c.args.t.now c.requires pt (λ h. untrue (e.1 h)) c.face_across.ensures
