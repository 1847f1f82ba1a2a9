use Rattle.std.proofs.Common.{rules, IsTrue, true, false}
use Rattle.plane.specs.Relation.{IsProper}
use Rattle.plane.proofs.Relations.{apart_relates, touch_relates, meet_relates, in_line}
use Rattle.grid_segments.proofs.relations.relation_of.Goals as goal

untrue : IsTrue false → ⊥
untrue h = cc

truth : IsTrue true
truth = search rules

pub returns-then-not-reaches : goal.returns-then-not-reaches
returns-then-not-reaches c =
    let ps : IsProper c.args.s.now = c.from.ensures.proper in
    let pt : IsProper c.args.t.now = c.from-2.ensures.proper in
    let e = c.if-not-reaches.ensures in
    apart_relates c.args.s.now c.args.t.now ps pt (λ r. absurd (untrue (e.1 r.0)))

pub returns-then-not-reaches-2 : goal.returns-then-not-reaches-2
returns-then-not-reaches-2 c =
    let ps : IsProper c.args.s.now = c.from.ensures.proper in
    let pt : IsProper c.args.t.now = c.from-2.ensures.proper in
    let e = c.if-not-reaches-2.ensures in
    apart_relates c.args.s.now c.args.t.now ps pt (λ r. absurd (untrue (e.1 r.1)))

pub relate_in_line-requires : goal.relate_in_line-requires
relate_in_line-requires c =
    let e = c.if-not-reaches.ensures in
    let f = c.if-not-reaches-2.ensures in
    let g = c.if-is_parallel.ensures in
    in_line c.args.s.now c.args.t.now (e.0 truth, f.0 truth) (g.0 truth)

pub returns-then-share_end : goal.returns-then-share_end
returns-then-share_end c =
    let e = c.if-share_end.ensures.yes truth in
    let g = c.if-is_parallel.ensures in
    touch_relates c.args.s.now c.args.t.now e.0 (λ h. absurd (untrue (g.1 h))) e.1.0 e.1.1

pub returns-else-share_end : goal.returns-else-share_end
returns-else-share_end c =
    let e = c.if-not-reaches.ensures in
    let f = c.if-not-reaches-2.ensures in
    let g = c.if-is_parallel.ensures in
    meet_relates c.args.s.now c.args.t.now (λ h. absurd (untrue (g.1 h))) (e.0 truth, f.0 truth) (λ p a b. absurd (untrue (c.if-share_end.ensures.no p a b)))
