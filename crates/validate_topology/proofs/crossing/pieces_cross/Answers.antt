use Rattle.std.proofs.Common.{◌↔◌, IsTrue, subst}
use Rattle.plane.specs.Segment.{Segment}
use Rattle.validate_topology.specs.Pieces.{Cross, way_of}
use Rattle.validate_topology.proofs.Crossings.{first_point, second_point}
use Rattle.validate_topology.proofs.crossing.pieces_cross.Goals as goal

pub returns-in_default : goal.returns-in_default
returns-in_default g c =
    first_point c.args.a.now c.args.b.now (way_of c.args.one.now) (way_of c.args.other.now) c.point_crosses.result c.in_default.ensures c.point_crosses.ensures

pub returns-in_default-of : goal.returns-in_default-of
returns-in_default-of g c =
    second_point c.args.a.now c.args.b.now (way_of c.args.one.now) (way_of c.args.other.now) c.point_crosses-in_default-of.result c.in_default-of.ensures
    c.point_crosses-in_default-of.ensures

pub returns : goal.returns
returns g c =
    let r = c.segments_cross.result in
    let a = c.args.a.now in
    let b = c.args.b.now in
    subst (λ (s : Segment). IsTrue r ↔ Cross a b s (way_of c.args.other.now)) c.in-Some.ensures.0
    (subst (λ (t : Segment). IsTrue r ↔ Cross a b c.in-Some.s t) c.in-Some-of.ensures.0 c.segments_cross.ensures)
