use Rattle.std.proofs.Common.{refl}
use Rattle.validate_topology.proofs.Crossings.{overlap_cross}
use Rattle.validate_topology.proofs.crossing.segments_cross.Goals as goal

pub returns-in-Overlap : goal.returns-in-Overlap
returns-in-Overlap g c = (λ _. overlap_cross c.args.a.now c.args.b.now c.args.s.now c.args.t.now c.in-Overlap.ensures.relates, λ _. refl)
