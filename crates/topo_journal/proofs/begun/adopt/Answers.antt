use Rattle.std.proofs.Common.{take, sym, subst}
use Rattle.topo_journal.specs.Kept.{IsClosedAfter}
use Rattle.topo_journal.proofs.Fronts.{closed_stands}
use Rattle.topo_journal.proofs.begun.adopt.Goals as goal

pub returns-clause-since_start : goal.returns-clause-since_start
returns-clause-since_start g c told legal are f left =
    let D = g.D.Disk in
    let seen = D.seen c.args.begun.disk in
    let asked = c.requires told in
    let left' = rw (c.made.ensures.start.0, c.made.ensures.start.1, c.made.ensures.disk) at left in
    let are' = rw (c.made.ensures.gate.0, c.made.ensures.disk) at are in
    rw (c.made.ensures.gate.0, c.made.ensures.disk)
    (closed_stands (take c.args.gate seen) asked.0 legal f are' (subst (IsClosedAfter (take c.args.gate seen)) (sym (c.args.begun.since told f left')) asked.1))
