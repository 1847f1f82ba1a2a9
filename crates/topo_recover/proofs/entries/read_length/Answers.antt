use Rattle.std.proofs.Common.{rules, ◌<◌, ◌^◌, arith}
use Rattle.topo_recover.proofs.Gates.{framed_parts, framed_length, short_spelled}
use Rattle.topo_recover.proofs.entries.read_length.Goals as goal
use Rattle.topo_recover.proofs.entries.read_length.Goals.{else-long-left-via-then-long-left+else-long-le-LONGEST, else-long-left-via-else-long-left}

pub returns-then-left-lt6-clause-none : goal.returns-then-left-lt6-clause-none
returns-then-left-lt6-clause-none g c told same x next framed short =
    let parts = framed_parts (g.D.Disk.seen c.args.begun.now.disk) c.args.gate x next framed in
    absurd (omega (arith, c.if-left-lt6.true, parts.2, c.requires.size told))

pub returns-else-long-left-clause-none : goal.returns-else-long-left-clause-none
returns-else-long-left-clause-none g c told same x next framed short =
    let bytes = g.D.Disk.seen c.args.begun.now.disk in let n = c.in_ok-long.field-0 in
    let small : n < 2 ^ 32 = search rules in
    let long = framed_length bytes c.args.gate n x next small short (c.in_ok-long.ensures.number told) framed in
    let parts = framed_parts bytes c.args.gate x next framed in
    elim c.else-long-left.branch [
      | else-long-left-via-then-long-left+else-long-le-LONGEST w ↦ absurd (omega (arith, w.if-long-le-LONGEST.false, long, short_spelled x framed.spelled))
      | else-long-left-via-else-long-left w ↦ absurd (omega (arith, w.if-long-left.false, long, parts.2, c.requires.size told))
    ]
