use Rattle.std.proofs.Common.{◌+◌, ◌-◌, ◌≤◌, length, arith}
use Rattle.std.proofs.lemmas.List.{length-take}
use Rattle.topo_io.proofs.Consumed.{takes_at_most}
use Rattle.topo_io.proofs.read.read_all.Goals.{then-room, else-room}
use Rattle.topo_io.proofs.read.read_all.Goals as goal

pub returns-then-count-room-clause-taken : goal.returns-then-count-room-clause-taken
returns-then-count-room-clause-taken g c =
    let inv = c.loop-want.invariant in
    let asked : c.if-room.want ≤ c.args.cap - c.len.result + 1 = elim c.if-room.branch [ then-room w ↦ omega arith | else-room w ↦ omega arith ] in
    let few : length c.loop-want.bytes.items + c.in_ok-count.count ≤ c.args.cap + 1 = omega (arith, c.in_ok-count.ensures.bound, length-take c.if-room.want c.loop-want.buffer) in
    takes_at_most _ _ _ _ _ _ _ inv.taken c.in_ok-count.ensures.bytes.0 few

pub returns-in_err-extend_from_slice-clause-taken : goal.returns-in_err-extend_from_slice-clause-taken
returns-in_err-extend_from_slice-clause-taken g c =
    let inv = c.loop-want.invariant in
    let few : length c.loop-want.bytes.items + c.in_ok-count.count ≤ c.args.cap + 1 = omega arith in
    takes_at_most _ _ _ _ _ _ _ inv.taken c.in_ok-count.ensures.bytes.0 few
