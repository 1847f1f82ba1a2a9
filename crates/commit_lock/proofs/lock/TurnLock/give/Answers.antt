use Rattle.std.proofs.Common.{rules}
use Rattle.commit_lock.proofs.Given.{filled_is}
use Rattle.commit_lock.proofs.lock.TurnLock.give.Goals as goal

pub end-requires : goal.end-requires
end-requires g c =
    let t = c.turn.invariant.0 in
    let me = filled_is t _ c.turn.inside.seat.me _ _ _ _ c.turn.invariant.1 c.turn.view_is c.fill.ensures.1 in
    (search rules, (t, c.args.turn, c.args.value, me, c.requires.lock, c.requires.list, c.requires.setting, c.requires.count))

pub returns : goal.returns
returns g c =
    let t = c.turn.invariant.0 in
    c.end.ensures t c.args.turn c.args.value (filled_is t _ c.turn.inside.seat.me _ _ _ _ c.turn.invariant.1 c.turn.view_is c.fill.ensures.1) c.requires.lock
