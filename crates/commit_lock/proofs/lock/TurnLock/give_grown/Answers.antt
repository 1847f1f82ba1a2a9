use Rattle.std.proofs.Common.{rules}
use Rattle.commit_lock.specs.Passes.{with_entry}
use Rattle.commit_lock.proofs.Given.{filled_is, grew_is, grows_as}
use Rattle.commit_lock.proofs.lock.TurnLock.give_grown.Goals as goal

pub fetch_add-requires : goal.fetch_add-requires
fetch_add-requires g c =
    let t = c.turn.invariant.0 in
    let e = c.requires.list in
    let me = filled_is t _ c.turn.inside.seat.me _ _ _ _ c.turn.invariant.1 c.turn.view_is c.fill.ensures.1 in
    (search rules, search rules, grows_as g.T.Chronicle.entries g.T.Chronicle.faults g.T.Chronicle.setting _ _ _ _ t c.args.turn c.args.value e.0 me e.1 e.2 c.requires.room)

pub end-requires : goal.end-requires
end-requires g c =
    let t = c.turn.invariant.0 in
    let e = c.requires.list in
    let me = filled_is t _ c.turn.inside.seat.me _ _ _ _ c.turn.invariant.1 c.turn.view_is c.fill.ensures.1 in
    (search rules, (t, with_entry c.args.turn e.0, c.args.value, grew_is g.T.Chronicle.entries t c.fetch_add.result _ _ c.args.turn c.args.value e.0 me c.fetch_add.ensures.2 e.1, c.requires.lock, e.1, c.requires.setting, c.requires.count))

pub returns : goal.returns
returns g c e more =
    let t = c.turn.invariant.0 in
    let me = filled_is t _ c.turn.inside.seat.me _ _ _ _ c.turn.invariant.1 c.turn.view_is c.fill.ensures.1 in
    c.end.ensures t (with_entry c.args.turn e) c.args.value (grew_is g.T.Chronicle.entries t c.fetch_add.result _ _ c.args.turn c.args.value e me c.fetch_add.ensures.2 more) c.requires.lock
