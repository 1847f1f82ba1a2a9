use Rattle.std.proofs.Common.{rules, ◌∙◌}
use Rattle.commit_lock.specs.Views.{told_view}
use Rattle.commit_lock.specs.Passes.{pass_line}
use Rattle.commit_lock.proofs.Given.{pass_is, note_is, learns_as, looks_as}
use Rattle.commit_lock.proofs.lock.TurnLock.learn.Goals as goal

pub join_seat-requires : goal.join_seat-requires
join_seat-requires g c =
    let v = pass_is _ _ _ _ c.into_seat-seat.ensures.2 c.pass.invariant c.pass.view_is in
    let w = note_is _ _ _ _ c.into_seat.ensures.2 c.note.invariant c.note.view_is in
    (search rules, search rules, search rules, search rules, learns_as g.T.Chronicle.entries g.T.Chronicle.faults g.T.Chronicle.setting _ _ _ c.args.pass _ _ c.args.note.from c.args.note.seen c.args.note.count v w)

pub load-requires : goal.load-requires
load-requires g c =
    let v = pass_is _ _ _ _ c.into_seat-seat.ensures.2 c.pass.invariant c.pass.view_is in
    let w = note_is _ _ _ _ c.into_seat.ensures.2 c.note.invariant c.note.view_is in
    let x = c.args.pass in
    let n = c.args.note in
    let me = c.join_seat.ensures.2 ∙ (λ i. (told_view (v i) (w i), c.into_seat-seat.ensures.3 i)) in
    (search rules, search rules, looks_as g.T.Chronicle.entries g.T.Chronicle.faults g.T.Chronicle.setting _ _ _ _ x.from (pass_line x) n.seen _ x.faults me)
