use Rattle.std.proofs.Common.{rules, ◌∷◌, Some, sym, ap, ◌∙◌}
use Rattle.atomic_table.specs.Table.{rest}
use Rattle.commit_lock.specs.Views.{view_of}
use Rattle.commit_lock.specs.declared.view.Stage.TheVariants.{Waits}
use Rattle.commit_lock.proofs.Given.{pass_is, draws_as}
use Rattle.commit_lock.proofs.lock.TurnLock.take.Goals as goal

pub fetch_add-ticket-requires : goal.fetch_add-ticket-requires
fetch_add-ticket-requires g c =
    let v = pass_is _ _ _ _ c.into_seat-seat.ensures.2 c.pass.invariant c.pass.view_is in
    let e = c.into_seat-seat.ensures.3 in
    (search rules, search rules, draws_as g.T.Chronicle.entries g.T.Chronicle.faults g.T.Chronicle.setting _ _ _ _ c.args.pass (λ i. (v i, e i)))

pub wait_turn-requires : goal.wait_turn-requires
wait_turn-requires g c =
    let v = pass_is _ _ _ _ c.into_seat-seat.ensures.2 c.pass.invariant c.pass.view_is in
    let e = c.into_seat-seat.ensures.3 in
    let d = c.fetch_add-ticket.ensures.2 in
    (search rules, (d.0, c.args.pass, d.1, d.2 ∙ (λ i. (view_of (v i).from (Waits d.0) (v i).lines (v i).told (v i).count (v i).faults, e i))))

pub exchange-requires : goal.exchange-requires
exchange-requires g c =
    let h = c.wait_turn.ensures.1.1 in
    let e = ap (λ m. m.1) h.me in
    (search rules, (Some h.value, e ∙ ap (λ x. (0, Some h.value) ∷ rest x) (sym e)))
