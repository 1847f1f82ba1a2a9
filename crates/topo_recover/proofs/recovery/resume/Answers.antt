use Rattle.std.proofs.Common.{◌<◌, ℕ, List, length, take, sym, ◌∙◌, ap, subst, arith}
use Rattle.history_model.specs.Answers.{Bounds}
use Rattle.history_model.specs.Journal.{StandsFor}
use Rattle.topo_journal.specs.Kept.{IsFront, IsClosedAfter, history as bodies_in}
use Rattle.topo_desk.specs.Boarded.{Boarded}
use Rattle.topo_recover.proofs.Gates.{adopts, stands_here}
use Rattle.topo_recover.proofs.recovery.resume.Goals as goal

pub adopt-requires : goal.adopt-requires
adopt-requires g c told =
    let bytes = g.D.Disk.seen c.args.begun.disk in let gate = c.in-Ok.gate in
    let within : gate < length bytes = omega (arith, c.in-Ok.ensures.within, c.requires.size told) in
    let found = adopts c.empty-board.result.bounds bytes gate c.enter_all.new.board.history (c.in-Ok.ensures.read told) within (c.in-Ok.ensures.shut told) in
    subst (λ (l : List ℕ). IsFront (take gate l) × IsClosedAfter (take gate l) l) (sym (c.in-Ok.ensures.seen told)) (found.0, found.1)

pub of-requires-clause-stands : goal.of-requires-clause-stands
of-requires-clause-stands g c told =
    let bytes = g.D.Disk.seen c.args.begun.disk in let gate = c.in-Ok.gate in
    let within : gate < length bytes = omega (arith, c.in-Ok.ensures.within, c.requires.size told) in
    let found = adopts c.empty-board.result.bounds bytes gate c.enter_all.new.board.history (c.in-Ok.ensures.read told) within (c.in-Ok.ensures.shut told) in
    rw (c.adopt.ensures.gate.0, c.adopt.ensures.disk) (ap (bodies_in gate) (c.in-Ok.ensures.seen told) ∙ found.2)

pub returns-in-Ok-clause-history : goal.returns-in-Ok-clause-history
returns-in-Ok-clause-history g c told =
    let bytes = g.D.Disk.seen c.args.begun.disk in let gate = c.in-Ok.gate in
    let within : gate < length bytes = omega (arith, c.in-Ok.ensures.within, c.requires.size told) in
    let stands = stands_here c.empty-board.result.bounds bytes gate c.enter_all.new.board.history (c.in-Ok.ensures.read told) within (c.in-Ok.ensures.shut told) in
    subst (λ (m : Bounds). StandsFor m bytes c.of.result.board.history) c.empty-board.ensures.bounds
    (subst (λ (b : Boarded). StandsFor c.empty-board.result.bounds bytes b.history) (sym c.of.ensures.0) stands)
