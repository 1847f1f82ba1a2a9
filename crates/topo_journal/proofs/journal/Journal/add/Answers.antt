use Rattle.std.proofs.Common.{arith, ◌+◌, ◌++◌, ◌∷◌, length, take, refl, inl, inr}
use Rattle.topo_journal.specs.Bytes.{frame}
use Rattle.topo_journal.specs.Kept.{IsClosedAfter, IsFramedAfter, body_in}
use Rattle.topo_journal.proofs.Steps.{joined}
use Rattle.topo_journal.proofs.Fronts.{front_more}
use Rattle.topo_journal.proofs.Calls.{on_err}
use Rattle.topo_journal.proofs.Sound.{gate_length, gate_more, closed_sound, closed_same, framed_sound, framed_same, framed_body}
use Rattle.topo_journal.proofs.journal.Journal.add.Goals as goal

pub invariant_of-self-in-Break-branch-2 : goal.invariant_of-self-in-Break-branch-2
invariant_of-self-in-Break-branch-2 g c = record {
  sound = λ told.
      let s = c.args.self.now.sound told in
      let front = take c.args.self.now.gate (g.D.Disk.seen c.args.self.now.disk) in
      let body = body_in c.args.framed.now in
      let at = gate_length _ _ s.within in
      let staged = c.in_ok-write_frame.ensures.ok told front body at c.requires.frame (s.sure c.requires.sure) in
      framed_sound front c.args.self.now.gate at s.front _ _ body (c.in_err-write_gate.ensures.err told front body at staged);
  started = λ told.
      let s = c.args.self.now.sound told in
      let front = take c.args.self.now.gate (g.D.Disk.seen c.args.self.now.disk) in
      let body = body_in c.args.framed.now in
      let at = gate_length _ _ s.within in
      let sure = s.sure c.requires.sure in
      let staged = c.in_ok-write_frame.ensures.ok told front body at c.requires.frame sure in
      omega (arith, c.args.self.now.started told, (c.in_ok-write_frame.ensures.any_moment told front at sure).later, (c.in_err-write_gate.ensures.any_moment told front body at staged).later);
  counted = omega (arith, c.args.self.now.counted, c.write_frame.ensures.cause.later, c.write_gate.ensures.cause.later);
  caused = λ _. omega (arith, c.args.self.now.counted, c.write_frame.ensures.cause.later, c.in_err-write_gate.ensures.cause.failed);
}

pub invariant_of-self-2-clause-started : goal.invariant_of-self-2-clause-started
invariant_of-self-2-clause-started g c told =
    let s = c.args.self.now.sound told in
    let front = take c.args.self.now.gate (g.D.Disk.seen c.args.self.now.disk) in
    let body = body_in c.args.framed.now in
    let at = gate_length _ _ s.within in
    let sure = s.sure c.requires.sure in
    let staged = c.in_ok-write_frame.ensures.ok told front body at c.requires.frame sure in
    omega (arith, c.args.self.now.started told, (c.in_ok-write_frame.ensures.any_moment told front at sure).later, (c.in_ok-write_gate.ensures.any_moment told front body at staged).later)

pub returns-in_err-write_gate-clause-front_err : goal.returns-in_err-write_gate-clause-front_err
returns-in_err-write_gate-clause-front_err g c told =
    let s = c.args.self.now.sound told in
    let front = take c.args.self.now.gate (g.D.Disk.seen c.args.self.now.disk) in
    let body = body_in c.args.framed.now in
    let at = gate_length _ _ s.within in
    let staged = c.in_ok-write_frame.ensures.ok told front body at c.requires.frame (s.sure c.requires.sure) in
    on_err c.from_residual-in_err-write_gate.result (framed_same front c.args.self.now.gate at s.front _ _ body (c.in_err-write_gate.ensures.err told front body at staged))

pub returns-in_err-write_gate-clause-body : goal.returns-in_err-write_gate-clause-body
returns-in_err-write_gate-clause-body g c told =
    let s = c.args.self.now.sound told in
    let front = take c.args.self.now.gate (g.D.Disk.seen c.args.self.now.disk) in
    let body = body_in c.args.framed.now in
    let at = gate_length _ _ s.within in
    let staged = c.in_ok-write_frame.ensures.ok told front body at c.requires.frame (s.sure c.requires.sure) in
    on_err c.from_residual-in_err-write_gate.result (λ _. framed_body front c.args.self.now.gate at s.front _ _ body (c.in_err-write_gate.ensures.err told front body at staged))

pub returns-in_err-write_gate-clause-any_moment : goal.returns-in_err-write_gate-clause-any_moment
returns-in_err-write_gate-clause-any_moment g c told =
    let D = g.D.Disk in
    let s = c.args.self.now.sound told in
    let front = take c.args.self.now.gate (D.seen c.args.self.now.disk) in
    let body = body_in c.args.framed.now in
    let at = gate_length _ _ s.within in
    let sure = s.sure c.requires.sure in
    let staged = c.in_ok-write_frame.ensures.ok told front body at c.requires.frame sure in
    joined D.moment D.left_since _ _ _ (IsClosedAfter front) (IsFramedAfter front body) _
    (c.in_ok-write_frame.ensures.any_moment told front at sure) (c.in_err-write_gate.ensures.any_moment told front body at staged) (λ f is. inl is) (λ f is. inr is)

pub invariant_of-self-2-clause-sound : goal.invariant_of-self-2-clause-sound
invariant_of-self-2-clause-sound g c told =
    let s = c.args.self.now.sound told in
    let front = take c.args.self.now.gate (g.D.Disk.seen c.args.self.now.disk) in
    let body = body_in c.args.framed.now in
    let at = gate_length _ _ s.within in
    let staged = c.in_ok-write_frame.ensures.ok told front body at c.requires.frame (s.sure c.requires.sure) in
    closed_sound (front ++ 1 ∷ frame body) (c.args.self.now.gate + length c.args.framed.now) (gate_more front c.args.self.now.gate c.args.framed.now at c.requires.frame)
    (front_more front body s.front).0 _ _ (c.in_ok-write_gate.ensures.opened refl told front body at staged)

pub returns-clause-front : goal.returns-clause-front
returns-clause-front g c told =
    let s = c.args.self.now.sound told in
    let front = take c.args.self.now.gate (g.D.Disk.seen c.args.self.now.disk) in
    let body = body_in c.args.framed.now in
    let at = gate_length _ _ s.within in
    let staged = c.in_ok-write_frame.ensures.ok told front body at c.requires.frame (s.sure c.requires.sure) in
    closed_same (front ++ 1 ∷ frame body) (c.args.self.now.gate + length c.args.framed.now) (gate_more front c.args.self.now.gate c.args.framed.now at c.requires.frame)
    (front_more front body s.front).0 _ _ (c.in_ok-write_gate.ensures.opened refl told front body at staged)

pub returns-clause-any_moment : goal.returns-clause-any_moment
returns-clause-any_moment g c told =
    let D = g.D.Disk in
    let s = c.args.self.now.sound told in
    let front = take c.args.self.now.gate (D.seen c.args.self.now.disk) in
    let body = body_in c.args.framed.now in
    let at = gate_length _ _ s.within in
    let sure = s.sure c.requires.sure in
    let staged = c.in_ok-write_frame.ensures.ok told front body at c.requires.frame sure in
    joined D.moment D.left_since _ _ _ (IsClosedAfter front) (IsFramedAfter front body) _
    (c.in_ok-write_frame.ensures.any_moment told front at sure) (c.in_ok-write_gate.ensures.any_moment told front body at staged) (λ f is. inl is) (λ f is. inr is)
