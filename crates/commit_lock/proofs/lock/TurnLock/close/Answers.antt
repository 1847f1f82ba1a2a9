use Rattle.std.proofs.Common.{ap}
use Rattle.commit_lock.specs.Passes.{LockValue}
use Rattle.commit_lock.proofs.Closing.{closed, never_empty, closed_at}
use Rattle.commit_lock.proofs.lock.TurnLock.close.Goals as goal

pub unreachable-requires : goal.unreachable-requires
unreachable-requires g c =
    let r = closed g.T.Chronicle.entries g.T.Chronicle.faults g.T.Chronicle.setting _ _ _ _ _ _ _ _ (ap (λ (l : LockValue). l.from) c.self.view_is) c.requires.all c.gather-seat.ensures.lines c.close_with-closed.ensures.values.2 c.take-slot.ensures.value in
    never_empty g.T.Chronicle.entries g.T.Chronicle.faults g.T.Chronicle.setting _ _ _ r c.in-None.is

pub returns-clause-grown : goal.returns-clause-grown
returns-clause-grown g c =
    let r = closed g.T.Chronicle.entries g.T.Chronicle.faults g.T.Chronicle.setting _ _ _ _ _ _ _ _ (ap (λ (l : LockValue). l.from) c.self.view_is) c.requires.all c.gather-seat.ensures.lines c.close_with-closed.ensures.values.2 c.take-slot.ensures.value in
    (closed_at g.T.Chronicle.entries g.T.Chronicle.faults g.T.Chronicle.setting _ _ _ _ r c.in-Some.is).grown

pub returns-clause-own : goal.returns-clause-own
returns-clause-own g c =
    let r = closed g.T.Chronicle.entries g.T.Chronicle.faults g.T.Chronicle.setting _ _ _ _ _ _ _ _ (ap (λ (l : LockValue). l.from) c.self.view_is) c.requires.all c.gather-seat.ensures.lines c.close_with-closed.ensures.values.2 c.take-slot.ensures.value in
    (closed_at g.T.Chronicle.entries g.T.Chronicle.faults g.T.Chronicle.setting _ _ _ _ r c.in-Some.is).own

pub returns-clause-numbers : goal.returns-clause-numbers
returns-clause-numbers g c =
    let r = closed g.T.Chronicle.entries g.T.Chronicle.faults g.T.Chronicle.setting _ _ _ _ _ _ _ _ (ap (λ (l : LockValue). l.from) c.self.view_is) c.requires.all c.gather-seat.ensures.lines c.close_with-closed.ensures.values.2 c.take-slot.ensures.value in
    (closed_at g.T.Chronicle.entries g.T.Chronicle.faults g.T.Chronicle.setting _ _ _ _ r c.in-Some.is).numbers

pub returns-clause-seen : goal.returns-clause-seen
returns-clause-seen g c =
    let r = closed g.T.Chronicle.entries g.T.Chronicle.faults g.T.Chronicle.setting _ _ _ _ _ _ _ _ (ap (λ (l : LockValue). l.from) c.self.view_is) c.requires.all c.gather-seat.ensures.lines c.close_with-closed.ensures.values.2 c.take-slot.ensures.value in
    (closed_at g.T.Chronicle.entries g.T.Chronicle.faults g.T.Chronicle.setting _ _ _ _ r c.in-Some.is).seen

pub returns-clause-count : goal.returns-clause-count
returns-clause-count g c =
    let r = closed g.T.Chronicle.entries g.T.Chronicle.faults g.T.Chronicle.setting _ _ _ _ _ _ _ _ (ap (λ (l : LockValue). l.from) c.self.view_is) c.requires.all c.gather-seat.ensures.lines c.close_with-closed.ensures.values.2 c.take-slot.ensures.value in
    (closed_at g.T.Chronicle.entries g.T.Chronicle.faults g.T.Chronicle.setting _ _ _ _ r c.in-Some.is).count

pub returns-clause-setting : goal.returns-clause-setting
returns-clause-setting g c =
    let r = closed g.T.Chronicle.entries g.T.Chronicle.faults g.T.Chronicle.setting _ _ _ _ _ _ _ _ (ap (λ (l : LockValue). l.from) c.self.view_is) c.requires.all c.gather-seat.ensures.lines c.close_with-closed.ensures.values.2 c.take-slot.ensures.value in
    (closed_at g.T.Chronicle.entries g.T.Chronicle.faults g.T.Chronicle.setting _ _ _ _ r c.in-Some.is).same_setting
