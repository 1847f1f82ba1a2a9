use Rattle.std.proofs.Common.{◌⊎◌, inl, inr, ⊎_elim, [], List, ℕ, take, ◌∙◌, ap, subst}
use Rattle.std.proofs.lemmas.Result.{on_ok_weaker, on_err_weaker}
use Rattle.topo_disk.specs.Disk.{LeavesOnly}
use Rattle.topo_journal.specs.Kept.{IsClosedAfter, IsFramedAfter, body_in, bodies_of, doubted}
use Rattle.topo_journal.proofs.Reading.{follow_front}
use Rattle.topo_journal.proofs.Steps.{joined, weaker}
use Rattle.topo_journal.proofs.Calls.{on_err}
use Rattle.topo_journal.proofs.Images.{on_ok_both, images_at, sure_images, mending_stands, adding_stands, history_more}
use Rattle.topo_journal.proofs.journal.Journal.append.Goals as goal

pub returns-in_err-mend-clause-any_moment : goal.returns-in_err-mend-clause-any_moment
returns-in_err-mend-clause-any_moment g c told legal are may =
    let D = g.D.Disk in
    let s = c.args.self.now.sound told in
    let front = take c.args.self.now.gate (D.seen c.args.self.now.disk) in
    let other = doubted c.args.self.now.gate (D.seen c.args.self.now.disk) in
    let are_before = follow_front legal [] (bodies_of front) (body_in c.args.framed.now) are in
    weaker D.moment D.left_since _ _ _ _ (c.in_err-mend.ensures.any_moment told)
    (λ f is. inl (mending_stands front s.front legal c.args.self.now.doubt other are_before may f is))

pub returns-in_err-mend-clause-unsure : goal.returns-in_err-mend-clause-unsure
returns-in_err-mend-clause-unsure g c told =
    on_err c.from_residual.result (images_at _ _ _ _ _ (ap bodies_of (c.mend.ensures.front told)) (c.mend.new.self.sound told))

pub returns-clause-entered : goal.returns-clause-entered
returns-clause-entered g c told =
    on_ok_weaker c.add.result (λ more. history_more _ _ _ (body_in c.args.framed.now) (c.mend.new.self.sound told).front (c.mend.ensures.front told) more) (c.add.ensures.front told)

pub returns-clause-any_moment : goal.returns-clause-any_moment
returns-clause-any_moment g c told legal are may =
    let D = g.D.Disk in
    let s = c.args.self.now.sound told in
    let front = take c.args.self.now.gate (D.seen c.args.self.now.disk) in
    let other = doubted c.args.self.now.gate (D.seen c.args.self.now.disk) in
    let body = body_in c.args.framed.now in
    let are_before = follow_front legal [] (bodies_of front) body are in
    let second = subst (λ (f : List ℕ). LeavesOnly D.moment D.left_since c.mend.new.self.disk c.add.new.self.disk (λ c'. IsClosedAfter f c' ⊎ IsFramedAfter f body c'))
    (c.mend.ensures.front told) (c.add.ensures.any_moment told) in
    joined D.moment D.left_since _ _ _ _ _ _ (c.in_ok-mend.ensures.any_moment told) second
    (λ f is. inl (mending_stands front s.front legal c.args.self.now.doubt other are_before may f is))
    (λ f is. ⊎_elim (λ h. inl (inl h)) (λ h. inr h) (adding_stands front s.front legal body are f is))

pub returns-clause-acknowledged : goal.returns-clause-acknowledged
returns-clause-acknowledged g c told =
    on_ok_both c.add.result c.add.ensures.sure (c.add.ensures.front told)
    (λ sure more. sure_images _ _ _ _ _ sure (history_more _ _ _ (body_in c.args.framed.now) (c.mend.new.self.sound told).front (c.mend.ensures.front told) more) (c.add.new.self.sound told))

pub returns-clause-unsure : goal.returns-clause-unsure
returns-clause-unsure g c told =
    on_err_weaker c.add.result (λ same. images_at _ _ _ _ _ (ap bodies_of (same ∙ c.mend.ensures.front told)) (c.add.new.self.sound told)) (c.add.ensures.front_err told)
