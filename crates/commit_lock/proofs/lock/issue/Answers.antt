use Rattle.std.proofs.Common.{rules, ◌≡◌, ◌+◌, ◌<◌, [], ◌∷◌, ◌++◌, length, sym, ap, ◌∙◌, arith}
use Rattle.commit_lock.specs.Passes.{new_pass}
use Rattle.commit_lock.proofs.Given.{issues_as, issuing_is, issued_is, length-new_passes, new_passes-snoc}
use Rattle.commit_lock.proofs.lock.issue.Goals as goal

pub split_seat-one-requires : goal.split_seat-one-requires
split_seat-one-requires g c =
    let i = c.loop.invariant in
    let lt = c.loop-test.true in
    let sum = i.me.1 in
    (i.table, search rules, issues_as g.T.Chronicle.entries g.T.Chronicle.faults g.T.Chronicle.setting _ _ _ _ (c.loop.counter + 1) i.me.0 _ _ _ (omega arith) (ap (λ u. u.0) i.me.2))

pub push_reserved-requires : goal.push_reserved-requires
push_reserved-requires g c =
    let i = c.loop.invariant in
    let lt = c.loop-test.true in
    let long = ap length i.items ∙ length-new_passes _ _ _ _ _ in
    let room = i.room in
    omega arith

pub loop-preserved : goal.loop-preserved
loop-preserved g c =
    let i = c.loop.invariant in
    let lt = c.loop-test.true in
    let sum = i.me.1 in
    let some_left : 0 < i.me.0 = omega arith in
    let s = c.split_seat-one.ensures in
    let left = issuing_is _ _ _ _ _ _ _ some_left i.me.2 s.2 in
    let number : 1 + c.loop.counter ≡ c.loop.counter + 1 = omega arith in
    let one = issued_is _ _ _ _ _ _ _ _ _ some_left (c.into_badge.ensures.0 ∙ (s.3 ∙ i.table)) c.into_badge.ensures.2 (ap (λ u. u.0) s.4) (ap (λ u. u.0) i.me.2) in
    record {
      table = s.0 ∙ i.table;
      room = search rules;
      items = c.push_reserved.ensures.items ∙ (λ k. i.items k ++ (one ∙ ap (new_pass _ _ _) (sym number)) k ∷ []) ∙ sym (new_passes-snoc _ _ _ 1 c.loop.counter);
      me = (left.0, (let l = left.1 in omega arith), left.2);
    }
