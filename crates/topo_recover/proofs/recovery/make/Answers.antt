use Rattle.std.proofs.Common.{◌≤◌, ⊎_elim, inl, inr, refl, arith}
use Rattle.topo_journal.specs.Kept.{start_of}
use Rattle.topo_recover.proofs.Endings.{never, made_stands, since_unmade}
use Rattle.topo_recover.proofs.recovery.make.Goals as goal

pub returns-in-Ok-clause-kept : goal.returns-in-Ok-clause-kept
returns-in-Ok-clause-kept g c told m =
    let D = g.D.Disk in let begun = c.args.begun in let journal = c.in-Ok.journal in
    let before = journal.started told in
    let now = g.met.D.Disk.counts_now journal.disk (start_of D.pending D.moment journal.called.was journal.synced.was) (D.seen journal.disk) told before (g.met.D.Disk.leaves_seen journal.disk told) in
    let stands = made_stands D.pending D.moment D.seen D.left_since m begun.called.was journal.disk begun.called.was begun.synced.was journal.called.was journal.synced.was
    c.in-Ok.ensures.start.0 c.in-Ok.ensures.start.1 (c.requires.later told) before now (c.in-Ok.ensures.since_start told never) in
    rw c.of.ensures.1 stands

pub returns-in-Err-clause-kept_err : goal.returns-in-Err-clause-kept_err
returns-in-Err-clause-kept_err g c told m =
    let D = g.D.Disk in let begun = c.args.begun in let disk = c.in-Err.disk in
    let start = start_of D.pending D.moment begun.called.was begun.synced.was in
    let moments = c.in-Err.ensures.any_moment_err told never in
    let before : start ≤ D.moment disk = omega (arith, begun.started told, moments.later) in
    let now = g.met.D.Disk.counts_now disk start (D.seen disk) told before (g.met.D.Disk.leaves_seen disk told) in
    made_stands D.pending D.moment D.seen D.left_since m begun.called.was disk begun.called.was begun.synced.was begun.called.was begun.synced.was refl refl (c.requires.later told) before now
    (λ f left. since_unmade (D.seen begun.disk) f (c.requires.not_yet told) (⊎_elim (λ was. inl (begun.since told f was)) (λ stands. inr stands) (moments.before start f (begun.started told) left)))
