use Rattle.std.proofs.Common.{◌≡◌, ℕ, List, [], IfErr, refl, sym, ◌∙◌, subst}
use Rattle.std.proofs.lemmas.Result.{IfOk-weaker, IfErr-weaker}
use Rattle.history_model.specs.Journal.{IsBadAt, IsNoJournalYet}
use Rattle.topo_desk.specs.Boarded.{bounds_of}
use Rattle.topo_recover.specs.declared.end.RecoverEnd.TheVariants.{NoJournal}
use Rattle.topo_recover.specs.declared.header.Header.{Header}
use Rattle.topo_recover.specs.Reached.{IsReadTo, IsHeader}
use Rattle.topo_recover.specs.Recovered.{IsKept}
use Rattle.topo_recover.proofs.Gates.{bad_at}
use Rattle.topo_recover.proofs.Endings.{kept_seen, kept_new}
use Rattle.topo_recover.proofs.recovery.recover.Goals as goal

pub resume-requires-clause-read : goal.resume-requires-clause-read
resume-requires-clause-read g c told =
    let D = g.D.Disk in let m = bounds_of c.args.limits in
    let header = subst (λ (h : Header). IsHeader h (D.seen c.size.new.self.disk)) c.in-Ok-Open.field-0-is (c.in-Ok-Open.ensures.header told) in
    subst (λ (l : List ℕ). IsReadTo m l 7 []) (sym (c.in-Ok-Open.ensures.seen told)) (header m)

pub returns-in-Ok-NotYet-clause-kept : goal.returns-in-Ok-NotYet-clause-kept
returns-in-Ok-NotYet-clause-kept g c told =
    let D = g.D.Disk in let m = bounds_of c.args.limits in let disk = c.args.disk in let begun = c.read_header.new.begun in
    let called = c.in-Ok-NotYet.ensures.start.0 ∙ c.in-Ok-size.ensures.start.0 ∙ c.in-Ok.ensures.start.0 in
    let synced = c.in-Ok-NotYet.ensures.start.1 ∙ c.in-Ok-size.ensures.start.1 ∙ c.in-Ok.ensures.start.1 in
    let header = subst (λ (h : Header). IsHeader h (D.seen c.size.new.self.disk)) c.in-Ok-NotYet.field-0-is (c.in-Ok-NotYet.ensures.header told) in
    let yet : IsNoJournalYet (D.seen disk) = subst IsNoJournalYet (c.in-Ok-size.ensures.seen told ∙ c.in-Ok.ensures.seen told) header in
    IfOk-weaker c.make.result _ _
    (λ desk since. kept_new D.pending D.moment D.seen D.may_leave D.left_since m disk c.in-Ok.begun.disk begun.called.was begun.synced.was desk.journal.disk called synced (c.in-Ok.ensures.any_moment told).later yet since)
    (c.make.ensures.kept told m)

pub returns-in-Ok-NotYet-clause-kept_err : goal.returns-in-Ok-NotYet-clause-kept_err
returns-in-Ok-NotYet-clause-kept_err g c told =
    let D = g.D.Disk in let m = bounds_of c.args.limits in let disk = c.args.disk in let begun = c.read_header.new.begun in
    let called = c.in-Ok-NotYet.ensures.start.0 ∙ c.in-Ok-size.ensures.start.0 ∙ c.in-Ok.ensures.start.0 in
    let synced = c.in-Ok-NotYet.ensures.start.1 ∙ c.in-Ok-size.ensures.start.1 ∙ c.in-Ok.ensures.start.1 in
    let header = subst (λ (h : Header). IsHeader h (D.seen c.size.new.self.disk)) c.in-Ok-NotYet.field-0-is (c.in-Ok-NotYet.ensures.header told) in
    let yet : IsNoJournalYet (D.seen disk) = subst IsNoJournalYet (c.in-Ok-size.ensures.seen told ∙ c.in-Ok.ensures.seen told) header in
    IfErr-weaker c.make.result _ _
    (λ e since. kept_new D.pending D.moment D.seen D.may_leave D.left_since m disk c.in-Ok.begun.disk begun.called.was begun.synced.was e.1 called synced (c.in-Ok.ensures.any_moment told).later yet since)
    (c.make.ensures.kept_err told m)

pub returns-in-Ok-Open-clause-bad : goal.returns-in-Ok-Open-clause-bad
returns-in-Ok-Open-clause-bad g c told =
    let D = g.D.Disk in let m = bounds_of c.args.limits in
    let seen = c.in-Ok-Open.ensures.seen told ∙ c.in-Ok-size.ensures.seen told ∙ c.in-Ok.ensures.seen told in
    subst (λ (l : List ℕ). IfErr c.resume.result (λ e. (offset : ℕ) → e.0 ≡ NoJournal offset → IsBadAt m l offset)) seen (c.resume.ensures.bad told)

pub returns-in-Ok-Open-clause-kept : goal.returns-in-Ok-Open-clause-kept
returns-in-Ok-Open-clause-kept g c told =
    let D = g.D.Disk in let m = bounds_of c.args.limits in let disk = c.args.disk in let begun = c.read_header.new.begun in
    let called = c.in-Ok-Open.ensures.start.0 ∙ c.in-Ok-size.ensures.start.0 ∙ c.in-Ok.ensures.start.0 in
    let synced = c.in-Ok-Open.ensures.start.1 ∙ c.in-Ok-size.ensures.start.1 ∙ c.in-Ok.ensures.start.1 in
    let seen = c.in-Ok-Open.ensures.seen told ∙ c.in-Ok-size.ensures.seen told ∙ c.in-Ok.ensures.seen told in
    IfOk-weaker c.resume.result _ _
    (λ desk u. kept_seen D.pending D.moment D.seen D.may_leave D.left_since m disk c.in-Ok.begun.disk begun.called.was begun.synced.was desk.journal.disk (D.seen begun.disk) called synced (c.in-Ok.ensures.any_moment told).later seen u)
    (c.resume.ensures.unwritten told)

pub returns-in-Ok-Open-clause-kept_err : goal.returns-in-Ok-Open-clause-kept_err
returns-in-Ok-Open-clause-kept_err g c told =
    let D = g.D.Disk in let m = bounds_of c.args.limits in let disk = c.args.disk in let begun = c.read_header.new.begun in
    let called = c.in-Ok-Open.ensures.start.0 ∙ c.in-Ok-size.ensures.start.0 ∙ c.in-Ok.ensures.start.0 in
    let synced = c.in-Ok-Open.ensures.start.1 ∙ c.in-Ok-size.ensures.start.1 ∙ c.in-Ok.ensures.start.1 in
    let seen = c.in-Ok-Open.ensures.seen told ∙ c.in-Ok-size.ensures.seen told ∙ c.in-Ok.ensures.seen told in
    IfErr-weaker c.resume.result _ _
    (λ e u. kept_seen D.pending D.moment D.seen D.may_leave D.left_since m disk c.in-Ok.begun.disk begun.called.was begun.synced.was e.1 (D.seen begun.disk) called synced (c.in-Ok.ensures.any_moment told).later seen u)
    (c.resume.ensures.unwritten_err told)

pub returns-in-Ok-Bad-clause-bad : goal.returns-in-Ok-Bad-clause-bad
returns-in-Ok-Bad-clause-bad g c told offset same =
    let D = g.D.Disk in let m = bounds_of c.args.limits in
    let header = subst (λ (h : Header). IsHeader h (D.seen c.size.new.self.disk)) c.in-Ok-Bad.field-0-is (c.in-Ok-Bad.ensures.header told) in
    bad_at m (D.seen c.args.disk) 0 offset (subst (λ (l : List ℕ). IsBadAt m l 0) (c.in-Ok-size.ensures.seen told ∙ c.in-Ok.ensures.seen told) (header m)) same

pub returns-in-Ok-Bad-clause-kept_err : goal.returns-in-Ok-Bad-clause-kept_err
returns-in-Ok-Bad-clause-kept_err g c told =
    let D = g.D.Disk in let m = bounds_of c.args.limits in let disk = c.args.disk in let begun = c.read_header.new.begun in
    let called = c.in-Ok-Bad.ensures.start.0 ∙ c.in-Ok-size.ensures.start.0 ∙ c.in-Ok.ensures.start.0 in
    let synced = c.in-Ok-Bad.ensures.start.1 ∙ c.in-Ok-size.ensures.start.1 ∙ c.in-Ok.ensures.start.1 in
    let seen = c.in-Ok-Bad.ensures.seen told ∙ c.in-Ok-size.ensures.seen told ∙ c.in-Ok.ensures.seen told in
    subst (IsKept D.pending D.moment D.seen D.may_leave D.left_since m disk) (sym c.into_disk-in-Ok-Bad.ensures)
    (kept_seen D.pending D.moment D.seen D.may_leave D.left_since m disk c.in-Ok.begun.disk begun.called.was begun.synced.was begun.disk (D.seen begun.disk) called synced (c.in-Ok.ensures.any_moment told).later seen
    (record { before = begun.started told; reads = refl; leaves = begun.since told }))

pub returns-in-Err-read_header-clause-kept_err : goal.returns-in-Err-read_header-clause-kept_err
returns-in-Err-read_header-clause-kept_err g c told =
    let D = g.D.Disk in let m = bounds_of c.args.limits in let disk = c.args.disk in let begun = c.read_header.new.begun in
    let called = c.in-Err-read_header.ensures.start.0 ∙ c.in-Ok-size.ensures.start.0 ∙ c.in-Ok.ensures.start.0 in
    let synced = c.in-Err-read_header.ensures.start.1 ∙ c.in-Ok-size.ensures.start.1 ∙ c.in-Ok.ensures.start.1 in
    let seen = c.in-Err-read_header.ensures.seen told ∙ c.in-Ok-size.ensures.seen told ∙ c.in-Ok.ensures.seen told in
    subst (IsKept D.pending D.moment D.seen D.may_leave D.left_since m disk) (sym c.into_disk-in-Err-read_header.ensures)
    (kept_seen D.pending D.moment D.seen D.may_leave D.left_since m disk c.in-Ok.begun.disk begun.called.was begun.synced.was begun.disk (D.seen begun.disk) called synced (c.in-Ok.ensures.any_moment told).later seen
    (record { before = begun.started told; reads = refl; leaves = begun.since told }))
