use Rattle.std.proofs.Common.{◌≡◌, ◌⊎◌, ◌<◌, ◌+◌, ◌^◌, [], List, ℕ, Bool, true, length, arith, ap, sym, subst, ◌∙◌}
use Rattle.std.proofs.lemmas.Bool.{false≢true}
use Rattle.history_model.specs.Legal.{journal_length}
use Rattle.topo_journal.specs.Kept.{IsFrame, body_in, history, doubted}
use Rattle.topo_journal.specs.Entries.{spellings}
use Rattle.topo_journal.proofs.Reading.{always_follow}
use Rattle.topo_journal.proofs.Steps.{weaker}
use Rattle.topo_desk.proofs.Moments.{every, moment_stands}
use Rattle.topo_desk.proofs.Desks.{frame_ready, gate_after, gate_room, doubt_after, spellings_more}
use Rattle.entry_codec.proofs.EditLaws.{entries_read}
use Rattle.topo_desk.proofs.desk.Desk.enter.Goals as goal

-- the body of this frame, or the one that was in doubt
abbrev IsOneOf : List ℕ → List ℕ → Bool → List ℕ → Type 0
IsOneOf now framed was other = (now ≡ body_in framed) ⊎ ((was ≡ true) × (now ≡ other))

pub append-requires-clause-frame : goal.append-requires-clause-frame
append-requires-clause-frame g c =
    let d = c.args.self.now in let p = c.args.prepared in
    subst IsFrame (sym c.frame.ensures) (frame_ready d.board p.entry p.writes p.ids p.frame.items c.requires.readied d.small).0

pub append-requires-clause-room : goal.append-requires-clause-room
append-requires-clause-room g c =
    let d = c.args.self.now in let p = c.args.prepared in
    subst (λ (l : List ℕ). d.journal.gate + length l + 1 < 2 ^ 64) (sym c.frame.ensures)
    (gate_room d.board p.entry p.writes p.ids p.frame.items c.requires.readied d.journal.gate d.gate d.small)

-- with the entry
pub invariant_of-self : goal.invariant_of-self
invariant_of-self g c =
    let D = g.D.Disk in let d = c.args.self.now in let p = c.args.prepared in let now = c.append.new.self in
    let pushed = c.settle.ensures.history in
    let size : length c.frame.result.now ≡ length p.frame.items = ap length c.frame.ensures in
    record {
      small = omega (arith, d.small, ap (λ m. m.max_journal) c.settle.ensures.bounds);
      gate = ap (λ (n : ℕ). n + 1) (c.in-Ok.ensures.gate ∙ ap (λ (n : ℕ). d.journal.gate + n) size)
          ∙ gate_after d.board p.entry p.writes p.ids p.frame.items c.requires.readied d.journal.gate d.gate ∙ ap journal_length (sym pushed);
      stands = λ told.
          let is = (frame_ready d.board p.entry p.writes p.ids p.frame.items c.requires.readied d.small).1 in
          spellings_more d.board.history p.entry (history d.journal.gate (D.seen d.journal.disk)) (history now.gate (D.seen now.disk)) (body_in c.frame.result.now)
          (d.stands told) (ap body_in c.frame.ensures ∙ is) (c.in-Ok.ensures.entered told) ∙ ap spellings (sym pushed);
      doubted = λ told doubt. absurd (false≢true (sym c.in-Ok.ensures.sure ∙ doubt));
    }

-- without it
pub invariant_of-self-in-Err : goal.invariant_of-self-in-Err
invariant_of-self-in-Err g c =
    let D = g.D.Disk in let d = c.args.self.now in let p = c.args.prepared in let now = c.append.new.self in
    record {
      small = d.small;
      gate = ap (λ (n : ℕ). n + 1) c.in-Err.ensures.gate_err ∙ d.gate;
      stands = λ told. c.in-Err.ensures.as_before told ∙ d.stands told;
      doubted = λ told doubt.
          doubt_after d.board p.entry p.writes p.ids p.frame.items c.requires.readied entries_read (doubted now.gate (D.seen now.disk)) (doubted d.journal.gate (D.seen d.journal.disk)) d.journal.doubt
          d.small (d.doubted told)
          (subst (λ (l : List ℕ). IsOneOf (doubted now.gate (D.seen now.disk)) l d.journal.doubt (doubted d.journal.gate (D.seen d.journal.disk))) c.frame.ensures (c.in-Err.ensures.doubt told doubt));
    }

-- while it is appended
pub returns-in-Ok-clause-any_moment : goal.returns-in-Ok-clause-any_moment
returns-in-Ok-clause-any_moment g c told =
    let D = g.D.Disk in let d = c.args.self.now in let p = c.args.prepared in
    let ready = c.requires.readied in
    let is = (frame_ready d.board p.entry p.writes p.ids p.frame.items ready d.small).1 in
    weaker D.moment D.left_since _ _ _ _ (c.append.ensures.any_moment told every (always_follow [] _) (λ _. always_follow [] _))
    (λ f given bytes. moment_stands d.board.bounds d.small d.board.history c.see_legal.ensures.spelled c.see_legal.ensures.legal f bytes entries_read p.entry (body_in c.frame.result.now)
    (doubted d.journal.gate (D.seen d.journal.disk)) d.journal.doubt (history d.journal.gate (D.seen d.journal.disk)) ready.spelled ready.legal (ap body_in c.frame.ensures ∙ is)
    (d.doubted told) (d.stands told) given)

pub returns-in-Err-clause-any_moment : goal.returns-in-Err-clause-any_moment
returns-in-Err-clause-any_moment g c told =
    let D = g.D.Disk in let d = c.args.self.now in let p = c.args.prepared in
    let ready = c.requires.readied in
    let is = (frame_ready d.board p.entry p.writes p.ids p.frame.items ready d.small).1 in
    weaker D.moment D.left_since _ _ _ _ (c.append.ensures.any_moment told every (always_follow [] _) (λ _. always_follow [] _))
    (λ f given bytes. moment_stands d.board.bounds d.small d.board.history c.see_legal.ensures.spelled c.see_legal.ensures.legal f bytes entries_read p.entry (body_in c.frame.result.now)
    (doubted d.journal.gate (D.seen d.journal.disk)) d.journal.doubt (history d.journal.gate (D.seen d.journal.disk)) ready.spelled ready.legal (ap body_in c.frame.ensures ∙ is)
    (d.doubted told) (d.stands told) given)
