use Rattle.std.proofs.Common.{◌≡◌, ◌<◌, ◌≤◌, ◌+◌, ◌-◌, length, arith, ap, refl, sym, ◌∙◌}
use Rattle.topo_base.specs.declared.answer.Answer.TheVariants.{Refused}
use Rattle.topo_base.specs.declared.rule.Rule.TheVariants.{IdsSpent, HistoryFull}
use Rattle.topo_desk.specs.Boarded.{Boarded}
use Rattle.topo_desk.proofs.Entering.{spent_on, full_on, legal_fits}
use Rattle.topo_desk.proofs.Boards.{readied_on, board_at, any_on}
use Rattle.topo_desk.proofs.board.Board.screen.Goals as goal

pub returns-then-any_beyond-clause-refused : goal.returns-then-any_beyond-clause-refused
returns-then-any_beyond-clause-refused c =
    let b = c.args.self.now in let p = c.args.edited in let v = c.self.inside in
    let is = board_at _ b v.tables.rows v.journal_bytes c.self.view_is c.self.invariant in
    let any = any_on _ b p.writes p.writes c.as_slice.result.now c.any_beyond.result c.self.view_is refl c.as_slice.ensures c.any_beyond.ensures in
    spent_on b.bounds b.history (record { editor = c.args.editor; edit = c.args.edit }) p.writes p.ids (record { legal = is.legal; planned = c.requires.planned }) (any ∙ c.if-any_beyond.true)
    ∙ ap (λ n. Refused IdsSpent n) (ap (λ (w : Boarded). length w.history) (sym c.self.view_is) ∙ sym c.len-front.ensures)

pub returns-then-self-frame_len-clause-refused : goal.returns-then-self-frame_len-clause-refused
returns-then-self-frame_len-clause-refused c =
    let b = c.args.self.now in let p = c.args.edited in let v = c.self.inside in
    let is = board_at _ b v.tables.rows v.journal_bytes c.self.view_is c.self.invariant in
    let any = any_on _ b p.writes p.writes c.as_slice.result.now c.any_beyond.result c.self.view_is refl c.as_slice.ensures c.any_beyond.ensures in
    let over : v.limits.max_journal - v.journal_bytes < c.frame_len.result = c.if-self-frame_len.true in
    let top : b.bounds.max_journal ≡ v.limits.max_journal = ap (λ (w : Boarded). w.bounds.max_journal) (sym c.self.view_is) in
    let full : b.bounds.max_journal < v.journal_bytes + c.frame_len.result = omega (arith, over, top) in
    full_on b.bounds b.history (record { editor = c.args.editor; edit = c.args.edit }) p.writes p.ids (record { legal = is.legal; planned = c.requires.planned })
    v.journal_bytes c.frame_len.result c.in_ok-prepared.prepared.frame.items is.long c.in_ok-prepared.ensures.frame c.frame_len.ensures (any ∙ c.if-any_beyond.false) full
    ∙ ap (λ n. Refused HistoryFull n) (ap (λ (w : Boarded). length w.history) (sym c.self.view_is) ∙ sym c.len-front.ensures)

pub returns-clause-readied : goal.returns-clause-readied
returns-clause-readied c =
    let b = c.args.self.now in let p = c.args.edited in let v = c.self.inside in let made = c.in_ok-prepared.prepared in
    let is = board_at _ b v.tables.rows v.journal_bytes c.self.view_is c.self.invariant in
    let any = any_on _ b p.writes p.writes c.as_slice.result.now c.any_beyond.result c.self.view_is refl c.as_slice.ensures c.any_beyond.ensures in
    let short : c.frame_len.result ≤ v.limits.max_journal - v.journal_bytes = c.if-self-frame_len.false in
    let top : b.bounds.max_journal ≡ v.limits.max_journal = ap (λ (w : Boarded). w.bounds.max_journal) (sym c.self.view_is) in
    let is_short = legal_fits b.bounds b.history is.legal in
    let first = readied_on b c.args.editor c.args.edit made.entry p.writes made.writes p.ids made.ids made.frame.items v.journal_bytes c.frame_len.result is.legal in
    first c.in_ok-prepared.ensures.spelled c.requires.planned c.in_ok-prepared.ensures.entry c.in_ok-prepared.ensures.writes c.in_ok-prepared.ensures.ids c.in_ok-prepared.ensures.frame
    is.long c.frame_len.ensures (any ∙ c.if-any_beyond.false) (omega (arith, short, top, is_short, is.long))
