use Rattle.std.proofs.Common.{arith, sym, subst}
use Rattle.topo_desk.specs.Boarded.{Boarded}
use Rattle.topo_desk.specs.Prepared.{IsReadied}
use Rattle.topo_desk.proofs.Boards.{bytes_fit, board_more}
use Rattle.topo_desk.proofs.board.Board.settle.Goals as goal

pub overflow_add-self : goal.overflow_add-self
overflow_add-self g c =
    let b = c.self.inside in let p = c.args.prepared in
    let ready = subst (λ (v : Boarded). IsReadied v p.entry p.writes p.ids p.frame.items) (sym c.self.view_is) c.requires.readied in
    let fits = bytes_fit _ b.tables.rows p.entry p.writes p.ids p.frame.items b.journal_bytes c.frame_len.result c.self.invariant ready c.frame_len.ensures in
    omega (arith, fits)

pub invariant_of-self : goal.invariant_of-self
invariant_of-self g c =
    let b = c.self.inside in let p = c.args.prepared in
    let ready = subst (λ (v : Boarded). IsReadied v p.entry p.writes p.ids p.frame.items) (sym c.self.view_is) c.requires.readied in
    board_more _ b.tables.rows p.entry p.writes p.ids p.frame.items b.journal_bytes c.frame_len.result c.self.invariant ready c.frame_len.ensures
    c.write_all.new.self.rows c.push.new.self.entries c.write_all.ensures.rows c.push.ensures
