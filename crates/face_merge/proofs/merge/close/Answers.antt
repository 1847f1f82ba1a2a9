use Rattle.std.proofs.Common.{sym, subst, ap, ◌∙◌, List}
use Rattle.topo_base.specs.declared.write.RowWrite.{RowWrite}
use Rattle.drawing.specs.Tables.{Tables, drawn, face_box}
use Rattle.drawing.specs.Writable.{CanWriteAll}
use Rattle.face_merge.specs.Last.{last_writes}
use Rattle.face_merge.proofs.MergedBoxes.{rows_can}
use Rattle.face_merge.proofs.merge.close.Goals as goal

pub write_all-requires : goal.write_all-requires
write_all-requires g c =
    let t = c.args.draft.now.rows in
    let is = c.in_ok-writes.ensures.writes ∙ ap (λ (u : Tables). last_writes u c.args.kept c.args.gone.now) c.tables.ensures in
    record { can = subst (λ (ws : List RowWrite). CanWriteAll t.next_ids t ws) (sym is) (rows_can t.next_ids t c.args.gone.now c.args.kept (face_box (drawn t) c.args.kept) c.requires.there c.requires.may_go) }
