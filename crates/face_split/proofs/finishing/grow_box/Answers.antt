use Rattle.std.proofs.Common.{List, ◌++◌, ap, ◌∙◌}
use Rattle.topo_base.specs.declared.write.RowWrite.{RowWrite}
use Rattle.drawing.specs.Tables.{drawn, face_box}
use Rattle.face_boxes.specs.Bounds.{box_write}
use Rattle.read_set.specs.Drafted.{Drafted}
use Rattle.face_split.proofs.GrownBox.{grown_is, may_grow}
use Rattle.face_split.proofs.finishing.grow_box.Goals as goal

pub write_all-requires : goal.write_all-requires
write_all-requires g c =
    let is = c.in_ok-push_box.ensures ∙ ap (λ (ws : List RowWrite). ws ++ box_write c.args.face (face_box (drawn c.tables.result.now.rows) c.args.face)) c.new-writes.ensures in
    record { can = may_grow c.args.face c.args.draft.now.rows c.tables.result.now.rows c.push_box.new.writes c.requires is }

pub returns-clause-rows : goal.returns-clause-rows
returns-clause-rows g c S a b line added =
    let is = c.in_ok-push_box.ensures ∙ ap (λ (ws : List RowWrite). ws ++ box_write c.args.face (face_box (drawn c.tables.result.now.rows) c.args.face)) c.new-writes.ensures in
    grown_is S a b line c.args.face c.args.draft.now.rows c.tables.result.now.rows c.write_all.new.self.rows c.push_box.new.writes added c.tables.ensures is
    (ap (λ (d : Drafted). d.rows) c.in_ok-write_all.ensures.made)
