use Rattle.std.proofs.Common.{ap, ◌∙◌}
use Rattle.drawing.specs.Tables.{drawn, drawn_edge}
use Rattle.read_set.specs.Drafted.{Drafted}
use Rattle.face_merge.proofs.DroppedRows.{going, can_drop, rows_dropped}
use Rattle.face_merge.proofs.removing.drop_from_draft.Goals as goal

pub write_all-requires : goal.write_all-requires
write_all-requires g c =
    let t = c.args.tables.now.rows in
    let row = c.args.edge.now in
    record {
      can = can_drop (drawn t) c.in_ok-draft.draft.rows (drawn_edge row) c.in_ok-writes.writes
          (ap (λ (d : Drafted). d.rows) c.in_ok-draft.ensures.copied ∙ c.requires.stands) c.in_ok-writes.ensures.writes
          (going t row c.requires.plain c.requires.there c.in_ok-writes.ensures.start c.in_ok-writes.ensures.end);
    }

pub returns-clause-rows : goal.returns-clause-rows
returns-clause-rows g c =
    let t = c.args.tables.now.rows in
    let row = c.args.edge.now in
    rows_dropped (drawn t) c.in_ok-draft.draft.rows c.write_all.new.self.rows (drawn_edge row) c.in_ok-writes.writes
    (ap (λ (d : Drafted). d.rows) c.in_ok-draft.ensures.copied ∙ c.requires.stands) c.in_ok-writes.ensures.writes (ap (λ (d : Drafted). d.rows) c.in_ok-write_all.ensures.made)
    (going t row c.requires.plain c.requires.there c.in_ok-writes.ensures.start c.in_ok-writes.ensures.end)
