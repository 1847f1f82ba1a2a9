use Rattle.std.proofs.Common.{ap, ◌∙◌}
use Rattle.drawing.specs.Tables.{Tables, drawn}
use Rattle.read_set.specs.Drafted.{Drafted}
use Rattle.edge_split.proofs.SplitDrafts.{line_is_simple, mod_may, mod_rows}
use Rattle.edge_split.proofs.splitting.split_mod_draft.Goals as goal

pub mod_writes-requires-clause-simple : goal.mod_writes-requires-clause-simple
mod_writes-requires-clause-simple g c = line_is_simple (drawn c.args.tables.now.rows) c.args.row.now c.args.point c.requires.ringed c.requires.cut

pub write_all-requires : goal.write_all-requires
write_all-requires g c =
    let S = drawn c.args.tables.now.rows in
    record {
      can = mod_may S c.in_ok-draft.draft.rows c.args.tables.now.rows.edges c.args.row.now c.args.point c.args.parts.now.node c.args.parts.now.second c.in_ok-writes.writes c.requires.ready c.requires.ringed c.requires.cut
          (ap (λ (d : Drafted). d.rows) c.in_ok-draft.ensures.copied ∙ c.requires.stands) (ap (λ (t : Tables). t.edges) c.requires.stands) c.requires.node c.requires.second c.in_ok-writes.ensures;
    }

pub returns-clause-rows : goal.returns-clause-rows
returns-clause-rows g c =
    let S = drawn c.args.tables.now.rows in
    mod_rows S c.in_ok-draft.draft.rows c.write_all.new.self.rows c.args.tables.now.rows.edges c.args.row.now c.args.point c.args.parts.now.node c.args.parts.now.second c.in_ok-writes.writes c.requires.ringed c.requires.cut
    (ap (λ (d : Drafted). d.rows) c.in_ok-draft.ensures.copied ∙ c.requires.stands) (ap (λ (t : Tables). t.edges) c.requires.stands) c.requires.node c.requires.second c.in_ok-writes.ensures
    (ap (λ (d : Drafted). d.rows) c.in_ok-write_all.ensures.made)
