use Rattle.std.proofs.Common.{ap, ◌∙◌}
use Rattle.drawing.specs.Tables.{Tables, drawn}
use Rattle.read_set.specs.Drafted.{Drafted}
use Rattle.edge_heal.proofs.HealJoint.{meeting}
use Rattle.edge_heal.proofs.NewHealDrafts.{new_heal_after, new_heal_may}
use Rattle.edge_heal.proofs.heal_new.heal_new_draft.Goals as goal

pub heal_writes-requires-clause-meeting : goal.heal_writes-requires-clause-meeting
heal_writes-requires-clause-meeting g c = meeting (drawn c.args.tables.now.rows) c.args.first.now c.args.second.now c.args.node c.requires.ringed c.requires.joint

pub write_all-requires : goal.write_all-requires
write_all-requires g c =
    record {
      can = new_heal_may (drawn c.args.tables.now.rows) c.in_ok-draft.draft.rows c.args.tables.now.rows.edges c.args.first.now c.args.second.now c.args.node c.args.healed.now.id c.in_ok-writes.writes c.requires.ready c.requires.ringed c.requires.joint
          (ap (λ (d : Drafted). d.rows) c.in_ok-draft.ensures.copied ∙ c.requires.stands) (ap (λ (t : Tables). t.edges) c.requires.stands) c.requires.id c.in_ok-writes.ensures;
    }

pub returns-clause-rows : goal.returns-clause-rows
returns-clause-rows g c =
    new_heal_after (drawn c.args.tables.now.rows) c.in_ok-draft.draft.rows c.write_all.new.self.rows c.args.tables.now.rows.edges c.args.first.now c.args.second.now c.args.node c.args.healed.now.id c.in_ok-writes.writes
    c.requires.ringed c.requires.joint (ap (λ (d : Drafted). d.rows) c.in_ok-draft.ensures.copied ∙ c.requires.stands) (ap (λ (t : Tables). t.edges) c.requires.stands) c.requires.id c.in_ok-writes.ensures
    (ap (λ (d : Drafted). d.rows) c.in_ok-write_all.ensures.made)
