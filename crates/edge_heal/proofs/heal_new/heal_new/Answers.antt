use Rattle.drawing.specs.Tables.{drawn, drawn_edge}
use Rattle.edge_heal.proofs.NewHealDrafts.{knows_healed, new_heal_edited}
use Rattle.edge_heal.proofs.heal_new.heal_new.Goals as goal

pub follow_both-requires : goal.follow_both-requires
follow_both-requires g c =
    knows_healed (drawn c.args.tables.now.rows) c.in_ok-draft.draft.rows (drawn_edge c.args.first.now) (drawn_edge c.args.second.now) c.args.node c.requires.ready c.in_ok-draft.ensures.rows

pub returns : goal.returns
returns g c =
    let S = drawn c.args.tables.now.rows in
    let healed = c.healed_anew-healed.result in
    let is = c.healed_anew-healed.ensures in
    new_heal_edited S c.args.first.now c.args.second.now c.args.node c.in_ok-draft.draft.rows (record { draft = c.follow_both.new.draft; ids = c.edge_and_node-ids.result }) healed.first healed.second healed.id
    c.requires.ringed c.requires.joint (c.in_ok-follow_both.ensures.drafted S c.in_ok-draft.ensures.draft) c.in_ok-draft.ensures.rows is.healed.first is.healed.second is.id c.in_ok-follow_both.ensures.rows c.edge_and_node-ids.ensures
