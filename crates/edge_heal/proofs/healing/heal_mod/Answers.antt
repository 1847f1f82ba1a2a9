use Rattle.std.proofs.Common.{refl}
use Rattle.drawing.specs.Tables.{drawn, drawn_edge}
use Rattle.edge_heal.specs.HealWrites.{mod_heal_in}
use Rattle.edge_heal.proofs.HealDrafts.{heal_edited}
use Rattle.edge_split.proofs.SplitDrafts.{has_features}
use Rattle.edge_heal.proofs.healing.heal_mod.Goals as goal

pub follow_first-requires : goal.follow_first-requires
follow_first-requires g c =
    let S = drawn c.args.tables.now.rows in
    has_features S (mod_heal_in S (drawn_edge c.args.first.now) (drawn_edge c.args.second.now) c.args.node) c.in_ok-draft.draft.rows c.healed_into_first-healed.result.second c.requires.ready refl refl refl c.in_ok-draft.ensures.rows

pub returns : goal.returns
returns g c =
    let S = drawn c.args.tables.now.rows in
    let healed = c.healed_into_first-healed.ensures.healed in
    heal_edited S c.args.first.now c.args.second.now c.args.node c.in_ok-draft.draft.rows (record { draft = c.follow_first.new.draft; ids = c.node_and_edge-ids.result })
    c.healed_into_first-healed.result.first c.healed_into_first-healed.result.second c.requires.ringed c.requires.joint (c.in_ok-follow_first.ensures.drafted S c.in_ok-draft.ensures.draft) c.in_ok-draft.ensures.rows
    healed.first healed.second c.in_ok-follow_first.ensures.rows c.node_and_edge-ids.ensures
