use Rattle.std.proofs.Common.{refl}
use Rattle.drawing.specs.Tables.{drawn, drawn_edge}
use Rattle.edge_split.proofs.SplitDrafts.{has_features, new_edited}
use Rattle.edge_split.specs.Splitting.{split_new_in}
use Rattle.edge_split.proofs.splitting.split_new.Goals as goal

pub follow_parts-requires : goal.follow_parts-requires
follow_parts-requires g c =
    let S = drawn c.args.tables.now.rows in
    has_features S (split_new_in S (drawn_edge c.args.row.now) c.args.point) c.in_ok-draft.draft.rows c.parts_anew-parts.result.edge c.requires.ready refl refl refl c.in_ok-draft.ensures.rows

pub returns : goal.returns
returns g c =
    let S = drawn c.args.tables.now.rows in
    let parts = c.parts_anew-parts.ensures in
    new_edited S c.args.row.now c.args.point c.in_ok-draft.draft.rows (record { draft = c.follow_parts.new.draft; ids = c.node_and_edges-ids.result })
    c.parts_anew-parts.result.edge c.parts_anew-parts.result.node c.parts_anew-parts.result.first c.parts_anew-parts.result.second
    c.requires.ringed c.requires.cut (c.in_ok-follow_parts.ensures.drafted S c.in_ok-draft.ensures.draft) c.in_ok-draft.ensures.rows
    parts.edge parts.node parts.first parts.second c.in_ok-follow_parts.ensures.rows c.node_and_edges-ids.ensures
