use Rattle.std.proofs.Common.{◌+◌, ◌∙◌, ap, drop}
use Rattle.edge_links.specs.Rays.{has_proper_line}
use Rattle.edge_links.proofs.RayLemmas.{all_get}
use Rattle.face_split.specs.Wedges.{last_from}
use Rattle.face_split.proofs.LastWedges.{next_row, all_rows, seen_wedges}
use Rattle.face_split.proofs.wedges.last_about.Goals as goal

pub with_row-last-requires : goal.with_row-last-requires
with_row-last-requires c = all_get has_proper_line c.args.edges.now c.loop-row.row-index c.row-item.result c.requires c.loop-row-test.true c.row-item.is

pub loop-row-preserved : goal.loop-row-preserved
loop-row-preserved c =
    ap (λ o. last_from c.args.way o (seen_wedges c.args.node (drop (c.loop-row.row-index + 1) c.args.edges.now))) c.with_row-last.ensures
    ∙ next_row c.args.way c.args.node c.args.edges.now c.loop-row.row-index c.row-item.result c.loop-row.last c.loop-row-test.true c.row-item.is
    ∙ c.loop-row.invariant

pub returns : goal.returns
returns c = all_rows c.args.way c.args.node c.args.edges.now c.loop-row.row-index c.loop-row.last c.loop-row-test.false c.loop-row.invariant
