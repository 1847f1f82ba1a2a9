use Rattle.std.proofs.Common.{◌≡◌, ◌-◌, ◌+◌, ◌<◌, ◌≤◌, length, drop, ◌∙◌, ap, arith}
use Rattle.drawing.specs.Star.{star}
use Rattle.edge_links.specs.Rays.{has_proper_line, rays_of}
use Rattle.edge_links.proofs.RayLemmas.{all_get, half_edges_of, row_seen}
use Rattle.edge_links.proofs.about.star_among.Goals as goal

pub insert_row-requires : goal.insert_row-requires
insert_row-requires c =
    let some : 0 < c.loop-left.left = c.loop-left-test.true in
    let below : c.loop-left.left ≤ length c.args.rows.now = c.loop-left.invariant.within in
    all_get has_proper_line c.args.rows.now (c.loop-left.left - 1) c.index-rows-left.result c.requires (omega arith) c.index-rows-left.is

pub loop-left-preserved : goal.loop-left-preserved
loop-left-preserved c =
    let some : 0 < c.loop-left.left = c.loop-left-test.true in
    let below : c.loop-left.left ≤ length c.args.rows.now = c.loop-left.invariant.within in
    let back : c.loop-left.left ≡ c.loop-left.left - 1 + 1 = omega arith in
    record {
      within = omega arith;
      seen = c.in_ok-insert_row.ensures
          ∙ row_seen c.args.node (c.loop-left.left - 1) c.args.rows.now c.index-rows-left.result c.loop-left.star (omega arith) c.index-rows-left.is
          (c.loop-left.invariant.seen ∙ ap (λ k. rays_of (star (half_edges_of (drop k c.args.rows.now)) c.args.node)) back);
    }
