use Rattle.std.proofs.Common.{◌≡◌, ◌≤◌, length, drop}
use Rattle.drawing.specs.Star.{star}
use Rattle.edge_links.specs.Rays.{rays_of}
use Rattle.edge_links.proofs.RayLemmas.{half_edges_of}
use Rattle.edge_links.proofs.about.star_among.Given as goal

-- the star is that of the edges from this place on
abbrev pub invariant-loop-left : goal.invariant-loop-left
invariant-loop-left l = record {
  within : l.left ≤ length l.rows;
  seen : l.star ≡ rays_of (star (half_edges_of (drop l.left l.rows)) l.node);
}

abbrev pub decreases-loop-left : goal.decreases-loop-left
decreases-loop-left l = l.left
