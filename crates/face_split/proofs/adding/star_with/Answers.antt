use Rattle.std.proofs.Common.{◌≡◌, ℕ, subst}
use Rattle.drawing.specs.IsoEdits.{with_edge}
use Rattle.drawing.specs.Tables.{drawn}
use Rattle.edge_links.specs.LinksLaw.{rays_at}
use Rattle.face_split.proofs.Stars.{own_there}
use Rattle.face_split.proofs.adding.star_with.Goals as goal

pub returns-clause-star : goal.returns-clause-star
returns-clause-star c a b f coming =
    subst (λ (n : ℕ). c.insert_edge.new.star ≡ rays_at (with_edge (drawn c.args.tables.now.rows) a b c.args.line.now f) n) c.from_node-node.ensures
    (c.in_ok-insert_edge.ensures.star (drawn c.args.tables.now.rows) a b f coming c.in_ok-star.ensures.star)

pub returns-clause-there : goal.returns-clause-there
returns-clause-there c = own_there c.args.coming.now.edge c.args.coming.now.start c.args.coming.now.end c.args.line.now c.args.forward c.from_node-node.result _ _ c.from_node-node.ensures c.in_ok-insert_edge.ensures.rays
