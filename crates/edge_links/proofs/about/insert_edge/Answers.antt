use Rattle.edge_links.proofs.RightLinks.{put_into}
use Rattle.edge_links.proofs.about.insert_edge.Goals as goal

pub returns-clause-star : goal.returns-clause-star
returns-clause-star c =
    λ S a b f ok is.
    put_into S a b c.args.line.now f c.args.edge c.args.start c.args.end c.args.node c.args.star.now c.insert_both.new.star c.insert_both.result ok is c.dirs.ensures.some c.vertices.ensures.some c.insert_both.ensures
