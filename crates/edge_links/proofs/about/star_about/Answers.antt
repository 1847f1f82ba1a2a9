use Rattle.std.proofs.Common.{◌≡◌, ◌∙◌, subst}
use Rattle.std.specs.Prelude.{IfOk}
use Rattle.topo_base.specs.declared.rows.EdgeRow.{EdgeRow}
use Rattle.drawing.specs.Drawing.{is_end_of}
use Rattle.drawing.specs.Tables.{drawn, drawn_edge}
use Rattle.edge_links.specs.Rays.{Rays}
use Rattle.edge_links.proofs.RayLemmas.{proper_found, rays_are}
use Rattle.edge_links.proofs.RightLinks.{made_in_order, some_at}
use Rattle.edge_links.proofs.about.star_about.Goals as goal

pub star_among-requires : goal.star_among-requires
star_among-requires c =
    proper_found c.args.tables.now.rows (λ (e : EdgeRow). is_end_of c.args.node (drawn_edge e)) _ c.requires.plain (c.rows.ensures ∙ c.in_ok-edges.ensures)

pub returns-clause-star : goal.returns-clause-star
returns-clause-star c =
    subst (λ (z : Rays). IfOk c.star_among.result (λ s. s ≡ z)) (rays_are c.args.tables.now.rows c.args.node _ _ c.in_ok-edges.ensures c.rows.ensures) c.star_among.ensures.star

pub returns-clause-some : goal.returns-clause-some
returns-clause-some c = some_at (drawn c.args.tables.now.rows) c.args.node c.star_among.result (returns-clause-star c) c.star_among.ensures.some

pub returns-clause-order : goal.returns-clause-order
returns-clause-order c = made_in_order (drawn c.args.tables.now.rows) c.args.node c.star_among.result c.requires (returns-clause-star c) c.star_among.ensures.some
