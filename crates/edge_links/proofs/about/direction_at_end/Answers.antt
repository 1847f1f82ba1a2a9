use Rattle.std.proofs.Common.{◌≡◌, length, get_or, ◌-◌, ap, subst}
use Rattle.std.specs.Prelude.{is_some}
use Rattle.edge_links.proofs.Ends.{last_differ}
use Rattle.edge_links.proofs.about.direction_at_end.Goals as goal

pub unreachable-requires : goal.unreachable-requires
unreachable-requires c =
    let e = c.vertices-vertices.ensures.vertices in
    last_differ c.args.line.now c.index-vertices-last.result c.index-vertices-last-2.result c.vertices-vertices.ensures.some c.requires
    (subst (λ l. c.index-vertices-last.result ≡ get_or l (length l - 1) c.index-vertices-last.result) e c.index-vertices-last.is)
    (subst (λ l. c.index-vertices-last-2.result ≡ get_or l (length l - 1 - 1) c.index-vertices-last-2.result) e c.index-vertices-last-2.is)
    (c.between.ensures.none.0 (ap is_some c.in-None.is))
