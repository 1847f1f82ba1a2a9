use Rattle.std.proofs.Common.{◌∙◌, ap, map, subst, sym}
use Rattle.std.specs.Prelude.{All}
use Rattle.topo_base.specs.Point.{Point}
use Rattle.drawing.specs.Subdivision.{rings}
use Rattle.validate_topology.specs.Following.{ArePlainEdges, half_edges_of}
use Rattle.validate_topology.specs.LinkLines.{HasLinkLines}
use Rattle.validate_topology.specs.Raw.{tables_in}
use Rattle.validate_topology.specs.RingLines.{HasRingLines}
use Rattle.validate_topology.specs.Stages.AreFaceLines.{on_places}
use Rattle.validate_topology.specs.Walks.{IsWalk, halves_of, ring_in}
use Rattle.validate_topology.proofs.FirstAbove.{some_above}
use Rattle.validate_topology.proofs.PlainEdges.{plain_edges}
use Rattle.validate_topology.proofs.Staging.{are_followed, emptied, has_links, has_places, has_rings, one_told}
use Rattle.validate_topology.proofs.reporting.face_lines.Goals as goal

pub followers_of-requires : goal.followers_of-requires
followers_of-requires g c =
    plain_edges (tables_in c.args.raw.now) c.rows-edges.result.now c.rows.ensures.ascend c.rows-edges.ensures.ascend c.requires.references c.requires.points c.rows-edges.ensures.rows

pub walks_of-requires : goal.walks_of-requires
walks_of-requires g c =
    let plain = plain_edges (tables_in c.args.raw.now) c.rows-edges.result.now c.rows.ensures.ascend c.rows-edges.ensures.ascend c.requires.references c.requires.points c.rows-edges.ensures.rows in
    are_followed c.deref-2.result.now c.in_ok-followers.followers c.rows-edges.result.now plain c.in_ok-followers.ensures.long (ap halves_of c.deref-2.ensures.value ∙ c.in_ok-sides.ensures.halves)
    (c.deref-2.ensures.len ∙ c.in_ok-sides.ensures.len) c.in_ok-followers.ensures.len c.in_ok-followers.ensures.next

pub ring_lines-requires-clause-followed : goal.ring_lines-requires-clause-followed
ring_lines-requires-clause-followed g c =
    let plain = plain_edges (tables_in c.args.raw.now) c.rows-edges.result.now c.rows.ensures.ascend c.rows-edges.ensures.ascend c.requires.references c.requires.points c.rows-edges.ensures.rows in
    are_followed c.deref-3.result.now c.in_ok-followers.followers c.rows-edges.result.now plain c.in_ok-followers.ensures.long (ap halves_of c.deref-3.ensures.value ∙ c.in_ok-sides.ensures.halves)
    (c.deref-3.ensures.len ∙ c.in_ok-sides.ensures.len) c.in_ok-followers.ensures.len c.in_ok-followers.ensures.next

pub place_lines-requires : goal.place_lines-requires
place_lines-requires g c = subst (All IsWalk) (sym c.deref-5.ensures.value) c.in_ok-walks.ensures.each

pub returns : goal.returns
returns g c =
    let t = tables_in c.args.raw.now in
    let edges = c.rows-edges.result.now in
    let same = c.rows-edges.ensures.rows in
    let plain = plain_edges t edges c.rows.ensures.ascend c.rows-edges.ensures.ascend c.requires.references c.requires.points same in
    let above = λ (p : Point). (some_above t.edges p).0 in
    let told = λ (p : Point). (some_above t.edges p).1 in
    let tells = one_told t (subst ArePlainEdges same plain) in
    let no_links = emptied c.is_empty.result c.link_lines.new.report c.is_empty.ensures c.if-not-is_empty.false in
    let no_rings = emptied c.is_empty-2.result c.ring_lines.new.report c.is_empty-2.ensures c.if-not-is_empty-2.false in
    let halves = ap halves_of c.deref-3.ensures.value ∙ c.in_ok-sides.ensures.halves in
    let walked = ap halves_of c.deref-2.ensures.value ∙ c.in_ok-sides.ensures.halves in
    on_places
    (subst (HasLinkLines t) no_links (has_links t c.args.report.now c.link_lines.new.report edges c.requires.none same c.in_ok-link_lines.ensures))
    (subst (HasRingLines t) no_rings (has_rings t c.link_lines.new.report c.ring_lines.new.report (halves_of c.deref-3.result.now) edges no_links halves same c.in_ok-ring_lines.ensures))
    (has_places t c.ring_lines.new.report c.place_lines.new.report c.rows-nodes.result.now (map ring_in c.deref-5.result.now) above no_rings c.rows-nodes.ensures.rows
    (ap (map ring_in) c.deref-5.ensures.value ∙ c.in_ok-walks.ensures.all ∙ ap rings (walked ∙ ap half_edges_of same))
    told (c.in_ok-place_lines.ensures above tells))
