use Rattle.std.proofs.Common.{◌∙◌, ◌<◌, List, ap, get_or, length, subst, sym}
use Rattle.std.proofs.lemmas.List.{get_or-map, length-map}
use Rattle.drawing.specs.HalfEdge.{HalfEdge, dart_of}
use Rattle.validate_topology.specs.Following.{half_edge}
use Rattle.validate_topology.proofs.link_lines.next_dart.Goals as goal

pub returns : goal.returns
returns c hs d same next =
    let sides = c.args.sides.now in
    let side = c.index-sides-next.result in
    let within : c.next.result < length sides = subst (λ n. c.next.result < n) c.requires.len c.next.ensures.within in
    let place : c.args.place < length hs = subst (λ (ks : List HalfEdge). c.args.place < length ks) same (subst (λ n. c.args.place < n) (sym (length-map sides half_edge)) c.requires.place) in
    c.dart_of.ensures
    ∙ ap dart_of
    (ap half_edge c.index-sides-next.is ∙ sym (get_or-map half_edge sides c.next.result side d within) ∙ ap (λ (ks : List HalfEdge). get_or ks c.next.result d) same
    ∙ ap (λ n. get_or hs n d) c.next.ensures.next ∙ next c.args.place d place)
