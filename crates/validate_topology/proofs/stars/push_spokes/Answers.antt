use Rattle.std.proofs.Common.{◌∙◌, ◌++◌, [], ◌∷◌, List, ap, subst, sym}
use Rattle.std.specs.Prelude.{All}
use Rattle.std.proofs.lemmas.List.Elements.{All-append, All-cons, All-nil}
use Rattle.validate_topology.specs.Following.{IsSpokeOf, half_edges_of}
use Rattle.validate_topology.specs.declared.stars.Spoke.{Spoke}
use Rattle.validate_topology.proofs.SpokePlaces.{backward_spoke, forward_spoke}
use Rattle.validate_topology.proofs.stars.push_spokes.Goals as goal

pub returns-clause-each : goal.returns-clause-each
returns-clause-each c rows at all =
    let row = c.args.row.now in
    let is = IsSpokeOf (half_edges_of rows) in
    let one = c.spoke_of.ensures in
    let other = c.spoke_of-2.ensures in
    let first = forward_spoke rows row c.args.place c.spoke_of.result at one.places.0 one.places.1 one.node one.dir one.long in
    let second = backward_spoke rows row c.args.place c.spoke_of-2.result at other.places.0 other.places.1 other.node other.dir other.long in
    let old = c.args.spokes.now.items in
    subst (All is) (sym (c.in_ok-push-2.ensures.items ∙ ap (λ (ss : List Spoke). ss ++ c.spoke_of-2.result ∷ []) c.in_ok-push.ensures.items))
    (All-append is (old ++ c.spoke_of.result ∷ []) (c.spoke_of-2.result ∷ []) (All-append is old (c.spoke_of.result ∷ []) all (All-cons is c.spoke_of.result [] first (All-nil is)))
    (All-cons is c.spoke_of-2.result [] second (All-nil is)))
