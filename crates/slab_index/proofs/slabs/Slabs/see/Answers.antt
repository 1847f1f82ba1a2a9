use Rattle.std.proofs.Common.{◌≡◌, ◌<◌, sym, ◌∙◌, ap, subst, arith, rules, length, Some, None, nat_eq, All, List}
use Rattle.std.specs.Prelude.{fold}
use Rattle.std.specs.HashMap.{get}
use Rattle.std.specs.Option.{option_copied}
use Rattle.std.proofs.lemmas.List.Elements.{All-get_or}
use Rattle.slab_index.specs.declared.piece.Piece.{Piece}
use Rattle.slab_index.specs.Path.{in_slab}
use Rattle.slab_index.specs.Pieces.{Segments}
use Rattle.slab_index.specs.Held.{IsInRange, IsSlab, kept_of}
use Rattle.slab_index.proofs.Placed.{number_there, alone, nowhere, none_of, those_of, all_range}
use Rattle.slab_index.proofs.slabs.Slabs.see.Goals as goal

pub index-requires : goal.index-requires
index-requires g c =
    let found : get nat_eq c.self.inside.places c.args.number ≡ Some c.in-Some.place.now = sym c.get.ensures.value ∙ ap (λ o. option_copied o) c.in-Some.is in
    let there = number_there c.self.inside.slabs.items c.in-Some.place.now c.args.number (c.self.invariant.found c.args.number c.in-Some.place.now found) in
    let within : c.in-Some.place.now < length c.self.inside.slabs.items = there.0 in
    first_of (omega arith, search rules)

pub see_slab-requires-clause-slab : goal.see_slab-requires-clause-slab
see_slab-requires-clause-slab g c =
    let found : get nat_eq c.self.inside.places c.args.number ≡ Some c.in-Some.place.now = sym c.get.ensures.value ∙ ap (λ o. option_copied o) c.in-Some.is in
    let there = number_there c.self.inside.slabs.items c.in-Some.place.now c.args.number (c.self.invariant.found c.args.number c.in-Some.place.now found) in
    subst IsSlab (sym c.index.ensures) (All-get_or IsSlab c.self.inside.slabs.items c.in-Some.place.now c.index.result.now there.0 c.self.invariant.held)

pub returns-in-Some-clause-seen : goal.returns-in-Some-clause-seen
returns-in-Some-clause-seen g c =
    let W = g.T.Look.with_one in
    let slabs = c.self.inside.slabs.items in
    let found : get nat_eq c.self.inside.places c.args.number ≡ Some c.in-Some.place.now = sym c.get.ensures.value ∙ ap (λ o. option_copied o) c.in-Some.is in
    let there = c.self.invariant.found c.args.number c.in-Some.place.now found in
    let those = those_of slabs c.in-Some.place.now c.args.number c.index.result.now there (alone (get nat_eq c.self.inside.places) slabs c.self.invariant c.args.number c.in-Some.place.now found) c.self.invariant.held in
    subst (λ (v : Segments). c.see_slab.new.look ≡ fold W c.args.look.now (in_slab v.kept c.args.number)) c.self.view_is
    (c.see_slab.ensures.seen ∙ ap (λ s. fold W c.args.look.now (kept_of s)) c.index.ensures ∙ ap (fold W c.args.look.now) (sym those))

pub returns-in-Some-clause-steps : goal.returns-in-Some-clause-steps
returns-in-Some-clause-steps g c =
    let slabs = c.self.inside.slabs.items in
    let found : get nat_eq c.self.inside.places c.args.number ≡ Some c.in-Some.place.now = sym c.get.ensures.value ∙ ap (λ o. option_copied o) c.in-Some.is in
    let there = c.self.invariant.found c.args.number c.in-Some.place.now found in
    let those = those_of slabs c.in-Some.place.now c.args.number c.index.result.now there (alone (get nat_eq c.self.inside.places) slabs c.self.invariant c.args.number c.in-Some.place.now found) c.self.invariant.held in
    let a = ap (λ (v : Segments). length (in_slab v.kept c.args.number)) c.self.view_is in
    let b = ap (λ s. length (kept_of s)) c.index.ensures in
    let d = ap (λ (l : List Piece). length l) those in
    let e = c.see_slab.ensures.steps in
    omega (arith, a, b, d, e)

pub returns-in-Some-clause-in_range : goal.returns-in-Some-clause-in_range
returns-in-Some-clause-in_range g c = subst (λ (v : Segments). All IsInRange v.kept) c.self.view_is (all_range c.self.inside.slabs.items c.self.invariant.held)

pub returns-in-None-clause-seen : goal.returns-in-None-clause-seen
returns-in-None-clause-seen g c =
    let W = g.T.Look.with_one in
    let slabs = c.self.inside.slabs.items in
    let gone : get nat_eq c.self.inside.places c.args.number ≡ None = sym c.get.ensures.value ∙ ap (λ o. option_copied o) c.in-None.is in
    subst (λ (v : Segments). c.args.look.now ≡ fold W c.args.look.now (in_slab v.kept c.args.number)) c.self.view_is
    (ap (fold W c.args.look.now) (sym (none_of slabs c.args.number (nowhere (get nat_eq c.self.inside.places) slabs c.self.invariant c.args.number gone) c.self.invariant.held)))

pub returns-in-None-clause-in_range : goal.returns-in-None-clause-in_range
returns-in-None-clause-in_range g c = subst (λ (v : Segments). All IsInRange v.kept) c.self.view_is (all_range c.self.inside.slabs.items c.self.invariant.held)
