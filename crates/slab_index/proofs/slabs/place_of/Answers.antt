use Rattle.std.proofs.Common.{◌≡◌, sym, ◌∙◌, ap, subst, arith, rules, length, ◌++◌, [], ◌∷◌, Some, None, nat_eq}
use Rattle.std.specs.HashMap.{get}
use Rattle.std.specs.Option.{option_copied}
use Rattle.std.proofs.lemmas.Grind.{common_steps}
use Rattle.slab_index.specs.Held.{AreSlabs, number_at}
use Rattle.slab_index.proofs.Placed.{comes_at, at_end}
use Rattle.slab_index.proofs.slabs.place_of.Goals as goal

pub returns-clause-slabs : goal.returns-clause-slabs
returns-clause-slabs c =
    let e : c.push.new.self.items ≡ c.args.slabs.now.items ++ c.slab_without_pieces.result ∷ [] = grind (arith, common_steps) in
    let n : c.len-place.result ≡ length c.args.slabs.now.items = search rules in
    let none : get nat_eq c.args.places.now c.args.number ≡ None = sym c.get.ensures.value ∙ ap (λ o. option_copied o) c.in_default.is in
    let updates = c.in_ok-insert.ensures.updates in
    subst (AreSlabs (get nat_eq c.insert.new.self)) (sym e)
    (comes_at (get nat_eq c.args.places.now) (get nat_eq c.insert.new.self) c.args.slabs.now.items c.slab_without_pieces.result c.args.number c.len-place.result
    c.requires c.slab_without_pieces.ensures.slab c.slab_without_pieces.ensures.number n none updates.0)

pub returns-clause-place : goal.returns-clause-place
returns-clause-place c =
    let e : c.push.new.self.items ≡ c.args.slabs.now.items ++ c.slab_without_pieces.result ∷ [] = grind (arith, common_steps) in
    let n : c.len-place.result ≡ length c.args.slabs.now.items = search rules in
    subst (λ l. number_at l c.len-place.result ≡ Some c.args.number) (sym e)
    (subst (λ k. number_at (c.args.slabs.now.items ++ c.slab_without_pieces.result ∷ []) k ≡ Some c.args.number) (sym n)
    (at_end c.args.slabs.now.items c.slab_without_pieces.result ∙ ap Some c.slab_without_pieces.ensures.number))
