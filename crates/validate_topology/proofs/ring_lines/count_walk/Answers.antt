use Rattle.std.proofs.Common.{◌≡◌, ◌∙◌, ◌+◌, ◌++◌, ◌∷◌, ◌<◌, ℕ, List, [], ap, get_or, length, sym, subst, take}
use Rattle.std.proofs.lemmas.List.{map_push, take_more}
use Rattle.validate_topology.specs.Following.{half_edge}
use Rattle.validate_topology.specs.Tallies.{AreTallies, with_face, with_ring}
use Rattle.validate_topology.specs.Walks.{halves_of}
use Rattle.validate_topology.specs.declared.sides.Side.{Side}
use Rattle.validate_topology.proofs.Counting.{ring_more}
use Rattle.validate_topology.proofs.ring_lines.count_walk.Goals as goal

pub loop-side-preserved : goal.loop-side-preserved
loop-side-preserved c =
    let sides = c.args.walk.now.sides.items in
    let i = c.loop-side.side-index in
    let s = c.side-item.result in
    let ring = c.args.ring in
    let faces = c.args.faces.now in
    let whole = c.deref-side-items.ensures.value in
    let below = subst (λ (xs : List Side). i < length xs) whole c.loop-side-test.true in
    let is = subst (λ (xs : List Side). s ≡ get_or xs i s) whole c.side-item.is in
    let more : halves_of (take (i + 1) sides) ≡ halves_of (take i sides) ++ half_edge s ∷ [] = ap halves_of (take_more sides i s below ∙ ap (λ (x : Side). take i sides ++ x ∷ []) (sym is)) ∙ map_push half_edge (take i sides) s in
    record {
      len = c.count_side.ensures.len ∙ c.loop-side.invariant.len;
      counted = λ tally are.
          let old = c.loop-side.invariant.counted tally are in
          let new = c.count_side.ensures.counted (with_ring ring (halves_of (take i sides)) tally) old in
          ring_more ring (halves_of (take i sides)) (halves_of (take (i + 1) sides)) (half_edge s) tally faces c.count_side.new.tallies.items more
          (subst (λ (f : ℕ). AreTallies (with_face ring f (with_ring ring (halves_of (take i sides)) tally)) faces c.count_side.new.tallies.items) c.left_of.ensures new);
    }
