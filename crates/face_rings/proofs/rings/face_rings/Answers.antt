use Rattle.std.proofs.Common.{◌≡◌, ◌+◌, ◌<◌, sym, ◌∙◌, ap, subst, arith, false, [], ◌∷◌, ◌++◌, length, map, get_or}
use Rattle.std.specs.List.{All}
use Rattle.std.proofs.lemmas.List.{get_or_read, map_push}
use Rattle.face_rings.specs.Rings.{darts_in, ring_of, Marks}
use Rattle.face_rings.proofs.Orbits.{Has, linked_of}
use Rattle.face_rings.proofs.Reaching.{ring_known}
use Rattle.face_rings.proofs.Marking.{IsSeen, seen_kept, seen_more, kept_at, rings_more, dart_at, dart_read, known_read, written}
use Rattle.face_rings.proofs.rings.face_rings.Goals as goal

pub loop-place-preserved-then-index : goal.loop-place-preserved-then-index
loop-place-preserved-then-index c =
    let border = c.args.rows.now in
    let long = ap length c.darts-darts.ensures.darts in
    let w : c.loop-place.place < length border = omega arith in
    let held = c.loop-place.invariant.seen.long in
    let on = sym (get_or_read c.loop-place.seen.items c.loop-place.place c.index.result.now (omega arith) c.index.ensures false) ∙ c.if-index.true in
    record {
      seen = seen_kept border c.loop-place.place c.loop-place.seen.items c.loop-place.invariant.seen w on;
      found = c.loop-place.invariant.found ∙ sym (kept_at border c.loop-place.place c.loop-place.seen.items (linked_of border c.requires) c.darts-darts.ensures.ascend c.loop-place.invariant.seen w on);
    }

pub mark-requires-clause-known : goal.mark-requires-clause-known
mark-requires-clause-known c =
    let border = c.args.rows.now in
    let d = dart_at c.darts-darts.result.now c.loop-place.place c.index-darts-place.result in
    let known = known_read border c.darts-darts.result.now c.loop-place.place c.index-darts-place.result c.darts-darts.ensures.darts c.loop-place-test.true in
    subst (All (Has border)) (sym (c.deref.ensures.value ∙ c.in_ok-ring.ensures)) (ring_known border d (linked_of border c.requires) known)

pub loop-place-preserved : goal.loop-place-preserved
loop-place-preserved c =
    let border = c.args.rows.now in
    let n = c.loop-place.place in
    let seen = c.loop-place.seen.items in
    let d = dart_at c.darts-darts.result.now n c.index-darts-place.result in
    let long = ap length c.darts-darts.ensures.darts in
    let w : n < length border = omega arith in
    let held = c.loop-place.invariant.seen.long in
    let off : get_or seen n false ≡ false = sym (get_or_read seen n c.index.result.now (omega arith) c.index.ensures false) ∙ c.if-index.false in
    let at = dart_read border c.darts-darts.result.now n c.index-darts-place.result c.darts-darts.ensures.darts c.loop-place-test.true in
    let marks : Marks border c.in_ok-ring.ring.items seen c.mark.new.seen =
    subst (λ ring. Marks border ring seen c.mark.new.seen) c.deref.ensures.value
    (subst (λ old. Marks border c.deref.result.now old c.mark.new.seen) c.deref_mut.ensures.value c.mark.ensures) in
    let whole = marks.long in
    record {
      seen = subst (IsSeen border (n + 1)) (sym (written c.loop-place.seen.len c.mark.new.seen seen (omega arith)))
          (seen_more border n seen c.mark.new.seen c.in_ok-ring.ring.items d (linked_of border c.requires) c.loop-place.invariant.seen w at c.in_ok-ring.ensures marks);
      found = ap (map darts_in) c.in_ok-push.ensures.items
          ∙ map_push darts_in c.loop-place.all.items c.in_ok-ring.ring
          ∙ ap (λ ring. map darts_in c.loop-place.all.items ++ ring ∷ []) c.in_ok-ring.ensures
          ∙ ap (λ rs. rs ++ ring_of border d ∷ []) c.loop-place.invariant.found
          ∙ sym (rings_more border n seen d (linked_of border c.requires) c.darts-darts.ensures.ascend c.loop-place.invariant.seen w at off);
    }
