use Rattle.std.proofs.Common.{◌∙◌, ◌+◌, ◌++◌, ◌∷◌, List, [], Bool, ap, arith, drop, false, length, subst, sym, take}
use Rattle.std.proofs.lemmas.List.{get_or_read, length-map}
use Rattle.face_rings.specs.FaceBorder.{border_dart}
use Rattle.face_rings.proofs.Marking.{written}
use Rattle.validate_topology.specs.Following.{half_edge}
use Rattle.validate_topology.specs.Walks.{MarksRing, halves_of}
use Rattle.validate_topology.specs.declared.walks.Walk.{Walk}
use Rattle.validate_topology.proofs.RingsFound.{AreFound, IsMade, found_kept, found_more, ring_long}
use Rattle.validate_topology.proofs.walks.walks_of.Goals as goal

pub loop-place-preserved-then-index : goal.loop-place-preserved-then-index
loop-place-preserved-then-index c =
    let sides = c.args.sides.now in
    let n = c.loop-place.place in
    let seen = c.loop-place.seen.items in
    let held = c.loop-place.invariant.marked.long in
    let wide = length-map (halves_of sides) (border_dart (halves_of sides)) in
    let long = length-map sides half_edge in
    let on = sym (get_or_read seen n c.index.result.now (omega (arith, c.loop-place-test.true)) c.index.ensures false) ∙ c.if-index.true in
    found_kept sides n c.loop-place.walks.items seen c.requires.plain c.loop-place-test.true on c.loop-place.invariant

pub walk_of-requires : goal.walk_of-requires
walk_of-requires c = ring_long c.args.sides.now c.loop-place.place c.in_ok-ring.ring.items c.requires.plain c.loop-place-test.true c.in_ok-ring.ensures.ring

pub loop-place-preserved : goal.loop-place-preserved
loop-place-preserved c =
    let sides = c.args.sides.now in
    let hs = halves_of sides in
    let n = c.loop-place.place in
    let seen = c.loop-place.seen.items in
    let ring = c.in_ok-ring.ring.items in
    let new = c.ring_from.new.seen in
    let walk = c.in_ok-walk_of.field-0 in
    let held = c.loop-place.invariant.marked.long in
    let wide = length-map hs (border_dart hs) in
    let long = length-map sides half_edge in
    let off = sym (get_or_read seen n c.index.result.now (omega (arith, c.loop-place-test.true)) c.index.ensures false) ∙ c.if-index.false in
    let marks : MarksRing hs ring seen new = subst (λ (old : List Bool). MarksRing hs ring old new) c.deref_mut.ensures.value c.in_ok-ring.ensures.marks in
    let whole = marks.long in
    let made : IsMade walk ring = record { sides = ap (λ v. v.items) c.in_ok-walk_of.ensures.sides; shell = c.in_ok-walk_of.ensures.shell; top = c.in_ok-walk_of.ensures.top } in
    let more = found_more sides n c.loop-place.walks.items seen new ring walk c.requires.plain c.loop-place-test.true off c.in_ok-ring.ensures.ring marks made c.loop-place.invariant in
    subst (λ (walks : List Walk). AreFound sides (n + 1) walks (take c.loop-place.seen.len (new ++ drop (length new) seen))) (sym c.in_ok-push.ensures.items)
    (subst (AreFound sides (n + 1) (c.loop-place.walks.items ++ walk ∷ [])) (sym (written c.loop-place.seen.len new seen (omega arith))) more)
