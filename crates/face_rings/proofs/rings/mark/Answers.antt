use Rattle.std.proofs.Common.{◌≡◌, ◌<◌, sym, subst, List, length}
use Rattle.std.specs.Prelude.{IfSome, Contains}
use Rattle.std.specs.List.{HoldsAt}
use Rattle.face_rings.specs.declared.content.BorderDart.{BorderDart}
use Rattle.face_rings.specs.Border.{darts_of}
use Rattle.face_rings.proofs.Lookups.{is_there}
use Rattle.face_rings.proofs.Marking.{marks_none, marks_more}
use Rattle.face_rings.proofs.rings.mark.Goals as goal

pub loop-dart-init : goal.loop-dart-init
loop-dart-init c = marks_none c.args.rows.now c.args.ring.now c.args.seen.now

pub unwrap-place-requires : goal.unwrap-place-requires
unwrap-place-requires c =
    let known = subst (Contains (darts_of c.args.rows.now)) (sym c.dart-item.is) (c.requires.known c.loop-dart.dart-index c.dart-item.result c.loop-dart-test.true) in
    is_there c.place_of.result
    (λ none. c.place_of.ensures.none none (subst (λ (bs : List BorderDart). Contains (darts_of bs) c.dart-item.result) (sym c.darts.ensures.darts) known))

pub loop-dart-preserved : goal.loop-dart-preserved
loop-dart-preserved c =
    let same = c.darts.ensures.darts in
    let place = c.unwrap-place.result in
    let within = subst (λ o. IfSome o (λ i. i < length c.darts.result.now)) c.unwrap-place.ensures c.place_of.ensures.within in
    let there = subst (λ o. IfSome o (HoldsAt (λ (b : BorderDart). b.dart ≡ c.dart-item.result) c.darts.result.now)) c.unwrap-place.ensures c.place_of.ensures.found in
    marks_more c.args.rows.now c.args.ring.now c.args.seen.now c.loop-dart.seen c.loop-dart.dart-index place c.dart-item.result
    c.darts.ensures.ascend c.requires.long c.loop-dart-test.true c.dart-item.is
    (subst (λ (bs : List BorderDart). place < length bs) same within)
    (subst (λ (bs : List BorderDart). HoldsAt (λ (b : BorderDart). b.dart ≡ c.dart-item.result) bs place) same there)
    c.loop-dart.invariant
