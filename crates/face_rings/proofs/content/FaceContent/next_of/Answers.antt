use Rattle.std.proofs.Common.{◌≡◌, ◌<◌, ◌∙◌, ap, subst, List, length}
use Rattle.std.specs.Prelude.{IfSome}
use Rattle.std.specs.List.{HoldsAt}
use Rattle.face_rings.specs.declared.content.BorderDart.{BorderDart}
use Rattle.face_rings.specs.Border.{next_dart}
use Rattle.face_rings.proofs.Lookups.{next_read}
use Rattle.face_rings.proofs.content.FaceContent.next_of.Goals as goal

pub returns : goal.returns
returns c =
    let border = c.self.inside.darts.items in
    let d = c.args.dart.now in
    let same = c.deref.ensures.value in
    let within = subst (λ o. IfSome o (λ i. i < length c.deref.result.now)) c.unwrap-place.ensures c.place_of.ensures.within in
    let there = subst (λ o. IfSome o (HoldsAt (λ (b : BorderDart). b.dart ≡ d) c.deref.result.now)) c.unwrap-place.ensures c.place_of.ensures.found in
    next_read border d c.unwrap-place.result c.index.result.now c.self.invariant
    (subst (λ (bs : List BorderDart). c.unwrap-place.result < length bs) same within)
    (subst (λ (bs : List BorderDart). HoldsAt (λ (b : BorderDart). b.dart ≡ d) bs c.unwrap-place.result) same there)
    c.index.ensures
    ∙ ap (λ (bs : List BorderDart). next_dart bs d) c.self.view_is
