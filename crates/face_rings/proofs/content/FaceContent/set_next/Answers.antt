use Rattle.std.proofs.Common.{◌≡◌, ◌<◌, sym, ◌∙◌, ap, subst, true, List, length, set}
use Rattle.std.specs.Prelude.{IfSome}
use Rattle.std.specs.List.{HoldsAt}
use Rattle.face_rings.specs.declared.content.BorderDart.{BorderDart}
use Rattle.face_rings.specs.Border.{darts_ascend}
use Rattle.face_rings.specs.RowBorder.{with_next}
use Rattle.face_rings.proofs.RowBorders.{linked_to, relinked, relinked_ascend}
use Rattle.face_rings.proofs.content.FaceContent.set_next.Goals as goal

pub invariant_of-self : goal.invariant_of-self
invariant_of-self c =
    let border = c.self.inside.darts.items in
    let place = c.unwrap-place.result in
    let read = c.index_mut.result.now in
    subst (λ (b : BorderDart). darts_ascend (set border place (linked_to c.args.next b)) ≡ true) (sym c.index_mut.ensures.value)
    (relinked_ascend border place c.args.next read c.self.invariant)

pub returns : goal.returns
returns c =
    let border = c.self.inside.darts.items in
    let d = c.args.dart.now in
    let place = c.unwrap-place.result in
    let read = c.index_mut.result.now in
    let same = c.deref.ensures.value in
    let within = subst (λ o. IfSome o (λ i. i < length c.deref.result.now)) c.unwrap-place.ensures c.place_of.ensures.within in
    let there = subst (λ o. IfSome o (HoldsAt (λ (b : BorderDart). b.dart ≡ d) c.deref.result.now)) c.unwrap-place.ensures c.place_of.ensures.found in
    ap (λ (b : BorderDart). set border place (linked_to c.args.next b)) c.index_mut.ensures.value
    ∙ relinked border place d c.args.next read c.self.invariant
    (subst (λ (bs : List BorderDart). place < length bs) same within)
    (subst (λ (bs : List BorderDart). HoldsAt (λ (b : BorderDart). b.dart ≡ d) bs place) same there read)
    ∙ ap (with_next d c.args.next) c.self.view_is
