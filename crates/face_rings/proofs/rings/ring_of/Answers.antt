use Rattle.std.proofs.Common.{◌∙◌, sym, ap, subst, arith, length}
use Rattle.std.proofs.lemmas.List.{length_push}
use Rattle.face_rings.proofs.Orbits.{linked_of}
use Rattle.face_rings.proofs.Walking.{IsWalked, walk_few, walk_on}
use Rattle.face_rings.proofs.rings.ring_of.Goals as goal

pub loop-ring-smaller : goal.loop-ring-smaller
loop-ring-smaller c =
    let few = walk_few c.args.rows.now c.args.dart c.loop-ring.ring.items c.loop-ring.here (linked_of c.args.rows.now c.requires.linked) c.requires.there c.loop-ring.invariant in
    let pushed = ap length c.in_ok-push.ensures.items ∙ length_push c.loop-ring.ring.items c.loop-ring.here in
    omega arith

pub loop-ring-preserved : goal.loop-ring-preserved
loop-ring-preserved c =
    subst (λ ring. IsWalked c.args.rows.now c.args.dart ring c.next_of-here.result) (sym c.in_ok-push.ensures.items)
    (walk_on c.args.rows.now c.args.dart c.loop-ring.ring.items c.loop-ring.here c.next_of-here.result (linked_of c.args.rows.now c.requires.linked) c.requires.there c.loop-ring.invariant
    c.next_of-here.ensures (sym c.is_same_dart.ensures ∙ c.if-is_same_dart.false))
