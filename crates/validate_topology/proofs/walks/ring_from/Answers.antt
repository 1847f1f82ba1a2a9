use Rattle.std.proofs.Common.{◌∙◌, List, ap, arith, length, subst, sym, true}
use Rattle.std.specs.Prelude.{slice_set}
use Rattle.std.proofs.lemmas.List.{length_push, length-map}
use Rattle.validate_topology.specs.Following.{half_edge}
use Rattle.validate_topology.specs.Walks.{IsRingAt, MarksRing, halves_of}
use Rattle.validate_topology.specs.declared.sides.Side.{Side}
use Rattle.validate_topology.proofs.RingWalks.{IsRounding, rounding_begins, rounding_ends, rounding_few, rounding_more}
use Rattle.validate_topology.proofs.walks.ring_from.Goals as goal

pub loop-ring-init : goal.loop-ring-init
loop-ring-init c =
    subst (λ (ring : List Side). IsRounding c.args.sides.now c.args.first c.args.first ring c.args.seen.now c.args.seen.now) (sym c.new-ring.ensures.items)
    (rounding_begins c.args.sides.now c.args.first c.args.seen.now c.requires.first)

pub returns-then-here-first-clause-ring : goal.returns-then-here-first-clause-ring
returns-then-here-first-clause-ring c =
    let one = rounding_ends c.args.sides.now c.args.followers.now c.args.first c.loop-ring.here c.next-here.result c.loop-ring.ring.items c.index-sides-here.result c.args.seen.now c.loop-ring.seen
    c.requires.followed c.requires.first c.requires.len c.index-sides-here.is c.next-here.ensures.next c.if-here-first.true c.loop-ring.invariant in
    subst (IsRingAt (halves_of c.args.sides.now) c.args.first) (sym c.in_ok-push.ensures.items) one.ring

pub returns-then-here-first-clause-marks : goal.returns-then-here-first-clause-marks
returns-then-here-first-clause-marks c =
    let one = rounding_ends c.args.sides.now c.args.followers.now c.args.first c.loop-ring.here c.next-here.result c.loop-ring.ring.items c.index-sides-here.result c.args.seen.now c.loop-ring.seen
    c.requires.followed c.requires.first c.requires.len c.index-sides-here.is c.next-here.ensures.next c.if-here-first.true c.loop-ring.invariant in
    subst (λ ring. MarksRing (halves_of c.args.sides.now) ring c.args.seen.now (slice_set c.loop-ring.seen c.loop-ring.here true)) (sym c.in_ok-push.ensures.items) one.marks

pub loop-ring-smaller : goal.loop-ring-smaller
loop-ring-smaller c =
    let few = rounding_few c.args.sides.now c.args.followers.now c.args.first c.loop-ring.here c.loop-ring.ring.items c.args.seen.now c.loop-ring.seen c.requires.followed c.requires.first c.loop-ring.invariant in
    let pushed = ap length c.in_ok-push.ensures.items ∙ length_push c.loop-ring.ring.items c.index-sides-here.result in
    omega arith

pub loop-ring-preserved : goal.loop-ring-preserved
loop-ring-preserved c =
    let within = c.next-here.ensures.within in
    let wide = c.requires.followed.len in
    let long = length-map c.args.sides.now half_edge in
    subst (λ ring. IsRounding c.args.sides.now c.args.first c.next-here.result ring c.args.seen.now (slice_set c.loop-ring.seen c.loop-ring.here true)) (sym c.in_ok-push.ensures.items)
    (rounding_more c.args.sides.now c.args.followers.now c.args.first c.loop-ring.here c.next-here.result c.loop-ring.ring.items c.index-sides-here.result c.args.seen.now c.loop-ring.seen
    c.requires.followed c.requires.first c.requires.len (omega arith) c.index-sides-here.is c.next-here.ensures.next c.if-here-first.false c.loop-ring.invariant)
