use Rattle.std.proofs.Common.{ap, ◌∙◌}
use Rattle.drawing.specs.AddEdge.{coming}
use Rattle.drawing.specs.Outcome.{Accepted}
use Rattle.drawing.specs.Tables.{tables_of}
use Rattle.face_split.proofs.RingTaken.{has_edge_beside, has_edge_in, has_ring, is_linked, on_left, parted, stands_beside, takes_both, whole_ids, whole_rows}
use Rattle.face_split.proofs.finishing.finish.Goals as goal

pub ring_at-requires-clause-linked : goal.ring_at-requires-clause-linked
ring_at-requires-clause-linked g c = is_linked c.args.draft.now.rows c.tables.result.now.rows c.args.edge c.args.face c.requires c.tables.ensures

pub ring_at-requires-clause-there : goal.ring_at-requires-clause-there
ring_at-requires-clause-there g c = has_edge_beside c.args.draft.now.rows c.tables.result.now.rows c.args.edge c.args.face c.requires c.tables.ensures

pub grow_box-requires : goal.grow_box-requires
grow_box-requires g c = has_edge_in c.args.draft.now.rows c.args.edge c.args.face c.requires

pub returns-then-has_dart-clause-ids : goal.returns-then-has_dart-clause-ids
returns-then-has_dart-clause-ids g c S a b line added edge_is =
    let ring = c.in_ok-rings.ensures.ring (coming S a b line c.args.face) (stands_beside S a b line c.args.face c.args.edge c.args.draft.now.rows c.tables.result.now.rows added edge_is c.tables.ensures) in
    let left = on_left S a b line c.args.face c.args.draft.now.rows c.tables.result.now.rows c.in_ok-rings.rings.border c.in_ok-rings.rings.ring.items added c.tables.ensures c.in_ok-rings.ensures.border ring in
    let takes = takes_both S a b line c.args.face c.args.edge c.in_ok-rings.rings.border c.in_ok-rings.rings.ring.items c.deref.result.now c.has_dart.result edge_is left c.deref.ensures.value c.has_dart.ensures in
    c.the_edge.ensures ∙ whole_ids S a b line c.args.face c.args.edge c.args.both c.has_dart.result edge_is takes c.if-has_dart.true

pub returns-then-has_dart-clause-rows : goal.returns-then-has_dart-clause-rows
returns-then-has_dart-clause-rows g c S a b line added edge_is =
    let ring = c.in_ok-rings.ensures.ring (coming S a b line c.args.face) (stands_beside S a b line c.args.face c.args.edge c.args.draft.now.rows c.tables.result.now.rows added edge_is c.tables.ensures) in
    let left = on_left S a b line c.args.face c.args.draft.now.rows c.tables.result.now.rows c.in_ok-rings.rings.border c.in_ok-rings.rings.ring.items added c.tables.ensures c.in_ok-rings.ensures.border ring in
    let takes = takes_both S a b line c.args.face c.args.edge c.in_ok-rings.rings.border c.in_ok-rings.rings.ring.items c.deref.result.now c.has_dart.result edge_is left c.deref.ensures.value c.has_dart.ensures in
    c.in_ok-grow_box.ensures.rows S a b line added ∙ whole_rows S a b line c.args.face c.args.both c.has_dart.result takes c.if-has_dart.true

pub close-requires : goal.close-requires
close-requires g c =
    let h = c.requires in
    let ring = c.in_ok-rings.ensures.ring (coming h.before h.start h.end h.line c.args.face) (stands_beside h.before h.start h.end h.line c.args.face c.args.edge c.args.draft.now.rows c.tables.result.now.rows h.added h.edge_is c.tables.ensures) in
    let left = on_left h.before h.start h.end h.line c.args.face c.args.draft.now.rows c.tables.result.now.rows c.in_ok-rings.rings.border c.in_ok-rings.rings.ring.items h.added c.tables.ensures
    c.in_ok-rings.ensures.border ring in
    has_ring c.args.draft.now.rows c.tables.result.now.rows c.args.edge c.args.face c.in_ok-rings.rings.border c.in_ok-rings.rings.ring.items h left

pub returns-clause-ids : goal.returns-clause-ids
returns-clause-ids g c S a b line added edge_is =
    let ring = c.in_ok-rings.ensures.ring (coming S a b line c.args.face) (stands_beside S a b line c.args.face c.args.edge c.args.draft.now.rows c.tables.result.now.rows added edge_is c.tables.ensures) in
    let left = on_left S a b line c.args.face c.args.draft.now.rows c.tables.result.now.rows c.in_ok-rings.rings.border c.in_ok-rings.rings.ring.items added c.tables.ensures c.in_ok-rings.ensures.border ring in
    let takes = takes_both S a b line c.args.face c.args.edge c.in_ok-rings.rings.border c.in_ok-rings.rings.ring.items c.deref.result.now c.has_dart.result edge_is left c.deref.ensures.value c.has_dart.ensures in
    c.in_ok-ids.ensures.ids S a b line added edge_is ∙ ap (λ (done : Accepted). done.ids) (parted S a b line c.args.face c.args.both c.has_dart.result takes c.if-has_dart.false)

pub returns-clause-rows : goal.returns-clause-rows
returns-clause-rows g c S a b line added edge_is =
    let ring = c.in_ok-rings.ensures.ring (coming S a b line c.args.face) (stands_beside S a b line c.args.face c.args.edge c.args.draft.now.rows c.tables.result.now.rows added edge_is c.tables.ensures) in
    let left = on_left S a b line c.args.face c.args.draft.now.rows c.tables.result.now.rows c.in_ok-rings.rings.border c.in_ok-rings.rings.ring.items added c.tables.ensures c.in_ok-rings.ensures.border ring in
    let takes = takes_both S a b line c.args.face c.args.edge c.in_ok-rings.rings.border c.in_ok-rings.rings.ring.items c.deref.result.now c.has_dart.result edge_is left c.deref.ensures.value c.has_dart.ensures in
    c.in_ok-ids.ensures.rows S a b line added edge_is left ∙ ap (λ (done : Accepted). tables_of done.drawing) (parted S a b line c.args.face c.args.both c.has_dart.result takes c.if-has_dart.false)
