use Rattle.std.proofs.Common.{sym, ◌∙◌}
use Rattle.drawing.specs.AddEdge.{coming}
use Rattle.drawing.specs.HalfEdge.{forward_of}
use Rattle.drawing.specs.IsoEdits.{with_edge}
use Rattle.face_parts.proofs.DartPaths.{ring_is_known, ring_is_long}
use Rattle.face_split.proofs.Finished.{cut_by, has_cut, in_parts_one, in_parts_two, one_ids, ring_at_hand, shell_is, small_face, some_face, two_ids}
use Rattle.face_split.proofs.finishing.close.Goals as goal

pub ring_path-requires-clause-known : goal.ring_path-requires-clause-known
ring_path-requires-clause-known g c =
    let h = c.requires in
    ring_is_known c.tables.result.now.rows.edges c.deref.result.now (with_edge h.before h.start h.end h.line c.args.face) (forward_of (coming h.before h.start h.end h.line c.args.face))
    (ring_at_hand h.before h.start h.end h.line c.args.face c.args.draft.now.rows c.tables.result.now.rows c.args.rings.now.border c.args.rings.now.ring.items c.deref.result.now h.added h.on_left c.tables.ensures c.deref.ensures.value)

pub ring_path-requires-clause-long : goal.ring_path-requires-clause-long
ring_path-requires-clause-long g c =
    let h = c.requires in
    ring_is_long c.tables.result.now.rows.edges c.deref.result.now (with_edge h.before h.start h.end h.line c.args.face) (forward_of (coming h.before h.start h.end h.line c.args.face))
    (ring_at_hand h.before h.start h.end h.line c.args.face c.args.draft.now.rows c.tables.result.now.rows c.args.rings.now.border c.args.rings.now.ring.items c.deref.result.now h.added h.on_left c.tables.ensures c.deref.ensures.value)

pub divide_in_two-requires-clause-cut : goal.divide_in_two-requires-clause-cut
divide_in_two-requires-clause-cut g c =
    let h = c.requires in
    let at = ring_at_hand h.before h.start h.end h.line c.args.face c.args.draft.now.rows c.tables.result.now.rows c.args.rings.now.border c.args.rings.now.ring.items c.deref.result.now h.added h.on_left c.tables.ensures c.deref.ensures.value in
    has_cut c.args.draft.now.rows c.args.edge c.args.face c.args.rings.now.border c.args.rings.now.ring.items c.in_ok-path.path c.of-cut.result h
    (c.in_ok-path.ensures.segments (with_edge h.before h.start h.end h.line c.args.face) (forward_of (coming h.before h.start h.end h.line c.args.face)) at) c.of-cut.ensures

pub divide_in_two-requires-clause-some : goal.divide_in_two-requires-clause-some
divide_in_two-requires-clause-some g c = some_face c.args.both c.args.face (sym c.are_both_new-two.ensures ∙ c.if-two.true)

pub edge_and_faces-requires : goal.edge_and_faces-requires
edge_and_faces-requires g c =
    let h = c.requires in small_face h.before h.start h.end h.line c.args.face c.in_ok-left.left c.args.draft.now.rows h.added c.in_ok-left.ensures.face

pub returns-then-two-clause-ids : goal.returns-then-two-clause-ids
returns-then-two-clause-ids g c S a b line added edge_is =
    c.edge_and_faces.ensures ∙ two_ids S a b line c.args.face c.args.edge c.in_ok-left.left c.args.draft.now.rows c.args.both (sym c.are_both_new-two.ensures ∙ c.if-two.true) added edge_is c.in_ok-left.ensures.face

pub returns-then-two-clause-rows : goal.returns-then-two-clause-rows
returns-then-two-clause-rows g c S a b line added edge_is left =
    let at = ring_at_hand S a b line c.args.face c.args.draft.now.rows c.tables.result.now.rows c.args.rings.now.border c.args.rings.now.ring.items c.deref.result.now added left c.tables.ensures c.deref.ensures.value in
    let closes = c.in_ok-path.ensures.segments (with_edge S a b line c.args.face) (forward_of (coming S a b line c.args.face)) at in
    c.in_ok-left.ensures.rows S a b line added edge_is (cut_by S a b line c.args.face c.args.rings.now.border c.args.rings.now.ring.items c.in_ok-path.path c.of-cut.result left closes c.of-cut.ensures)
    ∙ in_parts_two S a b line c.args.face c.args.both (sym c.are_both_new-two.ensures ∙ c.if-two.true)

pub divide_in_one-requires : goal.divide_in_one-requires
divide_in_one-requires g c =
    let h = c.requires in
    let at = ring_at_hand h.before h.start h.end h.line c.args.face c.args.draft.now.rows c.tables.result.now.rows c.args.rings.now.border c.args.rings.now.ring.items c.deref.result.now h.added h.on_left c.tables.ensures c.deref.ensures.value in
    has_cut c.args.draft.now.rows c.args.edge c.args.face c.args.rings.now.border c.args.rings.now.ring.items c.in_ok-path.path c.of-cut.result h
    (c.in_ok-path.ensures.segments (with_edge h.before h.start h.end h.line c.args.face) (forward_of (coming h.before h.start h.end h.line c.args.face)) at) c.of-cut.ensures

pub returns-clause-ids : goal.returns-clause-ids
returns-clause-ids g c S a b line added edge_is =
    c.edge_and_face.ensures ∙ one_ids S a b line c.args.face c.args.edge c.in_ok-new.new c.args.draft.now.rows c.args.both (sym c.are_both_new-two.ensures ∙ c.if-two.false) added edge_is c.in_ok-new.ensures.face

pub returns-clause-rows : goal.returns-clause-rows
returns-clause-rows g c S a b line added edge_is left =
    let at = ring_at_hand S a b line c.args.face c.args.draft.now.rows c.tables.result.now.rows c.args.rings.now.border c.args.rings.now.ring.items c.deref.result.now added left c.tables.ensures c.deref.ensures.value in
    let closes = c.in_ok-path.ensures.segments (with_edge S a b line c.args.face) (forward_of (coming S a b line c.args.face)) at in
    c.in_ok-new.ensures.rows S a b line added edge_is (cut_by S a b line c.args.face c.args.rings.now.border c.args.rings.now.ring.items c.in_ok-path.path c.of-cut.result left closes c.of-cut.ensures)
    (shell_is S a b line c.args.face c.in_ok-path.path c.is_shell-shell.result c.is_shell-shell.ensures closes)
    ∙ in_parts_one S a b line c.args.face c.args.both (sym c.are_both_new-two.ensures ∙ c.if-two.false)
