use Rattle.std.proofs.Common.{sym, ap, ◌∙◌}
use Rattle.topo_base.specs.declared.rows.Counters.{Counters}
use Rattle.drawing.specs.Tables.{Tables, drawn}
use Rattle.face_split.proofs.Placed.{has_added, placed_face, was_added}
use Rattle.face_split.proofs.planning.with_edge.Goals as goal

pub add_to_draft-requires-clause-face : goal.add_to_draft-requires-clause-face
add_to_draft-requires-clause-face g c = placed_face (drawn c.args.tables.now.rows) c.args.start.now c.args.end.now c.args.line.now c.args.face c.requires.ringed c.requires.placed c.vertices.ensures.some

pub finish-requires : goal.finish-requires
finish-requires g c =
    let S = drawn c.args.tables.now.rows in
    let edge_is = ap (λ (n : Counters). n.edge) c.counters.ensures in
    has_added S c.args.start.now c.args.end.now c.args.line.now c.args.face c.counters.result.edge c.in_ok-draft.draft.rows
    (was_added S c.args.start.now c.args.end.now c.args.line.now c.args.face c.in_ok-draft.draft.rows c.requires.ready c.requires.ringed c.requires.placed c.vertices.ensures.some c.in_ok-draft.ensures.rows) edge_is

pub returns : goal.returns
returns g c =
    let S = drawn c.args.tables.now.rows in
    let edge_is = ap (λ (n : Counters). n.edge) c.counters.ensures in
    let added = was_added S c.args.start.now c.args.end.now c.args.line.now c.args.face c.in_ok-draft.draft.rows c.requires.ready c.requires.ringed c.requires.placed c.vertices.ensures.some c.in_ok-draft.ensures.rows in
    record {
      draft = c.in_ok-ids.ensures.drafted S c.in_ok-draft.ensures.draft;
      rows = c.in_ok-ids.ensures.rows S c.args.start.now c.args.end.now c.args.line.now added edge_is;
      ids = sym (c.in_ok-ids.ensures.ids S c.args.start.now c.args.end.now c.args.line.now added edge_is);
    }
