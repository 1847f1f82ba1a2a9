use Rattle.std.proofs.Common.{◌≡◌, Some, Ok, rules, refl, sym, ◌∙◌}
use Rattle.topo_base.specs.declared.rows.NodeRow.{NodeRow}
use Rattle.drawing.specs.AddEdge.{face_at_start}
use Rattle.drawing.specs.Edits.{add_edge}
use Rattle.drawing.specs.Drawing.{node_at}
use Rattle.drawing.specs.Tables.{drawn}
use Rattle.face_split.specs.Closing.{with_edge_in}
use Rattle.face_split.proofs.Placed.{accepted_where, edit_of, found_row, line_between, placed_where, refused_where, step_of}
use Rattle.read_set.proofs.Answering.{want_of_memory}
use Rattle.read_set.proofs.Keeping.{answer_keeps}
use Rattle.face_split.proofs.planning.add_edge.Goals as goal

pub returns-then-is_line_blocked-clause-answer : goal.returns-then-is_line_blocked-clause-answer
returns-then-is_line_blocked-clause-answer g c =
    let S = drawn c.args.tables.now.rows in
    let a : NodeRow = c.in-Some.first.now in
    let b : NodeRow = c.in-Some-node.last.now in
    let found_a : node_at S c.args.start ≡ Some a = found_row c.node.result c.in-Some.first (node_at S c.args.start) c.in-Some.is c.node.ensures.row in
    let found_b : node_at S c.args.end ≡ Some b = found_row c.node-2.result c.in-Some-node.last (node_at S c.args.end) c.in-Some-node.is c.node-2.ensures.row in
    let between = line_between S c.args.start c.args.end a b c.args.line.now found_a found_b c.vertices.ensures.some (sym c.goes_between.ensures ∙ c.if-not-goes_between.false)
    (sym c.is_simple.ensures.test ∙ c.if-not-is_simple.false) in
    refused_where S c.args.start c.args.end a b c.args.line.now c.args.both c.requires.subdivided found_a found_b between (sym c.is_line_blocked.ensures.test ∙ c.if-is_line_blocked.true)

pub with_edge-requires-clause-placed : goal.with_edge-requires-clause-placed
with_edge-requires-clause-placed g c =
    let S = drawn c.args.tables.now.rows in
    let a : NodeRow = c.in-Some.first.now in
    let b : NodeRow = c.in-Some-node.last.now in
    let found_a : node_at S c.args.start ≡ Some a = found_row c.node.result c.in-Some.first (node_at S c.args.start) c.in-Some.is c.node.ensures.row in
    let found_b : node_at S c.args.end ≡ Some b = found_row c.node-2.result c.in-Some-node.last (node_at S c.args.end) c.in-Some-node.is c.node-2.ensures.row in
    let between = line_between S c.args.start c.args.end a b c.args.line.now found_a found_b c.vertices.ensures.some (sym c.goes_between.ensures ∙ c.if-not-goes_between.false)
    (sym c.is_simple.ensures.test ∙ c.if-not-is_simple.false) in
    placed_where S a b c.args.line.now c.in_ok-face.face c.requires.subdivided between (sym c.is_line_blocked.ensures.test ∙ c.if-is_line_blocked.false) c.in_ok-face.ensures

pub returns-in_err-face-clause-answer : goal.returns-in_err-face-clause-answer
returns-in_err-face-clause-answer g c =
    let S = drawn c.args.tables.now.rows in
    let a : NodeRow = c.in-Some.first.now in
    let b : NodeRow = c.in-Some-node.last.now in
    let found_a : node_at S c.args.start ≡ Some a = found_row c.node.result c.in-Some.first (node_at S c.args.start) c.in-Some.is c.node.ensures.row in
    let found_b : node_at S c.args.end ≡ Some b = found_row c.node-2.result c.in-Some-node.last (node_at S c.args.end) c.in-Some-node.is c.node-2.ensures.row in
    let between = line_between S c.args.start c.args.end a b c.args.line.now found_a found_b c.vertices.ensures.some (sym c.goes_between.ensures ∙ c.if-not-goes_between.false)
    (sym c.is_simple.ensures.test ∙ c.if-not-is_simple.false) in
    let f = face_at_start S a c.args.line.now in
    let outcome = add_edge c.args.both S (node_at S c.args.start) (node_at S c.args.end) c.args.line.now in
    want_of_memory S outcome (with_edge_in c.args.both S a b c.args.line.now f) c.from_residual.result
    (accepted_where S c.args.start c.args.end a b c.args.line.now f c.args.both c.requires.subdivided found_a found_b between (sym c.is_line_blocked.ensures.test ∙ c.if-is_line_blocked.false) refl)
    (search rules)

pub returns-in_err-tried-clause-answer : goal.returns-in_err-tried-clause-answer
returns-in_err-tried-clause-answer g c =
    let S = drawn c.args.tables.now.rows in
    let a : NodeRow = c.in-Some.first.now in
    let b : NodeRow = c.in-Some-node.last.now in
    let found_a : node_at S c.args.start ≡ Some a = found_row c.node.result c.in-Some.first (node_at S c.args.start) c.in-Some.is c.node.ensures.row in
    let found_b : node_at S c.args.end ≡ Some b = found_row c.node-2.result c.in-Some-node.last (node_at S c.args.end) c.in-Some-node.is c.node-2.ensures.row in
    let between = line_between S c.args.start c.args.end a b c.args.line.now found_a found_b c.vertices.ensures.some (sym c.goes_between.ensures ∙ c.if-not-goes_between.false)
    (sym c.is_simple.ensures.test ∙ c.if-not-is_simple.false) in
    let f = c.in_ok-face.face in
    let outcome = add_edge c.args.both S (node_at S c.args.start) (node_at S c.args.end) c.args.line.now in
    want_of_memory S outcome (with_edge_in c.args.both S a b c.args.line.now f) c.from_residual-in_err-tried.result
    (accepted_where S c.args.start c.args.end a b c.args.line.now f c.args.both c.requires.subdivided found_a found_b between (sym c.is_line_blocked.ensures.test ∙ c.if-is_line_blocked.false)
    c.in_ok-face.ensures) (search rules)

pub returns-clause-answer : goal.returns-clause-answer
returns-clause-answer g c =
    let S = drawn c.args.tables.now.rows in
    let a : NodeRow = c.in-Some.first.now in
    let b : NodeRow = c.in-Some-node.last.now in
    let found_a : node_at S c.args.start ≡ Some a = found_row c.node.result c.in-Some.first (node_at S c.args.start) c.in-Some.is c.node.ensures.row in
    let found_b : node_at S c.args.end ≡ Some b = found_row c.node-2.result c.in-Some-node.last (node_at S c.args.end) c.in-Some-node.is c.node-2.ensures.row in
    let between = line_between S c.args.start c.args.end a b c.args.line.now found_a found_b c.vertices.ensures.some (sym c.goes_between.ensures ∙ c.if-not-goes_between.false)
    (sym c.is_simple.ensures.test ∙ c.if-not-is_simple.false) in
    let f = c.in_ok-face.face in
    let outcome = add_edge c.args.both S (node_at S c.args.start) (node_at S c.args.end) c.args.line.now in
    c.into_edited.ensures S outcome (with_edge_in c.args.both S a b c.args.line.now f)
    (accepted_where S c.args.start c.args.end a b c.args.line.now f c.args.both c.requires.subdivided found_a found_b between (sym c.is_line_blocked.ensures.test ∙ c.if-is_line_blocked.false)
    c.in_ok-face.ensures) c.in_ok-tried.ensures

pub returns-clause-kept : goal.returns-clause-kept
returns-clause-kept g c =
    let S = drawn c.args.tables.now.rows in
    answer_keeps S (edit_of c.args.both c.args.start c.args.end c.args.line.now) _ (Ok c.into_edited.result) (step_of S c.args.both c.args.start c.args.end c.args.line.now) (returns-clause-answer g c)
