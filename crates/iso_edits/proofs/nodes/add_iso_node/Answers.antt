use Rattle.std.proofs.Common.{◌≡◌, [], ◌∷◌, sym, ap, ◌∙◌, false, true, refl}
use Rattle.topo_base.specs.declared.edit.Edit.TheVariants.{AddIsoNode}
use Rattle.topo_base.specs.declared.rows.Counters.{Counters}
use Rattle.drawing.specs.Blocked.{is_blocked}
use Rattle.drawing.specs.Drawing.{has_face}
use Rattle.drawing.specs.Faces.{face_at}
use Rattle.drawing.specs.IsoEdits.{accepts_face, is_given_face}
use Rattle.drawing.specs.Outcome.{the_node}
use Rattle.read_set.specs.Plans.{IsPlanFor}
use Rattle.drawing.specs.Tables.{drawn}
use Rattle.iso_edits.proofs.IsolatedNodes.{node_comes, node_comes_where, face_listed}
use Rattle.iso_edits.proofs.KnownFaces.{knows_faces}
use Rattle.iso_edits.proofs.Answering.{answers_with}
use Rattle.read_set.proofs.Keeping.{answer_keeps}
use Rattle.iso_edits.proofs.nodes.add_iso_node.Goals as goal

pub returns-clause-answer : goal.returns-clause-answer
returns-clause-answer g c =
    let S = drawn c.args.tables.now.rows in
    let face = c.args.face in
    let p = c.args.geom in
    let n = c.counters-node.result.node in
    let f = c.face_at-within.result in
    let within : f ≡ face_at S p = c.face_at-within.ensures.face in
    let next : n ≡ S.next_ids.node = ap (λ (k : Counters). k.node) c.counters-node.ensures in
    let accepts : accepts_face S face ≡ true = sym c.accepts_face.ensures ∙ c.if-not-accepts_face.false in
    let free : is_blocked S p ≡ false = sym c.is_blocked.ensures.test ∙ c.if-is_blocked.false in
    let given : is_given_face face f ≡ true = sym c.is_given_face.ensures ∙ c.if-not-is_given_face.false in
    let there : has_face S f ≡ true = ap (has_face S) within ∙ face_listed S p (knows_faces S c.requires.ready).universe in
    let one = c.add_node-one.result in
    let plan : IsPlanFor S (AddIsoNode face p) (one ∷ []) (the_node n ∷ []) =
    rw (c.add_node-one.ensures, next) (node_comes S face p f there c.requires.ready.node_more (node_comes_where S face p f within accepts free given)) in
    answers_with S (AddIsoNode face p) (one ∷ []) (the_node n ∷ []) c.edited_by.result plan
    c.edited_by.ensures.writes c.edited_by.ensures.ids c.edited_by.ensures.err

pub returns-clause-kept : goal.returns-clause-kept
returns-clause-kept g c = answer_keeps (drawn c.args.tables.now.rows) (AddIsoNode c.args.face c.args.geom) _ c.edited_by.result refl (returns-clause-answer g c)
