use Rattle.std.proofs.Common.{◌≡◌, ◌∙◌, ◌+◌, ℕ, None, arith, subst, sym}
use Rattle.std.specs.Prelude.{slice_get}
use Rattle.std.proofs.lemmas.List.{get_or_read}
use Rattle.topo_base.specs.declared.rows.FaceRow.{FaceRow}
use Rattle.drawing.specs.Rows.{row_at}
use Rattle.validate_topology.proofs.Counting.{none_counted, place_counted, zero_counted}
use Rattle.validate_topology.proofs.ring_lines.count_side.Goals as goal

pub returns-then-face-eq0-clause-counted : goal.returns-then-face-eq0-clause-counted
returns-then-face-eq0-clause-counted c tally are =
    let size = c.requires.len in
    zero_counted c.args.faces.now tally c.args.tallies.now.items c.args.ring c.args.face c.index.result.now c.with_shell.result c.rows.ensures.ascend (sym c.face.view_is ∙ c.if-face-eq0.true)
    (get_or_read c.args.tallies.now.items 0 c.index.result.now (omega arith) c.index.ensures c.index.result.now) c.with_shell.ensures are

pub returns-in_default-clause-counted : goal.returns-in_default-clause-counted
returns-in_default-clause-counted c tally are =
    none_counted c.args.faces.now tally c.args.tallies.now.items c.args.ring c.args.face (λ e. c.if-face-eq0.false (c.face.view_is ∙ e))
    (subst (λ (n : ℕ). row_at (λ (f : FaceRow). f.face_id) c.args.faces.now n ≡ None) c.face.view_is c.in_default.ensures.lookup) are

pub returns-clause-counted : goal.returns-clause-counted
returns-clause-counted c tally are =
    let size = c.requires.len in
    let place = c.in-Some.place in
    let within = c.in-Some.ensures.within in
    place_counted c.args.faces.now tally c.args.tallies.now.items c.args.ring c.args.face place c.index-2.result.now c.with_shell-2.result c.rows.ensures.ascend (λ e. c.if-face-eq0.false (c.face.view_is ∙ e)) within
    (subst (λ (n : ℕ). row_at (λ (f : FaceRow). f.face_id) c.args.faces.now n ≡ slice_get c.args.faces.now place) c.face.view_is c.in-Some.ensures.lookup)
    (get_or_read c.args.tallies.now.items (place + 1) c.index-2.result.now (omega arith) c.index-2.ensures c.index-2.result.now) c.with_shell-2.ensures are
