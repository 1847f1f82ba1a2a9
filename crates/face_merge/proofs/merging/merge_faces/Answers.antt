use Rattle.std.proofs.Common.{◌==◌, eq-eqb, ap, sym, ◌∙◌}
use Rattle.std.proofs.lemmas.Bool.{ne_eqb}
use Rattle.std.proofs.lemmas.Result.{on_ok_weaker}
use Rattle.drawing.specs.Apply.{apply}
use Rattle.drawing.specs.Change.{EdgeGoes, FacesJoin, FacesJoinAnew}
use Rattle.drawing.specs.Edits.{merged}
use Rattle.face_merge.proofs.Outcomes.{at_alone, at_anew, at_kept, at_left_zero, at_right_zero, tables_named}
use Rattle.face_merge.proofs.merging.merge_faces.Goals as goal

pub returns-then-left-right-clause-rows : goal.returns-then-left-right-clause-rows
returns-then-left-right-clause-rows g c S e done removed is =
    let r = c.args.edge.now in
    let same = (λ i. sym c.left.view_is i == sym c.right.view_is i) ∙ eq-eqb c.left.inside.0 c.right.inside.0 c.if-left-right.true in
    let at = at_alone c.args.anew S e r removed.edge same in
    on_ok_weaker c.keep_alone.result (λ made. made ∙ tables_named (apply S (EdgeGoes e)).drawing r.left_face done (merged c.args.anew S e) at is) (c.keep_alone.ensures.rows S e removed)

pub returns-then-left-eq0-clause-rows : goal.returns-then-left-eq0-clause-rows
returns-then-left-eq0-clause-rows g c S e done removed is =
    let r = c.args.edge.now in
    let other = (λ i. sym c.left.view_is i == sym c.right.view_is i) ∙ ne_eqb c.left.inside.0 c.right.inside.0 c.if-left-right.false in
    let zero = (λ i. sym c.left.view_is i == 0) ∙ eq-eqb c.left.inside.0 0 c.if-left-eq0.true in
    let at = at_left_zero c.args.anew S e r removed.edge other zero in
    on_ok_weaker c.keep_one.result (λ made. made ∙ tables_named (apply S (FacesJoin e r.left_face r.right_face)).drawing r.left_face done (merged c.args.anew S e) at is) (c.keep_one.ensures.rows S e removed)

pub returns-then-right-eq0-clause-rows : goal.returns-then-right-eq0-clause-rows
returns-then-right-eq0-clause-rows g c S e done removed is =
    let r = c.args.edge.now in
    let other = (λ i. sym c.left.view_is i == sym c.right.view_is i) ∙ ne_eqb c.left.inside.0 c.right.inside.0 c.if-left-right.false in
    let some = (λ i. sym c.left.view_is i == 0) ∙ ne_eqb c.left.inside.0 0 c.if-left-eq0.false in
    let zero = (λ i. sym c.right.view_is i == 0) ∙ eq-eqb c.right.inside.0 0 c.if-right-eq0.true in
    let at = at_right_zero c.args.anew S e r removed.edge other some zero in
    on_ok_weaker c.keep_one-then-right-eq0.result (λ made. made ∙ tables_named (apply S (FacesJoin e r.right_face r.left_face)).drawing r.right_face done (merged c.args.anew S e) at is)
    (c.keep_one-then-right-eq0.ensures.rows S e removed)

pub returns-then-anew-clause-rows : goal.returns-then-anew-clause-rows
returns-then-anew-clause-rows g c S e done removed is =
    let r = c.args.edge.now in
    let other = (λ i. sym c.left.view_is i == sym c.right.view_is i) ∙ ne_eqb c.left.inside.0 c.right.inside.0 c.if-left-right.false in
    let left = (λ i. sym c.left.view_is i == 0) ∙ ne_eqb c.left.inside.0 0 c.if-left-eq0.false in
    let right = (λ i. sym c.right.view_is i == 0) ∙ ne_eqb c.right.inside.0 0 c.if-right-eq0.false in
    let at = ap (λ b. merged b S e) c.if-anew.true ∙ at_anew S e r removed.edge (record { other = other; left = left; right = right }) in
    on_ok_weaker c.keep_anew.result (λ made. made ∙ tables_named (apply S (FacesJoinAnew e)).drawing S.next_ids.face done (merged c.args.anew S e) at is) (c.keep_anew.ensures.rows S e removed)

pub returns-clause-rows : goal.returns-clause-rows
returns-clause-rows g c S e done removed is =
    let r = c.args.edge.now in
    let other = (λ i. sym c.left.view_is i == sym c.right.view_is i) ∙ ne_eqb c.left.inside.0 c.right.inside.0 c.if-left-right.false in
    let left = (λ i. sym c.left.view_is i == 0) ∙ ne_eqb c.left.inside.0 0 c.if-left-eq0.false in
    let right = (λ i. sym c.right.view_is i == 0) ∙ ne_eqb c.right.inside.0 0 c.if-right-eq0.false in
    let at = ap (λ b. merged b S e) c.if-anew.false ∙ at_kept S e r removed.edge (record { other = other; left = left; right = right }) in
    on_ok_weaker c.keep_one-2.result (λ made. made ∙ tables_named (apply S (FacesJoin e r.right_face r.left_face)).drawing r.right_face done (merged c.args.anew S e) at is)
    (c.keep_one-2.ensures.rows S e removed)
