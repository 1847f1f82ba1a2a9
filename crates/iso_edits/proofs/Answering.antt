-- What is answered where an edit is accepted.
use Rattle.std.proofs.Common.{◌≡◌, refl, List, Result, Ok, Err, sym, subst, ap, ◌∙◌, Option, Some, Bor}
use Rattle.std.specs.Option.{option_copied}
use Rattle.std.specs.Result.{IfOk, IfErr, IsOk}
use Rattle.topo_base.specs.declared.edit.Edit.{Edit}
use Rattle.topo_base.specs.declared.element.Element.{Element}
use Rattle.topo_base.specs.declared.write.RowWrite.{RowWrite}
use Rattle.drawing.specs.Drawing.{Drawing}
use Rattle.read_set.specs.Plans.{IsPlanFor}
use Rattle.drawing.specs.Step.{step}
use Rattle.read_set.specs.declared.edited.Edited.{Edited}
use Rattle.read_set.specs.declared.end.EditEnd.{EditEnd}
use Rattle.read_set.specs.declared.end.EditEnd.TheVariants.{Refused, Memory}
use Rattle.read_set.specs.Edited.{AnswersOutcome}

-- these writes and ids, or want of memory, answers an edit for which they are right
pub answers_with : (S : Drawing) (e : Edit) (ws : List RowWrite) (ids : List Element) (r : Result Edited EditEnd) → IsPlanFor S e ws ids
    → IfOk r (λ (d : Edited). d.writes ≡ ws) → IfOk r (λ (d : Edited). d.ids ≡ ids) → IfErr r (λ (end : EditEnd). end ≡ Memory) → AnswersOutcome S (step S e) r
answers_with S e ws ids (Ok d) plan w i m = subst (λ (us : List RowWrite). IsPlanFor S e us d.ids) (sym w) (subst (λ (xs : List Element). IsPlanFor S e ws xs) (sym i) plan)
answers_with S e ws ids (Err (Refused rule)) plan w i m = absurd cc
answers_with S e ws ids (Err Memory) plan w i m = subst IsOk (sym plan.accepted) refl

-- the row that was found
pub found_row : {R : Type 0} (found : Option (Bor R)) (row : Bor R) (wanted : Option R) → found ≡ Some row → option_copied found ≡ wanted → wanted ≡ Some (row.now)
found_row found row wanted is e = sym e ∙ ap option_copied is
