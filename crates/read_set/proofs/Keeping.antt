-- What the row writes of an edit keep.
use Rattle.std.proofs.Common.{◌≡◌, List, IsTrue, Result, Ok, Err, sym, ap, ◌∙◌, subst}
use Rattle.topo_base.specs.declared.edit.Edit.{Edit}
use Rattle.topo_base.specs.declared.element.Element.{Element}
use Rattle.topo_base.specs.declared.write.RowWrite.{RowWrite}
use Rattle.drawing.specs.Accepted.{keeps_limits}
use Rattle.drawing.specs.Drawing.{Drawing}
use Rattle.drawing.specs.Outcome.{Outcome}
use Rattle.drawing.specs.Replay.{drawing_of}
use Rattle.drawing.specs.Step.{step}
use Rattle.drawing.specs.Tables.{tables_of}
use Rattle.covered_laws.proofs.DefinitionTelling.{definition_tells_all}
use Rattle.read_set.specs.Edited.{AnswersOutcome}
use Rattle.read_set.specs.Kept.{Keeps, KeepsDrawing}
use Rattle.read_set.specs.Plans.{AreWritesOf, IsPlanFor}
use Rattle.read_set.specs.declared.edited.Edited.{Edited}
use Rattle.read_set.specs.declared.end.EditEnd.{EditEnd}

pub writes_keep : (S : Drawing) (e : Edit) (ws : List RowWrite) (ids : List Element) → IsTrue (keeps_limits e) → IsPlanFor S e ws ids → KeepsDrawing S e ws
writes_keep S e ws ids limits plan = record {
  tables = plan.tables ∙ ap tables_of (sym (ap (drawing_of S) plan.accepted));
  subdivision = definition_tells_all.each_edit S e limits;
  points = definition_tells_all.each_feature S e limits;
}

-- so it is of what is answered of an edit
pub answer_keeps : (S : Drawing) (e : Edit) (o : Outcome) (r : Result Edited EditEnd) → o ≡ step S e → AnswersOutcome S o r → Keeps S e r
answer_keeps S e o (Ok d) is h = λ limits. writes_keep S e d.writes d.ids limits (subst (λ (x : Outcome). AreWritesOf S x d.writes d.ids) is h)
answer_keeps S e o (Err end) is h = tt
