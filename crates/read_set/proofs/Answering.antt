-- What is answered where an edit is accepted.
use Rattle.std.proofs.Common.{◌≡◌, Result, Ok, Err, sym, ap, subst}
use Rattle.std.specs.Prelude.{is_ok}
use Rattle.drawing.specs.Drawing.{Drawing}
use Rattle.drawing.specs.Outcome.{Accepted, Outcome}
use Rattle.read_set.specs.declared.edited.Edited.{Edited}
use Rattle.read_set.specs.declared.end.EditEnd.{EditEnd}
use Rattle.read_set.specs.declared.end.EditEnd.TheVariants.{Memory}
use Rattle.read_set.specs.Edited.{AnswersOutcome}

pub want_of_memory : (S : Drawing) (o : Outcome) (done : Accepted) (r : Result Edited EditEnd) → o ≡ Ok done → r ≡ Err Memory → AnswersOutcome S o r
want_of_memory S o done r is e = subst (AnswersOutcome S o) (sym e) (ap is_ok is)
