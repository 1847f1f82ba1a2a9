-- What a planner answers of an edit.
use Rattle.std.specs.Prelude.{◌≡◌, Result, Ok, Err, IsOk}
use Rattle.drawing.specs.Drawing.{Drawing}
use Rattle.drawing.specs.Outcome.{Accepted, Outcome}
use Rattle.drawing.specs.Tables.{tables_of}
use Rattle.read_set.specs.Drafted.{IsDraftOf}
use Rattle.read_set.specs.Plans.{AreWritesOf}
use Rattle.read_set.specs.declared.edited.Edited.{Edited}
use Rattle.read_set.specs.declared.edited.Tried.{Tried}
use Rattle.read_set.specs.declared.end.EditEnd.{EditEnd}
use Rattle.read_set.specs.declared.end.EditEnd.TheVariants.{Refused, Memory}

-- the draft has the tables of what is done, and the ids are its ids
pub record IsTried (S : Drawing) (done : Accepted) (d : Tried) : Type 0 where
  pub draft : IsDraftOf S d.draft
  pub rows : d.draft.rows ≡ tables_of done.drawing
  pub ids : done.ids ≡ d.ids

-- the writes and the ids are right for the outcome
abbrev pub Follows : Drawing → Outcome → Edited → Type 0
Follows S o d = AreWritesOf S o d.writes d.ids

-- such writes and ids; the rule that refuses it; or want of memory, where it is accepted
abbrev pub AnswersOutcome : Drawing → Outcome → Result Edited EditEnd → Type 0
AnswersOutcome S o (Ok d) = Follows S o d
AnswersOutcome S o (Err (Refused rule)) = o ≡ Err rule
AnswersOutcome S o (Err Memory) = IsOk o
