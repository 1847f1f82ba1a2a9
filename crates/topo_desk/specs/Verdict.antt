-- What an edit is answered on a history: by Step, and then by the limits on ids and on the journal.
use Rattle.std.specs.Prelude.{◌≡◌, ◌⊎◌, ◌+◌, nat_lt, not, IsTrue, List, [], ◌∷◌, ◌++◌, length, Ok, Err, if◌then◌else◌}
use Rattle.topo_base.specs.declared.edit.Entry.{Entry}
use Rattle.topo_base.specs.declared.rule.Rule.TheVariants.{IdsSpent, HistoryFull}
use Rattle.topo_base.specs.declared.answer.Answer.{Answer}
use Rattle.topo_base.specs.declared.answer.Answer.TheVariants.{Done, Refused, DiskFault}
use Rattle.drawing.specs.Outcome.{Outcome}
use Rattle.drawing.specs.Step.{step}
use Rattle.drawing.specs.Replay.{replay}
use Rattle.drawing.specs.Accepted.{ids_within}
use Rattle.history_model.specs.Legal.{journal_length}
use Rattle.history_model.specs.Answers.{Bounds, entry_of}
use Rattle.history_model.specs.Run.{is_done}

-- the answer where nothing fails: the rule that refuses the edit; an id, or else the journal, would be beyond its limit; or it is done
abbrev pub verdict_of : Bounds → List Entry → Entry → Outcome → Answer
verdict_of m history x (Err rule) = Refused rule (length history)
verdict_of m history x (Ok done) =
    if not (ids_within m.max_id done.drawing)
    then Refused IdsSpent (length history)
    else (if nat_lt m.max_journal (journal_length (history ++ x ∷ [])) then Refused HistoryFull (length history) else Done done.ids (length history + 1))

abbrev pub verdict : Bounds → List Entry → Entry → Answer
verdict m history x = verdict_of m history x (step (replay history) x.edit)

-- what it may be answered where a disk may fail: so, or that the disk failed, where it would be done
abbrev pub IsTried : Bounds → List Entry → Entry → Answer → Type 0
IsTried m history x answer = (answer ≡ verdict m history x) ⊎ ((answer ≡ DiskFault) × IsTrue (is_done (verdict m history x)))

-- the history behind an answer
abbrev pub history_after : List Entry → Entry → Answer → List Entry
history_after history x answer = history ++ entry_of answer x
