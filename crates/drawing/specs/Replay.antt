-- A list of edits, one after another, and what each is answered.
use Rattle.std.specs.Prelude.{ℕ, ◌+◌, List, [], ◌∷◌, Ok, Err}
use Rattle.topo_base.specs.declared.edit.Edit.{Edit}
use Rattle.topo_base.specs.declared.edit.Entry.{Entry}
use Rattle.topo_base.specs.declared.answer.Answer.{Answer}
use Rattle.topo_base.specs.declared.answer.Answer.TheVariants.{Done, Refused}
use Rattle.drawing.specs.Drawing.{Drawing, nothing_drawn}
use Rattle.drawing.specs.Outcome.{Outcome}
use Rattle.drawing.specs.Step.{step}

-- the drawing after an outcome: the same where the edit is refused
abbrev pub drawing_of : Drawing → Outcome → Drawing
drawing_of S (Ok done) = done.drawing
drawing_of S (Err rule) = S

abbrev pub after : Drawing → Edit → Drawing
after S e = drawing_of S (step S e)

-- the drawing after these edits, one after another
abbrev pub after_all : Drawing → List Edit → Drawing
after_all S [] = S
after_all S (e ∷ es) = after_all (after S e) es

-- Replay: the drawing of a history
abbrev pub edits_of : List Entry → List Edit
edits_of [] = []
edits_of (x ∷ xs) = x.edit ∷ edits_of xs

abbrev pub replay : List Entry → Drawing
replay history = after_all nothing_drawn (edits_of history)

-- the answer to an edit on a history of this length
abbrev pub answer_of : ℕ → Outcome → Answer
answer_of front (Ok done) = Done done.ids (front + 1)
answer_of front (Err rule) = Refused rule front

abbrev pub front_after : ℕ → Outcome → ℕ
front_after front (Ok done) = front + 1
front_after front (Err rule) = front

-- the answers to these edits, one after another, on a history of this length
abbrev pub answers : Drawing → ℕ → List Edit → List Answer
answers S front [] = []
answers S front (e ∷ es) = answer_of front (step S e) ∷ answers (after S e) (front_after front (step S e)) es
