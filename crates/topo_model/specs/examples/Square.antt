-- Two editors on a square that two of them divide.
use Rattle.std.specs.Prelude.{◌≡◌, ◌+◌, pos, true, List, [], ◌∷◌, map, None, Some, Err}
use Rattle.topo_base.specs.declared.edit.Edit.{Edit}
use Rattle.topo_base.specs.declared.edit.Edit.TheVariants.{AddIsoNode, AddEdgeModFace, ModEdgeSplit}
use Rattle.topo_base.specs.declared.edit.Entry.{Entry}
use Rattle.topo_base.specs.declared.rule.Rule.TheVariants.{LineBlocked}
use Rattle.topo_base.specs.declared.element.Element.TheVariants.{Drawing as TheDrawing}
use Rattle.drawing.specs.Outcome.{the_node, the_edge, the_face}
use Rattle.drawing.specs.Replay.{replay}
use Rattle.drawing.specs.Stamps.{stamp}
use Rattle.drawing.specs.Step.{step}
use Rattle.history_model.specs.Reads.{reads, whole_drawing}
use Rattle.history_model.specs.Legal.{is_legal, journal_length}
use Rattle.topo_base.specs.declared.answer.Answer.TheVariants.{Done, Stale}
use Rattle.history_model.specs.Answers.{Bounds}
use Rattle.core_law.specs.Core.{Terms, State, Look, Commit, Tell, entry_by, after_event, commit_answer, may_run}
use Rattle.topo_model.specs.examples.Rows.{at}

abbrev pub square : List Entry
square =
    map (λ e. record { editor = 1; edit = e })
    (AddIsoNode None (at (pos 0) (pos 0))
    ∷ AddEdgeModFace 1 1 (at (pos 0) (pos 0) ∷ at (pos 4) (pos 0) ∷ at (pos 4) (pos 4) ∷ at (pos 0) (pos 4) ∷ at (pos 0) (pos 0) ∷ [])
    ∷ ModEdgeSplit 1 (at (pos 4) (pos 0)) ∷ ModEdgeSplit 2 (at (pos 4) (pos 4)) ∷ ModEdgeSplit 3 (at (pos 0) (pos 4)) ∷ [])

abbrev pub rising : Edit
rising = AddEdgeModFace 1 3 (at (pos 0) (pos 0) ∷ at (pos 4) (pos 4) ∷ [])

abbrev pub falling : Edit
falling = AddEdgeModFace 2 4 (at (pos 4) (pos 0) ∷ at (pos 0) (pos 4) ∷ [])

abbrev pub standard : Bounds
standard = record { max_id = 16777215; max_journal = 268435456 }

-- where each edit reads what it depends on, and where it reads the whole drawing
abbrev pub by_parts : Terms
by_parts = record { reads = reads; bounds = standard }

abbrev pub by_whole : Terms
by_whole = record { reads = whole_drawing; bounds = standard }

-- both have looked after five entries, and the first has committed
abbrev pub both_looked : State
both_looked = record { history = square; seen = λ k. 5 }

abbrev pub first_committed : State
first_committed = after_event by_parts both_looked (Commit 1 rising 5)

-- the second is told that the face, or the drawing, has changed, and then that its line is blocked
abbrev pub FirstIsDone : Type 0
FirstIsDone = commit_answer by_parts square (entry_by 1 rising) 5 ≡ Done (the_edge 5 ∷ the_face 2 ∷ []) 6

abbrev pub SecondIsStale : Type 0
SecondIsStale =
    (commit_answer by_parts first_committed.history (entry_by 2 falling) 5 ≡ Stale (the_face 1) 5 6 6)
    × (commit_answer by_whole first_committed.history (entry_by 2 falling) 5 ≡ Stale TheDrawing 5 6 6)

abbrev pub SecondIsBlocked : Type 0
SecondIsBlocked = step (replay first_committed.history) falling ≡ Err LineBlocked

abbrev pub MayRun : Type 0
MayRun = may_run by_parts both_looked (Commit 1 rising 5 ∷ Tell 2 1 6 ∷ Commit 2 falling 5 ∷ Look 2 falling ∷ []) ≡ true

-- what is read, and the stamps of what has changed
abbrev pub ReadsAre : Type 0
ReadsAre = reads (replay square) rising ≡ the_face 1 ∷ the_node 1 ∷ the_node 3 ∷ []

abbrev pub StampsAre : Type 0
StampsAre =
    map (stamp first_committed.history) (the_face 0 ∷ the_face 1 ∷ the_face 2 ∷ the_edge 1 ∷ the_edge 2 ∷ the_edge 3 ∷ the_edge 4 ∷ the_edge 5 ∷ the_node 1 ∷ the_node 2 ∷ the_node 3 ∷ the_node 4 ∷ TheDrawing ∷ [])
    ≡ 5 ∷ 6 ∷ 6 ∷ 5 ∷ 6 ∷ 6 ∷ 6 ∷ 6 ∷ 6 ∷ 3 ∷ 6 ∷ 6 ∷ 6 ∷ []

-- two nodes in two faces do not disturb each other, and two in one do
abbrev pub in_one : Edit
in_one = AddIsoNode (Some 1) (at (pos 3) (pos 1))

abbrev pub in_two : Edit
in_two = AddIsoNode (Some 2) (at (pos 1) (pos 3))

abbrev pub in_one_too : Edit
in_one_too = AddIsoNode (Some 1) (at (pos 3) (pos 2))

abbrev pub one_in_one : List Entry
one_in_one = (after_event by_parts first_committed (Commit 1 in_one 6)).history

abbrev pub NodesApart : Type 0
NodesApart =
    (commit_answer by_parts first_committed.history (entry_by 1 in_one) 6 ≡ Done (the_node 5 ∷ []) 7)
    × (commit_answer by_parts one_in_one (entry_by 2 in_two) 6 ≡ Done (the_node 6 ∷ []) 8)

abbrev pub NodesTogether : Type 0
NodesTogether = commit_answer by_parts one_in_one (entry_by 2 in_one_too) 6 ≡ Stale (the_face 1) 6 7 7

-- the journal: 8 bytes and the frames
abbrev pub IsLegal : Type 0
IsLegal = (is_legal 16777215 268435456 square ≡ true) × (journal_length square ≡ 8 + (27 + (102 + (30 + (30 + 30)))))
