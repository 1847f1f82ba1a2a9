-- Lines that a node or an edge blocks.
use Rattle.std.specs.Prelude.{◌≡◌, pos, List, [], ◌∷◌, None, true}
use Rattle.topo_base.specs.declared.edit.Edit.{Edit}
use Rattle.topo_base.specs.declared.edit.Edit.TheVariants.{AddIsoNode, AddEdgeModFace}
use Rattle.topo_base.specs.declared.rule.Rule.TheVariants.{LineBlocked}
use Rattle.drawing.specs.Drawing.{Drawing, nothing_drawn}
use Rattle.drawing.specs.Outcome.{the_node, the_edge}
use Rattle.topo_base.specs.declared.answer.Answer.{Answer}
use Rattle.topo_base.specs.declared.answer.Answer.TheVariants.{Done, Refused}
use Rattle.drawing.specs.Replay.{answers, after_all}
use Rattle.drawing.specs.Subdivision.{is_consistent}
use Rattle.topo_model.specs.examples.Rows.{at}

abbrev pub line_blocked : List Edit
line_blocked =
    AddIsoNode None (at (pos 0) (pos 0))
    ∷ AddIsoNode None (at (pos 4) (pos 0))
    ∷ AddIsoNode None (at (pos 2) (pos 0))
    ∷ AddEdgeModFace 1 2 (at (pos 0) (pos 0) ∷ at (pos 4) (pos 0) ∷ [])
    ∷ AddEdgeModFace 1 3 (at (pos 0) (pos 0) ∷ at (pos 2) (pos 0) ∷ [])
    ∷ AddEdgeModFace 1 2 (at (pos 0) (pos 0) ∷ at (pos 2) (pos 0) ∷ at (pos 4) (pos 0) ∷ [])
    ∷ AddEdgeModFace 1 2 (at (pos 0) (pos 0) ∷ at (pos 2) (pos 2) ∷ at (pos 4) (pos 0) ∷ [])
    ∷ []

abbrev pub line_blocked_drawing : Drawing
line_blocked_drawing = after_all nothing_drawn line_blocked

abbrev pub line_blocked_replies : List Answer
line_blocked_replies =
    Done (the_node 1 ∷ []) 1
    ∷ Done (the_node 2 ∷ []) 2
    ∷ Done (the_node 3 ∷ []) 3
    ∷ Refused LineBlocked 3
    ∷ Done (the_edge 1 ∷ []) 4
    ∷ Refused LineBlocked 4
    ∷ Done (the_edge 2 ∷ []) 5
    ∷ []

abbrev pub LineBlockedReplies : Type 0
LineBlockedReplies =
    answers nothing_drawn 0 line_blocked ≡ line_blocked_replies

abbrev pub LineBlockedConsistent : Type 0
LineBlockedConsistent =
    is_consistent line_blocked_drawing ≡ true
