-- The rules on isolated nodes and edges.
use Rattle.std.specs.Prelude.{◌≡◌, pos, List, [], ◌∷◌, Some, None, true}
use Rattle.topo_base.specs.declared.edit.Edit.{Edit}
use Rattle.topo_base.specs.declared.edit.Edit.TheVariants.{AddIsoNode, MoveIsoNode, RemoveIsoNode, AddIsoEdge}
use Rattle.topo_base.specs.declared.rule.Rule.TheVariants.{NoFace, NotIsolated, PointBlocked, LineBlocked, SameNode}
use Rattle.drawing.specs.Drawing.{Drawing, nothing_drawn}
use Rattle.drawing.specs.Outcome.{the_node, the_edge}
use Rattle.topo_base.specs.declared.answer.Answer.{Answer}
use Rattle.topo_base.specs.declared.answer.Answer.TheVariants.{Done, Refused}
use Rattle.drawing.specs.Replay.{answers, after_all}
use Rattle.drawing.specs.Subdivision.{is_consistent}
use Rattle.topo_model.specs.examples.Rows.{at}

abbrev pub iso_rules : List Edit
iso_rules =
    AddIsoNode None (at (pos 0) (pos 0))
    ∷ AddIsoNode None (at (pos 4) (pos 0))
    ∷ AddIsoNode None (at (pos 2) (pos 0))
    ∷ AddIsoEdge 1 2 (at (pos 0) (pos 0) ∷ at (pos 4) (pos 0) ∷ [])
    ∷ AddIsoEdge 1 2 (at (pos 0) (pos 0) ∷ at (pos 2) (pos 2) ∷ at (pos 4) (pos 0) ∷ [])
    ∷ MoveIsoNode 3 (at (pos 2) (pos 2))
    ∷ MoveIsoNode 3 (at (pos 2) (pos 1))
    ∷ RemoveIsoNode 1
    ∷ AddIsoEdge 3 3 (at (pos 2) (pos 1) ∷ at (pos 2) (pos 0) ∷ [])
    ∷ AddIsoNode (Some 0) (at (pos 0) (pos 0))
    ∷ AddIsoNode (Some 5) (at (pos 1) (pos 1))
    ∷ []

abbrev pub iso_rules_drawing : Drawing
iso_rules_drawing = after_all nothing_drawn iso_rules

abbrev pub iso_rules_replies : List Answer
iso_rules_replies =
    Done (the_node 1 ∷ []) 1
    ∷ Done (the_node 2 ∷ []) 2
    ∷ Done (the_node 3 ∷ []) 3
    ∷ Refused LineBlocked 3
    ∷ Done (the_edge 1 ∷ []) 4
    ∷ Refused PointBlocked 4
    ∷ Done (the_node 3 ∷ []) 5
    ∷ Refused NotIsolated 5
    ∷ Refused SameNode 5
    ∷ Refused PointBlocked 5
    ∷ Refused NoFace 5
    ∷ []

abbrev pub IsoRulesReplies : Type 0
IsoRulesReplies =
    answers nothing_drawn 0 iso_rules ≡ iso_rules_replies

abbrev pub IsoRulesConsistent : Type 0
IsoRulesConsistent =
    is_consistent iso_rules_drawing ≡ true
