-- Heals that are refused, one at the end of the first edge and one at its start.
use Rattle.std.specs.Prelude.{◌≡◌, ◌==◌, pos, List, [], ◌∷◌, find, Some, None, true, false}
use Rattle.topo_base.specs.declared.edit.Edit.{Edit}
use Rattle.topo_base.specs.declared.edit.Edit.TheVariants.{AddIsoNode, AddEdgeModFace, ModEdgeSplit, ModEdgeHeal}
use Rattle.topo_base.specs.declared.rule.Rule.TheVariants.{NotJoined, OthersJoined}
use Rattle.topo_base.specs.declared.rows.EdgeRow.{EdgeRow}
use Rattle.drawing.specs.Drawing.{Drawing, nothing_drawn}
use Rattle.drawing.specs.Outcome.{the_node, the_edge, the_face}
use Rattle.topo_base.specs.declared.answer.Answer.{Answer}
use Rattle.topo_base.specs.declared.answer.Answer.TheVariants.{Done, Refused}
use Rattle.drawing.specs.Replay.{answers, after_all}
use Rattle.drawing.specs.Tables.{tables_of}
use Rattle.drawing.specs.Subdivision.{is_consistent}
use Rattle.topo_model.specs.examples.Rows.{at, way, edge_line}

abbrev pub heals : List Edit
heals =
    AddIsoNode None (at (pos 0) (pos 0))
    ∷ AddEdgeModFace 1 1 (at (pos 0) (pos 0) ∷ at (pos 4) (pos 0) ∷ at (pos 4) (pos 4) ∷ at (pos 0) (pos 4) ∷ at (pos 0) (pos 0) ∷ [])
    ∷ ModEdgeSplit 1 (at (pos 4) (pos 0))
    ∷ ModEdgeSplit 2 (at (pos 4) (pos 4))
    ∷ ModEdgeSplit 3 (at (pos 0) (pos 4))
    ∷ ModEdgeHeal 1 3
    ∷ AddEdgeModFace 1 3 (at (pos 0) (pos 0) ∷ at (pos 4) (pos 4) ∷ [])
    ∷ ModEdgeHeal 4 1
    ∷ ModEdgeHeal 1 2
    ∷ ModEdgeHeal 1 1
    ∷ ModEdgeHeal 5 1
    ∷ ModEdgeHeal 4 3
    ∷ []

abbrev pub heals_drawing : Drawing
heals_drawing = after_all nothing_drawn heals

abbrev pub heals_replies : List Answer
heals_replies =
    Done (the_node 1 ∷ []) 1
    ∷ Done (the_edge 1 ∷ the_face 1 ∷ []) 2
    ∷ Done (the_node 2 ∷ the_edge 2 ∷ []) 3
    ∷ Done (the_node 3 ∷ the_edge 3 ∷ []) 4
    ∷ Done (the_node 4 ∷ the_edge 4 ∷ []) 5
    ∷ Refused NotJoined 5
    ∷ Done (the_edge 5 ∷ the_face 2 ∷ []) 6
    ∷ Refused OthersJoined 6
    ∷ Done (the_node 2 ∷ the_edge 1 ∷ []) 7
    ∷ Refused NotJoined 7
    ∷ Refused OthersJoined 7
    ∷ Done (the_node 4 ∷ the_edge 4 ∷ []) 8
    ∷ []

abbrev pub HealsReplies : Type 0
HealsReplies =
    answers nothing_drawn 0 heals ≡ heals_replies

abbrev pub HealsEdgeRows : Type 0
HealsEdgeRows =
    (find (λ (e : EdgeRow). e.edge_id == 4) (tables_of heals_drawing).edges ≡ Some (edge_line 4 3 1 (way 5 true) (way 1 false) 2 0 (at (pos 4) (pos 4) ∷ at (pos 0) (pos 4) ∷ at (pos 0) (pos 0) ∷ [])))

abbrev pub HealsConsistent : Type 0
HealsConsistent =
    is_consistent heals_drawing ≡ true
