-- A square drawn round a node and an edge that stood alone.
use Rattle.std.specs.Prelude.{◌≡◌, ◌==◌, pos, List, [], ◌∷◌, find, Some, None, true, false}
use Rattle.topo_base.specs.declared.edit.Edit.{Edit}
use Rattle.topo_base.specs.declared.edit.Edit.TheVariants.{AddIsoNode, AddIsoEdge, AddEdgeModFace}
use Rattle.topo_base.specs.declared.rows.NodeRow.{NodeRow}
use Rattle.topo_base.specs.declared.rows.EdgeRow.{EdgeRow}
use Rattle.drawing.specs.Drawing.{Drawing, nothing_drawn}
use Rattle.drawing.specs.Outcome.{the_node, the_edge, the_face}
use Rattle.topo_base.specs.declared.answer.Answer.{Answer}
use Rattle.topo_base.specs.declared.answer.Answer.TheVariants.{Done}
use Rattle.drawing.specs.Replay.{answers, after_all}
use Rattle.drawing.specs.Tables.{tables_of}
use Rattle.drawing.specs.Subdivision.{is_consistent}
use Rattle.topo_model.specs.examples.Rows.{at, way, node_line, edge_line}

abbrev pub islands : List Edit
islands =
    AddIsoNode None (at (pos 3) (pos 3))
    ∷ AddIsoNode None (at (pos 5) (pos 5))
    ∷ AddIsoNode None (at (pos 6) (pos 5))
    ∷ AddIsoEdge 2 3 (at (pos 5) (pos 5) ∷ at (pos 6) (pos 5) ∷ [])
    ∷ AddIsoNode None (at (pos 0) (pos 0))
    ∷ AddEdgeModFace 4 4 (at (pos 0) (pos 0) ∷ at (pos 9) (pos 0) ∷ at (pos 9) (pos 9) ∷ at (pos 0) (pos 9) ∷ at (pos 0) (pos 0) ∷ [])
    ∷ []

abbrev pub islands_drawing : Drawing
islands_drawing = after_all nothing_drawn islands

abbrev pub islands_replies : List Answer
islands_replies =
    Done (the_node 1 ∷ []) 1
    ∷ Done (the_node 2 ∷ []) 2
    ∷ Done (the_node 3 ∷ []) 3
    ∷ Done (the_edge 1 ∷ []) 4
    ∷ Done (the_node 4 ∷ []) 5
    ∷ Done (the_edge 2 ∷ the_face 1 ∷ []) 6
    ∷ []

abbrev pub IslandsReplies : Type 0
IslandsReplies =
    answers nothing_drawn 0 islands ≡ islands_replies

abbrev pub IslandsNodeRows : Type 0
IslandsNodeRows =
    (find (λ (n : NodeRow). n.node_id == 1) islands_drawing.nodes ≡ Some (node_line 1 (Some 1) (at (pos 3) (pos 3))))

abbrev pub IslandsEdgeRows : Type 0
IslandsEdgeRows =
    (find (λ (e : EdgeRow). e.edge_id == 1) (tables_of islands_drawing).edges ≡ Some (edge_line 1 2 3 (way 1 false) (way 1 true) 1 1 (at (pos 5) (pos 5) ∷ at (pos 6) (pos 5) ∷ []))) × (find (λ (e : EdgeRow). e.edge_id == 2) (tables_of islands_drawing).edges ≡ Some (edge_line 2 4 4 (way 2 true) (way 2 false) 1 0 (at (pos 0) (pos 0) ∷ at (pos 9) (pos 0) ∷ at (pos 9) (pos 9) ∷ at (pos 0) (pos 9) ∷ at (pos 0) (pos 0) ∷ [])))

abbrev pub IslandsConsistent : Type 0
IslandsConsistent =
    is_consistent islands_drawing ≡ true
