-- The dividing edge split into two new edges, and healed into a new one.
use Rattle.std.specs.Prelude.{◌≡◌, ◌==◌, pos, List, [], ◌∷◌, find, Some, None, true}
use Rattle.topo_base.specs.declared.edit.Edit.{Edit}
use Rattle.topo_base.specs.declared.edit.Edit.TheVariants.{AddIsoNode, AddEdgeModFace, AddEdgeNewFaces, ModEdgeSplit, NewEdgesSplit, NewEdgeHeal}
use Rattle.topo_base.specs.declared.rows.EdgeRow.{EdgeRow}
use Rattle.drawing.specs.Drawing.{Drawing, nothing_drawn}
use Rattle.drawing.specs.Outcome.{the_node, the_edge, the_face}
use Rattle.topo_base.specs.declared.answer.Answer.{Answer}
use Rattle.topo_base.specs.declared.answer.Answer.TheVariants.{Done}
use Rattle.drawing.specs.Replay.{answers, after_all}
use Rattle.drawing.specs.Tables.{tables_of}
use Rattle.drawing.specs.Subdivision.{is_consistent}
use Rattle.topo_model.specs.examples.Rows.{at, way, edge_line}

abbrev pub new_edges : List Edit
new_edges =
    AddIsoNode None (at (pos 0) (pos 0))
    ∷ AddEdgeModFace 1 1 (at (pos 0) (pos 0) ∷ at (pos 4) (pos 0) ∷ at (pos 4) (pos 4) ∷ at (pos 0) (pos 4) ∷ at (pos 0) (pos 0) ∷ [])
    ∷ ModEdgeSplit 1 (at (pos 4) (pos 0))
    ∷ ModEdgeSplit 2 (at (pos 4) (pos 4))
    ∷ ModEdgeSplit 3 (at (pos 0) (pos 4))
    ∷ AddEdgeNewFaces 1 3 (at (pos 0) (pos 0) ∷ at (pos 4) (pos 4) ∷ [])
    ∷ NewEdgesSplit 5 (at (pos 2) (pos 2))
    ∷ NewEdgeHeal 6 7
    ∷ []

abbrev pub new_edges_drawing : Drawing
new_edges_drawing = after_all nothing_drawn new_edges

abbrev pub new_edges_replies : List Answer
new_edges_replies =
    Done (the_node 1 ∷ []) 1
    ∷ Done (the_edge 1 ∷ the_face 1 ∷ []) 2
    ∷ Done (the_node 2 ∷ the_edge 2 ∷ []) 3
    ∷ Done (the_node 3 ∷ the_edge 3 ∷ []) 4
    ∷ Done (the_node 4 ∷ the_edge 4 ∷ []) 5
    ∷ Done (the_edge 5 ∷ the_face 2 ∷ the_face 3 ∷ []) 6
    ∷ Done (the_node 5 ∷ the_edge 6 ∷ the_edge 7 ∷ []) 7
    ∷ Done (the_edge 8 ∷ the_node 5 ∷ []) 8
    ∷ []

abbrev pub NewEdgesReplies : Type 0
NewEdgesReplies =
    answers nothing_drawn 0 new_edges ≡ new_edges_replies

abbrev pub NewEdgesEdgeRows : Type 0
NewEdgesEdgeRows =
    (find (λ (e : EdgeRow). e.edge_id == 8) (tables_of new_edges_drawing).edges ≡ Some (edge_line 8 1 3 (way 3 true) (way 1 true) 2 3 (at (pos 0) (pos 0) ∷ at (pos 2) (pos 2) ∷ at (pos 4) (pos 4) ∷ [])))

abbrev pub NewEdgesConsistent : Type 0
NewEdgesConsistent =
    is_consistent new_edges_drawing ≡ true
