-- An edge added and removed as an isolated one, and again as one that divides nothing: its nodes are isolated in the face that covers the place.
use Rattle.std.specs.Prelude.{◌≡◌, pos, List, [], ◌∷◌, Some, None, true}
use Rattle.topo_base.specs.declared.edit.Edit.{Edit}
use Rattle.topo_base.specs.declared.edit.Edit.TheVariants.{AddIsoNode, AddIsoEdge, RemoveIsoEdge, AddEdgeModFace, RemEdgeModFace}
use Rattle.drawing.specs.Drawing.{Drawing, nothing_drawn}
use Rattle.drawing.specs.Outcome.{the_node, the_edge, the_face}
use Rattle.topo_base.specs.declared.answer.Answer.{Answer}
use Rattle.topo_base.specs.declared.answer.Answer.TheVariants.{Done}
use Rattle.drawing.specs.Replay.{answers, after_all}
use Rattle.drawing.specs.Tables.{tables_of}
use Rattle.drawing.specs.Subdivision.{is_consistent}
use Rattle.topo_model.specs.examples.Rows.{at, node_line}

abbrev pub lone_edge : List Edit
lone_edge =
    AddIsoNode None (at (pos 0) (pos 0))
    ∷ AddIsoNode None (at (pos 4) (pos 0))
    ∷ AddIsoEdge 1 2 (at (pos 0) (pos 0) ∷ at (pos 4) (pos 0) ∷ [])
    ∷ RemoveIsoEdge 1
    ∷ AddEdgeModFace 1 2 (at (pos 0) (pos 0) ∷ at (pos 4) (pos 0) ∷ [])
    ∷ RemEdgeModFace 2
    ∷ []

abbrev pub lone_edge_drawing : Drawing
lone_edge_drawing = after_all nothing_drawn lone_edge

abbrev pub lone_edge_replies : List Answer
lone_edge_replies =
    Done (the_node 1 ∷ []) 1
    ∷ Done (the_node 2 ∷ []) 2
    ∷ Done (the_edge 1 ∷ []) 3
    ∷ Done (the_edge 1 ∷ []) 4
    ∷ Done (the_edge 2 ∷ []) 5
    ∷ Done (the_face 0 ∷ []) 6
    ∷ []

abbrev pub LoneEdgeReplies : Type 0
LoneEdgeReplies =
    answers nothing_drawn 0 lone_edge ≡ lone_edge_replies

abbrev pub LoneEdgeNodes : Type 0
LoneEdgeNodes =
    (tables_of lone_edge_drawing).nodes ≡ node_line 1 (Some 0) (at (pos 0) (pos 0))
    ∷ node_line 2 (Some 0) (at (pos 4) (pos 0))
    ∷ []

abbrev pub LoneEdgeConsistent : Type 0
LoneEdgeConsistent =
    is_consistent lone_edge_drawing ≡ true
