-- The same, with the last edge drawn the other way.
use Rattle.std.specs.Prelude.{◌≡◌, pos, List, [], ◌∷◌, None, true, false}
use Rattle.topo_base.specs.declared.edit.Edit.{Edit}
use Rattle.topo_base.specs.declared.edit.Edit.TheVariants.{AddIsoNode, AddEdgeModFace}
use Rattle.drawing.specs.Drawing.{Drawing, nothing_drawn}
use Rattle.drawing.specs.Outcome.{the_node, the_edge, the_face}
use Rattle.topo_base.specs.declared.answer.Answer.{Answer}
use Rattle.topo_base.specs.declared.answer.Answer.TheVariants.{Done}
use Rattle.drawing.specs.Replay.{answers, after_all}
use Rattle.drawing.specs.Tables.{tables_of}
use Rattle.drawing.specs.Subdivision.{is_consistent}
use Rattle.topo_model.specs.examples.Rows.{at, way, edge_line}

abbrev pub triangle_turned : List Edit
triangle_turned =
    AddIsoNode None (at (pos 0) (pos 0))
    ∷ AddIsoNode None (at (pos 4) (pos 0))
    ∷ AddIsoNode None (at (pos 0) (pos 4))
    ∷ AddEdgeModFace 1 2 (at (pos 0) (pos 0) ∷ at (pos 4) (pos 0) ∷ [])
    ∷ AddEdgeModFace 2 3 (at (pos 4) (pos 0) ∷ at (pos 0) (pos 4) ∷ [])
    ∷ AddEdgeModFace 1 3 (at (pos 0) (pos 0) ∷ at (pos 0) (pos 4) ∷ [])
    ∷ []

abbrev pub triangle_turned_drawing : Drawing
triangle_turned_drawing = after_all nothing_drawn triangle_turned

abbrev pub triangle_turned_replies : List Answer
triangle_turned_replies =
    Done (the_node 1 ∷ []) 1
    ∷ Done (the_node 2 ∷ []) 2
    ∷ Done (the_node 3 ∷ []) 3
    ∷ Done (the_edge 1 ∷ []) 4
    ∷ Done (the_edge 2 ∷ []) 5
    ∷ Done (the_edge 3 ∷ the_face 1 ∷ []) 6
    ∷ []

abbrev pub TriangleTurnedReplies : Type 0
TriangleTurnedReplies =
    answers nothing_drawn 0 triangle_turned ≡ triangle_turned_replies

abbrev pub TriangleTurnedEdges : Type 0
TriangleTurnedEdges =
    (tables_of triangle_turned_drawing).edges ≡ edge_line 1 1 2 (way 2 true) (way 3 true) 1 0 (at (pos 0) (pos 0) ∷ at (pos 4) (pos 0) ∷ [])
    ∷ edge_line 2 2 3 (way 3 false) (way 1 false) 1 0 (at (pos 4) (pos 0) ∷ at (pos 0) (pos 4) ∷ [])
    ∷ edge_line 3 1 3 (way 2 false) (way 1 true) 0 1 (at (pos 0) (pos 0) ∷ at (pos 0) (pos 4) ∷ [])
    ∷ []

abbrev pub TriangleTurnedConsistent : Type 0
TriangleTurnedConsistent =
    is_consistent triangle_turned_drawing ≡ true
