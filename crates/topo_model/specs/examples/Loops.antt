-- Two loops at one node, one inside the other.
use Rattle.std.specs.Prelude.{◌≡◌, pos, List, [], ◌∷◌, None, true, false}
use Rattle.topo_base.specs.declared.edit.Edit.{Edit}
use Rattle.topo_base.specs.declared.edit.Edit.TheVariants.{AddIsoNode, AddEdgeModFace}
use Rattle.drawing.specs.Drawing.{Drawing, nothing_drawn}
use Rattle.drawing.specs.Outcome.{the_node, the_edge, the_face}
use Rattle.topo_base.specs.declared.answer.Answer.{Answer}
use Rattle.topo_base.specs.declared.answer.Answer.TheVariants.{Done}
use Rattle.drawing.specs.Replay.{answers, after_all}
use Rattle.drawing.specs.Tables.{tables_of}
use Rattle.drawing.specs.Subdivision.{is_consistent}
use Rattle.topo_model.specs.examples.Rows.{at, way, edge_line}

abbrev pub loops : List Edit
loops =
    AddIsoNode None (at (pos 0) (pos 0))
    ∷ AddEdgeModFace 1 1 (at (pos 0) (pos 0) ∷ at (pos 8) (pos 0) ∷ at (pos 8) (pos 8) ∷ at (pos 0) (pos 8) ∷ at (pos 0) (pos 0) ∷ [])
    ∷ AddEdgeModFace 1 1 (at (pos 0) (pos 0) ∷ at (pos 4) (pos 1) ∷ at (pos 1) (pos 4) ∷ at (pos 0) (pos 0) ∷ [])
    ∷ []

abbrev pub loops_drawing : Drawing
loops_drawing = after_all nothing_drawn loops

abbrev pub loops_replies : List Answer
loops_replies =
    Done (the_node 1 ∷ []) 1
    ∷ Done (the_edge 1 ∷ the_face 1 ∷ []) 2
    ∷ Done (the_edge 2 ∷ the_face 2 ∷ []) 3
    ∷ []

abbrev pub LoopsReplies : Type 0
LoopsReplies =
    answers nothing_drawn 0 loops ≡ loops_replies

abbrev pub LoopsEdges : Type 0
LoopsEdges =
    (tables_of loops_drawing).edges ≡ edge_line 1 1 1 (way 2 false) (way 1 false) 1 0 (at (pos 0) (pos 0) ∷ at (pos 8) (pos 0) ∷ at (pos 8) (pos 8) ∷ at (pos 0) (pos 8) ∷ at (pos 0) (pos 0) ∷ [])
    ∷ edge_line 2 1 1 (way 2 true) (way 1 true) 2 1 (at (pos 0) (pos 0) ∷ at (pos 4) (pos 1) ∷ at (pos 1) (pos 4) ∷ at (pos 0) (pos 0) ∷ [])
    ∷ []

abbrev pub LoopsConsistent : Type 0
LoopsConsistent =
    is_consistent loops_drawing ≡ true
