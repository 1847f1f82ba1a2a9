-- A triangle inside a square, drawn as a hole.
use Rattle.std.specs.Prelude.{◌≡◌, pos, List, [], ◌∷◌, Some, None, true, false}
use Rattle.topo_base.specs.declared.edit.Edit.{Edit}
use Rattle.topo_base.specs.declared.edit.Edit.TheVariants.{AddIsoNode, AddEdgeModFace}
use Rattle.drawing.specs.Drawing.{Drawing, nothing_drawn}
use Rattle.drawing.specs.Outcome.{the_node, the_edge, the_face}
use Rattle.topo_base.specs.declared.answer.Answer.{Answer}
use Rattle.topo_base.specs.declared.answer.Answer.TheVariants.{Done}
use Rattle.drawing.specs.Replay.{answers, after_all}
use Rattle.drawing.specs.Tables.{tables_of}
use Rattle.drawing.specs.Subdivision.{is_consistent}
use Rattle.topo_model.specs.examples.Rows.{at, counters, way, node_line, edge_line, face_line, box}

abbrev pub hole : List Edit
hole =
    AddIsoNode None (at (pos 0) (pos 0))
    ∷ AddEdgeModFace 1 1 (at (pos 0) (pos 0) ∷ at (pos 10) (pos 0) ∷ at (pos 10) (pos 10) ∷ at (pos 0) (pos 10) ∷ at (pos 0) (pos 0) ∷ [])
    ∷ AddIsoNode None (at (pos 2) (pos 2))
    ∷ AddIsoNode None (at (pos 4) (pos 2))
    ∷ AddIsoNode None (at (pos 2) (pos 4))
    ∷ AddEdgeModFace 2 4 (at (pos 2) (pos 2) ∷ at (pos 2) (pos 4) ∷ [])
    ∷ AddEdgeModFace 4 3 (at (pos 2) (pos 4) ∷ at (pos 4) (pos 2) ∷ [])
    ∷ AddEdgeModFace 3 2 (at (pos 4) (pos 2) ∷ at (pos 2) (pos 2) ∷ [])
    ∷ []

abbrev pub hole_drawing : Drawing
hole_drawing = after_all nothing_drawn hole

abbrev pub hole_replies : List Answer
hole_replies =
    Done (the_node 1 ∷ []) 1
    ∷ Done (the_edge 1 ∷ the_face 1 ∷ []) 2
    ∷ Done (the_node 2 ∷ []) 3
    ∷ Done (the_node 3 ∷ []) 4
    ∷ Done (the_node 4 ∷ []) 5
    ∷ Done (the_edge 2 ∷ []) 6
    ∷ Done (the_edge 3 ∷ []) 7
    ∷ Done (the_edge 4 ∷ the_face 2 ∷ []) 8
    ∷ []

abbrev pub HoleReplies : Type 0
HoleReplies =
    answers nothing_drawn 0 hole ≡ hole_replies

abbrev pub HoleTables : Type 0
HoleTables =
    tables_of hole_drawing ≡ record {
      next_ids = counters 5 5 3 1 1;
      nodes = node_line 1 None (at (pos 0) (pos 0))
          ∷ node_line 2 None (at (pos 2) (pos 2))
          ∷ node_line 3 None (at (pos 4) (pos 2))
          ∷ node_line 4 None (at (pos 2) (pos 4))
          ∷ [];
      edges = edge_line 1 1 1 (way 1 true) (way 1 false) 2 0 (at (pos 0) (pos 0) ∷ at (pos 10) (pos 0) ∷ at (pos 10) (pos 10) ∷ at (pos 0) (pos 10) ∷ at (pos 0) (pos 0) ∷ [])
          ∷ edge_line 2 2 4 (way 3 true) (way 4 false) 2 1 (at (pos 2) (pos 2) ∷ at (pos 2) (pos 4) ∷ [])
          ∷ edge_line 3 4 3 (way 4 true) (way 2 false) 2 1 (at (pos 2) (pos 4) ∷ at (pos 4) (pos 2) ∷ [])
          ∷ edge_line 4 3 2 (way 2 true) (way 3 false) 2 1 (at (pos 4) (pos 2) ∷ at (pos 2) (pos 2) ∷ [])
          ∷ [];
      faces = face_line 0 None
          ∷ face_line 1 (Some (box (pos 2) (pos 2) (pos 4) (pos 4)))
          ∷ face_line 2 (Some (box (pos 0) (pos 0) (pos 10) (pos 10)))
          ∷ [];
      layers = [];
      features = [];
      relations = [];
    }

abbrev pub HoleConsistent : Type 0
HoleConsistent =
    is_consistent hole_drawing ≡ true
