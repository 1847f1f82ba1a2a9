-- Three nodes and three edges: the last edge makes a face.
use Rattle.std.specs.Prelude.{◌≡◌, pos, List, [], ◌∷◌, Some, None, true, false}
use Rattle.topo_base.specs.declared.edit.Edit.{Edit}
use Rattle.topo_base.specs.declared.edit.Edit.TheVariants.{AddIsoNode, AddEdgeModFace}
use Rattle.drawing.specs.Drawing.{Drawing, nothing_drawn}
use Rattle.drawing.specs.Outcome.{the_node, the_edge, the_face}
use Rattle.topo_base.specs.declared.answer.Answer.{Answer}
use Rattle.topo_base.specs.declared.answer.Answer.TheVariants.{Done}
use Rattle.drawing.specs.Replay.{answers, after_all}
use Rattle.drawing.specs.Tables.{tables_of}
use Rattle.drawing.specs.Subdivision.{is_consistent}
use Rattle.topo_model.specs.examples.Rows.{at, counters, way, node_line, edge_line, face_line, box}

abbrev pub triangle : List Edit
triangle =
    AddIsoNode None (at (pos 0) (pos 0))
    ∷ AddIsoNode None (at (pos 4) (pos 0))
    ∷ AddIsoNode None (at (pos 0) (pos 4))
    ∷ AddEdgeModFace 1 2 (at (pos 0) (pos 0) ∷ at (pos 4) (pos 0) ∷ [])
    ∷ AddEdgeModFace 2 3 (at (pos 4) (pos 0) ∷ at (pos 0) (pos 4) ∷ [])
    ∷ AddEdgeModFace 3 1 (at (pos 0) (pos 4) ∷ at (pos 0) (pos 0) ∷ [])
    ∷ []

abbrev pub triangle_drawing : Drawing
triangle_drawing = after_all nothing_drawn triangle

abbrev pub triangle_replies : List Answer
triangle_replies =
    Done (the_node 1 ∷ []) 1
    ∷ Done (the_node 2 ∷ []) 2
    ∷ Done (the_node 3 ∷ []) 3
    ∷ Done (the_edge 1 ∷ []) 4
    ∷ Done (the_edge 2 ∷ []) 5
    ∷ Done (the_edge 3 ∷ the_face 1 ∷ []) 6
    ∷ []

abbrev pub TriangleReplies : Type 0
TriangleReplies =
    answers nothing_drawn 0 triangle ≡ triangle_replies

abbrev pub TriangleTables : Type 0
TriangleTables =
    tables_of triangle_drawing ≡ record {
      next_ids = counters 4 4 2 1 1;
      nodes = node_line 1 None (at (pos 0) (pos 0))
          ∷ node_line 2 None (at (pos 4) (pos 0))
          ∷ node_line 3 None (at (pos 0) (pos 4))
          ∷ [];
      edges = edge_line 1 1 2 (way 2 true) (way 3 false) 1 0 (at (pos 0) (pos 0) ∷ at (pos 4) (pos 0) ∷ [])
          ∷ edge_line 2 2 3 (way 3 true) (way 1 false) 1 0 (at (pos 4) (pos 0) ∷ at (pos 0) (pos 4) ∷ [])
          ∷ edge_line 3 3 1 (way 1 true) (way 2 false) 1 0 (at (pos 0) (pos 4) ∷ at (pos 0) (pos 0) ∷ [])
          ∷ [];
      faces = face_line 0 None
          ∷ face_line 1 (Some (box (pos 0) (pos 0) (pos 4) (pos 4)))
          ∷ [];
      layers = [];
      features = [];
      relations = [];
    }

abbrev pub TriangleConsistent : Type 0
TriangleConsistent =
    is_consistent triangle_drawing ≡ true
