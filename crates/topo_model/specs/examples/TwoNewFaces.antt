-- A square divided into two new faces.
use Rattle.std.specs.Prelude.{◌≡◌, pos, List, [], ◌∷◌, None, true, false}
use Rattle.topo_base.specs.declared.edit.Edit.{Edit}
use Rattle.topo_base.specs.declared.edit.Edit.TheVariants.{AddIsoNode, AddEdgeModFace, AddEdgeNewFaces, ModEdgeSplit}
use Rattle.drawing.specs.Drawing.{Drawing, nothing_drawn}
use Rattle.drawing.specs.Outcome.{the_node, the_edge, the_face}
use Rattle.topo_base.specs.declared.answer.Answer.{Answer}
use Rattle.topo_base.specs.declared.answer.Answer.TheVariants.{Done}
use Rattle.drawing.specs.Replay.{answers, after_all}
use Rattle.drawing.specs.Subdivision.{is_consistent}
use Rattle.topo_model.specs.examples.Rows.{at, way, linked, links_of}

abbrev pub two_new_faces : List Edit
two_new_faces =
    AddIsoNode None (at (pos 0) (pos 0))
    ∷ AddEdgeModFace 1 1 (at (pos 0) (pos 0) ∷ at (pos 4) (pos 0) ∷ at (pos 4) (pos 4) ∷ at (pos 0) (pos 4) ∷ at (pos 0) (pos 0) ∷ [])
    ∷ ModEdgeSplit 1 (at (pos 4) (pos 0))
    ∷ ModEdgeSplit 2 (at (pos 4) (pos 4))
    ∷ ModEdgeSplit 3 (at (pos 0) (pos 4))
    ∷ AddEdgeNewFaces 1 3 (at (pos 0) (pos 0) ∷ at (pos 4) (pos 4) ∷ [])
    ∷ []

abbrev pub two_new_faces_drawing : Drawing
two_new_faces_drawing = after_all nothing_drawn two_new_faces

abbrev pub two_new_faces_replies : List Answer
two_new_faces_replies =
    Done (the_node 1 ∷ []) 1
    ∷ Done (the_edge 1 ∷ the_face 1 ∷ []) 2
    ∷ Done (the_node 2 ∷ the_edge 2 ∷ []) 3
    ∷ Done (the_node 3 ∷ the_edge 3 ∷ []) 4
    ∷ Done (the_node 4 ∷ the_edge 4 ∷ []) 5
    ∷ Done (the_edge 5 ∷ the_face 2 ∷ the_face 3 ∷ []) 6
    ∷ []

abbrev pub TwoNewFacesReplies : Type 0
TwoNewFacesReplies =
    answers nothing_drawn 0 two_new_faces ≡ two_new_faces_replies

abbrev pub TwoNewFacesLinks : Type 0
TwoNewFacesLinks =
    links_of two_new_faces_drawing ≡ linked 1 (way 2 true) (way 4 false) 3 0
    ∷ linked 2 (way 5 false) (way 1 false) 3 0
    ∷ linked 3 (way 4 true) (way 2 false) 2 0
    ∷ linked 4 (way 5 true) (way 3 false) 2 0
    ∷ linked 5 (way 3 true) (way 1 true) 2 3
    ∷ []

abbrev pub TwoNewFacesConsistent : Type 0
TwoNewFacesConsistent =
    is_consistent two_new_faces_drawing ≡ true
