-- The triangle joined with the universal face.
use Rattle.std.specs.Prelude.{◌≡◌, pos, List, [], ◌∷◌, None, true, false}
use Rattle.topo_base.specs.declared.edit.Edit.{Edit}
use Rattle.topo_base.specs.declared.edit.Edit.TheVariants.{AddIsoNode, AddEdgeModFace, RemEdgeModFace, RemEdgeNewFace}
use Rattle.topo_base.specs.declared.rule.Rule.TheVariants.{NoEdge}
use Rattle.drawing.specs.Drawing.{Drawing, nothing_drawn}
use Rattle.drawing.specs.Outcome.{the_node, the_edge, the_face}
use Rattle.topo_base.specs.declared.answer.Answer.{Answer}
use Rattle.topo_base.specs.declared.answer.Answer.TheVariants.{Done, Refused}
use Rattle.drawing.specs.Replay.{answers, after_all}
use Rattle.drawing.specs.Subdivision.{is_consistent}
use Rattle.topo_model.specs.examples.Rows.{at, way, linked, links_of}

abbrev pub opened : List Edit
opened =
    AddIsoNode None (at (pos 0) (pos 0))
    ∷ AddIsoNode None (at (pos 4) (pos 0))
    ∷ AddIsoNode None (at (pos 0) (pos 4))
    ∷ AddEdgeModFace 1 2 (at (pos 0) (pos 0) ∷ at (pos 4) (pos 0) ∷ [])
    ∷ AddEdgeModFace 2 3 (at (pos 4) (pos 0) ∷ at (pos 0) (pos 4) ∷ [])
    ∷ AddEdgeModFace 3 1 (at (pos 0) (pos 4) ∷ at (pos 0) (pos 0) ∷ [])
    ∷ RemEdgeNewFace 2
    ∷ RemEdgeModFace 9
    ∷ []

abbrev pub opened_drawing : Drawing
opened_drawing = after_all nothing_drawn opened

abbrev pub opened_replies : List Answer
opened_replies =
    Done (the_node 1 ∷ []) 1
    ∷ Done (the_node 2 ∷ []) 2
    ∷ Done (the_node 3 ∷ []) 3
    ∷ Done (the_edge 1 ∷ []) 4
    ∷ Done (the_edge 2 ∷ []) 5
    ∷ Done (the_edge 3 ∷ the_face 1 ∷ []) 6
    ∷ Done (the_face 0 ∷ []) 7
    ∷ Refused NoEdge 7
    ∷ []

abbrev pub OpenedReplies : Type 0
OpenedReplies =
    answers nothing_drawn 0 opened ≡ opened_replies

abbrev pub OpenedFaces : Type 0
OpenedFaces =
    opened_drawing.faces ≡ 0 ∷ []

abbrev pub OpenedLinks : Type 0
OpenedLinks =
    links_of opened_drawing ≡ linked 1 (way 1 false) (way 3 false) 0 0
    ∷ linked 3 (way 1 true) (way 3 true) 0 0
    ∷ []

abbrev pub OpenedConsistent : Type 0
OpenedConsistent =
    is_consistent opened_drawing ≡ true
