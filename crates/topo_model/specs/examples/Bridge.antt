-- An edge from a square to a square inside it.
use Rattle.std.specs.Prelude.{◌≡◌, pos, List, [], ◌∷◌, None, true, false}
use Rattle.topo_base.specs.declared.edit.Edit.{Edit}
use Rattle.topo_base.specs.declared.edit.Edit.TheVariants.{AddIsoNode, AddEdgeModFace}
use Rattle.drawing.specs.Drawing.{Drawing, nothing_drawn}
use Rattle.drawing.specs.Outcome.{the_node, the_edge, the_face}
use Rattle.topo_base.specs.declared.answer.Answer.{Answer}
use Rattle.topo_base.specs.declared.answer.Answer.TheVariants.{Done}
use Rattle.drawing.specs.Replay.{answers, after_all}
use Rattle.drawing.specs.Subdivision.{is_consistent}
use Rattle.topo_model.specs.examples.Rows.{at, way, linked, links_of}

abbrev pub bridge : List Edit
bridge =
    AddIsoNode None (at (pos 0) (pos 0))
    ∷ AddEdgeModFace 1 1 (at (pos 0) (pos 0) ∷ at (pos 9) (pos 0) ∷ at (pos 9) (pos 9) ∷ at (pos 0) (pos 9) ∷ at (pos 0) (pos 0) ∷ [])
    ∷ AddIsoNode None (at (pos 3) (pos 3))
    ∷ AddEdgeModFace 2 2 (at (pos 3) (pos 3) ∷ at (pos 6) (pos 3) ∷ at (pos 6) (pos 6) ∷ at (pos 3) (pos 6) ∷ at (pos 3) (pos 3) ∷ [])
    ∷ AddEdgeModFace 1 2 (at (pos 0) (pos 0) ∷ at (pos 3) (pos 3) ∷ [])
    ∷ []

abbrev pub bridge_drawing : Drawing
bridge_drawing = after_all nothing_drawn bridge

abbrev pub bridge_replies : List Answer
bridge_replies =
    Done (the_node 1 ∷ []) 1
    ∷ Done (the_edge 1 ∷ the_face 1 ∷ []) 2
    ∷ Done (the_node 2 ∷ []) 3
    ∷ Done (the_edge 2 ∷ the_face 2 ∷ []) 4
    ∷ Done (the_edge 3 ∷ []) 5
    ∷ []

abbrev pub BridgeReplies : Type 0
BridgeReplies =
    answers nothing_drawn 0 bridge ≡ bridge_replies

abbrev pub BridgeLinks : Type 0
BridgeLinks =
    links_of bridge_drawing ≡ linked 1 (way 3 true) (way 1 false) 1 0
    ∷ linked 2 (way 2 true) (way 3 false) 2 1
    ∷ linked 3 (way 2 false) (way 1 true) 1 1
    ∷ []

abbrev pub BridgeConsistent : Type 0
BridgeConsistent =
    is_consistent bridge_drawing ≡ true
