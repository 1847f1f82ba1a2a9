-- That edge removed again.
use Rattle.std.specs.Prelude.{◌≡◌, pos, List, [], ◌∷◌, None, true, false}
use Rattle.topo_base.specs.declared.edit.Edit.{Edit}
use Rattle.topo_base.specs.declared.edit.Edit.TheVariants.{AddIsoNode, AddEdgeModFace, RemEdgeModFace}
use Rattle.drawing.specs.Drawing.{Drawing, nothing_drawn}
use Rattle.drawing.specs.Outcome.{the_node, the_edge, the_face}
use Rattle.topo_base.specs.declared.answer.Answer.{Answer}
use Rattle.topo_base.specs.declared.answer.Answer.TheVariants.{Done}
use Rattle.drawing.specs.Replay.{answers, after_all}
use Rattle.drawing.specs.Subdivision.{is_consistent}
use Rattle.topo_model.specs.examples.Rows.{at, way, linked, links_of}

abbrev pub bridge_removed : List Edit
bridge_removed =
    AddIsoNode None (at (pos 0) (pos 0))
    ∷ AddEdgeModFace 1 1 (at (pos 0) (pos 0) ∷ at (pos 9) (pos 0) ∷ at (pos 9) (pos 9) ∷ at (pos 0) (pos 9) ∷ at (pos 0) (pos 0) ∷ [])
    ∷ AddIsoNode None (at (pos 3) (pos 3))
    ∷ AddEdgeModFace 2 2 (at (pos 3) (pos 3) ∷ at (pos 6) (pos 3) ∷ at (pos 6) (pos 6) ∷ at (pos 3) (pos 6) ∷ at (pos 3) (pos 3) ∷ [])
    ∷ AddEdgeModFace 1 2 (at (pos 0) (pos 0) ∷ at (pos 3) (pos 3) ∷ [])
    ∷ RemEdgeModFace 3
    ∷ []

abbrev pub bridge_removed_drawing : Drawing
bridge_removed_drawing = after_all nothing_drawn bridge_removed

abbrev pub bridge_removed_replies : List Answer
bridge_removed_replies =
    Done (the_node 1 ∷ []) 1
    ∷ Done (the_edge 1 ∷ the_face 1 ∷ []) 2
    ∷ Done (the_node 2 ∷ []) 3
    ∷ Done (the_edge 2 ∷ the_face 2 ∷ []) 4
    ∷ Done (the_edge 3 ∷ []) 5
    ∷ Done (the_face 1 ∷ []) 6
    ∷ []

abbrev pub BridgeRemovedReplies : Type 0
BridgeRemovedReplies =
    answers nothing_drawn 0 bridge_removed ≡ bridge_removed_replies

abbrev pub BridgeRemovedLinks : Type 0
BridgeRemovedLinks =
    links_of bridge_removed_drawing ≡ linked 1 (way 1 true) (way 1 false) 1 0
    ∷ linked 2 (way 2 true) (way 2 false) 2 1
    ∷ []

abbrev pub BridgeRemovedConsistent : Type 0
BridgeRemovedConsistent =
    is_consistent bridge_removed_drawing ≡ true
