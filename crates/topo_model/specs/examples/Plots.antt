-- Two plots that share a border, in millimetres, and the block of both.
use Rattle.std.specs.Prelude.{◌≡◌, pos, List, [], ◌∷◌, Some, None, true, codes}
use Rattle.topo_base.specs.declared.edit.Edit.{Edit}
use Rattle.topo_base.specs.declared.edit.Edit.TheVariants.{AddIsoNode, AddEdgeModFace, ModEdgeSplit, AddLayer, CreateTopoGeom}
use Rattle.topo_base.specs.declared.kind.Kind.TheVariants.{Areal}
use Rattle.drawing.specs.Drawing.{Drawing, nothing_drawn}
use Rattle.drawing.specs.Outcome.{the_node, the_edge, the_face, the_layer, the_feature}
use Rattle.topo_base.specs.declared.answer.Answer.{Answer}
use Rattle.topo_base.specs.declared.answer.Answer.TheVariants.{Done}
use Rattle.drawing.specs.Replay.{answers, after_all}
use Rattle.drawing.specs.Descent.{elements_of}
use Rattle.drawing.specs.Subdivision.{is_consistent}
use Rattle.topo_model.specs.examples.Rows.{at, pair}

abbrev pub plots : List Edit
plots =
    AddIsoNode None (at (pos 431200000) (pos 567800000))
    ∷ AddIsoNode None (at (pos 431230000) (pos 567800000))
    ∷ AddIsoNode None (at (pos 431260000) (pos 567800000))
    ∷ AddEdgeModFace 1 2 (at (pos 431200000) (pos 567800000) ∷ at (pos 431230000) (pos 567800000) ∷ [])
    ∷ AddEdgeModFace 2 3 (at (pos 431230000) (pos 567800000) ∷ at (pos 431260000) (pos 567800000) ∷ [])
    ∷ AddEdgeModFace 2 1 (at (pos 431230000) (pos 567800000) ∷ at (pos 431230000) (pos 567840000) ∷ at (pos 431200000) (pos 567840000) ∷ at (pos 431200000) (pos 567800000) ∷ [])
    ∷ ModEdgeSplit 3 (at (pos 431230000) (pos 567835000))
    ∷ AddEdgeModFace 3 4 (at (pos 431260000) (pos 567800000) ∷ at (pos 431260000) (pos 567835000) ∷ at (pos 431230000) (pos 567835000) ∷ [])
    ∷ AddLayer (codes "parcels") Areal None
    ∷ CreateTopoGeom 1 (pair 1 3 ∷ [])
    ∷ CreateTopoGeom 1 (pair 2 3 ∷ [])
    ∷ AddLayer (codes "blocks") Areal (Some 1)
    ∷ CreateTopoGeom 2 (pair 1 1 ∷ pair 2 1 ∷ [])
    ∷ []

abbrev pub plots_drawing : Drawing
plots_drawing = after_all nothing_drawn plots

abbrev pub plots_replies : List Answer
plots_replies =
    Done (the_node 1 ∷ []) 1
    ∷ Done (the_node 2 ∷ []) 2
    ∷ Done (the_node 3 ∷ []) 3
    ∷ Done (the_edge 1 ∷ []) 4
    ∷ Done (the_edge 2 ∷ []) 5
    ∷ Done (the_edge 3 ∷ the_face 1 ∷ []) 6
    ∷ Done (the_node 4 ∷ the_edge 4 ∷ []) 7
    ∷ Done (the_edge 5 ∷ the_face 2 ∷ []) 8
    ∷ Done (the_layer 1 ∷ []) 9
    ∷ Done (the_feature 1 ∷ []) 10
    ∷ Done (the_feature 2 ∷ []) 11
    ∷ Done (the_layer 2 ∷ []) 12
    ∷ Done (the_feature 3 ∷ []) 13
    ∷ []

abbrev pub PlotsReplies : Type 0
PlotsReplies =
    answers nothing_drawn 0 plots ≡ plots_replies

abbrev pub PlotsFeatures : Type 0
PlotsFeatures =
    (elements_of plots_drawing 1 ≡ 1 ∷ []) × (elements_of plots_drawing 2 ≡ 2 ∷ []) × (elements_of plots_drawing 3 ≡ 1 ∷ 2 ∷ [])

abbrev pub PlotsConsistent : Type 0
PlotsConsistent =
    is_consistent plots_drawing ≡ true
