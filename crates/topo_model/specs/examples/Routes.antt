-- A road split under a route that a net lists.
use Rattle.std.specs.Prelude.{◌≡◌, pos, List, [], ◌∷◌, Some, None, true, codes}
use Rattle.topo_base.specs.declared.edit.Edit.{Edit}
use Rattle.topo_base.specs.declared.edit.Edit.TheVariants.{AddIsoNode, AddEdgeModFace, ModEdgeSplit, AddLayer, CreateTopoGeom, DropFeature}
use Rattle.topo_base.specs.declared.rule.Rule.TheVariants.{FeatureUsed}
use Rattle.topo_base.specs.declared.kind.Kind.TheVariants.{Lineal}
use Rattle.drawing.specs.Drawing.{Drawing, nothing_drawn}
use Rattle.drawing.specs.Outcome.{the_node, the_edge, the_layer, the_feature}
use Rattle.topo_base.specs.declared.answer.Answer.{Answer}
use Rattle.topo_base.specs.declared.answer.Answer.TheVariants.{Done, Refused}
use Rattle.drawing.specs.Replay.{answers, after_all}
use Rattle.drawing.specs.Descent.{elements_of}
use Rattle.drawing.specs.Subdivision.{is_consistent}
use Rattle.topo_model.specs.examples.Rows.{at, pair}

abbrev pub routes : List Edit
routes =
    AddIsoNode None (at (pos 0) (pos 0))
    ∷ AddIsoNode None (at (pos 4) (pos 0))
    ∷ AddEdgeModFace 1 2 (at (pos 0) (pos 0) ∷ at (pos 4) (pos 0) ∷ [])
    ∷ AddLayer (codes "roads") Lineal None
    ∷ AddLayer (codes "routes") Lineal (Some 1)
    ∷ AddLayer (codes "nets") Lineal (Some 2)
    ∷ CreateTopoGeom 1 (pair 1 2 ∷ [])
    ∷ CreateTopoGeom 2 (pair 1 1 ∷ [])
    ∷ CreateTopoGeom 3 (pair 2 2 ∷ [])
    ∷ ModEdgeSplit 1 (at (pos 2) (pos 0))
    ∷ DropFeature 1
    ∷ []

abbrev pub routes_drawing : Drawing
routes_drawing = after_all nothing_drawn routes

abbrev pub routes_replies : List Answer
routes_replies =
    Done (the_node 1 ∷ []) 1
    ∷ Done (the_node 2 ∷ []) 2
    ∷ Done (the_edge 1 ∷ []) 3
    ∷ Done (the_layer 1 ∷ []) 4
    ∷ Done (the_layer 2 ∷ []) 5
    ∷ Done (the_layer 3 ∷ []) 6
    ∷ Done (the_feature 1 ∷ []) 7
    ∷ Done (the_feature 2 ∷ []) 8
    ∷ Done (the_feature 3 ∷ []) 9
    ∷ Done (the_node 3 ∷ the_edge 2 ∷ []) 10
    ∷ Refused FeatureUsed 10
    ∷ []

abbrev pub RoutesReplies : Type 0
RoutesReplies =
    answers nothing_drawn 0 routes ≡ routes_replies

abbrev pub RoutesFeatures : Type 0
RoutesFeatures =
    (elements_of routes_drawing 1 ≡ 1 ∷ 2 ∷ []) × (elements_of routes_drawing 2 ≡ 1 ∷ 2 ∷ []) × (elements_of routes_drawing 3 ≡ 1 ∷ 2 ∷ [])

abbrev pub RoutesConsistent : Type 0
RoutesConsistent =
    is_consistent routes_drawing ≡ true
