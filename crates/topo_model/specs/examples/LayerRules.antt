-- The rules on layers and on what a feature lists.
use Rattle.std.specs.Prelude.{◌≡◌, pos, List, [], ◌∷◌, Some, None, true, codes}
use Rattle.topo_base.specs.declared.edit.Edit.{Edit}
use Rattle.topo_base.specs.declared.edit.Edit.TheVariants.{AddIsoNode, AddEdgeModFace, RemEdgeModFace, ModEdgeSplit, ModEdgeHeal, AddLayer, CreateTopoGeom, RemElement, DropFeature}
use Rattle.topo_base.specs.declared.rule.Rule.TheVariants.{EdgeInFeature, HealSplitsFeature, NodeInFeature, WrongKind, ElementListed, ElementNotListed, NameTaken, UniverseElement}
use Rattle.topo_base.specs.declared.kind.Kind.TheVariants.{Puntal, Lineal, Areal}
use Rattle.drawing.specs.Drawing.{Drawing, nothing_drawn}
use Rattle.drawing.specs.Outcome.{the_node, the_edge, the_face, the_layer, the_feature}
use Rattle.topo_base.specs.declared.answer.Answer.{Answer}
use Rattle.topo_base.specs.declared.answer.Answer.TheVariants.{Done, Refused}
use Rattle.drawing.specs.Replay.{answers, after_all}
use Rattle.drawing.specs.Subdivision.{is_consistent}
use Rattle.topo_model.specs.examples.Rows.{at, pair}

abbrev pub layer_rules : List Edit
layer_rules =
    AddIsoNode None (at (pos 0) (pos 0))
    ∷ AddEdgeModFace 1 1 (at (pos 0) (pos 0) ∷ at (pos 4) (pos 0) ∷ at (pos 4) (pos 4) ∷ at (pos 0) (pos 4) ∷ at (pos 0) (pos 0) ∷ [])
    ∷ ModEdgeSplit 1 (at (pos 4) (pos 0))
    ∷ ModEdgeSplit 2 (at (pos 4) (pos 4))
    ∷ ModEdgeSplit 3 (at (pos 0) (pos 4))
    ∷ AddLayer (codes "parcels") Areal None
    ∷ AddLayer (codes "parcels") Lineal None
    ∷ CreateTopoGeom 1 (pair 1 3 ∷ pair 1 3 ∷ [])
    ∷ CreateTopoGeom 1 (pair 0 3 ∷ [])
    ∷ CreateTopoGeom 1 (pair 1 2 ∷ [])
    ∷ CreateTopoGeom 1 ([])
    ∷ RemElement 1 1 3
    ∷ AddLayer (codes "stops") Puntal None
    ∷ CreateTopoGeom 2 (pair 2 1 ∷ [])
    ∷ ModEdgeHeal 1 2
    ∷ AddLayer (codes "roads") Lineal (Some 1)
    ∷ AddLayer (codes "roads") Lineal None
    ∷ CreateTopoGeom 3 (pair 1 2 ∷ [])
    ∷ ModEdgeHeal 1 2
    ∷ RemEdgeModFace 1
    ∷ DropFeature 2
    ∷ []

abbrev pub layer_rules_drawing : Drawing
layer_rules_drawing = after_all nothing_drawn layer_rules

abbrev pub layer_rules_replies : List Answer
layer_rules_replies =
    Done (the_node 1 ∷ []) 1
    ∷ Done (the_edge 1 ∷ the_face 1 ∷ []) 2
    ∷ Done (the_node 2 ∷ the_edge 2 ∷ []) 3
    ∷ Done (the_node 3 ∷ the_edge 3 ∷ []) 4
    ∷ Done (the_node 4 ∷ the_edge 4 ∷ []) 5
    ∷ Done (the_layer 1 ∷ []) 6
    ∷ Refused NameTaken 6
    ∷ Refused ElementListed 6
    ∷ Refused UniverseElement 6
    ∷ Refused WrongKind 6
    ∷ Done (the_feature 1 ∷ []) 7
    ∷ Refused ElementNotListed 7
    ∷ Done (the_layer 2 ∷ []) 8
    ∷ Done (the_feature 2 ∷ []) 9
    ∷ Refused NodeInFeature 9
    ∷ Refused WrongKind 9
    ∷ Done (the_layer 3 ∷ []) 10
    ∷ Done (the_feature 3 ∷ []) 11
    ∷ Refused HealSplitsFeature 11
    ∷ Refused EdgeInFeature 11
    ∷ Done (the_feature 2 ∷ []) 12
    ∷ []

abbrev pub LayerRulesReplies : Type 0
LayerRulesReplies =
    answers nothing_drawn 0 layer_rules ≡ layer_rules_replies

abbrev pub LayerRulesConsistent : Type 0
LayerRulesConsistent =
    is_consistent layer_rules_drawing ≡ true
