-- A border goes only where one parcel lists both sides.
use Rattle.std.specs.Prelude.{◌≡◌, pos, List, [], ◌∷◌, None, true, codes}
use Rattle.topo_base.specs.declared.edit.Edit.{Edit}
use Rattle.topo_base.specs.declared.edit.Edit.TheVariants.{AddIsoNode, AddEdgeModFace, RemEdgeNewFace, ModEdgeSplit, AddLayer, CreateTopoGeom, AddElement}
use Rattle.topo_base.specs.declared.rule.Rule.TheVariants.{FaceInFeature}
use Rattle.topo_base.specs.declared.kind.Kind.TheVariants.{Areal}
use Rattle.drawing.specs.Drawing.{Drawing, nothing_drawn}
use Rattle.drawing.specs.Outcome.{the_node, the_edge, the_face, the_layer, the_feature}
use Rattle.topo_base.specs.declared.answer.Answer.{Answer}
use Rattle.topo_base.specs.declared.answer.Answer.TheVariants.{Done, Refused}
use Rattle.drawing.specs.Replay.{answers, after_all}
use Rattle.drawing.specs.Subdivision.{is_consistent}
use Rattle.topo_model.specs.examples.Rows.{at, pair, relation_line}

abbrev pub parcel_grows : List Edit
parcel_grows =
    AddIsoNode None (at (pos 0) (pos 0))
    ∷ AddEdgeModFace 1 1 (at (pos 0) (pos 0) ∷ at (pos 4) (pos 0) ∷ at (pos 4) (pos 4) ∷ at (pos 0) (pos 4) ∷ at (pos 0) (pos 0) ∷ [])
    ∷ ModEdgeSplit 1 (at (pos 4) (pos 0))
    ∷ ModEdgeSplit 2 (at (pos 4) (pos 4))
    ∷ ModEdgeSplit 3 (at (pos 0) (pos 4))
    ∷ AddEdgeModFace 1 3 (at (pos 0) (pos 0) ∷ at (pos 4) (pos 4) ∷ [])
    ∷ AddLayer (codes "parcels") Areal None
    ∷ CreateTopoGeom 1 (pair 1 3 ∷ [])
    ∷ RemEdgeNewFace 5
    ∷ AddElement 1 2 3
    ∷ RemEdgeNewFace 5
    ∷ []

abbrev pub parcel_grows_drawing : Drawing
parcel_grows_drawing = after_all nothing_drawn parcel_grows

abbrev pub parcel_grows_replies : List Answer
parcel_grows_replies =
    Done (the_node 1 ∷ []) 1
    ∷ Done (the_edge 1 ∷ the_face 1 ∷ []) 2
    ∷ Done (the_node 2 ∷ the_edge 2 ∷ []) 3
    ∷ Done (the_node 3 ∷ the_edge 3 ∷ []) 4
    ∷ Done (the_node 4 ∷ the_edge 4 ∷ []) 5
    ∷ Done (the_edge 5 ∷ the_face 2 ∷ []) 6
    ∷ Done (the_layer 1 ∷ []) 7
    ∷ Done (the_feature 1 ∷ []) 8
    ∷ Refused FaceInFeature 8
    ∷ Done (the_feature 1 ∷ []) 9
    ∷ Done (the_face 3 ∷ []) 10
    ∷ []

abbrev pub ParcelGrowsReplies : Type 0
ParcelGrowsReplies =
    answers nothing_drawn 0 parcel_grows ≡ parcel_grows_replies

abbrev pub ParcelGrowsFaces : Type 0
ParcelGrowsFaces =
    parcel_grows_drawing.faces ≡ 0 ∷ 3 ∷ []

abbrev pub ParcelGrowsRelations : Type 0
ParcelGrowsRelations =
    parcel_grows_drawing.relations ≡ relation_line 1 1 3 3
    ∷ []

abbrev pub ParcelGrowsConsistent : Type 0
ParcelGrowsConsistent =
    is_consistent parcel_grows_drawing ≡ true
