-- A parcel lists both parts of its face.
use Rattle.std.specs.Prelude.{◌≡◌, pos, List, [], ◌∷◌, None, true, codes}
use Rattle.topo_base.specs.declared.edit.Edit.{Edit}
use Rattle.topo_base.specs.declared.edit.Edit.TheVariants.{AddIsoNode, AddEdgeModFace, ModEdgeSplit, AddLayer, CreateTopoGeom}
use Rattle.topo_base.specs.declared.kind.Kind.TheVariants.{Areal}
use Rattle.drawing.specs.Drawing.{Drawing, nothing_drawn}
use Rattle.drawing.specs.Outcome.{the_node, the_edge, the_face, the_layer, the_feature}
use Rattle.topo_base.specs.declared.answer.Answer.{Answer}
use Rattle.topo_base.specs.declared.answer.Answer.TheVariants.{Done}
use Rattle.drawing.specs.Replay.{answers, after_all}
use Rattle.drawing.specs.Subdivision.{is_consistent}
use Rattle.topo_model.specs.examples.Rows.{at, pair, relation_line}

abbrev pub parcel_divided : List Edit
parcel_divided =
    AddIsoNode None (at (pos 0) (pos 0))
    ∷ AddEdgeModFace 1 1 (at (pos 0) (pos 0) ∷ at (pos 4) (pos 0) ∷ at (pos 4) (pos 4) ∷ at (pos 0) (pos 4) ∷ at (pos 0) (pos 0) ∷ [])
    ∷ ModEdgeSplit 1 (at (pos 4) (pos 0))
    ∷ ModEdgeSplit 2 (at (pos 4) (pos 4))
    ∷ ModEdgeSplit 3 (at (pos 0) (pos 4))
    ∷ AddLayer (codes "parcels") Areal None
    ∷ CreateTopoGeom 1 (pair 1 3 ∷ [])
    ∷ AddEdgeModFace 1 3 (at (pos 0) (pos 0) ∷ at (pos 4) (pos 4) ∷ [])
    ∷ []

abbrev pub parcel_divided_drawing : Drawing
parcel_divided_drawing = after_all nothing_drawn parcel_divided

abbrev pub parcel_divided_replies : List Answer
parcel_divided_replies =
    Done (the_node 1 ∷ []) 1
    ∷ Done (the_edge 1 ∷ the_face 1 ∷ []) 2
    ∷ Done (the_node 2 ∷ the_edge 2 ∷ []) 3
    ∷ Done (the_node 3 ∷ the_edge 3 ∷ []) 4
    ∷ Done (the_node 4 ∷ the_edge 4 ∷ []) 5
    ∷ Done (the_layer 1 ∷ []) 6
    ∷ Done (the_feature 1 ∷ []) 7
    ∷ Done (the_edge 5 ∷ the_face 2 ∷ []) 8
    ∷ []

abbrev pub ParcelDividedReplies : Type 0
ParcelDividedReplies =
    answers nothing_drawn 0 parcel_divided ≡ parcel_divided_replies

abbrev pub ParcelDividedRelations : Type 0
ParcelDividedRelations =
    parcel_divided_drawing.relations ≡ relation_line 1 1 1 3
    ∷ relation_line 1 1 2 3
    ∷ []

abbrev pub ParcelDividedConsistent : Type 0
ParcelDividedConsistent =
    is_consistent parcel_divided_drawing ≡ true
