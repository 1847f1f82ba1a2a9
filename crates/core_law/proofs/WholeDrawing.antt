-- Where each edit reads the whole drawing, two drawings that agree on what is read are one.
use Rattle.std.proofs.Common.{◌≡◌, ap, subst, IsOk, [], Option, Some, None}
use Rattle.topo_base.specs.declared.element.Element.TheVariants.{Drawing as TheDrawing}
use Rattle.plane.proofs.ListTests.{contains_here}
use Rattle.drawing.specs.Content.{Content, OfDrawing, OfFace, OfNode, OfEdge, OfLayer, OfFeature}
use Rattle.drawing.specs.Drawing.{Drawing}
use Rattle.drawing.specs.Step.{step}
use Rattle.history_model.specs.Reads.{whole_drawing}
use Rattle.core_law.specs.Reading.{IsLocal}
use Rattle.core_law.specs.CoreLaw.{IsCoreRight}
use Rattle.core_law.proofs.CoreRunning.{core_right}

-- the drawing that a content is of
abbrev drawing_in : Drawing → Option Content → Drawing
drawing_in S (Some (OfDrawing T)) = T
drawing_in S (Some (OfFace c)) = S
drawing_in S (Some (OfNode c)) = S
drawing_in S (Some (OfEdge c)) = S
drawing_in S (Some (OfLayer c)) = S
drawing_in S (Some (OfFeature c)) = S
drawing_in S None = S

pub whole_drawing_local : IsLocal whole_drawing
whole_drawing_local max_id S T e before now limits ok agree =
    let same : S ≡ T = ap (drawing_in S) (agree TheDrawing (contains_here TheDrawing [])) in
    subst (λ (U : Drawing). IsOk (step U e)) same ok

pub whole_drawing_right : IsCoreRight whole_drawing
whole_drawing_right = core_right whole_drawing whole_drawing_local
