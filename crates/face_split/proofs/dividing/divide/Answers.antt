use Rattle.std.proofs.Common.{sym, subst}
use Rattle.drawing.specs.Tables.{Tables}
use Rattle.face_split.specs.Divided.{KnowsFeatures}
use Rattle.face_split.proofs.Featured.{features_kept}
use Rattle.face_split.proofs.dividing.divide.Goals as goal

pub follow_parts-requires : goal.follow_parts-requires
follow_parts-requires g c =
    let h = c.requires.divisible in
    subst (λ (t : Tables). KnowsFeatures t c.args.parts.now.face) (sym (c.in_ok-divide_rows.ensures.rows h.drawing h.edge h.division h.divided))
    (features_kept c.args.draft.now.rows h.drawing h.division c.args.parts.now.face h.features)
