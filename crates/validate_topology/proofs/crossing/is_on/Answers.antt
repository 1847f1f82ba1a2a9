use Rattle.std.proofs.Common.{◌∙◌, refl, sym}
use Rattle.validate_topology.proofs.Crossings.{point_test}
use Rattle.validate_topology.specs.Pieces.{way_of}
use Rattle.validate_topology.proofs.crossing.is_on.Goals as goal

pub returns-in-None : goal.returns-in-None
returns-in-None c =
    let piece = c.args.piece.now in
    c.is_same_point.ensures ∙ point_test c.args.p.now piece.from (way_of piece) refl (sym c.in-None.ensures)
