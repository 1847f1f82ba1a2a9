use Rattle.std.specs.Int.{w64}
use Rattle.std.proofs.lemmas.Int.{to_z-of_z}
use Rattle.script_reader.proofs.IdWords.{point_found}
use Rattle.script_reader.proofs.points.point_of.Goals as goal

pub returns : goal.returns
returns c =
    point_found _ _ _ _ _ _ c.in-Some.ensures.some c.in-Some-number.ensures.some
    (to_z-of_z w64 c.in-Some.x c.in-Some.ensures.some.fits) (to_z-of_z w64 c.in-Some-number.y c.in-Some-number.ensures.some.fits)
    c.of.result c.of.ensures.range c.of.ensures.value
