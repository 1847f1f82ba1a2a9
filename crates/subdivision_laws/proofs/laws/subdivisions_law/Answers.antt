use Rattle.subdivision_laws.proofs.SubdivisionsStaying.{subdivisions_stay}
use Rattle.subdivision_laws.proofs.laws.subdivisions_law.Goals as goal

pub returns : goal.returns
returns c = subdivisions_stay
