-- The features that list a face are features of the tables at every stage of a draft.
use Rattle.std.proofs.Common.{ℕ}
use Rattle.drawing.specs.AddEdge.{Division}
use Rattle.drawing.specs.Drawing.{Drawing}
use Rattle.drawing.specs.Tables.{Tables}
use Rattle.face_parts.specs.DividedFace.{with_division}
use Rattle.face_split.specs.Divided.{KnowsFeatures}

-- sides and containing faces don't matter
pub features_kept : (t : Tables) (T : Drawing) (d : Division) (f : ℕ) → KnowsFeatures t f → KnowsFeatures (with_division t T d) f
features_kept t T d f knows features is = let h = knows features is in record { ascend = h.ascend; listed = h.listed; known = h.known; layers = h.layers }
