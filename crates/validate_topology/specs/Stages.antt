-- The stages of a report: it has the lines of the first that has any.
use Rattle.std.specs.Prelude.{◌≡◌, List, []}
use Rattle.drawing.specs.Tables.{Tables}
use Rattle.validate_topology.specs.LinkLines.{HasLinkLines}
use Rattle.validate_topology.specs.PlaceLines.{HasPlaceLines}
use Rattle.validate_topology.specs.PlainLines.{HasPlainLines}
use Rattle.validate_topology.specs.RelationLines.{AreReferenceLines}
use Rattle.validate_topology.specs.RingLines.{HasRingLines}
use Rattle.validate_topology.specs.declared.lines.ReportLine.{ReportLine}

-- the lines on nodes and links; where there are none, those on rings and shells; and then those on what lies in a face and on boxes
pub data AreFaceLines (t : Tables) (lines : List ReportLine) : Type 0 where
  on_links : (lines ≡ [] → ⊥) → HasLinkLines t lines → AreFaceLines t lines
  on_rings : (lines ≡ [] → ⊥) → HasLinkLines t [] → HasRingLines t lines → AreFaceLines t lines
  on_places : HasLinkLines t [] → HasRingLines t [] → HasPlaceLines t lines → AreFaceLines t lines

-- the lines on ids and references; where there are none, those on points and lines; and then the others
pub data IsReport (t : Tables) (report : List ReportLine) : Type 0 where
  on_references : (report ≡ [] → ⊥) → AreReferenceLines t report → IsReport t report
  on_points : (report ≡ [] → ⊥) → AreReferenceLines t [] → HasPlainLines t report → IsReport t report
  on_faces : AreReferenceLines t [] → HasPlainLines t [] → AreFaceLines t report → IsReport t report
