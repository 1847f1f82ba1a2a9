-- Along a straight way that meets no segment of a closed line, the parity of the segments above stays.
use Rattle.std.specs.Prelude.{◌≡◌, List}
use Rattle.topo_base.specs.Point.{Point}
use Rattle.topo_base.specs.RationalPoint.{RationalPoint}
use Rattle.plane.specs.Line.{first_vertex, last_vertex, segments_of}
use Rattle.plane.specs.RationalTests.{IsOnLine, IsOnWay, is_odd_over_at}

-- the line ends where it begins
abbrev pub IsClosed : List Point → Type 0
IsClosed line = last_vertex line ≡ first_vertex line

-- no point of the straight way from p to q is on the line
abbrev pub IsClearWay : RationalPoint → RationalPoint → List Point → Type 0
IsClearWay p q line = (r : RationalPoint) → IsOnWay r p q → IsOnLine r line → ⊥

abbrev pub ParityStays : Type 0
ParityStays = (p q : RationalPoint) (line : List Point) → IsClosed line → IsClearWay p q line → is_odd_over_at p (segments_of line) ≡ is_odd_over_at q (segments_of line)
