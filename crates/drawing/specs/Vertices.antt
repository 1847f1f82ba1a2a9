-- Lines with segments.
use Rattle.std.specs.Prelude.{Bool, nat_le, List, length}
use Rattle.std.specs.List.{list_all}
use Rattle.drawing.specs.Drawing.{Edge}

-- each line has two vertices or more
abbrev pub have_segments : List Edge → Bool
have_segments edges = list_all (λ (e : Edge). nat_le 2 (length e.geom)) edges
