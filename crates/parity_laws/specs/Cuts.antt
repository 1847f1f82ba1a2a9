-- A step cut in two at a point of it.
use Rattle.std.specs.Prelude.{◌≡◌, ◌≢◌, pos, cond, ◌&&◌, List, [], ◌∷◌, ◌++◌}
use Rattle.topo_base.specs.Point.{Point, same_point}
use Rattle.plane.specs.Segment.{Segment}
use Rattle.topo_base.specs.RationalPoint.{IsBetween}
use Rattle.plane.specs.Orientation.{area}
use Rattle.plane.specs.Crossings.{back}

-- m is on s, and no end of it
pub record Inner (m : Point) (s : Segment) : Type 0 where
  pub straight : area s.a s.b m ≡ pos 0
  pub across : IsBetween s.a.x m.x s.b.x
  pub upward : IsBetween s.a.y m.y s.b.y
  pub not_start : m ≢ s.a
  pub not_end : m ≢ s.b

abbrev pub first_part : Segment → Point → Segment
first_part s m = record { a = s.a; b = m }

abbrev pub last_part : Segment → Point → Segment
last_part s m = record { a = m; b = s.b }

-- t, or its two parts where it is s or s walked backwards
abbrev pub parts : Segment → Point → Segment → List Segment
parts s m t =
    cond (same_point t.a s.a && same_point t.b s.b)
    (first_part s m ∷ last_part s m ∷ [])
    (cond (same_point t.a s.b && same_point t.b s.a) (first_part (back s) m ∷ last_part (back s) m ∷ []) (t ∷ []))

abbrev pub cut : Segment → Point → List Segment → List Segment
cut s m [] = []
cut s m (t ∷ X) = parts s m t ++ cut s m X
