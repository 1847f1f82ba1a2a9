-- The segment that is first straight above a point.
use Rattle.std.specs.Prelude.{◌≡◌, ℤ, pos, ◌-ℤ◌, ◌*ℤ◌, Bool, false, ◌&&◌, ⊤, ◌||◌, IsTrue, int_lt, List, Option, Some, None, Contains, if◌then◌else◌}
use Rattle.std.specs.Ordering.{int_eq}
use Rattle.topo_base.specs.Point.{Point}
use Rattle.topo_base.specs.declared.ids.Dart.{Dart}
use Rattle.plane.specs.Orientation.{area, is_left}
use Rattle.plane.specs.Segment.{Segment}
use Rattle.plane.specs.Crossings.{back}
use Rattle.plane.specs.Parity.{is_over}
use Rattle.plane.specs.Relation.{turn}
use Rattle.slab_index.specs.declared.piece.Piece.{Piece}

abbrev pub segment_of : Piece → Segment
segment_of e = record { a = e.start; b = e.end }

-- the segment, from its left end to its right one, and how far it goes to the right
abbrev pub rightward : Segment → Segment
rightward s = if int_lt s.a.x s.b.x then s else back s

abbrev pub run : Segment → ℤ
run s = s.b.x -ℤ s.a.x

-- s and t go to the right: straight above p, s is lower than t, or as high and of lesser slope
abbrev pub is_lower_rightward : Point → Segment → Segment → Bool
is_lower_rightward p s t =
    int_lt (area t.a t.b p *ℤ run s) (area s.a s.b p *ℤ run t)
    || int_eq (area t.a t.b p *ℤ run s) (area s.a s.b p *ℤ run t) && int_lt (turn t s) (pos 0)

-- the same of two segments over p in any direction
abbrev pub is_lower : Point → Segment → Segment → Bool
is_lower p s t = is_lower_rightward p (rightward s) (rightward t)

-- among these segments e is over p, and none over p is lower than it
pub record IsFirstAbove (p : Point) (pieces : List Piece) (e : Piece) : Type 0 where
  pub kept : Contains pieces e
  pub over : IsTrue (is_over p (segment_of e))
  pub first : (f : Piece) → Contains pieces f → IsTrue (is_over p (segment_of f)) → is_lower p (segment_of f) (segment_of e) ≡ false

-- the direction of the segment's edge with p on its left, where p isn't on it
abbrev pub dart_beside : Point → Piece → Dart
dart_beside p e = record { edge = e.edge; forward = is_left e.start e.end p }

-- the dart of the first segment above p, or none where no segment is over p
abbrev pub IsDartAbove : Point → List Piece → Option Dart → Type 0
IsDartAbove p pieces None = (e : Piece) → Contains pieces e → is_over p (segment_of e) ≡ false
IsDartAbove p pieces (Some d) = (e : Piece) × (IsFirstAbove p pieces e × (d ≡ dart_beside p e))

-- the lower one of what was found and one segment more, if this is over p
abbrev pub is_found_lower : Point → Option Piece → Piece → Bool
is_found_lower p None e = is_over p (segment_of e)
is_found_lower p (Some f) e = is_over p (segment_of e) && is_lower p (segment_of e) (segment_of f)

abbrev pub with_lower : Point → Option Piece → Piece → Option Piece
with_lower p found e = if is_found_lower p found e then Some e else found

-- what was found, if anything, is over p
abbrev pub IsFoundOver : Point → Option Piece → Type 0
IsFoundOver p None = ⊤
IsFoundOver p (Some e) = IsTrue (is_over p (segment_of e))
