-- Lists of steps, parities of crossings over them, and the order of directions about a point.
-- A step is a segment walked from a to b.
use Rattle.std.specs.Prelude.{◌≡◌, pos, Bool, true, false, not, ◌&&◌, ◌||◌, List, [], ◌∷◌, int_lt}
use Rattle.topo_base.specs.Point.{Point, same_point}
use Rattle.plane.specs.Direction.{Direction, direction_to, cross}
use Rattle.plane.specs.Segment.{Segment}
use Rattle.topo_base.specs.RationalPoint.{RationalPoint}
use Rattle.plane.specs.Parity.{xor}
use Rattle.plane.specs.Crossings.{back, crosses, crosses_at}

-- whether an odd number of the list passes the test
abbrev pub odd : {A : Type 0} → (A → Bool) → List A → Bool
odd f [] = false
odd f (x ∷ xs) = xor (f x) (odd f xs)

abbrev pub Each : {A : Type 0} → (A → Type 0) → List A → Type 0
Each P [] = Unit {0}
Each P (x ∷ xs) = P x × Each P xs

-- at each point an even number of steps begin or end
abbrev pub Even : List Segment → Type 0
Even X = (h : Point → Bool) → odd (λ t. xor (h t.a) (h t.b)) X ≡ false

-- the parity of the steps above p
abbrev pub above : List Segment → Point → Bool
above X p = odd (λ t. crosses t p) X

-- the direction in which a step is walked
abbrev pub direction : Segment → Direction
direction s = direction_to s.a s.b

-- to the right, or straight down
abbrev pub rightward : Direction → Bool
rightward u = int_lt (pos 0) u.dx || (not (int_lt u.dx (pos 0)) && int_lt u.dy (pos 0))

-- a is before b where each is true or not of the half turn to the right, and c says that a is before b within a half turn
abbrev pub first_of : Bool → Bool → Bool → Bool
first_of true true c = c
first_of true false c = true
first_of false true c = false
first_of false false c = c

-- u comes before w, clockwise from straight up, which itself comes last
abbrev pub before : Direction → Direction → Bool
before u w = first_of (rightward u) (rightward w) (int_lt (cross u w) (pos 0))

-- t begins or ends at v, and leaves v before the direction u
abbrev pub leaves_before : Point → Direction → Segment → Bool
leaves_before v u t = xor (same_point t.a v && before (direction t) u) (same_point t.b v && before (direction (back t)) u)

-- the parity of the steps at v before the direction u
abbrev pub turned : List Segment → Point → Direction → Bool
turned X v u = odd (leaves_before v u) X

-- t is s or s walked backwards
abbrev pub twin : Segment → Segment → Bool
twin s t = xor (same_point t.a s.a && same_point t.b s.b) (same_point t.a s.b && same_point t.b s.a)

abbrev pub times : List Segment → Segment → Bool
times X s = odd (twin s) X

-- the parity of X just left of the step s
abbrev pub left : List Segment → Segment → Bool
left X s = xor (above X s.a) (turned X s.a (direction s))

-- the parity of the steps above a rational point
abbrev pub above_at : List Segment → RationalPoint → Bool
above_at X q = odd (λ t. crosses_at t q) X
