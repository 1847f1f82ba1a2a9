-- A line, by the list of its vertices.
use Rattle.std.specs.Prelude.{pos, Bool, true, not, ◌&&◌, ◌||◌, List, [], ◌∷◌, ◌++◌, if◌then◌else◌}
use Rattle.std.specs.List.{list_any, list_all}
use Rattle.topo_base.specs.Point.{Point, same_point}
use Rattle.plane.specs.Segment.{Segment, on_segment, touches, touches_at, meets_only_at}

-- the first vertex and the last; a line has at least two, so no line has this one
abbrev pub no_point : Point
no_point = record { x = pos 0; y = pos 0 }

abbrev pub first_vertex : List Point → Point
first_vertex [] = no_point
first_vertex (p ∷ ps) = p

abbrev pub last_vertex : List Point → Point
last_vertex [] = no_point
last_vertex (p ∷ []) = p
last_vertex (p ∷ q ∷ ps) = last_vertex (q ∷ ps)

-- the segments of a line
abbrev pub segments_of : List Point → List Segment
segments_of [] = []
segments_of (p ∷ []) = []
segments_of (p ∷ q ∷ ps) = record { a = p; b = q } ∷ segments_of (q ∷ ps)

-- p lies on the line
abbrev pub on_line : Point → List Point → Bool
on_line p line = list_any (on_segment p) (segments_of line)

-- p is the first vertex or the last
abbrev pub is_line_end : Point → List Point → Bool
is_line_end p line = same_point p (first_vertex line) || same_point p (last_vertex line)

-- p lies on the line and is neither its first vertex nor its last
abbrev pub is_inside_line : Point → List Point → Bool
is_inside_line p line = on_line p line && not (is_line_end p line)

-- no two neighbouring vertices are equal
abbrev pub is_proper : Segment → Bool
is_proper s = not (same_point s.a s.b)

-- t follows s and has the vertex between them, and no other point, in common with it
abbrev pub joins : Segment → Segment → Bool
joins s t = touches_at s.b s t

-- s has no point in common with these, where the last of them may end where the line, whose first vertex is p, begins
abbrev pub is_apart_from : Point → Segment → List Segment → Bool
is_apart_from p s [] = true
is_apart_from p s (t ∷ []) = not (touches s t) || same_point s.a p && same_point t.b p && touches_at p s t
is_apart_from p s (t ∷ u ∷ ts) = not (touches s t) && is_apart_from p s (u ∷ ts)

-- each two neighbours join, and no other two have a common point, but that the first and the last may close the line
abbrev pub are_simple : Point → List Segment → Bool
are_simple p [] = true
are_simple p (s ∷ []) = true
are_simple p (s ∷ t ∷ ts) = joins s t && is_apart_from p s ts && are_simple p (t ∷ ts)

abbrev pub is_simple : List Point → Bool
is_simple line = list_all is_proper (segments_of line) && are_simple (first_vertex line) (segments_of line)

-- the line has no point in common with the other but, maybe, its own first and last vertices
abbrev pub meets_at_own_ends : List Point → List Point → Bool
meets_at_own_ends line other =
    list_all (λ s. list_all (meets_only_at (first_vertex line) (last_vertex line) s) (segments_of other)) (segments_of line)

-- the parts of a line up to a point on it, and from it on; where the point is a vertex it is not put in twice
abbrev pub line_up_to : Point → List Point → List Point
line_up_to p [] = []
line_up_to p (a ∷ []) = a ∷ []
line_up_to p (a ∷ b ∷ rest) = if on_segment p (record { a = a; b = b }) then a ∷ p ∷ [] else a ∷ line_up_to p (b ∷ rest)

abbrev pub line_from : Point → List Point → List Point
line_from p [] = []
line_from p (a ∷ []) = a ∷ []
line_from p (a ∷ b ∷ rest) =
    if on_segment p (record { a = a; b = b }) then (if same_point p b then b ∷ rest else p ∷ b ∷ rest) else line_from p (b ∷ rest)

-- two lines in a row, the second of which begins where the first ends
abbrev pub without_first : List Point → List Point
without_first [] = []
without_first (p ∷ ps) = ps

abbrev pub joined : List Point → List Point → List Point
joined a b = a ++ without_first b
