-- The half-edges about a node, and the one that follows another.
use Rattle.std.specs.Prelude.{ℕ, not, ◌&&◌, List, [], ◌∷◌, filter, fold, Option, Some, None, if◌then◌else◌}
use Rattle.drawing.specs.HalfEdge.{HalfEdge, twin, leaves, same_half_edge}
use Rattle.plane.specs.Direction.{Direction, first_direction, straight_up, is_nearer}

-- the direction in which a half-edge leaves
abbrev pub leaving : HalfEdge → Direction
leaving h = first_direction h.points

-- the half-edge among these that is first clockwise from a direction, and the one that is last; of equals the earlier one
abbrev pub nearer_of : Direction → HalfEdge → HalfEdge → HalfEdge
nearer_of r h k = if is_nearer r (leaving k) (leaving h) then k else h

abbrev pub farther_of : Direction → HalfEdge → HalfEdge → HalfEdge
farther_of r h k = if is_nearer r (leaving h) (leaving k) then k else h

abbrev pub first_clockwise : Direction → List HalfEdge → Option HalfEdge
first_clockwise r [] = None
first_clockwise r (h ∷ hs) = Some (fold (nearer_of r) h hs)

abbrev pub last_clockwise : Direction → List HalfEdge → Option HalfEdge
last_clockwise r [] = None
last_clockwise r (h ∷ hs) = Some (fold (farther_of r) h hs)

-- next: the first half-edge that leaves where h arrives, clockwise from h walked back; h walked back where no other leaves
abbrev pub or_twin : HalfEdge → Option HalfEdge → HalfEdge
or_twin h None = twin h
or_twin h (Some k) = k

abbrev pub next_of : List HalfEdge → HalfEdge → HalfEdge
next_of hs h =
    or_twin h (first_clockwise (leaving (twin h)) (filter (λ k. leaves h.to_node k && not (same_half_edge k (twin h))) hs))

-- the star: those that leave the node, clockwise from straight up
abbrev pub insert_clockwise : HalfEdge → List HalfEdge → List HalfEdge
insert_clockwise h [] = h ∷ []
insert_clockwise h (k ∷ ks) = if is_nearer straight_up (leaving h) (leaving k) then h ∷ k ∷ ks else k ∷ insert_clockwise h ks

abbrev pub clockwise : List HalfEdge → List HalfEdge
clockwise [] = []
clockwise (h ∷ hs) = insert_clockwise h (clockwise hs)

abbrev pub star : List HalfEdge → ℕ → List HalfEdge
star hs n = clockwise (filter (leaves n) hs)
