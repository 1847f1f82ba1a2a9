-- Where a point is: parities of the border segments above it, at the places of faces, the first of which may be any.
use Rattle.std.specs.Prelude.{◌≡◌, ℕ, ◌+◌, ◌-◌, ◌<◌, ◌≤◌, ◌==◌, ◌&&◌, Bool, true, false, not, List, map, filter, flat_map, length, slice_index_or, Option, Some, None}
use Rattle.topo_base.specs.Point.{Point}
use Rattle.topo_base.specs.declared.rows.EdgeRow.{EdgeRow}
use Rattle.drawing.specs.Drawing.{Drawing, Edge, has_face}
use Rattle.plane.specs.Parity.{xor, is_odd_over}
use Rattle.drawing.specs.Faces.{is_border}
use Rattle.plane.specs.Line.{segments_of}
use Rattle.plane.specs.Segment.{Segment}
use Rattle.drawing.specs.Tables.{drawn_edge}

-- the segments of the edges of these rows that have the face on exactly one side
abbrev pub border_in : ℕ → List EdgeRow → List Segment
border_in f rows = flat_map (λ (e : Edge). segments_of e.geom) (filter (is_border f) (map drawn_edge rows))

-- no place is odd
abbrev pub AreNone : List Bool → Type 0
AreNone odd = (k : ℕ) → slice_index_or odd k false ≡ false

-- each place says whether an odd number of its face's border segments are over the point
abbrev pub AreOdd : Point → ℕ → List EdgeRow → List Bool → Type 0
AreOdd p first rows odd = (k : ℕ) → k < length odd → slice_index_or odd k false ≡ is_odd_over p (border_in (first + k) rows)

-- the places of these faces have changed
abbrev pub AreToggled : (ℕ → Bool) → ℕ → List Bool → List Bool → Type 0
AreToggled these first old new = (k : ℕ) → k < length old → slice_index_or new k false ≡ xor (these (first + k)) (slice_index_or old k false)

-- the face has an odd place, is another than face 0, and is listed
abbrev pub is_odd_listed : Drawing → ℕ → List Bool → ℕ → Bool
is_odd_listed S first odd f = slice_index_or odd (f - first) false && not (f == 0) && has_face S f

-- the least number from the first to the end, and below the next id, that meets the test
abbrev pub IsLeast : (ℕ → Bool) → ℕ → ℕ → ℕ → Option ℕ → Type 0
IsLeast test first end next None = (f : ℕ) → first ≤ f → f < end → f < next → test f ≡ false
IsLeast test first end next (Some f) = (first ≤ f) × (f < end) × (test f ≡ true) × ((g : ℕ) → first ≤ g → g < f → test g ≡ false)
