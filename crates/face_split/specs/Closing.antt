-- An edge that came into a drawing, and the parts of the face that it divides.
use Rattle.std.specs.Prelude.{◌≡◌, ℕ, ◌+◌, Bool, not, ◌&&◌, ◌==◌, IsTrue, List, [], ◌∷◌, ◌++◌, filter, map, if◌then◌else◌}
use Rattle.topo_base.specs.Point.{Point}
use Rattle.topo_base.specs.declared.ids.Dart.{Dart}
use Rattle.topo_base.specs.declared.rows.NodeRow.{NodeRow}
use Rattle.drawing.specs.AddEdge.{coming, divided, one_new, two_new}
use Rattle.drawing.specs.Drawing.{Drawing, has_face}
use Rattle.drawing.specs.HalfEdge.{HalfEdge, backward_of, dart_of, forward_of, half_edges}
use Rattle.drawing.specs.Outcome.{Accepted, the_edge, the_face}
use Rattle.drawing.specs.IsoEdits.{with_edge}
use Rattle.plane.specs.ClosedWalk.{closed_segments}
use Rattle.drawing.specs.Ring.{contains_half_edge, ring_of, ring_segments}
use Rattle.drawing.specs.Tables.{Tables}
use Rattle.face_parts.specs.declared.parts.FaceParts.{FaceParts}
use Rattle.face_rings.specs.declared.content.BorderDart.{BorderDart}
use Rattle.face_rings.specs.FaceBorder.{face_border}
use Rattle.ring_laws.specs.Ringed.{IsRinged}
use Rattle.face_split.specs.Added.{added_rows}
use Rattle.read_set.specs.Ready.{IsReady}

-- the rows are those of S with an edge of this line more in the face f, which it doesn't divide yet; boxes are still those of S
pub record WasAdded (S : Drawing) (a b : NodeRow) (line : List Point) (f : ℕ) (t : Tables) : Type 0 where
  pub ready : IsReady S
  pub ringed : IsRinged (with_edge S a b line f)
  pub face : IsTrue (has_face S f)
  pub rows : t ≡ added_rows S a b line f

-- there is such a drawing S
pub record HasEdgeIn (t : Tables) (f : ℕ) : Type 0 where
  pub before : Drawing
  pub start : NodeRow
  pub end : NodeRow
  pub line : List Point
  pub added : WasAdded before start end line f t

-- and the edge has this id
pub record HasAdded (t : Tables) (edge f : ℕ) : Type 0 where
  pub before : Drawing
  pub start : NodeRow
  pub end : NodeRow
  pub line : List Point
  pub added : WasAdded before start end line f t
  pub edge_is : edge ≡ before.next_ids.edge

-- the rings on both sides of the edge
abbrev pub left_ring : Drawing → NodeRow → NodeRow → List Point → ℕ → List HalfEdge
left_ring S a b line f = ring_of (half_edges (with_edge S a b line f)) (forward_of (coming S a b line f))

abbrev pub right_ring : Drawing → NodeRow → NodeRow → List Point → ℕ → List HalfEdge
right_ring S a b line f = ring_of (half_edges (with_edge S a b line f)) (backward_of (coming S a b line f))

-- the border of its face, and a closed walk along the ring on its left
pub record IsCut (S : Drawing) (a b : NodeRow) (line : List Point) (f : ℕ) (border : List BorderDart) (walk : List Point) : Type 0 where
  pub border_is : border ≡ face_border (half_edges (with_edge S a b line f)) f
  pub walk_is : closed_segments walk ≡ ring_segments (left_ring S a b line f)

-- the parts where one of them is new: the left one, but where the universal face is left outside on the left
abbrev pub one_part : ℕ → ℕ → ℕ → Bool → FaceParts
one_part f edge new shell =
    record { face = f; edge = edge; left_part = (if f == 0 && not shell then f else new); right_part = (if f == 0 && not shell then new else f) }

abbrev pub two_parts : ℕ → ℕ → ℕ → ℕ → FaceParts
two_parts f edge left right = record { face = f; edge = edge; left_part = left; right_part = right }

-- the drawing with the face divided
abbrev pub in_one : Drawing → NodeRow → NodeRow → List Point → ℕ → Drawing
in_one S a b line f =
    let T = with_edge S a b line f in
    divided T (one_new T f (left_ring S a b line f) (right_ring S a b line f)) (T.faces ++ T.next_ids.face ∷ []) 1

abbrev pub in_two : Drawing → NodeRow → NodeRow → List Point → ℕ → Drawing
in_two S a b line f =
    let T = with_edge S a b line f in
    let new = T.next_ids.face in
    divided T (two_new T f (left_ring S a b line f) (right_ring S a b line f)) (filter (λ g. not (g == f)) T.faces ++ new ∷ (new + 1) ∷ []) 2

-- there is a drawing into which the edge came, and it is cut so
pub record HasCut (t : Tables) (edge f : ℕ) (border : List BorderDart) (walk : List Point) : Type 0 where
  pub before : Drawing
  pub start : NodeRow
  pub end : NodeRow
  pub line : List Point
  pub added : WasAdded before start end line f t
  pub edge_is : edge ≡ before.next_ids.edge
  pub cut : IsCut before start end line f border walk

-- the border of its face, and the darts of the ring on its left
pub record IsRingOnLeft (S : Drawing) (a b : NodeRow) (line : List Point) (f : ℕ) (border : List BorderDart) (ring : List Dart) : Type 0 where
  pub border_is : border ≡ face_border (half_edges (with_edge S a b line f)) f
  pub ring_is : ring ≡ map dart_of (left_ring S a b line f)

pub record HasRing (t : Tables) (edge f : ℕ) (border : List BorderDart) (ring : List Dart) : Type 0 where
  pub before : Drawing
  pub start : NodeRow
  pub end : NodeRow
  pub line : List Point
  pub added : WasAdded before start end line f t
  pub edge_is : edge ≡ before.next_ids.edge
  pub on_left : IsRingOnLeft before start end line f border ring

-- what is accepted where the edge closes a ring, and at all: where a ring takes the edge both ways, no face comes
abbrev pub in_parts : Bool → Drawing → NodeRow → NodeRow → List Point → ℕ → Accepted
in_parts both S a b line f =
    let edge = S.next_ids.edge in
    let new = S.next_ids.face in
    if both && not (f == 0) then record { drawing = in_two S a b line f; ids = the_edge edge ∷ the_face new ∷ the_face (new + 1) ∷ [] }
    else record { drawing = in_one S a b line f; ids = the_edge edge ∷ the_face new ∷ [] }

abbrev pub with_edge_in : Bool → Drawing → NodeRow → NodeRow → List Point → ℕ → Accepted
with_edge_in both S a b line f =
    if contains_half_edge (left_ring S a b line f) (backward_of (coming S a b line f)) then record { drawing = with_edge S a b line f; ids = the_edge S.next_ids.edge ∷ [] }
    else in_parts both S a b line f
