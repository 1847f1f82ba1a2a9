-- The links round an edge that comes are right.
use Rattle.std.specs.Prelude.{◌≡◌, ◌≤◌, ℕ, length, true, false, IsTrue, List, ◌++◌, All, Contains}
use Rattle.topo_base.specs.Point.{Point}
use Rattle.topo_base.specs.declared.ids.Dart.{Dart}
use Rattle.topo_base.specs.declared.rows.NodeRow.{NodeRow}
use Rattle.topo_base.specs.declared.write.RowId.TheVariants.{Old}
use Rattle.topo_base.specs.declared.write.RowDart.{RowDart}
use Rattle.topo_base.specs.declared.write.RowWrite.{RowWrite}
use Rattle.topo_base.specs.declared.write.RowWrite.TheVariants.{AddEdge}
use Rattle.drawing.specs.AddEdge.{coming}
use Rattle.plane.specs.Direction.{IsNotZero}
use Rattle.drawing.specs.Drawing.{Drawing}
use Rattle.drawing.specs.HalfEdge.{HalfEdge, half_edges, twin, dart_of}
use Rattle.drawing.specs.IsoEdits.{with_edge}
use Rattle.drawing.specs.Plain.{IsPlain}
use Rattle.drawing.specs.PlainInOrder.{IsPlainInOrder}
use Rattle.drawing.specs.Star.{next_of, star}
use Rattle.drawing.specs.Tables.{Tables, tables_of}
use Rattle.plane.specs.Wedge.{in_clockwise_order}
use Rattle.drawing.specs.Writable.{CanWriteAll}
use Rattle.drawing.specs.Writes.{written, all_written}
use Rattle.edge_links.specs.Links.{dart_after, links_round}
use Rattle.edge_links.specs.Rays.{Rays, rays_of, with_both}

-- the star of a node, as it is seen
abbrev pub rays_at : Drawing → ℕ → Rays
rays_at S n = rays_of (star (half_edges S) n)

-- no half-edge leaves the node in the direction zero: their lines have two vertices
abbrev pub HasDirections : Drawing → ℕ → Type 0
HasDirections S n = All IsNotZero (rays_at S n).dirs

-- an edge of this id and line comes into S, from the one node to the other, and the drawing with it is plain too
pub record IsComing (S : Drawing) (a b : NodeRow) (line : List Point) (f edge start end : ℕ) : Type 0 where
  pub ordered : IsPlainInOrder S
  pub plain : IsPlain (with_edge S a b line f)
  pub next : edge ≡ S.next_ids.edge
  pub starts : start ≡ a.node_id
  pub ends : end ≡ b.node_id

-- the edge that comes into S: its dart at its start and at its end, and the write of its row with links that are still to be set
abbrev pub start_dart : Drawing → Dart
start_dart S = record { edge = S.next_ids.edge; forward = true }

abbrev pub end_dart : Drawing → Dart
end_dart S = record { edge = S.next_ids.edge; forward = false }

abbrev pub row_write : Drawing → NodeRow → NodeRow → List Point → ℕ → RowDart → RowDart → RowWrite
row_write S a b line f left right = AddEdge (Old S.next_ids.edge) (Old a.node_id) (Old b.node_id) left right (Old f) (Old f) line

-- the tables with that row
abbrev pub with_row : Drawing → NodeRow → NodeRow → List Point → ℕ → RowDart → RowDart → Tables
with_row S a b line f left right = written S.next_ids (tables_of S) (row_write S a b line f left right)

-- the writes of the links at its two nodes, by the stars of T, in which it is
abbrev pub link_writes_of : Drawing → Drawing → NodeRow → NodeRow → List RowWrite
link_writes_of S T a b = links_round (start_dart S) (rays_at T a.node_id).darts ++ links_round (end_dart S) (rays_at T b.node_id).darts

pub record LinksAreRight : Type 0 where
  -- a star is in clockwise order from its first direction
  pub order : (S : Drawing) (n : ℕ) → IsPlainInOrder S → HasDirections S n → IsTrue (in_clockwise_order (rays_at S n).dirs)
  -- what follows a half-edge is the dart after it, walked back, in the star of the node where it arrives
  pub next : (S : Drawing) (h : HalfEdge) → IsPlainInOrder S → HasDirections S h.to_node → Contains (half_edges S) h
      → dart_of (next_of (half_edges S) h) ≡ dart_after (dart_of (twin h)) (rays_at S h.to_node).darts
  -- a star with an edge that comes is the star, and the edge's darts put in
  pub comes : (S : Drawing) (a b : NodeRow) (line : List Point) (f n : ℕ) → IsPlainInOrder S → IsPlain (with_edge S a b line f) → HasDirections S n → 2 ≤ length line
      → with_both n (coming S a b line f) (rays_at S n) ≡ rays_at (with_edge S a b line f) n
  -- after the writes of its row and of the links at its nodes each link is right
  pub links : (S : Drawing) (a b : NodeRow) (line : List Point) (f : ℕ) (left right : RowDart) → IsPlainInOrder S → IsPlain (with_edge S a b line f)
      → HasDirections S a.node_id → HasDirections S b.node_id → 2 ≤ length line
      → (all_written S.next_ids (with_row S a b line f left right) (link_writes_of S (with_edge S a b line f) a b)).edges ≡ (tables_of (with_edge S a b line f)).edges
  -- and those writes may be made
  pub writable : (S : Drawing) (a b : NodeRow) (line : List Point) (f : ℕ) (left right : RowDart) → IsPlainInOrder S → IsPlain (with_edge S a b line f)
      → HasDirections S a.node_id → HasDirections S b.node_id → 2 ≤ length line
      → CanWriteAll S.next_ids (with_row S a b line f left right) (link_writes_of S (with_edge S a b line f) a b)
