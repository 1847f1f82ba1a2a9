-- An index keeps exactly the segments of a table's edges, from one change to the next.
use Rattle.std.specs.Prelude.{◌≡◌, ℕ, not, ◌==◌, List, [], ◌∷◌, ◌++◌, filter, map}
use Rattle.std.specs.List.{list_any}
use Rattle.std.specs.List.Sorted.{IsPermutation}
use Rattle.topo_base.specs.declared.rows.EdgeRow.{EdgeRow}
use Rattle.slab_index.specs.declared.piece.Piece.{Piece}
use Rattle.slab_index.specs.Pieces.{pieces_of, AreTogether, AreChanged}
use Rattle.above_laws.specs.Indexed.{KeepsEdges}

-- the rows that stay where these edges go
abbrev pub staying : List ℕ → List EdgeRow → List EdgeRow
staying gone rows = filter (λ (row : EdgeRow). not (list_any (λ n. n == row.edge_id) gone)) rows

-- the row has the same id and the same line
pub record IsSameLine (row other : EdgeRow) : Type 0 where
  pub id : other.edge_id ≡ row.edge_id
  pub geom : other.geom ≡ row.geom

pub record EdgesAreKept : Type 0 where
  pub begins : KeepsEdges [] []
  -- an edge more
  pub inserted : (before after : List Piece) (rows : List EdgeRow) (row : EdgeRow) → KeepsEdges before rows → AreTogether after (pieces_of row) before → KeepsEdges after (rows ++ row ∷ [])
  -- some edges go, and others come
  pub changed : (before after coming : List Piece) (gone : List ℕ) (rows come : List EdgeRow) → KeepsEdges before rows → KeepsEdges coming come → AreChanged after before gone coming
      → KeepsEdges after (staying gone rows ++ come)
  -- neither the order of the rows matters, nor what they have beside their ids and lines
  pub reordered : (kept : List Piece) (rows others : List EdgeRow) → KeepsEdges kept rows → IsPermutation rows others → KeepsEdges kept others
  pub relinked : (kept : List Piece) (rows : List EdgeRow) (change : EdgeRow → EdgeRow) → KeepsEdges kept rows → ((row : EdgeRow) → IsSameLine row (change row)) → KeepsEdges kept (map change rows)
