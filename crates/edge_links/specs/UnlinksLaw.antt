-- The links round an edge that goes are right.
use Rattle.std.specs.Prelude.{◌≡◌, ℕ, ◌==◌, List, [], ◌∷◌, ◌++◌, Contains, if◌then◌else◌}
use Rattle.topo_base.specs.declared.write.RowId.TheVariants.{Old}
use Rattle.topo_base.specs.declared.write.RowWrite.{RowWrite}
use Rattle.topo_base.specs.declared.write.RowWrite.TheVariants.{DropEdge}
use Rattle.drawing.specs.Drawing.{Drawing, Edge, edge_id_of}
use Rattle.drawing.specs.PlainInOrder.{IsPlainInOrder}
use Rattle.drawing.specs.Rows.{without_row}
use Rattle.drawing.specs.Tables.{Tables, tables_of}
use Rattle.drawing.specs.Writable.{CanWriteAll}
use Rattle.drawing.specs.Writes.{all_written}
use Rattle.edge_links.specs.LinksLaw.{HasDirections, rays_at}
use Rattle.edge_links.specs.Unlinks.{others, unlinks_round}

-- the drawing without the edge of this id, where nothing else has changed
abbrev pub edge_gone : Drawing → ℕ → Drawing
edge_gone S id = record S { edges = without_row edge_id_of S.edges id }

-- the writes of the links about a node, and about both end nodes of an edge that goes, which may be one node
abbrev pub unlinks_at : Drawing → ℕ → ℕ → List RowWrite
unlinks_at S id n = unlinks_round id (rays_at S n).darts

abbrev pub unlinks_of : Drawing → ℕ → ℕ → ℕ → List RowWrite
unlinks_of S id start end = unlinks_at S id start ++ (if start == end then [] else unlinks_at S id end)

-- the row goes first, since no write may name it afterwards
abbrev pub drop_writes_of : Drawing → Edge → List RowWrite
drop_writes_of S e = DropEdge (Old e.edge_id) ∷ unlinks_of S e.edge_id e.start_node e.end_node

-- the tables of the drawing without the edge, where boxes and nodes are still as they were
abbrev pub dropped_rows : Drawing → ℕ → Tables
dropped_rows S id = record (tables_of S) { edges = (tables_of (edge_gone S id)).edges }

pub record UnlinksAreRight : Type 0 where
  -- the darts of a star that stay are those of the star where the edge has gone
  pub stays : (S : Drawing) (id n : ℕ) → IsPlainInOrder S → HasDirections S n → others id (rays_at S n).darts ≡ (rays_at (edge_gone S id) n).darts
  -- after the writes the edge has gone, each link is right, and nothing else has changed
  pub links : (S : Drawing) (e : Edge) → IsPlainInOrder S → Contains S.edges e → HasDirections S e.start_node → HasDirections S e.end_node
      → all_written S.next_ids (tables_of S) (drop_writes_of S e) ≡ dropped_rows S e.edge_id
  -- and those writes may be made
  pub writable : (S : Drawing) (e : Edge) → IsPlainInOrder S → Contains S.edges e → HasDirections S e.start_node → HasDirections S e.end_node
      → CanWriteAll S.next_ids (tables_of S) (drop_writes_of S e)
