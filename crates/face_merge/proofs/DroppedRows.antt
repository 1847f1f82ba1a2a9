-- The row writes of an edge that goes may be made, and leave the rows without it.
use Rattle.std.proofs.Common.{◌≡◌, sym, ap, ◌∙◌, subst, List}
use Rattle.std.specs.List.{Contains}
use Rattle.topo_base.specs.declared.rows.EdgeRow.{EdgeRow}
use Rattle.topo_base.specs.declared.write.RowWrite.{RowWrite}
use Rattle.drawing.proofs.Members.{contains-map}
use Rattle.drawing.specs.Drawing.{Drawing, Edge}
use Rattle.drawing.specs.PlainInOrder.{IsPlainInOrder}
use Rattle.drawing.specs.Tables.{Tables, drawn, drawn_edge, tables_of}
use Rattle.drawing.specs.Writable.{CanWriteAll}
use Rattle.drawing.specs.Writes.{all_written}
use Rattle.edge_links.specs.LinksLaw.{HasDirections}
use Rattle.edge_links.specs.UnlinksLaw.{drop_writes_of, dropped_rows}
use Rattle.edge_links.proofs.RightUnlinks.{unlinks_are_right}

-- what an edge wants that goes
pub record IsGoing (S : Drawing) (e : Edge) : Type 0 where
  pub ordered : IsPlainInOrder S
  pub there : Contains S.edges e
  pub at_start : HasDirections S e.start_node
  pub at_end : HasDirections S e.end_node

pub going : (t : Tables) (row : EdgeRow) → IsPlainInOrder (drawn t) → Contains t.edges row → HasDirections (drawn t) row.start_node → HasDirections (drawn t) row.end_node → IsGoing (drawn t) (drawn_edge row)
going t row plain there start end = record { ordered = plain; there = contains-map drawn_edge row t.edges there; at_start = start; at_end = end }

-- on tables that stand for the drawing, and by an equal list of writes
pub can_drop : (S : Drawing) (t : Tables) (e : Edge) (ws : List RowWrite) → t ≡ tables_of S → ws ≡ drop_writes_of S e → IsGoing S e → CanWriteAll t.next_ids t ws
can_drop S t e ws stands is h =
    let on_list = subst (λ (vs : List RowWrite). CanWriteAll S.next_ids (tables_of S) vs) (sym is) (unlinks_are_right.writable S e h.ordered h.there h.at_start h.at_end) in
    subst (λ (u : Tables). CanWriteAll u.next_ids u ws) (sym stands) on_list

pub rows_dropped : (S : Drawing) (t u : Tables) (e : Edge) (ws : List RowWrite) → t ≡ tables_of S → ws ≡ drop_writes_of S e → u ≡ all_written t.next_ids t ws → IsGoing S e → u ≡ dropped_rows S e.edge_id
rows_dropped S t u e ws stands is made h =
    made ∙ ap (λ (v : Tables). all_written v.next_ids v ws) stands ∙ ap (all_written S.next_ids (tables_of S)) is
    ∙ unlinks_are_right.links S e h.ordered h.there h.at_start h.at_end
