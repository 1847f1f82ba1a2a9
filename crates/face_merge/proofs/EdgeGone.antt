-- An edge of the tables that goes: what the draft without it has.
use Rattle.std.proofs.Common.{◌≡◌}
use Rattle.std.specs.List.{Contains}
use Rattle.topo_base.specs.declared.rows.EdgeRow.{EdgeRow}
use Rattle.drawing.specs.Drawing.{Drawing, Edge}
use Rattle.drawing.specs.Tables.{Tables, drawn, drawn_edge}
use Rattle.drawing.proofs.Members.{contains-map}
use Rattle.edge_links.specs.UnlinksLaw.{dropped_rows}
use Rattle.read_set.specs.Ready.{IsReady}
use Rattle.face_merge.specs.declared.removed.Removed.{Removed}
use Rattle.face_merge.specs.Sides.{removed_of}
use Rattle.face_merge.specs.Merging.{HasRemoved, WasRemoved}

pub was_removed : (t : Tables) (row : EdgeRow) (r : Removed) (u : Tables) → IsReady (drawn t) → Contains t.edges row → r ≡ removed_of (drawn_edge row) → u ≡ dropped_rows (drawn t) row.edge_id
    → WasRemoved (drawn t) (drawn_edge row) r u
was_removed t row r u ready there is rows = record { ids = ready.ids; references = ready.references; there = contains-map drawn_edge row t.edges there; edge = is; rows = rows }

pub has_removed : (S : Drawing) (e : Edge) (r : Removed) (u : Tables) → WasRemoved S e r u → HasRemoved u r
has_removed S e r u h = record { before = S; row = e; removed = h }
