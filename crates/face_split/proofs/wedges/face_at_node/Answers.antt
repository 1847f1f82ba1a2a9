use Rattle.topo_base.specs.declared.rows.EdgeRow.{EdgeRow}
use Rattle.std.proofs.Common.{◌∙◌, ap}
use Rattle.drawing.specs.Drawing.{is_end_of}
use Rattle.drawing.specs.Tables.{drawn_edge}
use Rattle.edge_links.proofs.RayLemmas.{proper_found}
use Rattle.face_split.proofs.LastWedges.{face_where}
use Rattle.face_split.proofs.wedges.face_at_node.Goals as goal

pub face_among-requires : goal.face_among-requires
face_among-requires c = proper_found c.args.tables.now.rows (λ (e : EdgeRow). is_end_of c.args.node.now.node_id (drawn_edge e)) _ c.requires (c.rows.ensures ∙ c.in_ok-edges.ensures)

pub returns : goal.returns
returns c = face_where c.args.tables.now.rows _ _ c.args.node.now c.args.way c.face_among.result c.in_default.not-Some c.in_ok-edges.ensures c.rows.ensures c.face_among.ensures
