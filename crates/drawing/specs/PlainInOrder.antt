-- A plain drawing whose ids ascend.
use Rattle.std.specs.Prelude.{IsTrue}
use Rattle.drawing.specs.Drawing.{Drawing, node_id_of, edge_id_of}
use Rattle.drawing.specs.Plain.{IsPlain}
use Rattle.drawing.specs.Subdivision.{rows_in_order}

-- the drawing is plain, and the ids of its nodes and of its edges ascend, below the next ones
pub record IsPlainInOrder (S : Drawing) : Type 0 where
  pub plain : IsPlain S
  pub node_ids : IsTrue (rows_in_order node_id_of 0 S.next_ids.node S.nodes)
  pub edge_ids : IsTrue (rows_in_order edge_id_of 0 S.next_ids.edge S.edges)
