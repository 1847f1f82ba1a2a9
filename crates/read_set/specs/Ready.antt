-- The drawings on which edits are planned.
use Rattle.std.specs.Prelude.{◌+◌, ◌<◌, ◌^◌, IsTrue}
use Rattle.drawing.specs.Drawing.{Drawing}
use Rattle.drawing.specs.Subdivision.{ids_in_order, references_known}

-- ids ascend and references are known; there is an id more for a node, a layer and a feature, and two for edges and for faces
pub record IsReady (S : Drawing) : Type 0 where
  pub ids : IsTrue (ids_in_order S)
  pub references : IsTrue (references_known S)
  pub node_more : S.next_ids.node + 1 < 2 ^ 32
  pub edge_more : S.next_ids.edge + 2 < 2 ^ 32
  pub face_more : S.next_ids.face + 2 < 2 ^ 32
  pub layer_more : S.next_ids.layer + 1 < 2 ^ 32
  pub feature_more : S.next_ids.feature + 1 < 2 ^ 32
