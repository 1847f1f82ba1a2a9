-- No id is given twice, and ids ascend.
use Rattle.std.specs.Prelude.{◌≤◌, List, IsTrue}
use Rattle.topo_base.specs.declared.edit.Edit.{Edit}
use Rattle.drawing.specs.Drawing.{Drawing, nothing_drawn}
use Rattle.drawing.specs.Subdivision.{ids_in_order}
use Rattle.drawing.specs.Replay.{after_all}

-- no next id falls
pub record IdsGrow (S T : Drawing) : Type 0 where
  pub nodes : S.next_ids.node ≤ T.next_ids.node
  pub edges : S.next_ids.edge ≤ T.next_ids.edge
  pub faces : S.next_ids.face ≤ T.next_ids.face
  pub layers : S.next_ids.layer ≤ T.next_ids.layer
  pub features : S.next_ids.feature ≤ T.next_ids.feature

-- an id that was given is never given again
abbrev pub IdsNeverFall : Type 0
IdsNeverFall = (S : Drawing) (es : List Edit) → IdsGrow S (after_all S es)

-- ids stay in order, below the next id
abbrev pub IdsStayInOrder : Type 0
IdsStayInOrder = (es : List Edit) → IsTrue (ids_in_order (after_all nothing_drawn es))
