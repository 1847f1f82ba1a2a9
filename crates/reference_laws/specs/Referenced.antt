-- Drawings whose references are known, and the law that every edit keeps them so.
use Rattle.std.specs.Prelude.{ℕ, ◌≤◌, IsTrue, List}
use Rattle.std.specs.List.{list_all}
use Rattle.topo_base.specs.declared.edit.Edit.{Edit}
use Rattle.topo_base.specs.declared.edit.Entry.{Entry}
use Rattle.topo_base.specs.declared.rows.Counters.{Counters}
use Rattle.drawing.specs.Drawing.{Drawing, nothing_drawn}
use Rattle.drawing.specs.Accepted.{is_accepted, keeps_limits}
use Rattle.drawing.specs.Replay.{after, after_all, replay}
use Rattle.drawing.specs.Subdivision.{ids_in_order, references_known}
use Rattle.ring_laws.specs.Ringed.{IsRinged}

-- the ids of new rows are 1 or more; face 0 is there from the beginning
pub record StartsAtOne (next_ids : Counters) : Type 0 where
  pub node : 1 ≤ next_ids.node
  pub edge : 1 ≤ next_ids.edge
  pub layer : 1 ≤ next_ids.layer
  pub feature : 1 ≤ next_ids.feature

-- a drawing whose references are known, with what that rests on
pub record IsReferenced (S : Drawing) : Type 0 where
  pub rings : IsRinged S
  pub starts : StartsAtOne S.next_ids
  pub ids : IsTrue (ids_in_order S)
  pub references : IsTrue (references_known S)

pub record ReferencesStay : Type 0 where
  pub begins : IsReferenced nothing_drawn
  -- each edit within the limits keeps the references known, where rings have one face each and ids ascend
  pub each_edit : (S : Drawing) (e : Edit) → IsTrue (keeps_limits e) → IsRinged S → IsTrue (ids_in_order S) → IsTrue (references_known S) → IsTrue (references_known (after S e))
  -- and it keeps such a drawing such
  pub each_kept : (S : Drawing) (e : Edit) → IsTrue (keeps_limits e) → IsReferenced S → IsReferenced (after S e)
  -- so the drawing after any such edits is, and that of every accepted history
  pub all_edits : (es : List Edit) → IsTrue (list_all keeps_limits es) → IsReferenced (after_all nothing_drawn es)
  pub each_history : (max_id : ℕ) (history : List Entry) → IsTrue (is_accepted max_id history) → IsReferenced (replay history)
