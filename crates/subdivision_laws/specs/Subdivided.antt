-- Drawings that are planar subdivisions, and the law that every edit keeps them so.
use Rattle.std.specs.Prelude.{ℕ, IsTrue, List}
use Rattle.std.specs.List.{list_all}
use Rattle.topo_base.specs.declared.edit.Edit.{Edit}
use Rattle.topo_base.specs.declared.edit.Entry.{Entry}
use Rattle.drawing.specs.Drawing.{Drawing, nothing_drawn}
use Rattle.drawing.specs.Accepted.{is_accepted, keeps_limits}
use Rattle.drawing.specs.Replay.{after, after_all, replay}
use Rattle.drawing.specs.Subdivision.{IsSubdivision}
use Rattle.reference_laws.specs.Referenced.{IsReferenced}
use Rattle.face_laws.specs.Covered.{IsCovered}

-- a subdivision, with what that rests on: references are known, and the faces are where their borders say
pub record IsSubdivided (S : Drawing) : Type 0 where
  pub referenced : IsReferenced S
  pub covered : IsCovered S

pub record SubdivisionsStay : Type 0 where
  pub begins : IsSubdivided nothing_drawn
  -- each edit within the limits keeps such a drawing such
  pub each_edit : (S : Drawing) (e : Edit) → IsTrue (keeps_limits e) → IsSubdivided S → IsSubdivided (after S e)
  -- it is a subdivision
  pub subdivision : (S : Drawing) → IsSubdivided S → IsSubdivision S
  -- so the drawing after any such edits is one, and that of every accepted history
  pub all_edits : (es : List Edit) → IsTrue (list_all keeps_limits es) → IsSubdivided (after_all nothing_drawn es)
  pub each_history : (max_id : ℕ) (history : List Entry) → IsTrue (is_accepted max_id history) → IsSubdivided (replay history)
