-- Drawings whose rings have one face each, and the law that every edit keeps them.
use Rattle.std.specs.Prelude.{◌≡◌, ◌≤◌, ℕ, IsTrue, List, length}
use Rattle.std.specs.List.{list_all, Contains}
use Rattle.topo_base.specs.Point.{Point}
use Rattle.topo_base.specs.declared.rows.NodeRow.{NodeRow}
use Rattle.topo_base.specs.declared.edit.Edit.{Edit}
use Rattle.topo_base.specs.declared.edit.Entry.{Entry}
use Rattle.drawing.specs.AddEdge.{face_at_start, face_at_end}
use Rattle.drawing.specs.Drawing.{Drawing, nothing_drawn, has_face}
use Rattle.drawing.specs.IsoEdits.{with_edge}
use Rattle.drawing.specs.Accepted.{is_accepted, keeps_limits}
use Rattle.drawing.specs.Plain.{IsPlain}
use Rattle.drawing.specs.Replay.{after, after_all, replay}
use Rattle.drawing.specs.Subdivision.{is_edge_known, is_node_known}
use Rattle.face_rings.specs.FaceBorder.{HasRings}

-- a drawing whose rings have one face each, with what that rests on
pub record IsRinged (S : Drawing) : Type 0 where
  -- it is plain, its lines have two vertices or more, and each ring has one face on its left
  pub rings : HasRings S
  -- face 0 is listed, and so are the ends and the sides of edges
  pub universe : IsTrue (has_face S 0)
  pub edges : IsTrue (list_all (is_edge_known S) S.edges)
  -- a node has a containing face, which is listed, exactly where it has no edge
  pub nodes : IsTrue (list_all (is_node_known S) S.nodes)

-- the line lies in this face where it leaves the one node and where it reaches the other
abbrev pub LiesIn : Drawing → NodeRow → NodeRow → List Point → ℕ → Type 0
LiesIn S a b line f = (face_at_start S a line ≡ f) × (face_at_end S b line ≡ f)

pub record RingsStay : Type 0 where
  pub begins : IsRinged nothing_drawn
  -- each edit within the limits keeps such a drawing such
  pub each_edit : (S : Drawing) (e : Edit) → IsTrue (keeps_limits e) → IsRinged S → IsRinged (after S e)
  -- so the drawing after any such edits is, and that of every accepted history
  pub all_edits : (es : List Edit) → IsTrue (list_all keeps_limits es) → IsRinged (after_all nothing_drawn es)
  pub each_history : (max_id : ℕ) (history : List Entry) → IsTrue (is_accepted max_id history) → IsRinged (replay history)
  -- and so is a drawing with an edge more, which has the face in which it lies on both sides and doesn't divide it yet
  pub added : (S : Drawing) (a b : NodeRow) (line : List Point) (f : ℕ) → IsRinged S → Contains S.nodes a → Contains S.nodes b → IsPlain (with_edge S a b line f) → 2 ≤ length line
      → LiesIn S a b line f → IsRinged (with_edge S a b line f)
