-- Edits and entries within the limits, and histories that are accepted.
use Rattle.std.specs.Prelude.{ℕ, ◌+◌, Bool, true, ◌&&◌, nat_le, List, [], ◌∷◌, length, is_ok}
use Rattle.topo_base.specs.Point.{Point}
use Rattle.topo_base.specs.declared.edit.Edit.{Edit}
use Rattle.topo_base.specs.declared.edit.Edit.TheVariants.{AddIsoNode, MoveIsoNode, RemoveIsoNode, AddIsoEdge, RemoveIsoEdge, AddEdgeModFace, AddEdgeNewFaces, RemEdgeModFace, RemEdgeNewFace, ModEdgeSplit, NewEdgesSplit, ModEdgeHeal, NewEdgeHeal, AddLayer, CreateTopoGeom, AddElement, RemElement, DropFeature}
use Rattle.topo_base.specs.declared.edit.Entry.{Entry}
use Rattle.drawing.specs.Drawing.{Drawing, nothing_drawn}
use Rattle.drawing.specs.Step.{step}
use Rattle.drawing.specs.Replay.{after}

-- a line of an edit has 2 to 4096 vertices, and a list of elements at most 4096
abbrev pub is_line_short : List Point → Bool
is_line_short line = nat_le 2 (length line) && nat_le (length line) 4096

abbrev pub keeps_limits : Edit → Bool
keeps_limits (AddIsoNode face p) = true
keeps_limits (MoveIsoNode n p) = true
keeps_limits (RemoveIsoNode n) = true
keeps_limits (AddIsoEdge a b line) = is_line_short line
keeps_limits (RemoveIsoEdge e) = true
keeps_limits (AddEdgeModFace a b line) = is_line_short line
keeps_limits (AddEdgeNewFaces a b line) = is_line_short line
keeps_limits (RemEdgeModFace e) = true
keeps_limits (RemEdgeNewFace e) = true
keeps_limits (ModEdgeSplit e p) = true
keeps_limits (NewEdgesSplit e p) = true
keeps_limits (ModEdgeHeal e f) = true
keeps_limits (NewEdgeHeal e f) = true
keeps_limits (AddLayer name kind child) = true
keeps_limits (CreateTopoGeom l xs) = nat_le (length xs) 4096
keeps_limits (AddElement t id type) = true
keeps_limits (RemElement t id type) = true
keeps_limits (DropFeature t) = true

-- an editor is 1 to 64
abbrev pub is_editor : ℕ → Bool
is_editor k = nat_le 1 k && nat_le k 64

abbrev pub is_entry : Entry → Bool
is_entry x = is_editor x.editor && keeps_limits x.edit

-- no id that was given is greater than the limit
abbrev pub ids_within : ℕ → Drawing → Bool
ids_within max_id S =
    nat_le S.next_ids.node (max_id + 1) && nat_le S.next_ids.edge (max_id + 1) && nat_le S.next_ids.face (max_id + 1)
    && nat_le S.next_ids.layer (max_id + 1) && nat_le S.next_ids.feature (max_id + 1)

-- each entry is one that an editor may make, is accepted where it stands, and makes no id beyond the limit
abbrev pub are_accepted : ℕ → Drawing → List Entry → Bool
are_accepted max_id S [] = true
are_accepted max_id S (x ∷ xs) =
    is_entry x && is_ok (step S x.edit) && ids_within max_id (after S x.edit) && are_accepted max_id (after S x.edit) xs

abbrev pub is_accepted : ℕ → List Entry → Bool
is_accepted max_id history = are_accepted max_id nothing_drawn history
