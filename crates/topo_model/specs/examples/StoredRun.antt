-- The text of a run, a history and the bytes of a journal entry.
use Rattle.std.specs.Prelude.{◌≡◌, pos, [], ◌∷◌, ◌++◌, flat_map, None, codes}
use Rattle.topo_base.specs.declared.edit.Edit.TheVariants.{AddIsoNode}
use Rattle.topo_base.specs.declared.edit.Entry.{Entry}
use Rattle.drawing.specs.Drawing.{nothing_drawn}
use Rattle.drawing.specs.Replay.{answers, after_all}
use Rattle.history_model.specs.Spelling.{frame_bytes}
use Rattle.script_model.specs.Texts.{reply_text, tables_text, features_text, history_text}
use Rattle.topo_model.specs.examples.Rows.{at}
use Rattle.topo_model.specs.examples.Triangle.{triangle}
use Rattle.topo_model.specs.examples.Routes.{routes}

abbrev pub TriangleText : Type 0
TriangleText =
    flat_map reply_text (answers nothing_drawn 0 triangle) ++ tables_text (after_all nothing_drawn triangle)
    ≡ codes "done node 1 at 1\ndone node 2 at 2\ndone node 3 at 3\ndone edge 1 at 4\ndone edge 2 at 5\ndone edge 3 face 1 at 6\nnext 4 4 2 1 1\nnode 1 - 0 0\nnode 2 - 4 0\nnode 3 - 0 4\nedge 1 1 2 2 -3 1 0 2 0 0 4 0\nedge 2 2 3 3 -1 1 0 2 4 0 0 4\nedge 3 3 1 1 -2 1 0 2 0 4 0 0\nface 0 -\nface 1 0 0 4 4\n"

abbrev pub RoutesText : Type 0
RoutesText = features_text (after_all nothing_drawn routes) ≡ codes "feature 1 1 2 2 1 2\nfeature 2 2 2 2 1 2\nfeature 3 3 2 2 1 2\n"

abbrev pub first_entry : Entry
first_entry = record { editor = 1; edit = AddIsoNode None (at (pos 0) (pos 0)) }

abbrev pub HistoryText : Type 0
HistoryText = history_text (first_entry ∷ []) ≡ codes "entry 1 editor 1 addisonode - 0 0\n"

abbrev pub EntryBytes : Type 0
EntryBytes = frame_bytes first_entry ≡ 0 ∷ 0 ∷ 0 ∷ 22 ∷ 0 ∷ 0 ∷ 0 ∷ 1 ∷ 1 ∷ 0 ∷ 0 ∷ 0 ∷ 0 ∷ 0 ∷ 0 ∷ 0 ∷ 0 ∷ 0 ∷ 0 ∷ 0 ∷ 0 ∷ 0 ∷ 0 ∷ 0 ∷ 0 ∷ 0 ∷ 0 ∷ []
