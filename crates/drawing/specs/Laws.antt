-- Laws of Step.
use Rattle.std.specs.Prelude.{◌≡◌, List, ◌++◌}
use Rattle.topo_base.specs.declared.edit.Edit.{Edit}
use Rattle.drawing.specs.Drawing.{Drawing}
use Rattle.drawing.specs.Replay.{after_all}
use Rattle.drawing.specs.Tables.{tables_of, drawn}

-- some edits and then more are all of them
abbrev pub EditsFollow : Type 0
EditsFollow = (S : Drawing) (es fs : List Edit) → after_all S (es ++ fs) ≡ after_all (after_all S es) fs

-- the tables of a drawing stand for it
abbrev pub TablesStand : Type 0
TablesStand = (S : Drawing) → drawn (tables_of S) ≡ S
