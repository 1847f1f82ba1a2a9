-- Relation rows in their order: by feature, then type, then element.
use Rattle.std.specs.Prelude.{Bool, true, ◌&&◌, List, [], ◌∷◌, Option, Some, None}
use Rattle.topo_base.specs.declared.rows.RelationRow.{RelationRow}
use Rattle.drawing.specs.Relations.{row_before}

-- a row comes after the one before, if there is one
abbrev pub comes_behind : Option RelationRow → RelationRow → Bool
comes_behind None row = true
comes_behind (Some before) row = row_before before row

abbrev pub relations_ascend : Option RelationRow → List RelationRow → Bool
relations_ascend before [] = true
relations_ascend before (row ∷ rows) = comes_behind before row && relations_ascend (Some row) rows

-- the last row, or the one before where there are none
abbrev pub last_relation : Option RelationRow → List RelationRow → Option RelationRow
last_relation before [] = before
last_relation before (row ∷ rows) = last_relation (Some row) rows
