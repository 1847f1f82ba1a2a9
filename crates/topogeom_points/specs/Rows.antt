-- The row writes by which features list elements, and go.
use Rattle.std.specs.Prelude.{ℕ, Bool, IsTrue, ◌==◌, not, List, [], ◌∷◌, map, filter, Option, Some, None, Ok}
use Rattle.topo_base.specs.declared.edit.Pair.{Pair}
use Rattle.topo_base.specs.declared.rows.RelationRow.{RelationRow}
use Rattle.topo_base.specs.declared.write.RowId.TheVariants.{Old}
use Rattle.topo_base.specs.declared.write.RowWrite.{RowWrite}
use Rattle.topo_base.specs.declared.write.RowWrite.TheVariants.{AddRow, DropRow}
use Rattle.drawing.specs.Drawing.{Drawing, feature_id_of}
use Rattle.drawing.specs.Outcome.{Outcome, the_feature}
use Rattle.drawing.specs.Relations.{insert_row, same_row}
use Rattle.drawing.specs.Rows.{without_row}

-- a row comes; a row goes; a feature goes with its rows
abbrev pub row_more : Drawing → RelationRow → Outcome
row_more S row = Ok (record { drawing = record S { relations = insert_row row S.relations }; ids = the_feature row.topogeo_id ∷ [] })

abbrev pub row_less : Drawing → RelationRow → Outcome
row_less S row = Ok (record { drawing = record S { relations = filter (λ r. not (same_row row r)) S.relations }; ids = the_feature row.topogeo_id ∷ [] })

abbrev pub feature_less : Drawing → ℕ → Outcome
feature_less S t =
    Ok (record {
      drawing = record S { features = without_row feature_id_of S.features t; relations = filter (λ (r : RelationRow). not (r.topogeo_id == t)) S.relations };
      ids = the_feature t ∷ [];
    })

-- a feature lists an element; a feature lists these elements
abbrev pub row_write : ℕ → ℕ → Pair → RowWrite
row_write t l x = AddRow (Old t) (Old l) (Old x.id) x.element_type

abbrev pub rows_come : ℕ → ℕ → List Pair → List RowWrite
rows_come t l xs = map (row_write t l) xs

-- a row goes; the rows of a feature go
abbrev pub drop_write : RelationRow → RowWrite
drop_write r = DropRow (Old r.topogeo_id) (Old r.layer_id) (Old r.element_id) r.element_type

abbrev pub rows_go : ℕ → List RelationRow → List RowWrite
rows_go t rows = map drop_write (filter (λ (r : RelationRow). r.topogeo_id == t) rows)

-- what a number names is there, if one is given
abbrev pub IsThereIfGiven : (ℕ → Bool) → Option ℕ → Type 0
IsThereIfGiven has None = Unit {0}
IsThereIfGiven has (Some n) = IsTrue (has n)
