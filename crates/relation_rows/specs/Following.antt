-- How features follow an element that is replaced, by row writes.
use Rattle.std.specs.Prelude.{◌≡◌, ℕ, Bool, not, ◌&&◌, ◌||◌, ◌==◌, IsTrue, List, ◌∷◌, map}
use Rattle.std.specs.List.{list_all}
use Rattle.topo_base.specs.declared.rows.FeatureRow.{FeatureRow}
use Rattle.topo_base.specs.declared.rows.RelationRow.{RelationRow}
use Rattle.topo_base.specs.declared.write.RowId.TheVariants.{Old}
use Rattle.topo_base.specs.declared.write.RowWrite.{RowWrite}
use Rattle.topo_base.specs.declared.write.RowWrite.TheVariants.{AddRow, DropRow}
use Rattle.drawing.specs.Content.{listing}
use Rattle.drawing.specs.Relations.{lists_element}
use Rattle.drawing.specs.Subdivision.{rows_ascend}
use Rattle.drawing.specs.Tables.{Tables, drawn}
use Rattle.drawing.specs.Writable.{has_feature_row, has_layer_row}

-- the feature of a row, with its layer
abbrev pub feature_of : RelationRow → FeatureRow
feature_of row = record { feature_id = row.topogeo_id; layer_id = row.layer_id }

-- a feature lists an element no more, or lists one
abbrev pub row_goes : ℕ → ℕ → FeatureRow → RowWrite
row_goes type id f = DropRow (Old f.feature_id) (Old f.layer_id) (Old id) type

abbrev pub row_comes : ℕ → FeatureRow → ℕ → RowWrite
row_comes type f id = AddRow (Old f.feature_id) (Old f.layer_id) (Old id) type

-- a feature lists the new elements in the place of the old one
abbrev pub replaced_by : ℕ → ℕ → List ℕ → FeatureRow → List RowWrite
replaced_by type old new f = row_goes type old f ∷ map (row_comes type f) new

-- a row of one of the features has the feature's layer
abbrev pub has_layer_of : List FeatureRow → RelationRow → Bool
has_layer_of features row = list_all (λ (f : FeatureRow). not (f.feature_id == row.topogeo_id) || f.layer_id == row.layer_id) features

-- a feature and its layer are there
abbrev pub is_known : Tables → FeatureRow → Bool
is_known t f = has_feature_row t f.feature_id && has_layer_row t f.layer_id

-- these are the features that list the element, and each has one layer
pub record AreFeaturesOf (t : Tables) (type id : ℕ) (features : List FeatureRow) : Type 0 where
  pub ascend : IsTrue (rows_ascend t.relations)
  pub listed : features ≡ listing (lists_element (drawn t) type id) (drawn t)
  pub known : IsTrue (list_all (is_known t) features)
  pub layers : IsTrue (list_all (has_layer_of features) t.relations)
