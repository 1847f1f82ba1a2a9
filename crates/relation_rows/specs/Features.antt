-- The features that list an element, in the order of some relation rows.
use Rattle.std.specs.Prelude.{ℕ, List, map, filter}
use Rattle.topo_base.specs.declared.rows.RelationRow.{RelationRow}
use Rattle.drawing.specs.Drawing.{Drawing}
use Rattle.drawing.specs.Relations.{lists_element}

abbrev pub feature_id : RelationRow → ℕ
feature_id row = row.topogeo_id

abbrev pub features_in : Drawing → ℕ → ℕ → List RelationRow → List ℕ
features_in S type id rows = map feature_id (filter (lists_element S type id) rows)
