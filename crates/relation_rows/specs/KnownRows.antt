-- Relation rows of known features.
use Rattle.std.specs.Prelude.{◌≡◌, ℕ, IsTrue, true, List, [], ◌∷◌}
use Rattle.topo_base.specs.declared.rows.RelationRow.{RelationRow}
use Rattle.drawing.specs.Subdivision.{rows_ascend}
use Rattle.drawing.specs.Tables.{Tables}
use Rattle.relation_rows.specs.Following.{feature_of, is_known}

-- a quality of each row
abbrev pub EachRow : (RelationRow → Type 0) → List RelationRow → Type 0
EachRow P [] = Unit {0}
EachRow P (r ∷ rows) = P r × EachRow P rows

-- the row has the layer of its feature
abbrev pub HasLayer : (ℕ → ℕ) → RelationRow → Type 0
HasLayer layer r = r.layer_id ≡ layer r.topogeo_id

-- rows ascend, features have one layer each, and these are there
pub record KnowsRows (t : Tables) : Type 0 where
  pub ascend : IsTrue (rows_ascend t.relations)
  pub layer : ℕ → ℕ
  pub layers : EachRow (HasLayer layer) t.relations
  pub known : EachRow (λ r. is_known t (feature_of r) ≡ true) t.relations
