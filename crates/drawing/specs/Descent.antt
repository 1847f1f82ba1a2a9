-- The primitive elements to which a feature descends.
use Rattle.std.specs.Prelude.{ℕ, zero, suc, ◌==◌, nat_lt, List, [], ◌∷◌, map, filter, flat_map, Option, Some, None, if◌then◌else◌}
use Rattle.topo_base.specs.declared.rows.LayerRow.{LayerRow}
use Rattle.topo_base.specs.declared.rows.FeatureRow.{FeatureRow}
use Rattle.topo_base.specs.declared.rows.RelationRow.{RelationRow}
use Rattle.drawing.specs.Drawing.{Drawing, layer_at, feature_at}

-- numbers ascending, each once
abbrev pub insert_number : ℕ → List ℕ → List ℕ
insert_number n [] = n ∷ []
insert_number n (m ∷ ms) = if nat_lt n m then n ∷ m ∷ ms else (if n == m then m ∷ ms else m ∷ insert_number n ms)

abbrev pub ascending : List ℕ → List ℕ
ascending [] = []
ascending (n ∷ ns) = insert_number n (ascending ns)

-- what a feature lists
abbrev pub listed_by : Drawing → ℕ → List ℕ
listed_by S t = map (λ (row : RelationRow). row.element_id) (filter (λ (row : RelationRow). row.topogeo_id == t) S.relations)

-- the elements of a feature of a layer of this level
abbrev pub elements_at : Drawing → ℕ → ℕ → List ℕ
elements_at S zero t = listed_by S t
elements_at S (suc level) t = ascending (flat_map (elements_at S level) (listed_by S t))

abbrev pub level_of : Option LayerRow → ℕ
level_of None = 0
level_of (Some layer) = layer.level

abbrev pub elements_in : Drawing → Option FeatureRow → List ℕ
elements_in S None = []
elements_in S (Some t) = elements_at S (level_of (layer_at S t.layer_id)) t.feature_id

abbrev pub elements_of : Drawing → ℕ → List ℕ
elements_of S t = elements_in S (feature_at S t)
