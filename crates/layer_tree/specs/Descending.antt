-- How a feature descends, level by level, and what it descends to.
use Rattle.std.specs.Prelude.{ℕ, zero, suc, List, [], map, filter, Option, Some, None, option_and_then, option_map}
use Rattle.topo_base.specs.declared.kind.Kind.{Kind}
use Rattle.topo_base.specs.declared.kind.Kind.TheVariants.{Puntal, Lineal, Areal}
use Rattle.topo_base.specs.declared.element.Element.{Element}
use Rattle.topo_base.specs.declared.rows.FeatureRow.{FeatureRow}
use Rattle.topo_base.specs.declared.rows.LayerRow.{LayerRow}
use Rattle.topo_base.specs.declared.rows.RelationRow.{RelationRow}
use Rattle.drawing.specs.Descent.{ascending}
use Rattle.drawing.specs.Drawing.{Drawing, feature_at, layer_at}
use Rattle.drawing.specs.Outcome.{the_node, the_edge, the_face}
use Rattle.drawing.specs.Relations.{is_among}

-- what these rows of any of the features list
abbrev pub listed_by_any : List ℕ → List RelationRow → List ℕ
listed_by_any features rows = map (λ (r : RelationRow). r.element_id) (filter (λ (r : RelationRow). is_among r.topogeo_id features) rows)

-- what these features list, ascending, each once
abbrev pub below : Drawing → List ℕ → List ℕ
below S features = ascending (listed_by_any features S.relations)

-- so many levels down
abbrev pub levels_below : Drawing → ℕ → List ℕ → List ℕ
levels_below S zero numbers = numbers
levels_below S (suc level) numbers = below S (levels_below S level numbers)

-- the layer of a feature, and its type
abbrev pub layer_of : Drawing → ℕ → Option LayerRow
layer_of S t = option_and_then (λ (row : FeatureRow). layer_at S row.layer_id) (feature_at S t)

abbrev pub kind_in : Option LayerRow → Option Kind
kind_in layer = option_map (λ (l : LayerRow). l.feature_type) layer

-- the node, edge or face of a number, by the type of a layer
abbrev pub primitive : Kind → ℕ → Element
primitive Puntal n = the_node n
primitive Lineal n = the_edge n
primitive Areal n = the_face n

-- those of some numbers
abbrev pub primitives : Option Kind → List ℕ → List Element
primitives None numbers = []
primitives (Some kind) numbers = map (primitive kind) numbers
