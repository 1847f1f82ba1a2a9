-- The relation rows: which features list an element, and how rows follow elements that change.
use Rattle.std.specs.Prelude.{ℕ, Bool, not, ◌&&◌, ◌||◌, ◌==◌, nat_lt, List, [], ◌∷◌, map, filter, flat_map, Option, option_and_then, is_some, if◌then◌else◌}
use Rattle.std.specs.List.{list_any}
use Rattle.topo_base.specs.declared.rows.LayerRow.{LayerRow}
use Rattle.topo_base.specs.declared.rows.RelationRow.{RelationRow}
use Rattle.drawing.specs.Drawing.{Drawing, layer_at}

-- the type of an element of a primitive layer
abbrev pub node_type : ℕ
node_type = 1

abbrev pub edge_type : ℕ
edge_type = 2

abbrev pub face_type : ℕ
face_type = 3

-- the child of a layer; a layer with one is hierarchical, and one without is primitive
abbrev pub child_of : Drawing → ℕ → Option ℕ
child_of S l = option_and_then (λ (row : LayerRow). row.child_id) (layer_at S l)

abbrev pub is_hierarchical : Drawing → ℕ → Bool
is_hierarchical S l = is_some (child_of S l)

-- the row lists the node, edge or face; the row lists the feature
abbrev pub lists_element : Drawing → ℕ → ℕ → RelationRow → Bool
lists_element S type id row = row.element_type == type && row.element_id == id && not (is_hierarchical S row.layer_id)

abbrev pub lists_feature : Drawing → ℕ → RelationRow → Bool
lists_feature S t row = row.element_id == t && is_hierarchical S row.layer_id

-- the features that list the node, edge or face
abbrev pub features_of : Drawing → ℕ → ℕ → List ℕ
features_of S type id = map (λ (row : RelationRow). row.topogeo_id) (filter (lists_element S type id) S.relations)

-- the order of rows: by feature, then type, then element
abbrev pub row_before : RelationRow → RelationRow → Bool
row_before a b =
    nat_lt a.topogeo_id b.topogeo_id
    || a.topogeo_id == b.topogeo_id && nat_lt a.element_type b.element_type
    || a.topogeo_id == b.topogeo_id && a.element_type == b.element_type && nat_lt a.element_id b.element_id

abbrev pub same_row : RelationRow → RelationRow → Bool
same_row a b = a.topogeo_id == b.topogeo_id && a.element_type == b.element_type && a.element_id == b.element_id

-- rows in this order, each once
abbrev pub insert_row : RelationRow → List RelationRow → List RelationRow
insert_row a [] = a ∷ []
insert_row a (b ∷ rows) = if row_before a b then a ∷ b ∷ rows else (if same_row a b then b ∷ rows else b ∷ insert_row a rows)

abbrev pub ordered : List RelationRow → List RelationRow
ordered [] = []
ordered (a ∷ rows) = insert_row a (ordered rows)

-- each feature that lists one of the old elements of the type lists each of the new ones in its place
abbrev pub is_among : ℕ → List ℕ → Bool
is_among n ns = list_any (λ m. m == n) ns

abbrev pub with_elements : List ℕ → RelationRow → List RelationRow
with_elements new row = map (λ id. record row { element_id = id }) new

abbrev pub followed : Drawing → ℕ → List ℕ → List ℕ → RelationRow → List RelationRow
followed S type old new row = if lists_element S type row.element_id row && is_among row.element_id old then with_elements new row else row ∷ []

abbrev pub follow : Drawing → ℕ → List ℕ → List ℕ → List RelationRow
follow S type old new = ordered (flat_map (followed S type old new) S.relations)
