-- Lists of the features of two elements.
use Rattle.std.proofs.Common.{◌≡◌, ◌∙◌, ℕ, Bool, List, [], ◌∷◌, map, filter, refl, ap}
use Rattle.topo_base.specs.declared.rows.FeatureRow.{FeatureRow}
use Rattle.topo_base.specs.declared.rows.RelationRow.{RelationRow}
use Rattle.drawing.specs.Content.{listing}
use Rattle.drawing.specs.Drawing.{Drawing, feature_id_of}
use Rattle.drawing.specs.Relations.{lists_element, features_of}
use Rattle.drawing.specs.RemoveEdge.{same_numbers, have_same_features}
use Rattle.relation_rows.specs.Following.{feature_of}

ids_of : (rows : List RelationRow) → map feature_id_of (map feature_of rows) ≡ map (λ (row : RelationRow). row.topogeo_id) rows
ids_of [] = refl
ids_of (r ∷ rows) = ap (λ ns. r.topogeo_id ∷ ns) (ids_of rows)

listed_ids : (S : Drawing) (type x : ℕ) → map feature_id_of (listing (lists_element S type x) S) ≡ features_of S type x
listed_ids S type x = ids_of (filter (lists_element S type x) S.relations)

pub shared_by : (a b : List FeatureRow) (result : Bool) → result ≡ same_numbers (map feature_id_of a) (map feature_id_of b)
    → (S : Drawing) (type x y : ℕ) → a ≡ listing (lists_element S type x) S → b ≡ listing (lists_element S type y) S → result ≡ have_same_features S type x y
shared_by a b result is S type x y e f =
    is
    ∙ ap (λ l. same_numbers (map feature_id_of l) (map feature_id_of b)) e
    ∙ ap (λ l. same_numbers (map feature_id_of (listing (lists_element S type x) S)) (map feature_id_of l)) f
    ∙ ap (λ ns. same_numbers ns (map feature_id_of (listing (lists_element S type y) S))) (listed_ids S type x)
    ∙ ap (same_numbers (features_of S type x)) (listed_ids S type y)
