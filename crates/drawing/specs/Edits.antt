-- What each edit is answered, by its name: the decision, carried out.
use Rattle.std.specs.Prelude.{ℕ, Bool, List, Option, Ok, Err, if◌then◌else◌}
use Rattle.topo_base.specs.Point.{Point}
use Rattle.topo_base.specs.declared.kind.Kind.{Kind}
use Rattle.topo_base.specs.declared.edit.Pair.{Pair}
use Rattle.topo_base.specs.declared.rows.NodeRow.{NodeRow}
use Rattle.topo_base.specs.declared.rows.LayerRow.{LayerRow}
use Rattle.topo_base.specs.declared.rows.FeatureRow.{FeatureRow}
use Rattle.topo_base.specs.declared.rows.RelationRow.{RelationRow}
use Rattle.topo_base.specs.declared.rule.Rule.{Rule}
use Rattle.topo_base.specs.declared.rule.Rule.TheVariants.{ElementListed}
use Rattle.drawing.specs.Drawing.{Drawing, Edge}
use Rattle.drawing.specs.Outcome.{Outcome}
use Rattle.drawing.specs.Layers.{is_element_listed}
use Rattle.drawing.specs.Change.{FacesJoin, FacesJoinAnew, EdgeIsCut, EdgeIsCutAnew, EdgesAreJoined, EdgesAreJoinedAnew, LayerComes, FeatureComes, FeatureLists}
use Rattle.drawing.specs.Apply.{apply, carried_out}
use Rattle.drawing.specs.Decide.{node_comes, node_moves, node_goes, lone_edge_comes, lone_edge_goes, edge_comes, edge_in_face, faces_join, edge_goes, edge_is_cut, edges_joined_at, edges_are_joined, layer_comes_on, layer_comes_over, layer_comes, unless, feature_comes, feature_lists_in, feature_lists, feature_unlists, feature_goes}

abbrev pub add_iso_node : Drawing → Option ℕ → Point → Outcome
add_iso_node S face p = carried_out S (node_comes S face p)

abbrev pub move_iso_node : Drawing → Option NodeRow → Point → Outcome
move_iso_node S n p = carried_out S (node_moves S n p)

abbrev pub remove_iso_node : Drawing → Option NodeRow → Outcome
remove_iso_node S n = carried_out S (node_goes S n)

abbrev pub add_iso_edge : Drawing → Option NodeRow → Option NodeRow → List Point → Outcome
add_iso_edge S a b line = carried_out S (lone_edge_comes S a b line)

abbrev pub remove_iso_edge : Drawing → Option Edge → Outcome
remove_iso_edge S e = carried_out S (lone_edge_goes S e)

abbrev pub add_edge : Bool → Drawing → Option NodeRow → Option NodeRow → List Point → Outcome
add_edge both S a b line = carried_out S (edge_comes both S a b line)

abbrev pub with_parts : Bool → Drawing → NodeRow → NodeRow → List Point → ℕ → Outcome
with_parts both S a b line f = carried_out S (edge_in_face both S a b line f)

abbrev pub merged_into : Drawing → Edge → ℕ → ℕ → Outcome
merged_into S e kept goes = Ok (apply S (FacesJoin e kept goes))

abbrev pub merged_anew : Drawing → Edge → Outcome
merged_anew S e = Ok (apply S (FacesJoinAnew e))

abbrev pub merged : Bool → Drawing → Edge → Outcome
merged anew S e = carried_out S (faces_join anew e)

abbrev pub remove_edge : Bool → Drawing → Option Edge → Outcome
remove_edge anew S e = carried_out S (edge_goes anew S e)

abbrev pub split_mod : Drawing → Edge → Point → Outcome
split_mod S e p = Ok (apply S (EdgeIsCut e p))

abbrev pub split_new : Drawing → Edge → Point → Outcome
split_new S e p = Ok (apply S (EdgeIsCutAnew e p))

abbrev pub split_edge : Bool → Drawing → Option Edge → Point → Outcome
split_edge anew S e p = carried_out S (edge_is_cut anew S e p)

abbrev pub heal_mod : Drawing → Edge → Edge → ℕ → Outcome
heal_mod S e f n = Ok (apply S (EdgesAreJoined e f n))

abbrev pub heal_new : Drawing → Edge → Edge → ℕ → Outcome
heal_new S e f n = Ok (apply S (EdgesAreJoinedAnew e f n))

abbrev pub heal_at : Bool → Drawing → Edge → Edge → Option ℕ → Outcome
heal_at anew S e f n = carried_out S (edges_joined_at anew S e f n)

abbrev pub heal_edges : Bool → Drawing → Option Edge → Option Edge → Outcome
heal_edges anew S e f = carried_out S (edges_are_joined anew S e f)

abbrev pub with_layer : Drawing → List ℕ → Kind → Option ℕ → ℕ → Outcome
with_layer S name kind child level = Ok (apply S (LayerComes name kind child level))

abbrev pub layer_on : Drawing → List ℕ → Kind → Option LayerRow → Outcome
layer_on S name kind l = carried_out S (layer_comes_on name kind l)

abbrev pub new_layer : Drawing → List ℕ → Kind → Option ℕ → Outcome
new_layer S name kind child = carried_out S (layer_comes_over S name kind child)

abbrev pub add_layer : Drawing → List ℕ → Kind → Option ℕ → Outcome
add_layer S name kind child = carried_out S (layer_comes S name kind child)

abbrev pub with_feature : Drawing → LayerRow → List Pair → Option Rule → Outcome
with_feature S layer xs r = carried_out S (unless r (Ok (FeatureComes layer xs)))

abbrev pub create_topo_geom : Drawing → Option LayerRow → List Pair → Outcome
create_topo_geom S l xs = carried_out S (feature_comes S l xs)

abbrev pub with_element : Drawing → RelationRow → Option Rule → Outcome
with_element S row r = carried_out S (unless r (if is_element_listed S row then Err ElementListed else Ok (FeatureLists row)))

abbrev pub add_element_on : Drawing → FeatureRow → Option LayerRow → Pair → Outcome
add_element_on S t l x = carried_out S (feature_lists_in S t l x)

abbrev pub add_element : Drawing → Option FeatureRow → Pair → Outcome
add_element S t x = carried_out S (feature_lists S t x)

abbrev pub rem_element : Drawing → Option FeatureRow → Pair → Outcome
rem_element S t x = carried_out S (feature_unlists S t x)

abbrev pub drop_feature : Drawing → Option FeatureRow → Outcome
drop_feature S t = carried_out S (feature_goes S t)
