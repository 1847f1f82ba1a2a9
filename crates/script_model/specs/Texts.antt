-- What is printed: replies, tables, features and history.
use Rattle.std.specs.Prelude.{ℕ, ◌+◌, List, [], ◌∷◌, ◌++◌, flat_map, length, Option, Some, None, codes}
use Rattle.std.specs.Fmt.{decimal, signed_decimal}
use Rattle.topo_base.specs.declared.rows.NodeRow.{NodeRow}
use Rattle.topo_base.specs.declared.rows.EdgeRow.{EdgeRow}
use Rattle.topo_base.specs.declared.rows.FaceRow.{FaceRow}
use Rattle.topo_base.specs.declared.rows.Box4.{Box4}
use Rattle.topo_base.specs.declared.rows.LayerRow.{LayerRow}
use Rattle.topo_base.specs.declared.rows.FeatureRow.{FeatureRow}
use Rattle.topo_base.specs.declared.rows.RelationRow.{RelationRow}
use Rattle.topo_base.specs.declared.rows.Counters.{Counters}
use Rattle.topo_base.specs.declared.edit.Entry.{Entry}
use Rattle.drawing.specs.Drawing.{Drawing, layer_at}
use Rattle.topo_base.specs.declared.answer.Answer.{Answer}
use Rattle.topo_base.specs.declared.answer.Answer.TheVariants.{Done, Refused, Unbound, Stale, DiskFault, Memory}
use Rattle.drawing.specs.Tables.{Tables, tables_of}
use Rattle.topo_base.specs.Kinds.{kind_number}
use Rattle.drawing.specs.Descent.{elements_of}
use Rattle.script_model.specs.Words.{line_of, option_word, point_words, line_words, dart_word, edit_words, element_words}
use Rattle.script_model.specs.RuleWords.{rule_word}

-- the line of a reply
abbrev pub at_front : ℕ → List (List ℕ)
at_front front = codes "at" ∷ decimal front ∷ []

abbrev pub reply_text : Answer → List ℕ
reply_text (Done ids front) = line_of (codes "done" ∷ (flat_map element_words ids ++ at_front front))
reply_text (Refused rule front) = line_of (codes "refused" ∷ rule_word rule ∷ at_front front)
reply_text Unbound = line_of (codes "refused" ∷ codes "Unbound" ∷ [])
reply_text (Stale x read now front) =
    line_of (codes "stale" ∷ (element_words x ++ codes "read" ∷ decimal read ∷ codes "now" ∷ decimal now ∷ at_front front))
reply_text DiskFault = line_of (codes "diskfault" ∷ [])
reply_text Memory = line_of (codes "memory" ∷ [])

-- the lines of some answers
abbrev pub replies_text : List Answer → List ℕ
replies_text answers = flat_map reply_text answers

-- the lines of the tables
abbrev pub next_text : Counters → List ℕ
next_text n = line_of (codes "next" ∷ decimal n.node ∷ decimal n.edge ∷ decimal n.face ∷ decimal n.layer ∷ decimal n.feature ∷ [])

abbrev pub node_text : NodeRow → List ℕ
node_text n = line_of (codes "node" ∷ decimal n.node_id ∷ option_word n.containing_face ∷ point_words n.geom)

abbrev pub edge_words : EdgeRow → List (List ℕ)
edge_words e =
    decimal e.edge_id ∷ decimal e.start_node ∷ decimal e.end_node ∷ dart_word e.next_left_edge ∷ dart_word e.next_right_edge
    ∷ decimal e.left_face ∷ decimal e.right_face ∷ decimal (length e.geom) ∷ []

abbrev pub edge_text : EdgeRow → List ℕ
edge_text e = line_of (codes "edge" ∷ (edge_words e ++ line_words e.geom))

abbrev pub box_words : Option Box4 → List (List ℕ)
box_words None = codes "-" ∷ []
box_words (Some b) = signed_decimal b.min_x ∷ signed_decimal b.min_y ∷ signed_decimal b.max_x ∷ signed_decimal b.max_y ∷ []

abbrev pub face_text : FaceRow → List ℕ
face_text f = line_of (codes "face" ∷ decimal f.face_id ∷ box_words f.mbr)

abbrev pub layer_text : LayerRow → List ℕ
layer_text l =
    line_of (codes "layer" ∷ decimal l.layer_id ∷ decimal l.level ∷ option_word l.child_id ∷ decimal (kind_number l.feature_type) ∷ l.name ∷ [])

abbrev pub feature_text : FeatureRow → List ℕ
feature_text t = line_of (codes "feature" ∷ decimal t.feature_id ∷ decimal t.layer_id ∷ [])

abbrev pub relation_text : RelationRow → List ℕ
relation_text r =
    line_of (codes "relation" ∷ decimal r.topogeo_id ∷ decimal r.layer_id ∷ decimal r.element_id ∷ decimal r.element_type ∷ [])

abbrev pub rows_text : Tables → List ℕ
rows_text t =
    next_text t.next_ids ++ flat_map node_text t.nodes ++ flat_map edge_text t.edges ++ flat_map face_text t.faces
    ++ flat_map layer_text t.layers ++ flat_map feature_text t.features ++ flat_map relation_text t.relations

abbrev pub tables_text : Drawing → List ℕ
tables_text S = rows_text (tables_of S)

-- a feature with the primitive elements to which it descends
abbrev pub type_of_layer : Option LayerRow → ℕ
type_of_layer None = 0
type_of_layer (Some l) = kind_number l.feature_type

abbrev pub number_words : List ℕ → List (List ℕ)
number_words [] = []
number_words (n ∷ ns) = decimal n ∷ number_words ns

abbrev pub descent_text : Drawing → FeatureRow → List ℕ
descent_text S t =
    line_of (codes "feature" ∷ decimal t.feature_id ∷ decimal t.layer_id ∷ decimal (type_of_layer (layer_at S t.layer_id))
    ∷ decimal (length (elements_of S t.feature_id)) ∷ number_words (elements_of S t.feature_id))

abbrev pub features_text : Drawing → List ℕ
features_text S = flat_map (descent_text S) S.features

-- the history, numbered from 1
abbrev pub entry_text : ℕ → Entry → List ℕ
entry_text n x = line_of (codes "entry" ∷ decimal n ∷ codes "editor" ∷ decimal x.editor ∷ edit_words x.edit)

abbrev pub entries_text : ℕ → List Entry → List ℕ
entries_text n [] = []
entries_text n (x ∷ xs) = entry_text n x ++ entries_text (n + 1) xs

abbrev pub history_text : List Entry → List ℕ
history_text history = entries_text 1 history
